-- Matches whose values stand with their fields, and packets whose numbers lie within their fields.
use Rattle.std.specs.Prelude.{◌≡◌, ◌<◌, ◌^◌, Bool, true, false, not, ◌&&◌, nat_lt}
use Rattle.std.specs.List.{list_all}
use Rattle.inet_packet.specs.declared.packet.Packet.{Packet}
use Rattle.inet_packet.specs.declared.regs.Regs.{Regs}
use Rattle.match_language.specs.declared.expr.Expr.{Expr}
use Rattle.match_language.specs.declared.expr.Value.{Value}
use Rattle.match_language.specs.declared.expr.Value.TheVariants as v
use Rattle.match_language.specs.declared.field.Field.{Field}
use Rattle.match_language.specs.Tables.{is_port_field}
use Rattle.match_cubes.specs.Asked.{number_in, bit_width}
use Rattle.match_cubes.specs.Inwards.{are_all}

-- The value is one for the field: strings and groups stand with ports, numbers with other fields, and neither number nor mask has
-- a bit that the field does not have.
abbrev pub suits : Field → Value → Bool
suits f (v.Number n m) = not (is_port_field f) && (nat_lt n (2 ^ bit_width f) && nat_lt m (2 ^ bit_width f))
suits f (v.Port text) = is_port_field f
suits f (v.Group name) = is_port_field f
suits f (v.Set name) = true

-- each value of the match, or of its negation, is one for its field
abbrev pub are_suited : Expr → Bool → Bool
are_suited e positive = are_all (λ f rel vs. list_all (suits f) vs) e positive

-- no field of the packet has a number that is wider than the field
pub record HasFieldsInRange (packet : Packet) : Type 0 where
  pub below : (f : Field) (regs : Regs) → is_port_field f ≡ false → number_in f regs packet < 2 ^ bit_width f
