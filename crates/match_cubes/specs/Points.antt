-- The values that sets, groups and ports stand for.
use Rattle.std.specs.Prelude.{ℕ, if◌then◌else◌, ◌==◌, nat_eq, List, [], ◌∷◌, map, flat_map, Option, Some, None, unwrap_or}
use Rattle.std.specs.Map.{lookup}
use Rattle.std.specs.Cmp.Lexicographic.{pointwise}
use Rattle.ovn_base.specs.addresses.EtherAddress.{mac_number}
use Rattle.ovn_base.specs.declared.ports.Ports.{Ports}
use Rattle.inet_packet.specs.declared.cube.Bits.{Bits}
use Rattle.match_language.specs.declared.expr.Value.{Value}
use Rattle.match_language.specs.declared.expr.Value.TheVariants as v
use Rattle.match_language.specs.declared.field.Field.{Field}
use Rattle.match_language.specs.Constants.{prefix_mask}
use Rattle.ovn_base.specs.declared.address.SetEntry.{SetEntry}
use Rattle.ovn_base.specs.declared.address.SetEntry.TheVariants as entry
use Rattle.match_cubes.specs.declared.sets.Sets.{Sets}
use Rattle.match_cubes.specs.Ternary.{under}
use Rattle.match_cubes.specs.Asked.{bit_width}

-- the entries of each address set, and the ports of each group
pub record Members : Type 0 where
  pub entries : List ℕ → List SetEntry
  pub ports : List ℕ → List (List ℕ)

-- and the key of each live port of the datapath
pub record Setting : Type 0 where
  pub members : Members
  pub key : List ℕ → Option ℕ

-- what stands at the name, first of all
unfoldable pub named : {A : Type 0} → List (List ℕ × A) → List ℕ → Option A
named entries text = lookup (λ name. pointwise nat_eq name text) entries

-- what the names stand for by these lists; a name that is not there stands for nothing
abbrev pub members_of : Sets → Members
members_of s = record { entries = λ name. unwrap_or (named s.addresses name) []; ports = λ name. unwrap_or (named s.groups name) [] }

abbrev pub setting : Sets → Ports → Setting
setting s p = record { members = members_of s; key = named p.list }

-- the entry as a value of the field, if it is an address of the field's kind
abbrev pub entry_bits : Field → SetEntry → Option Bits
entry_bits f (entry.Ip c) = if bit_width f == 32 then Some (under c.addr.0 (prefix_mask c.len)) else None
entry_bits f (entry.Ether m) = if bit_width f == 48 then Some (under (mac_number m) 0xffff_ffff_ffff) else None

-- the port of this key, if it is live
abbrev pub key_bits : Option ℕ → Option Bits
key_bits (Some k) = Some (under k 0xffff)
key_bits None = None

abbrev pub port_bits : Setting → List ℕ → Option Bits
port_bits s text = key_bits (s.key text)

-- the values for which one value of the text stands: None for a port that is not live, and for an address of the other kind
abbrev pub points_of : Setting → Field → Value → List (Option Bits)
points_of s f (v.Number n m) = Some (under n m) ∷ []
points_of s f (v.Port text) = port_bits s text ∷ []
points_of s f (v.Set name) = map (entry_bits f) (s.members.entries name)
points_of s f (v.Group name) = map (port_bits s) (s.members.ports name)

unfoldable pub points : Setting → Field → List Value → List (Option Bits)
points s f vs = flat_map (points_of s f) vs
