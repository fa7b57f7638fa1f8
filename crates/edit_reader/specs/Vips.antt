-- The virtual addresses of a balancer: an object from IP:PORT to backends with a comma between.
use Rattle.std.specs.Prelude.{ℕ, ◌==◌, List, [], ◌∷◌, length, position, unwrap_or, Option, Some, option_and_then, Ok}
use Rattle.std.specs.List.{insert, slice_split}
use Rattle.std.specs.Ordering.{is_lt}
use Rattle.serde_json.specs.Data.{Data, Members, no_members, member}
use Rattle.serde_json.specs.Find.{as_object}
use Rattle.ovn_base.specs.declared.address.Backend.{Backend}
use Rattle.nb_records.specs.Network.{backend_cmp}
use Rattle.nb_records.specs.declared.balancer.Vip.{Vip}
use Rattle.edit_reader.specs.Outcomes.{Read, ◌>>=◌, of_kind, in_range}
use Rattle.edit_reader.specs.Fields.{text_in, each_by}
use Rattle.edit_reader.specs.Grammars.{spelled_backend}

-- the names and texts of an object, all of whose values are texts
abbrev pub member_texts : List ℕ → Members → Read (List (List ℕ × List ℕ))
member_texts field no_members = Ok []
member_texts field (member k d ms) = text_in field d >>= λ s. member_texts field ms >>= λ ss. Ok ((k, s) ∷ ss)

-- backends with a comma between; there may be none
unfoldable pub spelled_backends : List ℕ → Option (List Backend)
spelled_backends [] = Some []
spelled_backends (b ∷ text) = each_by spelled_backend (slice_split (λ c. c == 44) (b ∷ text))

unfoldable pub vip_of : List ℕ × List ℕ → Option Vip
vip_of m = option_and_then (λ at. option_and_then (λ backends. Some (record { at = at; backends = backends })) (spelled_backends m.1)) (spelled_backend m.0)

-- where the vip stands in order of address and port: before the first that is greater
abbrev pub place_among : Vip → List Vip → ℕ
place_among vip vips = unwrap_or (position (λ v. is_lt (backend_cmp vip.at v.at)) vips) (length vips)

abbrev pub placed : Vip → List Vip → List Vip
placed vip vips = insert vips (place_among vip vips) vip

-- the vips, each put in its place among those before it
abbrev pub vips_by : List Vip → List (List ℕ × List ℕ) → Option (List Vip)
vips_by vips [] = Some vips
vips_by vips (m ∷ ms) = option_and_then (λ vip. vips_by (placed vip vips) ms) (vip_of m)

-- first each value is a text, then each name and text is in the grammar
unfoldable pub vips_in : List ℕ → Data → Read (List Vip)
vips_in field d = do
  members ← of_kind field (as_object d)
  texts ← member_texts field members
  in_range field (vips_by [] texts)
