-- Terms of width 0 that `&&` joins have no cubes, and nothing is unlike a value with no bit that counts.
use Rattle.std.specs.Prelude.{◌≡◌, ◌≤◌, ℕ, Bool, true, List, [], ◌∷◌, map, length, ◌⊎◌, ◌%◌, ◌^◌, ◌==◌, count_ones, Option, Some, None}
use Rattle.std.specs.List.{list_any}
use Rattle.std.specs.Int.Count.{ones-ones}
use Rattle.std.proofs.Common.{refl, sym, ap, ◌∙◌, arith, inl, inr}
use Rattle.std.proofs.lemmas.Bool.{eqb-true, or_cases, false≢true}
use Rattle.inet_packet.specs.declared.cube.Bits.{Bits}
use Rattle.std.proofs.lemmas.List.{nil_from_length}
use Rattle.match_language.specs.declared.expr.Expr.{Expr}
use Rattle.match_cubes.specs.Ternary.{turned_bits, meet_bits, meets}
use Rattle.match_cubes.specs.Asked.{all_packets}
use Rattle.match_cubes.specs.Points.{Setting}
use Rattle.match_cubes.specs.Cubes.{other, unlike, meets_with, cubes_in}
use Rattle.match_cubes.specs.Width.{product, width_in, saturated}
use Rattle.match_cubes.specs.Steps.{asks_nothing, joined_in, width_joined}
use Rattle.match_cubes.proofs.Relations.{Zips, zips_none, zips_more}
use Rattle.match_cubes.proofs.WidthLaws.{Few, few_every, cubes_few}
use Rattle.match_cubes.proofs.Joins.{join_every}
use Rattle.match_cubes.proofs.TernaryLaws.{turned_length}

terms_few : (s : Setting) (positive : Bool) (es : List Expr) → Zips Few (map (λ e. cubes_in s e positive) es) (map (λ e. width_in s.members e positive) es)
terms_few s positive [] = zips_none
terms_few s positive (e ∷ es) =
    zips_more (cubes_in s e positive) (width_in s.members e positive) (map (λ x. cubes_in s x positive) es) (map (λ x. width_in s.members x positive) es) (cubes_few s e positive) (terms_few s positive es)

none_from : (s : Setting) (positive : Bool) (es : List Expr) → width_joined s.members true positive es ≡ 0 → joined_in s true positive es ≡ []
unfolding joined_in width_joined
none_from s positive es h =
    let cs = map (λ (e : Expr). cubes_in s e positive) es in
    let ns = map (λ (e : Expr). width_in s.members e positive) es in
    let few : length (meets_with (all_packets ∷ []) cs) ≤ product ns = few_every cs ns (terms_few s positive es) in
    sym (join_every (all_packets ∷ []) cs) ∙ nil_from_length (meets_with (all_packets ∷ []) cs) (omega (arith, few, h))

zero_saturated : (n : ℕ) → 0 ≡ saturated n → n ≡ 0
zero_saturated n h = omega arith

pub joined_none : (s : Setting) (positive : Bool) (es : List Expr) → 0 ≡ saturated (width_joined s.members true positive es) → [] ≡ joined_in s true positive es
joined_none s positive es h = sym (none_from s positive es (zero_saturated (width_joined s.members true positive es) h))

-- ---- values with no bit that counts

mod_of_zero : (m : ℕ) → 0 % m ≡ 0
mod_of_zero m = omega arith

no_bits : (w : ℕ) (b : Bits) → (b.mask == 0) ≡ true → turned_bits w b ≡ []
no_bits w b h =
    let e : count_ones (b.mask % 2 ^ w) ≡ count_ones (0 % 2 ^ w) = ap (λ (m : ℕ). count_ones (m % 2 ^ w)) (eqb-true b.mask 0 h) in
    let z : 0 % 2 ^ w ≡ 0 = omega (arith, mod_of_zero (2 ^ w)) in
    nil_from_length (turned_bits w b) (turned_length w b ∙ e ∙ ap count_ones z ∙ ones-ones 0)

meets_nothing : (bs : List Bits) → meets meet_bits bs [] ≡ []
unfolding meets
meets_nothing [] = refl
meets_nothing (b ∷ bs) = meets_nothing bs

unlike_nothing : (w : ℕ) (ps : List (Option Bits)) → unlike w [] ps ≡ []
unfolding unlike meets
unlike_nothing w [] = refl
unlike_nothing w (p ∷ ps) = unlike_nothing w ps

unlike_by : (w : ℕ) (bs : List Bits) (p : Option Bits) (ps : List (Option Bits)) → (asks_nothing p ≡ true) ⊎ (list_any asks_nothing ps ≡ true) → (list_any asks_nothing ps ≡ true → (cs : List Bits) → unlike w cs ps ≡ []) → unlike w bs (p ∷ ps) ≡ []
unfolding unlike
unlike_by w bs (Some b) ps (inl h) rest = ap (λ (xs : List Bits). unlike w (meets meet_bits bs xs) ps) (no_bits w b h) ∙ ap (λ (xs : List Bits). unlike w xs ps) (meets_nothing bs) ∙ unlike_nothing w ps
unlike_by w bs None ps (inl h) rest = absurd (false≢true h)
unlike_by w bs p ps (inr h) rest = rest h (meets meet_bits bs (other w p))

unlike_none : (w : ℕ) (ps : List (Option Bits)) → list_any asks_nothing ps ≡ true → (bs : List Bits) → unlike w bs ps ≡ []
unlike_none w [] h bs = absurd (false≢true h)
unlike_none w (p ∷ ps) h bs = unlike_by w bs p ps (or_cases (asks_nothing p) (list_any asks_nothing ps) h) (unlike_none w ps)

pub nothing_unlike : (w : ℕ) (bs : List Bits) (ps : List (Option Bits)) → true ≡ list_any asks_nothing ps → [] ≡ unlike w bs ps
nothing_unlike w bs ps h = sym (unlike_none w ps (sym h) bs)
