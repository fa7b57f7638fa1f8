-- A change of few names fits the homes of a register, and keeps what the register knows.
use Rattle.std.specs.Prelude.{◌≡◌, ◌≢◌, ◌≤◌, ◌+◌, ℕ, true, not, List, [], ◌∷◌, Option, length, map}
use mathlib.Core.Path.{sym, ap, subst, ◌∙◌}
use mathlib.Core.Logic.{inl, inr}
use native.Mathlib.Omega.{arith}
use Rattle.std.proofs.lemmas.Bool.{false≢true}
use Rattle.ovn_base.specs.declared.name.Name.{Name}
use Rattle.ovn_base.specs.lists.Once.{EachOnce}
use Rattle.ovn_base.specs.names.SameName.{bytes_decides}
use Rattle.ovn_base.proofs.AmongLaws.{among_cases, among_none}
use Rattle.conn_zones.specs.declared.change.HomeChange.{HomeChange}
use Rattle.conn_zones.specs.declared.numbers.TheConstants.{MAX_ZONE}
use Rattle.conn_zones.specs.Zoning.{KnownHomes, Zoned}
use Rattle.conn_zones.specs.Rezoning.{IsHomeChange, IsRehomed, IsRezoned, IsZonePatchFor}
use Rattle.conn_zones.proofs.ForCallers.{few_change, few_homes}
use Rattle.zone_tests.specs.Register.{are_few, IsRegister}

-- few names stand once each
few_once : (l : List (Name × Option Name)) → are_few l ≡ true → EachOnce (map (λ e. e.0) l)
few_once [] h = tt
few_once (e ∷ []) h = (λ m. among_none e.0 m, tt)
few_once (e ∷ f ∷ []) h =
    let apart : e.0 ≢ f.0 = λ same. false≢true (ap not (sym ((bytes_decides e.0 f.0).1 same)) ∙ h) in (
      λ m. elim (among_cases e.0 f.0 [] m) [ inl same ↦ apart same | inr behind ↦ among_none e.0 behind ],
      (λ m. among_none f.0 m, tt),
    )
few_once (e ∷ f ∷ g ∷ rest) h = absurd (false≢true h)

few_long : (l : List (Name × Option Name)) → are_few l ≡ true → length l ≤ 2
few_long [] h = omega arith
few_long (e ∷ []) h = omega arith
few_long (e ∷ f ∷ []) h = omega arith
few_long (e ∷ f ∷ g ∷ rest) h = absurd (false≢true h)

module _ (homes : KnownHomes) (most : ℕ) (change : HomeChange) (known : IsRegister homes most) (ports : are_few change.ports ≡ true) (routers : are_few change.routers ≡ true) where
  pub change_fits : most + 6 ≤ MAX_ZONE → IsHomeChange homes change
  change_fits room =
      let few = known.few in
      let p = few_long change.ports ports in
      let r = few_long change.routers routers in
      few_change homes change (few_once change.ports ports) (few_once change.routers routers) (omega (arith, few, p, r, room))

  still_few : (after : KnownHomes) → IsRehomed homes change after → IsRegister after (most + 6)
  still_few after h =
      let few = known.few in
      let p = few_long change.ports ports in
      let r = few_long change.routers routers in
      let q = few_homes homes.ports change.ports after.ports h.ports in
      let s = few_homes homes.routers change.routers after.routers h.routers in
      record { few = omega (arith, few, p, r, q, s) }

-- a patch is for what stays as it was
pub patch_fits : (before now patch : Zoned) (change : HomeChange) → now ≡ before → IsHomeChange before.homes change → IsRezoned before change patch → IsZonePatchFor now patch
patch_fits before now patch change same fits rezoned = subst (λ (z : Zoned). IsZonePatchFor z patch) (sym same) (record { change = change; fits = fits; rezoned = rezoned })

-- what is known of the homes afterwards
pub known_after : (before patch now : Zoned) (most : ℕ) (change : HomeChange) → IsRegister before.homes most → are_few change.ports ≡ true → are_few change.routers ≡ true → IsRezoned before change patch → now ≡ patch
    → IsRegister now.homes (most + 6)
known_after before patch now most change known ports routers rezoned same =
    subst (λ (z : Zoned). IsRegister z.homes (most + 6)) (sym same) (still_few before.homes most change known ports routers patch.homes rezoned.homes)
