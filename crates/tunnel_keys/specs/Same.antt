-- Owners are the same exactly where they test equal.
use Rattle.std.specs.Prelude.{◌≡◌, Bool, true, false, ◌&&◌, refl}
use Rattle.std.specs.Bool.{Decides}
use Rattle.std.specs.Cmp.{IsEquivalence, first_so, second_so}
use Rattle.std.proofs.Math.Dec.{eqb as nat_eq}
use Rattle.std.proofs.lemmas.Bool.{false≢true}
use Rattle.std.proofs.lemmas.Bool.Decides.{Decides-eqb}
use mathlib.Core.Path.{ap, subst, ◌∙◌}
use Rattle.ovn_base.specs.names.SameName.{same_name, bytes_decides}
use Rattle.ovn_base.specs.lists.ByCode.{equiv_from_decides}
use Rattle.ovn_base.specs.declared.name.Name.{Name}
use Rattle.ovn_base.specs.declared.address.Birth.{Birth}
use Rattle.tunnel_keys.specs.declared.owner.Identity.{Identity}
use Rattle.tunnel_keys.specs.declared.owner.KeyOwner.{KeyOwner}
use Rattle.tunnel_keys.specs.declared.owner.KeyOwner.TheVariants.{Datapath, Port}

-- the same birth
abbrev pub same_birth : Birth → Birth → Bool
same_birth a b = nat_eq a.0 b.0

-- the same record: its name, and the event that added it
abbrev pub same_identity : Identity → Identity → Bool
same_identity a b = same_name a.name b.name && same_birth a.birth b.birth

-- the same owner
abbrev pub same_owner : KeyOwner → KeyOwner → Bool
same_owner (Datapath n b) (Datapath m c) = same_name n m && same_birth b c
same_owner (Port d n b) (Port e m c) = (same_name d e && same_name n m) && same_birth b c
same_owner (Datapath n b) (Port e m c) = false
same_owner (Port d n b) (Datapath m c) = false

pub name_exact : (a b : Name) → same_name a b ≡ true → a ≡ b
name_exact a b h = (bytes_decides a b).0 h

pub name_own : (a : Name) → same_name a a ≡ true
name_own a = (bytes_decides a a).1 refl

pub birth_exact : (a b : Birth) → same_birth a b ≡ true → a ≡ b
birth_exact a b h = let e = (Decides-eqb a.0 b.0).0 h in λ i. record { 0 = e i }

pub birth_own : (a : Birth) → same_birth a a ≡ true
birth_own a = (Decides-eqb a.0 a.0).1 refl

both : (a b : Bool) → a ≡ true → b ≡ true → (a && b) ≡ true
both a b h k = ap (λ (x : Bool). x && b) h ∙ k

pub identity_exact : (a b : Identity) → same_identity a b ≡ true → a ≡ b
identity_exact a b h =
    let n = name_exact a.name b.name (first_so (same_name a.name b.name) (same_birth a.birth b.birth) h) in
    let e = birth_exact a.birth b.birth (second_so (same_name a.name b.name) (same_birth a.birth b.birth) h) in
    λ i. record { name = n i; birth = e i }

pub identity_own : (a : Identity) → same_identity a a ≡ true
identity_own a = both (same_name a.name a.name) (same_birth a.birth a.birth) (name_own a.name) (birth_own a.birth)

pub owner_exact : (a b : KeyOwner) → same_owner a b ≡ true → a ≡ b
owner_exact (Datapath n b) (Datapath m c) h =
    let p = name_exact n m (first_so (same_name n m) (same_birth b c) h) in
    let q = birth_exact b c (second_so (same_name n m) (same_birth b c) h) in
    λ i. Datapath (p i) (q i)
owner_exact (Port d n b) (Port e m c) h =
    let names = first_so (same_name d e && same_name n m) (same_birth b c) h in
    let o = name_exact d e (first_so (same_name d e) (same_name n m) names) in
    let p = name_exact n m (second_so (same_name d e) (same_name n m) names) in
    let q = birth_exact b c (second_so (same_name d e && same_name n m) (same_birth b c) h) in
    λ i. Port (o i) (p i) (q i)
owner_exact (Datapath n b) (Port e m c) h = absurd (false≢true h)
owner_exact (Port d n b) (Datapath m c) h = absurd (false≢true h)

pub owner_own : (a : KeyOwner) → same_owner a a ≡ true
owner_own (Datapath n b) = both (same_name n n) (same_birth b b) (name_own n) (birth_own b)
owner_own (Port d n b) = both (same_name d d && same_name n n) (same_birth b b) (both (same_name d d) (same_name n n) (name_own d) (name_own n)) (birth_own b)

pub owner_decides : (a b : KeyOwner) → Decides (same_owner a b) (a ≡ b)
owner_decides a b = (owner_exact a b, λ e. subst (λ o. same_owner a o ≡ true) e (owner_own a))

pub same_owner_equiv : IsEquivalence same_owner
same_owner_equiv = equiv_from_decides same_owner owner_decides
