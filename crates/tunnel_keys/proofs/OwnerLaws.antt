-- Owners in lists, and an edit's owners.
use Rattle.std.specs.Prelude.{◌≡◌, ◌≢◌, Bool, true, false, cond, not, List, [], ◌∷◌, Option, Some, None, refl}
use mathlib.Core.Path.{sym, ap, subst, ◌∙◌}
use mathlib.Core.Logic.{inl, inr}
use Rattle.std.specs.List.{cons_option, filter}
use Rattle.std.proofs.lemmas.Bool.{true≢false}
use Rattle.std.proofs.lemmas.Option.{none-some, same_Some}
use Rattle.ovn_base.specs.lists.Among.{Among, here, there}
use Rattle.ovn_base.proofs.AmongLaws.{among_cases, among_none, among_any, any_among, filter_map_among, among_filter_map}
use Rattle.ovn_base.specs.declared.name.Name.{Name}
use Rattle.ovn_base.specs.declared.address.Birth.{Birth}
use Rattle.ovn_base.specs.names.SameName.{same_name}
use Rattle.ovn_base.specs.lists.Once.{EachOnce}
use Rattle.tunnel_keys.specs.Same.{same_owner, owner_exact, owner_own, name_exact, name_own}
use Rattle.tunnel_keys.specs.Owners.{is_listed, as_datapath, as_port_of, datapaths_in, ports_in}
use Rattle.tunnel_keys.specs.declared.owner.KeyOwner.{KeyOwner}
use Rattle.tunnel_keys.specs.declared.owner.KeyOwner.TheVariants.{Datapath, Port}
use Rattle.tunnel_keys.proofs.Lists.{NamesOnce}
use Rattle.tunnel_keys.proofs.FreeKeys.{not_true}

-- ---- one owner

abbrev is_port : KeyOwner → Bool
is_port (Datapath name birth) = false
is_port (Port datapath name birth) = true

pub not_port : (a : Name) (b : Birth) (d q : Name) (c : Birth) → Datapath a b ≢ Port d q c
not_port a b d q c e = true≢false (sym (ap is_port e))

pub the_one : {X : Type 0} (x y : X) → Among x (y ∷ []) → x ≡ y
the_one x y m = elim (among_cases x y [] m) [ inl e ↦ e | inr n ↦ absurd (among_none x n) ]

-- ---- the test

pub listed_among : (owners : List KeyOwner) (owner : KeyOwner) → is_listed owners owner ≡ true → Among owner owners
listed_among owners owner h =
    let r = any_among (λ o. same_owner o owner) owners h in
    subst (λ o. Among o owners) (owner_exact r.0 owner r.2) r.1

pub among_listed : (owners : List KeyOwner) (owner : KeyOwner) → Among owner owners → is_listed owners owner ≡ true
among_listed owners owner m = among_any (λ o. same_owner o owner) owner owners m (owner_own owner)

pub unlisted_not : (owners : List KeyOwner) (owner : KeyOwner) → not (is_listed owners owner) ≡ true → ¬ Among owner owners
unlisted_not owners owner h m = true≢false (sym (among_listed owners owner m) ∙ not_true (is_listed owners owner) h)

pub not_unlisted : (owners : List KeyOwner) (owner : KeyOwner) → (¬ Among owner owners) → not (is_listed owners owner) ≡ true
not_unlisted owners owner n = by (is_listed owners owner) refl
  where
    by : (b : Bool) → is_listed owners owner ≡ b → not b ≡ true
    by true e = absurd (n (listed_among owners owner e))
    by false e = refl

-- where nobody is listed all pass, and none
pub all_unlisted : {X : Type 0} (owner : X → KeyOwner) (owners : List KeyOwner) → owners ≡ [] → (xs : List X) → filter (λ x. not (is_listed owners (owner x))) xs ≡ xs
all_unlisted owner owners none [] = refl
all_unlisted owner owners none (x ∷ xs) = (λ i. cond (not (is_listed (none i) (owner x))) (x ∷ all_unlisted owner owners none xs i) (all_unlisted owner owners none xs i))

pub none_listed : {X : Type 0} (owner : X → KeyOwner) (owners : List KeyOwner) → owners ≡ [] → (xs : List X) → filter (λ x. is_listed owners (owner x)) xs ≡ []
none_listed owner owners none [] = refl
none_listed owner owners none (x ∷ xs) = (λ i. cond (is_listed (none i) (owner x)) (x ∷ none_listed owner owners none xs i) (none_listed owner owners none xs i))

-- ---- datapaths

datapath_exact : (n : Name) (b : Birth) (o : KeyOwner) → as_datapath o ≡ Some (n, b) → o ≡ Datapath n b
datapath_exact n b (Datapath m c) e = let p : (m, c) ≡ (n, b) = same_Some (m, c) (n, b) e in ap (λ (q : Name × Birth). Datapath q.0 q.1) p
datapath_exact n b (Port d m c) e = absurd (none-some (n, b) e)

pub in_datapaths : (owners : List KeyOwner) (n : Name) (b : Birth) → Among (n, b) (datapaths_in owners) → Among (Datapath n b) owners
in_datapaths owners n b m =
    let r = filter_map_among as_datapath (n, b) owners m in
    subst (λ o. Among o owners) (datapath_exact n b r.0 r.2) r.1

pub datapaths_have : (owners : List KeyOwner) (n : Name) (b : Birth) → Among (Datapath n b) owners → Among (n, b) (datapaths_in owners)
datapaths_have owners n b m = among_filter_map as_datapath (Datapath n b) (n, b) owners m refl

pub datapaths_once : (owners : List KeyOwner) → EachOnce owners → ((n : Name) (b c : Birth) → Among (Datapath n b) owners → Among (Datapath n c) owners → b ≡ c) → NamesOnce (datapaths_in owners)
datapaths_once [] once one = tt
datapaths_once (Port d n b ∷ os) once one = datapaths_once os once.1 (λ m a c p q. one m a c (there p) (there q))
datapaths_once (Datapath n b ∷ os) once one = (
  (λ f m same.
      let later : Among (Datapath f.0 f.1) os = in_datapaths os f.0 f.1 m in
      let named : Among (Datapath n f.1) os = subst (λ k. Among (Datapath k f.1) os) same later in
      let birth : f.1 ≡ b = one n f.1 b (there named) here in
      once.0 (subst (λ c. Among (Datapath n c) os) birth named)),
  datapaths_once os once.1 (λ m a c p q. one m a c (there p) (there q)),
)

-- ---- ports

port_exact : (d n : Name) (b : Birth) (o : KeyOwner) → as_port_of d o ≡ Some (n, b) → o ≡ Port d n b
port_exact d n b (Datapath m c) e = absurd (none-some (n, b) e)
port_exact d n b (Port f m c) e = by (same_name d f) refl e
  where
    by : (t : Bool) → same_name d f ≡ t → cond {A = Option (Name × Birth)} t (Some (m, c)) None ≡ Some (n, b) → Port f m c ≡ Port d n b
    by true s g =
        let p : (m, c) ≡ (n, b) = same_Some (m, c) (n, b) g in
        let q : d ≡ f = name_exact d f s in
        λ i. Port (sym q i) (p i).0 (p i).1
    by false s g = absurd (none-some (n, b) g)

pub in_ports : (owners : List KeyOwner) (d n : Name) (b : Birth) → Among (n, b) (ports_in d owners) → Among (Port d n b) owners
in_ports owners d n b m =
    let r = filter_map_among (as_port_of d) (n, b) owners m in
    subst (λ o. Among o owners) (port_exact d n b r.0 r.2) r.1

pub ports_have : (owners : List KeyOwner) (d n : Name) (b : Birth) → Among (Port d n b) owners → Among (n, b) (ports_in d owners)
ports_have owners d n b m = among_filter_map (as_port_of d) (Port d n b) (n, b) owners m (ap (λ t. cond {A = Option (Name × Birth)} t (Some (n, b)) None) (name_own d))

pub ports_once : (d : Name) (owners : List KeyOwner) → EachOnce owners → ((n : Name) (b c : Birth) → Among (Port d n b) owners → Among (Port d n c) owners → b ≡ c) → NamesOnce (ports_in d owners)
ports_once d [] once one = tt
ports_once d (Datapath n b ∷ os) once one = ports_once d os once.1 (λ m a c p q. one m a c (there p) (there q))
ports_once d (Port f n b ∷ os) once one = by (same_name d f) refl (ports_once d os once.1 (λ m a c p q. one m a c (there p) (there q)))
  where
    first : d ≡ f → (g : Name × Birth) → Among g (ports_in d os) → g.0 ≢ n
    first on g m same =
        let later : Among (Port d g.0 g.1) os = in_ports os d g.0 g.1 m in
        let named : Among (Port d n g.1) os = subst (λ k. Among (Port d k g.1) os) same later in
        let own : Among (Port d n b) (Port f n b ∷ os) = subst (λ e. Among (Port e n b) (Port f n b ∷ os)) (sym on) here in
        let birth : g.1 ≡ b = one n g.1 b (there named) own in
        once.0 (subst (λ e. Among (Port e n b) os) on (subst (λ c. Among (Port d n c) os) birth named))

    by : (t : Bool) → same_name d f ≡ t → NamesOnce (ports_in d os) → NamesOnce (cons_option (cond {A = Option (Name × Birth)} t (Some (n, b)) None) (ports_in d os))
    by true s ih = (first (name_exact d f s), ih)
    by false s ih = ih
