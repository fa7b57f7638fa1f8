-- What keys are called after an edit that removes no owner.
use Rattle.std.specs.Prelude.{◌≡◌, ◌≤◌, ◌⊎◌, ◌&&◌, ℕ, Bool, true, cond, codes, List, [], ◌∷◌, map, Option, Some, option_map, unwrap_or, refl}
use Rattle.std.specs.Cmp.{first_so, second_so}
use Rattle.std.specs.Map.{lookup}
use Rattle.std.proofs.Common.{arith, sym, ap, subst, ◌∙◌, inl, inr}
use Rattle.std.proofs.Math.Dec.{eqb as nat_eq}
use Rattle.std.proofs.lemmas.Bool.{cases_Bool, true≢false}
use Rattle.std.proofs.lemmas.Bool.Decides.{Decides-eqb}
use Rattle.std.proofs.lemmas.Option.{same_Some}
use Rattle.chassis_sim.specs.Changing.{given_name}
use Rattle.chassis_sim.specs.InNames.{name_of}
use Rattle.chassis_sim.specs.Settings.{AreSet, set_in_turn}
use Rattle.chassis_sim.specs.State as sim
use Rattle.chassis_sim.specs.State.{KeyPair, same_pair}
use Rattle.ovn_base.specs.declared.address.Birth.{Birth}
use Rattle.ovn_base.specs.declared.name.Name.{Name}
use Rattle.ovn_base.specs.lists.Among.{Among, here, there}
use Rattle.ovn_base.specs.names.ByName.{at}
use Rattle.ovn_base.proofs.AmongLaws.{among_cases, among_map, among_none, map_among}
use Rattle.ovn_base.proofs.ByNameLaws.{at_among}
use Rattle.nb_records.specs.Network.{Network}
use Rattle.tunnel_keys.specs.Edits.{GivesKeysAfter}
use Rattle.tunnel_keys.specs.Keys.{Keys, IsKeys}
use Rattle.tunnel_keys.specs.declared.owner.DatapathKey.{DatapathKey}
use Rattle.tunnel_keys.specs.declared.owner.KeyOwner.{KeyOwner}
use Rattle.tunnel_keys.specs.declared.owner.KeyOwner.TheVariants.{Datapath, Port}
use Rattle.tunnel_keys.specs.declared.owner.PortKey.{PortKey}
use Rattle.sim_laws.specs.Held.{HaveOwnersNames}
use Rattle.physical_flows.specs.Numbers.{datapath_number, port_number}
use Rattle.physical_flows.specs.RecordKeys.{HaveKeys}
use Rattle.physical_flows.proofs.FlowSearch.{some_of}
use Rattle.physical_flows.proofs.KeyLaws.{datapaths_apart, port_fits, ports_apart}

-- ---- names that are given

-- a pair of keys with its name, at port key 0 that of the datapath itself
abbrev pub NamedKey : Type 0
NamedKey = ℕ × ℕ × Name

pair_exact : (a b : KeyPair) → same_pair a b ≡ true → (a.0 ≡ b.0) × (a.1 ≡ b.1)
pair_exact a b same = ((Decides-eqb a.0 b.0).0 (first_so (nat_eq a.0 b.0) (nat_eq a.1 b.1) same), (Decides-eqb a.1 b.1).0 (second_so (nat_eq a.0 b.0) (nat_eq a.1 b.1) same))

pair_same : (a b : KeyPair) → a.0 ≡ b.0 → a.1 ≡ b.1 → same_pair a b ≡ true
pair_same a b e f = ap (λ (t : Bool). t && nat_eq a.1 b.1) ((Decides-eqb a.0 b.0).1 e) ∙ (Decides-eqb a.1 b.1).1 f

-- the name is the one of an entry for the pair
pub record IsGiven (names : List NamedKey) (vni port : ℕ) (name : Option Name) : Type 0 where
  pub entry : NamedKey
  pub listed : Among entry names
  pub vni_is : entry.0 ≡ vni
  pub port_is : entry.1 ≡ port
  pub name_is : name ≡ Some entry.2

-- no entry is for the pair
abbrev pub IsNoneFor : List NamedKey → ℕ → ℕ → Type 0
IsNoneFor names vni port = (e : NamedKey) → Among e names → e.0 ≡ vni → e.1 ≡ port → ⊥

module _ (vni port : ℕ) where
  abbrev set_to : List NamedKey → Option Name → Option Name
  set_to names had = set_in_turn same_pair (map given_name names) (vni, port) had

  -- a pair has the name of an entry for it, or what it had where there is none
  set_cases : (names : List NamedKey) (had : Option Name) → IsGiven names vni port (set_to names had) ⊎ (IsNoneFor names vni port × (set_to names had ≡ had))
  set_cases [] had = inr (λ e m. absurd (among_none e m), refl)
  set_cases (n ∷ ns) had = elim (set_cases ns (cond (same_pair (n.0, n.1) (vni, port)) (Some n.2) had)) [
    | inl later ↦ inl (record { entry = later.entry; listed = there later.listed; vni_is = later.vni_is; port_is = later.port_is; name_is = later.name_is })
    | inr none ↦ elim (cases_Bool (same_pair (n.0, n.1) (vni, port))) [
      | inl same ↦
          let parts = pair_exact (n.0, n.1) (vni, port) same in
          inl (record { entry = n; listed = here; vni_is = parts.0; port_is = parts.1; name_is = none.1 ∙ ap (λ b. cond b (Some n.2) had) same })
      | inr other ↦ inr (
        (λ e m v p. elim (among_cases e n ns m) [
          | inl first ↦ true≢false (sym (pair_same (n.0, n.1) (vni, port) (ap (λ (x : NamedKey). x.0) (sym first) ∙ v) (ap (λ (x : NamedKey). x.1) (sym first) ∙ p)) ∙ other)
          | inr rest ↦ none.0 e rest v p
        ]),
        none.1 ∙ ap (λ b. cond b (Some n.2) had) other,
      )
    ]
  ]

-- ---- names of keys

-- the entry is for a live key, and has its owner's name
pub data IsNameOf (keys : Keys) (e : NamedKey) : Type 0 where
  of_datapath : (k : DatapathKey) → at keys.datapaths e.2 ≡ Some k → e.0 ≡ k.key → e.1 ≡ 0 → IsNameOf keys e
  of_port : (p : PortKey) (k : DatapathKey) → at keys.ports e.2 ≡ Some p → at keys.datapaths p.datapath ≡ Some k → e.0 ≡ k.key → e.1 ≡ p.key → IsNameOf keys e

-- each added owner's name is listed for its key, and each name is one of a live key
pub record AreNamesOf (keys : Keys) (added : List KeyOwner) (names : List NamedKey) : Type 0 where
  pub datapaths : (a : Name) (birth : Birth) (k : DatapathKey) → Among (Datapath a birth) added → at keys.datapaths a ≡ Some k → Among (k.key, 0, a) names
  pub ports : (d q : Name) (birth : Birth) (p : PortKey) (k : DatapathKey) → Among (Port d q birth) added → at keys.ports q ≡ Some p → at keys.datapaths d ≡ Some k → Among (k.key, p.key, q) names
  pub owned : (e : NamedKey) → Among e names → IsNameOf keys e

module _ (next : Network) (keys after : Keys) (added : List KeyOwner) (names : List NamedKey) (old new : sim.SimState) (hold : IsKeys keys) (also : HaveKeys next after)
    (gives : GivesKeysAfter keys added after) (are : AreNamesOf after added names) (set : AreSet same_pair (map given_name names) old.names new.names) (named : HaveOwnersNames keys old) where
  -- a pair is called as an entry for it says, or as before
  called : (vni port : ℕ) (name : Name) → ((e : NamedKey) → Among e names → e.0 ≡ vni → e.1 ≡ port → e.2 ≡ name) → (IsNoneFor names vni port → name_of old.names vni port ≡ name) → name_of new.names vni port ≡ name
  called vni port name so before = elim (set_cases vni port names (lookup (same_pair (vni, port)) old.names)) [
    | inl is ↦ ap (λ o. unwrap_or o (codes "-")) (set (vni, port) ∙ is.name_is) ∙ so is.entry is.listed is.vni_is is.port_is
    | inr none ↦ ap (λ o. unwrap_or o (codes "-")) (set (vni, port) ∙ none.1) ∙ before none.0
  ]

  -- ---- datapaths

  datapath_so : (a : Name) (k : DatapathKey) → at after.datapaths a ≡ Some k → (e : NamedKey) → e.0 ≡ k.key → e.1 ≡ 0 → IsNameOf after e → e.2 ≡ a
  datapath_so a k has e v z (of_datapath j at_e key port) = datapaths_apart next after also e.2 a j k at_e has (sym key ∙ v)
  datapath_so a k has e v z (of_port p j at_e on key port) = let low : 1 ≤ p.key = (port_fits next after also e.2 p at_e).0 in absurd (omega (arith, low, port, z))

  datapath_before : (a : Name) (k : DatapathKey) → at after.datapaths a ≡ Some k → IsNoneFor names k.key 0 → name_of old.names k.key 0 ≡ a
  datapath_before a k has none = elim (gives.datapath_cases a k has) [
    | inl was ↦ named.datapaths a k was
    | inr comes ↦ absurd (none (k.key, 0, a) (are.datapaths a k.birth k comes has) refl refl)
  ]

  -- ---- ports

  port_so : (q : Name) (p : PortKey) (k : DatapathKey) → at after.ports q ≡ Some p → at after.datapaths p.datapath ≡ Some k → (e : NamedKey) → e.0 ≡ k.key → e.1 ≡ p.key → IsNameOf after e → e.2 ≡ q
  port_so q p k has on e v o (of_datapath j at_e key port) = let low : 1 ≤ p.key = (port_fits next after also q p has).0 in absurd (omega (arith, low, port, o))
  port_so q p k has on e v o (of_port r j at_e under key port) =
      let together : r.datapath ≡ p.datapath = datapaths_apart next after also r.datapath p.datapath j k under on (sym key ∙ v) in
      ports_apart next after also e.2 q r p at_e has together (sym port ∙ o)

  port_before : (q : Name) (p : PortKey) (k : DatapathKey) → at after.ports q ≡ Some p → at after.datapaths p.datapath ≡ Some k → IsNoneFor names k.key p.key → name_of old.names k.key p.key ≡ q
  port_before q p k has on none = elim (gives.port_cases q p has) [
    | inl was ↦
        let under = some_of (at keys.datapaths p.datapath) (hold.on_datapath (q, p) (at_among keys.ports q p was)) in
        let same : under.0 ≡ k = same_Some under.0 k (sym (gives.datapath_kept p.datapath under.0 under.1) ∙ on) in
        named.ports q p k was (under.1 ∙ ap (λ x. Some x) same)
    | inr comes ↦ absurd (none (k.key, p.key, q) (are.ports p.datapath q p.birth p k comes has on) refl refl)
  ]

  -- each live key has its owner's name again
  pub names_set : HaveOwnersNames after new
  names_set = record {
    datapaths = λ a k has. called k.key 0 a (λ e m v z. datapath_so a k has e v z (are.owned e m)) (datapath_before a k has);
    ports = λ q p k has on. called k.key p.key q (λ e m v o. port_so q p k has on e v o (are.owned e m)) (port_before q p k has on);
  }

-- the names of the added owners, one for each, are such names
module _ (keys after : Keys) (added : List KeyOwner) (gives : GivesKeysAfter keys added after) (name : KeyOwner → NamedKey)
    (of_datapath_name : (a : Name) (birth : Birth) → name (Datapath a birth) ≡ (unwrap_or (datapath_number after a) 0, 0, a))
    (of_port_name : (d q : Name) (birth : Birth) → name (Port d q birth) ≡ (unwrap_or (datapath_number after d) 0, unwrap_or (port_number after q) 0, q)) where
  datapath_name : (a : Name) (birth : Birth) (k : DatapathKey) → at after.datapaths a ≡ Some k → name (Datapath a birth) ≡ (k.key, 0, a)
  datapath_name a birth k has =
      let key : unwrap_or (datapath_number after a) 0 ≡ k.key = ap (λ o. unwrap_or (option_map (λ (d : DatapathKey). d.key) o) 0) has in
      of_datapath_name a birth ∙ (λ i. (key i, 0, a))

  port_name : (d q : Name) (birth : Birth) (p : PortKey) (k : DatapathKey) → at after.ports q ≡ Some p → at after.datapaths d ≡ Some k → name (Port d q birth) ≡ (k.key, p.key, q)
  port_name d q birth p k has on =
      let place : unwrap_or (datapath_number after d) 0 ≡ k.key = ap (λ o. unwrap_or (option_map (λ (x : DatapathKey). x.key) o) 0) on in
      let key : unwrap_or (port_number after q) 0 ≡ p.key = ap (λ o. unwrap_or (option_map (λ (x : PortKey). x.key) o) 0) has in
      of_port_name d q birth ∙ (λ i. (place i, key i, q))

  owned_by : (o : KeyOwner) → Among o added → (e : NamedKey) → e ≡ name o → IsNameOf after e
  owned_by (Datapath a birth) m e is =
      let gets = gives.datapath_given a birth m in
      let k : DatapathKey = record { birth = birth; key = gets.0 } in
      let so : e ≡ (k.key, 0, a) = is ∙ datapath_name a birth k gets.1 in
      of_datapath k (ap (λ (x : NamedKey). at after.datapaths x.2) so ∙ gets.1) (ap (λ (x : NamedKey). x.0) so) (ap (λ (x : NamedKey). x.1) so)
  owned_by (Port d q birth) m e is =
      let gets = gives.port_given d q birth m in
      let p : PortKey = record { birth = birth; datapath = d; key = gets.0 } in
      let so : e ≡ (gets.1.key, p.key, q) = is ∙ port_name d q birth p gets.1 gets.2 gets.3 in
      of_port p gets.1 (ap (λ (x : NamedKey). at after.ports x.2) so ∙ gets.2) gets.3 (ap (λ (x : NamedKey). x.0) so) (ap (λ (x : NamedKey). x.1) so)

  pub names_listed : AreNamesOf after added (map name added)
  names_listed = record {
    datapaths = λ a birth k m has. subst (λ e. Among e (map name added)) (datapath_name a birth k has) (among_map name (Datapath a birth) added m);
    ports = λ d q birth p k m has on. subst (λ e. Among e (map name added)) (port_name d q birth p k has on) (among_map name (Port d q birth) added m);
    owned = λ e m. let r = map_among name e added m in owned_by r.0 r.1 e r.2;
  }
