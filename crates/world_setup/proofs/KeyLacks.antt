-- What keys an edit lacks, as it is found by the datapaths of the records after it.
use Rattle.std.specs.Prelude.{◌≡◌, ◌≢◌, ◌⊎◌, ◌↔◌, ℕ, Bool, true, false, cond, length, List, [], ◌∷◌, Option, Some, None, option_map, refl}
use Rattle.std.specs.Cmp.Lexicographic.{slice_cmp}
use Rattle.std.specs.List.{find}
use Rattle.std.specs.List.Sorted.{IsStrictlySortedBy}
use Rattle.std.specs.Ordering.{nat_cmp}
use Rattle.std.specs.declared.cmp.Ordering.TheVariants.{Less}
use Rattle.std.proofs.Common.{sym, ap, ◌∙◌, inl, inr}
use Rattle.std.proofs.lemmas.Bool.{cases_Bool, true≢false}
use Rattle.std.proofs.lemmas.Bool.Decides.{Decides-ltb}
use Rattle.std.proofs.lemmas.Option.{none-some, same_Some}
use Rattle.ovn_base.specs.declared.address.Birth.{Birth}
use Rattle.ovn_base.specs.declared.name.Name.{Name}
use Rattle.ovn_base.specs.lists.Among.{Among, here, there}
use Rattle.ovn_base.specs.names.ByName.{at, IsByName}
use Rattle.ovn_base.proofs.AmongLaws.{among_all, among_cases, among_none}
use Rattle.ovn_base.proofs.ByNameLaws.{above_among, at_among}
use Rattle.nb_records.specs.Network.{Network}
use Rattle.nb_records.specs.declared.router.Router.{Router}
use Rattle.nb_records.specs.declared.switch.Switch.{Switch}
use Rattle.nb_rules.specs.Valid.{IsValid}
use Rattle.net_model.specs.Owners.{owners_of, owners_only_in}
use Rattle.nb_edits.specs.EditLeaves.{AreKeysOf}
use Rattle.nb_edits.proofs.OwnerLaws.{IsDatapath, among_owns}
use Rattle.tunnel_keys.specs.Causes.{HasKeys, IsCause, IsFirstToLack, LacksDatapathKeys, LacksPortKeys}
use Rattle.tunnel_keys.specs.Edits.{IsThereAfter}
use Rattle.tunnel_keys.specs.Keys.{Keys, free_datapath_keys, free_port_keys, retire}
use Rattle.tunnel_keys.specs.Owners.{datapaths_in, ports_in}
use Rattle.tunnel_keys.specs.declared.fault.KeyFault.{KeyFault}
use Rattle.tunnel_keys.specs.declared.fault.KeyFault.TheVariants.{NoDatapathKey, NoPortKey, Memory}
use Rattle.tunnel_keys.specs.declared.owner.KeyOwner.{KeyOwner}
use Rattle.tunnel_keys.specs.declared.owner.KeyOwner.TheVariants.{Datapath}
use Rattle.tunnel_keys.proofs.Lists.{among_in_order, in_order_among, in_order_sorted}
use Rattle.tunnel_keys.proofs.OwnerLaws.{datapaths_have, in_datapaths}
use Rattle.world_setup.proofs.ComingOwners.{one_of, only_in, in_only}
use Rattle.world_setup.specs.KeyCauses.{KeyLack, datapath_keys, port_keys, datapaths_of, first_lack, key_lack, lacks_datapath_keys, lacks_port_keys}

-- what isn't true
not_so : (b : Bool) → ¬ (b ≡ true) → b ≡ false
not_so true isnt = absurd (isnt refl)
not_so false isnt = refl

-- ---- the first entry of a test

module _ {X : Type 0} (test : Name × X → Bool) where
  -- where none passes, none is found
  none_passes : (es : List (Name × X)) → ((e : Name × X) → Among e es → test e ≡ false) → find test es ≡ None
  none_passes [] fails = refl
  none_passes (e ∷ es) fails = ap (λ b. cond b (Some e) (find test es)) (fails e here) ∙ none_passes es (λ f m. fails f (there m))

  -- where one passes, the first of those that do is found, and no name of theirs is below its own
  first_passes : (es : List (Name × X)) → IsByName es → (e : Name × X) → Among e es → test e ≡ true → (f : Name × X) × Among f es × (test f ≡ true) × (find test es ≡ Some f) × ((f.0 ≡ e.0) ⊎ (slice_cmp nat_cmp f.0 e.0 ≡ Less))
  unfolding IsStrictlySortedBy
  first_passes [] sorted e m passes = absurd (among_none e m)
  first_passes (d ∷ es) sorted e m passes = elim (cases_Bool (test d)) [
    | inl own ↦ (
      d,
      here,
      own,
      ap (λ b. cond b (Some d) (find test es)) own,
      elim (among_cases e d es m) [
        | inl first ↦ inl (ap (λ (x : Name × X). x.0) (sym first))
        | inr rest ↦ inr (above_among d.0 e.0 e.1 es sorted.0 rest)
      ],
    )
    | inr fails ↦ elim (among_cases e d es m) [
      | inl first ↦ absurd (true≢false (sym passes ∙ ap test first ∙ fails))
      | inr rest ↦ let r = first_passes es sorted.1 e rest passes in (r.0, there r.1, r.2, ap (λ b. cond b (Some d) (find test es)) fails ∙ r.3, r.4)
    ]
  ]

-- ---- the datapaths after an edit

-- they are those of the records after it, each name once
pub record AreDatapathsAfter (keys : Keys) (added removed : List KeyOwner) (after : Network) : Type 0 where
  pub those : (a : Name) (birth : Birth) → IsThereAfter keys added removed (Datapath a birth) ↔ Among (Datapath a birth) (owners_of after)
  pub one : (a : Name) (b c : Birth) → Among (Datapath a b) (owners_of after) → Among (Datapath a c) (owners_of after) → b ≡ c

-- in valid records a name has one datapath
module _ (net : Network) (valid : IsValid net) where
  not_both : (a : Name) (s : Switch) (r : Router) → at net.switches a ≡ Some s → ¬ (at net.routers a ≡ Some r)
  not_both a s r switch router = none-some r (sym (among_all (λ (e : Name × Switch). at net.routers e.0 ≡ None) (a, s) net.switches valid.datapaths (at_among net.switches a s switch)) ∙ router)

  one_birth : (a : Name) (b c : Birth) → IsDatapath net a b → IsDatapath net a c → b ≡ c
  one_birth a b c (inl h) (inl k) = sym h.2 ∙ ap (λ (s : Switch). s.birth) (same_Some h.0 k.0 (sym h.1 ∙ k.1)) ∙ k.2
  one_birth a b c (inr h) (inr k) = sym h.2 ∙ ap (λ (r : Router). r.birth) (same_Some h.0 k.0 (sym h.1 ∙ k.1)) ∙ k.2
  one_birth a b c (inl h) (inr k) = absurd (not_both a h.0 k.0 h.1 k.1)
  one_birth a b c (inr h) (inl k) = absurd (not_both a k.0 h.0 k.1 h.1)

module _ (before after : Network) (n : ℕ) (keys : Keys) (own : AreKeysOf before n keys) where
  abbrev added : List KeyOwner
  added = owners_only_in after before

  abbrev removed : List KeyOwner
  removed = owners_only_in before after

  -- who is there after the edit is one of the records after it
  there_listed : (o : KeyOwner) → IsThereAfter keys added removed o → Among o (owners_of after)
  there_listed o (inl stays) = elim (one_of (owners_of after) o) [ inl m ↦ m | inr none ↦ absurd (stays.1 (in_only before after o ((own.owners o).0 stays.0) none)) ]
  there_listed o (inr comes) = (only_in after before o comes).0

  -- and the other way round
  listed_there : (o : KeyOwner) → Among o (owners_of after) → IsThereAfter keys added removed o
  listed_there o m = elim (one_of (owners_of before) o) [
    | inl old ↦ inl ((own.owners o).1 old, λ gone. (only_in before after o gone).1 m)
    | inr none ↦ inr (in_only after before o m none)
  ]

  -- so it is where the keys are those of the records before, and the records after are valid
  pub datapaths_after : IsValid after → AreDatapathsAfter keys added removed after
  datapaths_after valid = record {
    those = λ a birth. (there_listed (Datapath a birth), listed_there (Datapath a birth));
    one = λ a b c h k. one_birth after valid a b c (among_owns after valid.in_order (Datapath a b) h) (among_owns after valid.in_order (Datapath a c) k);
  }

-- ---- what is lacking

module _ (keys : Keys) (added removed : List KeyOwner) (after : Network) (are : AreDatapathsAfter keys added removed after) where
  -- a datapath of the records that lacks keys for its ports
  lacks : (d : Name × Birth) → Among d (datapaths_of after) → lacks_port_keys keys added removed d ≡ true → LacksPortKeys keys added removed d.0
  lacks d m few = record {
    birth = d.1;
    there = (are.those d.0 d.1).1 (in_datapaths (owners_of after) d.0 d.1 (in_order_among (datapaths_in (owners_of after)) d.0 d.1 m));
    few = (Decides-ltb (length (free_port_keys (retire keys removed) (record { name = d.0; birth = d.1 }))) (length (ports_in d.0 added))).0 few;
  }

  -- where there are enough keys, none is lacking
  pub none_lacks : HasKeys keys added removed → first_lack keys after added removed ≡ None
  none_lacks has =
      let enough : lacks_datapath_keys keys added removed ≡ false = not_so (lacks_datapath_keys keys added removed) (λ few. has.datapaths ((Decides-ltb (length (free_datapath_keys (retire keys removed))) (length (datapaths_in added))).0 few)) in
      let each = none_passes (lacks_port_keys keys added removed) (datapaths_of after) (λ d m. not_so (lacks_port_keys keys added removed d) (λ few. has.ports d.0 (lacks d m few))) in
      ap (λ b. cond b (Some datapath_keys) (option_map (λ (d : Name × Birth). port_keys d.0) (find (lacks_port_keys keys added removed) (datapaths_of after)))) enough
      ∙ ap (option_map (λ (d : Name × Birth). port_keys d.0)) each

  -- where there are too few for datapaths, those are lacking
  pub datapaths_lack : LacksDatapathKeys keys added removed → first_lack keys after added removed ≡ Some datapath_keys
  datapaths_lack few =
      ap (λ b. cond b (Some datapath_keys) (option_map (λ (d : Name × Birth). port_keys d.0) (find (lacks_port_keys keys added removed) (datapaths_of after))))
      ((Decides-ltb (length (free_datapath_keys (retire keys removed))) (length (datapaths_in added))).1 few)

  -- else those for the ports of the first datapath that has too few
  pub ports_lack : (d : Name) → (¬ LacksDatapathKeys keys added removed) → IsFirstToLack keys added removed d → first_lack keys after added removed ≡ Some (port_keys d)
  ports_lack d enough first =
      let few = first.lacks in
      let listed = (are.those d few.birth).0 few.there in
      let ordered : Among (d, few.birth) (datapaths_of after) =
      among_in_order (datapaths_in (owners_of after)) d few.birth (λ c m. are.one d c few.birth (in_datapaths (owners_of after) d c m) listed) (datapaths_have (owners_of after) d few.birth listed) in
      let passes : lacks_port_keys keys added removed (d, few.birth) ≡ true = (Decides-ltb (length (free_port_keys (retire keys removed) (record { name = d; birth = few.birth }))) (length (ports_in d added))).1 few.few in
      let found = first_passes (lacks_port_keys keys added removed) (datapaths_of after) (in_order_sorted (datapaths_in (owners_of after))) (d, few.birth) ordered passes in
      let own : found.0.0 ≡ d = same found.0.0 (first.first found.0.0 (lacks found.0 found.1 found.2)) found.4 in
      ap (λ b. cond b (Some datapath_keys) (option_map (λ (e : Name × Birth). port_keys e.0) (find (lacks_port_keys keys added removed) (datapaths_of after)))) (not_so (lacks_datapath_keys keys added removed) (λ h. enough ((Decides-ltb (length (free_datapath_keys (retire keys removed))) (length (datapaths_in added))).0 h)))
      ∙ ap (option_map (λ (e : Name × Birth). port_keys e.0)) found.3
      ∙ ap (λ a. Some (port_keys a)) own
    where
      same : (e : Name) → slice_cmp nat_cmp e d ≢ Less → (e ≡ d) ⊎ (slice_cmp nat_cmp e d ≡ Less) → e ≡ d
      same e not_below (inl is) = is
      same e not_below (inr below) = absurd (not_below below)

-- what a fault of the keys means
abbrev pub IsLack : KeyFault → Option KeyLack → Type 0
IsLack NoDatapathKey lack = lack ≡ Some datapath_keys
IsLack (NoPortKey d) lack = lack ≡ Some (port_keys d)
IsLack Memory lack = Unit {0}

module _ (before after : Network) (keys : Keys) (are : AreDatapathsAfter keys (owners_only_in after before) (owners_only_in before after) after) where
  -- nothing is lacking where there are enough keys
  pub enough_keys : HasKeys keys (owners_only_in after before) (owners_only_in before after) → key_lack keys before after ≡ None
  unfolding key_lack
  enough_keys has = none_lacks keys (owners_only_in after before) (owners_only_in before after) after are has

  -- and what causes a fault is what is lacking
  pub lack_is : (fault : KeyFault) → IsCause keys (owners_only_in after before) (owners_only_in before after) fault → IsLack fault (key_lack keys before after)
  unfolding key_lack
  lack_is NoDatapathKey cause = datapaths_lack keys (owners_only_in after before) (owners_only_in before after) after are cause
  lack_is (NoPortKey d) cause = ports_lack keys (owners_only_in after before) (owners_only_in before after) after are d cause.0 cause.1
  lack_is Memory cause = tt
