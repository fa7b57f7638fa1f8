-- The owners by which valid records differ are an edit that fits their keys.
use Rattle.std.specs.Prelude.{◌≡◌, ◌⊎◌, ℕ, Bool, true, false, not, List, map, Option, Some, None, option_map, is_some, refl}
use Rattle.std.proofs.lemmas.Bool.{false≢true}
use Rattle.std.proofs.lemmas.Option.{none-some, same_Some}
use mathlib.Core.Path.{sym, ap, ◌∙◌}
use mathlib.Core.Logic.{inl, inr}
use native.Mathlib.Omega.{arith}
use Rattle.ovn_base.specs.declared.address.Birth.{Birth}
use Rattle.ovn_base.specs.declared.name.Name.{Name}
use Rattle.ovn_base.specs.lists.Among.{Among}
use Rattle.ovn_base.specs.names.ByName.{at}
use Rattle.ovn_base.proofs.AmongLaws.{among_all, among_right, among_left, among_map, among_filter, filter_among}
use Rattle.ovn_base.proofs.ByNameLaws.{at_among}
use Rattle.nb_records.specs.Network.{Network, records_of}
use Rattle.nb_records.specs.declared.record.Record.{Record}
use Rattle.nb_records.specs.declared.record.Record.TheVariants as row
use Rattle.nb_records.specs.declared.router.Router.{Router}
use Rattle.nb_records.specs.declared.router.RouterPort.{RouterPort}
use Rattle.nb_records.specs.declared.switch.Switch.{Switch}
use Rattle.nb_records.specs.declared.switch.SwitchPort.{SwitchPort}
use Rattle.nb_rules.proofs.Validity.{unbroken}
use Rattle.nb_rules.specs.References.{references_of}
use Rattle.nb_rules.specs.Unbroken.{AreThere, AreUnbroken}
use Rattle.nb_rules.specs.Valid.{IsValid}
use Rattle.net_model.specs.Owners.{owners_of, owners_only_in}
use Rattle.tunnel_keys.proofs.Lists.{once_filter}
use Rattle.tunnel_keys.specs.Edits.{IsKeyEdit, IsNew, IsThereAfter}
use Rattle.tunnel_keys.specs.Keys.{Keys}
use Rattle.tunnel_keys.specs.Owners.{is_listed, birth_in}
use Rattle.tunnel_keys.specs.declared.owner.KeyOwner.{KeyOwner}
use Rattle.tunnel_keys.specs.declared.owner.KeyOwner.TheVariants.{Datapath, Port}
use Rattle.nb_edits.proofs.OwnerLaws.{IsDatapath, IsPort, among_owns, datapath_among, listed_among, among_listed, owners_once}
use Rattle.nb_edits.specs.EditLeaves.{AreKeysOf, AreBorn}

-- ---- listed or not

one_of : (owners : List KeyOwner) (o : KeyOwner) → Among o owners ⊎ (¬ Among o owners)
one_of owners o = by (is_listed owners o) refl
  where
    by : (b : Bool) → is_listed owners o ≡ b → Among o owners ⊎ (¬ Among o owners)
    by true h = inl (listed_among owners o h)
    by false h = inr (λ m. false≢true (sym h ∙ among_listed owners o m))

unlisted : (owners : List KeyOwner) (o : KeyOwner) → ¬ Among o owners → not (is_listed owners o) ≡ true
unlisted owners o none = by (is_listed owners o) refl
  where
    by : (b : Bool) → is_listed owners o ≡ b → not b ≡ true
    by true h = absurd (none (listed_among owners o h))
    by false h = refl

not_listed : (owners : List KeyOwner) (o : KeyOwner) → not (is_listed owners o) ≡ true → ¬ Among o owners
not_listed owners o h m = false≢true (sym (ap not (among_listed owners o m)) ∙ h)

-- ---- those by which records differ

module _ (one another : Network) where
  only : (o : KeyOwner) → Among o (owners_only_in one another) → Among o (owners_of one) × (¬ Among o (owners_of another))
  only o m = let r = filter_among (λ x. not (is_listed (owners_of another) x)) o (owners_of one) m in (r.0, not_listed (owners_of another) o r.1)

  is_only : (o : KeyOwner) → Among o (owners_of one) → ¬ Among o (owners_of another) → Among o (owners_only_in one another)
  is_only o m none = among_filter (λ x. not (is_listed (owners_of another) x)) o (owners_of one) m (unlisted (owners_of another) o none)

-- ---- one at a name

module _ (net : Network) (valid : IsValid net) where
  not_router : (name : Name) (r : Switch) (s : Router) → at net.switches name ≡ Some r → ¬ (at net.routers name ≡ Some s)
  not_router name r s there too =
      let none : at net.routers name ≡ None = among_all (λ (e : Name × Switch). at net.routers e.0 ≡ None) (name, r) net.switches valid.datapaths (at_among net.switches name r there) in
      none-some s (sym none ∙ too)

  not_router_port : (name : Name) (r : SwitchPort) (s : RouterPort) → at net.switch_ports name ≡ Some r → ¬ (at net.router_ports name ≡ Some s)
  not_router_port name r s there too =
      let none : at net.router_ports name ≡ None = among_all (λ (e : Name × SwitchPort). at net.router_ports e.0 ≡ None) (name, r) net.switch_ports valid.ports (at_among net.switch_ports name r there) in
      none-some s (sym none ∙ too)

  one_birth : (name : Name) (b c : Birth) → IsDatapath net name b → IsDatapath net name c → b ≡ c
  one_birth name b c (inl h) (inl k) = sym h.2 ∙ ap (λ r. r.birth) (same_Some h.0 k.0 (sym h.1 ∙ k.1)) ∙ k.2
  one_birth name b c (inr h) (inr k) = sym h.2 ∙ ap (λ r. r.birth) (same_Some h.0 k.0 (sym h.1 ∙ k.1)) ∙ k.2
  one_birth name b c (inl h) (inr k) = absurd (not_router name h.0 k.0 h.1 k.1)
  one_birth name b c (inr h) (inl k) = absurd (not_router name k.0 h.0 k.1 h.1)

  one_place : (d e name : Name) (b c : Birth) → IsPort net d name b → IsPort net e name c → (d ≡ e) × (b ≡ c)
  one_place d e name b c (inl h) (inl k) = let same = same_Some h.0 k.0 (sym h.1 ∙ k.1) in (sym h.2 ∙ ap (λ r. r.router) same ∙ k.2, sym h.3 ∙ ap (λ r. r.birth) same ∙ k.3)
  one_place d e name b c (inr h) (inr k) = let same = same_Some h.0 k.0 (sym h.1 ∙ k.1) in (sym h.2 ∙ ap (λ r. r.switch) same ∙ k.2, sym h.3 ∙ ap (λ r. r.birth) same ∙ k.3)
  one_place d e name b c (inr h) (inl k) = absurd (not_router_port name h.0 k.0 h.1 k.1)
  one_place d e name b c (inl h) (inr k) = absurd (not_router_port name k.0 h.0 k.1 h.1)

  -- ---- the datapath of a port

  broken_none : AreUnbroken net
  broken_none = (unbroken net _).0 valid.unbroken

  there_some : {X : Type 0} (f : X → Record) (a : Option X) → is_some (option_map f a) ≡ true → (x : X) × (a ≡ Some x)
  there_some f None h = absurd (false≢true h)
  there_some f (Some x) h = (x, refl)

  abbrev rows : {X : Type 0} → (X → Record) → List (Name × X) → List Record
  rows f entries = map (λ e. f e.1) entries

  references_there : (r : Record) → Among r (records_of net) → AreThere net (references_of r)
  references_there r m = among_all (λ (x : Record). AreThere net (references_of x)) r (records_of net) broken_none.references m

  router_port_row : (name : Name) (r : RouterPort) → at net.router_ports name ≡ Some r → Among (row.RouterPort r) (records_of net)
  router_port_row name r there =
      let own : Among (row.RouterPort r) (rows row.RouterPort net.router_ports) = among_map (λ (e : Name × RouterPort). row.RouterPort e.1) (name, r) net.router_ports (at_among net.router_ports name r there) in
      among_left (row.RouterPort r) _ _ (among_left (row.RouterPort r) _ _ (among_left (row.RouterPort r) _ _ (among_left (row.RouterPort r) _ _ (among_left (row.RouterPort r) _ _ (among_left (row.RouterPort r) _ _ (among_left (row.RouterPort r) _ _ (among_left (row.RouterPort r) _ _ (among_right (row.RouterPort r) _ _ own))))))))

  switch_port_row : (name : Name) (r : SwitchPort) → at net.switch_ports name ≡ Some r → Among (row.SwitchPort r) (records_of net)
  switch_port_row name r there =
      let own : Among (row.SwitchPort r) (rows row.SwitchPort net.switch_ports) = among_map (λ (e : Name × SwitchPort). row.SwitchPort e.1) (name, r) net.switch_ports (at_among net.switch_ports name r there) in
      among_left (row.SwitchPort r) _ _ (among_left (row.SwitchPort r) _ _ (among_left (row.SwitchPort r) _ _ (among_left (row.SwitchPort r) _ _ (among_left (row.SwitchPort r) _ _ (among_left (row.SwitchPort r) _ _ (among_left (row.SwitchPort r) _ _ (among_right (row.SwitchPort r) _ _ own)))))))

  has_place : (d name : Name) (b : Birth) → IsPort net d name b → (c : Birth) × IsDatapath net d c
  has_place d name b (inl h) =
      let named = references_there (row.RouterPort h.0) (router_port_row name h.0 h.1) in
      let s = there_some row.Router (at net.routers h.0.router) named.0 in
      (s.0.birth, inr (s.0, ap (at net.routers) (sym h.2) ∙ s.1, refl))
  has_place d name b (inr h) =
      let named = references_there (row.SwitchPort h.0) (switch_port_row name h.0 h.1) in
      let s = there_some row.Switch (at net.switches h.0.switch) named.0 in
      (s.0.birth, inl (s.0, ap (at net.switches) (sym h.2) ∙ s.1, refl))

-- ---- the edit of the keys

module _ (before after : Network) (n : ℕ) (keys : Keys) (was : IsValid before) (is : IsValid after) (born : AreBorn before after n) (hold : AreKeysOf before n keys) where
  abbrev added : List KeyOwner
  added = owners_only_in after before

  abbrev removed : List KeyOwner
  removed = owners_only_in before after

  comes_born : (o : KeyOwner) → Among o added → (birth_in o).0 ≡ n
  comes_born o m = let r = only after before o m in elim (born o r.0) [ inl old ↦ absurd (r.1 old) | inr new ↦ new ]

  listed_after : (o : KeyOwner) → IsThereAfter keys added removed o → Among o (owners_of after)
  listed_after o (inl h) = elim (one_of (owners_of after) o) [ inl m ↦ m | inr none ↦ absurd (h.1 (is_only before after o ((hold.owners o).0 h.0) none)) ]
  listed_after o (inr m) = (only after before o m).0

  there_after : (o : KeyOwner) → Among o (owners_of after) → IsThereAfter keys added removed o
  there_after o m = elim (one_of (owners_of before) o) [
    | inl old ↦ inl ((hold.owners o).1 old, λ k. (only before after o k).1 m)
    | inr none ↦ inr (is_only after before o m none)
  ]

  new_one : (o : KeyOwner) → Among o added → IsNew keys o
  new_one (Datapath name birth) m = λ a k same.
      let b = comes_born (Datapath name birth) m in
      let old = hold.datapaths a k in
      let one : a.owner.birth.0 ≡ birth.0 = ap (λ x. x.birth.0) same in
      absurd (omega (arith, b, old, one))
  new_one (Port datapath name birth) m = λ a k same.
      let b = comes_born (Port datapath name birth) m in
      let old = (hold.ports a k).0 in
      let one : a.owner.birth.0 ≡ birth.0 = ap (λ x. x.birth.0) same in
      absurd (omega (arith, b, old, one))

  pub key_edit : IsKeyEdit keys added removed
  key_edit = record {
    added_once = once_filter (λ x. not (is_listed (owners_of before) x)) (owners_of after) (owners_once after is);
    removed_once = once_filter (λ x. not (is_listed (owners_of after) x)) (owners_of before) (owners_once before was);
    removed_live = λ o m. (hold.owners o).1 (only before after o m).0;
    added_new = new_one;
    added_bare = λ name birth m a k same.
        let b = comes_born (Datapath name birth) m in
        let old = (hold.ports a (among_right a _ keys.retired_ports k)).1 in
        let one : a.datapath.birth.0 ≡ birth.0 = ap (λ x. x.birth.0) same in
        absurd (omega (arith, b, old, one));
    one_datapath = λ name b c h k. one_birth after is name b c (among_owns after is.in_order (Datapath name b) (listed_after (Datapath name b) h)) (among_owns after is.in_order (Datapath name c) (listed_after (Datapath name c) k));
    one_port = λ d e name b c h k. one_place after is d e name b c (among_owns after is.in_order (Port d name b) (listed_after (Port d name b) h)) (among_owns after is.in_order (Port e name c) (listed_after (Port e name c) k));
    has_datapath = λ d name b h.
        let place = has_place after is d name b (among_owns after is.in_order (Port d name b) (listed_after (Port d name b) h)) in
        (place.0, there_after (Datapath d place.0) (datapath_among after d place.0 place.1));
  }
