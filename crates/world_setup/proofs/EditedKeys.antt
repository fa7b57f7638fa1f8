-- The keys after an edit that removes no owner: each record has its key, no owner is younger than the edit, and who was there keeps its number.
use Rattle.std.specs.Prelude.{◌≡◌, ◌<◌, ◌⊎◌, ℕ, [], Option, Some, None, option_map, refl, IsSome}
use Rattle.std.proofs.Common.{arith, sym, ap, ◌∙◌, inl, inr}
use Rattle.std.proofs.lemmas.Option.{same_Some}
use Rattle.ovn_base.specs.declared.address.Birth.{Birth}
use Rattle.ovn_base.specs.declared.name.Name.{Name}
use Rattle.ovn_base.specs.lists.Among.{Among}
use Rattle.ovn_base.specs.names.ByName.{at}
use Rattle.nb_records.specs.Network.{Network, AreInOrder}
use Rattle.nb_records.specs.declared.router.Router.{Router}
use Rattle.nb_records.specs.declared.router.RouterPort.{RouterPort}
use Rattle.nb_records.specs.declared.switch.Switch.{Switch}
use Rattle.nb_records.specs.declared.switch.SwitchPort.{SwitchPort}
use Rattle.nb_rules.specs.Valid.{IsValid}
use Rattle.net_model.specs.Owners.{owners_of, owners_only_in}
use Rattle.nb_edits.specs.EditLeaves.{AreBorn, AreKeysOf}
use Rattle.nb_edits.proofs.OwnerLaws.{IsDatapath, IsPort, among_owns, datapath_among, port_among}
use Rattle.tunnel_keys.specs.Births.{AreKeysBorn}
use Rattle.tunnel_keys.specs.Edits.{GivesKeys, GivesKeysAfter, IsLive}
use Rattle.tunnel_keys.specs.Keys.{Keys, IsKeys}
use Rattle.tunnel_keys.specs.declared.owner.DatapathKey.{DatapathKey}
use Rattle.tunnel_keys.specs.declared.owner.HeldDatapath.{HeldDatapath}
use Rattle.tunnel_keys.specs.declared.owner.HeldPort.{HeldPort}
use Rattle.tunnel_keys.specs.declared.owner.KeyOwner.{KeyOwner}
use Rattle.tunnel_keys.specs.declared.owner.KeyOwner.TheVariants.{Datapath, Port}
use Rattle.tunnel_keys.specs.declared.owner.PortKey.{PortKey}
use Rattle.tunnel_keys.proofs.Births.{born_later, keys_born}
use Rattle.tunnel_keys.proofs.KeyOrder.{none_in_order}
use Rattle.physical_flows.specs.Numbers.{datapath_number, port_number}
use Rattle.physical_flows.specs.RecordKeys.{HaveKeys}
use Rattle.physical_flows.proofs.FlowSearch.{some_of, is_some_of}
use Rattle.physical_flows.proofs.KeyLaws.{no_datapath_key, no_port_key}
use Rattle.world_setup.proofs.ComingOwners.{one_of, only_in, in_only}
use Rattle.world_setup.proofs.NewKeys.{given_beside}

-- no record goes: each switch and each router stays as it is, and each of their ports with its birth and datapath, a switch's of its kind; and the records are
-- valid, before and after
pub record HasRecordsFrom (net next : Network) : Type 0 where
  pub switches : (a : Name) (s : Switch) → at net.switches a ≡ Some s → at next.switches a ≡ Some s
  pub routers : (a : Name) (r : Router) → at net.routers a ≡ Some r → at next.routers a ≡ Some r
  pub ports : (q : Name) (p : SwitchPort) → at net.switch_ports q ≡ Some p → (r : SwitchPort) × (at next.switch_ports q ≡ Some r) × (r.birth ≡ p.birth) × (r.switch ≡ p.switch) × (r.kind ≡ p.kind)
  pub router_ports : (q : Name) (p : RouterPort) → at net.router_ports q ≡ Some p → (r : RouterPort) × (at next.router_ports q ≡ Some r) × (r.birth ≡ p.birth) × (r.router ≡ p.router)
  pub before : IsValid net
  pub after : IsValid next

-- who owns is there
datapath_there : (net : Network) (a : Name) (birth : Birth) → IsDatapath net a birth → IsSome (at net.switches a) ⊎ IsSome (at net.routers a)
datapath_there net a birth (inl s) = inl (is_some_of (at net.switches a) s.0 s.1)
datapath_there net a birth (inr r) = inr (is_some_of (at net.routers a) r.0 r.1)

port_there : (net : Network) (d q : Name) (birth : Birth) → IsPort net d q birth → IsSome (at net.switch_ports q) ⊎ IsSome (at net.router_ports q)
port_there net d q birth (inl r) = inr (is_some_of (at net.router_ports q) r.0 r.1)
port_there net d q birth (inr p) = inl (is_some_of (at net.switch_ports q) p.0 p.1)

-- ---- the keys of records

module _ (net : Network) (keys : Keys) (have : HaveKeys net keys) where
  -- who has a key owns: a switch or a router, or a port of one
  datapath_owns : (a : Name) (k : DatapathKey) → at keys.datapaths a ≡ Some k → IsDatapath net a k.birth
  datapath_owns a k has = elim (have.datapath_of a k has) [
    | inl switch ↦
        let s = some_of (at net.switches a) switch in
        let own = have.datapath_has a s.0 s.1 in
        inl (s.0, s.1, sym own.2 ∙ sym (ap (λ (x : DatapathKey). x.birth) (same_Some k own.0 (sym has ∙ own.1))))
    | inr router ↦
        let r = some_of (at net.routers a) router in
        let own = have.router_has a r.0 r.1 in
        inr (r.0, r.1, sym own.2 ∙ sym (ap (λ (x : DatapathKey). x.birth) (same_Some k own.0 (sym has ∙ own.1))))
  ]

  port_owns : (q : Name) (k : PortKey) → at keys.ports q ≡ Some k → IsPort net k.datapath q k.birth
  port_owns q k has = elim (have.port_of q k has) [
    | inl port ↦
        let p = some_of (at net.switch_ports q) port in
        let own = have.port_has q p.0 p.1 in
        let same = same_Some k own.0 (sym has ∙ own.1) in
        inr (p.0, p.1, sym own.3 ∙ sym (ap (λ (x : PortKey). x.datapath) same), sym own.2 ∙ sym (ap (λ (x : PortKey). x.birth) same))
    | inr port ↦
        let p = some_of (at net.router_ports q) port in
        let own = have.router_port_has q p.0 p.1 in
        let same = same_Some k own.0 (sym has ∙ own.1) in
        inl (p.0, p.1, sym own.3 ∙ sym (ap (λ (x : PortKey). x.datapath) same), sym own.2 ∙ sym (ap (λ (x : PortKey). x.birth) same))
  ]

  live_owner : (o : KeyOwner) → IsLive keys o → Among o (owners_of net)
  live_owner (Datapath a birth) live = datapath_among net a birth (datapath_owns a (record { birth = birth; key = live.0 }) live.1)
  live_owner (Port d q birth) live = port_among net d q birth (port_owns q (record { birth = birth; datapath = d; key = live.0 }) live.1)

  -- and who owns has one
  datapath_key_of : (a : Name) (birth : Birth) → IsDatapath net a birth → (k : DatapathKey) × (at keys.datapaths a ≡ Some k) × (k.birth ≡ birth)
  datapath_key_of a birth (inl s) = let own = have.datapath_has a s.0 s.1 in (own.0, own.1, own.2 ∙ s.2)
  datapath_key_of a birth (inr r) = let own = have.router_has a r.0 r.1 in (own.0, own.1, own.2 ∙ r.2)

  port_key_of : (d q : Name) (birth : Birth) → IsPort net d q birth → (k : PortKey) × (at keys.ports q ≡ Some k) × (k.birth ≡ birth) × (k.datapath ≡ d)
  port_key_of d q birth (inl r) = let own = have.router_port_has q r.0 r.1 in (own.0, own.1, own.2 ∙ r.3, own.3 ∙ r.2)
  port_key_of d q birth (inr p) = let own = have.port_has q p.0 p.1 in (own.0, own.1, own.2 ∙ p.3, own.3 ∙ p.2)

  module _ (order : AreInOrder net) where
    pub owner_lives : (o : KeyOwner) → Among o (owners_of net) → IsLive keys o
    owner_lives (Datapath a birth) m =
        let own = datapath_key_of a birth (among_owns net order (Datapath a birth) m) in
        (own.0.key, own.1 ∙ (λ i. Some (record { birth = own.2 i; key = own.0.key })))
    owner_lives (Port d q birth) m =
        let own = port_key_of d q birth (among_owns net order (Port d q birth) m) in
        (own.0.key, own.1 ∙ (λ i. Some (record { birth = own.2 i; datapath = own.3 i; key = own.0.key })))

    -- the owners of the records have the live keys, and all are older than the next event
    pub keys_of_records : (last n : ℕ) → last < n → AreKeysBorn keys last → AreKeysOf net n keys
    keys_of_records last n later born = record {
      owners = λ o. (live_owner o, owner_lives o);
      datapaths = λ a held. let early = born.datapaths a held in omega (arith, early, later);
      ports = λ a held. let early = born.ports a held in let place = born.port_datapaths a held in (omega (arith, early, later), omega (arith, place, later));
    }

-- ---- after the edit

module _ (net next : Network) (keys after : Keys) (have : HaveKeys net keys) (hold : IsKeys after) (gives : GivesKeys keys (owners_only_in next net) [] after) (from : HasRecordsFrom net next) where
  -- the keys are given beside those that were there
  given : GivesKeysAfter keys (owners_only_in next net) after
  given = given_beside keys (owners_only_in next net) after gives

  -- a datapath has its key, the one before or one that was given
  datapath_key : (a : Name) (birth : Birth) → IsDatapath next a birth → (k : DatapathKey) × (at after.datapaths a ≡ Some k) × (k.birth ≡ birth)
  datapath_key a birth is = elim (one_of (owners_of net) (Datapath a birth)) [
    | inl old ↦
        let own = datapath_key_of net keys have a birth (among_owns net from.before.in_order (Datapath a birth) old) in
        (own.0, given.datapath_kept a own.0 own.1, own.2)
    | inr none ↦
        let gets = given.datapath_given a birth (in_only next net (Datapath a birth) (datapath_among next a birth is) none) in
        (record { birth = birth; key = gets.0 }, gets.1, refl)
  ]

  -- so has a port
  port_key : (d q : Name) (birth : Birth) → IsPort next d q birth → (k : PortKey) × (at after.ports q ≡ Some k) × (k.birth ≡ birth) × (k.datapath ≡ d)
  port_key d q birth is = elim (one_of (owners_of net) (Port d q birth)) [
    | inl old ↦
        let own = port_key_of net keys have d q birth (among_owns net from.before.in_order (Port d q birth) old) in
        (own.0, given.port_kept q own.0 own.1, own.2, own.3)
    | inr none ↦
        let gets = given.port_given d q birth (in_only next net (Port d q birth) (port_among next d q birth is) none) in
        (record { birth = birth; datapath = d; key = gets.0 }, gets.2, refl, refl)
  ]

  -- a datapath that was there stays, and so does a port
  datapath_stays : (a : Name) (birth : Birth) → IsDatapath net a birth → IsSome (at next.switches a) ⊎ IsSome (at next.routers a)
  datapath_stays a birth (inl s) = inl (is_some_of (at next.switches a) s.0 (from.switches a s.0 s.1))
  datapath_stays a birth (inr r) = inr (is_some_of (at next.routers a) r.0 (from.routers a r.0 r.1))

  port_stays : (d q : Name) (birth : Birth) → IsPort net d q birth → IsSome (at next.switch_ports q) ⊎ IsSome (at next.router_ports q)
  port_stays d q birth (inl r) = let stays = from.router_ports q r.0 r.1 in inr (is_some_of (at next.router_ports q) stays.0 stays.1)
  port_stays d q birth (inr p) = let stays = from.ports q p.0 p.1 in inl (is_some_of (at next.switch_ports q) stays.0 stays.1)

  -- each record after the edit has its key
  pub edited_have : HaveKeys next after
  edited_have = record {
    hold = hold;
    datapath_has = λ a s is. datapath_key a s.birth (inl (s, is, refl));
    router_has = λ a r is. datapath_key a r.birth (inr (r, is, refl));
    datapath_of = λ a k has. elim (given.datapath_cases a k has) [
      | inl old ↦ datapath_stays a k.birth (datapath_owns net keys have a k old)
      | inr new ↦ datapath_there next a k.birth (among_owns next from.after.in_order (Datapath a k.birth) (only_in next net (Datapath a k.birth) new).0)
    ];
    port_has = λ q p is. port_key p.switch q p.birth (inr (p, is, refl, refl));
    router_port_has = λ q r is. port_key r.router q r.birth (inl (r, is, refl, refl));
    port_of = λ q k has. elim (given.port_cases q k has) [
      | inl old ↦ port_stays k.datapath q k.birth (port_owns net keys have q k old)
      | inr new ↦ port_there next k.datapath q k.birth (among_owns next from.after.in_order (Port k.datapath q k.birth) (only_in next net (Port k.datapath q k.birth) new).0)
    ];
    datapath_range = given.datapath_range ∙ have.datapath_range;
    port_range = given.port_range ∙ have.port_range;
    no_retired_datapaths = none_in_order (λ (h : HeldDatapath). h.owner) keys.retired_datapaths after.retired_datapaths given.retired_datapaths have.no_retired_datapaths;
    no_retired_ports = none_in_order (λ (h : HeldPort). h.owner) keys.retired_ports after.retired_ports given.retired_ports have.no_retired_ports;
  }

  -- ---- numbers

  -- a datapath that was there keeps its number
  datapath_number_stays : (a : Name) (birth : Birth) → IsDatapath net a birth → datapath_number after a ≡ datapath_number keys a
  datapath_number_stays a birth was = let own = datapath_key_of net keys have a birth was in ap (option_map (λ (k : DatapathKey). k.key)) (given.datapath_kept a own.0 own.1 ∙ sym own.1)

  pub switch_number_stays : (a : Name) (s : Switch) → at net.switches a ≡ Some s → datapath_number after a ≡ datapath_number keys a
  switch_number_stays a s was = datapath_number_stays a s.birth (inl (s, was, refl))

  -- a port that was there keeps its number
  pub port_number_stays : (d q : Name) (birth : Birth) → IsPort net d q birth → port_number after q ≡ port_number keys q
  port_number_stays d q birth was = let own = port_key_of net keys have d q birth was in ap (option_map (λ (k : PortKey). k.key)) (given.port_kept q own.0 own.1 ∙ sym own.1)

  -- ---- births

  -- no owner after the edit is younger than it
  pub edited_born : (last n : ℕ) → last < n → AreKeysBorn keys last → AreBorn net next n → AreKeysBorn after n
  edited_born last n later born come =
      keys_born keys (owners_only_in next net) [] after n have.hold hold gives (born_later keys last n (omega (arith, later)) born)
      (λ o m. let r = only_in next net o m in elim (come o r.0) [
        | inl old ↦ absurd (r.1 old)
        | inr new ↦ omega (arith, new)
      ])
