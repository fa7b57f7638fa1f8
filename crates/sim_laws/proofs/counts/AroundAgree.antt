-- Two flows of a table around the pipelines that may be taken are one.
use Rattle.std.specs.Prelude.{◌≡◌, ◌<◌, ◌^◌, ℕ, true, List, Some, None, refl}
use Rattle.std.proofs.Common.{sym, ap, ◌∙◌, subst, arith, inl}
use Rattle.std.proofs.lemmas.Bool.{false≢true}
use Rattle.std.proofs.lemmas.Option.{none-some, same_Some}
use Rattle.conn_zones.specs.Zoning.{Zoned}
use Rattle.ovn_base.specs.declared.name.Name.{Name}
use Rattle.ovn_base.specs.names.ByName.{at}
use Rattle.inet_packet.specs.Fits.{CubeFits}
use Rattle.inet_packet.specs.declared.packet.Packet.{Packet}
use Rattle.inet_packet.specs.declared.regs.Regs.{Regs}
use Rattle.flow_table.specs.Matching.{IsBest}
use Rattle.flow_table.specs.declared.flow.Flow.{Flow}
use Rattle.nb_records.specs.Switches.{is_virtual}
use Rattle.nb_records.specs.declared.router.RouterPort.{RouterPort}
use Rattle.nb_records.specs.declared.switch.SwitchPort.{SwitchPort}
use Rattle.net_model.specs.State.{State}
use Rattle.net_model.specs.declared.crossing.Group.{Group}
use Rattle.ovn_base.proofs.AmongLaws.{among_all}
use Rattle.ovn_base.proofs.ByNameLaws.{at_among}
use Rattle.physical_flows.proofs.KeyLaws as laws
use Rattle.physical_flows.specs.ChassisFlows.{basis_at}
use Rattle.physical_flows.specs.GroupKeys.{group_key}
use Rattle.physical_flows.specs.RecordKeys.{HaveKeys}
use Rattle.physical_flows.specs.Rows.{entry_row, arrival_row, remote_row, spread_row, stay_row, home_row, copies_row, pass_row, enter_row, return_row, leave_row, output_row, patch_row, no_peer_row}
use Rattle.physical_flows.specs.Stages.{Basis, zone_of, IsDatapath, IsPort, IsHere, IsRouterPort, PatchPort, IsPatchPort, switch_patch, router_patch, to_router, of_router, beyond, EntryRow, RemoteRow, HomeRow, ReturnRow, OutputRow, homes_of, members_here}
use Rattle.tunnel_keys.specs.declared.owner.DatapathKey.{DatapathKey}
use Rattle.tunnel_keys.specs.declared.owner.PortKey.{PortKey}
use Rattle.sim_laws.proofs.Homes.{same_home, not_everywhere}
use Rattle.sim_laws.proofs.Places.{name_at, is_local}
use Rattle.sim_laws.proofs.GroupNumbers.{no_group, one_group, one_flag}
use Rattle.sim_laws.specs.journeys.UnderWay.{IsUnderWay}

module _ (m : State) (zones : Zoned) (more : ℕ) (u : IsUnderWay m zones more) (chassis : Name) where
  abbrev b : Basis
  b = basis_at m zones.numbers chassis

  keys : HaveKeys m.config.net m.keys
  keys = u.keys

  -- ---- each number is of one, and each has one number

  key_small : (q : Name) (port : SwitchPort) (dp key : ℕ) → IsPort b q port dp key → key < 2 ^ 15
  key_small q port dp key of = subst (λ n. n < 2 ^ 15) of.number (laws.port_fits m.config.net m.keys keys q of.live of.has).1

  one_datapath : (a e : Name) (dp d : ℕ) → IsDatapath b a dp → IsDatapath b e d → dp ≡ d → a ≡ e
  one_datapath a e dp d on their same = laws.datapaths_apart m.config.net m.keys keys a e on.live their.live on.has their.has (on.number ∙ same ∙ sym their.number)

  key_on : (q : Name) (port : SwitchPort) (dp key : ℕ) (of : IsPort b q port dp key) → of.live.datapath ≡ port.switch
  key_on q port dp key of = let own = keys.port_has q port of.there in ap (λ (k : PortKey). k.datapath) (same_Some of.live own.0 (sym of.has ∙ own.1)) ∙ own.3

  one_port : (q r : Name) (port other : SwitchPort) (dp d key k : ℕ) → IsPort b q port dp key → IsPort b r other d k → dp ≡ d → key ≡ k → q ≡ r
  one_port q r port other dp d key k of their same equal =
      let switch : port.switch ≡ other.switch = one_datapath port.switch other.switch dp d of.on their.on same in
      laws.ports_apart m.config.net m.keys keys q r of.live their.live of.has their.has (key_on q port dp key of ∙ switch ∙ sym (key_on r other d k their)) (of.number ∙ equal ∙ sym their.number)

  one_key : (q r : Name) (port other : SwitchPort) (dp d key k : ℕ) → IsPort b q port dp key → IsPort b r other d k → q ≡ r → key ≡ k
  one_key q r port other dp d key k of their same = sym of.number ∙ ap (λ (w : PortKey). w.key) (same_Some of.live their.live (sym of.has ∙ ap (λ n. at m.keys.ports n) same ∙ their.has)) ∙ their.number

  one_number : (a e : Name) (dp d : ℕ) → IsDatapath b a dp → IsDatapath b e d → a ≡ e → dp ≡ d
  one_number a e dp d on their same = sym on.number ∙ ap (λ (w : DatapathKey). w.key) (same_Some on.live their.live (sym on.has ∙ ap (λ n. at m.keys.datapaths n) same ∙ their.has)) ∙ their.number

  -- a bound port has one zone, and one home
  one_zone : (q r : Name) (z y : ℕ) → IsHere b q z → IsHere b r y → q ≡ r → z ≡ y
  one_zone q r z y here there same = same_Some z y (sym here.zoned ∙ ap (λ n. zone_of b n) same ∙ there.zoned)

  one_home : (q r home other : Name) → at m.config.bindings q ≡ Some home → at m.config.bindings r ≡ Some other → q ≡ r → home ≡ other
  one_home q r home other is also same = same_Some home other (sym is ∙ ap (λ n. at m.config.bindings n) same ∙ also)

  -- a port is on one datapath
  one_switch : (q r : Name) (port other : SwitchPort) (dp d key k : ℕ) → IsPort b q port dp key → IsPort b r other d k → q ≡ r → dp ≡ d
  one_switch q r port other dp d key k of their same =
      let record_is : port ≡ other = same_Some port other (sym of.there ∙ ap (λ n. at m.config.net.switch_ports n) same ∙ their.there) in
      one_number port.switch other.switch dp d of.on their.on (ap (λ (w : SwitchPort). w.switch) record_is)

  -- ---- ports that lead into another datapath

  -- the port of a datapath that has these numbers
  record IsOwner (a q : Name) (dp key : ℕ) : Type 0 where
    datapath : DatapathKey
    has_datapath : at m.keys.datapaths a ≡ Some datapath
    dp_is : datapath.key ≡ dp
    port : PortKey
    has_port : at m.keys.ports q ≡ Some port
    under : port.datapath ≡ a
    key_is : port.key ≡ key

  one_owner : (a e q r : Name) (dp d key k : ℕ) → IsOwner a q dp key → IsOwner e r d k → dp ≡ d → key ≡ k → q ≡ r
  one_owner a e q r dp d key k x y same equal =
      let datapath : a ≡ e = laws.datapaths_apart m.config.net m.keys keys a e x.datapath y.datapath x.has_datapath y.has_datapath (x.dp_is ∙ same ∙ sym y.dp_is) in
      laws.ports_apart m.config.net m.keys keys q r x.port y.port x.has_port y.has_port (x.under ∙ datapath ∙ sym y.under) (x.key_is ∙ equal ∙ sym y.key_is)

  switch_owner : (q : Name) (port : SwitchPort) (dp key : ℕ) → IsPort b q port dp key → IsOwner port.switch q dp key
  switch_owner q port dp key of = record {
    datapath = of.on.live;
    has_datapath = of.on.has;
    dp_is = of.on.number;
    port = of.live;
    has_port = of.has;
    under = key_on q port dp key of;
    key_is = of.number;
  }

  router_owner : (q : Name) (port : RouterPort) (dp key : ℕ) → IsRouterPort b q port dp key → IsOwner port.router q dp key
  router_owner q port dp key of =
      let own = keys.router_port_has q port of.there in
      record {
        datapath = of.on.live;
        has_datapath = of.on.has;
        dp_is = of.on.number;
        port = of.live;
        has_port = of.has;
        under = ap (λ (k : PortKey). k.datapath) (same_Some of.live own.0 (sym of.has ∙ own.1)) ∙ own.3;
        key_is = of.number;
      }

  -- no name is that of a switch's port and of a router's
  one_kind : (q : Name) (o : SwitchPort) (p : RouterPort) → at m.config.net.switch_ports q ≡ Some o → at m.config.net.router_ports q ≡ Some p → ⊥
  one_kind q o p here there =
      none-some p (sym (among_all (λ (e : Name × SwitchPort). at m.config.net.router_ports e.0 ≡ None) (q, o) m.config.net.switch_ports u.valid.ports (at_among m.config.net.switch_ports q o here)) ∙ there)

  same_record : (q r : Name) (port other : SwitchPort) → at m.config.net.switch_ports q ≡ Some port → at m.config.net.switch_ports r ≡ Some other → q ≡ r → port ≡ other
  same_record q r port other here there named = same_Some port other (sym here ∙ ap (λ n. at m.config.net.switch_ports n) named ∙ there)

  -- a virtual port has the numbers of none of them,
  not_patch : (q : Name) (port : SwitchPort) (dp key : ℕ) → IsPort b q port dp key → is_virtual port ≡ true → (y : PatchPort) → IsPatchPort b y → dp ≡ y.dp → key ≡ y.key → ⊥
  not_patch q port dp key of virtual y (to_router r other d k theirs leads is) same equal =
      let named : q ≡ r = one_port q r port other dp d key k of theirs (same ∙ ap (λ (x : PatchPort). x.dp) is) (equal ∙ ap (λ (x : PatchPort). x.key) is) in
      false≢true (sym leads ∙ ap is_virtual (sym (same_record q r port other of.there theirs.there named)) ∙ virtual)
  not_patch q port dp key of virtual y (of_router r other d k theirs is) same equal =
      let named : q ≡ r = one_owner port.switch other.router q r dp d key k (switch_owner q port dp key of) (router_owner r other d k theirs) (same ∙ ap (λ (x : PatchPort). x.dp) is) (equal ∙ ap (λ (x : PatchPort). x.key) is) in
      one_kind r port other (ap (λ n. at m.config.net.switch_ports n) (sym named) ∙ of.there) theirs.there

  -- nor has one that is bound
  not_bound : (q c : Name) (port : SwitchPort) (dp key : ℕ) → IsPort b q port dp key → at m.config.bindings q ≡ Some c → (y : PatchPort) → IsPatchPort b y → dp ≡ y.dp → key ≡ y.key → ⊥
  not_bound q c port dp key of bound y leads same equal = not_patch q port dp key of (u.bound_virtual q c port bound of.there) y leads same equal

  -- and each has its own
  one_patch : (x y : PatchPort) → IsPatchPort b x → IsPatchPort b y → x.dp ≡ y.dp → x.key ≡ y.key → x ≡ y
  one_patch x y (to_router q port dp key of leads is) (to_router r other d k theirs kind also) same equal =
      let on : dp ≡ d = sym (ap (λ (z : PatchPort). z.dp) is) ∙ same ∙ ap (λ (z : PatchPort). z.dp) also in
      let number : key ≡ k = sym (ap (λ (z : PatchPort). z.key) is) ∙ equal ∙ ap (λ (z : PatchPort). z.key) also in
      let itself = same_record q r port other of.there theirs.there (one_port q r port other dp d key k of theirs on number) in
      is ∙ (λ j. switch_patch b (itself j) (on j) (number j)) ∙ sym also
  one_patch x y (to_router q port dp key of leads is) (of_router r other d k theirs also) same equal =
      let on : dp ≡ d = sym (ap (λ (z : PatchPort). z.dp) is) ∙ same ∙ ap (λ (z : PatchPort). z.dp) also in
      let number : key ≡ k = sym (ap (λ (z : PatchPort). z.key) is) ∙ equal ∙ ap (λ (z : PatchPort). z.key) also in
      let named : q ≡ r = one_owner port.switch other.router q r dp d key k (switch_owner q port dp key of) (router_owner r other d k theirs) on number in
      absurd (one_kind r port other (ap (λ n. at m.config.net.switch_ports n) (sym named) ∙ of.there) theirs.there)
  one_patch x y (of_router q port dp key of is) (to_router r other d k theirs kind also) same equal =
      let on : dp ≡ d = sym (ap (λ (z : PatchPort). z.dp) is) ∙ same ∙ ap (λ (z : PatchPort). z.dp) also in
      let number : key ≡ k = sym (ap (λ (z : PatchPort). z.key) is) ∙ equal ∙ ap (λ (z : PatchPort). z.key) also in
      let named : q ≡ r = one_owner port.router other.switch q r dp d key k (router_owner q port dp key of) (switch_owner r other d k theirs) on number in
      absurd (one_kind r other port theirs.there (ap (λ n. at m.config.net.router_ports n) (sym named) ∙ of.there))
  one_patch x y (of_router q port dp key of is) (of_router r other d k theirs also) same equal =
      let on : dp ≡ d = sym (ap (λ (z : PatchPort). z.dp) is) ∙ same ∙ ap (λ (z : PatchPort). z.dp) also in
      let number : key ≡ k = sym (ap (λ (z : PatchPort). z.key) is) ∙ equal ∙ ap (λ (z : PatchPort). z.key) also in
      let named : q ≡ r = one_owner port.router other.router q r dp d key k (router_owner q port dp key of) (router_owner r other d k theirs) on number in
      let itself : port ≡ other = same_Some port other (sym of.there ∙ ap (λ n. at m.config.net.router_ports n) named ∙ theirs.there) in
      is ∙ (λ j. router_patch b (itself j) (on j) (number j)) ∙ sym also

  -- none has a group's number
  patch_small : (x : PatchPort) → IsPatchPort b x → x.key < 2 ^ 15
  patch_small x (to_router q port dp key of leads is) = subst (λ (y : PatchPort). y.key < 2 ^ 15) (sym is) (key_small q port dp key of)
  patch_small x (of_router q port dp key of is) =
      subst (λ (y : PatchPort). y.key < 2 ^ 15) (sym is) (subst (λ n. n < 2 ^ 15) of.number (laws.port_fits m.config.net m.keys keys q of.live of.has).1)

  not_group : (x : PatchPort) → IsPatchPort b x → (group : Group) → x.key ≡ group_key group → ⊥
  not_group x leads group number = no_group group x.key x.key (patch_small x leads) refl number

  -- ---- two flows

  module _ (flows : List Flow) (table : ℕ) (regs : Regs) (packet : Packet) (f g : Flow) (first : IsBest flows table regs packet f) (second : IsBest flows table regs packet g) where
    abbrev Holds : Flow → Type 0
    Holds row = CubeFits row.cube regs packet

    left : (row : Flow) → f ≡ row → Holds row
    left row e = subst Holds e first.matching.fits

    right : (row : Flow) → g ≡ row → Holds row
    right row e = subst Holds e second.matching.fits

    -- neither is of a lower priority
    below : (high low : Flow) → f ≡ high → g ≡ low → low.priority < high.priority → f ≡ g
    below high low e x less =
        absurd (second.unbeaten f first.held first.matching (inl (subst (λ (w : Flow). w.priority < f.priority) (sym x) (subst (λ (w : Flow). low.priority < w.priority) (sym e) less))))

    above : (low high : Flow) → f ≡ low → g ≡ high → low.priority < high.priority → f ≡ g
    above low high e x less =
        absurd (first.unbeaten g second.held second.matching (inl (subst (λ (w : Flow). w.priority < g.priority) (sym e) (subst (λ (w : Flow). low.priority < w.priority) (sym x) less))))

    pub entries : EntryRow b f → EntryRow b g → f ≡ g
    entries (EntryRow.entry q port dp key z of here e) (EntryRow.entry r other d k y their there x) =
        let same : q ≡ r = ap name_at (sym (left (entry_row q dp key z) e).entry ∙ (right (entry_row r d k y) x).entry) in
        let on = one_switch q r port other dp d key k of their same in
        let number = one_key q r port other dp d key k of their same in
        let zone = one_zone q r z y here there same in
        e ∙ (λ i. entry_row (same i) (on i) (number i) (zone i)) ∙ sym x
    entries (EntryRow.entry q port dp key z of here e) (EntryRow.arrival x) = absurd (false≢true (ap is_local (sym (right arrival_row x).entry ∙ (left (entry_row q dp key z) e).entry)))
    entries (EntryRow.arrival e) (EntryRow.entry r other d k y their there x) = absurd (false≢true (ap is_local (sym (left arrival_row e).entry ∙ (right (entry_row r d k y) x).entry)))
    entries (EntryRow.arrival e) (EntryRow.arrival x) = e ∙ sym x

    pub spreads : RemoteRow b f → RemoteRow b g → f ≡ g
    spreads (RemoteRow.remote q port dp key home of is apart e) (RemoteRow.remote r other d k there their also far x) =
        let h = left (remote_row dp key home) e in
        let i = right (remote_row d k there) x in
        let on : dp ≡ d = sym h.place.dp_fits ∙ i.place.dp_fits in
        let number : key ≡ k = sym h.place.out_port_fits ∙ i.place.out_port_fits in
        let at_home = one_home q r home there is also (one_port q r port other dp d key k of their on number) in
        e ∙ (λ j. remote_row (on j) (number j) (at_home j)) ∙ sym x
    spreads (RemoteRow.remote q port dp key home of is apart e) (RemoteRow.away y other leads at_home far x) =
        let h = left (remote_row dp key home) e in
        let i = right (remote_row y.dp y.key other) x in
        absurd (not_bound q home port dp key of is y leads (sym h.place.dp_fits ∙ i.place.dp_fits) (sym h.place.out_port_fits ∙ i.place.out_port_fits))
    spreads (RemoteRow.remote q port dp key home of is apart e) (RemoteRow.spread o d group their x) =
        let number : key ≡ group_key group = sym (left (remote_row dp key home) e).place.out_port_fits ∙ (right (spread_row d group (homes_of b o group)) x).place.out_port_fits in
        absurd (no_group group key key (key_small q port dp key of) refl number)
    spreads (RemoteRow.remote q port dp key home of is apart e) (RemoteRow.stay x) = below (remote_row dp key home) stay_row e x (omega arith)
    spreads (RemoteRow.away y home leads is apart e) (RemoteRow.remote q port dp key other of at_home far x) =
        let h = left (remote_row y.dp y.key home) e in
        let i = right (remote_row dp key other) x in
        absurd (not_bound q other port dp key of at_home y leads (sym i.place.dp_fits ∙ h.place.dp_fits) (sym i.place.out_port_fits ∙ h.place.out_port_fits))
    spreads (RemoteRow.away y home leads is apart e) (RemoteRow.away w other their also far x) =
        let h = left (remote_row y.dp y.key home) e in
        let i = right (remote_row w.dp w.key other) x in
        let same : y ≡ w = one_patch y w leads their (sym h.place.dp_fits ∙ i.place.dp_fits) (sym h.place.out_port_fits ∙ i.place.out_port_fits) in
        let at_home : home ≡ other = same_home home other (sym is ∙ ap (λ (z : PatchPort). z.home) same ∙ also) in
        e ∙ (λ j. remote_row (same j).dp (same j).key (at_home j)) ∙ sym x
    spreads (RemoteRow.away y home leads is apart e) (RemoteRow.spread o d group their x) =
        absurd (not_group y leads group (sym (left (remote_row y.dp y.key home) e).place.out_port_fits ∙ (right (spread_row d group (homes_of b o group)) x).place.out_port_fits))
    spreads (RemoteRow.away y home leads is apart e) (RemoteRow.stay x) = below (remote_row y.dp y.key home) stay_row e x (omega arith)
    spreads (RemoteRow.spread a dp group on e) (RemoteRow.remote r other d k there their also far x) =
        let number : k ≡ group_key group = sym (right (remote_row d k there) x).place.out_port_fits ∙ (left (spread_row dp group (homes_of b a group)) e).place.out_port_fits in
        absurd (no_group group k k (key_small r other d k their) refl number)
    spreads (RemoteRow.spread a dp group on e) (RemoteRow.away y other leads at_home far x) =
        absurd (not_group y leads group (sym (right (remote_row y.dp y.key other) x).place.out_port_fits ∙ (left (spread_row dp group (homes_of b a group)) e).place.out_port_fits))
    spreads (RemoteRow.spread a dp group on e) (RemoteRow.spread o d too their x) =
        let h = left (spread_row dp group (homes_of b a group)) e in
        let i = right (spread_row d too (homes_of b o too)) x in
        let same : dp ≡ d = sym h.place.dp_fits ∙ i.place.dp_fits in
        let groups : group ≡ too = one_group group too (sym h.place.out_port_fits ∙ i.place.out_port_fits) in
        let switch : a ≡ o = one_datapath a o dp d on their same in
        e ∙ (λ j. spread_row (same j) (groups j) (homes_of b (switch j) (groups j))) ∙ sym x
    spreads (RemoteRow.spread a dp group on e) (RemoteRow.stay x) = below (spread_row dp group (homes_of b a group)) stay_row e x (omega arith)
    spreads (RemoteRow.stay e) (RemoteRow.remote r other d k there their also far x) = above stay_row (remote_row d k there) e x (omega arith)
    spreads (RemoteRow.stay e) (RemoteRow.away y other leads at_home far x) = above stay_row (remote_row y.dp y.key other) e x (omega arith)
    spreads (RemoteRow.stay e) (RemoteRow.spread o d group their x) = above stay_row (spread_row d group (homes_of b o group)) e x (omega arith)
    spreads (RemoteRow.stay e) (RemoteRow.stay x) = e ∙ sym x

    pub homes : HomeRow b f → HomeRow b g → f ≡ g
    homes (HomeRow.home q port dp key z of here e) (HomeRow.home r other d k y their there x) =
        let h = left (home_row dp key z) e in
        let i = right (home_row d k y) x in
        let on : dp ≡ d = sym h.place.dp_fits ∙ i.place.dp_fits in
        let number : key ≡ k = sym h.place.out_port_fits ∙ i.place.out_port_fits in
        let zone = one_zone q r z y here there (one_port q r port other dp d key k of their on number) in
        e ∙ (λ j. home_row (on j) (number j) (zone j)) ∙ sym x
    homes (HomeRow.home q port dp key z of here e) (HomeRow.passes y leads at_home x) =
        let h = left (home_row dp key z) e in
        let i = right (pass_row y.dp y.key) x in
        absurd (not_bound q chassis port dp key of here.bound y leads (sym h.place.dp_fits ∙ i.place.dp_fits) (sym h.place.out_port_fits ∙ i.place.out_port_fits))
    homes (HomeRow.home q port dp key z of here e) (HomeRow.enters y leads at_home x) =
        let h = left (home_row dp key z) e in
        let i = right (enter_row y.dp y.key) x in
        absurd (not_bound q chassis port dp key of here.bound y leads (sym h.place.dp_fits ∙ i.place.dp_fits) (sym h.place.out_port_fits ∙ i.place.out_port_fits))
    homes (HomeRow.home q port dp key z of here e) (HomeRow.copies o d group arrived their x) =
        let number : key ≡ group_key group = sym (left (home_row dp key z) e).place.out_port_fits ∙ (right (copies_row d group arrived (members_here b o group arrived)) x).place.out_port_fits in
        absurd (no_group group key key (key_small q port dp key of) refl number)
    homes (HomeRow.passes y leads is e) (HomeRow.home q port dp key z of here x) =
        let h = left (pass_row y.dp y.key) e in
        let i = right (home_row dp key z) x in
        absurd (not_bound q chassis port dp key of here.bound y leads (sym i.place.dp_fits ∙ h.place.dp_fits) (sym i.place.out_port_fits ∙ h.place.out_port_fits))
    homes (HomeRow.passes y leads is e) (HomeRow.passes w their also x) =
        let h = left (pass_row y.dp y.key) e in
        let i = right (pass_row w.dp w.key) x in
        let same : y ≡ w = one_patch y w leads their (sym h.place.dp_fits ∙ i.place.dp_fits) (sym h.place.out_port_fits ∙ i.place.out_port_fits) in
        e ∙ (λ j. pass_row (same j).dp (same j).key) ∙ sym x
    homes (HomeRow.passes y leads is e) (HomeRow.enters w their also x) =
        let h = left (pass_row y.dp y.key) e in
        let i = right (enter_row w.dp w.key) x in
        let same : y ≡ w = one_patch y w leads their (sym h.place.dp_fits ∙ i.place.dp_fits) (sym h.place.out_port_fits ∙ i.place.out_port_fits) in
        absurd (not_everywhere chassis (sym is ∙ ap (λ (z : PatchPort). z.home) same ∙ also))
    homes (HomeRow.passes y leads is e) (HomeRow.copies o d group arrived their x) =
        absurd (not_group y leads group (sym (left (pass_row y.dp y.key) e).place.out_port_fits ∙ (right (copies_row d group arrived (members_here b o group arrived)) x).place.out_port_fits))
    homes (HomeRow.enters y leads is e) (HomeRow.home q port dp key z of here x) =
        let h = left (enter_row y.dp y.key) e in
        let i = right (home_row dp key z) x in
        absurd (not_bound q chassis port dp key of here.bound y leads (sym i.place.dp_fits ∙ h.place.dp_fits) (sym i.place.out_port_fits ∙ h.place.out_port_fits))
    homes (HomeRow.enters y leads is e) (HomeRow.enters w their also x) =
        let h = left (enter_row y.dp y.key) e in
        let i = right (enter_row w.dp w.key) x in
        let same : y ≡ w = one_patch y w leads their (sym h.place.dp_fits ∙ i.place.dp_fits) (sym h.place.out_port_fits ∙ i.place.out_port_fits) in
        e ∙ (λ j. enter_row (same j).dp (same j).key) ∙ sym x
    homes (HomeRow.enters y leads is e) (HomeRow.passes w their also x) =
        let h = left (enter_row y.dp y.key) e in
        let i = right (pass_row w.dp w.key) x in
        let same : y ≡ w = one_patch y w leads their (sym h.place.dp_fits ∙ i.place.dp_fits) (sym h.place.out_port_fits ∙ i.place.out_port_fits) in
        absurd (not_everywhere chassis (sym also ∙ ap (λ (z : PatchPort). z.home) (sym same) ∙ is))
    homes (HomeRow.enters y leads is e) (HomeRow.copies o d group arrived their x) =
        absurd (not_group y leads group (sym (left (enter_row y.dp y.key) e).place.out_port_fits ∙ (right (copies_row d group arrived (members_here b o group arrived)) x).place.out_port_fits))
    homes (HomeRow.copies a dp group arrived on e) (HomeRow.home r other d k y their there x) =
        let number : k ≡ group_key group = sym (right (home_row d k y) x).place.out_port_fits ∙ (left (copies_row dp group arrived (members_here b a group arrived)) e).place.out_port_fits in
        absurd (no_group group k k (key_small r other d k their) refl number)
    homes (HomeRow.copies a dp group arrived on e) (HomeRow.passes y leads at_home x) =
        absurd (not_group y leads group (sym (right (pass_row y.dp y.key) x).place.out_port_fits ∙ (left (copies_row dp group arrived (members_here b a group arrived)) e).place.out_port_fits))
    homes (HomeRow.copies a dp group arrived on e) (HomeRow.enters y leads at_home x) =
        absurd (not_group y leads group (sym (right (enter_row y.dp y.key) x).place.out_port_fits ∙ (left (copies_row dp group arrived (members_here b a group arrived)) e).place.out_port_fits))
    homes (HomeRow.copies a dp group arrived on e) (HomeRow.copies o d too came their x) =
        let h = left (copies_row dp group arrived (members_here b a group arrived)) e in
        let i = right (copies_row d too came (members_here b o too came)) x in
        let same : dp ≡ d = sym h.place.dp_fits ∙ i.place.dp_fits in
        let groups : group ≡ too = one_group group too (sym h.place.out_port_fits ∙ i.place.out_port_fits) in
        let flag : arrived ≡ came = one_flag arrived came (sym h.state.flags_fits ∙ i.state.flags_fits) in
        let switch : a ≡ o = one_datapath a o dp d on their same in
        e ∙ (λ j. copies_row (same j) (groups j) (flag j) (members_here b (switch j) (groups j) (flag j))) ∙ sym x

    back_rows : (dp d key k : ℕ) → f ≡ return_row dp key → g ≡ return_row d k → f ≡ g
    back_rows dp d key k e x =
        let h = left (return_row dp key) e in
        let i = right (return_row d k) x in
        let on : dp ≡ d = sym h.place.dp_fits ∙ i.place.dp_fits in
        let number : key ≡ k = sym h.place.out_port_fits ∙ i.place.out_port_fits in
        e ∙ (λ j. return_row (on j) (number j)) ∙ sym x

    pub backs : ReturnRow b f → ReturnRow b g → f ≡ g
    backs (ReturnRow.back q port dp key of e) (ReturnRow.back r other d k their x) = back_rows dp d key k e x
    backs (ReturnRow.back q port dp key of e) (ReturnRow.back_in r other d k their x) = back_rows dp d key k e x
    backs (ReturnRow.back q port dp key of e) (ReturnRow.leave x) = below (return_row dp key) leave_row e x (omega arith)
    backs (ReturnRow.back_in q port dp key of e) (ReturnRow.back r other d k their x) = back_rows dp d key k e x
    backs (ReturnRow.back_in q port dp key of e) (ReturnRow.back_in r other d k their x) = back_rows dp d key k e x
    backs (ReturnRow.back_in q port dp key of e) (ReturnRow.leave x) = below (return_row dp key) leave_row e x (omega arith)
    backs (ReturnRow.leave e) (ReturnRow.back r other d k their x) = above leave_row (return_row d k) e x (omega arith)
    backs (ReturnRow.leave e) (ReturnRow.back_in r other d k their x) = above leave_row (return_row d k) e x (omega arith)
    backs (ReturnRow.leave e) (ReturnRow.leave x) = e ∙ sym x

    pub outputs : OutputRow b f → OutputRow b g → f ≡ g
    outputs (OutputRow.output q port dp key of own e) (OutputRow.output r other d k their also x) =
        let h = left (output_row dp q key) e in
        let i = right (output_row d r k) x in
        let on : dp ≡ d = sym h.place.dp_fits ∙ i.place.dp_fits in
        let number : key ≡ k = sym h.place.out_port_fits ∙ i.place.out_port_fits in
        let same = one_port q r port other dp d key k of their on number in
        e ∙ (λ j. output_row (on j) (same j) (number j)) ∙ sym x
    outputs (OutputRow.output q port dp key of own e) (OutputRow.patch y partner leads is x) =
        let h = left (output_row dp q key) e in
        let i = right (patch_row y.dp y.key (beyond b partner)) x in
        absurd (not_patch q port dp key of own y leads (sym h.place.dp_fits ∙ i.place.dp_fits) (sym h.place.out_port_fits ∙ i.place.out_port_fits))
    outputs (OutputRow.output q port dp key of own e) (OutputRow.no_peer y leads is x) =
        let h = left (output_row dp q key) e in
        let i = right (no_peer_row y.dp y.key) x in
        absurd (not_patch q port dp key of own y leads (sym h.place.dp_fits ∙ i.place.dp_fits) (sym h.place.out_port_fits ∙ i.place.out_port_fits))
    outputs (OutputRow.patch y partner leads is e) (OutputRow.output q port dp key of own x) =
        let h = left (patch_row y.dp y.key (beyond b partner)) e in
        let i = right (output_row dp q key) x in
        absurd (not_patch q port dp key of own y leads (sym i.place.dp_fits ∙ h.place.dp_fits) (sym i.place.out_port_fits ∙ h.place.out_port_fits))
    outputs (OutputRow.patch y partner leads is e) (OutputRow.patch w other their also x) =
        let h = left (patch_row y.dp y.key (beyond b partner)) e in
        let i = right (patch_row w.dp w.key (beyond b other)) x in
        let same : y ≡ w = one_patch y w leads their (sym h.place.dp_fits ∙ i.place.dp_fits) (sym h.place.out_port_fits ∙ i.place.out_port_fits) in
        let one : partner ≡ other = same_Some partner other (sym is ∙ ap (λ (z : PatchPort). z.partner) same ∙ also) in
        e ∙ (λ j. patch_row (same j).dp (same j).key (beyond b (one j))) ∙ sym x
    outputs (OutputRow.patch y partner leads is e) (OutputRow.no_peer w their also x) =
        let h = left (patch_row y.dp y.key (beyond b partner)) e in
        let i = right (no_peer_row w.dp w.key) x in
        let same : y ≡ w = one_patch y w leads their (sym h.place.dp_fits ∙ i.place.dp_fits) (sym h.place.out_port_fits ∙ i.place.out_port_fits) in
        absurd (none-some partner (sym also ∙ ap (λ (z : PatchPort). z.partner) (sym same) ∙ is))
    outputs (OutputRow.no_peer y leads is e) (OutputRow.output q port dp key of own x) =
        let h = left (no_peer_row y.dp y.key) e in
        let i = right (output_row dp q key) x in
        absurd (not_patch q port dp key of own y leads (sym i.place.dp_fits ∙ h.place.dp_fits) (sym i.place.out_port_fits ∙ h.place.out_port_fits))
    outputs (OutputRow.no_peer y leads is e) (OutputRow.patch w other their also x) =
        let h = left (no_peer_row y.dp y.key) e in
        let i = right (patch_row w.dp w.key (beyond b other)) x in
        let same : y ≡ w = one_patch y w leads their (sym h.place.dp_fits ∙ i.place.dp_fits) (sym h.place.out_port_fits ∙ i.place.out_port_fits) in
        absurd (none-some other (sym is ∙ ap (λ (z : PatchPort). z.partner) same ∙ also))
    outputs (OutputRow.no_peer y leads is e) (OutputRow.no_peer w their also x) =
        let h = left (no_peer_row y.dp y.key) e in
        let i = right (no_peer_row w.dp w.key) x in
        let same : y ≡ w = one_patch y w leads their (sym h.place.dp_fits ∙ i.place.dp_fits) (sym h.place.out_port_fits ∙ i.place.out_port_fits) in
        e ∙ (λ j. no_peer_row (same j).dp (same j).key) ∙ sym x
