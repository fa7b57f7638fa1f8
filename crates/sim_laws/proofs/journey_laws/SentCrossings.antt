-- The crossings of a packet that is sent in a switch may wait.
use Rattle.std.specs.Prelude.{◌≡◌, ◌≢◌, Option, Some, None, refl}
use Rattle.std.proofs.Common.{sym, ap, ◌∙◌, subst}
use Rattle.std.proofs.lemmas.Option.{same_Some}
use Rattle.inet_packet.specs.Whole.{IsWhole}
use Rattle.inet_packet.specs.declared.packet.Packet.{Packet}
use Rattle.nb_records.specs.Network.{Network}
use Rattle.nb_records.specs.Switches.{enabled_ports, takes_unknown}
use Rattle.nb_records.specs.declared.switch.Switch.{Switch}
use Rattle.nb_records.specs.declared.switch.SwitchPort.{SwitchPort}
use Rattle.nb_rules.specs.Valid.{IsValid}
use Rattle.net_model.specs.Config.{port_identity}
use Rattle.net_model.specs.Spread.{SentFrom, crossing_to}
use Rattle.net_model.specs.State.{State}
use Rattle.net_model.specs.Targets.{members}
use Rattle.net_model.specs.Visit.{identity_or, switch_named}
use Rattle.net_model.specs.declared.crossing.Aim.{Aim}
use Rattle.net_model.specs.declared.crossing.Aim.TheVariants.{ToPort, ToGroup}
use Rattle.net_model.specs.declared.crossing.Group.{Group}
use Rattle.net_model.specs.declared.crossing.Group.TheVariants.{Flood, Unknown}
use Rattle.ovn_base.proofs.AmongLaws.{among_all, filter_among}
use Rattle.ovn_base.proofs.ByNameLaws.{at_among}
use Rattle.ovn_base.specs.declared.name.Name.{Name}
use Rattle.ovn_base.specs.lists.Among.{Among}
use Rattle.ovn_base.specs.names.ByName.{at}
use Rattle.physical_flows.proofs.KeyLaws.{datapath_held}
use Rattle.physical_flows.specs.RecordKeys.{HaveKeys}
use Rattle.row_laws.proofs.records.SwitchPorts.{IsEnabled, enabled_is}
use Rattle.row_laws.proofs.records.ValidPorts.{on_switch}
use Rattle.tunnel_keys.specs.Keys.{held_datapath, held_datapaths}
use Rattle.tunnel_keys.specs.declared.owner.HeldDatapath.{HeldDatapath}
use Rattle.tunnel_keys.specs.declared.owner.Identity.{Identity}
use Rattle.sim_laws.proofs.KeyLookups.{HasKeyOn, key_on, on_live}
use Rattle.sim_laws.proofs.journey_laws.Premises.{not_both}
use Rattle.sim_laws.specs.Sound.{HasAimKey, IsAimOnLive, IsNoRouter, MayWait}

-- a member of a group is an enabled port of the switch
pub member_enabled : (net : Network) (valid : IsValid net) (a : Name) (g : Group) (q : SwitchPort) → Among q (members net a g) → IsEnabled net valid a q
member_enabled net valid a Flood q m = enabled_is net valid a q m
member_enabled net valid a Unknown q m = enabled_is net valid a q (filter_among (λ (p : SwitchPort). takes_unknown p.addresses) q (enabled_ports net a) m).0

-- ---- crossings

module _ (m : State) (valid : IsValid m.config.net) (have : HaveKeys m.config.net m.keys) (i : SwitchPort) (i_there : at m.config.net.switch_ports i.name ≡ Some i) where
  abbrev net : Network
  net = m.config.net

  abbrev pub from : SentFrom
  from = record { switch = switch_named net i.switch; port = i }

  its_switch : (w : Switch) × (at net.switches i.switch ≡ Some w)
  its_switch = on_switch net valid i.name i i_there

  switch_is : record { name = i.switch; birth = its_switch.0.birth } ≡ from.switch
  switch_is =
      let w = its_switch in
      let named : w.0.name ≡ i.switch = among_all (λ (e : Name × Switch). e.1.name ≡ e.0) (i.switch, w.0) net.switches valid.named.switches (at_among net.switches i.switch w.0 w.1) in
      (λ j. record { name = sym named j; birth = w.0.birth }) ∙ ap (identity_or i.switch) (sym w.1)

  -- a port of the switch has a key of it
  port_key_on : (q : SwitchPort) → at net.switch_ports q.name ≡ Some q → q.switch ≡ i.switch → HasKeyOn m have from.switch (port_identity q)
  port_key_on q there on =
      subst (λ (d : Identity). HasKeyOn m have d (port_identity q)) switch_is (key_on m have q.name i.switch q its_switch.0 there on its_switch.1)

  datapath_has : (h : HeldDatapath) × Among h (held_datapaths m.keys) × (h.owner ≡ from.switch)
  datapath_has =
      let w = its_switch in
      let k = have.datapath_has i.switch w.0 w.1 in
      (held_datapath (i.switch, k.0), datapath_held net m.keys have i.switch k.0 k.1, (λ j. record { name = i.switch; birth = k.2 j }) ∙ switch_is)

  -- no router is the switch
  not_router : IsNoRouter net from.switch
  not_router = let w = its_switch in subst (IsNoRouter net) switch_is (λ router there same. not_both net valid i.switch w.0 router w.1 there)

  -- one from the port, that is for a live target and not for the port itself, may wait
  sent : (aim : Aim) (home : Name) (p : Packet) → IsWhole p → HasAimKey m.keys aim → IsAimOnLive m from.switch aim → aim ≢ ToPort (port_identity i) → MayWait m (crossing_to from aim home p)
  sent aim home p whole key live other =
      let own = port_key_on i i_there refl in
      record {
        whole = whole;
        datapath_key = datapath_has;
        in_key = (own.held, own.among, own.owner);
        aim_key = key;
        in_live = on_live m have from.switch (port_identity i) own;
        aim_live = live;
        no_router = not_router;
        no_return = other;
      }

  -- one to another port may wait, and so may one to a group
  pub to_port_but : (o : SwitchPort) → IsEnabled net valid i.switch o → (to : Name) (p : Packet) → IsWhole p → ¬ (o.name ≡ i.name) → MayWait m (crossing_to from (ToPort (port_identity o)) to p)
  to_port_but o e to p whole apart =
      let k = port_key_on o e.there e.on in
      sent (ToPort (port_identity o)) to p whole (k.held, k.among, k.owner) (on_live m have from.switch (port_identity o) k) (λ same. apart (same_Some o.name i.name (ap aim_name same)))
    where
      aim_name : Aim → Option Name
      aim_name (ToPort id) = Some id.name
      aim_name (ToGroup g) = None

  pub to_all : (g : Group) (to : Name) (p : Packet) → IsWhole p → MayWait m (crossing_to from (ToGroup g) to p)
  to_all g to p whole = sent (ToGroup g) to p whole tt tt (λ same. no_group g same)
    where
      no_group : (g : Group) → ToGroup g ≡ ToPort (port_identity i) → ⊥
      no_group g e = cc e
