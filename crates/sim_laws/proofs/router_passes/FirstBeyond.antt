-- The registers with which a copy comes in at the partner of a port.
use Rattle.std.specs.Prelude.{◌≡◌, ◌≤◌, ℕ, true, Option, Some, None, option_map, refl}
use Rattle.std.specs.Option.{unwrap_or}
use Rattle.std.proofs.Common.{sym, ap, ◌∙◌, arith}
use Rattle.std.proofs.lemmas.Bool.{false≢true}
use Rattle.conn_zones.specs.Zoning.{GivenNumbers, number_on}
use Rattle.conn_zones.specs.declared.numbers.TheConstants.{MAX_ZONE}
use Rattle.conn_zones.specs.declared.numbers.ZoneUse.{ZoneUse}
use Rattle.conn_zones.specs.declared.numbers.ZoneUse.TheVariants.{Dnat, Snat}
use Rattle.flow_lowering.specs.Registers.{reg_number, reg_max, HasRegistersInRange}
use Rattle.inet_packet.specs.declared.regs.Reg.{Reg}
use Rattle.inet_packet.specs.declared.regs.Reg.TheVariants as reg
use Rattle.inet_packet.specs.declared.regs.Regs.{Regs}
use Rattle.nb_records.specs.Routers.{Partner, switch_side, router_side}
use Rattle.ovn_base.specs.declared.name.Name.{Name}
use Rattle.ovn_base.specs.names.ByName.{at}
use Rattle.physical_flows.specs.Numbers.{datapath_number, port_number}
use Rattle.physical_flows.specs.declared.beyond.Beyond.{Beyond}
use Rattle.physical_flows.specs.Stages.{beyond}
use Rattle.row_laws.proofs.records.ValidPorts.{on_switch}
use Rattle.row_laws.proofs.routers.TakenAtRouter.{on_router}
use Rattle.row_laws.specs.Numbers.{IsDatapathKey, IsPortKey}
use Rattle.switch_engine.specs.Actions.{patched_regs}
use Rattle.tunnel_keys.specs.declared.owner.DatapathKey.{DatapathKey}
use Rattle.tunnel_keys.specs.declared.owner.PortKey.{PortKey}
use Rattle.sim_laws.proofs.passes.LiveNumbers.{datapath_low, port_low, switch_live, router_live, port_live}
use Rattle.sim_laws.specs.passes.Physical.{basis_of}
use Rattle.sim_laws.specs.pipelines.Standing.{Chassis, net_of}
use Rattle.sim_laws.proofs.router_stages.RouterCopiesOn.{router_port_live}
use Rattle.sim_laws.specs.routers.Patches.{IsLaidAround, is_partner_here, IsThere, AreFirstAt}

module _ (s : Chassis) (numbers : GivenNumbers) (around : IsLaidAround s numbers) where
  -- ---- numbers

  -- the number of a live key
  datapath_is : (a : Name) (k : DatapathKey) → at s.keys.datapaths a ≡ Some k → IsDatapathKey s.keys a (unwrap_or (datapath_number s.keys a) 0)
  datapath_is a k has = (k, has, sym (ap (λ (o : Option DatapathKey). unwrap_or (option_map (λ (d : DatapathKey). d.key) o) 0) has))

  port_is : (d q : Name) (k : PortKey) → at s.keys.ports q ≡ Some k → k.datapath ≡ d → IsPortKey s.keys d q (unwrap_or (port_number s.keys q) 0)
  port_is d q k has on = (k, has, on, sym (ap (λ (o : Option PortKey). unwrap_or (option_map (λ (p : PortKey). p.key) o) 0) has))

  -- and that of a zone, if there is one
  zone_low : (zone : ZoneUse) → unwrap_or (number_on numbers s.scene.here zone) 0 ≤ MAX_ZONE
  zone_low zone = by (number_on numbers s.scene.here zone) refl
    where
      by : (o : Option ℕ) → number_on numbers s.scene.here zone ≡ o → unwrap_or o 0 ≤ MAX_ZONE
      by None is = omega arith
      by (Some n) is = around.in_range zone n is

  -- ---- registers

  abbrev pub regs_in : Beyond → Regs → Regs
  regs_in to regs = patched_regs to.dp to.in_port to.z_dnat to.z_snat regs

  regs_within : (to : Beyond) (regs : Regs) → to.dp ≤ 0xff_ffff → to.in_port ≤ 0xffff → to.z_dnat ≤ 0xffff → to.z_snat ≤ 0xffff → HasRegistersInRange (regs_in to regs)
  regs_within to regs d k z y = record { within = each }
    where
      each : (r : Reg) → reg_number r (regs_in to regs) ≤ reg_max r
      each reg.Dp = d
      each reg.InPort = k
      each reg.OutPort = omega arith
      each reg.Next = omega arith
      each reg.ZIn = omega arith
      each reg.ZOut = omega arith
      each reg.ZDnat = z
      each reg.ZSnat = y
      each reg.State = omega arith
      each reg.Verdict = omega arith
      each reg.Tier = omega arith
      each reg.Loopback = omega arith
      each reg.Tracked = omega arith
      each reg.Blocked = omega arith
      each reg.Own = omega arith
      each reg.Arrived = omega arith

  -- they name the partner as the port of entry
  pub first_at : (partner : Partner) → IsThere (net_of s) partner → is_partner_here s.scene partner ≡ true → (regs : Regs) → AreFirstAt s partner (regs_in (beyond (basis_of s numbers) partner) regs)
  first_at (switch_side q) there here regs =
      let to = beyond (basis_of s numbers) (switch_side q) in
      let w = on_switch (net_of s) around.laid.valid q.name q there.0 in
      let d = switch_live s around.laid q.switch w.0 w.1 in
      let k = port_live s around.laid q.name q there.0 in
      let on : IsDatapathKey s.keys q.switch to.dp = datapath_is q.switch (record { birth = w.0.birth; key = d.0 }) d.1 in
      let came : IsPortKey s.keys q.switch q.name to.in_port = port_is q.switch q.name (record { birth = q.birth; datapath = q.switch; key = k.0 }) k.1 refl in
      let few = port_low s around.laid q.switch q.name to.in_port came in
      record {
        on = on;
        came = came;
        nowhere = refl;
        tracked = refl;
        verdict = refl;
        state = refl;
        blocked = refl;
        within = regs_within to regs (datapath_low s around.laid q.switch to.dp on) (omega (arith, few)) (omega arith) (omega arith);
        zone = λ virtual. absurd (false≢true (sym there.1 ∙ virtual));
      }
  first_at (router_side r) there here regs =
      let to = beyond (basis_of s numbers) (router_side r) in
      let w = on_router (net_of s) around.laid.valid r.name r there in
      let d = router_live s around.laid r.router w.0 w.1 in
      let k = router_port_live (net_of s) s.keys around.laid.live r there in
      let on : IsDatapathKey s.keys r.router to.dp = datapath_is r.router (record { birth = w.0.birth; key = d.0 }) d.1 in
      let came : IsPortKey s.keys r.router r.name to.in_port = port_is r.router r.name k.0 k.1 k.2 in
      let few = port_low s around.laid r.router r.name to.in_port came in
      record {
        on = on;
        came = came;
        nowhere = refl;
        next = refl;
        state = refl;
        own = refl;
        arrived = refl;
        within = regs_within to regs (datapath_low s around.laid r.router to.dp on) (omega (arith, few)) (zone_low (Dnat r.router)) (zone_low (Snat r.router));
        zones = λ on.
            let z = around.zoned.both r there here on in
            record {
              dnat = z.0.1 ∙ ap (λ (o : Option ℕ). Some (unwrap_or o 0)) (sym (sym (around.zoned.dnat r.router) ∙ z.0.1));
              snat = z.1.1 ∙ ap (λ (o : Option ℕ). Some (unwrap_or o 0)) (sym (sym (around.zoned.snat r.router) ∙ z.1.1));
            };
      }
