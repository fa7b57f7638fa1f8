-- The keys of a crossing that may wait fit into the header of its frame.
use Rattle.std.specs.Prelude.{◌≡◌, ◌<◌}
use Rattle.std.proofs.Common.{arith}
use Rattle.ovn_base.specs.lists.Among.{Among}
use Rattle.tunnel_keys.specs.Keys.{held_ports}
use Rattle.tunnel_keys.specs.declared.owner.HeldPort.{HeldPort}
use Rattle.tunnel_keys.specs.declared.owner.Identity.{Identity}
use Rattle.net_model.specs.State.{State}
use Rattle.net_model.specs.declared.crossing.Aim.{Aim}
use Rattle.net_model.specs.declared.crossing.Aim.TheVariants.{ToPort, ToGroup}
use Rattle.net_model.specs.declared.crossing.Crossing.{Crossing}
use Rattle.net_model.specs.declared.crossing.Group.TheVariants.{Flood, Unknown}
use Rattle.physical_flows.specs.RecordKeys.{HaveKeys}
use Rattle.sim_laws.proofs.KeyLookups.{datapath_key_is, port_key_is}
use Rattle.sim_laws.specs.Effects.{datapath_key, port_key, aim_key}
use Rattle.sim_laws.specs.Sound.{HasAimKey, MayWait}

module _ (m : State) (have : HaveKeys m.config.net m.keys) where
  pub record AreSmall (x : Crossing) : Type 0 where
    pub datapath : datapath_key m.keys x.datapath < 16777216
    pub in_key : port_key m.keys x.in_port < 32768
    pub aim : aim_key m.keys x.aim < 65536

  port_small : (id : Identity) (h : HeldPort) → Among h (held_ports m.keys) → h.owner ≡ id → port_key m.keys id < 32768
  port_small id h among owner =
      let is = port_key_is m.keys have.hold h id among owner in
      let high = (have.hold.port_keys h among).1 in
      let range = have.port_range in
      omega (arith, is, high, range)

  aim_small : (aim : Aim) → HasAimKey m.keys aim → aim_key m.keys aim < 65536
  aim_small (ToPort id) k = let small = port_small id k.0 k.1 k.2 in omega (arith, small)
  aim_small (ToGroup Flood) k = omega arith
  aim_small (ToGroup Unknown) k = omega arith

  pub are_small : (x : Crossing) → MayWait m x → AreSmall x
  are_small x w = record {
    datapath =
        let is = datapath_key_is m.keys have.hold w.datapath_key.0 x.datapath w.datapath_key.1 w.datapath_key.2 in
        let high = (have.hold.datapath_keys w.datapath_key.0 w.datapath_key.1).1 in
        let range = have.datapath_range in
        omega (arith, is, high, range);
    in_key = port_small x.in_port w.in_key.0 w.in_key.1 w.in_key.2;
    aim = aim_small x.aim w.aim_key;
  }
