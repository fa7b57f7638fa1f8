-- When the owners of keys were born.
use Rattle.std.specs.Prelude.{◌≤◌, ℕ}
use Rattle.ovn_base.specs.lists.Among.{Among}
use Rattle.tunnel_keys.specs.Keys.{Keys, held_datapaths, held_ports}
use Rattle.tunnel_keys.specs.declared.owner.HeldDatapath.{HeldDatapath}
use Rattle.tunnel_keys.specs.declared.owner.HeldPort.{HeldPort}

-- no owner of a key, live or retired, and no datapath of a port's key is younger than the event
pub record AreKeysBorn (keys : Keys) (last : ℕ) : Type 0 where
  pub datapaths : (a : HeldDatapath) → Among a (held_datapaths keys) → a.owner.birth.0 ≤ last
  pub ports : (a : HeldPort) → Among a (held_ports keys) → a.owner.birth.0 ≤ last
  pub port_datapaths : (a : HeldPort) → Among a (held_ports keys) → a.datapath.birth.0 ≤ last
