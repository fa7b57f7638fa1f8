-- The ends of packets in numbers: what the tables do with a packet, and what becomes of it in the network.
use Rattle.std.specs.Prelude.{◌≡◌, ℕ, Some}
use Rattle.ovn_base.specs.names.ByName.{at}
use Rattle.ovn_base.specs.declared.address.Backend.{Backend}
use Rattle.ovn_base.specs.declared.name.Name.{Name}
use Rattle.inet_packet.specs.Whole.{IsWhole}
use Rattle.inet_packet.specs.declared.packet.Packet.{Packet}
use Rattle.flow_table.specs.declared.flow.Cause.{Cause}
use Rattle.switch_engine.specs.declared.effect.Effect.{Effect}
use Rattle.switch_engine.specs.declared.effect.Effect.TheVariants as effect
use Rattle.tunnel_keys.specs.Keys.{Keys}
use Rattle.tunnel_keys.specs.declared.owner.DatapathKey.{DatapathKey}
use Rattle.tunnel_keys.specs.declared.owner.PortKey.{PortKey}
use Rattle.net_model.specs.declared.crossing.Crossing.{Crossing}
use Rattle.sim_laws.specs.Effects.{datapath_key, port_key, aim_key}
use Rattle.net_model.specs.Trail.{End, leaves, is_dropped, crosses, picks_backend, picks_port, is_lost}

-- the datapath of this name has the key
pub record HasDatapathKey (keys : Keys) (a : Name) (key : ℕ) : Type 0 where
  pub live : DatapathKey
  pub has : at keys.datapaths a ≡ Some live
  pub number : live.key ≡ key

-- the port of this name has the key on the datapath
pub record HasPortKey (keys : Keys) (a q : Name) (key : ℕ) : Type 0 where
  pub live : PortKey
  pub has : at keys.ports q ≡ Some live
  pub on : live.datapath ≡ a
  pub number : live.key ≡ key

-- the effect of the tables is that end: its numbers are the keys of whom it names, and a packet that crosses is whole
pub data IsNumbered (keys : Keys) : End → Effect → Type 0 where
  out : {q : Name} {packet : Packet} → IsNumbered keys (leaves q packet) (effect.Out q packet)
  drop : {a q : Name} {cause : Cause} {vni key : ℕ} → HasDatapathKey keys a vni → HasPortKey keys a q key → IsNumbered keys (is_dropped a q cause) (effect.Drop vni key cause)
  frame : {chassis : Name} {x : Crossing} → IsWhole x.packet → IsNumbered keys (crosses chassis x) (effect.Frame x.home (datapath_key keys x.datapath) (port_key keys x.in_port) (aim_key keys x.aim) x.packet)
  to_backend : {a : Name} {vip backend : Backend} {vni : ℕ} → HasDatapathKey keys a vni → IsNumbered keys (picks_backend a vip backend) (effect.PickBackend vni vip backend)
  to_port : {a : Name} {port vni : ℕ} → HasDatapathKey keys a vni → IsNumbered keys (picks_port a port) (effect.PickPort vni port)
  lost : {n : ℕ} → IsNumbered keys (is_lost n) effect.Lost
