-- The rows of each table around the pipelines, as sets: a constructor for each kind of row.
use Rattle.std.specs.Prelude.{◌≡◌, ◌≢◌, ℕ, Bool, true, false, List, map, Option, Some, None, unwrap_or}
use Rattle.ovn_base.specs.declared.name.Name.{Name}
use Rattle.flow_table.specs.declared.flow.Flow.{Flow}
use Rattle.flow_table.specs.declared.flow.Member.{Member}
use Rattle.ovn_base.specs.names.ByName.{at}
use Rattle.conn_zones.specs.Zoning.{GivenNumbers, number_on}
use Rattle.conn_zones.specs.declared.numbers.ZoneUse.{ZoneUse}
use Rattle.conn_zones.specs.declared.numbers.ZoneUse.TheVariants.{Port, Dnat, Snat}
use Rattle.nb_records.specs.Network.{Network}
use Rattle.nb_records.specs.Routers.{Partner, switch_side, router_side, partner_of_router_port, partner_of_switch_port}
use Rattle.nb_records.specs.Switches.{is_virtual}
use Rattle.nb_records.specs.declared.router.Router.{Router}
use Rattle.nb_records.specs.declared.router.RouterPort.{RouterPort}
use Rattle.nb_records.specs.declared.switch.Switch.{Switch}
use Rattle.nb_records.specs.declared.switch.SwitchPort.{SwitchPort}
use Rattle.tunnel_keys.specs.Keys.{Keys}
use Rattle.tunnel_keys.specs.declared.owner.DatapathKey.{DatapathKey}
use Rattle.tunnel_keys.specs.declared.owner.PortKey.{PortKey}
use Rattle.net_model.specs.Config.{Config, Home, on, everywhere, home_of, home_of_router_port}
use Rattle.net_model.specs.declared.crossing.Group.{Group}
use Rattle.physical_flows.specs.Homes.{members_at, homes_at}
use Rattle.physical_flows.specs.declared.beyond.Beyond.{Beyond}
use Rattle.physical_flows.specs.Numbers.{datapath_number, port_number}
use Rattle.physical_flows.specs.Rows.{entry_row, arrival_row, remote_row, spread_row, stay_row, home_row, pass_row, enter_row, copies_row, return_row, leave_row, output_row, patch_row, no_peer_row}

-- what the flows of a chassis follow from: its name, all chassis, the records, the chassis of each bound port, the keys, and the
-- numbers of the zones
pub record Basis : Type 0 where
  pub chassis : Name
  pub all : List Name
  pub net : Network
  pub bindings : List (Name × Name)
  pub keys : Keys
  pub zones : GivenNumbers

abbrev pub config_of : Basis → Config
config_of b = record { net = b.net; chassis = b.all; bindings = b.bindings }

-- ---- switches and their ports

-- a is a switch, and dp its key
pub record IsDatapath (b : Basis) (a : Name) (dp : ℕ) : Type 0 where
  pub switch : Switch
  pub there : at b.net.switches a ≡ Some switch
  pub live : DatapathKey
  pub has : at b.keys.datapaths a ≡ Some live
  pub number : live.key ≡ dp

-- q is the port, key is its key, and dp that of its switch
pub record IsPort (b : Basis) (q : Name) (port : SwitchPort) (dp key : ℕ) : Type 0 where
  pub there : at b.net.switch_ports q ≡ Some port
  pub on : IsDatapath b port.switch dp
  pub live : PortKey
  pub has : at b.keys.ports q ≡ Some live
  pub number : live.key ≡ key

-- the number of a zone on this chassis, and of a port's
abbrev pub number_here : Basis → ZoneUse → Option ℕ
number_here b z = number_on b.zones b.chassis z

abbrev pub zone_of : Basis → Name → Option ℕ
zone_of b q = number_here b (Port q)

-- the port is bound to this chassis, where it has the zone
pub record IsHere (b : Basis) (q : Name) (zone : ℕ) : Type 0 where
  pub bound : at b.bindings q ≡ Some b.chassis
  pub zoned : zone_of b q ≡ Some zone

-- The members of a group that are reached on this chassis, each with its key and its zone, in order of name. Who has no zone has 0 in its place.
abbrev pub member_of : Basis → Name → Member
member_of b q = record { key = unwrap_or (port_number b.keys q) 0; zone = unwrap_or (zone_of b q) 0 }

abbrev pub members_here : Basis → Name → Group → Bool → List Member
members_here b a group arrived = map (λ (q : SwitchPort). member_of b q.name) (members_at (config_of b) a group arrived b.chassis)

-- the other chassis that have a member of the group
abbrev pub homes_of : Basis → Name → Group → List Name
homes_of b a group = homes_at (config_of b) a group b.chassis

-- ---- routers and ports that lead into another datapath

-- a is a router, and dp its key
pub record IsRouter (b : Basis) (a : Name) (dp : ℕ) : Type 0 where
  pub router : Router
  pub there : at b.net.routers a ≡ Some router
  pub live : DatapathKey
  pub has : at b.keys.datapaths a ≡ Some live
  pub number : live.key ≡ dp

-- q is the router port, key is its key, and dp that of its router
pub record IsRouterPort (b : Basis) (q : Name) (port : RouterPort) (dp key : ℕ) : Type 0 where
  pub there : at b.net.router_ports q ≡ Some port
  pub on : IsRouter b port.router dp
  pub live : PortKey
  pub has : at b.keys.ports q ≡ Some live
  pub number : live.key ≡ key

-- What the tables ask of a port that leads into another datapath, a patch port: its keys, its home, and its partner there.
pub record PatchPort : Type 0 where
  pub dp : ℕ
  pub key : ℕ
  pub home : Home
  pub partner : Option Partner

-- such are the ports of switches that lead to routers, and those of routers
abbrev pub switch_patch : Basis → SwitchPort → ℕ → ℕ → PatchPort
switch_patch b port dp key = record { dp = dp; key = key; home = home_of (config_of b) port; partner = partner_of_switch_port b.net port }

abbrev pub router_patch : Basis → RouterPort → ℕ → ℕ → PatchPort
router_patch b port dp key = record { dp = dp; key = key; home = home_of_router_port (config_of b) port; partner = partner_of_router_port b.net port }

pub data IsPatchPort (b : Basis) (x : PatchPort) : Type 0 where
  to_router : (q : Name) (port : SwitchPort) (dp key : ℕ) → IsPort b q port dp key → is_virtual port ≡ false → x ≡ switch_patch b port dp key → IsPatchPort b x
  of_router : (q : Name) (port : RouterPort) (dp key : ℕ) → IsRouterPort b q port dp key → x ≡ router_patch b port dp key → IsPatchPort b x

-- Where a packet comes in that passes to the partner: by the partner's keys, with the zones of a gateway router that is at home on this chassis, 0
-- where there are none.
abbrev pub beyond : Basis → Partner → Beyond
beyond b (switch_side q) = record { dp = unwrap_or (datapath_number b.keys q.switch) 0; in_port = unwrap_or (port_number b.keys q.name) 0; z_dnat = 0; z_snat = 0 }
beyond b (router_side r) = record {
  dp = unwrap_or (datapath_number b.keys r.router) 0;
  in_port = unwrap_or (port_number b.keys r.name) 0;
  z_dnat = unwrap_or (number_here b (Dnat r.router)) 0;
  z_snat = unwrap_or (number_here b (Snat r.router)) 0;
}

-- ---- the tables

-- table 0: entry
pub data EntryRow (b : Basis) (f : Flow) : Type 0 where
  entry : (q : Name) (port : SwitchPort) (dp key zone : ℕ) → IsPort b q port dp key → IsHere b q zone → f ≡ entry_row q dp key zone → EntryRow b f
  arrival : f ≡ arrival_row → EntryRow b f

-- table 32: other chassis
pub data RemoteRow (b : Basis) (f : Flow) : Type 0 where
  remote : (q : Name) (port : SwitchPort) (dp key : ℕ) (home : Name) → IsPort b q port dp key → at b.bindings q ≡ Some home → home ≢ b.chassis → f ≡ remote_row dp key home → RemoteRow b f
  away : (x : PatchPort) (home : Name) → IsPatchPort b x → x.home ≡ on home → home ≢ b.chassis → f ≡ remote_row x.dp x.key home → RemoteRow b f
  spread : (a : Name) (dp : ℕ) (group : Group) → IsDatapath b a dp → f ≡ spread_row dp group (homes_of b a group) → RemoteRow b f
  stay : f ≡ stay_row → RemoteRow b f

-- table 33: home
pub data HomeRow (b : Basis) (f : Flow) : Type 0 where
  home : (q : Name) (port : SwitchPort) (dp key zone : ℕ) → IsPort b q port dp key → IsHere b q zone → f ≡ home_row dp key zone → HomeRow b f
  passes : (x : PatchPort) → IsPatchPort b x → x.home ≡ on b.chassis → f ≡ pass_row x.dp x.key → HomeRow b f
  enters : (x : PatchPort) → IsPatchPort b x → x.home ≡ everywhere → f ≡ enter_row x.dp x.key → HomeRow b f
  copies : (a : Name) (dp : ℕ) (group : Group) (arrived : Bool) → IsDatapath b a dp → f ≡ copies_row dp group arrived (members_here b a group arrived) → HomeRow b f

-- table 34: no way back
pub data ReturnRow (b : Basis) (f : Flow) : Type 0 where
  back : (q : Name) (port : SwitchPort) (dp key : ℕ) → IsPort b q port dp key → f ≡ return_row dp key → ReturnRow b f
  back_in : (q : Name) (port : RouterPort) (dp key : ℕ) → IsRouterPort b q port dp key → f ≡ return_row dp key → ReturnRow b f
  leave : f ≡ leave_row → ReturnRow b f

-- table 64: output
pub data OutputRow (b : Basis) (f : Flow) : Type 0 where
  output : (q : Name) (port : SwitchPort) (dp key : ℕ) → IsPort b q port dp key → is_virtual port ≡ true → f ≡ output_row dp q key → OutputRow b f
  patch : (x : PatchPort) (partner : Partner) → IsPatchPort b x → x.partner ≡ Some partner → f ≡ patch_row x.dp x.key (beyond b partner) → OutputRow b f
  no_peer : (x : PatchPort) → IsPatchPort b x → x.partner ≡ None → f ≡ no_peer_row x.dp x.key → OutputRow b f
