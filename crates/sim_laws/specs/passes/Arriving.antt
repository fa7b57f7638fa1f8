-- The law of an arrival: the packet of a crossing, which comes out of a tunnel, goes on to its last end.
use Rattle.std.specs.Prelude.{◌≡◌, ◌≢◌, ℕ, true, [], ◌∷◌, Some, IsSome}
use Rattle.conn_zones.specs.Zoning.{GivenNumbers}
use Rattle.inet_packet.specs.Whole.{IsWhole}
use Rattle.net_model.specs.Arrival.{is_switch, arrival}
use Rattle.net_model.specs.Trail.{Lists}
use Rattle.net_model.specs.Visit.{passing_on}
use Rattle.net_model.specs.declared.crossing.Aim.{Aim}
use Rattle.net_model.specs.declared.crossing.Aim.TheVariants.{ToPort, ToGroup}
use Rattle.net_model.specs.declared.crossing.Crossing.{Crossing}
use Rattle.ovn_base.specs.declared.name.Name.{Name}
use Rattle.ovn_base.specs.lists.Among.{Among}
use Rattle.ovn_base.specs.names.ByName.{at}
use Rattle.switch_engine.specs.Walk.{start}
use Rattle.switch_engine.specs.Zones.{ZoneLists}
use Rattle.tunnel_keys.specs.Keys.{held_datapaths, held_ports, Keys}
use Rattle.tunnel_keys.specs.declared.owner.HeldDatapath.{HeldDatapath}
use Rattle.tunnel_keys.specs.declared.owner.HeldPort.{HeldPort}
use Rattle.tunnel_keys.specs.declared.owner.Identity.{Identity}
use Rattle.tunnel_keys.specs.declared.owner.PortKey.{PortKey}
use Rattle.sim_laws.specs.Sound.{HasAimKey, IsNoRouter}
use Rattle.sim_laws.specs.passes.Onward.{LeadsOn}
use Rattle.sim_laws.specs.passes.Physical.{IsWired, AreVirtual}
use Rattle.sim_laws.specs.passes.ToEnd.{EndsAs}
use Rattle.sim_laws.specs.pipelines.HeldLists.{HoldLists}
use Rattle.sim_laws.specs.pipelines.Standing.{Chassis, net_of, course_of, IsLaidOut}
use Rattle.sim_laws.specs.pipelines.WalkOn.{Comes}
use Rattle.switch_engine.specs.declared.effect.Entry.{Entry}
use Rattle.switch_engine.specs.declared.effect.Entry.TheVariants.{Tunnel}
use Rattle.sim_laws.specs.Effects.{datapath_key, port_key, aim_key}

-- how the frame of a crossing comes in
abbrev pub tunnel_entry_of : Keys → Crossing → Entry
tunnel_entry_of keys x = Tunnel (datapath_key keys x.datapath) (port_key keys x.in_port) (aim_key keys x.aim)

-- a live key of a port on a switch is that of a port of the records
abbrev pub AreOwned : Chassis → Type 0
AreOwned s = (q : Name) (k : PortKey) → at s.keys.ports q ≡ Some k → IsSome (at (net_of s).switches k.datapath) → IsSome (at (net_of s).switch_ports q)

-- where the datapath is a switch that is there, the port's key is one of that datapath
abbrev pub IsOnSwitch : Chassis → Identity → Identity → Type 0
IsOnSwitch s datapath port = is_switch (net_of s) datapath ≡ true → (h : HeldPort) → Among h (held_ports s.keys) → h.owner ≡ port → h.datapath ≡ datapath

abbrev pub IsAimOnSwitch : Chassis → Identity → Aim → Type 0
IsAimOnSwitch s datapath (ToPort id) = IsOnSwitch s datapath id
IsAimOnSwitch s datapath (ToGroup g) = Unit {0}

-- The crossing may arrive: its packet is whole, who it names has or had keys, it was sent in a switch, and it doesn't go back to its port of entry.
pub record MayArrive (s : Chassis) (x : Crossing) : Type 0 where
  pub whole : IsWhole x.packet
  pub datapath_key : (h : HeldDatapath) × Among h (held_datapaths s.keys) × (h.owner ≡ x.datapath)
  pub in_key : (h : HeldPort) × Among h (held_ports s.keys) × (h.owner ≡ x.in_port)
  pub aim_key : HasAimKey s.keys x.aim
  pub in_on : IsOnSwitch s x.datapath x.in_port
  pub aim_on : IsAimOnSwitch s x.datapath x.aim
  pub no_router : IsNoRouter (net_of s) x.datapath
  pub no_return : x.aim ≢ ToPort x.in_port

-- Whatever walk the packet of a crossing takes from its frame, it does what the network says of its arrival. It is lost where its switch is
-- gone, or where its port is gone or at home elsewhere, or everywhere: a distributed router is entered where the packet was sent, and a gateway router on
-- its own chassis. Nobody has a live key of a port on a switch but the ports of the records.
abbrev pub ArrivingOnLaw : Type 0
ArrivingOnLaw =
    (s : Chassis) → IsLaidOut s → (numbers : GivenNumbers) → IsWired s numbers → AreOwned s
    → (n : ℕ) (x : Crossing) → MayArrive s x → LeadsOn s (passing_on s.scene) x.datapath.name 0 → s.entry ≡ tunnel_entry_of s.keys x
    → (lists : Lists) (zones : ZoneLists) → HoldLists s.number zones lists
    → Comes (course_of s) zones (start (tunnel_entry_of s.keys x) x.packet ∷ []) (EndsAs s (λ t. arrival s.scene n x t) lists)

-- So it is where no port of the datapath leads to a router.
abbrev pub ArrivingLaw : Type 0
ArrivingLaw =
    (s : Chassis) → IsLaidOut s → (numbers : GivenNumbers) → IsWired s numbers → AreOwned s
    → (n : ℕ) (x : Crossing) → MayArrive s x → AreVirtual s x.datapath.name → s.entry ≡ tunnel_entry_of s.keys x
    → (lists : Lists) (zones : ZoneLists) → HoldLists s.number zones lists
    → Comes (course_of s) zones (start (tunnel_entry_of s.keys x) x.packet ∷ []) (EndsAs s (λ t. arrival s.scene n x t) lists)
