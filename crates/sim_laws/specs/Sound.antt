-- What holds of the births, of the crossings that wait and of their number, after every event.
use Rattle.std.specs.Prelude.{◌≡◌, ◌≢◌, ◌≤◌, ◌<◌, ◌+◌, ◌*◌, ◌^◌, ℕ, IsTrue, [], Some, Bool, false, Option, None, option_map}
use Rattle.std.specs.List.Sorted.{IsStrictlySortedBy}
use Rattle.std.specs.Map.{keys_of}
use Rattle.std.specs.Ordering.{nat_cmp}
use Rattle.ovn_base.specs.lists.Among.{Among}
use Rattle.ovn_base.specs.declared.name.Name.{Name}
use Rattle.inet_packet.specs.Whole.{IsWhole}
use Rattle.nb_records.specs.Network.{birth_of, empty_network, record_at, Network}
use Rattle.nb_records.specs.declared.kinds.Kind.{Kind}
use Rattle.nb_records.specs.declared.record.Record.{Record}
use Rattle.tunnel_keys.specs.Births.{AreKeysBorn}
use Rattle.tunnel_keys.specs.Keys.{Keys, held_datapaths, held_ports}
use Rattle.tunnel_keys.specs.declared.owner.HeldDatapath.{HeldDatapath}
use Rattle.tunnel_keys.specs.declared.owner.HeldPort.{HeldPort}
use Rattle.tunnel_keys.specs.declared.owner.Identity.{Identity}
use Rattle.net_model.specs.declared.crossing.Crossing.{Crossing}
use Rattle.net_model.specs.declared.crossing.Aim.{Aim}
use Rattle.net_model.specs.declared.crossing.Aim.TheVariants.{ToPort, ToGroup}
use Rattle.net_model.specs.Config.{router_identity}
use Rattle.net_model.specs.State.{State, event_count}
use Rattle.std.proofs.Math.Dec.{eqb as nat_eq}
use Rattle.ovn_base.specs.names.ByName.{at}
use Rattle.nb_records.specs.declared.router.Router.{Router}
use Rattle.nb_records.specs.declared.switch.Switch.{Switch}
use Rattle.ovn_base.specs.declared.address.Birth.{Birth}

-- the number of the event that added the record, if the record is there, is this one
abbrev pub has_birth : Option Birth → Birth → Bool
has_birth None birth = false
has_birth (Some own) birth = nat_eq own.0 birth.0

-- the switch of that identity is there
abbrev pub is_switch : Network → Identity → Bool
is_switch net id = has_birth (option_map (λ (s : Switch). s.birth) (at net.switches id.name)) id.birth

-- no record, no owner of a key and no datapath of a port's key is younger than the last event, and where no event was accepted
-- there is no record
pub record AreBorn (m : State) : Type 0 where
  pub records : (k : Kind) (q : Name) (r : Record) → record_at m.config.net k q ≡ Some r → (birth_of r).0 ≤ event_count m
  pub keys : AreKeysBorn m.keys (event_count m)
  pub none : m.accepted ≡ 0 → m.config.net ≡ empty_network

-- who an aim names has or had a key
abbrev pub HasAimKey : Keys → Aim → Type 0
HasAimKey keys (ToPort id) = (h : HeldPort) × Among h (held_ports keys) × (h.owner ≡ id)
HasAimKey keys (ToGroup g) = Unit {0}

-- Where the datapath's key is live, that datapath is a switch, and the port's key is one of that datapath.
abbrev pub IsOnLive : State → Identity → Identity → Type 0
IsOnLive m datapath port = IsTrue (is_switch m.config.net datapath) → (h : HeldPort) → Among h (held_ports m.keys) → h.owner ≡ port → h.datapath ≡ datapath

abbrev pub IsAimOnLive : State → Identity → Aim → Type 0
IsAimOnLive m datapath (ToPort id) = IsOnLive m datapath id
IsAimOnLive m datapath (ToGroup g) = Unit {0}

-- no router has the identity
abbrev pub IsNoRouter : Network → Identity → Type 0
IsNoRouter net id = (router : Router) → at net.routers id.name ≡ Some router → router_identity router ≢ id

-- A crossing may wait: its packet is whole, who it names has or had keys, it was sent in a switch, and it doesn't go back to its port of entry.
pub record MayWait (m : State) (x : Crossing) : Type 0 where
  pub whole : IsWhole x.packet
  pub datapath_key : (h : HeldDatapath) × Among h (held_datapaths m.keys) × (h.owner ≡ x.datapath)
  pub in_key : (h : HeldPort) × Among h (held_ports m.keys) × (h.owner ≡ x.in_port)
  pub aim_key : HasAimKey m.keys x.aim
  pub in_live : IsOnLive m x.datapath x.in_port
  pub aim_live : IsAimOnLive m x.datapath x.aim
  pub no_router : IsNoRouter m.config.net x.datapath
  pub no_return : x.aim ≢ ToPort x.in_port

-- the crossings that wait have numbers below the next one, each of its own
pub record AreCrossings (m : State) : Type 0 where
  pub in_order : IsStrictlySortedBy nat_cmp (keys_of m.waiting)
  pub below : (n : ℕ) (x : Crossing) → Among (n, x) m.waiting → n < m.next
  pub may : (n : ℕ) (x : Crossing) → Among (n, x) m.waiting → MayWait m x

-- between events: there weren't many, and where no event was accepted, none waits
pub record AreOnTheWay (m : State) : Type 0 where
  pub crossings : AreCrossings m
  pub few : m.next ≤ 1 + 2 ^ 64 * event_count m
  pub none : m.accepted ≡ 0 → m.waiting ≡ []
