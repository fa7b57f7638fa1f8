-- The numbers that stand in registers for names.
use Rattle.std.specs.Prelude.{◌≡◌, ◌<◌, ◌⊎◌, ℕ, true, List, Option, Some, None}
use Rattle.ovn_base.specs.declared.name.Name.{Name}
use Rattle.ovn_base.specs.declared.limits.TheConstants.{MAX_PORT_KEY}
use Rattle.ovn_base.specs.names.ByName.{at}
use Rattle.inet_packet.specs.declared.regs.Regs.{Regs}
use Rattle.inet_packet.specs.Whole.{IsWhole}
use Rattle.match_cubes.specs.Points.{Members, members_of}
use Rattle.match_cubes.specs.Suited.{HasFieldsInRange}
use Rattle.match_cubes.specs.declared.sets.Sets.{Sets}
use Rattle.nb_records.specs.Network.{Network}
use Rattle.nb_records.specs.declared.switch.SwitchPort.{SwitchPort}
use Rattle.nb_rules.specs.Valid.{IsValid}
use Rattle.tunnel_keys.specs.Keys.{Keys, IsKeys}
use Rattle.tunnel_keys.specs.declared.owner.DatapathKey.{DatapathKey}
use Rattle.tunnel_keys.specs.declared.owner.Identity.{Identity}
use Rattle.tunnel_keys.specs.declared.owner.PortKey.{PortKey}
use Rattle.flow_lowering.specs.Registers.{HasRegistersInRange}
use Rattle.net_model.specs.Config.{port_identity}
use Rattle.net_model.specs.Sights.{Sight, Roster, roster_of, is_live_one}

-- the number is the live key of the datapath
abbrev pub IsDatapathKey : Keys → Name → ℕ → Type 0
IsDatapathKey keys datapath n = (k : DatapathKey) × (at keys.datapaths datapath ≡ Some k) × (k.key ≡ n)

-- it is the live key of the port, which is one of the datapath
abbrev pub IsPortKey : Keys → Name → Name → ℕ → Type 0
IsPortKey keys datapath port n = (k : PortKey) × (at keys.ports port ≡ Some k) × (k.datapath ≡ datapath) × (k.key ≡ n)

-- The number stands for the port, or where there is none, as where a packet goes to a group, for no port: it is the live key of a name on
-- the datapath exactly where the name is now the port's.
pub record NumberStandsFor (keys : Keys) (who : Roster) (datapath : Name) (port : Option Identity) (n : ℕ) : Type 0 where
  pub named : (q : Name) → IsPortKey keys datapath q n → is_live_one port (who.live q) ≡ true
  pub numbered : (q : Name) → is_live_one port (who.live q) ≡ true → IsPortKey keys datapath q n

-- names of address sets and port groups stand for the same in both
pub record AreSameMembers (these those : Members) : Type 0 where
  pub entries : (name : List ℕ) → these.entries name ≡ those.entries name
  pub ports : (name : List ℕ) → these.ports name ≡ those.ports name

-- The packet is whole, and its registers have the numbers of where it is: of the datapath, of the port at which it came in, and of the one
-- to which it goes; and the sets are those of the network.
pub record HasNumbers (keys : Keys) (sets : Sets) (who : Roster) (datapath : Name) (regs : Regs) (sight : Sight) : Type 0 where
  pub on : IsDatapathKey keys datapath regs.dp
  pub came : NumberStandsFor keys who datapath (Some sight.in_port) regs.in_port
  pub goes : NumberStandsFor keys who datapath sight.out_port regs.out_port
  pub members : AreSameMembers who.members (members_of sets)
  pub within : HasRegistersInRange regs
  pub whole : IsWhole sight.packet

-- The same of a packet that need not be whole: no number is wider than its field.
pub record HasNumbersInRange (keys : Keys) (sets : Sets) (who : Roster) (datapath : Name) (regs : Regs) (sight : Sight) : Type 0 where
  pub on : IsDatapathKey keys datapath regs.dp
  pub came : NumberStandsFor keys who datapath (Some sight.in_port) regs.in_port
  pub goes : NumberStandsFor keys who datapath sight.out_port regs.out_port
  pub members : AreSameMembers who.members (members_of sets)
  pub within : HasRegistersInRange regs
  pub fields : HasFieldsInRange sight.packet

-- The live key of a switch's port stands for the port.
abbrev pub PortStandsLaw : Type 0
PortStandsLaw =
    (net : Network) (keys : Keys) → IsValid net → IsKeys keys → (i : SwitchPort) → at net.switch_ports i.name ≡ Some i
    → (n : ℕ) → IsPortKey keys i.switch i.name n → NumberStandsFor keys (roster_of net) i.switch (Some (port_identity i)) n

-- What is no key of ports, as 0 and the keys of groups, stands for none.
abbrev pub NoneStandsLaw : Type 0
NoneStandsLaw =
    (net : Network) (keys : Keys) → IsKeys keys → (datapath : Name) (n : ℕ) → (n ≡ 0) ⊎ (MAX_PORT_KEY < n) → NumberStandsFor keys (roster_of net) datapath None n
