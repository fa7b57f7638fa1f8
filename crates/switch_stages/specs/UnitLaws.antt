-- When a network admits a unit of a switch's port, and the law of each unit: where what it reads is the same, it reads the same and
-- has the same rows.
use Rattle.std.specs.Prelude.{◌≡◌, Some, None}
use Rattle.ovn_base.specs.declared.name.Name.{Name}
use Rattle.ovn_base.specs.names.ByName.{at}
use Rattle.nb_records.specs.Grammar.{IsSwitchPort}
use Rattle.nb_records.specs.Network.{Network}
use Rattle.nb_records.specs.declared.switch.SwitchPort.{SwitchPort}
use Rattle.logical_flows.specs.declared.unit.UnitId.{UnitId}
use Rattle.logical_flows.specs.declared.unit.UnitId.TheVariants.{Port, Switch}
use Rattle.stage_rows.proofs.ReadsLaws.{reads_law}
use Rattle.stage_rows.specs.Admitting.{Admits, of_switch, AdmitsSwitch}
use Rattle.stage_rows.specs.Reads.{reads_of, AgreeOnReads}
use Rattle.stage_rows.specs.Units.{rows_of}

-- the port is there, and is one of a switch
pub record AdmitsSwitchPort (net : Network) (name : Name) : Type 0 where
  pub port : SwitchPort
  pub there : at net.switch_ports name ≡ Some port
  pub only : at net.router_ports name ≡ None
  pub is_port : IsSwitchPort port

-- it is then admitted as a port
pub admitted : (net : Network) (name : Name) → AdmitsSwitchPort net name → Admits net (Port name)
admitted net name a = of_switch a.port a.there a.only a.is_port

-- the unit reads the same in both, and has the same rows
abbrev pub ReadsSame : Network → Network → UnitId → Type 0
ReadsSame f g u = (reads_of f u ≡ reads_of g u) × (rows_of f u ≡ rows_of g u)

pub port_law : (f g : Network) (name : Name) → AdmitsSwitchPort f name → AdmitsSwitchPort g name → AgreeOnReads f g (Port name) → ReadsSame f g (Port name)
port_law f g name a b same = let h = reads_law f g (Port name) (admitted f name a) (admitted g name b) same in (h.reads, h.rows)

pub switch_law : (f g : Network) (name : Name) → AdmitsSwitch f name → AdmitsSwitch g name → AgreeOnReads f g (Switch name) → ReadsSame f g (Switch name)
switch_law f g name a b same = let h = reads_law f g (Switch name) a b same in (h.reads, h.rows)
