-- A packet at a stage of a switch, in names and words.
use Rattle.std.specs.Prelude.{◌≡◌, ℕ, Bool, true, false, Some}
use Rattle.ovn_base.specs.names.ByName.{at}
use Rattle.inet_packet.specs.declared.regs.Reg.TheVariants as reg
use Rattle.inet_packet.specs.declared.regs.Regs.{Regs}
use Rattle.inet_packet.specs.Whole.{IsWhole}
use Rattle.nb_records.specs.Network.{Network}
use Rattle.nb_records.specs.declared.switch.SwitchPort.{SwitchPort}
use Rattle.logical_flows.specs.declared.stage.Pipeline.{Pipeline}
use Rattle.logical_flows.specs.declared.stage.Pipeline.TheVariants.{Ingress, Egress}
use Rattle.flow_lowering.specs.Registers.{reg_number}
use Rattle.net_model.specs.Config.{port_identity}
use Rattle.net_model.specs.Sights.{Sight}
use Rattle.net_model.specs.Verdict.{Verdict, default, allow, allow_related, allow_stateless, reject, deny}

-- ---- words

-- what a connection list said of the packet; nothing, where it was not asked
pub data Finding : Type 0 where
  not_sought : Finding
  found_new : Finding
  found_forward : Finding
  found_reply : Finding
  found_invalid : Finding

-- what earlier stages found out: whether the packet is tracked, what the rules say, and what its connection list said
pub record Words : Type 0 where
  pub tracked : Bool
  pub verdict : Verdict
  pub finding : Finding
  pub blocked : Bool

-- ---- their numbers in registers

abbrev pub flag_number : Bool → ℕ
flag_number true = 1
flag_number false = 0

abbrev pub verdict_code : Verdict → ℕ
verdict_code default = 0
verdict_code allow = 1
verdict_code allow_related = 2
verdict_code allow_stateless = 3
verdict_code reject = 4
verdict_code deny = 5

abbrev pub finding_code : Finding → ℕ
finding_code not_sought = 0
finding_code found_new = 1
finding_code found_forward = 2
finding_code found_reply = 3
finding_code found_invalid = 4

-- the registers have the numbers of the words
pub record HaveWords (w : Words) (regs : Regs) : Type 0 where
  pub tracked : reg_number reg.Tracked regs ≡ flag_number w.tracked
  pub verdict : reg_number reg.Verdict regs ≡ verdict_code w.verdict
  pub finding : reg_number reg.State regs ≡ finding_code w.finding
  pub blocked : reg_number reg.Blocked regs ≡ flag_number w.blocked

-- ---- at a stage

-- a packet with what was found out of it, and the port of the switch at which it came in, or by which it leaves
pub record Copy : Type 0 where
  pub port : SwitchPort
  pub sight : Sight
  pub words : Words

-- in the ingress pipeline the port is that of entry, in the egress pipeline that of exit
abbrev pub IsPortOf : Pipeline → Copy → Type 0
IsPortOf Ingress c = c.sight.in_port ≡ port_identity c.port
IsPortOf Egress c = c.sight.out_port ≡ Some (port_identity c.port)

-- the copy is in a pipeline of the switch, and its registers have the numbers of its words
pub record IsAtPort (net : Network) (way : Pipeline) (c : Copy) (regs : Regs) : Type 0 where
  pub there : at net.switch_ports c.port.name ≡ Some c.port
  pub is_port : IsPortOf way c
  pub words : HaveWords c.words regs
  pub whole : IsWhole c.sight.packet
