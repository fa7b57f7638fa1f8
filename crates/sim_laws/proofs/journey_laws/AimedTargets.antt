-- What is known of a packet's target in a switch.
use Rattle.std.specs.Prelude.{◌&&◌, Option, Some, None, option_map}
use Rattle.std.specs.List.{filter}
use Rattle.inet_packet.specs.declared.packet.Packet.{Packet}
use Rattle.nb_records.specs.Network.{Network}
use Rattle.nb_records.specs.Switches.{enabled_ports, is_virtual, mac_of_ip, first_answer}
use Rattle.nb_records.specs.declared.switch.SwitchPort.{SwitchPort}
use Rattle.net_model.specs.Headers.{asked_ip}
use Rattle.net_model.specs.Targets.{Target, answer_from, to_one, to_group, to_nobody, answer_target, is_other, target_of}
use Rattle.net_model.specs.Trail.{given_or}
use Rattle.ovn_base.specs.declared.address.Ip4.{Ip4}
use Rattle.ovn_base.specs.declared.address.Mac.{Mac}
use Rattle.ovn_base.specs.lists.Among.{Among}
use Rattle.row_laws.specs.StageActions.{found_target}
use Rattle.sim_laws.proofs.pipelines.TargetKeys.{IsFoundTarget, found_so}

module _ (net : Network) (i : SwitchPort) (p : Packet) where
  -- one port is an enabled port of the switch
  abbrev pub Aims : Target → Type 0
  Aims (answer_from mac ip) = Unit {0}
  Aims (to_one q) = Among q (enabled_ports net i.switch)
  Aims (to_group g) = Unit {0}
  Aims to_nobody = Unit {0}

  found_aims : (t : Target) → IsFoundTarget net i.switch t → Aims t
  found_aims (answer_from mac ip) h = absurd h
  found_aims (to_one q) h = h
  found_aims (to_group g) h = tt
  found_aims to_nobody h = tt

  pub aims : Aims (target_of net i p)
  aims = by (asked_ip p)
    where
      found : Aims (found_target net i.switch p)
      found = found_aims (found_target net i.switch p) (found_so net i.switch p)

      by_answer : (ip : Ip4) → (o : Option Mac) → Aims (given_or (option_map (λ mac. answer_from mac ip) o) (found_target net i.switch p))
      by_answer ip None = found
      by_answer ip (Some mac) = tt

      by : (o : Option Ip4) → Aims (given_or (answer_target net i o) (found_target net i.switch p))
      by None = found
      by (Some ip) = by_answer ip (first_answer (mac_of_ip ip) (filter (λ q. is_virtual q && is_other i q) (enabled_ports net i.switch)))
