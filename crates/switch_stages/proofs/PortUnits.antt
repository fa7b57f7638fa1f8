-- The rows of a port that is found under its name.
use Rattle.std.specs.Prelude.{◌≡◌, ◌++◌, List, [], flat_map, Option, Some, None}
use Rattle.std.proofs.Common.{ap, sym, ◌∙◌, append_assoc, append-nil}
use Rattle.ovn_base.specs.declared.name.Name.{Name}
use Rattle.ovn_base.specs.names.ByName.{at}
use Rattle.nb_records.specs.Network.{Network}
use Rattle.nb_records.specs.declared.switch.SwitchPort.{SwitchPort}
use Rattle.logical_flows.specs.declared.stage.Stage.{Stage}
use Rattle.logical_flows.specs.declared.unit.UnitId.TheVariants.{Port}
use Rattle.stage_rows.specs.SwitchRows.{port_admit, port_port_security, port_track, port_arp, port_lookup, port_track_out, port_security_out}
use Rattle.stage_rows.specs.Units.{rows_of, all_stages, switch_port_rows, port_rows}
use Rattle.switch_stages.specs.PortRows.{listed_rows}
use Rattle.switch_stages.specs.UnitLaws.{AdmitsSwitchPort}

-- seven lists one behind the other, and the same by their first five and their last two
joined : {X : Type 0} (a b c d e f g : List X) → a ++ (b ++ (c ++ (d ++ (e ++ (f ++ (g ++ [])))))) ≡ (a ++ b ++ c ++ d ++ e) ++ (f ++ g)
joined a b c d e f g = simp (append_assoc, append-nil)

by_stage : (net : Network) (q : SwitchPort) → flat_map (λ s. switch_port_rows s net q) all_stages ≡ listed_rows net q
by_stage net q = joined (port_admit q) (port_port_security q) (port_track net q) (port_arp q) (port_lookup net q) (port_track_out net q) (port_security_out q)

-- of the record that is found under the port's name
pub rows_of_found : (net : Network) (name : Name) (q : SwitchPort) → Some q ≡ at net.switch_ports name → rows_of net (Port name) ≡ listed_rows net q
rows_of_found net name q h =
    ap (λ (o : Option SwitchPort). flat_map (λ (s : Stage). port_rows s net o (at net.router_ports name)) all_stages) (sym h) ∙ by_stage net q

some_is_none : {A : Type 0} (x : A) → Some x ≡ None → ⊥
some_is_none x h = cc

pub is_found : (net : Network) (name : Name) → AdmitsSwitchPort net name → None ≡ at net.switch_ports name → ⊥
is_found net name a h = some_is_none a.port (sym a.there ∙ sym h)
