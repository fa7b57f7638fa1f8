-- Ports that are bound.
use Rattle.std.specs.Prelude.{◌≡◌, true, false, Option, None, Some, is_none, is_some, not, refl}
use Rattle.std.proofs.Common.{sym, ap, ◌∙◌}
use Rattle.std.proofs.lemmas.Bool.{false≢true}
use Rattle.chassis_sim.specs.State.{at_name}
use Rattle.net_model.specs.State.{State}
use Rattle.ovn_base.specs.declared.name.Name.{Name}
use Rattle.ovn_base.specs.names.ByName.{at}
use Rattle.physical_flows.proofs.FlowSearch.{some_of}
use Rattle.sim_laws.proofs.journey_laws.Finishing.{begins}
use Rattle.world_core.specs.StepParts.{IsTaken}
use Rattle.world_core.specs.WorldView.{WorldView}
use Rattle.world_setup.specs.Refusing.{is_virtual_port}

-- the simulated chassis hold each
pub bound_as_held : (w : WorldView) (port : Name) → IsTaken w → not (is_some (at_name w.sim.bindings port)) ≡ is_none (at w.state.config.bindings port)
bound_as_held w port t = ap (λ o. not (is_some o)) (t.held.bindings port) ∙ not_some (at w.state.config.bindings port)
  where
    not_some : (o : Option Name) → not (is_some o) ≡ is_none o
    not_some None = refl
    not_some (Some chassis) = refl

-- each is a virtual port that is there
pub bound_is_virtual : (w : WorldView) (port : Name) → IsTaken w → false ≡ is_none (at w.state.config.bindings port) → true ≡ is_virtual_port (at w.state.config.net.switch_ports port)
bound_is_virtual w port t bound = by (at w.state.config.bindings port) refl bound
  where
    m : State
    m = w.state

    by : (o : Option Name) → at m.config.bindings port ≡ o → false ≡ is_none o → true ≡ is_virtual_port (at m.config.net.switch_ports port)
    by None is h = absurd (false≢true h)
    by (Some chassis) is h =
        let u = begins m w.zones t.consistent.at_rest in
        let there = some_of (at m.config.net.switch_ports port) (u.bound.port_there port chassis is) in
        sym (ap is_virtual_port there.1 ∙ u.bound_virtual port chassis there.0 is there.1)
