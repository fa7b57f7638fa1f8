-- Whatever an event does, the connection lists stay ones, with no last use after the clock.
use Rattle.std.specs.Prelude.{◌≡◌, ℕ, true, false, List}
use Rattle.std.proofs.Common.{sym, subst}
use Rattle.edit_reader.specs.declared.event.Event.{Event}
use Rattle.edit_reader.specs.declared.event.Event.TheVariants.{Edit, Bind, Unbind, AddChassis, RemoveChassis, Keys, Health, Clock, Inject, Deliver, Lose, Repeat, Drain, Packet, Unread}
use Rattle.inet_packet.specs.declared.packet.Packet as inet
use Rattle.net_model.proofs.ListJourneys.{travels_keep}
use Rattle.net_model.proofs.ListLaws.{turned_keep, clocked_keep}
use Rattle.net_model.specs.Journey.{Traffic, enter_one, arrive_one, lose_one, arrive_all, enter_and_arrive}
use Rattle.net_model.specs.ListsAt.{AreListsAt}
use Rattle.net_model.specs.State.{State}
use Rattle.net_model.specs.Transition.{Turn, turned_by, edit, bind, unbind, add_chassis, remove_chassis, mark_backend}
use Rattle.switch_engine.specs.declared.effect.NetEffect.{NetEffect}
use Rattle.world_setup.specs.Editing.{next_net}
use Rattle.world_setup.specs.Step.{Does, Moves, Sends}

-- in this state they are
abbrev Lists : State → Type 0
Lists m = AreListsAt m.clock m.lists

module _ (m : State) (effects : List NetEffect) (after : State) (are : Lists m) where
  moved : (traffic : Traffic) → Moves m traffic effects after → Lists after
  moved traffic moves = travels_keep m traffic moves.ends after moves.travels are

  sent : (frame : List ℕ) (asks : inet.Packet → Traffic) → Sends m frame asks effects after → Lists after
  sent frame asks sends = moved (asks sends.packet) sends.moves

  turned : (turn : Turn) → after ≡ turned_by turn m → Lists after
  turned turn is = subst Lists (sym is) (turned_keep turn m are)

  pub does_keep : (event : Event) → Does m event effects after → Lists after
  does_keep (Edit ops) does = subst Lists (sym does.state) (turned_keep (edit m.config (next_net m ops)) m are)
  does_keep (Bind p chassis) does = turned (bind m.config p chassis) does.1
  does_keep (Unbind p) does = turned (unbind m.config p) does.1
  does_keep (AddChassis chassis) does = turned (add_chassis m.config chassis) does.1
  does_keep (RemoveChassis chassis) does = turned (remove_chassis m.config chassis) does.1
  does_keep (Keys datapaths ports) does = subst Lists (sym does.1) are
  does_keep (Health balancer backend online) does = turned (mark_backend m.config balancer backend online) does.1
  does_keep (Clock seconds) does = subst Lists (sym does.1) (clocked_keep seconds m are)
  does_keep (Inject p frame) does = sent frame (enter_one p) does
  does_keep (Deliver n) does = moved (arrive_one n false) does
  does_keep (Lose n) does = moved (lose_one n) does
  does_keep (Repeat n) does = moved (arrive_one n true) does
  does_keep Drain does = moved arrive_all does
  does_keep (Packet p frame) does = sent frame (enter_and_arrive p) does
  does_keep (Unread fault) does = absurd does
