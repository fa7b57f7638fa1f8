-- Journeys only add.
use Rattle.std.specs.Prelude.{◌≡◌, ◌++◌, ℕ, zero, suc, Bool, true, false, List, [], ◌∷◌, Option, Some, None, refl}
use Rattle.std.proofs.Common.{sym, ap, ◌∙◌, append_assoc, append-nil}
use Rattle.std.specs.Option.{option_and_then}
use Rattle.inet_packet.specs.declared.packet.Packet.{Packet}
use Rattle.nb_records.specs.declared.switch.SwitchPort.{SwitchPort}
use Rattle.ovn_base.specs.declared.limits.TheConstants.{MAX_ARRIVALS}
use Rattle.ovn_base.specs.declared.name.Name.{Name}
use Rattle.ovn_base.specs.names.ByName.{at}
use Rattle.net_model.proofs.LeadLaws.{is_later}
use Rattle.net_model.proofs.VisitLeads.{visit_later, arrival_later}
use Rattle.net_model.specs.Entry.{Scene}
use Rattle.net_model.specs.Journey.{Journey, Scenes, without_ends, go, goes_in, waiting_at, takes_off, kept_or_not, arrive_at, comes_as, comes, drain_from, drain, drain_all, Traffic, enter_one, arrive_one, lose_one, arrive_all, enter_and_arrive, Places, enter_by, enter_on, enter_at, travel}
use Rattle.net_model.specs.Leads.{stays, tells, IsLater}
use Rattle.net_model.specs.Trail.{Trail, End, is_lost}
use Rattle.net_model.specs.declared.crossing.Crossing.{Crossing}

-- ---- later trails

same_later : (t : Trail) → IsLater t t
same_later t = record { ends = ([], sym (append-nil t.ends)); legal = λ l. l; owners = refl }

later_still : (t u v : Trail) → IsLater t u → IsLater u v → IsLater t v
later_still t u v a b = record {
  ends = (a.ends.0 ++ b.ends.0, b.ends.1 ∙ ap (λ (es : List End). es ++ b.ends.0) a.ends.1 ∙ append_assoc t.ends a.ends.0 b.ends.0);
  legal = λ l. a.legal (b.legal l);
  owners = b.owners ∙ a.owners;
}

-- ---- one packet

go_later : (way : Trail → Trail) → ((t : Trail) → IsLater t (way t)) → (j : Journey) → IsLater j.trail (go way j).trail
go_later way later j =
    let one = later (without_ends j.trail) in
    record { ends = ((way (without_ends j.trail)).ends, refl); legal = one.legal; owners = one.owners }

goes_in_later : (scene : Scene) (i : SwitchPort) (p : Packet) (j : Journey) → IsLater j.trail (goes_in scene i p j).trail
goes_in_later scene i p j = go_later _ (λ t. visit_later scene i t p) j

arrive_later : (o : Option Scene) (n : ℕ) (x : Crossing) (t : Trail) → IsLater t (arrive_at o n x t)
arrive_later None n x t = is_later {now = 0} (tells (is_lost n) stays)
arrive_later (Some scene) n x t = arrival_later scene n x t

kept_trail : (keep : Bool) (n : ℕ) (j : Journey) → (kept_or_not keep n j).trail ≡ j.trail
kept_trail true n j = refl
kept_trail false n j = refl

comes_as_later : (scenes : Scenes) (n : ℕ) (keep : Bool) (o : Option Crossing) (j : Journey) → IsLater j.trail (comes_as scenes n keep o j).trail
comes_as_later scenes n keep None j = same_later j.trail
comes_as_later scenes n true (Some x) j = go_later (arrive_at (scenes x.home) n x) (arrive_later (scenes x.home) n x) j
comes_as_later scenes n false (Some x) j = go_later (arrive_at (scenes x.home) n x) (arrive_later (scenes x.home) n x) (takes_off n j)

comes_later : (scenes : Scenes) (n : ℕ) (keep : Bool) (j : Journey) → IsLater j.trail (comes scenes n keep j).trail
comes_later scenes n keep j = comes_as_later scenes n keep (waiting_at j.waiting n) j

-- ---- many

drain_later : (k : ℕ) (scenes : Scenes) (j : Journey) → IsLater j.trail (drain k scenes j).trail
drain_later zero scenes j = same_later j.trail
drain_later (suc k) scenes j = by (drain k scenes) (drain_later k scenes) j.waiting
  where
    by : (others : Journey → Journey) → ((i : Journey) → IsLater i.trail (others i).trail) → (waiting : List (ℕ × Crossing)) → IsLater j.trail (drain_from others scenes waiting j).trail
    by others later [] = same_later j.trail
    by others later (w ∷ waiting) = let first = comes scenes w.0 false j in later_still j.trail first.trail (others first).trail (comes_later scenes w.0 false j) (later first)

drain_all_later : (scenes : Scenes) (j : Journey) → IsLater j.trail (drain_all scenes j).trail
drain_all_later scenes j = drain_later MAX_ARRIVALS scenes j

-- ---- what an event asks

enter_by_later : (scene : Scene) (o : Option SwitchPort) (p : Packet) (j : Journey) → IsLater j.trail (enter_by scene o p j).trail
enter_by_later scene None p j = same_later j.trail
enter_by_later scene (Some i) p j = goes_in_later scene i p j

enter_on_later : (o : Option Scene) (port : Name) (p : Packet) (j : Journey) → IsLater j.trail (enter_on o port p j).trail
enter_on_later None port p j = same_later j.trail
enter_on_later (Some scene) port p j = enter_by_later scene (at scene.config.net.switch_ports port) p j

enter_at_later : (places : Places) (port : Name) (p : Packet) (j : Journey) → IsLater j.trail (enter_at places port p j).trail
enter_at_later places port p j = enter_on_later (option_and_then places.scenes (at places.bindings port)) port p j

pub travel_later : (places : Places) (traffic : Traffic) (j : Journey) → IsLater j.trail (travel places traffic j).trail
travel_later places (enter_one port p) j = enter_at_later places port p j
travel_later places (arrive_one n keep) j = comes_later places.scenes n keep j
travel_later places (lose_one n) j = same_later j.trail
travel_later places arrive_all j = drain_all_later places.scenes j
travel_later places (enter_and_arrive port p) j =
    let entered = enter_at places port p j in
    later_still j.trail entered.trail (drain_all places.scenes entered).trail (enter_at_later places port p j) (drain_all_later places.scenes entered)
