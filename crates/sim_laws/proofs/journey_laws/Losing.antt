-- A frame that is lost on the simulated chassis is its crossing, that waits no more.
use Rattle.std.specs.Prelude.{ℕ, false}
use Rattle.std.specs.BTreeMap.{is_at}
use Rattle.std.specs.Map.{remove_entry}
use Rattle.std.specs.Ordering.{nat_cmp}
use Rattle.std.proofs.Common.{sym, ap, ◌∙◌, append-nil, arith}
use Rattle.net_model.specs.declared.crossing.Crossing.{Crossing}
use Rattle.sim_laws.proofs.WaitingCrossings.{crossings_kept}
use Rattle.sim_laws.proofs.WaitingLists.{removed_map}
use Rattle.sim_laws.proofs.journey_laws.Telling.{held_with}
use Rattle.sim_laws.specs.Held.{frame_of_crossing}
use Rattle.sim_laws.specs.journeys.Moves.{journey_in}
use Rattle.sim_laws.specs.journeys.Refining.{without_crossing, LossJourneyLaw}

pub loses_so : LossJourneyLaw
loses_so m zones sets more s n u h = (
  record {
    is = λ choices before. ap (journey_in (without_crossing m n) choices) (sym (append-nil before));
    rest = ap (λ (k : ℕ). record m { waiting = remove_entry (is_at (nat_cmp n)) m.waiting; next = k }) (omega arith);
  },
  record {
    valid = u.valid;
    keys = u.keys;
    bound = u.bound;
    bound_virtual = u.bound_virtual;
    at_home = u.at_home;
    born = record { records = u.born.records; keys = u.born.keys; none = u.born.none };
    crossings = crossings_kept false m n u.crossings;
    few = u.few;
    few_sent = u.few_sent;
  },
  held_with m zones.numbers sets s h m.lists (remove_entry (is_at (nat_cmp n)) m.waiting) m.next s.zones (remove_entry (is_at (nat_cmp n)) s.waiting) s.next h.zones h.zoned
      (ap (λ ws. remove_entry (is_at (nat_cmp n)) ws) h.waiting ∙ removed_map (λ (x : Crossing). (frame_of_crossing m.keys (0, x)).1) m.waiting n) h.next,
)
