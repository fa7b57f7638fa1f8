-- Which flow of a table is taken is told by rows that hold.
use Rattle.std.specs.Prelude.{◌≡◌, ◌<◌, ◌⊎◌, ℕ, List, Option, Some, option_map, unwrap_or}
use Rattle.std.proofs.Common.{sym, ap, ◌∙◌, subst, arith, inl, inr}
use Rattle.ovn_base.proofs.AmongLaws.{among_left, among_map}
use Rattle.ovn_base.proofs.ByNameLaws.{at_among}
use Rattle.ovn_base.specs.declared.name.Name.{Name}
use Rattle.ovn_base.specs.lists.Among.{Among}
use Rattle.ovn_base.specs.names.ByName.{at}
use Rattle.inet_packet.specs.declared.regs.Regs.{Regs}
use Rattle.flow_table.specs.Matching.{Matches, IsBest}
use Rattle.flow_table.specs.declared.flow.Flow.{Flow}
use Rattle.match_cubes.proofs.WholeLaws.{whole_in_range}
use Rattle.match_cubes.specs.declared.sets.Sets.{Sets}
use Rattle.nb_records.specs.Network.{Network}
use Rattle.logical_flows.specs.declared.flow.LFlow.{LFlow}
use Rattle.stage_rows.specs.Units.{IsPairedRow}
use Rattle.tunnel_keys.proofs.HeldKeys.{found}
use Rattle.tunnel_keys.specs.Keys.{Keys, held_datapath}
use Rattle.tunnel_keys.specs.declared.owner.DatapathKey.{DatapathKey}
use Rattle.tunnel_keys.specs.declared.owner.Identity.{Identity}
use Rattle.flow_lowering.proofs.LoweringLaws.{matches_alike, each_is_lowered}
use Rattle.flow_lowering.specs.LoweredFlows.{lowered_ops, live_datapath_key}
use Rattle.flow_lowering.specs.LoweringLaw.{LogicalFlowMatches}
use Rattle.net_model.specs.Sights.{Sight, Roster}
use Rattle.row_laws.proofs.lowered.InNames.{holds_same}
use Rattle.row_laws.specs.BestRow.{HoldsRows, IsOfBestRow, BestRowLaw, SomeMatchesLaw, NoneMatchesLaw}
use Rattle.row_laws.specs.Numbers.{HasNumbers, HasNumbersInRange}
use Rattle.row_laws.specs.Rows.{IsRowIn, RowHolds}

-- ---- the order of rows and of their flows

-- a flow beats another where its row outranks that one's
above_as : (p p' q q' m m' n n' : ℕ) → p ≡ q → p' ≡ q' → m ≡ n → m' ≡ n' → (q < q') ⊎ ((q ≡ q') × (n < n')) → (p < p') ⊎ ((p ≡ p') × (m < m'))
above_as p p' q q' m m' n n' a b c e (inl h) = inl (omega arith)
above_as p p' q q' m m' n n' a b c e (inr h) = inr (a ∙ h.0 ∙ sym b, omega (arith, h.1))

module _ (net : Network) (keys : Keys) (sets : Sets) (flows : List Flow) (table : ℕ) (rows : HoldsRows net keys sets flows table)
    (who : Roster) (d : Name) (regs : Regs) (s : Sight) (h : HasNumbersInRange keys sets who d regs s) where
  -- ---- the datapath

  key_is : (e : Name) (k : DatapathKey) → at keys.datapaths e ≡ Some k → live_datapath_key keys e ≡ k.key
  key_is e k is = ap (λ (o : Option DatapathKey). unwrap_or (option_map (λ (x : DatapathKey). x.key) o) 0) is

  on : regs.dp ≡ live_datapath_key keys d
  on = sym h.on.2 ∙ sym (key_is d h.on.0 h.on.1)

  -- a datapath with the number is the packet's
  one_datapath : (e : Name) (k : DatapathKey) → at keys.datapaths e ≡ Some k → regs.dp ≡ live_datapath_key keys e → e ≡ d
  one_datapath e k is number =
      let there = λ (n : Name) (x : DatapathKey) (at_n : at keys.datapaths n ≡ Some x). among_left (held_datapath (n, x)) _ keys.retired_datapaths (among_map held_datapath (n, x) keys.datapaths (at_among keys.datapaths n x at_n)) in
      ap (λ (i : Identity). i.name) (rows.can_lower.hold.datapaths_apart (held_datapath (e, k)) (held_datapath (d, h.on.0)) (there e k is) (there d h.on.0 h.on.1) (sym (key_is e k is) ∙ sym number ∙ sym h.on.2))

  -- ---- rows and flows

  -- a row that holds is a flow that matches
  record IsMatched (r : LFlow) : Type 0 where
    flow : Flow
    among : Among flow flows
    matching : Matches flow table regs s.packet
    priority : flow.priority ≡ r.priority
    rank : flow.rank ≡ r.rank

  matched : (r : LFlow) → IsRowIn net table d r → RowHolds who regs s r → IsMatched r
  matched r is k =
      let suited = rows.can_lower.suited r d is.pair in
      let logical : LogicalFlowMatches keys sets r d regs s.packet =
      record { on = on; registers = k.registers; matching = holds_same keys rows.can_lower.hold sets who d regs s h r.matching suited ∙ k.matching } in
      let some = (matches_alike keys sets r d suited regs s.packet h.within h.fields).1 logical in
      let low = each_is_lowered keys sets r d some.flow some.among in
      let in_table = low.in_table ∙ is.in_table in
      record {
        flow = some.flow;
        among = (rows.exactly some.flow in_table).1 (record { row = r; datapath = d; pair = is.pair; among = some.among });
        matching = record { in_table = in_table; fits = some.matches.fits };
        priority = low.priority;
        rank = low.rank;
      }

  -- and a flow that matches is a row that holds
  record IsHeld (f : Flow) : Type 0 where
    row : LFlow
    is_row : IsRowIn net table d row
    holds_here : RowHolds who regs s row
    priority : f.priority ≡ row.priority
    rank : f.rank ≡ row.rank
    ops : f.ops ≡ lowered_ops keys row.actions

  held : (f : Flow) → Among f flows → Matches f table regs s.packet → IsHeld f
  held f among m =
      let of = (rows.exactly f m.in_table).0 among in
      let low = each_is_lowered keys sets of.row of.datapath f of.among in
      let suited = rows.can_lower.suited of.row of.datapath of.pair in
      let logical = (matches_alike keys sets of.row of.datapath suited regs s.packet h.within h.fields).0
      (record { flow = f; among = of.among; matches = record { in_table = low.in_table; fits = m.fits } }) in
      let live = found (at keys.datapaths of.datapath) (rows.can_lower.live of.row of.datapath of.pair) in
      let there : of.datapath ≡ d = one_datapath of.datapath live.0 live.1 logical.on in
      let here : LogicalFlowMatches keys sets of.row d regs s.packet = subst (λ e. LogicalFlowMatches keys sets of.row e regs s.packet) there logical in
      record {
        row = of.row;
        is_row = record { pair = subst (λ e. IsPairedRow net of.row e) there of.pair; in_table = sym low.in_table ∙ m.in_table };
        holds_here = record { registers = here.registers; matching = sym (holds_same keys rows.can_lower.hold sets who d regs s h of.row.matching suited) ∙ here.matching };
        priority = low.priority;
        rank = low.rank;
        ops = low.ops;
      }

-- ---- the laws

-- a whole packet's numbers lie within their fields
in_range : {keys : Keys} {sets : Sets} {who : Roster} {d : Name} {regs : Regs} {s : Sight} → HasNumbers keys sets who d regs s → HasNumbersInRange keys sets who d regs s
in_range {s = s} h = record { on = h.on; came = h.came; goes = h.goes; members = h.members; within = h.within; fields = whole_in_range s.packet h.whole }

pub best_in_range : (net : Network) (keys : Keys) (sets : Sets) (flows : List Flow) (table : ℕ) → HoldsRows net keys sets flows table → (who : Roster) (d : Name) (regs : Regs) (s : Sight)
    → HasNumbersInRange keys sets who d regs s → (f : Flow) → IsBest flows table regs s.packet f → IsOfBestRow net keys who table d regs s f
best_in_range net keys sets flows table rows who d regs s h f best =
    let own = held net keys sets flows table rows who d regs s h f best.held best.matching in
    record {
      row = own.row;
      best = record {
        is_row = own.is_row;
        holds_here = own.holds_here;
        unbeaten = λ r is k above.
            let m = matched net keys sets flows table rows who d regs s h r is k in
            best.unbeaten m.flow m.among m.matching (above_as f.priority m.flow.priority own.row.priority r.priority f.rank m.flow.rank own.row.rank r.rank own.priority m.priority own.rank m.rank above);
      };
      ops = own.ops;
    }

pub best_row : BestRowLaw
best_row net keys sets flows table rows who d regs s h f best = best_in_range net keys sets flows table rows who d regs s (in_range h) f best

pub some_matches : SomeMatchesLaw
some_matches net keys sets flows table rows who d regs s h r is k none = let m = matched net keys sets flows table rows who d regs s (in_range h) r is k in none m.flow m.among m.matching

pub none_matches : NoneMatchesLaw
none_matches net keys sets flows table rows who d regs s h none f among m =
    let own = held net keys sets flows table rows who d regs s (in_range h) f among m in
    none own.row own.is_row own.holds_here
