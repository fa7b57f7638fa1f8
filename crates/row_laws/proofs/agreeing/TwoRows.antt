-- Two rows of a table that may be taken: they have one priority and one rank.
use Rattle.std.specs.Prelude.{◌≡◌, ℕ, true, Some}
use Rattle.std.proofs.Common.{sym, inl, inr}
use Rattle.std.proofs.lemmas.Bool.{cases_order}
use Rattle.ovn_base.specs.declared.name.Name.{Name}
use Rattle.ovn_base.specs.names.ByName.{at}
use Rattle.inet_packet.specs.declared.regs.Regs.{Regs}
use Rattle.match_cubes.specs.Suited.{HasFieldsInRange}
use Rattle.nb_records.specs.Network.{Network}
use Rattle.nb_records.specs.declared.switch.Switch.{Switch}
use Rattle.nb_rules.specs.Valid.{IsValid}
use Rattle.logical_flows.specs.Stages.{stage_table}
use Rattle.logical_flows.specs.declared.flow.LFlow.{LFlow}
use Rattle.logical_flows.specs.declared.stage.Stage.{Stage}
use Rattle.tunnel_keys.proofs.HeldKeys.{found}
use Rattle.net_model.specs.Sights.{Sight, Roster, roster_of}
use Rattle.row_laws.proofs.units.RowUnits.{SwitchRow, row_unit}
use Rattle.row_laws.proofs.units.StageRows.{is_of_switches}
use Rattle.row_laws.specs.AgreeAnywhere.{AgreeAnywhereLaw}
use Rattle.row_laws.specs.Rows.{IsBestRow}

-- two rows that may both be taken of one table have one priority, and one rank
module _ {net : Network} {who : Roster} {table : ℕ} {d : Name} {regs : Regs} {sight : Sight} {r q : LFlow} (first : IsBestRow net who table d regs sight r) (second : IsBestRow net who table d regs sight q) where
  pub one_priority : r.priority ≡ q.priority
  one_priority = elim (cases_order r.priority q.priority) [
    | inl e ↦ e
    | inr other ↦ elim other [ inl less ↦ absurd (first.unbeaten q second.is_row second.holds_here (inl less)) | inr more ↦ absurd (second.unbeaten r first.is_row first.holds_here (inl more)) ]
  ]

  pub one_rank : r.rank ≡ q.rank
  one_rank = elim (cases_order r.rank q.rank) [
    | inl e ↦ e
    | inr other ↦ elim other [
      | inl less ↦ absurd (first.unbeaten q second.is_row second.holds_here (inr (one_priority, less)))
      | inr more ↦ absurd (second.unbeaten r first.is_row first.holds_here (inr (sym one_priority, more)))
    ]
  ]

-- the rows may both be taken for a packet on the switch
pub record AreTaken (net : Network) (s : Stage) (d : Name) (regs : Regs) (sight : Sight) (r q : LFlow) : Type 0 where
  pub valid : IsValid net
  pub switch : Switch
  pub there' : at net.switches d ≡ Some switch
  pub fields : HasFieldsInRange sight.packet
  pub first : IsBestRow net (roster_of net) (stage_table s) d regs sight r
  pub second : IsBestRow net (roster_of net) (stage_table s) d regs sight q

module _ {net : Network} {s : Stage} {d : Name} {regs : Regs} {sight : Sight} {r q : LFlow} (t : AreTaken net s d regs sight r q) where
  pub same_priority : r.priority ≡ q.priority
  same_priority = one_priority t.first t.second

  pub same_rank : r.rank ≡ q.rank
  same_rank = one_rank t.first t.second

-- what is so of each two rows that may be taken, by their units, is the law of the stage
pub law_by : (s : Stage) → is_of_switches s ≡ true
    → ((net : Network) (d : Name) (regs : Regs) (sight : Sight) (r q : LFlow) → AreTaken net s d regs sight r q → SwitchRow net s d r → SwitchRow net s d q → r.actions ≡ q.actions) → AgreeAnywhereLaw s
law_by s of two net valid d is regs sight fields r q first second =
    let sw = found (at net.switches d) is in
    let t : AreTaken net s d regs sight r q = record { valid = valid; switch = sw.0; there' = sw.1; fields = fields; first = first; second = second } in
    two net d regs sight r q t (row_unit net valid d sw.0 sw.1 s of r first.is_row) (row_unit net valid d sw.0 sw.1 s of q second.is_row)
