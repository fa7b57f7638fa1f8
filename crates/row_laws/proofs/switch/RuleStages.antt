-- s_acl_in and s_acl_out keep the verdict of the rules: that of a rule that speaks of the packet and that no other that does beats.
use Rattle.std.specs.Prelude.{◌≡◌, ◌<◌, ◌+◌, ◌==◌, ◌&&◌, ◌||◌, ◌∷◌, [], ℕ, Bool, true, false, List, nat_lt, Option, Some, None, filter}
use Rattle.std.specs.Map.{values_of}
use Rattle.std.proofs.Common.{refl, sym, ap, ◌∙◌, subst, arith, inl, inr}
use Rattle.std.proofs.lemmas.Bool.{and_parts, and_from, false≢true, or_parts, lt-ltb, eq-eqb, cases_lt}
use Rattle.std.proofs.lemmas.Bool.Decides.{nat_tests}
use Rattle.ovn_base.proofs.AmongLaws.{among_none, among_map, map_among, among_filter, filter_among}
use Rattle.ovn_base.proofs.ByNameLaws.{at_among, among_at}
use Rattle.ovn_base.specs.declared.name.Name.{Name}
use Rattle.ovn_base.specs.lists.Among.{Among, here}
use Rattle.ovn_base.specs.names.ByName.{at}
use Rattle.inet_packet.specs.declared.regs.Reg.TheVariants as reg
use Rattle.inet_packet.specs.declared.regs.Regs.{Regs}
use Rattle.match_language.specs.declared.field.Direction.{Direction}
use Rattle.match_language.specs.declared.field.Direction.TheVariants.{FromLport, ToLport}
use Rattle.nb_records.specs.Network.{Network}
use Rattle.nb_records.specs.Switches.{applies, rules_of}
use Rattle.nb_records.specs.Ways.{best_by}
use Rattle.nb_records.specs.declared.rule.Acl.{Acl}
use Rattle.nb_records.specs.declared.rule.RuleAction.{RuleAction}
use Rattle.nb_records.specs.declared.rule.RuleAction.TheVariants as action
use Rattle.logical_flows.specs.declared.action.Action.TheVariants as a
use Rattle.logical_flows.specs.declared.flow.LFlow.{LFlow}
use Rattle.logical_flows.specs.declared.stage.Pipeline.{Pipeline}
use Rattle.logical_flows.specs.declared.stage.Pipeline.TheVariants.{Ingress, Egress}
use Rattle.logical_flows.specs.declared.stage.Stage.{Stage}
use Rattle.logical_flows.specs.declared.stage.Stage.TheVariants as stage
use Rattle.stage_rows.specs.Rows.{go_on, base_row}
use Rattle.stage_rows.specs.RuleRows.{rule_rank, verdict_number, rule_stage, rule_row}
use Rattle.stage_rows.specs.Units.{rule_rows, is_from_lport, is_to_lport}
use Rattle.net_model.specs.Sights.{roster_of, holds_at}
use Rattle.net_model.specs.Verdict.{precedence, outranks, same_direction, speaks, verdict_by, verdict_if, verdict_of}
use Rattle.row_laws.proofs.units.BestOf.{IsOrder, best_none, best_is}
use Rattle.row_laws.proofs.units.RowUnits.{SwitchRow, by_port, by_rule, by_balancer, by_switch, in_when, when_in, a_rule_row}
use Rattle.row_laws.proofs.units.TakenRow.{IsTaken, among_one, its_unit, the_switch}
use Rattle.row_laws.specs.Copies.{Copy}
use Rattle.row_laws.specs.Rows.{Outranks}
use Rattle.row_laws.specs.StageActions.{verdict_actions, actions_at}
use Rattle.row_laws.specs.StageLaws.{StageLaw}

-- ---- which rule beats which

abbrev over : ℕ → ℕ → ℕ → ℕ → Bool
over p k q l = nat_lt q p || ((p == q) && nat_lt k l)

over_other : (p k q l : ℕ) → over p k q l ≡ true → over q l p k ≡ false
over_other p k q l h = grind (arith, nat_tests)

over_itself : (p k : ℕ) → over p k p k ≡ false
over_itself p k = grind (arith, nat_tests)

over_along : (p k q l m n : ℕ) → over p k q l ≡ false → over q l m n ≡ false → over p k m n ≡ false
over_along p k q l m n h j = grind (arith, nat_tests)

rules_order : IsOrder outranks
rules_order = record {
  other = λ x y h. over_other x.priority (precedence x.action) y.priority (precedence y.action) h;
  itself = λ x. over_itself x.priority (precedence x.action);
  along = λ x y z h j. over_along x.priority (precedence x.action) y.priority (precedence y.action) z.priority (precedence z.action) h j;
}

-- what is not beaten is not above
not_higher : (p k q l : ℕ) → over p k q l ≡ false → q < p → ⊥
not_higher p k q l h less = false≢true (sym (or_parts (nat_lt q p) ((p == q) && nat_lt k l) h).0 ∙ lt-ltb q p less)

not_earlier : (p k q l : ℕ) → over p k q l ≡ false → p ≡ q → k < l → ⊥
not_earlier p k q l h same less = false≢true (sym (or_parts (nat_lt q p) ((p == q) && nat_lt k l) h).1 ∙ and_from (p == q) (nat_lt k l) (eq-eqb p q same) (lt-ltb k l less))

-- neither is less
tied : (n k : ℕ) → (n < k → ⊥) → (k < n → ⊥) → n ≡ k
tied n k up down = elim (cases_lt n k) [ inl less ↦ absurd (up less) | inr le ↦ elim (cases_lt k n) [ inl more ↦ absurd (down more) | inr ge ↦ omega (arith, le, ge) ] ]

-- the rank of a rule's row is the higher the earlier its action stands
rank_is : (x : RuleAction) → rule_rank x + precedence x ≡ 6
rank_is action.Drop = refl
rank_is action.Reject = refl
rank_is action.AllowStateless = refl
rank_is action.AllowRelated = refl
rank_is action.Allow = refl

-- the actions with their numbers
number_action : ℕ → RuleAction
number_action n = by (n == 0) (n == 1) (n == 2) (n == 3)
  where
    by : Bool → Bool → Bool → Bool → RuleAction
    by true x y z = action.Drop
    by false true y z = action.Reject
    by false false true z = action.AllowStateless
    by false false false true = action.AllowRelated
    by false false false false = action.Allow

own_number : (x : RuleAction) → number_action (precedence x) ≡ x
unfolding number_action
own_number action.Drop = refl
own_number action.Reject = refl
own_number action.AllowStateless = refl
own_number action.AllowRelated = refl
own_number action.Allow = refl

same_action : (x y : RuleAction) → precedence x ≡ precedence y → x ≡ y
same_action x y e = sym (own_number x) ∙ ap number_action e ∙ own_number y

-- the row's actions keep the rule's verdict
kept : (s : Stage) (x : RuleAction) → a.Set reg.Verdict (verdict_number x) ∷ go_on s ∷ [] ≡ verdict_actions s (verdict_by x)
kept s action.Drop = refl
kept s action.Reject = refl
kept s action.AllowStateless = refl
kept s action.AllowRelated = refl
kept s action.Allow = refl

-- ---- a stage of rules

-- the rows that rules have in the stage are those of rules of the direction
pub record IsOfRules (s : Stage) (way : Direction) : Type 0 where
  rows : (x : Acl) → same_direction x.direction way ≡ true → Among (rule_row x) (rule_rows s x)
  only : (x : Acl) (r : LFlow) → Among r (rule_rows s x) → (same_direction x.direction way ≡ true) × (r ≡ rule_row x)
  stage_is : (x : Acl) → same_direction x.direction way ≡ true → rule_stage x.direction ≡ s

module _ {net : Network} {s : Stage} {pipeline : Pipeline} {c : Copy} {regs : Regs} {r : LFlow} (t : IsTaken net s pipeline c regs r) (way : Direction) (of : IsOfRules s way) where
  abbrev said : List Acl
  said = filter (speaks net way c.sight) (rules_of net c.port.switch)

  -- a rule that speaks of the packet has a row that holds
  pub record Speaks (x : Acl) : Type 0 where
    name : Name
    there' : at net.acls name ≡ Some x
    on : applies net c.port.switch x ≡ true
    along : same_direction x.direction way ≡ true
    matching : holds_at (roster_of net) c.sight x.matching ≡ true

  speaks_from : (x : Acl) → Among x said → Speaks x
  speaks_from x m =
      let one = filter_among (speaks net way c.sight) x (rules_of net c.port.switch) m in
      let two = filter_among (applies net c.port.switch) x (values_of net.acls) one.0 in
      let e = map_among (λ (e : Name × Acl). e.1) x net.acls two.0 in
      let both = and_parts (same_direction x.direction way) (holds_at (roster_of net) c.sight x.matching) one.1 in
      record { name = e.0.0; there' = among_at e.0.0 e.0.1 net.acls t.valid.in_order.acls e.1 ∙ ap (λ y. Some y) (sym e.2); on = two.1; along = both.0; matching = both.1 }

  speaks_to : (x : Acl) → Speaks x → Among x said
  speaks_to x h =
      among_filter (speaks net way c.sight) x (rules_of net c.port.switch)
      (among_filter (applies net c.port.switch) x (values_of net.acls) (among_map (λ (e : Name × Acl). e.1) (h.name, x) net.acls (at_among net.acls h.name x h.there')) h.on)
      (and_from (same_direction x.direction way) (holds_at (roster_of net) c.sight x.matching) h.along h.matching)

  -- no row of one is above the row that is taken
  no_rule_above : (x : Acl) → Speaks x → Outranks (rule_row x) r → ⊥
  no_rule_above x h above =
      t.best.unbeaten (rule_row x) (a_rule_row net s (rule_row x) c.port.switch (the_switch t).0 (the_switch t).1 h.name x h.there' h.on (of.rows x h.along))
      (record { registers = λ y m. absurd (among_none y m); matching = h.matching }) above

  verdict_is : (o : Option Acl) → best_by outranks said ≡ o → verdict_of net c.port.switch way c.sight ≡ verdict_if o
  unfolding verdict_of
  verdict_is o e = ap verdict_if e

  -- the rule whose row is taken ties with the best
  ruled : (x : Acl) → Speaks x → r ≡ rule_row x → r.actions ≡ verdict_actions s (verdict_of net c.port.switch way c.sight)
  ruled x h e = by (best_by outranks said) refl
    where
      by : (o : Option Acl) → best_by outranks said ≡ o → r.actions ≡ verdict_actions s (verdict_of net c.port.switch way c.sight)
      by None none = absurd (best_none outranks said none x (speaks_to x h))
      by (Some m) found =
          let b = best_is outranks rules_order said m found in
          let low = b.unbeaten x (speaks_to x h) in
          let high : Outranks (rule_row m) (rule_row x) → ⊥ = λ above. no_rule_above m (speaks_from m b.among) (subst (λ (z : LFlow). Outranks (rule_row m) z) (sym e) above) in
          let up : x.priority < m.priority → ⊥ = λ less. high (inl (omega (arith, less))) in
          let down : m.priority < x.priority → ⊥ = not_higher x.priority (precedence x.action) m.priority (precedence m.action) low in
          let tie : x.priority ≡ m.priority = tied x.priority m.priority up down in
          let first : precedence x.action < precedence m.action → ⊥ = not_earlier x.priority (precedence x.action) m.priority (precedence m.action) low tie in
          let last : precedence m.action < precedence x.action → ⊥ = λ less. high (inr (omega (arith, tie), omega (arith, less, rank_is x.action, rank_is m.action))) in
          let same : x.action ≡ m.action = same_action x.action m.action (tied (precedence x.action) (precedence m.action) first last) in
          ap (λ (z : LFlow). z.actions) e
          ∙ ap (λ y. a.Set reg.Verdict (verdict_number x.action) ∷ go_on y ∷ []) (of.stage_is x h.along)
          ∙ kept s x.action
          ∙ ap (λ y. verdict_actions s (verdict_by y)) same
          ∙ ap (verdict_actions s) (sym (verdict_is (Some m) found))

  -- where the base row is taken no rule speaks
  unruled : r ≡ base_row s → r.actions ≡ verdict_actions s (verdict_of net c.port.switch way c.sight)
  unruled e = by (best_by outranks said) refl
    where
      by : (o : Option Acl) → best_by outranks said ≡ o → r.actions ≡ verdict_actions s (verdict_of net c.port.switch way c.sight)
      by None none = ap (λ (z : LFlow). z.actions) e ∙ ap (verdict_actions s) (sym (verdict_is None none))
      by (Some m) found =
          let b = best_is outranks rules_order said m found in
          let is : r.priority ≡ 0 = ap (λ (z : LFlow). z.priority) e in
          absurd (no_rule_above m (speaks_from m b.among) (inl (omega (arith, is))))

  pub rule_does : (name : Name) (x : Acl) → at net.acls name ≡ Some x → applies net c.port.switch x ≡ true → Among r (rule_rows s x) → r.actions ≡ verdict_actions s (verdict_of net c.port.switch way c.sight)
  rule_does name x is on m =
      let k = of.only x r m in
      ruled x (record { name = name; there' = is; on = on; along = k.0; matching = subst (λ (z : LFlow). holds_at (roster_of net) c.sight z.matching ≡ true) k.1 t.best.holds_here.matching }) k.1

  pub base_does : r ≡ base_row s → r.actions ≡ verdict_actions s (verdict_of net c.port.switch way c.sight)
  base_does = unruled

-- ---- s_acl_in and s_acl_out

inward : (d : Direction) → is_from_lport d ≡ same_direction d FromLport
inward FromLport = refl
inward ToLport = refl

outward : (d : Direction) → is_to_lport d ≡ same_direction d ToLport
outward FromLport = refl
outward ToLport = refl

in_stage : (d : Direction) → same_direction d FromLport ≡ true → rule_stage d ≡ stage.SwitchAclIn
in_stage FromLport h = refl
in_stage ToLport h = absurd (false≢true h)

out_stage : (d : Direction) → same_direction d ToLport ≡ true → rule_stage d ≡ stage.SwitchAclOut
out_stage FromLport h = absurd (false≢true h)
out_stage ToLport h = refl

rules_in : IsOfRules stage.SwitchAclIn FromLport
rules_in = record {
  rows = λ x h. when_in (rule_row x) (is_from_lport x.direction) (rule_row x ∷ []) (inward x.direction ∙ h) here;
  only = λ x r m. let k = in_when r (is_from_lport x.direction) (rule_row x ∷ []) m in (sym (inward x.direction) ∙ k.0, among_one r (rule_row x) k.1);
  stage_is = λ x h. in_stage x.direction h;
}

rules_out : IsOfRules stage.SwitchAclOut ToLport
rules_out = record {
  rows = λ x h. when_in (rule_row x) (is_to_lport x.direction) (rule_row x ∷ []) (outward x.direction ∙ h) here;
  only = λ x r m. let k = in_when r (is_to_lport x.direction) (rule_row x ∷ []) m in (sym (outward x.direction) ∙ k.0, among_one r (rule_row x) k.1);
  stage_is = λ x h. out_stage x.direction h;
}

judged_in : (net : Network) (c : Copy) (regs : Regs) (r : LFlow) → IsTaken net stage.SwitchAclIn Ingress c regs r → SwitchRow net stage.SwitchAclIn c.port.switch r → r.actions ≡ actions_at stage.SwitchAclIn net c
judged_in net c regs r t (by_port q port is on m) = elim m [ ]
judged_in net c regs r t (by_rule x y is on m) = rule_does t FromLport rules_in x y is on m
judged_in net c regs r t (by_balancer x y is m) = elim m [ ]
judged_in net c regs r t (by_switch m) = base_does t FromLport rules_in (among_one r (base_row stage.SwitchAclIn) m)

pub rules_in_law : StageLaw stage.SwitchAclIn
rules_in_law net valid c regs h r best =
    let t : IsTaken net stage.SwitchAclIn Ingress c regs r = record { valid = valid; of = refl; at_port = h; best = best } in
    judged_in net c regs r t (its_unit t)

judged_out : (net : Network) (c : Copy) (regs : Regs) (r : LFlow) → IsTaken net stage.SwitchAclOut Egress c regs r → SwitchRow net stage.SwitchAclOut c.port.switch r → r.actions ≡ actions_at stage.SwitchAclOut net c
judged_out net c regs r t (by_port q port is on m) = elim m [ ]
judged_out net c regs r t (by_rule x y is on m) = rule_does t ToLport rules_out x y is on m
judged_out net c regs r t (by_balancer x y is m) = elim m [ ]
judged_out net c regs r t (by_switch m) = base_does t ToLport rules_out (among_one r (base_row stage.SwitchAclOut) m)

pub rules_out_law : StageLaw stage.SwitchAclOut
rules_out_law net valid c regs h r best =
    let t : IsTaken net stage.SwitchAclOut Egress c regs r = record { valid = valid; of = refl; at_port = h; best = best } in
    judged_out net c regs r t (its_unit t)
