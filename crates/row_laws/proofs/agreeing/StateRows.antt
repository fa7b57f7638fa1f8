-- Of the rows that decide by verdict and connection no two of one priority hold of the same registers, whatever stands in these.
use Rattle.std.specs.Prelude.{◌≡◌, ◌&&◌, ◌∷◌, [], Bool, true, false, not, cond, nat_eq, List}
use Rattle.std.specs.List.{list_all, list_any}
use Rattle.std.proofs.Common.{refl, sym, ap, ◌∙◌, subst, inl, inr}
use Rattle.std.proofs.lemmas.Bool.{and_parts, eq-eqb, false≢true, cond-true}
use Rattle.ovn_base.proofs.AmongLaws.{among_cases, among_none, any_among}
use Rattle.ovn_base.specs.lists.Among.{Among}
use Rattle.flow_table.specs.declared.flow.ZoneOf.{ZoneOf}
use Rattle.inet_packet.specs.declared.regs.Reg.{Reg}
use Rattle.inet_packet.specs.declared.regs.Reg.TheVariants as reg
use Rattle.inet_packet.specs.declared.regs.Regs.{Regs}
use Rattle.logical_flows.specs.declared.flow.LFlow.{LFlow}
use Rattle.logical_flows.specs.declared.flow.RegIs.{RegIs}
use Rattle.logical_flows.specs.declared.stage.Stage.{Stage}
use Rattle.stage_rows.specs.StateRows.{state_rows}
use Rattle.flow_lowering.specs.Registers.{reg_number}

-- they are one of the registers that these rows ask for
abbrev is_one : Reg → Reg → Bool
is_one reg.Tracked reg.Tracked = true
is_one reg.Verdict reg.Verdict = true
is_one reg.State reg.State = true
is_one reg.Blocked reg.Blocked = true
is_one _ _ = false

one_number : (regs : Regs) (x y : Reg) → is_one x y ≡ true → reg_number x regs ≡ reg_number y regs
one_number regs reg.Tracked reg.Tracked h = refl
one_number regs reg.Verdict reg.Verdict h = refl
one_number regs reg.State reg.State h = refl
one_number regs reg.Blocked reg.Blocked h = refl
one_number regs _ _ h = absurd (false≢true h)

-- one register is asked for with two numbers
abbrev differ : RegIs → RegIs → Bool
differ x y = is_one x.reg y.reg && not (nat_eq x.value y.value)

abbrev clash : LFlow → LFlow → Bool
clash r q = list_any (λ (x : RegIs). list_any (differ x) q.regs) r.regs

abbrev HasAsked : Regs → LFlow → Type 0
HasAsked regs r = (x : RegIs) → Among x r.regs → reg_number x.reg regs ≡ x.value

not_both : (regs : Regs) (r q : LFlow) → HasAsked regs r → HasAsked regs q → clash r q ≡ true → ⊥
not_both regs r q first second h =
    let x = any_among (λ (x : RegIs). list_any (differ x) q.regs) r.regs h in
    let y = any_among (differ x.0) q.regs x.2 in
    let parts = and_parts (is_one x.0.reg y.0.reg) (not (nat_eq x.0.value y.0.value)) y.2 in
    let same : x.0.value ≡ y.0.value = sym (first x.0 x.1) ∙ one_number regs x.0.reg y.0.reg parts.0 ∙ second y.0 y.1 in
    false≢true (sym (ap not (eq-eqb x.0.value y.0.value same)) ∙ parts.1)

-- rows of one priority clash
abbrev apart : LFlow → LFlow → Bool
apart r q = cond (nat_eq r.priority q.priority) (clash r q) true

abbrev all_apart : List LFlow → Bool
all_apart [] = true
all_apart (r ∷ rs) = list_all (apart r) rs && all_apart rs

each_of : {X : Type 0} (test : X → Bool) (xs : List X) → list_all test xs ≡ true → (x : X) → Among x xs → test x ≡ true
each_of test [] h x m = absurd (among_none x m)
each_of test (y ∷ ys) h x m =
    let parts = and_parts (test y) (list_all test ys) h in
    elim (among_cases x y ys m) [ inl own ↦ ap test own ∙ parts.0 | inr later ↦ each_of test ys parts.1 x later ]

-- one of them before another
before_other : (regs : Regs) (r : LFlow) (rs : List LFlow) → list_all (apart r) rs ≡ true → (q : LFlow) → Among q rs → HasAsked regs r → HasAsked regs q → r.priority ≡ q.priority → ⊥
before_other regs r rs h q m first second same =
    not_both regs r q first second (sym (cond-true (nat_eq r.priority q.priority) (clash r q) true (eq-eqb r.priority q.priority same)) ∙ each_of (apart r) rs h q m)

one_of_list : (regs : Regs) (rs : List LFlow) → all_apart rs ≡ true → (r q : LFlow) → Among r rs → Among q rs → HasAsked regs r → HasAsked regs q → r.priority ≡ q.priority → r ≡ q
one_of_list regs [] h r q m n first second same = absurd (among_none r m)
one_of_list regs (x ∷ xs) h r q m n first second same =
    let parts = and_parts (list_all (apart x) xs) (all_apart xs) h in
    elim (among_cases r x xs m) [
      | inl own ↦ elim (among_cases q x xs n) [
        | inl too ↦ own ∙ sym too
        | inr later ↦ absurd (before_other regs x xs parts.0 q later (subst (λ (z : LFlow). HasAsked regs z) own first) second (ap (λ (z : LFlow). z.priority) (sym own) ∙ same))
      ]
      | inr later ↦ elim (among_cases q x xs n) [
        | inl too ↦ absurd (before_other regs x xs parts.0 r later (subst (λ (z : LFlow). HasAsked regs z) too second) first (ap (λ (z : LFlow). z.priority) (sym too) ∙ sym same))
        | inr after ↦ one_of_list regs xs parts.1 r q later after first second same
      ]
    ]

module _ (s : Stage) (z : ZoneOf) where
  tested : (stateful : Bool) → all_apart (state_rows stateful s z) ≡ true
  tested true = refl
  tested false = refl

  no_balancers : (stateful : Bool) → list_all (λ (r : LFlow). not (nat_eq r.priority 55)) (state_rows stateful s z) ≡ true
  no_balancers true = refl
  no_balancers false = refl

  pub one_state_row : (regs : Regs) (stateful : Bool) (r q : LFlow) → Among r (state_rows stateful s z) → Among q (state_rows stateful s z)
      → ((x : RegIs) → Among x r.regs → reg_number x.reg regs ≡ x.value) → ((x : RegIs) → Among x q.regs → reg_number x.reg regs ≡ x.value) → r.priority ≡ q.priority → r ≡ q
  one_state_row regs stateful = one_of_list regs (state_rows stateful s z) (tested stateful)

  -- none has the priority of a balancer's row
  pub no_vip_priority : (stateful : Bool) (r : LFlow) → Among r (state_rows stateful s z) → r.priority ≡ 55 → ⊥
  no_vip_priority stateful r m e =
      false≢true (sym (ap not (eq-eqb r.priority 55 e)) ∙ each_of (λ (x : LFlow). not (nat_eq x.priority 55)) (state_rows stateful s z) (no_balancers stateful) r m)
