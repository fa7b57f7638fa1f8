-- The rows that decide by verdict and connection do what the network says: a test over all that earlier stages may have found out.
use Rattle.std.specs.Prelude.{◌≡◌, ◌&&◌, ◌∷◌, ℕ, Bool, true, false, not, cond, List, [], map, flat_map, filter, is_none, nat_eq, nat_lt}
use Rattle.std.specs.List.{list_all, list_any}
use Rattle.std.proofs.Common.{refl, sym, ap, ◌∙◌, subst, inl, inr}
use Rattle.std.proofs.lemmas.Bool.{and_parts, and_from, eqb-true, eq-eqb, false≢true, not_from_false, cond-true, cond-false}
use Rattle.ovn_base.proofs.AmongLaws.{among_cases, among_none, among_map, among_flat_map, among_filter}
use Rattle.ovn_base.specs.lists.Among.{Among, here, there}
use Rattle.flow_table.specs.declared.flow.ZoneOf.{ZoneOf}
use Rattle.inet_packet.specs.declared.regs.Reg.{Reg}
use Rattle.inet_packet.specs.declared.regs.Reg.TheVariants as reg
use Rattle.inet_packet.specs.declared.regs.Regs.{Regs}
use Rattle.logical_flows.specs.declared.action.Action.{Action}
use Rattle.logical_flows.specs.declared.action.Action.TheVariants as a
use Rattle.logical_flows.specs.declared.flow.LFlow.{LFlow}
use Rattle.logical_flows.specs.declared.flow.RegIs.{RegIs}
use Rattle.logical_flows.specs.declared.stage.Stage.{Stage}
use Rattle.stage_rows.specs.Rows.{all_of, go_on}
use Rattle.stage_rows.specs.StateRows.{state_rows}
use Rattle.flow_lowering.specs.Registers.{reg_number}
use Rattle.net_model.specs.Tracking.{denial, is_stateless}
use Rattle.net_model.specs.Verdict.{Verdict, default, allow, allow_related, allow_stateless, reject, deny}
use Rattle.row_laws.specs.Copies.{Finding, not_sought, found_new, found_forward, found_reply, found_invalid, Words, HaveWords, flag_number, verdict_code, finding_code}
use Rattle.row_laws.specs.StageActions.{state_actions}

-- ---- all words

abbrev flags : List Bool
flags = true ∷ false ∷ []

abbrev verdicts : List Verdict
verdicts = default ∷ allow ∷ allow_related ∷ allow_stateless ∷ reject ∷ deny ∷ []

abbrev findings : List Finding
findings = not_sought ∷ found_new ∷ found_forward ∷ found_reply ∷ found_invalid ∷ []

flag_in : (b : Bool) → Among b flags
flag_in true = here
flag_in false = there here

verdict_in : (v : Verdict) → Among v verdicts
verdict_in default = here
verdict_in allow = there here
verdict_in allow_related = there (there here)
verdict_in allow_stateless = there (there (there here))
verdict_in reject = there (there (there (there here)))
verdict_in deny = there (there (there (there (there here))))

finding_in : (k : Finding) → Among k findings
finding_in not_sought = here
finding_in found_new = there here
finding_in found_forward = there (there here)
finding_in found_reply = there (there (there here))
finding_in found_invalid = there (there (there (there here)))

abbrev words_of : Bool → Verdict → Finding → Bool → Words
words_of t v k b = record { tracked = t; verdict = v; finding = k; blocked = b }

abbrev all_words : List Words
all_words = flat_map (λ t. flat_map (λ v. flat_map (λ k. map (words_of t v k) flags) findings) verdicts) flags

word_in : (w : Words) → Among w all_words
word_in w =
    among_flat_map (λ t. flat_map (λ v. flat_map (λ k. map (words_of t v k) flags) findings) verdicts) w.tracked w flags (flag_in w.tracked)
    (among_flat_map (λ v. flat_map (λ k. map (words_of w.tracked v k) flags) findings) w.verdict w verdicts (verdict_in w.verdict)
    (among_flat_map (λ k. map (words_of w.tracked w.verdict k) flags) w.finding w findings (finding_in w.finding)
    (among_map (words_of w.tracked w.verdict w.finding) w.blocked flags (flag_in w.blocked))))

head_same : {X : Type 0} (x y : X) (xs ys : List X) → x ∷ xs ≡ y ∷ ys → x ≡ y
head_same x y xs ys h = cc

tail_same : {X : Type 0} (x y : X) (xs ys : List X) → x ∷ xs ≡ y ∷ ys → xs ≡ ys
tail_same x y xs ys h = cc

-- what is so of all words, in a list, is so of each
each_of : {X : Type 0} (f g : Words → X) (ws : List Words) → map f ws ≡ map g ws → (w : Words) → Among w ws → f w ≡ g w
each_of f g [] e w m = elim m [ ]
each_of f g (v ∷ ws) e w m = elim (among_cases w v ws m) [ inl own ↦ ap f own ∙ head_same (f v) (g v) (map f ws) (map g ws) e ∙ ap g (sym own) | inr n ↦ each_of f g ws (tail_same (f v) (g v) (map f ws) (map g ws) e) w n ]

-- ---- registers by words

abbrev word_number : Words → Reg → ℕ
word_number w reg.Tracked = flag_number w.tracked
word_number w reg.Verdict = verdict_code w.verdict
word_number w reg.State = finding_code w.finding
word_number w reg.Blocked = flag_number w.blocked
word_number w _ = 0

abbrev is_word : Reg → Bool
is_word reg.Tracked = true
is_word reg.Verdict = true
is_word reg.State = true
is_word reg.Blocked = true
is_word _ = false

word_is : (w : Words) (regs : Regs) → HaveWords w regs → (x : Reg) → is_word x ≡ true → reg_number x regs ≡ word_number w x
word_is w regs h reg.Tracked e = h.tracked
word_is w regs h reg.Verdict e = h.verdict
word_is w regs h reg.State e = h.finding
word_is w regs h reg.Blocked e = h.blocked
word_is w regs h _ e = absurd (false≢true e)

abbrev asked : Words → RegIs → Bool
asked w x = is_word x.reg && nat_eq (word_number w x.reg) x.value

-- the words have what the row asks of registers
abbrev pub words_hold : Words → LFlow → Bool
words_hold w r = list_all (asked w) r.regs

all_asked : (w : Words) (regs : Regs) → HaveWords w regs → (xs : List RegIs) → list_all (λ x. is_word x.reg) xs ≡ true → ((x : RegIs) → Among x xs → reg_number x.reg regs ≡ x.value) → list_all (asked w) xs ≡ true
all_asked w regs h [] ok each = refl
all_asked w regs h (x ∷ xs) ok each =
    let parts = and_parts (is_word x.reg) (list_all (λ y. is_word y.reg) xs) ok in
    and_from (asked w x) (list_all (asked w) xs)
    (and_from (is_word x.reg) (nat_eq (word_number w x.reg) x.value) parts.0 (eq-eqb (word_number w x.reg) x.value (sym (word_is w regs h x.reg parts.0) ∙ each x here)))
    (all_asked w regs h xs parts.1 (λ y m. each y (there m)))

pub asked_all : (w : Words) (regs : Regs) → HaveWords w regs → (xs : List RegIs) → list_all (asked w) xs ≡ true → (x : RegIs) → Among x xs → reg_number x.reg regs ≡ x.value
asked_all w regs h (y ∷ xs) e x here =
    let parts = and_parts (is_word y.reg) (nat_eq (word_number w y.reg) y.value) (and_parts (asked w y) (list_all (asked w) xs) e).0 in
    word_is w regs h y.reg parts.0 ∙ eqb-true (word_number w y.reg) y.value parts.1
asked_all w regs h (y ∷ xs) e x (there m) = asked_all w regs h xs (and_parts (asked w y) (list_all (asked w) xs) e).1 x m
asked_all w regs h [] e x m = elim m [ ]

-- ---- the test

module _ (stateful : Bool) (s : Stage) (z : ZoneOf) where
  abbrev table : List LFlow
  table = state_rows stateful s z

  -- a row of the table that holds is above
  abbrev pub is_above : Words → ℕ → LFlow → Bool
  is_above w priority r = words_hold w r && nat_lt priority r.priority

  -- the rows that hold, and above which none does
  abbrev is_best : Words → LFlow → Bool
  is_best w r = words_hold w r && not (list_any (is_above w r.priority) table)

  abbrev best_rows : Words → List LFlow
  best_rows w = filter (is_best w) table

-- a connection begins
abbrev pub begins_now : Words → Bool
begins_now w = w.tracked && (not (is_stateless w.verdict) && (nat_eq (finding_code w.finding) 1 && is_none (denial w.verdict)))

-- a packet that is tracked may begin one
abbrev pub may_begin : Words → Bool
may_begin w = w.tracked && nat_eq (finding_code w.finding) 1

tested : (stateful : Bool) (s : Stage) (z : ZoneOf) → map (λ w. map (λ (r : LFlow). r.actions) (best_rows stateful s z w)) all_words ≡ map (λ w. state_actions s stateful (a.Commit z) w ∷ []) all_words
tested true s z = refl
tested false s z = refl

-- rows ask for these registers alone
only_words : (stateful : Bool) (s : Stage) (z : ZoneOf) → list_all (λ (r : LFlow). list_all (λ (x : RegIs). is_word x.reg) r.regs) (state_rows stateful s z) ≡ true
only_words true s z = refl
only_words false s z = refl

-- where a connection begins, the row is below those of balancers; where a tracked packet can begin none, a row is above them
begins_low : (stateful : Bool) (s : Stage) (z : ZoneOf) → map (λ w. cond (begins_now w) (map (λ (r : LFlow). r.priority) (best_rows stateful s z w)) (50 ∷ [])) all_words ≡ map (λ w. 50 ∷ []) all_words
begins_low true s z = refl
begins_low false s z = refl

others_high : (stateful : Bool) (s : Stage) (z : ZoneOf) → map (λ w. cond (may_begin w && not (begins_now w)) (list_any (is_above stateful s z w 55) (state_rows stateful s z)) true) all_words ≡ map (λ w. true) all_words
others_high true s z = refl
others_high false s z = refl

-- how a connection begins counts where one begins
as_begun : (stateful : Bool) (s : Stage) (begins : Action) → map (λ w. cond (begins_now w) (state_actions s stateful begins w) (begins ∷ go_on s ∷ [])) all_words ≡ map (λ w. begins ∷ go_on s ∷ []) all_words
as_begun true s begins = refl
as_begun false s begins = refl

as_any : (stateful : Bool) (s : Stage) (begins other : Action) → map (λ w. cond (begins_now w) [] (state_actions s stateful begins w)) all_words ≡ map (λ w. cond (begins_now w) [] (state_actions s stateful other w)) all_words
as_any true s begins other = refl
as_any false s begins other = refl

-- ---- what the test says

module _ (stateful : Bool) (s : Stage) (z : ZoneOf) (w : Words) where
  -- a row of the table that holds, and above which none of it does, does what the network says
  pub best_does : (r : LFlow) → Among r (state_rows stateful s z) → words_hold w r ≡ true → list_any (is_above stateful s z w r.priority) (state_rows stateful s z) ≡ false → r.actions ≡ state_actions s stateful (a.Commit z) w
  best_does r m holds none =
      let best = among_filter (is_best stateful s z w) r (state_rows stateful s z) m (and_from (words_hold w r) (not (list_any (is_above stateful s z w r.priority) (state_rows stateful s z))) holds (not_from_false _ none)) in
      let is = each_of (λ w. map (λ (r : LFlow). r.actions) (best_rows stateful s z w)) (λ w. state_actions s stateful (a.Commit z) w ∷ []) all_words (tested stateful s z) w (word_in w) in
      one (subst (λ (xs : List (List Action)). Among r.actions xs) is (among_map (λ (r : LFlow). r.actions) r (best_rows stateful s z w) best))
    where
      one : Among r.actions (state_actions s stateful (a.Commit z) w ∷ []) → r.actions ≡ state_actions s stateful (a.Commit z) w
      one n = elim (among_cases r.actions (state_actions s stateful (a.Commit z) w) [] n) [ inl e ↦ e | inr k ↦ absurd (among_none r.actions k) ]

  pub best_is_low : begins_now w ≡ true → (r : LFlow) → Among r (state_rows stateful s z) → words_hold w r ≡ true → list_any (is_above stateful s z w r.priority) (state_rows stateful s z) ≡ false → r.priority ≡ 50
  best_is_low begins r m holds none =
      let best = among_filter (is_best stateful s z w) r (state_rows stateful s z) m (and_from (words_hold w r) (not (list_any (is_above stateful s z w r.priority) (state_rows stateful s z))) holds (not_from_false _ none)) in
      let priorities : List ℕ = map (λ (r : LFlow). r.priority) (best_rows stateful s z w) in
      let is = sym (cond-true (begins_now w) priorities (50 ∷ []) begins)
      ∙ each_of (λ w. cond (begins_now w) (map (λ (r : LFlow). r.priority) (best_rows stateful s z w)) (50 ∷ [])) (λ w. 50 ∷ []) all_words (begins_low stateful s z) w (word_in w) in
      one (subst (λ (xs : List ℕ). Among r.priority xs) is (among_map (λ (r : LFlow). r.priority) r (best_rows stateful s z w) best))
    where
      one : Among r.priority (50 ∷ []) → r.priority ≡ 50
      one n = elim (among_cases r.priority 50 [] n) [ inl e ↦ e | inr k ↦ absurd (among_none r.priority k) ]

  -- what can't begin a connection meets a row above those of balancers
  pub some_above : may_begin w ≡ true → begins_now w ≡ false → list_any (is_above stateful s z w 55) (state_rows stateful s z) ≡ true
  some_above may none =
      sym (cond-true (may_begin w && not (begins_now w)) (list_any (is_above stateful s z w 55) (state_rows stateful s z)) true (and_from (may_begin w) (not (begins_now w)) may (not_from_false (begins_now w) none)))
      ∙ each_of (λ w. cond (may_begin w && not (begins_now w)) (list_any (is_above stateful s z w 55) (state_rows stateful s z)) true) (λ w. true) all_words (others_high stateful s z) w (word_in w)

  pub begun : begins_now w ≡ true → (begins : Action) → state_actions s stateful begins w ≡ begins ∷ go_on s ∷ []
  begun is begins =
      sym (cond-true (begins_now w) (state_actions s stateful begins w) (begins ∷ go_on s ∷ []) is)
      ∙ each_of (λ w. cond (begins_now w) (state_actions s stateful begins w) (begins ∷ go_on s ∷ [])) (λ w. begins ∷ go_on s ∷ []) all_words (as_begun stateful s begins) w (word_in w)

  pub not_begun : begins_now w ≡ false → (begins other : Action) → state_actions s stateful begins w ≡ state_actions s stateful other w
  not_begun is begins other =
      sym (cond-false (begins_now w) [] (state_actions s stateful begins w) is)
      ∙ each_of (λ w. cond (begins_now w) [] (state_actions s stateful begins w)) (λ w. cond (begins_now w) [] (state_actions s stateful other w)) all_words (as_any stateful s begins other) w (word_in w)
      ∙ cond-false (begins_now w) [] (state_actions s stateful other w) is

  -- a row of the table whose registers have their numbers is one that the words hold
  pub row_words : (regs : Regs) → HaveWords w regs → (r : LFlow) → Among r (state_rows stateful s z) → ((x : RegIs) → Among x r.regs → reg_number x.reg regs ≡ x.value) → words_hold w r ≡ true
  row_words regs h r m each = all_asked w regs h r.regs (words_alone (state_rows stateful s z) (only_words stateful s z) m) each
    where
      words_alone : (rs : List LFlow) → list_all (λ (q : LFlow). list_all (λ (x : RegIs). is_word x.reg) q.regs) rs ≡ true → Among r rs → list_all (λ (x : RegIs). is_word x.reg) r.regs ≡ true
      words_alone [] e n = elim n [ ]
      words_alone (q ∷ rs) e n =
          let parts = and_parts (list_all (λ (x : RegIs). is_word x.reg) q.regs) (list_all (λ (q : LFlow). list_all (λ (x : RegIs). is_word x.reg) q.regs) rs) e in
          elim (among_cases r q rs n) [ inl own ↦ ap (λ (y : LFlow). list_all (λ (x : RegIs). is_word x.reg) y.regs) own ∙ parts.0 | inr later ↦ words_alone rs parts.1 later ]

-- no row of the table has a match
unmatched : (stateful : Bool) (s : Stage) (z : ZoneOf) → map (λ (r : LFlow). r.matching) (state_rows stateful s z) ≡ map (λ (r : LFlow). all_of []) (state_rows stateful s z)
unmatched true s z = refl
unmatched false s z = refl

pub no_match : (stateful : Bool) (s : Stage) (z : ZoneOf) (r : LFlow) → Among r (state_rows stateful s z) → r.matching ≡ all_of []
no_match stateful s z r m = same_in (state_rows stateful s z) (unmatched stateful s z) m
  where
    same_in : (rs : List LFlow) → map (λ (q : LFlow). q.matching) rs ≡ map (λ (q : LFlow). all_of []) rs → Among r rs → r.matching ≡ all_of []
    same_in [] e n = elim n [ ]
    same_in (q ∷ rs) e n = elim (among_cases r q rs n) [ inl own ↦ ap (λ (y : LFlow). y.matching) own ∙ head_same q.matching (all_of []) (map (λ (q : LFlow). q.matching) rs) (map (λ (q : LFlow). all_of []) rs) e | inr later ↦ same_in rs (tail_same q.matching (all_of []) (map (λ (q : LFlow). q.matching) rs) (map (λ (q : LFlow). all_of []) rs) e) later ]
