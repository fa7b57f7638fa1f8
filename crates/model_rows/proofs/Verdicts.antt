-- What the rules of the rows say of any packet.
use Rattle.std.specs.Prelude.{◌≡◌, ℕ, ◌+◌, ◌&&◌, Bool, true, List, [], ◌∷◌, ◌++◌, cond, codes}
use Rattle.std.specs.List.{filter, AllZip}
use Rattle.std.proofs.Common.{refl, ap, ◌∙◌}
use Rattle.match_language.specs.declared.expr.Expr.TheVariants as expr
use Rattle.match_language.specs.declared.expr.Rel.{Rel}
use Rattle.match_language.specs.declared.expr.Rel.TheVariants as rel
use Rattle.match_language.specs.declared.expr.Value.{Value}
use Rattle.match_language.specs.declared.expr.Value.TheVariants as value
use Rattle.match_language.specs.declared.field.Direction.{Direction}
use Rattle.match_language.specs.declared.field.Direction.TheVariants as way
use Rattle.match_language.specs.declared.field.Field.{Field}
use Rattle.match_language.specs.declared.field.Field.TheVariants as field
use Rattle.match_language.specs.declared.field.Predicate.{Predicate}
use Rattle.match_language.specs.declared.field.Predicate.TheVariants as predicates
use Rattle.match_cubes.specs.Holds.{all_true}
use Rattle.match_cubes.specs.Inwards.{predicate}
use Rattle.nb_records.specs.Network.{Network, empty_network}
use Rattle.nb_records.specs.Editing.{accepted}
use Rattle.nb_records.specs.Switches.{rules_of}
use Rattle.nb_records.specs.Ways.{best_by}
use Rattle.nb_records.specs.declared.rule.Acl.{Acl}
use Rattle.net_model.specs.Sights.{Sight, roster_of, truth_at, compares, holds_at}
use Rattle.net_model.specs.Verdict.{Verdict, same_direction, outranks, speaks, verdict_if, verdict_of}
use Rattle.ovn_base.specs.declared.name.Name.{Name}
use Rattle.model_rows.specs.Play.{RowEvent, edited, bound, unbound, chassis_added, chassis_removed, marked, passed, went}
use Rattle.model_rows.specs.Precedence as precedence
use Rattle.model_rows.specs.Rules as row
use Rattle.model_rows.proofs.Meanings.{meaning_compare, meaning_both}

-- ---- rules that match

-- those at which the answer is true
abbrev pub picked : {X : Type 0} → List X → List Bool → List X
picked [] bs = []
picked (x ∷ xs) [] = []
picked (x ∷ xs) (b ∷ bs) = cond b (x ∷ picked xs bs) (picked xs bs)

filter_picked : {X : Type 0} (test : X → Bool) (xs : List X) (bs : List Bool) → AllZip (λ x b. test x ≡ b) xs bs → filter test xs ≡ picked xs bs
filter_picked test [] bs h = refl
filter_picked test (x ∷ xs) [] h = absurd h
filter_picked {X} test (x ∷ xs) (b ∷ bs) h =
    ap (λ (c : Bool). cond c (x ∷ filter test xs) (filter test xs)) h.0 ∙ ap (λ (ys : List X). cond b (x ∷ ys) ys) (filter_picked test xs bs h.1)

-- the verdict of the rules that match
abbrev pub verdict_from : List Acl → Verdict
verdict_from rules = verdict_if (best_by outranks rules)

-- the verdict, where these rules speak of the packet
spoken : (net : Network) (switch : Name) (w : Direction) (s : Sight) (bs : List Bool) → AllZip (λ rule b. speaks net w s rule ≡ b) (rules_of net switch) bs
    → verdict_of net switch w s ≡ verdict_from (picked (rules_of net switch) bs)
unfolding verdict_of
spoken net switch w s bs h = ap verdict_from (filter_picked (speaks net w s) (rules_of net switch) bs h)

-- ---- matches

-- a comparison of the field holds of the packet
abbrev pub one : Network → Sight → Field → Rel → List Value → Bool
one net s f r vs = compares (roster_of net) s f r vs

one_holds : (net : Network) (s : Sight) (rules w : Direction) (f : Field) (r : Rel) (vs : List Value)
    → (same_direction rules w && holds_at (roster_of net) s (expr.Compare f r vs)) ≡ (same_direction rules w && one net s f r vs)
one_holds net s rules w f r vs = ap (λ (b : Bool). same_direction rules w && b) (meaning_compare (truth_at (roster_of net) s) f r vs)

-- a comparison and a predicate hold of it
abbrev pub both : Network → Sight → Field → Rel → List Value → Predicate → Bool
both net s f r vs p = all_true (one net s f r vs ∷ predicate (truth_at (roster_of net) s) p true ∷ [])

both_hold : (net : Network) (s : Sight) (rules w : Direction) (f : Field) (r : Rel) (vs : List Value) (p : Predicate)
    → (same_direction rules w && holds_at (roster_of net) s (expr.All (expr.Compare f r vs ∷ expr.Is p ∷ []))) ≡ (same_direction rules w && both net s f r vs p)
both_hold net s rules w f r vs p = ap (λ (b : Bool). same_direction rules w && b) (meaning_both (truth_at (roster_of net) s) f r vs p)

-- ---- the records of the rows

-- the records after the events, of which n came before
abbrev net_after : ℕ → List RowEvent → Network → Network
net_after n [] net = net
net_after n (edited ops ∷ events) net = net_after (n + 1) events (accepted net ops (n + 1))
net_after n (bound port chassis ∷ events) net = net_after (n + 1) events net
net_after n (chassis_added chassis ∷ events) net = net_after (n + 1) events net
net_after n (unbound port ∷ events) net = net_after (n + 1) events net
net_after n (chassis_removed chassis ∷ events) net = net_after (n + 1) events net
net_after n (marked balancer backend online ∷ events) net = net_after (n + 1) events net
net_after n (passed seconds ∷ events) net = net_after (n + 1) events net
net_after n (went traffic lines ∷ events) net = net_after (n + 1) events net

abbrev pub net_of : List RowEvent → Network
net_of events = net_after 0 events empty_network

abbrev s0 : Name
s0 = codes "s0"

-- the verdict where these of the switch's rules speak of the packet
abbrev by_rules : Network → List Bool → Verdict
by_rules net bs = verdict_from (picked (rules_of net s0) bs)

-- ---- two rules on the switch

abbrev pub says : Direction → Direction → Bool → Bool
says rules w b = same_direction rules w && b

-- equal-priority-rules
abbrev pub equal_net : Network
equal_net = net_of row.equal_rules

abbrev pub equal_answers : Direction → Sight → List Bool
equal_answers w s =
    says way.FromLport w (one equal_net s field.EthType rel.Eq (value.Number 0x88b5 0xffff ∷ []))
    ∷ says way.FromLport w (one equal_net s field.EthType rel.Eq (value.Number 0x88b5 0xffff ∷ []))
    ∷ []

pub equal_say : (w : Direction) (s : Sight) → verdict_of equal_net s0 w s ≡ by_rules equal_net (equal_answers w s)
equal_say w s = spoken equal_net s0 w s (equal_answers w s) (
  one_holds equal_net s way.FromLport w field.EthType rel.Eq (value.Number 0x88b5 0xffff ∷ []),
  (one_holds equal_net s way.FromLport w field.EthType rel.Eq (value.Number 0x88b5 0xffff ∷ []), tt),
)

-- lower-drop, reject-first
abbrev is_number : List Value
is_number = value.Number 0x88b5 0xffff ∷ []

abbrev pub lower_net : Network
lower_net = net_of precedence.lower_drop_rules

abbrev pub two_answers : Network → Direction → Sight → List Bool
two_answers net w s =
    says way.FromLport w (one net s field.EthType rel.Eq is_number)
    ∷ says way.FromLport w (one net s field.EthType rel.Eq is_number)
    ∷ []

pub lower_say : (w : Direction) (s : Sight) → verdict_of lower_net s0 w s ≡ by_rules lower_net (two_answers lower_net w s)
lower_say w s = spoken lower_net s0 w s (two_answers lower_net w s) (
  one_holds lower_net s way.FromLport w field.EthType rel.Eq is_number,
  (one_holds lower_net s way.FromLport w field.EthType rel.Eq is_number, tt),
)

abbrev pub reject_net : Network
reject_net = net_of precedence.reject_rules

pub reject_say : (w : Direction) (s : Sight) → verdict_of reject_net s0 w s ≡ by_rules reject_net (two_answers reject_net w s)
reject_say w s = spoken reject_net s0 w s (two_answers reject_net w s) (
  one_holds reject_net s way.FromLport w field.EthType rel.Eq is_number,
  (one_holds reject_net s way.FromLport w field.EthType rel.Eq is_number, tt),
)

-- blocked-connection, before a rule is turned and after it
abbrev pub related_net : Network
related_net = net_of row.related_rules

abbrev pub turned_net : Network
turned_net = net_of (row.related_rules ++ row.rule_turned ∷ [])

module _ (net : Network) where
  abbrev pub related_answers : Direction → Sight → List Bool
  related_answers w s =
      says way.FromLport w (both net s field.Inport rel.Eq (value.Port (codes "p1") ∷ []) predicates.Udp)
      ∷ says way.FromLport w (both net s field.Inport rel.Eq (value.Port (codes "p1") ∷ []) predicates.Tcp)
      ∷ []

  abbrev related_hold : (w : Direction) (s : Sight)
      → (says way.FromLport w (holds_at (roster_of net) s row.udp_from_p1) ≡ says way.FromLport w (both net s field.Inport rel.Eq (value.Port (codes "p1") ∷ []) predicates.Udp))
      × ((says way.FromLport w (holds_at (roster_of net) s row.tcp_from_p1) ≡ says way.FromLport w (both net s field.Inport rel.Eq (value.Port (codes "p1") ∷ []) predicates.Tcp))
      × Unit {0})
  related_hold w s = (
    both_hold net s way.FromLport w field.Inport rel.Eq (value.Port (codes "p1") ∷ []) predicates.Udp,
    (both_hold net s way.FromLport w field.Inport rel.Eq (value.Port (codes "p1") ∷ []) predicates.Tcp, tt),
  )

pub related_say : (w : Direction) (s : Sight) → verdict_of related_net s0 w s ≡ by_rules related_net (related_answers related_net w s)
related_say w s = spoken related_net s0 w s (related_answers related_net w s) (related_hold related_net w s)

pub turned_say : (w : Direction) (s : Sight) → verdict_of turned_net s0 w s ≡ by_rules turned_net (related_answers turned_net w s)
turned_say w s = spoken turned_net s0 w s (related_answers turned_net w s) (related_hold turned_net w s)

-- rebound-port, idle-connection
abbrev pub alone_net : Network
alone_net = net_of row.answers_alone

abbrev pub alone_answers : Direction → Sight → List Bool
alone_answers w s =
    says way.FromLport w (both alone_net s field.Inport rel.Eq (value.Port (codes "p1") ∷ []) predicates.Udp)
    ∷ says way.ToLport w (both alone_net s field.Outport rel.Eq (value.Port (codes "p1") ∷ []) predicates.Udp)
    ∷ []

pub alone_say : (w : Direction) (s : Sight) → verdict_of alone_net s0 w s ≡ by_rules alone_net (alone_answers w s)
alone_say w s = spoken alone_net s0 w s (alone_answers w s) (
  both_hold alone_net s way.FromLport w field.Inport rel.Eq (value.Port (codes "p1") ∷ []) predicates.Udp,
  (both_hold alone_net s way.ToLport w field.Outport rel.Eq (value.Port (codes "p1") ∷ []) predicates.Udp, tt),
)

-- widths
abbrev pub wide_net : Network
wide_net = net_of row.wide_rules

abbrev pub first_two : List Value
first_two = value.Number 0x0a000001 0xffff_ffff ∷ value.Number 0x0a000002 0xffff_ffff ∷ []

abbrev pub wide_answers : Direction → Sight → List Bool
wide_answers w s =
    says way.FromLport w (one wide_net s field.Ip4Src rel.Ne first_two)
    ∷ says way.FromLport w (one wide_net s field.TcpDst rel.Ge (value.Number 1024 0xffff ∷ []))
    ∷ []

pub wide_say : (w : Direction) (s : Sight) → verdict_of wide_net s0 w s ≡ by_rules wide_net (wide_answers w s)
wide_say w s = spoken wide_net s0 w s (wide_answers w s) (
  one_holds wide_net s way.FromLport w field.Ip4Src rel.Ne first_two,
  (one_holds wide_net s way.FromLport w field.TcpDst rel.Ge (value.Number 1024 0xffff ∷ []), tt),
)

-- ---- one rule

-- group-on-two-switches
abbrev pub group_net : Network
group_net = net_of row.group_rules

abbrev pub group_answers : Direction → Sight → List Bool
group_answers w s = says way.FromLport w (one group_net s field.Inport rel.Eq (value.Group (codes "pg") ∷ [])) ∷ []

pub group_say : (w : Direction) (s : Sight) → verdict_of group_net s0 w s ≡ by_rules group_net (group_answers w s)
group_say w s = spoken group_net s0 w s (group_answers w s) (one_holds group_net s way.FromLport w field.Inport rel.Eq (value.Group (codes "pg") ∷ []), tt)

-- drop-at-exit
abbrev pub exit_net : Network
exit_net = net_of precedence.drop_at_exit_rules

abbrev pub exit_answers : Direction → Sight → List Bool
exit_answers w s = says way.ToLport w (one exit_net s field.EthType rel.Eq is_number) ∷ []

pub exit_say : (w : Direction) (s : Sight) → verdict_of exit_net s0 w s ≡ by_rules exit_net (exit_answers w s)
exit_say w s = spoken exit_net s0 w s (exit_answers w s) (one_holds exit_net s way.ToLport w field.EthType rel.Eq is_number, tt)
