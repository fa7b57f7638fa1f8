-- Tuples that compare equal are one; look-ups and members of entries in order of tuple.
use Rattle.std.specs.Prelude.{◌≡◌, ◌≢◌, ◌⊎◌, ◌+◌, ℕ, zero, suc, true, false, List, [], ◌∷◌, Some, refl}
use mathlib.Core.Path.{sym, ap, subst, ◌∙◌}
use mathlib.Core.Logic.{inl, inr}
use native.Mathlib.Omega.{arith}
use Rattle.std.specs.BTreeMap.{is_at}
use Rattle.std.specs.Cmp.{IsTotalOrder}
use Rattle.std.specs.Cmp.Lexicographic.{on_texts}
use Rattle.std.specs.List.{AllByRecursion}
use Rattle.std.specs.List.Sorted.{IsStrictlySortedBy}
use Rattle.std.specs.Map.{keys_of, lookup}
use Rattle.std.specs.Option.{unwrap_or}
use Rattle.std.specs.Ordering.{is_eq}
use Rattle.std.specs.declared.cmp.Ordering.TheVariants.{Less}
use Rattle.std.proofs.lemmas.Bool.{false≢true, cases_Bool, cond-true, cond-false}
use Rattle.std.proofs.lemmas.Cmp.{tied_itself}
use Rattle.std.proofs.lemmas.Map.Text.{is_eq-slice_cmp}
use Rattle.ovn_base.specs.lists.Among.{Among, here, there}
use Rattle.ovn_base.specs.names.SameName.{bytes_decides}
use Rattle.ovn_base.proofs.AmongLaws.{among_same}
use Rattle.conn_table.specs.declared.tuple.Protocol.{Protocol}
use Rattle.conn_table.specs.declared.tuple.Protocol.TheVariants.{Tcp, Udp, EchoRequest, EchoReply, Other}
use Rattle.conn_table.specs.declared.tuple.Tuple.{Tuple}
use Rattle.conn_table.specs.Order.{protocol_number, tuple_numbers, same_tuple, tuple_cmp}

-- ---- tuples and their numbers

-- the protocol of a number
abbrev protocol_at : ℕ → Protocol
protocol_at zero = Tcp
protocol_at (suc zero) = Udp
protocol_at (suc (suc zero)) = EchoRequest
protocol_at (suc (suc (suc zero))) = EchoReply
protocol_at (suc (suc (suc (suc n)))) = Other n

protocol_back : (p : Protocol) → protocol_at (protocol_number p) ≡ p
protocol_back Tcp = refl
protocol_back Udp = refl
protocol_back EchoRequest = refl
protocol_back EchoReply = refl
protocol_back (Other n) = let e : 4 + n ≡ suc (suc (suc (suc n))) = omega arith in ap protocol_at e

-- the number at the front, and the numbers behind it
abbrev front : List ℕ → ℕ
front [] = 0
front (x ∷ xs) = x

abbrev behind : List ℕ → List ℕ
behind [] = []
behind (x ∷ xs) = xs

-- the tuple of the numbers
abbrev tuple_at : List ℕ → Tuple
tuple_at ns = record { protocol = protocol_at (front ns); src = record { 0 = front (behind ns) }; src_port = front (behind (behind ns)); dst = record { 0 = front (behind (behind (behind ns))) }; dst_port = front (behind (behind (behind (behind ns)))) }

tuple_back : (t : Tuple) → tuple_at (tuple_numbers t) ≡ t
tuple_back t = λ i. record { protocol = protocol_back t.protocol i; src = t.src; src_port = t.src_port; dst = t.dst; dst_port = t.dst_port }

same_numbers : (a b : Tuple) → tuple_numbers a ≡ tuple_numbers b → a ≡ b
same_numbers a b e = sym (tuple_back a) ∙ (ap tuple_at e ∙ tuple_back b)

-- ---- tuples that compare equal

pub tuple_total : IsTotalOrder tuple_cmp
tuple_total = on_texts tuple_numbers

pub same_by_cmp : (a b : Tuple) → is_at (tuple_cmp a) b ≡ true → a ≡ b
same_by_cmp a b h = same_numbers a b ((bytes_decides (tuple_numbers a) (tuple_numbers b)).0 (sym (is_eq-slice_cmp (tuple_numbers a) (tuple_numbers b)) ∙ h))

pub own_by_cmp : (a : Tuple) → is_at (tuple_cmp a) a ≡ true
own_by_cmp a = ap is_eq (tied_itself tuple_total a)

pub other_by_cmp : (a b : Tuple) → a ≢ b → is_at (tuple_cmp a) b ≡ false
other_by_cmp a b apart = elim (cases_Bool (is_at (tuple_cmp a) b)) [
  | inl same ↦ absurd (apart (same_by_cmp a b same))
  | inr other ↦ other
]

pub same_by_eq : (a b : Tuple) → same_tuple a b ≡ true → a ≡ b
same_by_eq a b h = same_numbers a b ((bytes_decides (tuple_numbers a) (tuple_numbers b)).0 h)

pub own_by_eq : (a : Tuple) → same_tuple a a ≡ true
own_by_eq a = (bytes_decides (tuple_numbers a) (tuple_numbers a)).1 refl

-- one tuple or two
pub one_or_two : (a b : Tuple) → (a ≡ b) ⊎ (a ≢ b)
one_or_two a b = elim (cases_Bool (is_at (tuple_cmp a) b)) [
  | inl same ↦ inl (same_by_cmp a b same)
  | inr other ↦ inr (λ same. false≢true (sym other ∙ subst (λ n. is_at (tuple_cmp a) n ≡ true) same (own_by_cmp a)))
]

-- a tuple that is below another is another
below_apart : (a b : Tuple) → tuple_cmp a b ≡ Less → b ≢ a
below_apart a b below same = false≢true (sym (ap is_eq below) ∙ subst (λ n. is_at (tuple_cmp a) n ≡ true) (sym same) (own_by_cmp a))

module _ {X : Type 0} where
  -- ---- look-ups

  -- what is found first
  at_head : (e : Tuple × X) (es : List (Tuple × X)) → lookup (is_at (tuple_cmp e.0)) (e ∷ es) ≡ Some e.1
  at_head e es = cond-true (is_at (tuple_cmp e.0) e.0) (Some e.1) (lookup (is_at (tuple_cmp e.0)) es) (own_by_cmp e.0)

  -- and what is found later
  at_tail : (e : Tuple × X) (es : List (Tuple × X)) (q : Tuple) → q ≢ e.0 → lookup (is_at (tuple_cmp q)) (e ∷ es) ≡ lookup (is_at (tuple_cmp q)) es
  at_tail e es q apart = cond-false (is_at (tuple_cmp q) e.0) (Some e.1) (lookup (is_at (tuple_cmp q)) es) (other_by_cmp q e.0 apart)

  -- ---- members

  -- what is found is an entry
  pub at_among : (es : List (Tuple × X)) (q : Tuple) (w : X) → lookup (is_at (tuple_cmp q)) es ≡ Some w → Among (q, w) es
  at_among [] q w found = cc
  at_among (e ∷ es) q w found = elim (one_or_two q e.0) [
    | inl same ↦
        let value : w ≡ e.1 = ap (λ o. unwrap_or o w) (sym found ∙ ap (λ n. lookup (is_at (tuple_cmp n)) (e ∷ es)) same ∙ at_head e es) in
        among_same (q, w) e es (λ i. (same i, value i))
    | inr apart ↦ there (at_among es q w (sym (at_tail e es q apart) ∙ found))
  ]

  -- the tuples of the entries are among the tuples
  above_among : (a : Tuple) (q : Tuple) (w : X) (es : List (Tuple × X)) → AllByRecursion (λ y. tuple_cmp a y ≡ Less) (keys_of es) → Among (q, w) es → tuple_cmp a q ≡ Less
  above_among a q w es h here = h.0
  above_among a q w es h (there m) = above_among a q w _ h.1 m

  -- an entry is found, since its tuple stands once
  pub among_at : (q : Tuple) (w : X) (es : List (Tuple × X)) → IsStrictlySortedBy tuple_cmp (keys_of es) → Among (q, w) es → lookup (is_at (tuple_cmp q)) es ≡ Some w
  unfolding IsStrictlySortedBy
  among_at q w es s here = at_head (q, w) _
  among_at q w (e ∷ es) s (there m) = at_tail e es q (below_apart e.0 q (above_among e.0 q w es s.0 m)) ∙ among_at q w es s.1 m
