-- What was learnt about held ports stays true.
use Rattle.std.specs.Prelude.{◌≡◌, ◌⊎◌, ◌+◌, ◌-◌, ◌*◌, ◌%◌, ◌≤◌, ◌<◌, ◌&&◌, ℕ, zero, suc, nat_lt, not, ◌≢◌, Bool, true, false, cond, [], ◌∷◌, Option, Some, None, is_none, unwrap_or, refl}
use mathlib.Core.Path.{sym, ap, subst, ◌∙◌}
use mathlib.Core.Logic.{inl, inr}
use native.Mathlib.Omega.{arith}
use Rattle.std.specs.BTreeMap.{is_at}
use Rattle.std.proofs.lemmas.Bool.{false≢true, cases_Bool, cond-true, cond-false, ltb-true, ltb-false, le-leb, and_from}
use Rattle.std.proofs.lemmas.Option.{none-some, same_Some}
use Rattle.ovn_base.specs.lists.Among.{Among}
use Rattle.ovn_base.proofs.AmongLaws.{among_cases, among_none}
use Rattle.conn_table.specs.declared.connection.Entry.{Entry}
use Rattle.conn_table.specs.declared.tuple.Protocol.{Protocol}
use Rattle.conn_table.specs.declared.tuple.Protocol.TheVariants.{Tcp, Udp, EchoRequest, EchoReply, Other}
use Rattle.conn_table.specs.declared.tuple.Tuple.{Tuple}
use Rattle.conn_table.specs.Connections.{ConnectionList, entry_of, answered, is_free, is_idle, IsConnectionList}
use Rattle.conn_table.specs.HeldPorts.{FloorList, floor_at, block_of, floor_of, IsBlock, IsFloor, AreFloors, AreLearnt, NoneFreeBelow, Forgets, AreForgotten}
use Rattle.conn_table.specs.Order.{tuple_cmp}
use Rattle.conn_table.specs.Picks.{with_port, some_from, is_free_port, has_free_port, may_pick, is_least_port}
use Rattle.conn_table.specs.Tuples.{has_ports}
use Rattle.conn_table.proofs.TupleLaws.{own_by_cmp, other_by_cmp, one_or_two, at_among, among_at}
use Rattle.conn_table.proofs.IndexLaws.{answered_some, answered_none}

-- ---- tuples with another port

-- the port that was put last stands
pub port_again : (n m : ℕ) (t : Tuple) → with_port n (with_port m t) ≡ with_port n t
port_again n m t = by t.protocol
  where
    by : (p : Protocol) → with_port n (with_port m (record t { protocol = p })) ≡ with_port n (record t { protocol = p })
    by Tcp = refl
    by Udp = refl
    by EchoRequest = refl
    by EchoReply = refl
    by (Other k) = refl

pub at_port : (n : ℕ) (t : Tuple) → (with_port n t).dst_port ≡ n
at_port n t = by t.protocol
  where
    by : (p : Protocol) → (with_port n (record t { protocol = p })).dst_port ≡ n
    by Tcp = refl
    by Udp = refl
    by EchoRequest = refl
    by EchoReply = refl
    by (Other k) = refl

-- a multiple of the size is the first of the numbers from it to the next one
abbrev pub CountsFrom : ℕ → Type 0
CountsFrom size = (b n : ℕ) → b % size ≡ 0 → b ≤ n → n < b + size → n - n % size ≡ b

pub counts_few : CountsFrom 256
counts_few b n first low high = omega arith

pub counts_all : CountsFrom 65536
counts_all b n first low high = omega arith

-- a port of the block is in no other of its size
pub own_block : (size : ℕ) (block : Tuple) (n : ℕ) → CountsFrom size → IsBlock size block → block.dst_port ≤ n → n < block.dst_port + size → block_of size (with_port n block) ≡ block
own_block size block n counts is low high =
    let first : (with_port n block).dst_port - (with_port n block).dst_port % size ≡ block.dst_port = subst (λ m. m - m % size ≡ block.dst_port) (sym (at_port n block)) (counts block.dst_port n is.first low high) in
    ap (λ m. with_port m (with_port n block)) first ∙ port_again block.dst_port n block ∙ is.whole

-- the blocks of a tuple
pub block_at : (k : ℕ) (back : Tuple) → k < 256 → IsBlock 256 (with_port (k * 256) back)
block_at k back small =
    let at : (with_port (k * 256) back).dst_port ≡ k * 256 = at_port (k * 256) back in
    record {
      whole = ap (λ m. with_port m (with_port (k * 256) back)) at ∙ port_again (k * 256) (k * 256) back;
      first = subst (λ m. m % 256 ≡ 0) (sym at) (omega arith);
      ends = omega (arith, at);
    }

pub whole_block : (back : Tuple) → IsBlock 65536 (with_port 0 back)
whole_block back =
    let at : (with_port 0 back).dst_port ≡ 0 = at_port 0 back in
    record {
      whole = ap (λ m. with_port m (with_port 0 back)) at ∙ port_again 0 0 back;
      first = subst (λ m. m % 65536 ≡ 0) (sym at) refl;
      ends = omega (arith, at);
    }

-- ---- tuples that are held

-- an entry has the tuple
pub record Holds (list : ConnectionList) (u : Tuple) : Type 0 where
  pub key : Tuple
  pub entry : Entry
  pub among : Among (key, entry) list
  pub has : (entry.forward ≡ u) ⊎ (entry.reply ≡ u)

pub held_by : (list : ConnectionList) (u : Tuple) → IsConnectionList list → is_free list u ≡ false → Holds list u
held_by list u law h = by (entry_of list u) (answered list u) refl refl h
  where
    by : (o a : Option Entry) → entry_of list u ≡ o → answered list u ≡ a → (is_none o && is_none a) ≡ false → Holds list u
    by (Some e) a is was g = let m = at_among list u e is in record { key = u; entry = e; among = m; has = inl ((law.connections u e m).at_forward) }
    by None (Some e) is was g = let f = answered_some list u e was in record { key = f.0; entry = e; among = f.1; has = inr f.2 }
    by None None is was g = absurd (false≢true (sym g))

pub held : (list : ConnectionList) (u : Tuple) → IsConnectionList list → Holds list u → is_free list u ≡ false
held list u law h = elim h.has [
  | inl same ↦
      let key : h.key ≡ u = sym (law.connections h.key h.entry h.among).at_forward ∙ same in
      let found : entry_of list u ≡ Some h.entry = subst (λ k. entry_of list k ≡ Some h.entry) key (among_at h.key h.entry list law.in_order h.among) in
      ap (λ o. is_none o && is_none (answered list u)) found
  | inr same ↦ by_answer same (answered list u) refl
]
  where
    with_false : (b : Bool) → (b && false) ≡ false
    with_false true = refl
    with_false false = refl

    by_answer : h.entry.reply ≡ u → (a : Option Entry) → answered list u ≡ a → (is_none (entry_of list u) && is_none a) ≡ false
    by_answer same None is = absurd (answered_none h.key h.entry list u is h.among same)
    by_answer same (Some a) is = with_false (is_none (entry_of list u))

-- ---- floors

-- where no tuple gets free, floors stay
pub floors_kept : (size : ℕ) (list after : ConnectionList) (floors : FloorList) → IsConnectionList list → IsConnectionList after
    → ((t : Tuple) (e : Entry) → Among (t, e) list → (w : Entry) × Among (t, w) after × (w.forward ≡ e.forward) × (w.reply ≡ e.reply)) → AreFloors size list floors → AreFloors size after floors
floors_kept size list after floors law then more are = record {
  block = are.block;
  floor = λ t n is.
      let old = are.floor t n is in
      record { low = old.low; high = old.high; held = λ m picked from below. still (with_port m t) (old.held m picked from below) };
}
  where
    still : (u : Tuple) → is_free list u ≡ false → is_free after u ≡ false
    still u h =
        let by = held_by list u law h in
        let w = more by.key by.entry by.among in
        held after u then (record { key = by.key; entry = w.0; among = w.1; has = elim by.has [ inl same ↦ inl (w.2 ∙ same) | inr same ↦ inr (w.3 ∙ same) ] })

-- what is learnt of a block is true, and so is what was known
pub floors_learnt : (size : ℕ) (list : ConnectionList) (floors after : FloorList) (block : Tuple) (n : ℕ) → IsBlock size block → IsFloor size list block n
    → ((q : Tuple) → floor_at after q ≡ cond (is_at (tuple_cmp block) q) (Some n) (floor_at floors q)) → AreFloors size list floors → AreFloors size list after
floors_learnt size list floors after block n is_block is_floor put are = record {
  block = λ t m is. elim (one_or_two block t) [
    | inl same ↦ subst (λ u. IsBlock size u) same is_block
    | inr apart ↦ are.block t m (sym (other t apart) ∙ is)
  ];
  floor = λ t m is. elim (one_or_two block t) [
    | inl same ↦
        let value : n ≡ m = same_Some n m (sym (put t ∙ cond-true (is_at (tuple_cmp block) t) (Some n) (floor_at floors t) (subst (λ u. is_at (tuple_cmp block) u ≡ true) same (own_by_cmp block))) ∙ is) in
        subst (λ u. IsFloor size list u m) same (subst (λ k. IsFloor size list block k) value is_floor)
    | inr apart ↦ are.floor t m (sym (other t apart) ∙ is)
  ];
}
  where
    other : (t : Tuple) → block ≢ t → floor_at after t ≡ floor_at floors t
    other t apart = put t ∙ cond-false (is_at (tuple_cmp block) t) (Some n) (floor_at floors t) (other_by_cmp block t apart)

-- ---- floors that are forgotten

-- of what nothing was known, nothing is known with less
still_none : (floors after : FloorList) (t : Tuple) → ((u : Tuple) (n : ℕ) → floor_at after u ≡ Some n → floor_at floors u ≡ Some n) → floor_at floors t ≡ None → floor_at after t ≡ None
still_none floors after t fewer none = by (floor_at after t) refl
  where
    by : (o : Option ℕ) → floor_at after t ≡ o → o ≡ None
    by None is = refl
    by (Some n) is = absurd (none-some n (sym none ∙ fewer t n is))

-- entries that end are still ahead, or forgotten
pub record IsForgetting (size now : ℕ) (list ahead : ConnectionList) (floors left : FloorList) : Type 0 where
  pub forward : (t : Tuple) (e : Entry) → Among (t, e) list → is_idle now e ≡ true → Among (t, e) ahead ⊎ (floor_at left (block_of size e.forward) ≡ None)
  pub reply : (t : Tuple) (e : Entry) → Among (t, e) list → is_idle now e ≡ true → Among (t, e) ahead ⊎ (floor_at left (block_of size e.reply) ≡ None)
  pub fewer : (t : Tuple) (n : ℕ) → floor_at left t ≡ Some n → floor_at floors t ≡ Some n

pub forgetting_begun : (size now : ℕ) (list ahead : ConnectionList) (floors : FloorList) → ahead ≡ list → IsForgetting size now list ahead floors floors
forgetting_begun size now list ahead floors all = record { forward = λ t e m ends. inl (there t e m); reply = λ t e m ends. inl (there t e m); fewer = λ t n is. is }
  where
    there : (t : Tuple) (e : Entry) → Among (t, e) list → Among (t, e) ahead
    there t e m = subst (λ l. Among (t, e) l) (sym all) m

-- one more entry is forgotten
pub one_forgotten : (size now : ℕ) (list : ConnectionList) (x : Tuple × Entry) (ahead rest : ConnectionList) (floors left after : FloorList) → ahead ≡ x ∷ rest
    → Forgets size now x.1 left after → IsForgetting size now list ahead floors left → IsForgetting size now list rest floors after
one_forgotten size now list x ahead rest floors left after steps done before = record {
  forward = λ t e m ends. next (λ w. w.forward) done.forward t e ends (before.forward t e m ends);
  reply = λ t e m ends. next (λ w. w.reply) done.reply t e ends (before.reply t e m ends);
  fewer = λ t n is. before.fewer t n (done.fewer t n is);
}
  where
    next : (part : Entry → Tuple) → (is_idle now x.1 ≡ true → floor_at after (block_of size (part x.1)) ≡ None) → (t : Tuple) (e : Entry) → is_idle now e ≡ true
        → Among (t, e) ahead ⊎ (floor_at left (block_of size (part e)) ≡ None) → Among (t, e) rest ⊎ (floor_at after (block_of size (part e)) ≡ None)
    next part own t e ends was = elim was [
      | inl m ↦ elim (among_cases (t, e) x rest (subst (λ l. Among (t, e) l) steps m)) [
        | inl same ↦
            let entry : e ≡ x.1 = ap (λ (y : Tuple × Entry). y.1) same in
            inr (subst (λ w. floor_at after (block_of size (part w)) ≡ None) (sym entry) (own (subst (λ w. is_idle now w ≡ true) entry ends)))
        | inr later ↦ inl later
      ]
      | inr gone ↦ inr (still_none left after (block_of size (part e)) done.fewer gone)
    ]

-- where nothing is ahead, all are forgotten
pub all_forgotten : (size now : ℕ) (list ahead : ConnectionList) (floors left : FloorList) → ahead ≡ [] → IsForgetting size now list ahead floors left → AreForgotten size now list floors left
all_forgotten size now list ahead floors left none before = record {
  forward = λ t e m ends. gone t e (block_of size e.forward) (before.forward t e m ends);
  reply = λ t e m ends. gone t e (block_of size e.reply) (before.reply t e m ends);
  fewer = before.fewer;
}
  where
    gone : (t : Tuple) (e : Entry) (block : Tuple) → Among (t, e) ahead ⊎ (floor_at left block ≡ None) → floor_at left block ≡ None
    gone t e block was = elim was [
      | inl m ↦ absurd (among_none (t, e) (subst (λ l. Among (t, e) l) none m))
      | inr is ↦ is
    ]

-- where entries end, the floors of their blocks are forgotten, and the others stay
pub floors_expired : (size now : ℕ) (list after : ConnectionList) (floors left : FloorList) → CountsFrom size → IsConnectionList list → IsConnectionList after
    → ((t : Tuple) (e : Entry) → Among (t, e) list → is_idle now e ≡ false → Among (t, e) after) → AreForgotten size now list floors left → AreFloors size list floors → AreFloors size after left
floors_expired size now list after floors left counts law then stays gone are = record {
  block = λ t n is. are.block t n (gone.fewer t n is);
  floor = λ t n is.
      let old = are.floor t n (gone.fewer t n is) in
      record { low = old.low; high = old.high; held = λ m picked from below. still t n m is old picked from below };
}
  where
    still : (t : Tuple) (n m : ℕ) → floor_at left t ≡ Some n → IsFloor size list t n → 1024 ≤ m → t.dst_port ≤ m → m < n → is_free after (with_port m t) ≡ false
    still t n m is old picked from below = by_idle (is_idle now by.entry) refl
      where
        by : Holds list (with_port m t)
        by = held_by list (with_port m t) law (old.held m picked from below)

        own : block_of size (with_port m t) ≡ t
        own = own_block size t m counts (are.block t n (gone.fewer t n is)) from (omega (arith, below, old.high))

        known : (u : Tuple) → u ≡ with_port m t → floor_at left (block_of size u) ≡ None → ⊥
        known u same none = none-some n (sym (subst (λ v. floor_at left v ≡ None) (ap (λ v. block_of size v) same ∙ own) none) ∙ is)

        by_idle : (b : Bool) → is_idle now by.entry ≡ b → is_free after (with_port m t) ≡ false
        by_idle false on = held after (with_port m t) then (record { key = by.key; entry = by.entry; among = stays by.key by.entry by.among on; has = by.has })
        by_idle true ends = elim by.has [
          | inl same ↦ absurd (known by.entry.forward same (gone.forward by.key by.entry by.among ends))
          | inr same ↦ absurd (known by.entry.reply same (gone.reply by.key by.entry by.among ends))
        ]

-- ---- both sizes of blocks

pub learnt_kept : (list after : ConnectionList) (floors starts : FloorList) → IsConnectionList list → IsConnectionList after
    → ((t : Tuple) (e : Entry) → Among (t, e) list → (w : Entry) × Among (t, w) after × (w.forward ≡ e.forward) × (w.reply ≡ e.reply)) → AreLearnt list floors starts → AreLearnt after floors starts
learnt_kept list after floors starts law then more are = record { few = floors_kept 256 list after floors law then more are.few; all = floors_kept 65536 list after starts law then more are.all }

pub learnt_expired : (now : ℕ) (list after : ConnectionList) (floors starts few_left all_left : FloorList) → IsConnectionList list → IsConnectionList after
    → ((t : Tuple) (e : Entry) → Among (t, e) list → is_idle now e ≡ false → Among (t, e) after) → AreForgotten 256 now list floors few_left → AreForgotten 65536 now list starts all_left
    → AreLearnt list floors starts → AreLearnt after few_left all_left
learnt_expired now list after floors starts few_left all_left law then stays few_gone all_gone are = record {
  few = floors_expired 256 now list after floors few_left counts_few law then stays few_gone are.few;
  all = floors_expired 65536 now list after starts all_left counts_all law then stays all_gone are.all;
}

-- ---- the first number that passes

module _ (test : ℕ → Bool) where
  step : Bool → ℕ → ℕ → Bool
  step b from n = elim b [ true ↦ true | false ↦ some_from test (from + 1) n ]

  -- none of them passes
  pub none_of : (from n : ℕ) → ((m : ℕ) → from ≤ m → m < from + n → test m ≡ false) → some_from test from n ≡ false
  unfolding step
  none_of from zero none = refl
  none_of from (suc n) none = ap (λ b. step b from n) (none from (omega arith) (omega arith)) ∙ none_of (from + 1) n (λ m low high. none m (omega (arith, low)) (omega (arith, high)))

  -- one of them passes
  pub some_there : (from n k : ℕ) → test (from + k) ≡ true → k < n → some_from test from n ≡ true
  unfolding step
  some_there from zero k passes small = absurd (omega arith)
  some_there from (suc n) zero passes small = ap (λ b. step b from n) (subst (λ m. test m ≡ true) (omega arith) passes)
  some_there from (suc n) (suc k) passes small = by (test from) (some_there (from + 1) n k (subst (λ m. test m ≡ true) (omega arith) passes) (omega arith))
    where
      by : (b : Bool) → some_from test (from + 1) n ≡ true → step b from n ≡ true
      by true ih = refl
      by false ih = ih

-- ---- ports of a tuple that isn't the block's own

-- where none of the ports below a block is free, none is below its floor
pub none_through : (list : ConnectionList) (back block : Tuple) (k floor : ℕ) → block ≡ with_port (k * 256) back → IsFloor 256 list block floor
    → NoneFreeBelow list back (k * 256) → NoneFreeBelow list back floor
none_through list back block k floor is f none n low high =
    let start : block.dst_port ≡ k * 256 = ap (λ (t : Tuple). t.dst_port) is ∙ at_port (k * 256) back in
    elim (cases_Bool (nat_lt n (k * 256))) [
      | inl below ↦ none n low (ltb-true n (k * 256) below)
      | inr beyond ↦
          let from : k * 256 ≤ n = ltb-false n (k * 256) beyond in
          subst (λ u. is_free list u ≡ false) (ap (λ u. with_port n u) is ∙ port_again n (k * 256) back) (f.held n low (omega (arith, start, from)) high)
    ]

-- what is known of a block is a floor
pub floor_known : (size : ℕ) (list : ConnectionList) (floors : FloorList) (block : Tuple) → AreFloors size list floors → IsFloor size list block (floor_of floors block)
floor_known size list floors block are = by (floor_at floors block) refl
  where
    by : (o : Option ℕ) → floor_at floors block ≡ o → IsFloor size list block (unwrap_or o block.dst_port)
    by None is = record { low = omega arith; high = omega arith; held = λ n picked from below. absurd (omega (arith, from, below)) }
    by (Some n) is = are.floor block n is

-- and of all ports of a tuple, where they start
pub start_of : (list : ConnectionList) (back : Tuple) (floor : ℕ) → IsFloor 65536 list (with_port 0 back) floor → NoneFreeBelow list back floor
start_of list back floor f n low high =
    subst (λ u. is_free list u ≡ false) (port_again n 0 back) (f.held n low (omega (arith, at_port 0 back)) high)

pub floor_of_all : (list : ConnectionList) (back : Tuple) (start : ℕ) → start ≤ 65536 → NoneFreeBelow list back start → IsFloor 65536 list (with_port 0 back) start
floor_of_all list back start most none =
    let at : (with_port 0 back).dst_port ≡ 0 = at_port 0 back in
    record {
      low = omega (arith, at);
      high = omega (arith, at, most);
      held = λ n low from below. subst (λ u. is_free list u ≡ false) (sym (port_again n 0 back)) (none n low below);
    }

-- the least port that is free may be picked
pub picked_port : (list : ConnectionList) (back : Tuple) (n : ℕ) → has_ports back.protocol ≡ true → 1024 ≤ n → n < 65536 → is_free_port list back n ≡ true
    → NoneFreeBelow list back n → (has_free_port list back ≡ true) × (may_pick list back n ≡ true) × (is_least_port list back n ≡ true)
picked_port list back n ports low high free none =
    let test = is_free_port list back in
    let here : n ≡ 1024 + (n - 1024) = omega (arith, low) in
    let most : n ≤ 65535 = omega (arith, high) in (
      ap (λ b. cond b (some_from test 1024 64512) false) ports ∙ some_there test 1024 64512 (n - 1024) (subst (λ m. test m ≡ true) here free) (omega (arith, low, high)),
      and_from _ _ (le-leb 1024 n low) (and_from _ _ (le-leb n 65535 most) free),
      ap (λ b. not b) (none_of test 1024 (n - 1024) (λ m from below. none m from (omega (arith, below, low)))),
    )

-- and there is none where none is free
pub no_port : (list : ConnectionList) (back : Tuple) → has_ports back.protocol ≡ true → NoneFreeBelow list back 65536 → has_free_port list back ≡ false
no_port list back ports none =
    let test = is_free_port list back in
    ap (λ b. cond b (some_from test 1024 64512) false) ports ∙ none_of test 1024 64512 (λ m from below. none m from (omega (arith, below)))
