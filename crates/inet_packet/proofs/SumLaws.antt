-- The one's complement sum is the plain sum without multiples of 65,535.
use Rattle.std.proofs.Common.{◌≡◌, ◌+◌, ◌*◌, ◌-◌, ◌^◌, ◌/◌, ◌%◌, ◌<◌, ◌≤◌, ℕ, zero, suc, zero-add, List, [], ◌∷◌, ◌++◌, Bool, cond, length, get_or, refl, sym, subst, arith, inl, inr}
use Rattle.std.specs.Prelude.{◌==◌, if◌then◌else◌}
use Rattle.std.proofs.lemmas.Bool.{cases_eq, eq-eqb, ne_eqb}
use Rattle.inet_packet.specs.Frame.{two, four}
use Rattle.inet_packet.specs.Rewrites.{not_word, updated, updated_set, udp_updated}
use Rattle.inet_packet.specs.Sums.{words, plain, add_words, ones_sum}

abbrev pub IsBytes : List ℕ → Type 0
IsBytes bytes = (i : ℕ) → get_or bytes i 0 < 256

-- what the one's complement sum has to do with the plain one
pub record IsFolded (bytes : List ℕ) : Type 0 where
  pub times : ℕ
  pub same : plain bytes ≡ ones_sum (words bytes) + 65535 * times
  pub max : ones_sum (words bytes) ≤ 65535
  pub some : 0 < plain bytes → 0 < ones_sum (words bytes)

added : (w s : ℕ) → w ≤ 65535 → s ≤ 65535 → (add_words w s + 65535 * ((w + s) / 65536) ≡ w + s) × (add_words w s ≤ 65535) × (0 < w + s → 0 < add_words w s)
added w s p q = (omega (arith, p, q), omega (arith, p, q), λ h. omega (arith, p, q, h))

pub folded : (bytes : List ℕ) → IsBytes bytes → IsFolded bytes
unfolding words ones_sum
folded [] h = record { times = 0; same = refl; max = omega arith; some = λ k. k }
folded (a ∷ []) h =
    let fits : a * 256 ≤ 65535 = omega (arith, h 0) in
    let one = added (a * 256) 0 fits (omega arith) in
    record { times = (a * 256 + 0) / 65536; same = omega (arith, one.0); max = one.1; some = λ k. one.2 (omega (arith, k)) }
folded (a ∷ b ∷ rest) h =
    let more = folded rest (λ i. h (suc (suc i))) in
    let fits : a * 256 + b ≤ 65535 = omega (arith, h 0, h 1) in
    let s = ones_sum (words rest) in
    let one = added (a * 256 + b) s fits more.max in
    record {
      times = more.times + (a * 256 + b + s) / 65536;
      same = omega (arith, one.0, more.same);
      max = one.1;
      some = λ k. elim (cases_eq (plain rest) 0) [
        | inl z ↦ one.2 (omega (arith, k, z))
        | inr nz ↦ let pos : 0 < s = more.some (omega (arith, nz)) in one.2 (omega (arith, pos))
      ];
    }

-- a sum is 0xffff where the plain sum is a multiple of 65,535 and not 0
pub sums_up_from : (bytes : List ℕ) (j m : ℕ) → IsBytes bytes → 0 < plain bytes → plain bytes + 65535 * j ≡ 65535 * m → ones_sum (words bytes) ≡ 65535
sums_up_from bytes j m h p e =
    let f = folded bytes h in
    let n = ones_sum (words bytes) in
    omega (arith, f.same, f.max, f.some p, e)

pub sums_up_to : (bytes : List ℕ) → IsBytes bytes → ones_sum (words bytes) ≡ 65535 → (m : ℕ) × (plain bytes ≡ 65535 * m)
sums_up_to bytes h e =
    let f = folded bytes h in
    (f.times + 1, omega (arith, f.same, e))

-- numbers in front
pub plain_two : (n : ℕ) (xs : List ℕ) → n < 2 ^ 16 → plain (two n ++ xs) ≡ n + plain xs
plain_two n xs h = omega (arith, h)

pub plain_four : (n : ℕ) (xs : List ℕ) → n < 2 ^ 32 → plain (four n ++ xs) ≡ n / 65536 + n % 65536 + plain xs
plain_four n xs h = omega (arith, h)

-- pairs in front
pub plain_append : (k : ℕ) (xs ys : List ℕ) → length xs ≡ 2 * k → plain (xs ++ ys) ≡ plain xs + plain ys
plain_append k [] ys h = sym (zero-add (plain ys))
plain_append zero (x ∷ xs) ys h = absurd (omega (arith, h))
plain_append (suc k) (x ∷ []) ys h = absurd (omega (arith, h))
plain_append (suc k) (a ∷ b ∷ xs) ys h = let more = plain_append k xs ys (omega (arith, h)) in omega (arith, more)

-- how a sum changes where a word m becomes n
pub record IsChange (sum m n new : ℕ) : Type 0 where
  pub more : ℕ
  pub less : ℕ
  pub same : new + n + 65535 * more ≡ sum + m + 65535 * less
  pub max : new ≤ 65535

pub no_change : (sum m : ℕ) → sum ≤ 65535 → IsChange sum m m sum
no_change sum m h = record { more = 0; less = 0; same = refl; max = h }

pub then_change : (sum m n new o p newer : ℕ) → IsChange sum m n new → IsChange new o p newer → IsChange sum (m + o) (n + p) newer
then_change sum m n new o p newer c d = record { more = c.more + d.more; less = c.less + d.less; same = omega (arith, c.same, d.same); max = d.max }

turned : (sum m n : ℕ) → sum ≤ 65535 → m ≤ 65535 → n ≤ 65535 → IsChange sum m n (not_word (add_words (add_words (not_word sum) (not_word m)) n))
turned sum m n hs hm hn =
    let x = 65535 - sum in
    let y = 65535 - m in
    let one = added x y (omega arith) (omega arith) in
    let s = add_words x y in
    let two = added s n one.1 hn in
    record { more = 1; less = (x + y) / 65536 + (s + n) / 65536; same = omega (arith, one.0, two.0, two.1, hs, hm); max = omega arith }

pub updated_change : (sum m n : ℕ) → sum ≤ 65535 → m ≤ 65535 → n ≤ 65535 → IsChange sum m n (updated sum m n)
updated_change sum m n hs hm hn =
    elim (cases_eq m n) [
      | inl e ↦ subst (λ (x : ℕ). IsChange sum m x (updated sum m x)) e (rw (eq-eqb m m refl) (no_change sum m hs))
      | inr ne ↦ rw (ne_eqb m n ne) (turned sum m n hs hm hn)
    ]

not_zero : (sum m n new : ℕ) → IsChange sum m n new → IsChange sum m n (if new == 0 then 0xffff else new)
not_zero sum m n new c =
    elim (cases_eq new 0) [
      | inl e ↦ rw (eq-eqb new 0 e) (record { more = c.more; less = c.less + 1; same = omega (arith, c.same, e); max = omega arith })
      | inr ne ↦ rw (ne_eqb new 0 ne) c
    ]

pub updated_set_change : (sum m n : ℕ) → sum ≤ 65535 → m ≤ 65535 → n ≤ 65535 → IsChange sum m n (updated_set sum m n)
updated_set_change sum m n hs hm hn =
    elim (cases_eq m n) [
      | inl e ↦ subst (λ (x : ℕ). IsChange sum m x (updated_set sum m x)) e (rw (eq-eqb m m refl) (no_change sum m hs))
      | inr ne ↦ let c = not_zero sum m n (updated sum m n) (updated_change sum m n hs hm hn) in let e = ne_eqb m n ne in subst (λ (b : Bool). IsChange sum m n (cond b sum (if updated sum m n == 0 then 0xffff else updated sum m n))) (sym e) c
    ]

some_or_ffff : (new : ℕ) → 0 < (if new == 0 then 0xffff else new)
some_or_ffff new =
    elim (cases_eq new 0) [
      | inl e ↦ rw (eq-eqb new 0 e) (omega arith)
      | inr ne ↦ rw (ne_eqb new 0 ne) (omega (arith, ne))
    ]

-- where the words differ, the sum is not 0 then
pub updated_set_some : (sum m n : ℕ) → (m ≡ n → ⊥) → 0 < updated_set sum m n
updated_set_some sum m n ne = subst (λ (b : Bool). 0 < cond b sum (if updated sum m n == 0 then 0xffff else updated sum m n)) (sym (ne_eqb m n ne)) (some_or_ffff (updated sum m n))

pub udp_zero : (m n : ℕ) → udp_updated 0 m n ≡ 0
udp_zero m n = refl

pub udp_updated_change : (sum m n : ℕ) → 0 < sum → sum ≤ 65535 → m ≤ 65535 → n ≤ 65535 → IsChange sum m n (udp_updated sum m n)
udp_updated_change sum m n h hs hm hn = let ne : sum ≡ 0 → ⊥ = λ e. absurd (omega (arith, e, h)) in subst (λ (b : Bool). IsChange sum m n (cond b 0 (updated_set sum m n))) (sym (ne_eqb sum 0 ne)) (updated_set_change sum m n hs hm hn)

pub udp_updated_some : (sum m n : ℕ) → 0 < sum → 0 < udp_updated sum m n
udp_updated_some sum m n h =
    let ne : sum ≡ 0 → ⊥ = λ e. absurd (omega (arith, e, h)) in
    let some : 0 < updated_set sum m n = elim (cases_eq m n) [
      | inl e ↦ subst (λ (x : ℕ). 0 < updated_set sum m x) e (subst (λ (b : Bool). 0 < cond b sum (if updated sum m m == 0 then 0xffff else updated sum m m)) (sym (eq-eqb m m refl)) h)
      | inr ne ↦ updated_set_some sum m n ne
    ] in
    subst (λ (b : Bool). 0 < cond b 0 (updated_set sum m n)) (sym (ne_eqb sum 0 ne)) some
