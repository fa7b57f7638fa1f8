-- A backend is printed as one word, which is read as that backend again.
use Rattle.std.proofs.Common.{◌≡◌, ◌≢◌, ◌+◌, ◌<◌, ◌≤◌, ◌^◌, ◌++◌, ◌==◌, ℕ, Bool, true, List, [], ◌∷◌, take, drop, map, nat_le, codes, decimal, position, Option, Some, None, refl, sym, ap, ◌∙◌, arith}
use Rattle.std.specs.Int.{from_be_bytes, to_be_bytes, byte_at}
use Rattle.std.specs.List.{AllByRecursion, join_with_byte}
use Rattle.std.specs.Option.{option_map}
use mir.Syntax.{w32}
use Rattle.std.proofs.lemmas.Bool.{le-leb}
use Rattle.std.proofs.lemmas.List.Elements.{All-from_recursion}
use Rattle.std.proofs.lemmas.Nat.{from_be_bytes-to_be_bytes_4}
use Rattle.ovn_base.specs.addresses.AddressReading.{◌>>=◌, parted, first_spelled_octet, spelled_ip4}
use Rattle.ovn_base.specs.addresses.AddressText.{ip4_text}
use Rattle.ovn_base.specs.declared.address.Backend.{Backend}
use Rattle.ovn_base.specs.declared.address.Ip4.{Ip4}
use Rattle.ovn_base.specs.numbers.NumberReading.{spelled_number}
use Rattle.ovn_base.proofs.AddressLemmas.{decimal_lacks}
use Rattle.ovn_base.proofs.DecimalLemmas.{spelled_is}
use Rattle.ovn_base.proofs.JoinedLemmas.{Lacks, lacks_seam, same_cut}
use Rattle.ovn_base.proofs.SeparatorLaws.{no_place, at_place}
use Rattle.nb_records.specs.Grammar.{IsBackend}
use Rattle.edit_reader.specs.Grammars.{some_port, spelled_port, spelled_backend}
use Rattle.event_lines.specs.Text.{backend_text}
use Rattle.event_lines.proofs.Feeds.{IsDigit, AreInWord, decimal_digits, decimal_in_word, in_word_joined}

-- ---- bytes

-- a digit, or the dot between numbers
abbrev IsDotted : ℕ → Type 0
IsDotted b = (46 ≤ b) × (b ≤ 57)

dotted_joined : (xs ys : List ℕ) → AllByRecursion IsDigit xs → AllByRecursion IsDotted ys → AllByRecursion IsDotted (xs ++ ys)
dotted_joined [] ys h k = k
dotted_joined (x ∷ xs) ys h k = ((omega (arith, h.0.0), h.0.1), dotted_joined xs ys h.1 k)

dotted_alone : (xs : List ℕ) → AllByRecursion IsDigit xs → AllByRecursion IsDotted xs
dotted_alone [] h = tt
dotted_alone (x ∷ xs) h = ((omega (arith, h.0.0), h.0.1), dotted_alone xs h.1)

dotted_row : (numbers : List ℕ) → AllByRecursion IsDotted (join_with_byte 46 (map decimal numbers))
dotted_row [] = tt
dotted_row (n ∷ []) = dotted_alone (decimal n) (decimal_digits n)
dotted_row (n ∷ next ∷ numbers) = dotted_joined (decimal n) (46 ∷ join_with_byte 46 (map decimal (next ∷ numbers))) (decimal_digits n) ((omega arith, omega arith), dotted_row (next ∷ numbers))

ip4_dotted : (ip : Ip4) → AllByRecursion IsDotted (ip4_text ip)
ip4_dotted ip = dotted_row (to_be_bytes w32 ip.0)

dotted_in_word : (xs : List ℕ) → AllByRecursion IsDotted xs → AreInWord xs
dotted_in_word [] h = tt
dotted_in_word (x ∷ xs) h = (record { no_feed = λ e. omega (arith, h.0.0); no_blank = λ e. omega (arith, h.0.0) }, dotted_in_word xs h.1)

no_colon : (xs : List ℕ) → AllByRecursion IsDotted xs → AllByRecursion (λ b. b ≢ 58) xs
no_colon [] h = tt
no_colon (x ∷ xs) h = ((λ e. omega (arith, h.0.1)), no_colon xs h.1)

pub ip4_in_word : (ip : Ip4) → AreInWord (ip4_text ip)
ip4_in_word ip = dotted_in_word (ip4_text ip) (ip4_dotted ip)

pub backend_in_word : (backend : Backend) → AreInWord (backend_text backend)
unfolding backend_text
backend_in_word backend =
    in_word_joined (ip4_text backend.ip) (58 ∷ decimal backend.port) (ip4_in_word backend.ip)
    (record { no_feed = λ e. omega arith; no_blank = λ e. omega arith }, decimal_in_word backend.port)

-- ---- reading

-- the parts before and after a separator that isn't in the first
parted_at : (x : ℕ) (front rest : List ℕ) → Lacks x front → parted x (front ++ x ∷ rest) ≡ Some (front, rest)
parted_at x front rest lacks = by (position (λ b. b == x) (front ++ x ∷ rest)) refl
  where
    by : (o : Option ℕ) → position (λ b. b == x) (front ++ x ∷ rest) ≡ o → option_map {U = List ℕ × List ℕ} (λ i. (take i (front ++ x ∷ rest), drop (i + 1) (front ++ x ∷ rest))) o ≡ Some (front, rest)
    by None e = absurd (lacks_seam x front rest (no_place x (front ++ x ∷ rest) e))
    by (Some i) e =
        let place = at_place x (front ++ x ∷ rest) i e in
        let cuts = same_cut x (take i (front ++ x ∷ rest)) front (drop (i + 1) (front ++ x ∷ rest)) rest place.before lacks (sym place.split) in
        λ k. Some (cuts.0 k, cuts.1 k)

number_read : (most n : ℕ) → most < 2 ^ 64 → n ≤ most → spelled_number most (decimal n) ≡ Some n
number_read most n fits small = sym (spelled_is (decimal n) most fits (Some n) (small, refl) tt)

octet_read : (n : ℕ) (rest : List ℕ) → n < 256 → first_spelled_octet (decimal n ++ 46 ∷ rest) ≡ Some (n, rest)
unfolding first_spelled_octet
octet_read n rest small =
    rw (parted_at 46 (decimal n) rest (decimal_lacks 46 n (omega arith) (omega (arith, small))), number_read 255 n (omega arith) (omega (arith, small))) refl

ip4_read : (ip : Ip4) → ip.0 < 2 ^ 32 → spelled_ip4 (ip4_text ip) ≡ Some ip
unfolding spelled_ip4
ip4_read ip small =
    let a = byte_at 3 ip.0 in
    let b = byte_at 2 ip.0 in
    let c = byte_at 1 ip.0 in
    let d = byte_at 0 ip.0 in
    rw (octet_read a (decimal b ++ 46 ∷ (decimal c ++ 46 ∷ decimal d)) (omega arith), octet_read b (decimal c ++ 46 ∷ decimal d) (omega arith), octet_read c (decimal d) (omega arith), number_read 255 d (omega arith) (omega arith), from_be_bytes-to_be_bytes_4 ip.0 small) refl

pub port_read : (port : ℕ) → 1 ≤ port → port ≤ 65535 → spelled_port (decimal port) ≡ Some port
unfolding spelled_port
port_read port some few = rw (number_read 65535 port (omega arith) few, le-leb 1 port some) refl

pub backend_read : (backend : Backend) → IsBackend backend → spelled_backend (backend_text backend) ≡ Some backend
unfolding backend_text spelled_backend
backend_read backend is =
    let few = is.few in
    rw (parted_at 58 (ip4_text backend.ip) (decimal backend.port) (All-from_recursion (λ b. b ≢ 58) (ip4_text backend.ip) (no_colon (ip4_text backend.ip) (ip4_dotted backend.ip))), ip4_read backend.ip is.ip, port_read backend.port is.some (omega (arith, few))) refl
