-- The packet of the frame of a whole packet is that packet.
use Rattle.std.specs.Prelude.{◌==◌, ◌&&◌, true, false, cond, nat_le, slice_index, bit_and}
use Rattle.std.proofs.Common.{◌≡◌, ◌≢◌, ◌+◌, ◌-◌, ◌*◌, ◌/◌, ◌%◌, ◌^◌, ◌<◌, ◌≤◌, ℕ, List, ◌++◌, length, take, drop, refl, ap, sym, ◌∙◌, append_assoc, arith, inl, inr}
use Rattle.std.proofs.Math.Seq.{drop-append_seam, drop-append-add, take-append_seam}
use Rattle.std.proofs.lemmas.Bool.{and_from, and_parts, cond-true, cond-false, cases_Bool, eq-eqb, eqb-true, false_from_ne_true, le-leb, leb-true, false≢true}
use Rattle.ovn_base.proofs.MacLemmas.{mac_of_bytes-own}
use Rattle.inet_packet.specs.Frame.{two, arp_bytes, body_bytes, frame_of, ip4_header, part_bytes}
use Rattle.inet_packet.specs.Reading.{header_len, total_len}
use Rattle.inet_packet.specs.Whole.{IsFragment, IsPart, IsPartWithin, IsWhole, IsWholeArp, IsWholeBody, IsWholeIp4, IsWholeOther}
use Rattle.inet_packet.specs.declared.packet.Arp as records
use Rattle.inet_packet.specs.declared.packet.Body.{Body}
use Rattle.inet_packet.specs.declared.packet.Body.TheVariants.{Arp, Ip4, Other}
use Rattle.inet_packet.specs.declared.packet.Ip4Packet.{Ip4Packet}
use Rattle.inet_packet.specs.declared.packet.Packet.{Packet}
use Rattle.inet_packet.specs.declared.packet.Part.{Part}
use Rattle.inet_packet.specs.declared.packet.Part.TheVariants.{Tcp, Udp, Icmp, OtherIp, Fragment}
use Rattle.world_core.specs.FramePackets.{arp_in, body_in, icmp_in, ip4_in, packet_in, part_in, tcp_in, two_at, udp_in, options_len}
use Rattle.world_setup.specs.Frames.{is_arp_bytes}
use Rattle.world_core.proofs.FrameFaults.{arp_tests}

-- ---- numbers

two_is : (n : ℕ) → n < 2 ^ 16 → n / 256 % 256 * 256 + n % 256 ≡ n
two_is n small = omega (arith, small)

four_is : (n : ℕ) → n < 2 ^ 32 → (n / 16777216 % 256 * 256 + n / 65536 % 256) * 65536 + (n / 256 % 256 * 256 + n % 256) ≡ n
four_is n small = omega (arith, small)

is_not : (n k : ℕ) → n ≢ k → (n == k) ≡ false
is_not n k other = false_from_ne_true (n == k) (λ same. other (eqb-true n k same))

-- ---- ARP

arp_law : (a : records.Arp) (rest : List ℕ) → IsWholeArp a → arp_in (arp_bytes a ++ rest) ≡ a
arp_law a rest h =
    let op = two_is a.op h.op in
    let sha = mac_of_bytes-own a.sha in
    let spa = four_is a.spa.0 h.spa in
    let tha = mac_of_bytes-own a.tha in
    let tpa = four_is a.tpa.0 h.tpa in
    λ i. record { op = op i; sha = sha i; spa = record { 0 = spa i }; tha = tha i; tpa = record { 0 = tpa i } }

-- ---- transport headers

-- what stands behind the twelve bytes in the middle
behind_middle : (middle back rest : List ℕ) → length middle ≡ 12 → (n : ℕ) → drop (12 + n) ((middle ++ back) ++ rest) ≡ drop n (back ++ rest)
behind_middle middle back rest twelve n = ap (λ l. drop (12 + n) l) (append_assoc middle back rest) ∙ ap (λ k. drop (k + n) (middle ++ (back ++ rest))) (sym twelve) ∙ drop-append-add middle (back ++ rest) n

front_of : (front rest : List ℕ) (n : ℕ) → length front ≡ n → take n (front ++ rest) ≡ front
front_of front rest n is = ap (λ k. take k (front ++ rest)) (sym is) ∙ take-append_seam front rest

tcp_law : (src dst : ℕ) (middle : List ℕ) (sum urgent : ℕ) (rest : List ℕ) → IsPartWithin (Tcp src dst middle sum urgent) → tcp_in (part_bytes (Tcp src dst middle sum urgent) ++ rest) ≡ Tcp src dst middle sum urgent
tcp_law src dst middle sum urgent rest w =
    let back = two sum ++ two urgent in
    let a = two_is src w.0 in
    let b = two_is dst w.1 in
    let m : take 12 ((middle ++ back) ++ rest) ≡ middle = ap (λ l. take 12 l) (append_assoc middle back rest) ∙ front_of middle (back ++ rest) 12 w.2 in
    let s : two_at 12 ((middle ++ back) ++ rest) ≡ sum = ap (λ l. slice_index l 0 * 256 + slice_index l 1) (behind_middle middle back rest w.2 0) ∙ two_is sum w.4 in
    let u : two_at 14 ((middle ++ back) ++ rest) ≡ urgent = ap (λ l. slice_index l 0 * 256 + slice_index l 1) (behind_middle middle back rest w.2 2) ∙ two_is urgent w.5 in
    λ i. Tcp (a i) (b i) (m i) (s i) (u i)

udp_law : (src dst len sum : ℕ) (rest : List ℕ) → IsPartWithin (Udp src dst len sum) → udp_in (part_bytes (Udp src dst len sum) ++ rest) ≡ Udp src dst len sum
udp_law src dst len sum rest w =
    let a = two_is src w.0 in
    let b = two_is dst w.1 in
    let l = two_is len w.2 in
    let s = two_is sum w.3 in
    λ i. Udp (a i) (b i) (l i) (s i)

icmp_law : (kind code sum ident : ℕ) (rest : List ℕ) → IsPartWithin (Icmp kind code sum ident) → icmp_in (part_bytes (Icmp kind code sum ident) ++ rest) ≡ Icmp kind code sum ident
icmp_law kind code sum ident rest w =
    let s = two_is sum w.2 in
    let n = two_is ident w.3 in
    λ i. Icmp kind code (s i) (n i)

-- no fragment
whole_one : (frag : ℕ) → ¬ IsFragment frag → (bit_and frag 0x3fff == 0) ≡ true
whole_one frag none = elim (cases_Bool (bit_and frag 0x3fff == 0)) [
  | inl is ↦ is
  | inr other ↦ absurd (none (λ zero'. false≢true (sym other ∙ eq-eqb (bit_and frag 0x3fff) 0 zero')))
]

-- a protocol with its length, or not both
is_so : (proto number len least : ℕ) → proto ≡ number → least ≤ len → (proto == number && nat_le least len) ≡ true
is_so proto number len least same long = and_from (proto == number) (nat_le least len) (eq-eqb proto number same) (le-leb least len long)

not_so : (proto number len least : ℕ) → (proto ≡ number → len < least) → (proto == number && nat_le least len) ≡ false
not_so proto number len least short = false_from_ne_true (proto == number && nat_le least len) never
  where
    never : ¬ ((proto == number && nat_le least len) ≡ true)
    never both =
        let parts = and_parts (proto == number) (nat_le least len) both in
        let small = short (eqb-true proto number parts.0) in
        let long = leb-true least len parts.1 in
        absurd (omega (arith, small, long))

apart : (proto number other : ℕ) → proto ≡ number → number ≢ other → (len least : ℕ) → proto ≡ other → len < least
apart proto number other is differ len least also = absurd (differ (sym is ∙ also))

part_law : (frag proto len : ℕ) (part : Part) (rest : List ℕ) → IsPartWithin part → IsPart frag proto len part → part_in frag proto len (part_bytes part ++ rest) ≡ part
part_law frag proto len (Tcp src dst middle sum urgent) rest w n =
    cond-true _ _ _ (whole_one frag n.0) ∙ cond-true _ _ _ (is_so proto 6 len 20 n.1 n.2) ∙ tcp_law src dst middle sum urgent rest w
part_law frag proto len (Udp src dst length' sum) rest w n =
    cond-true _ _ _ (whole_one frag n.0) ∙ cond-false _ _ _ (not_so proto 6 len 20 (apart proto 17 6 n.1 (λ e. omega (arith, e)) len 20)) ∙ cond-true _ _ _ (is_so proto 17 len 8 n.1 n.2) ∙ udp_law src dst length' sum rest w
part_law frag proto len (Icmp kind code sum ident) rest w n =
    cond-true _ _ _ (whole_one frag n.0) ∙ cond-false _ _ _ (not_so proto 6 len 20 (apart proto 1 6 n.1 (λ e. omega (arith, e)) len 20)) ∙ cond-false _ _ _ (not_so proto 17 len 8 (apart proto 1 17 n.1 (λ e. omega (arith, e)) len 8))
    ∙ cond-true _ _ _ (is_so proto 1 len 8 n.1 n.2) ∙ icmp_law kind code sum ident rest w
part_law frag proto len OtherIp rest w n = cond-true _ _ _ (whole_one frag n.0) ∙ cond-false _ _ _ (not_so proto 6 len 20 n.1) ∙ cond-false _ _ _ (not_so proto 17 len 8 n.2) ∙ cond-false _ _ _ (not_so proto 1 len 8 n.3)
part_law frag proto len Fragment rest w n = cond-false _ _ _ (is_not (bit_and frag 0x3fff) 0 n)

-- ---- IPv4

ip4_law : (p : Ip4Packet) (rest : List ℕ) → IsWholeIp4 p rest → ip4_in ((ip4_header p ++ part_bytes p.part) ++ rest) ≡ p
unfolding ip4_header
ip4_law p rest h =
    let bytes = (ip4_header p ++ part_bytes p.part) ++ rest in
    let count = length p.options in
    let header : header_len bytes ≡ 20 + count = omega (arith, h.words_of_four, h.few_options) in
    let len : options_len bytes ≡ count = omega (arith, header) in
    let total = two_is p.total h.within.total in
    let frag = two_is p.frag h.within.frag in
    let behind : drop 20 bytes ≡ p.options ++ (part_bytes p.part ++ rest) = append_assoc p.options (part_bytes p.part) rest in
    let options : take (options_len bytes) (drop 20 bytes) ≡ p.options = (λ i. take (len i) (behind i)) ∙ front_of p.options (part_bytes p.part ++ rest) count refl in
    let after : drop (options_len bytes) (drop 20 bytes) ≡ part_bytes p.part ++ rest = (λ i. drop (len i) (behind i)) ∙ drop-append_seam p.options (part_bytes p.part ++ rest) in
    let behind_it : total_len bytes - header_len bytes ≡ p.total - (20 + count) = λ i. total i - header i in
    let part : part_in (two_at 6 bytes) (slice_index bytes 9) (total_len bytes - header_len bytes) (drop (options_len bytes) (drop 20 bytes)) ≡ p.part =
    (λ i. part_in (frag i) p.proto (behind_it i) (after i)) ∙ part_law p.frag p.proto (p.total - (20 + count)) p.part rest h.within.part h.named in
    let ident = two_is p.ident h.within.ident in
    let sum = two_is p.sum h.within.sum in
    let src = four_is p.src.0 h.within.src in
    let dst = four_is p.dst.0 h.within.dst in
    λ i. record { tos = p.tos; total = total i; ident = ident i; frag = frag i; ttl = p.ttl; proto = p.proto; sum = sum i; src = record { 0 = src i }; dst = record { 0 = dst i }; options = options i; part = part i }

-- ---- bodies and packets

arp_there : (a : records.Arp) (rest : List ℕ) → is_arp_bytes (arp_bytes a ++ rest) ≡ true
arp_there a rest = (arp_tests (arp_bytes a ++ rest)).1 (record { long = omega arith; kind = refl })

no_arp : (t : ℕ) (rest : List ℕ) → IsWholeOther t rest → (t == 0x0806 && is_arp_bytes rest) ≡ false
no_arp t rest h = false_from_ne_true (t == 0x0806 && is_arp_bytes rest) (λ both. let parts = and_parts (t == 0x0806) (is_arp_bytes rest) both in h.not_arp (eqb-true t 0x0806 parts.0) ((arp_tests rest).0 parts.1))

body_law : (b : Body) (rest : List ℕ) → IsWholeBody b rest → body_in (body_bytes b ++ rest) ≡ b
body_law (Arp a) rest h = cond-true _ _ _ (arp_there a rest) ∙ ap Arp (arp_law a rest h)
body_law (Ip4 p) rest h = ap Ip4 (ip4_law p rest h)
body_law (Other t) rest h =
    ap (λ n. cond (n == 0x0800) (Ip4 (ip4_in rest)) (cond (n == 0x0806 && is_arp_bytes rest) (Arp (arp_in rest)) (Other n))) (two_is t h.within) ∙ cond-false _ _ _ (is_not t 0x0800 h.not_ip4) ∙ cond-false _ _ _ (no_arp t rest h)

-- the packet of a whole packet's frame is that packet
pub packet_in-frame : (p : Packet) → IsWhole p → packet_in (frame_of p) ≡ p
unfolding frame_of packet_in
packet_in-frame p h =
    let bytes = body_bytes p.body ++ p.tail in
    let dst = mac_of_bytes-own p.dst in
    let src = mac_of_bytes-own p.src in
    let body' : body_in bytes ≡ p.body = body_law p.body p.tail h.body in
    let tail : drop (length (body_bytes (body_in bytes))) bytes ≡ p.tail = ap (λ (b : Body). drop (length (body_bytes b)) bytes) body' ∙ drop-append_seam (body_bytes p.body) p.tail in
    λ i. record { dst = dst i; src = src i; body = body' i; tail = tail i }
