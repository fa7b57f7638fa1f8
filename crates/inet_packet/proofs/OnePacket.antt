-- A frame is the frame of at most one whole packet.
use Rattle.std.proofs.Common.{◌≡◌, ◌+◌, ◌-◌, ◌^◌, ◌/◌, ◌%◌, ◌<◌, ℕ, List, ◌++◌, length, get_or, drop, refl, ap, sym, subst, ◌∙◌, append_assoc, arith}
use Rattle.ovn_base.specs.addresses.EtherAddress.{mac_bytes}
use Rattle.ovn_base.proofs.MacLemmas.{same_bytes_ether}
use Rattle.inet_packet.specs.declared.packet.Arp as records
use Rattle.inet_packet.specs.declared.packet.Body.{Body}
use Rattle.inet_packet.specs.declared.packet.Body.TheVariants.{Arp, Ip4, Other}
use Rattle.inet_packet.specs.declared.packet.Ip4Packet.{Ip4Packet}
use Rattle.inet_packet.specs.declared.packet.Packet.{Packet}
use Rattle.inet_packet.specs.declared.packet.Part.{Part}
use Rattle.inet_packet.specs.declared.packet.Part.TheVariants.{Tcp, Udp, Icmp, OtherIp, Fragment}
use Rattle.inet_packet.specs.Frame.{two, four, ip4_header, arp_bytes, part_bytes, body_bytes, frame_of}
use Rattle.inet_packet.specs.Whole.{IsArpBytes, IsPart, IsPartWithin, IsWhole, IsWholeArp, IsWholeBody, IsWholeIp4}
use Rattle.inet_packet.proofs.DecodeLaws.{same_front}

-- the byte of two equal lists at a place
at : (k : ℕ) (x y : List ℕ) → x ≡ y → get_or x k 0 ≡ get_or y k 0
at k x y e = ap (λ (l : List ℕ). get_or l k 0) e

same_two : (m n : ℕ) → m < 2 ^ 16 → n < 2 ^ 16 → m / 256 % 256 ≡ n / 256 % 256 → m % 256 ≡ n % 256 → m ≡ n
same_two m n p q a b = omega (arith, p, q, a, b)

same_four : (m n : ℕ) → m < 2 ^ 32 → n < 2 ^ 32 → m / 16777216 % 256 ≡ n / 16777216 % 256 → m / 65536 % 256 ≡ n / 65536 % 256 → m / 256 % 256 ≡ n / 256 % 256 → m % 256 ≡ n % 256 → m ≡ n
same_four m n p q a b c d = omega (arith, p, q, a, b, c, d)

same_part : (frag proto len : ℕ) (p q : Part) (s t : List ℕ) → IsPartWithin p → IsPartWithin q → IsPart frag proto len p → IsPart frag proto len q → part_bytes p ++ s ≡ part_bytes q ++ t → (p ≡ q) × (s ≡ t)
same_part frag proto len (Tcp src0 dst0 middle0 sum0 urgent0) (Tcp src1 dst1 middle1 sum1 urgent1) s t wp wq np nq e =
    let src : src0 ≡ src1 = same_two src0 src1 wp.0 wq.0 (at 0 (part_bytes (Tcp src0 dst0 middle0 sum0 urgent0) ++ s) (part_bytes (Tcp src1 dst1 middle1 sum1 urgent1) ++ t) e) (at 1 (part_bytes (Tcp src0 dst0 middle0 sum0 urgent0) ++ s) (part_bytes (Tcp src1 dst1 middle1 sum1 urgent1) ++ t) e) in
    let dst : dst0 ≡ dst1 = same_two dst0 dst1 wp.1 wq.1 (at 2 (part_bytes (Tcp src0 dst0 middle0 sum0 urgent0) ++ s) (part_bytes (Tcp src1 dst1 middle1 sum1 urgent1) ++ t) e) (at 3 (part_bytes (Tcp src0 dst0 middle0 sum0 urgent0) ++ s) (part_bytes (Tcp src1 dst1 middle1 sum1 urgent1) ++ t) e) in
    let behind : middle0 ++ ((two sum0 ++ two urgent0) ++ s) ≡ middle1 ++ ((two sum1 ++ two urgent1) ++ t) = sym (append_assoc middle0 (two sum0 ++ two urgent0) s) ∙ ap (drop 4) e ∙ append_assoc middle1 (two sum1 ++ two urgent1) t in
    let m = same_front middle0 middle1 ((two sum0 ++ two urgent0) ++ s) ((two sum1 ++ two urgent1) ++ t) (wp.2 ∙ sym wq.2) behind in
    let sum : sum0 ≡ sum1 = same_two sum0 sum1 wp.4 wq.4 (at 0 ((two sum0 ++ two urgent0) ++ s) ((two sum1 ++ two urgent1) ++ t) m.1) (at 1 ((two sum0 ++ two urgent0) ++ s) ((two sum1 ++ two urgent1) ++ t) m.1) in
    let urgent : urgent0 ≡ urgent1 = same_two urgent0 urgent1 wp.5 wq.5 (at 2 ((two sum0 ++ two urgent0) ++ s) ((two sum1 ++ two urgent1) ++ t) m.1) (at 3 ((two sum0 ++ two urgent0) ++ s) ((two sum1 ++ two urgent1) ++ t) m.1) in
    (λ i. Tcp (src i) (dst i) (m.0 i) (sum i) (urgent i), ap (drop 4) m.1)
same_part frag proto len (Tcp src0 dst0 middle0 sum0 urgent0) (Udp src1 dst1 len1 sum1) s t wp wq np nq e = absurd (omega (arith, np.1, nq.1))
same_part frag proto len (Tcp src0 dst0 middle0 sum0 urgent0) (Icmp kind1 code1 sum1 ident1) s t wp wq np nq e = absurd (omega (arith, np.1, nq.1))
same_part frag proto len (Tcp src0 dst0 middle0 sum0 urgent0) OtherIp s t wp wq np nq e = absurd (omega (arith, np.2, nq.1 np.1))
same_part frag proto len (Tcp src0 dst0 middle0 sum0 urgent0) Fragment s t wp wq np nq e = absurd (np.0 nq)
same_part frag proto len (Udp src0 dst0 len0 sum0) (Tcp src1 dst1 middle1 sum1 urgent1) s t wp wq np nq e = absurd (omega (arith, np.1, nq.1))
same_part frag proto len (Udp src0 dst0 len0 sum0) (Udp src1 dst1 len1 sum1) s t wp wq np nq e =
    let src : src0 ≡ src1 = same_two src0 src1 wp.0 wq.0 (at 0 (part_bytes (Udp src0 dst0 len0 sum0) ++ s) (part_bytes (Udp src1 dst1 len1 sum1) ++ t) e) (at 1 (part_bytes (Udp src0 dst0 len0 sum0) ++ s) (part_bytes (Udp src1 dst1 len1 sum1) ++ t) e) in
    let dst : dst0 ≡ dst1 = same_two dst0 dst1 wp.1 wq.1 (at 2 (part_bytes (Udp src0 dst0 len0 sum0) ++ s) (part_bytes (Udp src1 dst1 len1 sum1) ++ t) e) (at 3 (part_bytes (Udp src0 dst0 len0 sum0) ++ s) (part_bytes (Udp src1 dst1 len1 sum1) ++ t) e) in
    let len' : len0 ≡ len1 = same_two len0 len1 wp.2 wq.2 (at 4 (part_bytes (Udp src0 dst0 len0 sum0) ++ s) (part_bytes (Udp src1 dst1 len1 sum1) ++ t) e) (at 5 (part_bytes (Udp src0 dst0 len0 sum0) ++ s) (part_bytes (Udp src1 dst1 len1 sum1) ++ t) e) in
    let sum : sum0 ≡ sum1 = same_two sum0 sum1 wp.3 wq.3 (at 6 (part_bytes (Udp src0 dst0 len0 sum0) ++ s) (part_bytes (Udp src1 dst1 len1 sum1) ++ t) e) (at 7 (part_bytes (Udp src0 dst0 len0 sum0) ++ s) (part_bytes (Udp src1 dst1 len1 sum1) ++ t) e) in
    (λ i. Udp (src i) (dst i) (len' i) (sum i), ap (drop 8) e)
same_part frag proto len (Udp src0 dst0 len0 sum0) (Icmp kind1 code1 sum1 ident1) s t wp wq np nq e = absurd (omega (arith, np.1, nq.1))
same_part frag proto len (Udp src0 dst0 len0 sum0) OtherIp s t wp wq np nq e = absurd (omega (arith, np.2, nq.2 np.1))
same_part frag proto len (Udp src0 dst0 len0 sum0) Fragment s t wp wq np nq e = absurd (np.0 nq)
same_part frag proto len (Icmp kind0 code0 sum0 ident0) (Tcp src1 dst1 middle1 sum1 urgent1) s t wp wq np nq e = absurd (omega (arith, np.1, nq.1))
same_part frag proto len (Icmp kind0 code0 sum0 ident0) (Udp src1 dst1 len1 sum1) s t wp wq np nq e = absurd (omega (arith, np.1, nq.1))
same_part frag proto len (Icmp kind0 code0 sum0 ident0) (Icmp kind1 code1 sum1 ident1) s t wp wq np nq e =
    let sum : sum0 ≡ sum1 = same_two sum0 sum1 wp.2 wq.2 (at 2 (part_bytes (Icmp kind0 code0 sum0 ident0) ++ s) (part_bytes (Icmp kind1 code1 sum1 ident1) ++ t) e) (at 3 (part_bytes (Icmp kind0 code0 sum0 ident0) ++ s) (part_bytes (Icmp kind1 code1 sum1 ident1) ++ t) e) in
    let ident : ident0 ≡ ident1 = same_two ident0 ident1 wp.3 wq.3 (at 4 (part_bytes (Icmp kind0 code0 sum0 ident0) ++ s) (part_bytes (Icmp kind1 code1 sum1 ident1) ++ t) e) (at 5 (part_bytes (Icmp kind0 code0 sum0 ident0) ++ s) (part_bytes (Icmp kind1 code1 sum1 ident1) ++ t) e) in
    let kind : kind0 ≡ kind1 = at 0 (part_bytes (Icmp kind0 code0 sum0 ident0) ++ s) (part_bytes (Icmp kind1 code1 sum1 ident1) ++ t) e in
    let code : code0 ≡ code1 = at 1 (part_bytes (Icmp kind0 code0 sum0 ident0) ++ s) (part_bytes (Icmp kind1 code1 sum1 ident1) ++ t) e in
    (λ i. Icmp (kind i) (code i) (sum i) (ident i), ap (drop 6) e)
same_part frag proto len (Icmp kind0 code0 sum0 ident0) OtherIp s t wp wq np nq e = absurd (omega (arith, np.2, nq.3 np.1))
same_part frag proto len (Icmp kind0 code0 sum0 ident0) Fragment s t wp wq np nq e = absurd (np.0 nq)
same_part frag proto len OtherIp (Tcp src1 dst1 middle1 sum1 urgent1) s t wp wq np nq e = absurd (omega (arith, nq.2, np.1 nq.1))
same_part frag proto len OtherIp (Udp src1 dst1 len1 sum1) s t wp wq np nq e = absurd (omega (arith, nq.2, np.2 nq.1))
same_part frag proto len OtherIp (Icmp kind1 code1 sum1 ident1) s t wp wq np nq e = absurd (omega (arith, nq.2, np.3 nq.1))
same_part frag proto len OtherIp OtherIp s t wp wq np nq e = (refl, e)
same_part frag proto len OtherIp Fragment s t wp wq np nq e = absurd (np.0 nq)
same_part frag proto len Fragment (Tcp src1 dst1 middle1 sum1 urgent1) s t wp wq np nq e = absurd (nq.0 np)
same_part frag proto len Fragment (Udp src1 dst1 len1 sum1) s t wp wq np nq e = absurd (nq.0 np)
same_part frag proto len Fragment (Icmp kind1 code1 sum1 ident1) s t wp wq np nq e = absurd (nq.0 np)
same_part frag proto len Fragment OtherIp s t wp wq np nq e = absurd (nq.0 np)
same_part frag proto len Fragment Fragment s t wp wq np nq e = (refl, e)

same_ip4 : (i j : Ip4Packet) (s t : List ℕ) → IsWholeIp4 i s → IsWholeIp4 j t → (ip4_header i ++ part_bytes i.part) ++ s ≡ (ip4_header j ++ part_bytes j.part) ++ t → (i ≡ j) × (s ≡ t)
unfolding ip4_header
same_ip4 i j s t h k e =
    let x = (ip4_header i ++ part_bytes i.part) ++ s in
    let y = (ip4_header j ++ part_bytes j.part) ++ t in
    let first : (64 + (5 + length i.options / 4)) % 256 ≡ (64 + (5 + length j.options / 4)) % 256 = at 0 x y e in
    let len : length i.options ≡ length j.options = omega (arith, first, h.words_of_four, h.few_options, k.words_of_four, k.few_options) in
    let tos : i.tos ≡ j.tos = at 1 x y e in
    let total : i.total ≡ j.total = same_two i.total j.total h.within.total k.within.total (at 2 x y e) (at 3 x y e) in
    let ident : i.ident ≡ j.ident = same_two i.ident j.ident h.within.ident k.within.ident (at 4 x y e) (at 5 x y e) in
    let frag : i.frag ≡ j.frag = same_two i.frag j.frag h.within.frag k.within.frag (at 6 x y e) (at 7 x y e) in
    let ttl : i.ttl ≡ j.ttl = at 8 x y e in
    let proto : i.proto ≡ j.proto = at 9 x y e in
    let sum : i.sum ≡ j.sum = same_two i.sum j.sum h.within.sum k.within.sum (at 10 x y e) (at 11 x y e) in
    let src : i.src.0 ≡ j.src.0 = same_four i.src.0 j.src.0 h.within.src k.within.src (at 12 x y e) (at 13 x y e) (at 14 x y e) (at 15 x y e) in
    let dst : i.dst.0 ≡ j.dst.0 = same_four i.dst.0 j.dst.0 h.within.dst k.within.dst (at 16 x y e) (at 17 x y e) (at 18 x y e) (at 19 x y e) in
    let behind : i.options ++ (part_bytes i.part ++ s) ≡ j.options ++ (part_bytes j.part ++ t) = sym (append_assoc i.options (part_bytes i.part) s) ∙ ap (drop 20) e ∙ append_assoc j.options (part_bytes j.part) t in
    let options = same_front i.options j.options (part_bytes i.part ++ s) (part_bytes j.part ++ t) len behind in
    let named : IsPart i.frag i.proto (i.total - (20 + length i.options)) j.part = subst (λ (n : ℕ). IsPart i.frag i.proto n j.part) (omega (arith, len, total)) (subst (λ (n : ℕ). IsPart i.frag n (j.total - (20 + length j.options)) j.part) (sym proto) (subst (λ (n : ℕ). IsPart n j.proto (j.total - (20 + length j.options)) j.part) (sym frag) k.named)) in
    let part = same_part i.frag i.proto (i.total - (20 + length i.options)) i.part j.part s t h.within.part k.within.part h.named named options.1 in
    (λ n. record { tos = tos n; total = total n; ident = ident n; frag = frag n; ttl = ttl n; proto = proto n; sum = sum n; src = record { 0 = src n }; dst = record { 0 = dst n }; options = options.0 n; part = part.0 n }, part.1)

same_arp : (a b : records.Arp) (s t : List ℕ) → IsWholeArp a → IsWholeArp b → arp_bytes a ++ s ≡ arp_bytes b ++ t → (a ≡ b) × (s ≡ t)
same_arp a b s t h k e =
    let op : a.op ≡ b.op = same_two a.op b.op h.op k.op (at 6 (arp_bytes a ++ s) (arp_bytes b ++ t) e) (at 7 (arp_bytes a ++ s) (arp_bytes b ++ t) e) in
    let ra = four a.spa.0 ++ (mac_bytes a.tha ++ four a.tpa.0) in
    let rb = four b.spa.0 ++ (mac_bytes b.tha ++ four b.tpa.0) in
    let behind : mac_bytes a.sha ++ (ra ++ s) ≡ mac_bytes b.sha ++ (rb ++ t) = ap (drop 8) e in
    let sha = same_front (mac_bytes a.sha) (mac_bytes b.sha) (ra ++ s) (rb ++ t) refl behind in
    let spa : a.spa.0 ≡ b.spa.0 = same_four a.spa.0 b.spa.0 h.spa k.spa (at 0 (ra ++ s) (rb ++ t) sha.1) (at 1 (ra ++ s) (rb ++ t) sha.1) (at 2 (ra ++ s) (rb ++ t) sha.1) (at 3 (ra ++ s) (rb ++ t) sha.1) in
    let last : mac_bytes a.tha ++ (four a.tpa.0 ++ s) ≡ mac_bytes b.tha ++ (four b.tpa.0 ++ t) = ap (drop 4) sha.1 in
    let tha = same_front (mac_bytes a.tha) (mac_bytes b.tha) (four a.tpa.0 ++ s) (four b.tpa.0 ++ t) refl last in
    let tpa : a.tpa.0 ≡ b.tpa.0 = same_four a.tpa.0 b.tpa.0 h.tpa k.tpa (at 0 (four a.tpa.0 ++ s) (four b.tpa.0 ++ t) tha.1) (at 1 (four a.tpa.0 ++ s) (four b.tpa.0 ++ t) tha.1) (at 2 (four a.tpa.0 ++ s) (four b.tpa.0 ++ t) tha.1) (at 3 (four a.tpa.0 ++ s) (four b.tpa.0 ++ t) tha.1) in
    let sender = same_bytes_ether a.sha b.sha sha.0 in
    let target = same_bytes_ether a.tha b.tha tha.0 in
    (λ n. record { op = op n; sha = sender n; spa = record { 0 = spa n }; tha = target n; tpa = record { 0 = tpa n } }, ap (drop 4) tha.1)

-- an ARP packet's bytes are ones
arp_is_arp : (a : records.Arp) (s : List ℕ) → IsArpBytes (arp_bytes a ++ s)
arp_is_arp a s = record { long = omega arith; kind = refl }

same_body : (b c : Body) (s t : List ℕ) → IsWholeBody b s → IsWholeBody c t → body_bytes b ++ s ≡ body_bytes c ++ t → (b ≡ c) × (s ≡ t)
same_body (Arp a) (Arp b) s t h k e = let r = same_arp a b s t h k (ap (drop 2) e) in (ap Arp r.0, r.1)
same_body (Arp a) (Ip4 j) s t h k e = let x : 6 ≡ 0 = at 1 (body_bytes (Arp a) ++ s) (body_bytes (Ip4 j) ++ t) e in absurd (omega (arith, x))
same_body (Arp a) (Other v) s t h k e =
    let high : 8 ≡ v / 256 % 256 = at 0 (body_bytes (Arp a) ++ s) (body_bytes (Other v) ++ t) e in
    let low : 6 ≡ v % 256 = at 1 (body_bytes (Arp a) ++ s) (body_bytes (Other v) ++ t) e in
    let same : arp_bytes a ++ s ≡ t = ap (drop 2) e in
    absurd (k.not_arp (omega (arith, high, low, k.within)) (subst IsArpBytes same (arp_is_arp a s)))
same_body (Ip4 i) (Arp b) s t h k e = let x : 0 ≡ 6 = at 1 (body_bytes (Ip4 i) ++ s) (body_bytes (Arp b) ++ t) e in absurd (omega (arith, x))
same_body (Ip4 i) (Ip4 j) s t h k e = let r = same_ip4 i j s t h k (ap (drop 2) e) in (ap Ip4 r.0, r.1)
same_body (Ip4 i) (Other v) s t h k e =
    let high : 8 ≡ v / 256 % 256 = at 0 (body_bytes (Ip4 i) ++ s) (body_bytes (Other v) ++ t) e in
    let low : 0 ≡ v % 256 = at 1 (body_bytes (Ip4 i) ++ s) (body_bytes (Other v) ++ t) e in
    absurd (k.not_ip4 (omega (arith, high, low, k.within)))
same_body (Other u) (Arp b) s t h k e =
    let high : u / 256 % 256 ≡ 8 = at 0 (body_bytes (Other u) ++ s) (body_bytes (Arp b) ++ t) e in
    let low : u % 256 ≡ 6 = at 1 (body_bytes (Other u) ++ s) (body_bytes (Arp b) ++ t) e in
    let same : arp_bytes b ++ t ≡ s = sym (ap (drop 2) e) in
    absurd (h.not_arp (omega (arith, high, low, h.within)) (subst IsArpBytes same (arp_is_arp b t)))
same_body (Other u) (Ip4 j) s t h k e =
    let high : u / 256 % 256 ≡ 8 = at 0 (body_bytes (Other u) ++ s) (body_bytes (Ip4 j) ++ t) e in
    let low : u % 256 ≡ 0 = at 1 (body_bytes (Other u) ++ s) (body_bytes (Ip4 j) ++ t) e in
    absurd (h.not_ip4 (omega (arith, high, low, h.within)))
same_body (Other u) (Other v) s t h k e =
    let same : u ≡ v = same_two u v h.within k.within (at 0 (body_bytes (Other u) ++ s) (body_bytes (Other v) ++ t) e) (at 1 (body_bytes (Other u) ++ s) (body_bytes (Other v) ++ t) e) in
    (ap Other same, ap (drop 2) e)

pub one_packet_at_most : (p q : Packet) → IsWhole p → IsWhole q → frame_of p ≡ frame_of q → p ≡ q
unfolding frame_of
one_packet_at_most p q h k e =
    let one = same_front (mac_bytes p.dst) (mac_bytes q.dst) (mac_bytes p.src ++ (body_bytes p.body ++ p.tail)) (mac_bytes q.src ++ (body_bytes q.body ++ q.tail)) refl e in
    let more = same_front (mac_bytes p.src) (mac_bytes q.src) (body_bytes p.body ++ p.tail) (body_bytes q.body ++ q.tail) refl one.1 in
    let body = same_body p.body q.body p.tail q.tail h.body k.body more.1 in
    let dst = same_bytes_ether p.dst q.dst one.0 in
    let src = same_bytes_ether p.src q.src more.0 in
    λ i. record { dst = dst i; src = src i; body = body.0 i; tail = body.1 i }
