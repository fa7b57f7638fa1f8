-- A frame that is read is the frame of what is read, and a bad IPv4 frame is the frame of no whole packet.
use Rattle.std.proofs.Common.{◌≡◌, ◌+◌, ◌^◌, ◌/◌, ◌%◌, ◌<◌, ◌≤◌, ℕ, List, ◌++◌, ◌↔◌, length, get_or, take, drop, refl, ap, sym, subst, ◌∙◌, append_assoc, arith, Result, Err}
use Rattle.std.proofs.lemmas.List.{take_at, drop_at, get_or-append-add, get_or_default, get_or-drop}
use Rattle.ovn_base.specs.addresses.EtherAddress.{mac_bytes}
use Rattle.ovn_base.specs.declared.address.Mac.{Mac}
use Rattle.inet_packet.specs.declared.frame.FrameFault.{FrameFault}
use Rattle.inet_packet.specs.declared.frame.FrameFault.TheVariants as faults
use Rattle.inet_packet.specs.declared.packet.Body.{Body}
use Rattle.inet_packet.specs.declared.packet.Body.TheVariants.{Arp, Ip4, Other}
use Rattle.inet_packet.specs.declared.packet.Packet.{Packet}
use Rattle.inet_packet.specs.Frame.{two, ip4_header, part_bytes, body_bytes, frame_of}
use Rattle.inet_packet.specs.Reading.{ether_type_at, IsIp4Bytes, IsBodyOf, HasBody, ReadsBody, IsBadIp4}
use Rattle.inet_packet.specs.Whole.{AreBytes, IsWhole, IsWholeBody}
use Rattle.inet_packet.proofs.Ip4.{whole_is_ip4}

abbrev pub IsBytes : List ℕ → Type 0
IsBytes bytes = (i : ℕ) → get_or bytes i 0 < 256

-- lists of one length in front of others
pub same_front : (a b x y : List ℕ) → length a ≡ length b → a ++ x ≡ b ++ y → (a ≡ b) × (x ≡ y)
same_front a b x y l e = (
  sym (take_at a x (length a) refl) ∙ ap (take (length a)) e ∙ take_at b y (length a) (sym l),
  sym (drop_at a x (length a) refl) ∙ ap (drop (length a)) e ∙ drop_at b y (length a) (sym l),
)

bytes_behind : (xs front rest : List ℕ) → xs ≡ front ++ rest → IsBytes xs → AreBytes rest
bytes_behind xs front rest e h k d lt =
    let at : get_or xs (length front + k) 0 ≡ get_or rest k 0 = ap (λ (l : List ℕ). get_or l (length front + k) 0) e ∙ get_or-append-add front rest k 0 in
    let same : get_or rest k d ≡ get_or rest k 0 = get_or_default rest k d 0 lt in
    omega (arith, at, same, h (length front + k))

regroup : (a b c d : List ℕ) → a ++ (b ++ (c ++ d)) ≡ (a ++ (b ++ c)) ++ d
regroup a b c d = simp append_assoc

-- how a frame begins
pub record IsHead (frame : List ℕ) (dst src : Mac) (ether_type : ℕ) (rest : List ℕ) : Type 0 where
  pub parts : frame ≡ mac_bytes dst ++ (mac_bytes src ++ (two ether_type ++ rest))
  pub within : ether_type < 2 ^ 16
  pub fits : IsBytes frame

pub head_of : (frame r1 r2 rest : List ℕ) (dst src : Mac) (t : ℕ) → frame ≡ mac_bytes dst ++ r1 → r1 ≡ mac_bytes src ++ r2 → r2 ≡ two t ++ rest → t < 2 ^ 16 → IsBytes frame → IsHead frame dst src t rest
head_of frame r1 r2 rest dst src t a b c w f = record { parts = a ∙ ap (λ (l : List ℕ). mac_bytes dst ++ l) (b ∙ ap (λ (l : List ℕ). mac_bytes src ++ l) c); within = w; fits = f }

abbrev made : Mac → Mac → Body → List ℕ → Packet
made dst src body tail = record { dst = dst; src = src; body = body; tail = tail }

pub made_frame : (frame : List ℕ) (dst src : Mac) (t : ℕ) (rest : List ℕ) (body : Body) (tail : List ℕ) → IsHead frame dst src t rest → IsBodyOf t rest body tail → frame_of (made dst src body tail) ≡ frame
unfolding frame_of
made_frame frame dst src t rest body tail h b = sym (h.parts ∙ ap (λ (l : List ℕ). mac_bytes dst ++ (mac_bytes src ++ l)) b.parts)

pub made_whole : (frame : List ℕ) (dst src : Mac) (t : ℕ) (rest : List ℕ) (body : Body) (tail : List ℕ) → 14 ≤ length frame → length frame ≤ 9216 → IsHead frame dst src t rest → IsBodyOf t rest body tail → IsWhole (made dst src body tail)
made_whole frame dst src t rest body tail long short h b =
    let e = made_frame frame dst src t rest body tail h b in
    let all : frame ≡ (mac_bytes dst ++ (mac_bytes src ++ body_bytes body)) ++ tail = h.parts ∙ ap (λ (l : List ℕ). mac_bytes dst ++ (mac_bytes src ++ l)) b.parts ∙ regroup (mac_bytes dst) (mac_bytes src) (body_bytes body) tail in
    record {
      tail = bytes_behind frame (mac_bytes dst ++ (mac_bytes src ++ body_bytes body)) tail all h.fits;
      long = omega (arith, long, ap length e);
      short = omega (arith, short, ap length e);
      body = b.whole;
    }

-- an IPv4 frame of a whole packet has a right header
ip4_only : (b : Body) (tail rest : List ℕ) → IsWholeBody b tail → body_bytes b ++ tail ≡ two 0x0800 ++ rest → IsIp4Bytes rest
ip4_only (Arp a) tail rest h e = let six : 6 ≡ 0 = ap (λ (l : List ℕ). get_or l 1 0) e in absurd (omega (arith, six))
ip4_only (Ip4 i) tail rest h e = let same : (ip4_header i ++ part_bytes i.part) ++ tail ≡ rest = ap (drop 2) e in subst IsIp4Bytes same (whole_is_ip4 i tail h)
ip4_only (Other t) tail rest h e =
    let high : t / 256 % 256 ≡ 8 = ap (λ (l : List ℕ). get_or l 0 0) e in
    let low : t % 256 ≡ 0 = ap (λ (l : List ℕ). get_or l 1 0) e in
    absurd (h.not_ip4 (omega (arith, high, low, h.within)))

pub behind_type : (p : Packet) (dst src : Mac) (t : ℕ) (rest : List ℕ) → frame_of p ≡ mac_bytes dst ++ (mac_bytes src ++ (two t ++ rest)) → body_bytes p.body ++ p.tail ≡ two t ++ rest
unfolding frame_of
behind_type p dst src t rest e =
    let one = same_front (mac_bytes p.dst) (mac_bytes dst) (mac_bytes p.src ++ (body_bytes p.body ++ p.tail)) (mac_bytes src ++ (two t ++ rest)) refl e in
    (same_front (mac_bytes p.src) (mac_bytes src) (body_bytes p.body ++ p.tail) (two t ++ rest) refl one.1).1

pub type_at : (frame : List ℕ) (dst src : Mac) (t : ℕ) (rest : List ℕ) → IsHead frame dst src t rest → ether_type_at frame ≡ t
type_at frame dst src t rest h =
    let behind : drop 12 frame ≡ two t ++ rest = ap (drop 12) h.parts in
    let a : get_or frame 12 0 ≡ t / 256 % 256 = sym (get_or-drop 12 frame 0 0) ∙ ap (λ (l : List ℕ). get_or l 0 0) behind in
    let b : get_or frame 13 0 ≡ t % 256 = sym (get_or-drop 12 frame 1 0) ∙ ap (λ (l : List ℕ). get_or l 1 0) behind in
    omega (arith, a, b, h.within)

pub is_bad : (frame : List ℕ) (dst src : Mac) (t : ℕ) (rest : List ℕ) → 14 ≤ length frame → length frame ≤ 9216 → IsHead frame dst src t rest → (t ≡ 0x0800) × (¬ IsIp4Bytes rest) → IsBadIp4 frame
is_bad frame dst src t rest long short h b = record {
  long = long;
  short = short;
  ip4 = type_at frame dst src t rest h ∙ b.0;
  of_none = λ p whole e. b.1 (ip4_only p.body p.tail rest whole.body (behind_type p dst src t rest (e ∙ h.parts) ∙ ap (λ (n : ℕ). two n ++ rest) b.0));
}

pub not_bad : (frame : List ℕ) (dst src : Mac) (t : ℕ) (rest : List ℕ) → 14 ≤ length frame → length frame ≤ 9216 → IsHead frame dst src t rest → HasBody t rest → ¬ IsBadIp4 frame
not_bad frame dst src t rest long short h b bad =
    bad.of_none (made dst src b.body b.tail) (made_whole frame dst src t rest b.body b.tail long short h b.is_body) (made_frame frame dst src t rest b.body b.tail h b.is_body)

-- each answer at a fault of the body
pub fault_bad : (e : FrameFault) (frame : List ℕ) (dst src : Mac) (t : ℕ) (rest : List ℕ) → 14 ≤ length frame → length frame ≤ 9216 → IsHead frame dst src t rest → ReadsBody (Err e) t rest → (let r : Result Packet FrameFault = Err e in r ≡ Err faults.BadIp4) ↔ IsBadIp4 frame
fault_bad faults.TooShort frame dst src t rest long short h r = absurd r
fault_bad faults.TooBig frame dst src t rest long short h r = absurd r
fault_bad faults.BadIp4 frame dst src t rest long short h r = (λ _. is_bad frame dst src t rest long short h r, λ _. refl)
fault_bad faults.Memory frame dst src t rest long short h r = (λ e. absurd (cc), λ bad. absurd (not_bad frame dst src t rest long short h r bad))

pub fault_short : (e : FrameFault) (frame : List ℕ) (t : ℕ) (rest : List ℕ) → 14 ≤ length frame → ReadsBody (Err e) t rest → (let r : Result Packet FrameFault = Err e in r ≡ Err faults.TooShort) ↔ (length frame < 14)
fault_short faults.TooShort frame t rest long r = absurd r
fault_short faults.TooBig frame t rest long r = absurd r
fault_short faults.BadIp4 frame t rest long r = (λ e. absurd (cc), λ lt. absurd (omega (arith, lt, long)))
fault_short faults.Memory frame t rest long r = (λ e. absurd (cc), λ lt. absurd (omega (arith, lt, long)))

pub fault_big : (e : FrameFault) (frame : List ℕ) (t : ℕ) (rest : List ℕ) → length frame ≤ 9216 → ReadsBody (Err e) t rest → (let r : Result Packet FrameFault = Err e in r ≡ Err faults.TooBig) ↔ (9216 < length frame)
fault_big faults.TooShort frame t rest short r = absurd r
fault_big faults.TooBig frame t rest short r = absurd r
fault_big faults.BadIp4 frame t rest short r = (λ e. absurd (cc), λ lt. absurd (omega (arith, lt, short)))
fault_big faults.Memory frame t rest short r = (λ e. absurd (cc), λ lt. absurd (omega (arith, lt, short)))
