-- A frame is laid out in one way.
use Rattle.std.proofs.Common.{◌≡◌, ℕ, ◌+◌, ◌*◌, ◌/◌, ◌%◌, ◌<◌, List, [], ◌∷◌, ◌++◌, length, take, drop, refl, sym, ap, ◌∙◌, arith, append_assoc}
use Rattle.std.proofs.lemmas.List.{take_at, drop_at, append-nil}
use Rattle.std.specs.List.{flat_map, AllByRecursion}
use Rattle.geneve_frames.specs.Layout.{BaseHeader, HasHeader, TunnelOption, IsTunnelOption, option_bytes, IsFrameLaidOut}

-- fronts of one length are one
pub same_fronts : (a b x y : List ℕ) → length a ≡ length b → a ++ x ≡ b ++ y → (a ≡ b) × (x ≡ y)
same_fronts a b x y len e = (
  sym (take_at a x (length a) refl) ∙ ap (λ (t : List ℕ). take (length a) t) e ∙ take_at b y (length a) (sym len),
  sym (drop_at a x (length a) refl) ∙ ap (λ (t : List ℕ). drop (length a) t) e ∙ drop_at b y (length a) (sym len),
)

two_one : (m n : ℕ) → m < 65536 → n < 65536 → m / 256 % 256 ≡ n / 256 % 256 → m % 256 ≡ n % 256 → m ≡ n
two_one m n lm ln e f = omega arith

three_one : (m n : ℕ) → m < 16777216 → n < 16777216 → m / 65536 % 256 ≡ n / 65536 % 256 → m / 256 % 256 ≡ n / 256 % 256 → m % 256 ≡ n % 256 → m ≡ n
three_one m n lm ln e f g = omega arith

pub same_option : (o p : TunnelOption) → o.class ≡ p.class → o.kind ≡ p.kind → o.reserved ≡ p.reserved → o.words ≡ p.words → o.content ≡ p.content → o ≡ p
same_option o p c k r w d =
    let e1 : o ≡ record o { class = p.class } = ap (λ (x : ℕ). record o { class = x }) c in
    let e2 = ap (λ (x : ℕ). record o { class = p.class; kind = x }) k in
    let e3 = ap (λ (x : ℕ). record o { class = p.class; kind = p.kind; reserved = x }) r in
    let e4 = ap (λ (x : ℕ). record o { class = p.class; kind = p.kind; reserved = p.reserved; words = x }) w in
    let e5 = ap (λ (x : List ℕ). record p { content = x }) d in
    e1 ∙ e2 ∙ e3 ∙ e4 ∙ e5

pub same_base : (o p : BaseHeader) → o.version ≡ p.version → o.words ≡ p.words → o.control ≡ p.control → o.flags ≡ p.flags → o.protocol ≡ p.protocol → o.vni ≡ p.vni → o.reserved ≡ p.reserved → o ≡ p
same_base o p v w c f t n r =
    let e1 : o ≡ record o { version = p.version } = ap (λ (x : ℕ). record o { version = x }) v in
    let e2 = ap (λ (x : ℕ). record o { version = p.version; words = x }) w in
    let e3 = ap (λ (x : ℕ). record o { version = p.version; words = p.words; control = x }) c in
    let e4 = ap (λ (x : ℕ). record o { version = p.version; words = p.words; control = p.control; flags = x }) f in
    let e5 = ap (λ (x : ℕ). record p { protocol = x; vni = o.vni; reserved = o.reserved }) t in
    let e6 = ap (λ (x : ℕ). record p { vni = x; reserved = o.reserved }) n in
    let e7 = ap (λ (x : ℕ). record p { reserved = x }) r in
    e1 ∙ e2 ∙ e3 ∙ e4 ∙ e5 ∙ e6 ∙ e7

cells : (a b c d e f g h : ℕ) (x y : List ℕ) → a ∷ b ∷ c ∷ d ∷ x ≡ e ∷ f ∷ g ∷ h ∷ y → (a ≡ e) × (b ≡ f) × (c ≡ g) × (d ≡ h) × (x ≡ y)
cells a b c d e f g h x y q = (cc, cc, cc, cc, cc)

-- an option is one, and what follows it
pub one_option : (o p : TunnelOption) (x y : List ℕ) → IsTunnelOption o → IsTunnelOption p → option_bytes o ++ x ≡ option_bytes p ++ y → (o ≡ p) × (x ≡ y)
one_option o p x y io ip e =
    let q = cells (o.class / 256 % 256) (o.class % 256) o.kind (32 * o.reserved + o.words) (p.class / 256 % 256) (p.class % 256) p.kind (32 * p.reserved + p.words) (o.content ++ x) (p.content ++ y) e in
    let words : o.words ≡ p.words = omega (arith, q.3, io.words, ip.words) in
    let reserved : o.reserved ≡ p.reserved = omega (arith, q.3, io.words, ip.words) in
    let rest = same_fronts o.content p.content x y (io.content ∙ ap (λ (n : ℕ). 4 * n) words ∙ sym ip.content) q.4 in
    (same_option o p (two_one o.class p.class io.class ip.class q.0 q.1) q.2 reserved words rest.0, rest.1)

-- the base header is one, and what follows it
pub one_base : (frame : List ℕ) (o p : BaseHeader) (x y : List ℕ) → HasHeader frame o x → HasHeader frame p y → (o ≡ p) × (x ≡ y)
one_base frame o p x y bo bp =
    let q = cells (64 * o.version + o.words) (128 * o.control + o.flags) (o.protocol / 256 % 256) (o.protocol % 256) (64 * p.version + p.words) (128 * p.control + p.flags) (p.protocol / 256 % 256) (p.protocol % 256)
    ((o.vni / 65536 % 256) ∷ (o.vni / 256 % 256) ∷ (o.vni % 256) ∷ o.reserved ∷ x) ((p.vni / 65536 % 256) ∷ (p.vni / 256 % 256) ∷ (p.vni % 256) ∷ p.reserved ∷ y) (sym bo.whole ∙ bp.whole) in
    let r = cells (o.vni / 65536 % 256) (o.vni / 256 % 256) (o.vni % 256) o.reserved (p.vni / 65536 % 256) (p.vni / 256 % 256) (p.vni % 256) p.reserved x y q.4 in
    let io = bo.fits in
    let ip = bp.fits in
    let words : o.words ≡ p.words = omega (arith, q.0, io.words, ip.words) in
    let version : o.version ≡ p.version = omega (arith, q.0, io.words, ip.words) in
    let flags : o.flags ≡ p.flags = omega (arith, q.1, io.flags, ip.flags) in
    let control : o.control ≡ p.control = omega (arith, q.1, io.flags, ip.flags) in
    (same_base o p version words control flags (two_one o.protocol p.protocol io.protocol ip.protocol q.2 q.3) (three_one o.vni p.vni io.vni ip.vni r.0 r.1 r.2) r.3, r.4)

abbrev pub joined : List TunnelOption → List ℕ
joined options = flat_map option_bytes options

-- options that some bytes begin with are the first of all options of the bytes
pub first_options : (seen all : List TunnelOption) (rest : List ℕ) → AllByRecursion IsTunnelOption seen → AllByRecursion IsTunnelOption all → joined seen ++ rest ≡ joined all → (more : List TunnelOption) × AllByRecursion IsTunnelOption more × (rest ≡ joined more) × (all ≡ seen ++ more)
first_options [] all rest is ia e = (all, ia, e, refl)
first_options (s ∷ seen) [] rest is ia e = absurd cc
first_options (s ∷ seen) (a ∷ all) rest is ia e =
    let h : option_bytes s ++ (joined seen ++ rest) ≡ option_bytes a ++ joined all = sym (append_assoc (option_bytes s) (joined seen) rest) ∙ e in
    let one = one_option s a (joined seen ++ rest) (joined all) is.0 ia.0 h in
    let m = first_options seen all rest is.1 ia.1 one.1 in
    (m.0, m.1, m.2, ap (λ (o : TunnelOption). o ∷ all) (sym one.0) ∙ ap (λ (os : List TunnelOption). s ∷ os) m.3)

-- no options are no bytes
no_options : (options : List TunnelOption) → [] ≡ joined options → options ≡ []
no_options [] e = refl
no_options (o ∷ options) e = absurd cc

-- options of one length are one, and what follows them
pub one_options : (os ps : List TunnelOption) (x y : List ℕ) → AllByRecursion IsTunnelOption os → AllByRecursion IsTunnelOption ps → length (joined os) ≡ length (joined ps) → joined os ++ x ≡ joined ps ++ y → (os ≡ ps) × (x ≡ y)
one_options os ps x y io ip len e =
    let f = same_fronts (joined os) (joined ps) x y len e in
    let m = first_options os ps [] io ip (append-nil (joined os) ∙ f.0) in
    let none : m.0 ≡ [] = no_options m.0 m.2 in
    (sym (m.3 ∙ ap (λ (more : List TunnelOption). os ++ more) none ∙ append-nil os), f.1)

pub one_layout : (frame : List ℕ) (b c : BaseHeader) (os ps : List TunnelOption) (x y : List ℕ) → IsFrameLaidOut frame b os x → IsFrameLaidOut frame c ps y → (b ≡ c) × (os ≡ ps) × (x ≡ y)
one_layout frame b c os ps x y lb lc =
    let base = one_base frame b c (joined os ++ x) (joined ps ++ y) lb.begins lc.begins in
    let rest = one_options os ps x y lb.each lc.each (lb.fills ∙ ap (λ (h : BaseHeader). 4 * h.words) base.0 ∙ sym lc.fills) base.1 in
    (base.0, rest.0, rest.1)
