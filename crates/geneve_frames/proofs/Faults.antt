-- The faults in their order, and what is spelled.
use Rattle.std.proofs.Common.{◌≡◌, ◌≢◌, ℕ, ◌+◌, ◌*◌, ◌/◌, ◌%◌, ◌<◌, ◌≤◌, true, false, List, [], ◌∷◌, ◌++◌, length, slice_get, Some, Result, Ok, Err, refl, sym, ap, subst, ◌∙◌, arith, inl, inr}
use Rattle.std.proofs.lemmas.Bool.{cases_lt}
use Rattle.std.specs.List.{list_any, filter}
use Rattle.geneve_frames.specs.Layout.{BaseHeader, TunnelOption, HasHeader, IsFrameLaidOut}
use Rattle.geneve_frames.specs.Meaning.{Spells, CarriesKeys, HasBase, HasOptions, Shows, place, IsClear, IsFirst, is_ovn, is_unknown_critical}
use Rattle.geneve_frames.specs.Answers.{IsReadAs, GivesParts}
use Rattle.geneve_frames.specs.declared.reading.View.{View}
use Rattle.geneve_frames.specs.declared.fault.GeneveFault.{GeneveFault}
use Rattle.geneve_frames.specs.declared.fault.GeneveFault.TheVariants.{Short, Version, Control, Protocol, OptionsCut, UnknownCritical, NoOvnOption, TwoOvnOptions}
use Rattle.geneve_frames.proofs.One.{joined, one_base, one_layout}

-- ---- the order

-- all faults, in their order
faults : List GeneveFault
faults = Short ∷ Version ∷ Control ∷ Protocol ∷ OptionsCut ∷ UnknownCritical ∷ NoOvnOption ∷ TwoOvnOptions ∷ []

at_place : (fault : GeneveFault) → slice_get faults (place fault) ≡ Some fault
unfolding faults
at_place Short = refl
at_place Version = refl
at_place Control = refl
at_place Protocol = refl
at_place OptionsCut = refl
at_place UnknownCritical = refl
at_place NoOvnOption = refl
at_place TwoOvnOptions = refl

-- a place has one fault
pub one_place : (fault other : GeneveFault) → place fault ≡ place other → fault ≡ other
one_place fault other e =
    let both : Some fault ≡ Some other = sym (at_place fault) ∙ ap (λ (n : ℕ). slice_get faults n) e ∙ at_place other in
    cc

pub first_is_one : (frame : List ℕ) (fault other : GeneveFault) → IsFirst fault frame → IsFirst other frame → fault ≡ other
first_is_one frame fault other f o =
    elim (cases_lt (place fault) (place other)) [
      | inl lt ↦ absurd (o.first fault lt f.shows)
      | inr le ↦ elim (cases_lt (place other) (place fault)) [
        | inl gt ↦ absurd (f.first other gt o.shows)
        | inr ge ↦ one_place fault other (omega arith)
      ]
    ]

-- ---- one fault after the other is not there

clear_more : (frame : List ℕ) (n : ℕ) (fault : GeneveFault) → place fault ≡ n → IsClear n frame → ¬ (Shows fault frame) → IsClear (n + 1) frame
clear_more frame n fault at clear missing other lt shown =
    elim (cases_lt (place other) n) [
      | inl below ↦ clear other below shown
      | inr above ↦ missing (subst (λ (f : GeneveFault). Shows f frame) (one_place other fault (omega arith)) shown)
    ]

pub clear_0 : (frame : List ℕ) → IsClear 0 frame
clear_0 frame fault lt = absurd (omega arith)

pub clear_1 : (frame : List ℕ) → 8 ≤ length frame → IsClear 1 frame
clear_1 frame long = clear_more frame 0 Short refl (clear_0 frame) (λ short. omega arith)

-- a base header of which something holds, where it doesn't
no_base : (frame : List ℕ) (base : BaseHeader) (rest : List ℕ) (P : BaseHeader → Type 0) → HasHeader frame base rest → ¬ (P base) → ¬ (HasBase frame P)
no_base frame base rest P begins not_base has = not_base (subst P (one_base frame has.0 base has.1 rest has.2 begins).0 has.3)

pub clear_2 : (frame : List ℕ) (base : BaseHeader) (rest : List ℕ) → 8 ≤ length frame → HasHeader frame base rest → base.version ≡ 0 → IsClear 2 frame
clear_2 frame base rest long begins version = clear_more frame 1 Version refl (clear_1 frame long) (no_base frame base rest (λ b. b.version ≢ 0) begins (λ other. other version))

pub clear_3 : (frame : List ℕ) (base : BaseHeader) (rest : List ℕ) → 8 ≤ length frame → HasHeader frame base rest → base.version ≡ 0 → base.control ≡ 0 → IsClear 3 frame
clear_3 frame base rest long begins version control = clear_more frame 2 Control refl (clear_2 frame base rest long begins version) (no_base frame base rest (λ b. b.control ≡ 1) begins (λ other. omega arith))

pub clear_4 : (frame : List ℕ) (base : BaseHeader) (rest : List ℕ) → 8 ≤ length frame → HasHeader frame base rest → base.version ≡ 0 → base.control ≡ 0 → base.protocol ≡ 0x6558 → IsClear 4 frame
clear_4 frame base rest long begins version control protocol = clear_more frame 3 Protocol refl (clear_3 frame base rest long begins version control) (no_base frame base rest (λ b. b.protocol ≢ 0x6558) begins (λ other. other protocol))

-- options of which something holds, where it doesn't
no_options : (frame : List ℕ) (base : BaseHeader) (options : List TunnelOption) (inner : List ℕ) (P : List TunnelOption → Type 0) → IsFrameLaidOut frame base options inner → ¬ (P options) → ¬ (HasOptions frame P)
no_options frame base options inner P laid not_options has = not_options (subst P (one_layout frame has.0 base has.1 options has.2 inner has.3 laid).1 has.4)

-- what comes before the options of a frame is right
pub record IsSound (frame : List ℕ) (base : BaseHeader) (options : List TunnelOption) (inner : List ℕ) : Type 0 where
  pub laid_out : IsFrameLaidOut frame base options inner
  pub version : base.version ≡ 0
  pub control : base.control ≡ 0
  pub protocol : base.protocol ≡ 0x6558

-- a frame has a base header
pub is_long : (frame : List ℕ) (base : BaseHeader) (rest : List ℕ) → HasHeader frame base rest → 8 ≤ length frame
is_long frame base rest begins = omega (arith, ap length begins.whole)

pub clear_5 : (frame : List ℕ) (base : BaseHeader) (options : List TunnelOption) (inner : List ℕ) → IsSound frame base options inner → IsClear 5 frame
clear_5 frame base options inner sound =
    let begins = sound.laid_out.begins in
    clear_more frame 4 OptionsCut refl (clear_4 frame base (joined options ++ inner) (is_long frame base (joined options ++ inner) begins) begins sound.version sound.control sound.protocol) (λ cut. cut.1 (base, options, inner, sound.laid_out, tt))

pub clear_6 : (frame : List ℕ) (base : BaseHeader) (options : List TunnelOption) (inner : List ℕ) → IsSound frame base options inner → list_any is_unknown_critical options ≡ false → IsClear 6 frame
clear_6 frame base options inner sound known =
    clear_more frame 5 UnknownCritical refl (clear_5 frame base options inner sound) (no_options frame base options inner (λ os. list_any is_unknown_critical os ≡ true) sound.laid_out (λ any. let e : true ≡ false = sym any ∙ known in absurd cc))

pub clear_7 : (frame : List ℕ) (base : BaseHeader) (options : List TunnelOption) (inner : List ℕ) (ovn : TunnelOption) (more : List TunnelOption) → IsSound frame base options inner → list_any is_unknown_critical options ≡ false → filter is_ovn options ≡ ovn ∷ more → IsClear 7 frame
clear_7 frame base options inner ovn more sound known some =
    clear_more frame 6 NoOvnOption refl (clear_6 frame base options inner sound known) (no_options frame base options inner (λ os. filter is_ovn os ≡ []) sound.laid_out (λ none. let e : [] ≡ ovn ∷ more = sym none ∙ some in absurd cc))

pub clear_8 : (frame : List ℕ) (base : BaseHeader) (options : List TunnelOption) (inner : List ℕ) (ovn : TunnelOption) → IsSound frame base options inner → list_any is_unknown_critical options ≡ false → filter is_ovn options ≡ ovn ∷ [] → IsClear 8 frame
clear_8 frame base options inner ovn sound known alone =
    clear_more frame 7 TwoOvnOptions refl (clear_7 frame base options inner ovn [] sound known alone) (no_options frame base options inner (λ os. 2 ≤ length (filter is_ovn os)) sound.laid_out (λ two. omega (arith, ap length alone)))

-- ---- what is spelled

pub place_below : (fault : GeneveFault) → place fault < 8
place_below Short = omega arith
place_below Version = omega arith
place_below Control = omega arith
place_below Protocol = omega arith
place_below OptionsCut = omega arith
place_below UnknownCritical = omega arith
place_below NoOvnOption = omega arith
place_below TwoOvnOptions = omega arith

sound_from : (frame : List ℕ) (vni in_key out_key : ℕ) (inner : List ℕ) (spells : Spells frame vni in_key out_key inner) → IsSound frame spells.base spells.options inner
sound_from frame vni in_key out_key inner spells = record { laid_out = spells.laid_out; version = spells.version; control = spells.control; protocol = spells.protocol }

-- where something is spelled there is no fault
pub spelled_none : (frame : List ℕ) (vni in_key out_key : ℕ) (inner : List ℕ) (fault : GeneveFault) → Spells frame vni in_key out_key inner → IsFirst fault frame → ⊥
spelled_none frame vni in_key out_key inner fault spells first =
    clear_8 frame spells.base spells.options inner spells.ovn (sound_from frame vni in_key out_key inner spells) spells.known spells.alone fault (place_below fault) first.shows

cells : (a b c d e f g h : ℕ) → a ∷ b ∷ c ∷ d ∷ [] ≡ e ∷ f ∷ g ∷ h ∷ [] → (a ≡ e) × (b ≡ f) × (c ≡ g) × (d ≡ h)
cells a b c d e f g h q = (cc, cc, cc, cc)

low_bits : (s t m n : ℕ) → s < 2 → t < 2 → m < 32768 → n < 32768 → (32768 * s + m) / 256 % 256 ≡ (32768 * t + n) / 256 % 256 → (32768 * s + m) % 256 ≡ (32768 * t + n) % 256 → m ≡ n
low_bits s t m n ls lt lm ln e f = omega arith

low_bytes : (m n : ℕ) → m < 65536 → n < 65536 → m / 256 % 256 ≡ n / 256 % 256 → m % 256 ≡ n % 256 → m ≡ n
low_bytes m n lm ln e f = omega arith

pub one_pair : (content : List ℕ) (i o j p : ℕ) → CarriesKeys content i o → CarriesKeys content j p → (i ≡ j) × (o ≡ p)
one_pair content i o j p x y =
    let a = 32768 * x.top + i in
    let b = 32768 * y.top + j in
    let q = cells (a / 256 % 256) (a % 256) (o / 256 % 256) (o % 256) (b / 256 % 256) (b % 256) (p / 256 % 256) (p % 256) (sym x.whole ∙ y.whole) in
    (low_bits x.top y.top i j x.top_bit y.top_bit x.in_bits y.in_bits q.0 q.1, low_bytes o p x.out_bits y.out_bits q.2 q.3)

pub one_spelled : (frame : List ℕ) (vni in_key out_key : ℕ) (inner : List ℕ) (other_vni other_in other_out : ℕ) (other : List ℕ) → Spells frame vni in_key out_key inner → Spells frame other_vni other_in other_out other → (vni ≡ other_vni) × (in_key ≡ other_in) × (out_key ≡ other_out) × (inner ≡ other)
one_spelled frame vni in_key out_key inner other_vni other_in other_out other s t =
    let l = one_layout frame s.base t.base s.options t.options inner other s.laid_out t.laid_out in
    let ovns : s.ovn ∷ [] ≡ t.ovn ∷ [] = sym s.alone ∙ ap (λ (os : List TunnelOption). filter is_ovn os) l.1 ∙ t.alone in
    let ovn : s.ovn ≡ t.ovn = cc in
    let keys = one_pair t.ovn.content in_key out_key other_in other_out (subst (λ (o : TunnelOption). CarriesKeys o.content in_key out_key) ovn s.keys) t.keys in
    (sym s.network ∙ ap (λ (b : BaseHeader). b.vni) l.0 ∙ t.network, keys.0, keys.1, l.2)

-- ---- the answer

pub answers_only : (frame : List ℕ) (result : Result View GeneveFault) → IsReadAs frame result → (vni in_key out_key : ℕ) (inner : List ℕ) → Spells frame vni in_key out_key inner → GivesParts result vni in_key out_key inner
answers_only frame (Ok view) answers vni in_key out_key inner spells = one_spelled frame view.vni view.in_key view.out_key view.inner.now vni in_key out_key inner answers spells
answers_only frame (Err fault) answers vni in_key out_key inner spells = spelled_none frame vni in_key out_key inner fault spells answers

pub answers_first : (frame : List ℕ) (result : Result View GeneveFault) → IsReadAs frame result → (fault : GeneveFault) → IsFirst fault frame → result ≡ Err fault
answers_first frame (Ok view) answers fault first = absurd (spelled_none frame view.vni view.in_key view.out_key view.inner.now fault answers first)
answers_first frame (Err other) answers fault first = ap (λ (f : GeneveFault). Err f) (first_is_one frame other fault answers first)
