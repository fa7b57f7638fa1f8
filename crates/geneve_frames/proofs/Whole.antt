-- What the code found of a frame whose options are whole.
use Rattle.std.proofs.Common.{◌≡◌, ℕ, ◌<◌, ◌≤◌, false, List, [], ◌∷◌, ◌++◌, length, take, drop, refl, sym, ap, subst, ◌∙◌, arith}
use Rattle.std.proofs.lemmas.Bool.Decides.{nat_tests}
use Rattle.std.proofs.lemmas.List.{take-append-drop, length-take}
use Rattle.std.specs.Prelude.{nat_le}
use Rattle.std.specs.List.{filter}
use Rattle.geneve_frames.specs.Layout.{BaseHeader, TunnelOption, HasHeader, AreOptions}
use Rattle.geneve_frames.specs.Meaning.{IsFirst, is_ovn}
use Rattle.geneve_frames.specs.Fields.{IsBase, IsFound, Sums}
use Rattle.geneve_frames.specs.declared.fault.GeneveFault.TheVariants.{NoOvnOption, TwoOvnOptions}
use Rattle.geneve_frames.specs.declared.layout.BaseFields.{BaseFields}
use Rattle.geneve_frames.specs.declared.survey.Ovn.{Ovn}
use Rattle.geneve_frames.specs.declared.survey.Ovn.TheVariants.{Missing, Repeated}
use Rattle.geneve_frames.specs.declared.survey.Survey.{Survey}
use Rattle.geneve_frames.proofs.One.{joined}
use Rattle.geneve_frames.proofs.Faults.{IsSound, clear_6, clear_7}

-- a list with something in it
two_are : (options : List TunnelOption) → 2 ≤ length options → (first : TunnelOption) × (more : List TunnelOption) × (options ≡ first ∷ more)
two_are [] long = absurd (omega arith)
two_are (o ∷ options) long = (o, options, refl)

-- what the code knows once it has looked at all options
pub record Looked (frame rest options inner : List ℕ) (fields : BaseFields) (survey : Survey) : Type 0 where
  pub base : BaseHeader
  pub begins : HasHeader frame base rest
  pub is_base : IsBase fields base
  pub version : fields.version ≡ 0
  pub control : fields.is_control ≡ false
  pub protocol : fields.protocol ≡ 0x6558
  pub fits : fields.options_length ≤ length rest
  pub front : options ≡ take fields.options_length rest
  pub back : inner ≡ drop fields.options_length rest
  pub all : List TunnelOption
  pub are : AreOptions options all
  pub sums : Sums survey all
  pub known : survey.unknown_critical ≡ false

no_control : (control : ℕ) → control < 2 → nat_le 1 control ≡ false → control ≡ 0
no_control control low e = grind (arith, nat_tests)

pub looked_sound : (frame rest options inner : List ℕ) (fields : BaseFields) (survey : Survey) (looked : Looked frame rest options inner fields survey) → IsSound frame looked.base looked.all inner
looked_sound frame rest options inner fields survey looked =
    let n = fields.options_length in
    let parts : rest ≡ joined looked.all ++ inner = sym (take-append-drop n rest) ∙ ap (λ (t : List ℕ). t ++ drop n rest) (sym looked.front ∙ looked.are.whole) ∙ ap (λ (t : List ℕ). joined looked.all ++ t) (sym looked.back) in
    let words = looked.is_base.options_length in
    record {
      laid_out = record {
        begins = subst (λ (t : List ℕ). HasHeader frame looked.base t) parts looked.begins;
        each = looked.are.each;
        fills = omega (arith, ap length looked.are.whole, ap length looked.front, length-take n rest, looked.fits, words);
      };
      version = sym looked.is_base.version ∙ looked.version;
      control = no_control looked.base.control looked.begins.fits.control (sym looked.is_base.control ∙ looked.control);
      protocol = sym looked.is_base.protocol ∙ looked.protocol;
    }

pub looked_missing : (frame rest options inner : List ℕ) (fields : BaseFields) (survey : Survey) → Looked frame rest options inner fields survey → survey.ovn ≡ Missing → IsFirst NoOvnOption frame
looked_missing frame rest options inner fields survey looked is =
    let sound = looked_sound frame rest options inner fields survey looked in
    let none = subst (λ (o : Ovn). IsFound o looked.all) is looked.sums.ovn in
    record { shows = (looked.base, looked.all, inner, sound.laid_out, none); first = clear_6 frame looked.base looked.all inner sound (sym looked.sums.critical ∙ looked.known) }

pub looked_repeated : (frame rest options inner : List ℕ) (fields : BaseFields) (survey : Survey) → Looked frame rest options inner fields survey → survey.ovn ≡ Repeated → IsFirst TwoOvnOptions frame
looked_repeated frame rest options inner fields survey looked is =
    let sound = looked_sound frame rest options inner fields survey looked in
    let two = subst (λ (o : Ovn). IsFound o looked.all) is looked.sums.ovn in
    let some = two_are (filter is_ovn looked.all) two in
    record { shows = (looked.base, looked.all, inner, sound.laid_out, two); first = clear_7 frame looked.base looked.all inner some.0 some.1 sound (sym looked.sums.critical ∙ looked.known) some.2 }
