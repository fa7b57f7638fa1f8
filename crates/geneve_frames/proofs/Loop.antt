-- The loop over the options.
use Rattle.std.proofs.Common.{◌≡◌, ℕ, ◌<◌, List, [], ◌∷◌, ◌++◌, length, refl, sym, ap, ◌∙◌, arith, append_assoc}
use Rattle.std.proofs.lemmas.List.{append-nil}
use Rattle.std.proofs.lemmas.List.Concat.{flat_map-append}
use Rattle.std.specs.List.{AllByRecursion}
use Rattle.geneve_frames.specs.Layout.{TunnelOption, IsTunnelOption, AreOptions, option_bytes}
use Rattle.geneve_frames.specs.Fields.{Sums}
use Rattle.geneve_frames.specs.declared.survey.Survey.{Survey}
use Rattle.geneve_frames.proofs.One.{joined, first_options}

-- some first options were seen, and the rest follows them
pub record Saw (options rest : List ℕ) (survey : Survey) : Type 0 where
  pub seen : List TunnelOption
  pub each : AllByRecursion IsTunnelOption seen
  pub whole : options ≡ joined seen ++ rest
  pub sums : Sums survey seen

pub all_push : (seen : List TunnelOption) (next : TunnelOption) → AllByRecursion IsTunnelOption seen → IsTunnelOption next → AllByRecursion IsTunnelOption (seen ++ next ∷ [])
all_push [] next each is = (is, tt)
all_push (s ∷ seen) next each is = (each.0, all_push seen next each.1 is)

pub saw_none : (options : List ℕ) (survey : Survey) → Sums survey [] → Saw options options survey
saw_none options survey sums = record { seen = []; each = tt; whole = refl; sums = sums }

pub saw_more : (options rest after : List ℕ) (before survey : Survey) (next : TunnelOption) (saw : Saw options rest before) → IsTunnelOption next → rest ≡ option_bytes next ++ after → Sums survey (saw.seen ++ next ∷ []) → Saw options after survey
saw_more options rest after before survey next saw is e sums =
    let last : joined (next ∷ []) ≡ option_bytes next = append-nil (option_bytes next) in
    record {
      seen = saw.seen ++ next ∷ [];
      each = all_push saw.seen next saw.each is;
      whole = saw.whole ∙ ap (λ (t : List ℕ). joined saw.seen ++ t) (e ∙ ap (λ (t : List ℕ). t ++ after) (sym last)) ∙ sym (append_assoc (joined saw.seen) (joined (next ∷ [])) after)
          ∙ ap (λ (t : List ℕ). t ++ after) (sym (flat_map-append option_bytes saw.seen (next ∷ [])));
      sums = sums;
    }

pub saw_all : (options : List ℕ) (survey : Survey) → Saw options [] survey → (all : List TunnelOption) × AreOptions options all × Sums survey all
saw_all options survey saw = (saw.seen, record { each = saw.each; whole = saw.whole ∙ append-nil (joined saw.seen) }, saw.sums)

not_options : (rest : List ℕ) (more : List TunnelOption) → 0 < length rest → ((option : TunnelOption) (after : List ℕ) → IsTunnelOption option → rest ≡ option_bytes option ++ after → ⊥) → AllByRecursion IsTunnelOption more → rest ≡ joined more → ⊥
not_options rest [] some cut each e = omega (arith, ap length e)
not_options rest (o ∷ more) some cut each e = cut o (joined more) each.0 e

-- where an option is cut, the bytes are no whole options
pub saw_cut : (options rest : List ℕ) (survey : Survey) → Saw options rest survey → 0 < length rest → ((option : TunnelOption) (after : List ℕ) → IsTunnelOption option → rest ≡ option_bytes option ++ after → ⊥) → (all : List TunnelOption) → AreOptions options all → ⊥
saw_cut options rest survey saw some cut all are =
    let more = first_options saw.seen all rest saw.each are.each (sym saw.whole ∙ are.whole) in
    not_options rest more.0 some cut more.1 more.2
