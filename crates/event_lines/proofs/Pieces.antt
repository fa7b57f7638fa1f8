-- A text to which pieces were put.
use Rattle.std.proofs.Common.{◌≡◌, ℕ, List, ◌++◌, length, take, drop, codes, decimal, sym, ◌∙◌, ap, append_assoc}
use Rattle.std.proofs.lemmas.List.{take-append-drop}
use Rattle.std.proofs.Math.Seq.{take-append_seam}
use Rattle.event_lines.specs.Lines.{end_line}
use Rattle.event_lines.specs.Text.{StartsWith}

-- four pieces
four : (t0 t1 t2 t3 t4 a b c d : List ℕ) → t1 ≡ t0 ++ a → t2 ≡ t1 ++ b → t3 ≡ t2 ++ c → t4 ≡ t3 ++ d → t4 ≡ t0 ++ (a ++ (b ++ (c ++ d)))
four t0 t1 t2 t3 t4 a b c d e1 e2 e3 e4 =
    let whole : t4 ≡ (((t0 ++ a) ++ b) ++ c) ++ d = e4 ∙ ap (λ t. t ++ d) (e3 ∙ ap (λ t. t ++ c) (e2 ∙ ap (λ t. t ++ b) e1)) in
    whole ∙ simp append_assoc

-- four pieces of two parts each, and a last one
regrouped : (t a b c d e f g h i : List ℕ) → (t ++ ((a ++ b) ++ ((c ++ d) ++ ((e ++ f) ++ (g ++ h))))) ++ i ≡ t ++ (a ++ (b ++ (c ++ (d ++ (e ++ (f ++ (g ++ (h ++ i))))))))
regrouped t a b c d e f g h i = simp append_assoc

-- what stood before the pieces stands there after them
starts_before : (t0 more t4 t5 : List ℕ) → t4 ≡ t0 ++ more → StartsWith t5 t4 → StartsWith t5 t0
starts_before t0 more t4 t5 e h =
    let whole : t5 ≡ t0 ++ (more ++ drop (length t4) t5) = sym (take-append-drop (length t4) t5) ∙ ap (λ t. t ++ drop (length t4) t5) (h ∙ e) ∙ append_assoc t0 more (drop (length t4) t5) in
    ap (λ t. take (length t0) t) whole ∙ take-append_seam t0 (more ++ drop (length t4) t5)

-- the four counts of the last line
module _ (t0 t1 t2 t3 t4 : List ℕ) (events accepted refused waiting : ℕ) (e1 : t1 ≡ t0 ++ (codes "end events=" ++ decimal events)) (e2 : t2 ≡ t1 ++ (codes " accepted=" ++ decimal accepted)) (e3 : t3 ≡ t2 ++ (codes " refused=" ++ decimal refused)) (e4 : t4 ≡ t3 ++ (codes " waiting=" ++ decimal waiting)) where
  pub end_is_put : (t5 : List ℕ) → t5 ≡ t4 ++ codes "\n" → t5 ≡ t0 ++ end_line events accepted refused waiting
  end_is_put t5 e5 =
      e5
      ∙ ap (λ t. t ++ codes "\n") (four t0 t1 t2 t3 t4 (codes "end events=" ++ decimal events) (codes " accepted=" ++ decimal accepted) (codes " refused=" ++ decimal refused) (codes " waiting=" ++ decimal waiting) e1 e2 e3 e4)
      ∙ regrouped t0 (codes "end events=") (decimal events) (codes " accepted=") (decimal accepted) (codes " refused=") (decimal refused) (codes " waiting=") (decimal waiting) (codes "\n")

  pub end_keeps : (t5 : List ℕ) → StartsWith t5 t4 → StartsWith t5 t0
  end_keeps t5 h =
      starts_before t0 ((codes "end events=" ++ decimal events) ++ ((codes " accepted=" ++ decimal accepted) ++ ((codes " refused=" ++ decimal refused) ++ (codes " waiting=" ++ decimal waiting)))) t4 t5
      (four t0 t1 t2 t3 t4 (codes "end events=" ++ decimal events) (codes " accepted=" ++ decimal accepted) (codes " refused=" ++ decimal refused) (codes " waiting=" ++ decimal waiting) e1 e2 e3 e4) h
