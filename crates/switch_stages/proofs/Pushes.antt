-- What stands behind a list after several pushes.
use Rattle.std.specs.Prelude.{◌≡◌, ◌++◌, List}
use Rattle.std.proofs.Common.{ap, ◌∙◌, append_assoc}

pub two_pushes : {X : Type 0} (o a b : List X) {p q : List X} → p ≡ o ++ a → q ≡ p ++ b → q ≡ o ++ (a ++ b)
two_pushes o a b g h = h ∙ ap (λ l. l ++ b) g ∙ append_assoc o a b

pub three_pushes : {X : Type 0} (o a b c : List X) {p q r : List X} → p ≡ o ++ a → q ≡ p ++ b → r ≡ q ++ c → r ≡ o ++ (a ++ b ++ c)
three_pushes o a b c g h i = two_pushes o (a ++ b) c (two_pushes o a b g h) i

pub four_pushes : {X : Type 0} (o a b c d : List X) {p q r s : List X} → p ≡ o ++ a → q ≡ p ++ b → r ≡ q ++ c → s ≡ r ++ d → s ≡ o ++ (a ++ b ++ c ++ d)
four_pushes o a b c d g h i j = two_pushes o (a ++ b ++ c) d (three_pushes o a b c g h i) j

pub five_pushes : {X : Type 0} (o a b c d e : List X) {p q r s t : List X} → p ≡ o ++ a → q ≡ p ++ b → r ≡ q ++ c → s ≡ r ++ d → t ≡ s ++ e
    → t ≡ o ++ (a ++ b ++ c ++ d ++ e)
five_pushes o a b c d e g h i j k = two_pushes o (a ++ b ++ c ++ d) e (four_pushes o a b c d g h i j) k

pub six_pushes : {X : Type 0} (o a b c d e f : List X) {p q r s t u : List X} → p ≡ o ++ a → q ≡ p ++ b → r ≡ q ++ c → s ≡ r ++ d → t ≡ s ++ e → u ≡ t ++ f
    → u ≡ o ++ (a ++ b ++ c ++ d ++ e ++ f)
six_pushes o a b c d e f g h i j k l = two_pushes o (a ++ b ++ c ++ d ++ e) f (five_pushes o a b c d e g h i j k) l
