-- The relations between a field and its value.
use Rattle.std.specs.Prelude.{ℕ, Bool, true, false, List, codes}
use Rattle.match_language.specs.declared.expr.Rel.{Rel}
use Rattle.match_language.specs.declared.expr.Rel.TheVariants as r

-- the relation in a text
abbrev pub rel_text : Rel → List ℕ
rel_text r.Eq = codes "=="
rel_text r.Ne = codes "!="
rel_text r.Lt = codes "<"
rel_text r.Le = codes "<="
rel_text r.Gt = codes ">"
rel_text r.Ge = codes ">="

-- whether it is `==` or `!=`, after which alone stand braces, masks, strings, sets and groups
abbrev pub is_equality : Rel → Bool
is_equality r.Eq = true
is_equality r.Ne = true
is_equality _ = false
