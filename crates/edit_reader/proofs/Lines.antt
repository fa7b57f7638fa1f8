-- The JSON of a line.
use Rattle.std.specs.Prelude.{◌≡◌, ℕ, Bool, true, false, List, Option, Some, None, cond, refl}
use Rattle.std.specs.Str.{IsUtf8, is_utf8}
use Rattle.std.proofs.lemmas.Str.{is_utf8-from_IsUtf8, IsUtf8-from_is_utf8}
use Rattle.serde_json.specs.Data.{Data}
use Rattle.serde_json.specs.Read.{read}

pub is_text : (line : List ℕ) (d : Data) → IsUtf8 line → read line ≡ Some d → cond (is_utf8 line) (read line) None ≡ Some d
is_text line d utf8 e = rw (is_utf8-from_IsUtf8 line utf8) e

none_by : {A : Type 0} (b : Bool) (found : Option A) → (b ≡ true → found ≡ None) → cond b found None ≡ None
none_by true found none = none refl
none_by false found none = refl

pub no_text : (line : List ℕ) → (IsUtf8 line → read line ≡ None) → cond (is_utf8 line) (read line) None ≡ None
no_text line none = none_by (is_utf8 line) (read line) (λ e. none (IsUtf8-from_is_utf8 line e))
