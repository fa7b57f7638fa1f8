-- Laws of the turns of tables.
use Rattle.std.specs.Prelude.{◌≡◌, ℕ, Bool, true, cond, List, [], ◌∷◌, ◌++◌, Option, Some, None, is_some, nat_eq, refl}
use Rattle.std.proofs.Common.{Vec}
use Rattle.std.specs.declared.alloc.Global.{Global}
use mathlib.Core.Path.{sym, ap, subst, ◌∙◌}
use Rattle.std.specs.Map.{lookup, set_value}
use Rattle.std.specs.Option.{option_map, option_map_or}
use Rattle.std.proofs.lemmas.Bool.Decides.{Decides-eqb}
use Rattle.indexmap.specs.IndexMap.{insert_entry}
use Rattle.ovn_base.specs.lists.Among.{Among}
use Rattle.ovn_base.proofs.Exact.{nat_exact}
use Rattle.ovn_base.proofs.AmongLaws.{among_none}
use Rattle.tuple_space.specs.declared.turn.Turn.{Turn}
use Rattle.tuple_space.specs.Turns.{IsByBound, HasTurn, turns_of, tables_of, AreByBound}
use Rattle.tuple_space.proofs.MapLaws.{lookup_shown, set_shown, insert_shown, at_write, at_push, everywhere}

pub nat_own : (n : ℕ) → nat_eq n n ≡ true
nat_own n = (Decides-eqb n n).1 refl

abbrev pub turns_there : Option (List Turn) → List Turn
turns_there o = option_map_or (λ ts. ts) o []

pub found_table : (table : ℕ) (es : List (ℕ × Vec Turn Global)) → lookup (nat_eq table) (tables_of es) ≡ option_map (λ (v : Vec Turn Global). v.items) (lookup (nat_eq table) es)
found_table table es = lookup_shown (λ (k : ℕ). k) (λ (v : Vec Turn Global). v.items) (nat_eq table) es

-- a table that has turns has a place
pub has_place : (table : ℕ) (es : List (ℕ × List Turn)) (n p r : ℕ) → HasTurn (turns_of es table) n p r → ¬ (lookup (nat_eq table) es ≡ None)
has_place table es n p r h none = among_none h.0 (subst (λ (o : Option (List Turn)). Among h.0 (turns_there o)) none h.1)

-- the turns after a change of one table
abbrev pub IsTurned : ℕ → List Turn → List (ℕ × List Turn) → List (ℕ × List Turn) → Type 0
IsTurned table w old new = (k : ℕ) → lookup (nat_eq k) new ≡ cond (nat_eq table k) (Some w) (lookup (nat_eq k) old)

pub turned_write : (table : ℕ) (es after : List (ℕ × Vec Turn Global)) (b w : Vec Turn Global) → lookup (nat_eq table) es ≡ Some b → after ≡ set_value (nat_eq table) es w → IsTurned table w.items (tables_of es) (tables_of after)
turned_write table es after b w at is k =
    let set : tables_of after ≡ set_value (nat_eq table) (tables_of es) w.items = ap (λ l. tables_of l) is ∙ set_shown (λ (k : ℕ). k) (λ (v : Vec Turn Global). v.items) (nat_eq table) es w in
    let found : is_some (lookup (nat_eq table) (tables_of es)) ≡ true = ap (λ o. is_some o) (found_table table es ∙ ap (λ o. option_map (λ (v : Vec Turn Global). v.items) o) at) in
    subst (λ l. lookup (nat_eq k) l ≡ cond (nat_eq table k) (Some w.items) (lookup (nat_eq k) (tables_of es))) (sym set) (at_write nat_eq nat_exact nat_own table (tables_of es) w.items k found)

pub turned_more : (table : ℕ) (es after : List (ℕ × Vec Turn Global)) (w : Vec Turn Global) → lookup (nat_eq table) (tables_of es) ≡ None → after ≡ insert_entry nat_eq es table w → IsTurned table w.items (tables_of es) (tables_of after)
turned_more table es after w none is k =
    let set : tables_of after ≡ tables_of es ++ (table, w.items) ∷ [] = ap (λ l. tables_of l) is ∙ insert_shown (λ (k : ℕ). k) (λ (v : Vec Turn Global). v.items) nat_eq es table w none in
    subst (λ l. lookup (nat_eq k) l ≡ cond (nat_eq table k) (Some w.items) (lookup (nat_eq k) (tables_of es))) (sym set) (at_push nat_eq nat_exact nat_own table (tables_of es) w.items k none)

module _ (table : ℕ) (w : List Turn) (old new : List (ℕ × List Turn)) (at : IsTurned table w old new) where
  pub turned_order : AreByBound old → (IsByBound (turns_of old table) → IsByBound w) → AreByBound new
  turned_order h one = everywhere nat_eq nat_exact nat_own (λ k o n. IsByBound (turns_there n)) table old new w at (one (h table)) (λ k e. h k)

  pub turned_has : (n p r : ℕ) → HasTurn w n p r → HasTurn (turns_of new table) n p r
  turned_has n p r h = subst (λ (o : Option (List Turn)). HasTurn (turns_there o) n p r) (sym (at table ∙ ap (λ (b : Bool). cond b (Some w) (lookup (nat_eq table) old)) (nat_own table))) h

  pub turned_kept : ((n p r : ℕ) → HasTurn (turns_of old table) n p r → HasTurn w n p r) → (k n p r : ℕ) → HasTurn (turns_of old k) n p r → HasTurn (turns_of new k) n p r
  turned_kept one = everywhere nat_eq nat_exact nat_own (λ k o m. (n p r : ℕ) → HasTurn (turns_there o) n p r → HasTurn (turns_there m) n p r) table old new w at one (λ k e n p r h. h)
