-- The first name of a list of references, and the references of a match by its parts.
use Rattle.std.specs.Prelude.{◌≡◌, ◌<◌, ◌+◌, ℕ, length, drop, get_or, Bool, true, false, cond, List, [], ◌∷◌, ◌++◌, map, option_map, Option, Some, None}
use Rattle.std.specs.List.{flat_map}
use Rattle.std.proofs.Common.{refl, sym, ap, ◌∙◌}
use Rattle.std.proofs.lemmas.Bool.{false≢true}
use Rattle.std.proofs.lemmas.List.{drop_more}
use Rattle.match_language.specs.declared.expr.Expr.{Expr, Expr-F, fold-roll-Expr}
use Rattle.match_language.specs.declared.expr.Expr.TheVariants as ex
use Rattle.match_language.specs.declared.expr.Rel.{Rel}
use Rattle.match_language.specs.declared.expr.Value.{Value}
use Rattle.match_language.specs.declared.field.Field.{Field}
use Rattle.match_language.specs.declared.field.Predicate.{Predicate}
use Rattle.ovn_base.specs.declared.name.Name.{Name}
use Rattle.ovn_base.specs.names.SameName.{bytes_decides}
use Rattle.nb_records.specs.Network.{Network}
use Rattle.nb_records.specs.Switches.{is_given, or_else}
use Rattle.nb_records.specs.declared.change.Op.{Op}
use Rattle.nb_records.specs.declared.kinds.Kind.TheVariants as kind
use Rattle.nb_records.specs.declared.record.Record.TheVariants as row
use Rattle.nb_records.specs.declared.switch.SwitchPort.{SwitchPort}
use Rattle.nb_rules.specs.References.{Reference, value_references, layer_references, match_references, is_missing, first_named, missing_by, reference_fault}

named_by : (test : Reference → Bool) (x : Reference) (xs ys : List Reference) (b : Bool) → first_named test (xs ++ ys) ≡ or_else (first_named test xs) (first_named test ys)
    → cond b (Some x.1) (first_named test (xs ++ ys)) ≡ or_else (cond b (Some x.1) (first_named test xs)) (first_named test ys)
named_by test x xs ys true rest = refl
named_by test x xs ys false rest = rest

pub named_append : (test : Reference → Bool) (xs ys : List Reference) → first_named test (xs ++ ys) ≡ or_else (first_named test xs) (first_named test ys)
named_append test [] ys = refl
named_append test (x ∷ xs) ys = named_by test x xs ys (test x) (named_append test xs ys)

-- those of the item at the place, and those of the items behind it
pub named_at : {A : Type 0} (test : Reference → Bool) (f : A → List Reference) (xs : List A) (i : ℕ) (x : A) → i < length xs → x ≡ get_or xs i x
    → first_named test (flat_map f (drop i xs)) ≡ or_else (first_named test (f x)) (first_named test (flat_map f (drop (i + 1) xs)))
named_at {A} test f xs i x less is =
    ap (λ (ys : List A). first_named test (flat_map f ys)) (drop_more xs i x less ∙ ap (λ (y : A). y ∷ drop (i + 1) xs) (sym is))
    ∙ named_append test (f x) (flat_map f (drop (i + 1) xs))

-- ---- matches

flat_all : (xs : List Expr) → flat_map (λ (x : List Reference). x) (map match_references xs) ≡ flat_map match_references xs
flat_all [] = refl
flat_all (x ∷ xs) = ap (λ (ys : List Reference). match_references x ++ ys) (flat_all xs)

pub references_const : (b : Bool) → match_references (ex.Const b) ≡ []
unfolding match_references
references_const b = ap match_references (sym (ex.rolls-Const b)) ∙ fold-roll-Expr (List Reference) layer_references (Expr-F.Const b)

pub references_is : (p : Predicate) → match_references (ex.Is p) ≡ []
unfolding match_references
references_is p = ap match_references (sym (ex.rolls-Is p)) ∙ fold-roll-Expr (List Reference) layer_references (Expr-F.Is p)

pub references_not : (x : Expr) → match_references (ex.Not x) ≡ match_references x
unfolding match_references
references_not x = ap match_references (sym (ex.rolls-Not x)) ∙ fold-roll-Expr (List Reference) layer_references (Expr-F.Not x)

pub references_all : (xs : List Expr) → match_references (ex.All xs) ≡ flat_map match_references xs
unfolding match_references
references_all xs = ap match_references (sym (ex.rolls-All xs)) ∙ fold-roll-Expr (List Reference) layer_references (Expr-F.All xs) ∙ flat_all xs

pub references_any : (xs : List Expr) → match_references (ex.Any xs) ≡ flat_map match_references xs
unfolding match_references
references_any xs = ap match_references (sym (ex.rolls-Any xs)) ∙ fold-roll-Expr (List Reference) layer_references (Expr-F.Any xs) ∙ flat_all xs

pub references_compare : (f : Field) (r : Rel) (vs : List Value) → match_references (ex.Compare f r vs) ≡ flat_map value_references vs
unfolding match_references
references_compare f r vs = ap match_references (sym (ex.rolls-Compare f r vs)) ∙ fold-roll-Expr (List Reference) layer_references (Expr-F.Compare f r vs)

-- ---- a port whose references are there

none_named : {A : Type 0} (f : Name → A) (b : Bool) (name : Name) (rest : Option Name) → option_map f (cond b (Some name) rest) ≡ None → b ≡ false
none_named f true name rest h = absurd cc
none_named f false name rest h = refl

-- its switch isn't missing
pub switch_there : (net : Network) (ops : List Op) (removed : Bool) (r : SwitchPort) → reference_fault net ops removed (row.SwitchPort r) ≡ None → is_missing net ops removed (kind.Switch, r.switch) ≡ false
switch_there net ops removed r h = none_named (missing_by removed r.name) (is_missing net ops removed (kind.Switch, r.switch)) r.switch _ h

-- a name that is given is the one
pub given_is : (name : Name) (o : Option Name) → is_given name o ≡ true → o ≡ Some name
given_is name None h = absurd (false≢true h)
given_is name (Some given) h = ap Some ((bytes_decides given name).0 h)
