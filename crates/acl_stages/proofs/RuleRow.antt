-- A rule has one row, in the stage of its direction.
use Rattle.std.specs.Prelude.{◌≡◌, ◌≤◌, ◌++◌, List, [], ◌∷◌, flat_map, Some, None}
use Rattle.std.proofs.Common.{refl, ap, sym, subst, ◌∙◌}
use Rattle.match_language.specs.declared.field.Direction.{Direction}
use Rattle.match_language.specs.declared.field.Direction.TheVariants.{FromLport, ToLport}
use Rattle.nb_records.specs.Network.{Network}
use Rattle.nb_records.specs.declared.rule.Acl.{Acl}
use Rattle.ovn_base.specs.declared.limits.TheConstants.{MAX_ACL_PRIORITY}
use Rattle.ovn_base.specs.declared.name.Name.{Name}
use Rattle.ovn_base.specs.names.ByName.{at}
use Rattle.logical_flows.specs.declared.flow.LFlow.{LFlow}
use Rattle.logical_flows.specs.declared.stage.Stage.{Stage}
use Rattle.logical_flows.specs.declared.unit.UnitId.TheVariants.{Rule}
use Rattle.stage_rows.proofs.ReadsLaws.{rule_is}
use Rattle.stage_rows.specs.Admitting.{AdmitsRule}
use Rattle.stage_rows.specs.Rows.{when}
use Rattle.stage_rows.specs.RuleRows.{rule_row}
use Rattle.stage_rows.specs.Units.{rows_of, all_stages, is_from_lport, is_to_lport}

abbrev both : Acl → Direction → List LFlow
both r way = when (is_from_lport way) (rule_row r ∷ []) ++ (when (is_to_lport way) (rule_row r ∷ []) ++ [])

one_way : (r : Acl) (way : Direction) → both r way ≡ rule_row r ∷ []
one_way r FromLport = refl
one_way r ToLport = refl

pub rule_has_row : (net : Network) (r d : Name) (a : AdmitsRule net r d) → rows_of net (Rule r d) ≡ rule_row a.rule ∷ []
rule_has_row net r d a = ap (λ (h : Stage → List LFlow). flat_map h all_stages) (λ i s. rule_is net r d a s i) ∙ one_way a.rule a.rule.direction

some_same : {A : Type 0} (x y : A) → Some x ≡ Some y → x ≡ y
some_same x y h = cc

some_is_none : {A : Type 0} (x : A) → Some x ≡ None → ⊥
some_is_none x h = cc

-- of the record that is found under the rule's name
pub row_of_found : (net : Network) (r d : Name) (x : Acl) → AdmitsRule net r d → Some x ≡ at net.acls r → rows_of net (Rule r d) ≡ rule_row x ∷ []
row_of_found net r d x a h = rule_has_row net r d a ∙ ap (λ (y : Acl). rule_row y ∷ []) (some_same a.rule x (sym a.there ∙ sym h))

pub priority_of_found : (net : Network) (r d : Name) (x : Acl) → AdmitsRule net r d → Some x ≡ at net.acls r → x.priority ≤ MAX_ACL_PRIORITY
priority_of_found net r d x a h = subst (λ (y : Acl). y.priority ≤ MAX_ACL_PRIORITY) (some_same a.rule x (sym a.there ∙ sym h)) a.is_rule.priority

pub is_found : (net : Network) (r d : Name) → AdmitsRule net r d → None ≡ at net.acls r → ⊥
is_found net r d a h = some_is_none a.rule (sym a.there ∙ sym h)
