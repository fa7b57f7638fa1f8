-- Rules that no operation of an edit touches stay as they are, and where there is such a rule, no operation names a set or a group.
use Rattle.std.specs.Prelude.{◌≡◌, ℕ, Bool, true, false, cond, List, [], ◌∷◌, Some, None, flat_map, refl}
use Rattle.std.specs.List.{AllByRecursion, list_any}
use Rattle.std.specs.Map.{keys_of}
use mathlib.Core.Path.{sym, ap, subst, ◌∙◌}
use Rattle.std.proofs.lemmas.Bool.{false≢true, or_parts}
use mathlib.Core.Logic.{inl, inr}
use Rattle.address_sets.specs.Members.{sets_of}
use Rattle.ovn_base.specs.declared.name.Name.{Name}
use Rattle.ovn_base.specs.lists.Among.{Among, here}
use Rattle.ovn_base.specs.names.ByName.{at}
use Rattle.ovn_base.proofs.AmongLaws.{among_left, among_map, among_right}
use Rattle.ovn_base.proofs.ByNameLaws.{at_among}
use Rattle.nb_records.specs.Editing.{born, operated, accepted}
use Rattle.nb_records.specs.Grammar.{IsOpInGrammar}
use Rattle.nb_records.specs.Network.{Network, record_at, kind_of, name_of}
use Rattle.nb_records.specs.declared.change.Op.{Op}
use Rattle.nb_records.specs.declared.change.Op.TheVariants as op
use Rattle.nb_records.specs.declared.kinds.Kind.{Kind}
use Rattle.nb_records.specs.declared.kinds.Kind.TheVariants as kind
use Rattle.nb_records.specs.declared.rule.Acl.{Acl}
use Rattle.nb_rules.specs.Valid.{IsValid}
use Rattle.nb_edits.proofs.EditValidity.{IsFit, no_first, operated_fit, valid_fit}
use Rattle.nb_edits.specs.OpFaults.{op_fault, ops_fault, fault_of}
use Rattle.world_setup.specs.Touched.{has_members, names_members, rule_named, rules_by, rules_touched}
use Rattle.world_setup.proofs.NamedRecords.{HasMembers, acl_beside, acl_unchanged, acl_without, born_named, named_at, sets_beside, sets_unchanged, sets_without}
use Rattle.world_setup.proofs.TouchedRecords.{ops_pass}

-- ---- rules

-- the rule is that of its record
rule_of : (k : Kind) (p r : Name) → (k ≡ kind.Acl) × (p ≡ r) → Among r (rule_named k p)
rule_of k p r named = subst (λ (j : Kind). Among r (rule_named j p)) (sym named.0) (subst (λ (b : Name). Among r (b ∷ [])) (sym named.1) here)

-- one operation
rule_operated : (net : Network) → IsFit net → (o : Op) (n : ℕ) (r : Name) → ¬ Among r (rules_by o) → at (operated net o n).acls r ≡ at net.acls r
rule_operated net f (op.Add x) n r out = acl_beside net r (born n x) (λ named. let is = born_named n x in out (rule_of (kind_of x) (name_of x) r (sym is.0 ∙ named.0, sym is.1 ∙ named.1)))
rule_operated net f (op.Set k p c) n r out =
    acl_unchanged net r c (record_at net k p) (λ x found named. let is = named_at net f k p x found in out (rule_of k p r (sym is.0 ∙ named.0, sym is.1 ∙ named.1)))
rule_operated net f (op.Remove k p) n r out = acl_without net r k p (λ named. out (rule_of k p r named))
rule_operated net f (op.Health balancer backend true) n r out = refl
rule_operated net f (op.Health balancer backend false) n r out = refl

-- all of them
rule_accepted : (net : Network) (ops : List Op) (n : ℕ) → IsFit net → AllByRecursion IsOpInGrammar ops → ops_fault net ops n ≡ None → (r : Name) → ¬ Among r (flat_map rules_by ops) → at (accepted net ops n).acls r ≡ at net.acls r
rule_accepted net [] n f g none r out = refl
rule_accepted net (o ∷ ops) n f g none r out =
    let parts = no_first (op_fault net o) _ none in
    rule_accepted (operated net o n) ops n (operated_fit net o n f g.0 parts.0) g.1 parts.1 r (λ m. out (among_right r (rules_by o) (flat_map rules_by ops) m))
    ∙ rule_operated net f o n r (λ m. out (among_left r (rules_by o) (flat_map rules_by ops) m))

-- ---- sets and groups

-- a kind with members is that of sets or of groups
with_members : (k : Kind) → has_members k ≡ false → ¬ HasMembers k
with_members k none is = elim is [
  | inl of_set ↦ false≢true (sym none ∙ ap has_members of_set)
  | inr of_group ↦ false≢true (sym none ∙ ap has_members of_group)
]

-- one operation that names neither
sets_operated : (net : Network) → IsFit net → (o : Op) (n : ℕ) → names_members o ≡ false → sets_of (operated net o n) ≡ sets_of net
sets_operated net f (op.Add x) n none = sets_beside net (born n x) (λ is. with_members (kind_of x) none (subst (λ (k : Kind). HasMembers k) (born_named n x).0 is))
sets_operated net f (op.Set k p c) n none = sets_unchanged net c (record_at net k p) (λ x found is. with_members k none (subst (λ (j : Kind). HasMembers j) (named_at net f k p x found).0 is))
sets_operated net f (op.Remove k p) n none = sets_without net k p (with_members k none)
sets_operated net f (op.Health balancer backend true) n none = refl
sets_operated net f (op.Health balancer backend false) n none = refl

-- all of them
sets_accepted : (net : Network) (ops : List Op) (n : ℕ) → IsFit net → AllByRecursion IsOpInGrammar ops → ops_fault net ops n ≡ None → list_any names_members ops ≡ false → sets_of (accepted net ops n) ≡ sets_of net
sets_accepted net [] n f g none out = refl
sets_accepted net (o ∷ ops) n f g none out =
    let parts = no_first (op_fault net o) _ none in
    let own = or_parts (names_members o) (list_any names_members ops) out in
    sets_accepted (operated net o n) ops n (operated_fit net o n f g.0 parts.0) g.1 parts.1 own.1 ∙ sets_operated net f o n own.0

-- a rule that is there and isn't touched tells that no operation names a set or a group
untold : (net : Network) (ops : List Op) (r : Name) → Among r (keys_of net.acls) → ¬ Among r (rules_touched net ops) → (b : Bool) → list_any names_members ops ≡ b → b ≡ false
untold net ops r is_there out false is = refl
untold net ops r is_there out true is =
    absurd (out (among_right r (flat_map rules_by ops) _ (subst (λ b. Among r (cond b (keys_of net.acls) [])) (sym is) is_there)))

module _ (net : Network) (ops : List Op) (n : ℕ) (valid : IsValid net) (grammar : AllByRecursion IsOpInGrammar ops) (none : fault_of net ops n ≡ None) where
  -- a rule that isn't touched stays as it is
  pub rule_kept : (r : Name) → ¬ Among r (rules_touched net ops) → at (accepted net ops n).acls r ≡ at net.acls r
  rule_kept r out = rule_accepted net ops n (valid_fit net valid) grammar (ops_pass net ops n none) r (λ m. out (among_left r (flat_map rules_by ops) _ m))

  -- and where it is there, so do all sets and groups
  pub sets_kept : (r : Name) (rule : Acl) → ¬ Among r (rules_touched net ops) → at net.acls r ≡ Some rule → sets_of (accepted net ops n) ≡ sets_of net
  sets_kept r rule out is =
      let is_there = among_map (λ (e : Name × Acl). e.0) (r, rule) net.acls (at_among net.acls r rule is) in
      let told = list_any names_members ops in
      sets_accepted net ops n (valid_fit net valid) grammar (ops_pass net ops n none) (untold net ops r is_there out told refl)
