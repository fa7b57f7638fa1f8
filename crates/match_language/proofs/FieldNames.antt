-- The names of fields, group by group.
use Rattle.std.specs.Prelude.{◌≡◌, ◌++◌, ℕ, List}
use Rattle.std.specs.List.{find}
use Rattle.std.specs.Option.{option_or}
use Rattle.std.proofs.Common.{ap, ◌∙◌}
use Rattle.std.proofs.lemmas.List.Folds.{find-append}
use Rattle.match_language.specs.Tables.{field_named, is_named, link_fields, ip_fields, port_fields}

-- a name is one of the first group, or else of the second, or else of the third
pub named_split : (word : List ℕ) → field_named word ≡ option_or (find (is_named word) link_fields) (option_or (find (is_named word) ip_fields) (find (is_named word) port_fields))
unfolding field_named
named_split word =
    find-append (is_named word) link_fields (ip_fields ++ port_fields)
    ∙ ap (option_or (find (is_named word) link_fields)) (find-append (is_named word) ip_fields port_fields)
