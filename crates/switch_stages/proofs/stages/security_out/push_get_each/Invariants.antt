use Rattle.std.proofs.Common.{◌≡◌, ◌++◌, [], ◌∷◌, map, drop}
use Rattle.match_language.specs.declared.field.Field.TheVariants.{Ip4Dst}
use Rattle.stage_rows.specs.Rows.{ip_in}
use Rattle.switch_stages.specs.SecurityRows.{get_row}
use Rattle.switch_stages.proofs.stages.security_out.push_get_each.Given as goal

-- the rows so far, and those of the prefixes that are left
abbrev pub invariant-prefixes : goal.invariant-prefixes
invariant-prefixes l =
    l.out ++ map (get_row l.port l.entry) (map (λ i. ip_in Ip4Dst i ∷ []) (drop l.prefix-index l.prefixes))
    ≡ l.fn.out ++ map (get_row l.port l.entry) (map (λ i. ip_in Ip4Dst i ∷ []) l.prefixes)
