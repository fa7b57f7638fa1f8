use Rattle.std.proofs.Common.{◌≡◌, Option, Some, None, is_some, nat_eq, sym, ap, ◌∙◌, refl}
use Rattle.std.proofs.Common.{Vec}
use Rattle.std.specs.declared.alloc.Global.{Global}
use Rattle.std.specs.Option.{option_map}
use Rattle.std.specs.Map.{lookup}
use Rattle.tuple_space.specs.declared.turn.Turn.{Turn}
use Rattle.tuple_space.proofs.TableLaws.{found_table}
use Rattle.tuple_space.proofs.turns.Turns.has.Goals as goal

pub returns : goal.returns
returns c = c.contains_key.ensures ∙ same (lookup (nat_eq c.args.table) c.self.inside.tables.entries) ∙ ap (λ o. is_some o) (sym (found_table c.args.table c.self.inside.tables.entries)) ∙ ap (λ v. is_some (lookup (nat_eq c.args.table) v)) c.self.view_is
  where
    same : (o : Option (Vec Turn Global)) → is_some o ≡ is_some (option_map (λ (v : Vec Turn Global). v.items) o)
    same None = refl
    same (Some v) = refl
