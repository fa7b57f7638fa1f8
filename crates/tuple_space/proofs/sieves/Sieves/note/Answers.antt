use Rattle.std.proofs.Common.{◌≡◌, Option, Some, IfSome, nat_eq, sym, subst, ap, ◌∙◌}
use Rattle.std.specs.Option.{option_copied_mut}
use Rattle.std.specs.Map.{lookup}
use Rattle.tuple_space.specs.declared.sieve.Sieve.{Sieve}
use Rattle.tuple_space.specs.declared.sieves.Sieves.TheInside.{Inside}
use Rattle.tuple_space.specs.Sieving.{IsLet, IsLetIn}
use Rattle.tuple_space.proofs.SieveLaws.{IsSifted, let_kept, sifted_write}
use Rattle.tuple_space.proofs.sieves.Sieves.note.Goals as goal
use Rattle.tuple_space.proofs.sieves.Sieves.note.Goals.{in-Some, in-None}

pub returns-clause-kept : goal.returns-clause-kept
returns-clause-kept c = λ t xs b h.
    let es = c.self.inside.tables.entries in
    let was : IsLetIn es t xs b = subst (λ v. IsLetIn v t xs b) (sym c.self.view_is) h in
    elim c.match-get_mut.branch [
      | in-Some w ↦
          let at : lookup (nat_eq c.args.table) es ≡ Some w.in-Some.sieve.now = sym c.get_mut.ensures.value ∙ ap option_copied_mut w.in-Some.is in
          let after = (c.get_mut.follows.lender w.note.new.self).entries in
          let sifted : IsSifted c.args.table w.note.new.self es after = sifted_write c.args.table es after w.in-Some.sieve.now w.note.new.self at (c.get_mut.follows.holds w.note.new.self).0 in
          let now : IsLetIn after t xs b = let_kept c.args.table w.note.new.self es after sifted (λ ys d g. w.note.ensures.kept ys d (subst (λ (o : Option Sieve). IfSome o (λ s. IsLet s ys d)) at g)) t xs b was in
          subst (λ (s : Inside). IsLetIn s.tables.entries t xs b) (sym w.self-inside-is) now
      | in-None w ↦ subst (λ (s : Inside). IsLetIn s.tables.entries t xs b) (sym (w.self-inside-is ∙ (λ i. record { tables = c.get_mut.follows.holds-at-none i }))) was
    ]
