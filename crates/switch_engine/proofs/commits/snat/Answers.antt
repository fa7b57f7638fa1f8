use Rattle.std.proofs.Common.{◌≡◌, [], sym, ◌∙◌, subst, refl, append-nil, Some}
use Rattle.std.proofs.lemmas.Result.{err_from_is_err_and}
use Rattle.conn_table.specs.Tuples.{reversed}
use Rattle.switch_engine.specs.Beginning.{IsSourceIn, new_tuple}
use Rattle.switch_engine.specs.declared.commits.Source.TheVariants.{Kept, Port, NoneFree}
use Rattle.switch_engine.specs.Zones.{ZoneLists, zone_at}
use Rattle.switch_engine.proofs.Begun.{keep_does, port_does, stuck_does}
use Rattle.switch_engine.proofs.commits.snat.Goals as goal

pub returns-in_err-drop_copy-in-NoneFree-clause-err : goal.returns-in_err-drop_copy-in-NoneFree-clause-err
returns-in_err-drop_copy-in-NoneFree-clause-err c =
    let failed = err_from_is_err_and c.from_residual-in_err-drop_copy-in-NoneFree.result c.from_residual-in_err-drop_copy-in-NoneFree.ensures.1 in
    rw failed.1 (record { more = []; all_effects = c.in_err-drop_copy-in-NoneFree.ensures.err ∙ sym (append-nil c.args.effects.now) })

pub returns-in_ok-turn-in-Kept-clause-does : goal.returns-in_ok-turn-in-Kept-clause-does
returns-in_ok-turn-in-Kept-clause-does c =
    let same = c.source_at.ensures.unchanged in
    let fresh : new_tuple c.args.number c.source_at.new.zones.entries c.args.copy.now.packet ≡ Some c.in-Some.from =
    subst (λ (zs : ZoneLists). new_tuple c.args.number zs c.args.copy.now.packet ≡ Some c.in-Some.from) (sym same) (sym c.newcomer.ensures.tuple ∙ c.in-Some.is) in
    rw (← same)
    (keep_does c.args.now c.in-Some.from fresh c.args.ip c.reversed-kept.result (reversed c.reversed-kept.result) c.reversed-kept.ensures
    (subst (λ (zs : ZoneLists). IsSourceIn c.reversed-kept.result Kept (zone_at zs c.args.number)) (sym same)
    (subst (λ s. IsSourceIn c.reversed-kept.result s (zone_at c.args.zones.now.entries c.args.number)) c.in-Kept.is c.source_at.ensures.source)) refl c.in_ok-turn-in-Kept.ensures.does)

pub returns-in_ok-turn-in-Port-clause-does : goal.returns-in_ok-turn-in-Port-clause-does
returns-in_ok-turn-in-Port-clause-does c =
    let same = c.source_at.ensures.unchanged in
    let fresh : new_tuple c.args.number c.source_at.new.zones.entries c.args.copy.now.packet ≡ Some c.in-Some.from =
    subst (λ (zs : ZoneLists). new_tuple c.args.number zs c.args.copy.now.packet ≡ Some c.in-Some.from) (sym same) (sym c.newcomer.ensures.tuple ∙ c.in-Some.is) in
    rw (← same)
    (port_does c.args.now c.in-Some.from fresh c.args.ip c.reversed-kept.result c.with_port-back.result (reversed c.with_port-back.result) c.in-Port.port c.reversed-kept.ensures
    (subst (λ (zs : ZoneLists). IsSourceIn c.reversed-kept.result (Port c.in-Port.port) (zone_at zs c.args.number)) (sym same)
    (subst (λ s. IsSourceIn c.reversed-kept.result s (zone_at c.args.zones.now.entries c.args.number)) c.in-Port.is c.source_at.ensures.source)) c.with_port-back.ensures refl c.in_ok-push-in-Port.ensures.ok c.in_ok-turn-in-Port.ensures.does)

pub returns-in_ok-drop_copy-in-NoneFree-clause-does : goal.returns-in_ok-drop_copy-in-NoneFree-clause-does
returns-in_ok-drop_copy-in-NoneFree-clause-does c =
    let same = c.source_at.ensures.unchanged in
    let fresh : new_tuple c.args.number c.source_at.new.zones.entries c.args.copy.now.packet ≡ Some c.in-Some.from =
    subst (λ (zs : ZoneLists). new_tuple c.args.number zs c.args.copy.now.packet ≡ Some c.in-Some.from) (sym same) (sym c.newcomer.ensures.tuple ∙ c.in-Some.is) in
    rw (← same)
    (stuck_does c.args.now c.in-Some.from fresh c.args.ip c.reversed-kept.result c.reversed-kept.ensures
    (subst (λ (zs : ZoneLists). IsSourceIn c.reversed-kept.result NoneFree (zone_at zs c.args.number)) (sym same)
    (subst (λ s. IsSourceIn c.reversed-kept.result s (zone_at c.args.zones.now.entries c.args.number)) c.in-NoneFree.is c.source_at.ensures.source)) c.in_ok-drop_copy-in-NoneFree.ensures.effects)
