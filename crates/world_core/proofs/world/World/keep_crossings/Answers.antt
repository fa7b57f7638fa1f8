use Rattle.std.proofs.Common.{arith, ◌≡◌, ◌+◌, ◌∷◌, drop, sym, ap, ◌∙◌, subst}
use Rattle.std.proofs.lemmas.List.{drop_more, drop_all}
use Rattle.switch_engine.specs.declared.effect.NetEffect.{NetEffect}
use Rattle.switch_engine.specs.declared.effect.NetEffect.TheVariants as net
use Rattle.sim_laws.specs.Held.{HaveOwnersNames}
use Rattle.world_core.specs.Packets.{IsSentAs}
use Rattle.world_core.specs.Waiting.{crossing_of, frame_under, names_of}
use Rattle.world_core.specs.WorldView.{WorldView}
use Rattle.world_core.proofs.CrossingStore.{IsKeeping, keeping_ends, keeping_goes_on, keeping_passes, next_back, next_of, next_sent, sends_none}
use Rattle.world_core.proofs.world.World.keep_crossings.Goals as goal
use Rattle.world_core.proofs.world.World.keep_crossings.Goals.{in-Tunnel+in_ok-keep, in_default}

pub crossing-names-requires-clause-sent : goal.crossing-names-requires-clause-sent
crossing-names-requires-clause-sent c =
    let effects = c.args.effects.now in
    let i = c.effects.effect-index in
    let ws = c.requires.sent.0 in
    let can = c.requires.sent.1 in
    let left = drop (i + 1) effects in
    let now : drop i effects ≡ c.effect-item.result ∷ left = drop_more effects i c.effect-item.result c.effects-test.true ∙ ap (λ (e : NetEffect). e ∷ left) (sym c.effect-item.is) in
    let keeping : IsKeeping c.args.self.now (net.Tunnel c.in-Tunnel.frame c.in-Tunnel.from c.in-Tunnel.to c.in-Tunnel.bytes ∷ left) ws c.effects.self =
    subst (λ es. IsKeeping c.args.self.now es ws c.effects.self) (now ∙ ap (λ (e : NetEffect). e ∷ left) c.in-Tunnel.is) (c.effects.invariant.keeping ws can) in
    let h = next_of c.args.self.now c.in-Tunnel.frame c.in-Tunnel.from c.in-Tunnel.to c.in-Tunnel.bytes left ws c.effects.self keeping in (
      c.in-Tunnel.to,
      h.crossing,
      subst (λ bs. IsSentAs c.effects.self.state c.in-Tunnel.to bs h.crossing) (sym c.as_slice.ensures)
          (next_sent c.args.self.now effects c.in-Tunnel.frame c.in-Tunnel.to c.in-Tunnel.bytes left ws keeping.done c.effects.self can h keeping.now_is),
    )

pub crossing-names-requires-clause-names : goal.crossing-names-requires-clause-names
crossing-names-requires-clause-names c =
    let keeping = c.effects.invariant.keeping c.requires.sent.0 c.requires.sent.1 in
    subst (λ (v : WorldView). HaveOwnersNames v.state.keys v.sim) (sym keeping.now_is) c.requires.names

pub effects-preserved : goal.effects-preserved
effects-preserved c =
    let effects = c.args.effects.now in
    let i = c.effects.effect-index in
    let left = drop (i + 1) effects in
    let now : drop i effects ≡ c.effect-item.result ∷ left = drop_more effects i c.effect-item.result c.effects-test.true ∙ ap (λ (e : NetEffect). e ∷ left) (sym c.effect-item.is) in
    elim c.match-effect.branch [
      | in-Tunnel+in_ok-keep w ↦
          let n = w.in-Tunnel.frame in
          let to = w.in-Tunnel.to in
          let bytes = w.in-Tunnel.bytes in
          record {
            keeping = λ ws can.
                let keeping : IsKeeping c.args.self.now (net.Tunnel n w.in-Tunnel.from to bytes ∷ left) ws c.effects.self =
                subst (λ es. IsKeeping c.args.self.now es ws c.effects.self) (now ∙ ap (λ (e : NetEffect). e ∷ left) w.in-Tunnel.is) (c.effects.invariant.keeping ws can) in
                let h = next_of c.args.self.now n w.in-Tunnel.from to bytes left ws c.effects.self keeping in
                let sent = next_sent c.args.self.now effects n to bytes left ws keeping.done c.effects.self can h keeping.now_is in
                let names : w.crossing-names.result ≡ names_of h.crossing = w.crossing-names.ensures to h.crossing (subst (λ bs. IsSentAs c.effects.self.state to bs h.crossing) (sym w.as_slice.ensures) sent) in
                let same = next_back c.args.self.now effects n to bytes left ws keeping.done c.effects.self can c.requires.waiting h keeping.now_is w.crossing-names.result names in
                subst (λ (v : WorldView). IsKeeping c.args.self.now left ws v) (sym w.self-is)
                (keeping_goes_on c.args.self.now effects n to bytes left ws keeping.done c.effects.self w.keep.new.self (crossing_of w.crossing-names.result (frame_under c.effects.self.sim.waiting n)) can h keeping.now_is same w.in_ok-keep.ensures);
            taken = ap (λ (v : WorldView). v.whole) (w.self-is ∙ w.in_ok-keep.ensures) ∙ c.effects.invariant.taken;
          }
      | in_default w ↦
          let none = sends_none c.effect-item.result (λ n from to bytes e. w.in_default.not-Tunnel n from to bytes e) in
          record {
            keeping = λ ws can.
                let keeping : IsKeeping c.args.self.now (c.effect-item.result ∷ left) ws c.effects.self = subst (λ es. IsKeeping c.args.self.now es ws c.effects.self) now (c.effects.invariant.keeping ws can) in
                subst (λ (v : WorldView). IsKeeping c.args.self.now left ws v) (sym w.self-is) (keeping_passes c.args.self.now c.effect-item.result left ws c.effects.self none keeping);
            taken = ap (λ (v : WorldView). v.whole) w.self-is ∙ c.effects.invariant.taken;
          }
    ]

pub returns : goal.returns
returns c = λ ws can.
    keeping_ends c.args.self.now ws c.effects.self (subst (λ es. IsKeeping c.args.self.now es ws c.effects.self) (drop_all c.effects.effect-index c.args.effects.now (omega (arith, c.effects-test.false))) (c.effects.invariant.keeping ws can))
