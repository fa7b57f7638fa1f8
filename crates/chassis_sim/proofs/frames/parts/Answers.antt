use Rattle.std.proofs.Common.{sym, subst, List, ℕ}
use Rattle.inet_packet.specs.Frame.{frame_of}
use Rattle.geneve_frames.specs.Meaning.{Spells}
use Rattle.chassis_sim.proofs.frames.parts.Goals as goal

pub unreachable-requires : goal.unreachable-requires
unreachable-requires c =
    let s = c.requires in
    c.in-Err.ensures.only s.vni s.in_key s.out_key (frame_of s.packet)
    (subst (λ (b : List ℕ). Spells b s.vni s.in_key s.out_key (frame_of s.packet)) (sym s.spelled) (c.reads_back.ensures s.vni s.in_key s.out_key (frame_of s.packet) s.vni_within s.in_key_within s.out_key_within))

pub returns-clause-frame : goal.returns-clause-frame
returns-clause-frame c =
    let s = c.requires in
    let gives = c.in-Ok.ensures.only s.vni s.in_key s.out_key (frame_of s.packet)
    (subst (λ (b : List ℕ). Spells b s.vni s.in_key s.out_key (frame_of s.packet)) (sym s.spelled) (c.reads_back.ensures s.vni s.in_key s.out_key (frame_of s.packet) s.vni_within s.in_key_within s.out_key_within)) in
    record { packet = s.packet; whole = s.whole; is = sym gives.3 }
