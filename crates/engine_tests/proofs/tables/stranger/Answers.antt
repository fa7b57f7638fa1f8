use Rattle.std.specs.Prelude.{◌<◌, ℕ, List, []}
use Rattle.std.proofs.Common.{arith, sym, subst}
use Rattle.std.proofs.lemmas.List.Elements.{All-nil}
use Rattle.ovn_base.specs.declared.address.Mac.{Mac}
use Rattle.inet_packet.specs.declared.packet.Body.TheVariants.{Other}
use Rattle.inet_packet.specs.declared.packet.Packet.{Packet}
use Rattle.inet_packet.specs.Frame.{frame_of}
use Rattle.inet_packet.specs.Whole.{IsWhole}
use Rattle.engine_tests.proofs.tables.stranger.Goals as goal

abbrev of_other : Mac → Mac → List ℕ → Packet
of_other dst src tail = record { dst = dst; src = src; body = Other 0x88b5; tail = tail }

other_whole : (dst src : Mac) → IsWhole (of_other dst src [])
unfolding frame_of
other_whole dst src = record {
  tail = All-nil (λ b. b < 256);
  long = omega arith;
  short = omega arith;
  body = record { within = omega arith; not_ip4 = λ e. omega (arith, e); not_arp = λ e. absurd (omega (arith, e)) };
}

pub returns : goal.returns
returns c = subst (λ tail. IsWhole (of_other _ _ tail)) (sym c.new.ensures) (other_whole _ _)
