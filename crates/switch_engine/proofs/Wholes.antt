-- A packet stays whole with other Ethernet addresses.
use Rattle.std.specs.Prelude.{◌≡◌, ℕ, ◌+◌, List, length}
use Rattle.std.proofs.Common.{arith}
use Rattle.std.proofs.lemmas.List.{length-append}
use Rattle.ovn_base.specs.declared.address.Mac.{Mac}
use Rattle.inet_packet.specs.declared.packet.Body.{Body}
use Rattle.inet_packet.specs.declared.packet.Packet.{Packet}
use Rattle.inet_packet.specs.Frame.{body_bytes, frame_of}
use Rattle.inet_packet.specs.Whole.{IsWhole}

abbrev between : Mac → Mac → Body → List ℕ → Packet
between dst src body tail = record { dst = dst; src = src; body = body; tail = tail }

long_as : (dst src : Mac) (body : Body) (tail : List ℕ) → length (frame_of (between dst src body tail)) ≡ 12 + (length (body_bytes body) + length tail)
unfolding frame_of
long_as dst src body tail = omega (arith, length-append (body_bytes body) tail)

pub whole_between : (dst src : Mac) (p : Packet) → IsWhole p → IsWhole (record p { dst = dst; src = src })
whole_between dst src p h =
    let new = long_as dst src p.body p.tail in
    let old = long_as p.dst p.src p.body p.tail in
    record { tail = h.tail; long = omega (arith, h.long, new, old); short = omega (arith, h.short, new, old); body = h.body }
