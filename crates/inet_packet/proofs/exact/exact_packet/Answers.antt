use Rattle.std.proofs.Common.{◌≡◌}
use Rattle.std.specs.Cmp.{first_so, second_so}
use Rattle.ovn_base.specs.addresses.EtherAddress.{same_ether_decides}
use Rattle.ovn_base.proofs.Exact.{nat_exact, pointwise_exact}
use Rattle.inet_packet.proofs.exact.exact_packet.Goals as goal

pub returns : goal.returns
returns c = λ a b. (
  λ h0.
      let h1 = second_so _ _ h0 in
      let h2 = second_so _ _ h1 in
      let dst : a.dst ≡ b.dst = (same_ether_decides a.dst b.dst).0 (first_so _ _ h0) in
      let src : a.src ≡ b.src = (same_ether_decides a.src b.src).0 (first_so _ _ h1) in
      let body : a.body ≡ b.body = (c.exact_body.ensures a.body b.body).0 (first_so _ _ h2) in
      let tail : a.tail ≡ b.tail = pointwise_exact _ nat_exact a.tail b.tail (second_so _ _ h2) in
      λ i. record { dst = dst i; src = src i; body = body i; tail = tail i },
  c.equal_where_same.ensures a b,
)
