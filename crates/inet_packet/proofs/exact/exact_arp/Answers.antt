use Rattle.std.proofs.Common.{◌≡◌}
use Rattle.std.specs.Cmp.{first_so, second_so}
use Rattle.ovn_base.specs.addresses.EtherAddress.{same_ether_decides}
use Rattle.ovn_base.proofs.Exact.{nat_exact}
use Rattle.inet_packet.proofs.exact.exact_arp.Goals as goal

pub returns : goal.returns
returns c = λ a b. (
  λ h0.
      let h1 = second_so _ _ h0 in
      let h2 = second_so _ _ h1 in
      let h3 = second_so _ _ h2 in
      let op : a.op ≡ b.op = nat_exact a.op b.op (first_so _ _ h0) in
      let sha = (same_ether_decides a.sha b.sha).0 (first_so _ _ h1) in
      let spa : a.spa.0 ≡ b.spa.0 = nat_exact a.spa.0 b.spa.0 (first_so _ _ h2) in
      let tha = (same_ether_decides a.tha b.tha).0 (first_so _ _ h3) in
      let tpa : a.tpa.0 ≡ b.tpa.0 = nat_exact a.tpa.0 b.tpa.0 (second_so _ _ h3) in
      λ i. record { op = op i; sha = sha i; spa = record { 0 = spa i }; tha = tha i; tpa = record { 0 = tpa i } },
  c.equal_where_same.ensures a b,
)
