use Rattle.std.proofs.Common.{◌≡◌}
use Rattle.std.specs.Cmp.{first_so, second_so}
use Rattle.ovn_base.proofs.Exact.{nat_exact, pointwise_exact}
use Rattle.inet_packet.proofs.exact.exact_ip4_packet.Goals as goal

pub returns : goal.returns
returns c = λ a b. (
  λ h0.
      let h1 = second_so _ _ h0 in
      let h2 = second_so _ _ h1 in
      let h3 = second_so _ _ h2 in
      let h4 = second_so _ _ h3 in
      let h5 = second_so _ _ h4 in
      let h6 = second_so _ _ h5 in
      let h7 = second_so _ _ h6 in
      let h8 = second_so _ _ h7 in
      let h9 = second_so _ _ h8 in
      let tos : a.tos ≡ b.tos = nat_exact a.tos b.tos (first_so _ _ h0) in
      let total : a.total ≡ b.total = nat_exact a.total b.total (first_so _ _ h1) in
      let ident : a.ident ≡ b.ident = nat_exact a.ident b.ident (first_so _ _ h2) in
      let frag : a.frag ≡ b.frag = nat_exact a.frag b.frag (first_so _ _ h3) in
      let ttl : a.ttl ≡ b.ttl = nat_exact a.ttl b.ttl (first_so _ _ h4) in
      let proto : a.proto ≡ b.proto = nat_exact a.proto b.proto (first_so _ _ h5) in
      let sum : a.sum ≡ b.sum = nat_exact a.sum b.sum (first_so _ _ h6) in
      let src : a.src.0 ≡ b.src.0 = nat_exact a.src.0 b.src.0 (first_so _ _ h7) in
      let dst : a.dst.0 ≡ b.dst.0 = nat_exact a.dst.0 b.dst.0 (first_so _ _ h8) in
      let options : a.options ≡ b.options = pointwise_exact _ nat_exact a.options b.options (first_so _ _ h9) in
      let part : a.part ≡ b.part = (c.exact_part.ensures a.part b.part).0 (second_so _ _ h9) in
      λ i. record { tos = tos i; total = total i; ident = ident i; frag = frag i; ttl = ttl i; proto = proto i; sum = sum i; src = record { 0 = src i }; dst = record { 0 = dst i }; options = options i; part = part i },
  c.equal_where_same.ensures a b,
)
