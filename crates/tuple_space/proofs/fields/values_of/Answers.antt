use Rattle.std.proofs.Common.{◌∙◌, ◌∷◌, []}
use Rattle.tuple_space.specs.Masks.{field_values}
use Rattle.tuple_space.proofs.fields.values_of.Goals as goal

pub returns : goal.returns
unfolding field_values
returns c = λ i. c.from.ensures i ∷ c.from-2.ensures i ∷ c.from-3.ensures i ∷ c.from-4.ensures i ∷ c.from-5.ensures i ∷ c.from-6.ensures i ∷ c.from-7.ensures i ∷ c.from-8.ensures i ∷ c.from-9.ensures i ∷ c.from-10.ensures i ∷ c.from-11.ensures i ∷ c.from-12.ensures i ∷ c.number.ensures.number i ∷ c.number-2.ensures.number i ∷ (c.from-13.ensures ∙ c.ether_type.ensures) i ∷ (c.from-14.ensures ∙ c.ip4_src.ensures) i ∷ (c.from-15.ensures ∙ c.ip4_dst.ensures) i ∷ (c.from-16.ensures ∙ c.ip_proto.ensures) i ∷ (c.from-17.ensures ∙ c.ip_ttl.ensures) i ∷ (c.from-18.ensures ∙ c.tcp_src.ensures) i ∷ (c.from-19.ensures ∙ c.tcp_dst.ensures) i ∷ (c.from-20.ensures ∙ c.udp_src.ensures) i ∷ (c.from-21.ensures ∙ c.udp_dst.ensures) i ∷ (c.from-22.ensures ∙ c.icmp4_type.ensures) i ∷ (c.from-23.ensures ∙ c.icmp4_code.ensures) i ∷ (c.from-24.ensures ∙ c.arp_op.ensures) i ∷ (c.from-25.ensures ∙ c.arp_spa.ensures) i ∷ (c.from-26.ensures ∙ c.arp_tpa.ensures) i ∷ c.arp_sha.ensures i ∷ c.arp_tha.ensures i ∷ []
