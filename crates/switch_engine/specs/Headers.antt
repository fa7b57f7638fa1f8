-- What actions make of a packet's headers. Where a packet has no such header it stays.
use Rattle.std.specs.Prelude.{ℕ, ◌==◌, ◌&&◌, cond}
use Rattle.ovn_base.specs.declared.address.Ip4 as addresses
use Rattle.ovn_base.specs.declared.address.Mac.{Mac}
use Rattle.inet_packet.specs.Fields.{icmp4_type, icmp4_code, ip_ttl, ip4_dst}
use Rattle.inet_packet.specs.Rewrites.{with_ip4, ip4_dec_ttl, ip4_as_reply, with_arp_reply}
use Rattle.inet_packet.specs.declared.packet.Body.{Body}
use Rattle.inet_packet.specs.declared.packet.Body.TheVariants.{Arp, Ip4, Other}
use Rattle.inet_packet.specs.declared.packet.Packet.{Packet}

-- an ARP packet becomes the answer that the IPv4 address is at the Ethernet address
abbrev pub arp_answered_body : Mac → addresses.Ip4 → Packet → Body → Packet
arp_answered_body mac ip p (Arp a) = with_arp_reply mac ip p
arp_answered_body mac ip p (Ip4 i) = p
arp_answered_body mac ip p (Other t) = p

abbrev pub arp_answered : Mac → addresses.Ip4 → Packet → Packet
arp_answered mac ip p = arp_answered_body mac ip p p.body

-- an echo request becomes its reply
abbrev pub echo_answered : Packet → Packet
echo_answered p = cond (icmp4_type p.body == 8 && icmp4_code p.body == 0) (with_ip4 ip4_as_reply p) p

-- the time to live falls by one, down to 0
abbrev pub ttl_spent : Packet → Packet
ttl_spent p = cond (ip_ttl p.body == 0) p (with_ip4 ip4_dec_ttl p)
