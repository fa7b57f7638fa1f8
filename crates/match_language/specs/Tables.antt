-- The fields and the predicates: names, widths, prerequisites, and where they stand.
use Rattle.std.specs.Prelude.{ℕ, ◌-◌, ◌^◌, Bool, true, false, List, [], ◌∷◌, ◌++◌, Option, Some, None, codes}
use Rattle.std.specs.Str.{bytes_eq}
use Rattle.std.specs.List.{find}
use Rattle.match_language.specs.declared.field.Field.{Field}
use Rattle.match_language.specs.declared.field.Field.TheVariants as f
use Rattle.match_language.specs.declared.field.Predicate.{Predicate}
use Rattle.match_language.specs.declared.field.Predicate.TheVariants as p
use Rattle.match_language.specs.declared.field.Direction.{Direction}
use Rattle.match_language.specs.declared.field.Direction.TheVariants as d

-- the name by which a text speaks of the field
abbrev pub field_name : Field → List ℕ
field_name f.EthSrc = codes "eth.src"
field_name f.EthDst = codes "eth.dst"
field_name f.EthType = codes "eth.type"
field_name f.Ip4Src = codes "ip4.src"
field_name f.Ip4Dst = codes "ip4.dst"
field_name f.IpProto = codes "ip.proto"
field_name f.IpTtl = codes "ip.ttl"
field_name f.TcpSrc = codes "tcp.src"
field_name f.TcpDst = codes "tcp.dst"
field_name f.UdpSrc = codes "udp.src"
field_name f.UdpDst = codes "udp.dst"
field_name f.Icmp4Type = codes "icmp4.type"
field_name f.Icmp4Code = codes "icmp4.code"
field_name f.ArpOp = codes "arp.op"
field_name f.ArpSpa = codes "arp.spa"
field_name f.ArpTpa = codes "arp.tpa"
field_name f.ArpSha = codes "arp.sha"
field_name f.ArpTha = codes "arp.tha"
field_name f.Inport = codes "inport"
field_name f.Outport = codes "outport"

-- the number of the field's bits; a port field has no number
abbrev pub field_bits : Field → ℕ
field_bits f.EthSrc = 48
field_bits f.EthDst = 48
field_bits f.EthType = 16
field_bits f.Ip4Src = 32
field_bits f.Ip4Dst = 32
field_bits f.IpProto = 8
field_bits f.IpTtl = 8
field_bits f.TcpSrc = 16
field_bits f.TcpDst = 16
field_bits f.UdpSrc = 16
field_bits f.UdpDst = 16
field_bits f.Icmp4Type = 8
field_bits f.Icmp4Code = 8
field_bits f.ArpOp = 16
field_bits f.ArpSpa = 32
field_bits f.ArpTpa = 32
field_bits f.ArpSha = 48
field_bits f.ArpTha = 48
field_bits f.Inport = 0
field_bits f.Outport = 0

-- all of the field's bits
abbrev pub field_max : Field → ℕ
field_max f = 2 ^ field_bits f - 1

-- the two fields that are ports
abbrev pub is_port_field : Field → Bool
is_port_field f.Inport = true
is_port_field f.Outport = true
is_port_field _ = false

-- the fields that are addresses, with which address sets stand
abbrev pub is_address : Field → Bool
is_address f.EthSrc = true
is_address f.EthDst = true
is_address f.Ip4Src = true
is_address f.Ip4Dst = true
is_address f.ArpSpa = true
is_address f.ArpTpa = true
is_address f.ArpSha = true
is_address f.ArpTha = true
is_address _ = false

-- the predicate without which a comparison of the field is false
abbrev pub prerequisite : Field → Option Predicate
prerequisite f.EthSrc = None
prerequisite f.EthDst = None
prerequisite f.EthType = None
prerequisite f.Ip4Src = Some p.Ip4
prerequisite f.Ip4Dst = Some p.Ip4
prerequisite f.IpProto = Some p.Ip4
prerequisite f.IpTtl = Some p.Ip4
prerequisite f.TcpSrc = Some p.Tcp
prerequisite f.TcpDst = Some p.Tcp
prerequisite f.UdpSrc = Some p.Udp
prerequisite f.UdpDst = Some p.Udp
prerequisite f.Icmp4Type = Some p.Icmp4
prerequisite f.Icmp4Code = Some p.Icmp4
prerequisite f.ArpOp = Some p.Arp
prerequisite f.ArpSpa = Some p.Arp
prerequisite f.ArpTpa = Some p.Arp
prerequisite f.ArpSha = Some p.Arp
prerequisite f.ArpTha = Some p.Arp
prerequisite f.Inport = None
prerequisite f.Outport = None

-- every field stands in every rule, but `outport` in to-lport rules alone
abbrev pub stands : Direction → Field → Bool
stands d.FromLport f.Outport = false
stands _ _ = true

-- the fields of Ethernet and of ARP
abbrev pub link_fields : List Field
link_fields = f.EthSrc ∷ f.EthDst ∷ f.EthType ∷ f.ArpOp ∷ f.ArpSpa ∷ f.ArpTpa ∷ f.ArpSha ∷ f.ArpTha ∷ []

-- the fields of IPv4 and of ICMP
abbrev pub ip_fields : List Field
ip_fields = f.Ip4Src ∷ f.Ip4Dst ∷ f.IpProto ∷ f.IpTtl ∷ f.Icmp4Type ∷ f.Icmp4Code ∷ []

-- the fields of TCP and of UDP, and the ports of the switch
abbrev pub port_fields : List Field
port_fields = f.TcpSrc ∷ f.TcpDst ∷ f.UdpSrc ∷ f.UdpDst ∷ f.Inport ∷ f.Outport ∷ []

abbrev pub all_fields : List Field
all_fields = link_fields ++ (ip_fields ++ port_fields)

-- whether the field has this name
abbrev pub is_named : List ℕ → Field → Bool
is_named word x = bytes_eq (field_name x) word

-- the field of that name
unfoldable pub field_named : List ℕ → Option Field
field_named word = find (is_named word) all_fields

abbrev pub predicate_name : Predicate → List ℕ
predicate_name p.Ip4 = codes "ip4"
predicate_name p.Ip6 = codes "ip6"
predicate_name p.Arp = codes "arp"
predicate_name p.Ip = codes "ip"
predicate_name p.Tcp = codes "tcp"
predicate_name p.Udp = codes "udp"
predicate_name p.Icmp4 = codes "icmp4"
predicate_name p.EthBcast = codes "eth.bcast"
predicate_name p.EthMcast = codes "eth.mcast"
predicate_name p.Ip4Mcast = codes "ip4.mcast"

abbrev pub all_predicates : List Predicate
all_predicates = p.Ip4 ∷ p.Ip6 ∷ p.Arp ∷ p.Ip ∷ p.Tcp ∷ p.Udp ∷ p.Icmp4 ∷ p.EthBcast ∷ p.EthMcast ∷ p.Ip4Mcast ∷ []

-- the predicate of that name
unfoldable pub predicate_named : List ℕ → Option Predicate
predicate_named word = find (λ p. bytes_eq (predicate_name p) word) all_predicates
