-- The texts of fields, and what they spell.
use Rattle.std.specs.Prelude.{ℕ, ◌==◌, if◌then◌else◌, nat_le, Bool, List, [], ◌∷◌, position, codes, Option, Some, None, is_some, option_map, Result, Ok, Err}
use Rattle.std.specs.List.{find, slice_split}
use Rattle.std.specs.Str.{bytes_eq}
use Rattle.hex.specs.Hex.{decode_of}
use Rattle.hex.specs.declared.error.FromHexError.{FromHexError}
use Rattle.match_language.specs.declared.field.Direction.{Direction}
use Rattle.match_language.specs.declared.field.Direction.TheVariants as way
use Rattle.ovn_base.specs.addresses.AddressReading.{◌>>=◌, parted, spelled_mac, spelled_ip4, spelled_cidr}
use Rattle.ovn_base.specs.numbers.NumberReading.{spelled_number}
use Rattle.ovn_base.specs.declared.address.Backend.{Backend}
use Rattle.ovn_base.specs.declared.address.Cidr.{Cidr}
use Rattle.ovn_base.specs.declared.address.Mac.{Mac}
use Rattle.ovn_base.specs.declared.address.SetEntry.{SetEntry}
use Rattle.ovn_base.specs.declared.address.SetEntry.TheVariants as entry
use Rattle.nb_records.specs.declared.balancer.BalancerProtocol.{BalancerProtocol}
use Rattle.nb_records.specs.declared.balancer.BalancerProtocol.TheVariants as protocol
use Rattle.nb_records.specs.declared.kinds.Kind.{Kind}
use Rattle.nb_records.specs.declared.kinds.Kind.TheVariants as kind
use Rattle.nb_records.specs.declared.router.NatKind.{NatKind}
use Rattle.nb_records.specs.declared.router.NatKind.TheVariants as nat_kind
use Rattle.nb_records.specs.declared.rule.RuleAction.{RuleAction}
use Rattle.nb_records.specs.declared.rule.RuleAction.TheVariants as action
use Rattle.nb_records.specs.declared.switch.PortAddress.{PortAddress}
use Rattle.nb_records.specs.declared.switch.PortAddress.TheVariants as address
use Rattle.nb_records.specs.declared.switch.PortKind.{PortKind}
use Rattle.nb_records.specs.declared.switch.PortKind.TheVariants as port_kind
use Rattle.nb_records.specs.declared.switch.SecurityEntry.{SecurityEntry}
use Rattle.edit_reader.specs.Fields.{each_by}

-- ---- words

abbrev pub kind_text : Kind → List ℕ
kind_text kind.Switch = codes "switch"
kind_text kind.Router = codes "router"
kind_text kind.RouterPort = codes "router_port"
kind_text kind.SwitchPort = codes "switch_port"
kind_text kind.AddressSet = codes "address_set"
kind_text kind.PortGroup = codes "port_group"
kind_text kind.Acl = codes "acl"
kind_text kind.Route = codes "route"
kind_text kind.Nat = codes "nat"
kind_text kind.LoadBalancer = codes "load_balancer"
kind_text kind.StaticMac = codes "static_mac"

abbrev pub all_kinds : List Kind
all_kinds = kind.Switch ∷ kind.Router ∷ kind.RouterPort ∷ kind.SwitchPort ∷ kind.AddressSet ∷ kind.PortGroup ∷ kind.Acl ∷ kind.Route ∷ kind.Nat ∷ kind.LoadBalancer ∷ kind.StaticMac ∷ []

-- the kind of records of that name
unfoldable pub spelled_kind : List ℕ → Option Kind
spelled_kind text = find (λ k. bytes_eq (kind_text k) text) all_kinds

abbrev pub port_kind_text : PortKind → List ℕ
port_kind_text port_kind.Virtual = []
port_kind_text port_kind.Router = codes "router"

unfoldable pub spelled_port_kind : List ℕ → Option PortKind
spelled_port_kind text = find (λ k. bytes_eq (port_kind_text k) text) (port_kind.Virtual ∷ port_kind.Router ∷ [])

abbrev pub nat_kind_text : NatKind → List ℕ
nat_kind_text nat_kind.Snat = codes "snat"
nat_kind_text nat_kind.Dnat = codes "dnat"
nat_kind_text nat_kind.DnatAndSnat = codes "dnat_and_snat"

unfoldable pub spelled_nat_kind : List ℕ → Option NatKind
spelled_nat_kind text = find (λ k. bytes_eq (nat_kind_text k) text) (nat_kind.Snat ∷ nat_kind.Dnat ∷ nat_kind.DnatAndSnat ∷ [])

abbrev pub direction_text : Direction → List ℕ
direction_text way.FromLport = codes "from-lport"
direction_text way.ToLport = codes "to-lport"

unfoldable pub spelled_direction : List ℕ → Option Direction
spelled_direction text = find (λ w. bytes_eq (direction_text w) text) (way.FromLport ∷ way.ToLport ∷ [])

abbrev pub action_text : RuleAction → List ℕ
action_text action.Allow = codes "allow"
action_text action.AllowRelated = codes "allow-related"
action_text action.AllowStateless = codes "allow-stateless"
action_text action.Drop = codes "drop"
action_text action.Reject = codes "reject"

unfoldable pub spelled_action : List ℕ → Option RuleAction
spelled_action text = find (λ a. bytes_eq (action_text a) text) (action.Allow ∷ action.AllowRelated ∷ action.AllowStateless ∷ action.Drop ∷ action.Reject ∷ [])

abbrev pub protocol_text : BalancerProtocol → List ℕ
protocol_text protocol.Tcp = codes "tcp"
protocol_text protocol.Udp = codes "udp"

unfoldable pub spelled_protocol : List ℕ → Option BalancerProtocol
spelled_protocol text = find (λ p. bytes_eq (protocol_text p) text) (protocol.Tcp ∷ protocol.Udp ∷ [])

-- ---- addresses

abbrev pub has_slash : List ℕ → Bool
has_slash text = is_some (position (λ b. b == 47) text)

-- IP/LEN
unfoldable pub spelled_prefix : List ℕ → Option Cidr
spelled_prefix text = if has_slash text then spelled_cidr text else None

-- IP, IP/LEN or an Ethernet address
abbrev pub set_entry_by : Option Mac → Option Cidr → Option SetEntry
set_entry_by (Some mac) prefix = Some (entry.Ether mac)
set_entry_by None prefix = option_map entry.Ip prefix

unfoldable pub spelled_set_entry : List ℕ → Option SetEntry
spelled_set_entry text = set_entry_by (spelled_mac text) (spelled_cidr text)

-- an Ethernet address in front of addresses of a grammar
abbrev pub ether_by : {A : Type 0} → (List ℕ → Option A) → List (List ℕ) → Option (Mac × List A)
ether_by grammar [] = None
ether_by grammar (piece ∷ pieces) = spelled_mac piece >>= λ mac. each_by grammar pieces >>= λ ips. Some (mac, ips)

-- an Ethernet address, and any number of addresses of the grammar, each after one space
unfoldable pub spelled_ether : {A : Type 0} → (List ℕ → Option A) → List ℕ → Option (Mac × List A)
spelled_ether grammar text = ether_by grammar (slice_split (λ b. b == 32) text)

-- `unknown`, `router`, or an Ethernet address with IPs
unfoldable pub spelled_port_address : List ℕ → Option PortAddress
spelled_port_address text =
    if bytes_eq (codes "unknown") text then Some address.Unknown
    else if bytes_eq (codes "router") text then Some address.Router
    else option_map (λ e. address.Ether e.0 e.1) (spelled_ether spelled_ip4 text)

-- an Ethernet address with IPs or IP/LEN
unfoldable pub spelled_security : List ℕ → Option SecurityEntry
spelled_security text = option_map (λ e. record { mac = e.0; ips = e.1 }) (spelled_ether spelled_cidr text)

-- 1 to 65,535 without leading zeros
abbrev pub some_port : ℕ → Option ℕ
some_port n = if nat_le 1 n then Some n else None

unfoldable pub spelled_port : List ℕ → Option ℕ
spelled_port text = spelled_number 65535 text >>= some_port

-- IP:PORT
unfoldable pub spelled_backend : List ℕ → Option Backend
spelled_backend text = parted 58 text >>= λ parts. spelled_ip4 parts.0 >>= λ ip. spelled_port parts.1 >>= λ port. Some (record { ip = ip; port = port })

-- ---- frames

abbrev pub bytes_by : Result (List ℕ) FromHexError → Option (List ℕ)
bytes_by (Ok bytes) = Some bytes
bytes_by (Err e) = None

-- an even number of hexadecimal digits, in either case
unfoldable pub spelled_frame : List ℕ → Option (List ℕ)
spelled_frame text = bytes_by (decode_of text)
