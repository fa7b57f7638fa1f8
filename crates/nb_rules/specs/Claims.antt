-- Claims of ports to addresses on their switches. Where each mark has one holder, no two ports of a switch have one address.
use Rattle.std.specs.Prelude.{◌≡◌, ◌*◌, ◌+◌, ◌%◌, ◌^◌, nat_eq, ℕ, Bool, true, false, cond, List, [], ◌∷◌, map, flat_map, slice_get, Option, Some, None}
use Rattle.std.specs.List.{AllByRecursion}
use Rattle.std.specs.Map.{lookup}
use Rattle.std.specs.Option.{option_and_then, option_map_or}
use Rattle.ovn_base.specs.declared.address.Ip4.{Ip4}
use Rattle.ovn_base.specs.declared.address.Mac.{Mac}
use Rattle.ovn_base.specs.declared.name.Name.{Name}
use Rattle.ovn_base.specs.names.SameName.{same_name}
use Rattle.nb_records.specs.Network.{Network}
use Rattle.nb_records.specs.Switches.{macs_of}
use Rattle.nb_records.specs.declared.switch.SwitchPort.{SwitchPort}
use Rattle.nb_rules.specs.Holders.{holds_ip, ips_by_kind, twice_mac, twice_ip}
use Rattle.nb_rules.specs.declared.claims.Claim.{Claim}

-- ---- marks

-- the mark with one more byte
abbrev pub mixed : ℕ → ℕ → ℕ
mixed mark byte = (mark * 257 + byte) % 2 ^ 64

abbrev pub mixed_all : ℕ → List ℕ → ℕ
mixed_all mark [] = mark
mixed_all mark (byte ∷ bytes) = mixed_all (mixed mark byte) bytes

-- a number for an address on a switch, which few others have: the address, and the bytes of the name of the switch as further digits
abbrev pub mark_on : SwitchPort → ℕ → ℕ
mark_on q number = mixed_all number q.switch

-- the port's claim to the address
abbrev pub claim_of : SwitchPort → ℕ → Claim
claim_of q number = record { mark = mark_on q number; holder = q.name }

-- ---- the claims of a port, and of all ports

abbrev pub mac_claim : SwitchPort → Mac → Claim
mac_claim q mac = claim_of q mac.number

abbrev pub port_macs : Network → SwitchPort → List Claim
port_macs net q = map (mac_claim q) (macs_of net q)

abbrev pub mac_claims : Network → List Claim
mac_claims net = flat_map (λ (e : Name × SwitchPort). port_macs net e.1) net.switch_ports

-- the claim to the IPv4 address, if the port holds it
abbrev pub ip_claim : Network → SwitchPort → Ip4 → List Claim
ip_claim net q ip = cond (holds_ip net ip q) (claim_of q ip.0 ∷ []) []

abbrev pub claims_to : Network → SwitchPort → List Ip4 → List Claim
claims_to net q ips = flat_map (ip_claim net q) ips

abbrev pub port_ips : Network → SwitchPort → List Claim
port_ips net q = claims_to net q (ips_by_kind net q q.kind)

abbrev pub ip_claims : Network → List Claim
ip_claims net = flat_map (λ (e : Name × SwitchPort). port_ips net e.1) net.switch_ports

-- ---- one holder

-- the claim of the mark to which the index leads
abbrev pub claim_at : List (ℕ × ℕ) → List Claim → ℕ → Option Claim
claim_at index claims mark = option_and_then (slice_get claims) (lookup (nat_eq mark) index)

-- it is of the same holder
abbrev pub is_holder : List (ℕ × ℕ) → List Claim → Claim → Bool
is_holder index claims c = option_map_or (λ (d : Claim). same_name d.holder c.holder) (claim_at index claims c.mark) false

-- each mark has one holder
abbrev pub HaveOneHolder : List Claim → Type 0
HaveOneHolder claims = (holder : ℕ → Option Name) × AllByRecursion (λ (c : Claim). holder c.mark ≡ Some c.holder) claims

-- no two ports of a switch have one address
pub record ArePortsApart (net : Network) : Type 0 where
  pub macs : twice_mac net ≡ None
  pub ips : twice_ip net ≡ None

-- the same, where the answer is so
abbrev pub ApartIf : Bool → Network → Type 0
ApartIf apart net = apart ≡ true → ArePortsApart net
