-- The words of causes.
use Rattle.std.specs.Prelude.{ℕ, List, codes}
use Rattle.flow_table.specs.declared.flow.Cause.{Cause}
use Rattle.flow_table.specs.declared.flow.Cause.TheVariants as cause

-- why a packet is dropped, as a line and the text of a flow say it
abbrev pub cause_name : Cause → List ℕ
cause_name cause.Disabled = codes "disabled"
cause_name cause.BadSource = codes "bad-source"
cause_name cause.Vlan = codes "vlan"
cause_name cause.PortSecurity = codes "port-security"
cause_name cause.Acl = codes "acl"
cause_name cause.Reject = codes "reject"
cause_name cause.Invalid = codes "invalid"
cause_name cause.Blocked = codes "blocked"
cause_name cause.Clash = codes "clash"
cause_name cause.Full = codes "full"
cause_name cause.NoLiveBackend = codes "no-live-backend"
cause_name cause.UnknownAddress = codes "unknown-address"
cause_name cause.Loopback = codes "loopback"
cause_name cause.Unbound = codes "unbound"
cause_name cause.NotForRouter = codes "not-for-router"
cause_name cause.Arp = codes "arp"
cause_name cause.BadIp = codes "bad-ip"
cause_name cause.Ttl = codes "ttl"
cause_name cause.NotIp4 = codes "not-ip4"
cause_name cause.ForRouter = codes "for-router"
cause_name cause.NoRoute = codes "no-route"
cause_name cause.NoNeighbour = codes "no-neighbour"
cause_name cause.NoFreePort = codes "no-free-port"
cause_name cause.NoPeer = codes "no-peer"
cause_name cause.HopLimit = codes "hop-limit"
