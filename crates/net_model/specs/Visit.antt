-- Where a packet goes in the logical network, from one datapath to the next.
use Rattle.std.specs.Prelude.{ℕ, zero, suc, Option, Some, None}
use Rattle.flow_table.specs.declared.flow.Cause.TheVariants as cause
use Rattle.inet_packet.specs.declared.packet.Packet.{Packet}
use Rattle.nb_records.specs.Network.{Network}
use Rattle.nb_records.specs.Routers.{switch_side, router_side}
use Rattle.nb_records.specs.declared.switch.Switch.{Switch}
use Rattle.nb_records.specs.declared.switch.SwitchPort.{SwitchPort}
use Rattle.ovn_base.specs.declared.limits.TheConstants.{MAX_HOPS}
use Rattle.ovn_base.specs.declared.name.Name.{Name}
use Rattle.ovn_base.specs.names.ByName.{at}
use Rattle.tunnel_keys.specs.declared.owner.Identity.{Identity}
use Rattle.net_model.specs.Config.{switch_identity}
use Rattle.net_model.specs.Entry.{Scene, Onward, enter}
use Rattle.net_model.specs.Forwarding.{into_router}
use Rattle.net_model.specs.Spread.{send_to}
use Rattle.net_model.specs.Targets.{target_of}
use Rattle.net_model.specs.Trail.{Trail, drop_for, finally}

-- ---- through a switch

-- the switch of that name; the switch of a port is always there
abbrev pub identity_or : Name → Option Switch → Identity
identity_or name None = record { name = name; birth = record { 0 = 0 } }
identity_or name (Some switch) = switch_identity switch

abbrev pub switch_named : Network → Name → Identity
switch_named net name = identity_or name (at net.switches name)

-- a packet that has entered is sent to its target
abbrev pub send_on : Onward → Scene → SwitchPort → Trail → Packet → Trail
send_on onward s i t p = send_to (target_of s.config.net i p) onward s (record { switch = switch_named s.config.net i.switch; port = i }) t p

-- a packet enters a switch at a port
abbrev pub into_switch : Onward → Scene → SwitchPort → Trail → Packet → Trail
into_switch onward s i t p = finally (enter s i t p) (send_on onward s i)

-- ---- from one to the next

-- A packet that leaves a datapath by a port goes on in the partner of the port, as long as so many passes are left.
abbrev pub passing : ℕ → Scene → Onward
passing left s spot None t p = drop_for cause.NoPeer spot t
passing zero s spot (Some partner) t p = drop_for cause.HopLimit spot t
passing (suc left) s spot (Some (switch_side q)) t p = into_switch (passing left s) s q t p
passing (suc left) s spot (Some (router_side r)) t p = into_router (passing left s) s r t p

-- each copy may pass so often within one entry or arrival
abbrev pub passing_on : Scene → Onward
passing_on s = passing MAX_HOPS s

-- what becomes of a packet that enters at a port
abbrev pub visit : Scene → SwitchPort → Trail → Packet → Trail
visit s i t p = into_switch (passing_on s) s i t p
