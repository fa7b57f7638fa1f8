-- Rows of switches.
use Rattle.std.specs.Prelude.{ℕ, false, List, [], ◌∷◌, ◌++◌, None, codes}
use Rattle.flow_table.specs.declared.flow.Cause.TheVariants as cause
use Rattle.nb_records.specs.declared.switch.PortAddress.TheVariants as address
use Rattle.ovn_base.specs.declared.name.Name.{Name}
use Rattle.net_model.specs.Journey.{enter_one, arrive_one, enter_and_arrive}
use Rattle.model_rows.specs.Frames.{hex, packet}
use Rattle.model_rows.specs.Play.{RowEvent, edited, bound, chassis_added, went, RowLine, out, drop, tunnel, Towards, to_one, to_all, to_unknown}
use Rattle.model_rows.specs.Records.{prefix, ether, add_switch, add_virtual_port, add_port_to_router, add_router, add_router_port, secure_port}

-- ---- the records of most rows

abbrev pub p1_added : RowEvent
p1_added = edited (add_virtual_port (codes "p1") (codes "s0") (ether 0x0a0000000001 0x0a000001 ∷ []) ∷ [])

abbrev pub p2_added : RowEvent
p2_added = edited (add_virtual_port (codes "p2") (codes "s0") (ether 0x0a0000000002 0x0a000002 ∷ []) ∷ [])

-- two ports of a switch, on two chassis
abbrev pub two_ports : List RowEvent
two_ports =
    edited (add_switch (codes "s0") ∷ [])
    ∷ p1_added
    ∷ p2_added
    ∷ chassis_added (codes "hv1")
    ∷ chassis_added (codes "hv2")
    ∷ bound (codes "p1") (codes "hv1")
    ∷ bound (codes "p2") (codes "hv2")
    ∷ []

-- a packet enters at the port, and then all arrive that wait
abbrev pub sent : Name → List ℕ → List RowLine → RowEvent
sent port text lines = went (enter_and_arrive port (packet text)) lines

-- the same one after the other: a packet enters, and what waits under the number arrives
abbrev pub entered : Name → List ℕ → List RowLine → RowEvent
entered port text lines = went (enter_one port (packet text)) lines

abbrev pub arrived : ℕ → List RowLine → RowEvent
arrived n lines = went (arrive_one n false) lines

-- between the two chassis, from p1 and from p2
abbrev pub there : Towards → List ℕ → RowLine
there to text = tunnel (codes "hv1") (codes "hv2") (codes "s0") (codes "p1") to (hex text)

abbrev pub back : Towards → List ℕ → RowLine
back to text = tunnel (codes "hv2") (codes "hv1") (codes "s0") (codes "p2") to (hex text)

-- ---- frames

-- from p1 to p2, of an Ethernet type that nobody reads
abbrev pub f : List ℕ
f = codes "0a00000000020a000000000188b56869"

-- UDP from p1 to p2, and the answer
abbrev pub u : List ℕ
u = codes "0a00000000020a000000000108004500001c00010000401166ce0a0000010a0000021388138900080000"

abbrev pub v : List ℕ
v = codes "0a00000000010a000000000208004500001c00010000401166ce0a0000020a0000011389138800080000"

-- from p1 to itself
abbrev pub to_itself : List ℕ
to_itself = codes "0a00000000010a000000000188b5"

-- from p1, whose Ethernet address is another one
abbrev pub from_another : List ℕ
from_another = codes "0a00000000020a000000000988b5"

-- UDP from p1 as 10.0.0.9, and the answer to that; p1 asks in its name, and in that of another Ethernet address
abbrev pub u_from_9 : List ℕ
u_from_9 = codes "0a00000000020a000000000108004500001c00010000401166c60a0000090a0000021388138900080000"

abbrev pub v_to_9 : List ℕ
v_to_9 = codes "0a00000000010a000000000208004500001c00010000401166c60a0000020a0000091389138800080000"

abbrev pub asks_as_9 : List ℕ
asks_as_9 = codes "ffffffffffff0a0000000001080600010800060400010a00000000010a0000090000000000000a000063"

abbrev pub asks_as_another : List ℕ
asks_as_another = codes "ffffffffffff0a0000000001080600010800060400010a00000000090a0000010000000000000a000063"

-- from p1 to an address that nobody has
abbrev pub to_nobody : List ℕ
to_nobody = codes "0a00000000090a000000000188b5"

-- p1 asks all for the address of p2, for its own, and for one that nobody has
abbrev pub asks_for_p2 : List ℕ
asks_for_p2 = codes "ffffffffffff0a0000000001080600010800060400010a00000000010a0000010000000000000a000002"

abbrev pub asks_for_p1 : List ℕ
asks_for_p1 = codes "ffffffffffff0a0000000001080600010800060400010a00000000010a0000010000000000000a000001"

abbrev pub asks_for_nobody : List ℕ
asks_for_nobody = codes "ffffffffffff0a0000000001080600010800060400010a00000000010a0000010000000000000a000063"

-- the answer in the name of p2
abbrev pub answer_of_p2 : List ℕ
answer_of_p2 = codes "0a00000000010a0000000002080600010800060400020a00000000020a0000020a00000000010a000001"

abbrev pub switch_frames : List (List ℕ)
switch_frames = f ∷ u ∷ v ∷ u_from_9 ∷ v_to_9 ∷ asks_as_9 ∷ asks_as_another ∷ to_itself ∷ from_another ∷ to_nobody ∷ asks_for_p2 ∷ asks_for_p1 ∷ asks_for_nobody ∷ answer_of_p2 ∷ []

-- ---- rows

-- first-path: both ports on one chassis
abbrev pub first_path : List RowEvent
first_path =
    edited (add_switch (codes "s0") ∷ [])
    ∷ p1_added
    ∷ p2_added
    ∷ chassis_added (codes "hv1")
    ∷ bound (codes "p1") (codes "hv1")
    ∷ bound (codes "p2") (codes "hv1")
    ∷ sent (codes "p1") f (out (codes "p2") (hex f) ∷ [])
    ∷ []

abbrev pub tunnel_row : List RowEvent
tunnel_row = two_ports ++ sent (codes "p1") f (there (to_one (codes "p2")) f ∷ out (codes "p2") (hex f) ∷ []) ∷ []

abbrev pub loopback : List RowEvent
loopback = two_ports ++ sent (codes "p1") to_itself (drop (codes "s0") (codes "p1") cause.Loopback ∷ []) ∷ []

abbrev pub arp_answers : List RowEvent
arp_answers = two_ports
    ++ sent (codes "p1") asks_for_p2 (out (codes "p1") (hex answer_of_p2) ∷ [])
    ∷ sent (codes "p1") asks_for_p1 (there to_all asks_for_p1 ∷ out (codes "p2") (hex asks_for_p1) ∷ [])
    ∷ []

abbrev pub unknown_group : List RowEvent
unknown_group = two_ports
    ++ edited (add_virtual_port (codes "p3") (codes "s0") (address.Unknown ∷ []) ∷ [])
    ∷ edited (add_virtual_port (codes "p4") (codes "s0") (address.Unknown ∷ []) ∷ [])
    ∷ bound (codes "p3") (codes "hv1")
    ∷ bound (codes "p4") (codes "hv2")
    ∷ sent (codes "p1") to_nobody (there to_unknown to_nobody ∷ out (codes "p3") (hex to_nobody) ∷ out (codes "p4") (hex to_nobody) ∷ [])
    ∷ []

abbrev pub port_security : List RowEvent
port_security = two_ports
    ++ edited (secure_port (codes "p1") 0x0a0000000001 (prefix 0x0a000001 32) ∷ [])
    ∷ sent (codes "p1") from_another (drop (codes "s0") (codes "p1") cause.PortSecurity ∷ [])
    ∷ sent (codes "p1") u (there (to_one (codes "p2")) u ∷ out (codes "p2") (hex u) ∷ [])
    ∷ []

-- IPv4 and ARP from other addresses than the port's own, and IPv4 to another one; the lines are those of a second reading of the rules, made apart from these definitions
abbrev pub secured_addresses : List RowEvent
secured_addresses = two_ports
    ++ edited (secure_port (codes "p1") 0x0a0000000001 (prefix 0x0a000001 32) ∷ [])
    ∷ sent (codes "p1") u_from_9 (drop (codes "s0") (codes "p1") cause.PortSecurity ∷ [])
    ∷ sent (codes "p1") asks_as_9 (drop (codes "s0") (codes "p1") cause.PortSecurity ∷ [])
    ∷ sent (codes "p1") asks_as_another (drop (codes "s0") (codes "p1") cause.PortSecurity ∷ [])
    ∷ sent (codes "p2") v_to_9 (back (to_one (codes "p1")) v_to_9 ∷ drop (codes "s0") (codes "p1") cause.PortSecurity ∷ [])
    ∷ sent (codes "p2") v (back (to_one (codes "p1")) v ∷ out (codes "p1") (hex v) ∷ [])
    ∷ []

-- three ports on three chassis, beside a port to a router that is distributed
abbrev pub broadcast_beside_distributed_router : List RowEvent
broadcast_beside_distributed_router =
    edited (
    add_switch (codes "s0")
    ∷ add_virtual_port (codes "p1") (codes "s0") (ether 0x0a0000000001 0x0a000001 ∷ [])
    ∷ add_virtual_port (codes "p2") (codes "s0") (ether 0x0a0000000002 0x0a000002 ∷ [])
    ∷ add_virtual_port (codes "p3") (codes "s0") (ether 0x0a0000000003 0x0a000003 ∷ [])
    ∷ add_router (codes "r") None
    ∷ add_router_port (codes "rp") (codes "r") 0x0a00000000fe (prefix 0x0a0000fe 24) None
    ∷ add_port_to_router (codes "sr") (codes "s0") (codes "rp")
    ∷ [])
    ∷ chassis_added (codes "hv1")
    ∷ chassis_added (codes "hv2")
    ∷ chassis_added (codes "hv3")
    ∷ bound (codes "p1") (codes "hv1")
    ∷ bound (codes "p2") (codes "hv2")
    ∷ bound (codes "p3") (codes "hv3")
    ∷ sent (codes "p1") asks_for_nobody (
    there to_all asks_for_nobody
    ∷ tunnel (codes "hv1") (codes "hv3") (codes "s0") (codes "p1") to_all (hex asks_for_nobody)
    ∷ drop (codes "r") (codes "rp") cause.Arp
    ∷ out (codes "p2") (hex asks_for_nobody)
    ∷ out (codes "p3") (hex asks_for_nobody)
    ∷ [])
    ∷ []
