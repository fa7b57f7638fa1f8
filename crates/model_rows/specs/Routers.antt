-- Rows of routers.
use Rattle.std.specs.Prelude.{ℕ, List, [], ◌∷◌, ◌++◌, Some, None, codes}
use Rattle.flow_table.specs.declared.flow.Cause.TheVariants as cause
use Rattle.nb_records.specs.declared.change.Op.{Op}
use Rattle.nb_records.specs.declared.router.NatKind.TheVariants as nat_kind
use Rattle.model_rows.specs.Frames.{hex}
use Rattle.model_rows.specs.Play.{RowEvent, edited, bound, chassis_added, out, drop, pick_port}
use Rattle.model_rows.specs.Records.{prefix, ether, add_switch, add_virtual_port, add_port_to_router, add_router, add_router_port, add_route, add_nat}
use Rattle.model_rows.specs.Switch.{sent}

-- ---- distributed routers

-- a switch, and two routers behind it that are joined without a switch between
abbrev pub joined_routers : List Op
joined_routers =
    add_switch (codes "s0")
    ∷ add_virtual_port (codes "p1") (codes "s0") (ether 0x0a0000000001 0x0a000001 ∷ [])
    ∷ add_router (codes "ra") None
    ∷ add_router (codes "rb") None
    ∷ add_router_port (codes "a0") (codes "ra") 0x0a00000000fe (prefix 0x0a0000fe 24) None
    ∷ add_port_to_router (codes "s0-a0") (codes "s0") (codes "a0")
    ∷ add_router_port (codes "a1") (codes "ra") 0x0a0000000101 (prefix 0xc0a80001 30) (Some (codes "b1"))
    ∷ add_router_port (codes "b1") (codes "rb") 0x0a0000000102 (prefix 0xc0a80002 30) None
    ∷ []

-- each sends what it doesn't know to the other
abbrev pub routes_to_each_other : List Op
routes_to_each_other =
    add_route (codes "da") (codes "ra") (prefix 0 0) 0xc0a80002
    ∷ add_route (codes "db") (codes "rb") (prefix 0 0) 0xc0a80001
    ∷ []

-- UDP from p1 to 8.8.8.8, to live for 255 hops
abbrev pub to_far_away : List ℕ
to_far_away = codes "0a00000000fe0a000000000108004500001c00010000ff11a1bf0a000001080808081388138900080000"

abbrev pub hop_limit : List RowEvent
hop_limit =
    edited (joined_routers ++ routes_to_each_other)
    ∷ chassis_added (codes "hv1")
    ∷ bound (codes "p1") (codes "hv1")
    ∷ sent (codes "p1") to_far_away (drop (codes "rb") (codes "b1") cause.HopLimit ∷ [])
    ∷ []

abbrev pub no_route : List RowEvent
no_route =
    edited joined_routers
    ∷ chassis_added (codes "hv1")
    ∷ bound (codes "p1") (codes "hv1")
    ∷ sent (codes "p1") to_far_away (drop (codes "ra") (codes "a0") cause.NoRoute ∷ [])
    ∷ []

-- ---- gateway routers

-- two ports inside and one outside, with a gateway router between that translates the sources of what leaves
abbrev pub gateway : List RowEvent
gateway =
    chassis_added (codes "hv1")
    ∷ edited (
    add_switch (codes "in0")
    ∷ add_switch (codes "out0")
    ∷ add_router (codes "g0") (Some (codes "hv1"))
    ∷ add_router_port (codes "gi") (codes "g0") 0x0a00000000fe (prefix 0x0a0000fe 24) None
    ∷ add_router_port (codes "ge") (codes "g0") 0x0a00000001fe (prefix 0xac1000fe 24) None
    ∷ add_port_to_router (codes "in0-g") (codes "in0") (codes "gi")
    ∷ add_port_to_router (codes "out0-g") (codes "out0") (codes "ge")
    ∷ add_virtual_port (codes "p1") (codes "in0") (ether 0x0a0000000001 0x0a000001 ∷ [])
    ∷ add_virtual_port (codes "p2") (codes "in0") (ether 0x0a0000000002 0x0a000002 ∷ [])
    ∷ add_virtual_port (codes "w") (codes "out0") (ether 0x0a0000000109 0xac100009 ∷ [])
    ∷ add_nat (codes "n0") (codes "g0") nat_kind.Snat 0xac1000fe (prefix 0x0a000000 24)
    ∷ [])
    ∷ bound (codes "p1") (codes "hv1")
    ∷ bound (codes "p2") (codes "hv1")
    ∷ bound (codes "w") (codes "hv1")
    ∷ []

-- UDP from port 5000 of p1 and of p2 to w; at w they have one address, so the second gets another port
abbrev pub p1_to_w : List ℕ
p1_to_w = codes "0a00000000fe0a000000000108004500001c000100004011c4b60a000001ac1000091388003500080000"

abbrev pub p1_at_w : List ℕ
p1_at_w = codes "0a00000001090a00000001fe08004500001c000100003f1122a9ac1000feac1000091388003500080000"

abbrev pub p2_to_w : List ℕ
p2_to_w = codes "0a00000000fe0a000000000208004500001c000100004011c4b50a000002ac1000091388003500080000"

abbrev pub p2_at_w : List ℕ
p2_at_w = codes "0a00000001090a00000001fe08004500001c000100003f1122a9ac1000feac1000090400003500080000"

-- w answers the second
abbrev pub w_to_p2 : List ℕ
w_to_p2 = codes "0a00000001fe0a000000010908004500001c00010000401121a9ac100009ac1000fe0035040000080000"

abbrev pub w_at_p2 : List ℕ
w_at_p2 = codes "0a00000000020a00000000fe08004500001c000100003f11c5b5ac1000090a0000020035138800080000"

abbrev pub snat_row : List RowEvent
snat_row = gateway
    ++ sent (codes "p1") p1_to_w (out (codes "w") (hex p1_at_w) ∷ [])
    ∷ sent (codes "p2") p2_to_w (pick_port (codes "g0") 1024 ∷ out (codes "w") (hex p2_at_w) ∷ [])
    ∷ sent (codes "w") w_to_p2 (out (codes "p2") (hex w_at_p2) ∷ [])
    ∷ []

-- UDP from w to 172.16.0.253, in the place of which p2 stands
abbrev pub w_to_253 : List ℕ
w_to_253 = codes "0a00000001fe0a000000010908004500001c00010000401121aaac100009ac1000fd0035138800080000"

abbrev pub dnat_row : List RowEvent
dnat_row = gateway
    ++ edited (add_nat (codes "n1") (codes "g0") nat_kind.Dnat 0xac1000fd (prefix 0x0a000002 32) ∷ [])
    ∷ sent (codes "w") w_to_253 (out (codes "p2") (hex w_at_p2) ∷ [])
    ∷ []

-- GRE (RFC 2784), which has no ports, from p1 and from p2
abbrev pub gre_from_p1 : List ℕ
gre_from_p1 = codes "0a00000000fe0a000000000108004500001400010000402fc4a00a000001ac100009"

abbrev pub gre_at_w : List ℕ
gre_at_w = codes "0a00000001090a00000001fe080045000014000100003f2f2293ac1000feac100009"

abbrev pub gre_from_p2 : List ℕ
gre_from_p2 = codes "0a00000000fe0a000000000208004500001400010000402fc49f0a000002ac100009"

abbrev pub no_free_port : List RowEvent
no_free_port = gateway
    ++ sent (codes "p1") gre_from_p1 (out (codes "w") (hex gre_at_w) ∷ [])
    ∷ sent (codes "p2") gre_from_p2 (drop (codes "g0") (codes "ge") cause.NoFreePort ∷ [])
    ∷ []

abbrev pub router_frames : List (List ℕ)
router_frames = to_far_away ∷ p1_to_w ∷ p1_at_w ∷ p2_to_w ∷ p2_at_w ∷ w_to_p2 ∷ w_at_p2 ∷ w_to_253 ∷ gre_from_p1 ∷ gre_at_w ∷ gre_from_p2 ∷ []
