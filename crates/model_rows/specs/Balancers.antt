-- Rows of balancers.
use Rattle.std.specs.Prelude.{ℕ, List, [], ◌∷◌, ◌++◌, false, codes}
use Rattle.flow_table.specs.declared.flow.Cause.TheVariants as cause
use Rattle.nb_records.specs.declared.balancer.BalancerProtocol.TheVariants as balanced
use Rattle.nb_records.specs.declared.switch.PortAddress.TheVariants as address
use Rattle.ovn_base.specs.addresses.EtherAddress.{mac_of}
use Rattle.ovn_base.specs.declared.address.Backend.{Backend}
use Rattle.model_rows.specs.Frames.{hex}
use Rattle.model_rows.specs.Play.{RowEvent, edited, marked, out, drop, pick_backend, to_one}
use Rattle.model_rows.specs.Records.{ip, backend, readdress_port, add_balancer}
use Rattle.model_rows.specs.Switch.{two_ports, sent, there}

-- TCP from port 5000 of p1 to 10.0.0.100 port 80, and at the backend; and from port 5001
abbrev pub to_service : List ℕ
to_service = codes "0a00000000020a0000000001080045000028000100004006666b0a0000010a0000641388005000000000000000005002ffff87a60000"

abbrev pub at_backend : List ℕ
at_backend = codes "0a00000000020a000000000108004500002800010000400666cd0a0000010a00000213881f9000000000000000005002ffff68c80000"

abbrev pub other_to_service : List ℕ
other_to_service = codes "0a00000000020a0000000001080045000028000100004006666b0a0000010a0000641389005000000000000000005002ffff87a50000"

abbrev pub service_ip : Backend
service_ip = backend 0x0a000064 80

abbrev pub first_backend : Backend
first_backend = backend 0x0a000002 8080

abbrev pub second_backend : Backend
second_backend = backend 0x0a000003 8080

-- the first connection goes to the one backend that is online, and stays there; a new one has none when that is offline too
abbrev pub balancer_row : List RowEvent
balancer_row = two_ports
    ++ edited (readdress_port (codes "p2") (address.Ether (mac_of 0x0a0000000002) (ip 0x0a000002 ∷ ip 0x0a000003 ∷ []) ∷ []) ∷ [])
    ∷ edited (add_balancer (codes "lb") balanced.Tcp service_ip (first_backend ∷ second_backend ∷ []) (codes "s0" ∷ []) ∷ [])
    ∷ marked (codes "lb") second_backend false
    ∷ sent (codes "p1") to_service (
    pick_backend (codes "s0") service_ip first_backend
    ∷ there (to_one (codes "p2")) at_backend
    ∷ out (codes "p2") (hex at_backend)
    ∷ [])
    ∷ marked (codes "lb") first_backend false
    ∷ sent (codes "p1") other_to_service (drop (codes "s0") (codes "p1") cause.NoLiveBackend ∷ [])
    ∷ sent (codes "p1") to_service (there (to_one (codes "p2")) at_backend ∷ out (codes "p2") (hex at_backend) ∷ [])
    ∷ []

abbrev pub balancer_frames : List (List ℕ)
balancer_frames = to_service ∷ at_backend ∷ other_to_service ∷ []
