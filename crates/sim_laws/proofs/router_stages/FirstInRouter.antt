-- A copy that comes to the first table of a router stands there with nothing found out.
use Rattle.std.specs.Prelude.{refl}
use Rattle.std.proofs.Common.{inl}
use Rattle.row_laws.proofs.routers.RouterNumbers.{router_port_stands, no_router_port_stands}
use Rattle.sim_laws.specs.pipelines.Standing.{net_of}
use Rattle.sim_laws.specs.routers.RouterStanding.{FirstRouterTableLaw}

pub stands_first : FirstRouterTableLaw
stands_first s laid i there p whole lists zones hold copy in_table packet first =
    let keys = laid.tables.admit.can_lower.hold in
    record {
      in_table = in_table;
      packet = packet;
      at_port = record {
        there = there;
        is_port = refl;
        way_out = refl;
        words = record { own = first.own; next = first.next; finding = first.state };
        whole = whole;
        passed = tt;
      };
      numbers = record {
        on = first.on;
        came = router_port_stands (net_of s) s.keys laid.valid keys i there copy.regs.in_port first.came;
        goes = no_router_port_stands (net_of s) s.keys keys i.router copy.regs.out_port (inl first.nowhere);
        members = laid.members;
        within = first.within;
        whole = whole;
      };
      own_zones = first.zones;
      hold = hold;
    }
