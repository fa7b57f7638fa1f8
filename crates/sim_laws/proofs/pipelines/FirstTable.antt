-- A copy that comes to the first table of a switch stands there with nothing found out.
use Rattle.std.specs.Prelude.{refl}
use Rattle.std.proofs.Common.{inl}
use Rattle.row_laws.proofs.records.StandsFor.{port_stands, none_stands}
use Rattle.sim_laws.specs.pipelines.FirstTable.{FirstTableLaw}
use Rattle.sim_laws.specs.pipelines.Standing.{net_of}

pub stands_first : FirstTableLaw
stands_first s laid i there p whole lists zones hold copy in_table packet first =
    let keys = laid.tables.admit.can_lower.hold in
    record {
      in_table = in_table;
      packet = packet;
      at_port = record {
        there = there;
        is_port = refl;
        words = record { tracked = first.tracked; verdict = first.verdict; finding = first.state; blocked = first.blocked };
        whole = whole;
      };
      numbers = record {
        on = first.on;
        came = port_stands (net_of s) s.keys laid.valid keys i there copy.regs.in_port first.came;
        goes = none_stands (net_of s) s.keys keys i.switch copy.regs.out_port (inl first.nowhere);
        members = laid.members;
        within = first.within;
        whole = whole;
      };
      zone = first.zone;
      hold = hold;
    }
