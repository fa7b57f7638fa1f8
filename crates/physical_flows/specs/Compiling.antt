-- What the compiler is given, as the definitions see it.
use Rattle.physical_flows.specs.declared.compile.Maps as maps
use Rattle.physical_flows.specs.Stages.{Basis}

-- the maps, as the lists of their entries
abbrev pub basis_of : maps.Maps → Basis
basis_of m = record {
  chassis = m.chassis;
  all = m.all.now;
  net = m.records.now;
  bindings = m.homes.now.ports;
  keys = m.keys.now;
  zones = m.zones.now;
}
