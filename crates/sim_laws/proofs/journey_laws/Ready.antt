-- Each chassis that is held has what the laws of passes ask.
use Rattle.conn_zones.specs.declared.numbers.ZoneUse.TheVariants.{Port}
use Rattle.sim_laws.proofs.journey_laws.Premises.{sound_on}
use Rattle.sim_laws.specs.journeys.Filling.{FillingLaw}
use Rattle.sim_laws.specs.journeys.Premises.{ReadyLaw}

pub is_ready : FillingLaw → ReadyLaw
is_ready fills m zones more sets s u h chassis flows held by entry =
    let sound = sound_on m zones more u sets by flows entry chassis in
    let tables = fills m zones more sets chassis flows u (h.tables chassis flows held) in
    record {
      around = record {
        laid = record {
          valid = u.valid;
          live = sound.live;
          tables = tables.stages;
          members = h.members;
          apart = sound.apart;
        };
        wired = record {
          entry = tables.entry;
          remote = tables.remote;
          home = tables.home;
          back = tables.back;
          output = tables.output;
          number = sound.number;
          zoned = sound.zoned;
          in_range = λ q z is. sound.in_range (Port q) z is;
        };
        in_range = sound.in_range;
        zoned = sound.routers_zoned;
        unbound = sound.unbound;
      };
      owned = sound.owned;
    }
