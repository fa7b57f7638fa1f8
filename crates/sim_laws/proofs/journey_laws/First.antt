-- The state in which nothing is there is sound, and is held where nothing is.
use Rattle.std.specs.Prelude.{◌≡◌, ℕ, [], None, refl}
use Rattle.std.proofs.Common.{sym, ◌∙◌, arith}
use Rattle.std.proofs.lemmas.Option.{none-some}
use Rattle.std.specs.List.Sorted.{IsStrictlySortedBy}
use Rattle.chassis_sim.specs.State.{at_name, nothing_held}
use Rattle.conn_zones.specs.Zoning.{home_for, number_on, IsZoned}
use Rattle.conn_zones.specs.declared.numbers.ZoneUse.{ZoneUse}
use Rattle.conn_zones.specs.declared.numbers.ZoneUse.TheVariants as zone
use Rattle.match_cubes.specs.Points.{named}
use Rattle.nb_records.specs.Network.{empty_network, record_at}
use Rattle.nb_records.specs.declared.kinds.Kind.{Kind}
use Rattle.nb_records.specs.declared.kinds.Kind.TheVariants as kind
use Rattle.nb_rules.proofs.Validity.{unbroken}
use Rattle.nb_rules.specs.Valid.{IsValid}
use Rattle.net_model.specs.State.{empty}
use Rattle.ovn_base.proofs.AmongLaws.{among_none}
use Rattle.ovn_base.specs.declared.name.Name.{Name}
use Rattle.physical_flows.specs.Bindings.{AreBound}
use Rattle.physical_flows.specs.RecordKeys.{HaveKeys}
use Rattle.row_laws.specs.Numbers.{AreSameMembers}
use Rattle.net_model.specs.Sights.{roster_of}
use Rattle.match_cubes.specs.Points.{members_of}
use Rattle.tunnel_keys.proofs.HeldKeys.{found}
use Rattle.tunnel_keys.proofs.Invariant.{none_hold}
use Rattle.sim_laws.specs.Sound.{AreBorn, AreOnTheWay}
use Rattle.sim_laws.specs.journeys.First.{nobody_home, no_sets, FirstLaw}

-- ---- records and keys

pub no_records : IsValid empty.config.net
unfolding IsStrictlySortedBy
no_records = record {
  in_order = record { switches = tt; routers = tt; router_ports = tt; switch_ports = tt; address_sets = tt; port_groups = tt; acls = tt; routes = tt; nats = tt; load_balancers = tt; static_macs = tt; offline = tt };
  named = record { switches = tt; routers = tt; router_ports = tt; switch_ports = tt; address_sets = tt; port_groups = tt; acls = tt; routes = tt; nats = tt; load_balancers = tt; static_macs = tt };
  datapaths = tt;
  ports = tt;
  in_grammar = tt;
  directed = tt;
  unbroken = (unbroken empty.config.net []).1 (record { references = tt; addresses = tt; peers = tt; macs = tt; ips = tt; networks = tt; switch_vips = tt; router_vips = tt; bindings = tt; prefixes = tt; next_hops = tt; chassis = tt; widths = tt; datapaths = omega arith; ports = omega arith; acls = omega arith; cubes = omega arith });
}

no_keys_held : HaveKeys empty.config.net empty.keys
no_keys_held = record {
  hold = none_hold 16777215 32767 (omega arith, omega arith) (omega arith, omega arith);
  datapath_has = λ a switch e. absurd (none-some switch e);
  router_has = λ a router e. absurd (none-some router e);
  datapath_of = λ a k e. absurd (none-some k e);
  port_has = λ q port e. absurd (none-some port e);
  router_port_has = λ q port e. absurd (none-some port e);
  port_of = λ q k e. absurd (none-some k e);
  datapath_range = refl;
  port_range = refl;
  no_retired_datapaths = refl;
  no_retired_ports = refl;
}

-- ---- homes

no_home : (whose : ZoneUse) → home_for nobody_home.homes whose ≡ None
no_home (zone.Port q) = refl
no_home (zone.Dnat r) = refl
no_home (zone.Snat r) = refl

no_number : (c : Name) (whose : ZoneUse) → number_on nobody_home.numbers c whose ≡ None
no_number c (zone.Port q) = refl
no_number c (zone.Dnat r) = refl
no_number c (zone.Snat r) = refl

no_zone : IsZoned nobody_home
unfolding IsStrictlySortedBy
no_zone = record {
  ports_in_order = tt;
  routers_in_order = tt;
  numbers_in_order = record { ports = tt; dnat = tt; snat = tt };
  at_home = λ c whose. (
    λ h. absurd (none-some c (sym (no_home whose) ∙ h)),
    λ h. let n = found {X = ℕ} (number_on nobody_home.numbers c whose) h in absurd (none-some n.0 (sym (no_number c whose) ∙ n.1)),
  );
  in_range = λ c whose n h. absurd (none-some n (sym (no_number c whose) ∙ h));
  apart = λ c one other n h k. absurd (none-some n (sym (no_number c one) ∙ h));
}

nothing_bound : AreBound empty.config nobody_home
unfolding IsStrictlySortedBy
nothing_bound = record {
  bindings_sorted = tt;
  port_there = λ q c e. absurd (none-some c e);
  chassis_there = λ q c e. absurd (none-some c e);
  chassis_sorted = tt;
  few_chassis = omega arith;
  homes = refl;
  zoned = no_zone;
}

-- ---- crossings

-- no kind has a record
pub no_record : (k : Kind) (q : Name) → record_at empty_network k q ≡ None
no_record kind.Switch q = refl
no_record kind.Router q = refl
no_record kind.RouterPort q = refl
no_record kind.SwitchPort q = refl
no_record kind.AddressSet q = refl
no_record kind.PortGroup q = refl
no_record kind.Acl q = refl
no_record kind.Route q = refl
no_record kind.Nat q = refl
no_record kind.LoadBalancer q = refl
no_record kind.StaticMac q = refl

pub nobody_born : AreBorn empty
nobody_born = record {
  records = λ k q r e. absurd (none-some r (sym (no_record k q) ∙ e));
  keys = record { datapaths = λ a among. absurd (among_none a among); ports = λ a among. absurd (among_none a among); port_datapaths = λ a among. absurd (among_none a among) };
  none = λ _. refl;
}

nothing_waits : AreOnTheWay empty
unfolding IsStrictlySortedBy
nothing_waits = record {
  crossings = record { in_order = tt; below = λ n x among. absurd (among_none (n, x) among); may = λ n x among. absurd (among_none (n, x) among) };
  few = omega arith;
  none = λ _. refl;
}

-- ---- both

no_members : AreSameMembers (roster_of empty.config.net).members (members_of no_sets)
unfolding named
no_members = record { entries = λ name. refl; ports = λ name. refl }

pub first : FirstLaw
first = (
  record { valid = no_records; keys = no_keys_held; bound = nothing_bound; bound_virtual = λ q chassis port e f. absurd (none-some port f); at_home = record { ports = refl; dnats = refl; snats = refl }; born = nobody_born; on_the_way = nothing_waits; few = omega arith },
  record {
    bindings = λ q. refl;
    names = record { datapaths = λ a k e. absurd (none-some k e); ports = λ q p k e f. absurd (none-some p e) };
    held = λ c. (λ h. let s = found (at_name nothing_held.chassis c) h in absurd (none-some s.0 s.1), λ h. absurd (among_none c h));
    members = no_members;
    tables = λ c flows e. absurd (none-some flows e);
    zoned = λ c. refl;
    zones = λ c lists e. absurd (none-some lists e);
    waiting = refl;
    next = refl;
  },
)
