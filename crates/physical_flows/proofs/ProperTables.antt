-- The flows of the tables around the pipelines are proper.
use Rattle.std.specs.Prelude.{◌≡◌, ◌<◌, ◌^◌, ℕ, List, [], ◌∷◌, ◌++◌, map, Bool, true, false, Option, Some, None, unwrap_or, refl}
use Rattle.std.specs.List.{AllByRecursion}
use Rattle.std.specs.Option.{option_map}
use Rattle.std.proofs.Common.{sym, ap, ◌∙◌, subst, arith}
use Rattle.std.proofs.lemmas.Bool.{false≢true}
use Rattle.ovn_base.specs.declared.name.Name.{Name}
use Rattle.ovn_base.specs.names.ByName.{at}
use Rattle.inet_packet.specs.declared.regs.Reg.{Reg}
use Rattle.inet_packet.specs.declared.regs.Reg.TheVariants.{Dp, InPort, ZIn, ZOut, Tracked, State, Blocked, Verdict, Arrived}
use Rattle.flow_table.specs.declared.flow.Flow.{Flow}
use Rattle.flow_table.specs.declared.flow.FlowOp.TheVariants.{Frame, Go}
use Rattle.switch_engine.specs.Proper.{width, CanBeSet, CanPatch, Rises, IsProperFlow}
use Rattle.conn_zones.specs.Zoning.{Zoned, IsZoned}
use Rattle.conn_zones.specs.declared.numbers.ZoneUse.TheVariants.{Dnat, Snat}
use Rattle.nb_records.specs.Routers.{Partner, switch_side, router_side}
use Rattle.nb_records.specs.declared.switch.SwitchPort.{SwitchPort}
use Rattle.physical_flows.specs.Rows.{entry_row, arrival_row, remote_row, spread_row, stay_row, home_row, pass_row, enter_row, copies_row, return_row, leave_row, output_row, patch_row, no_peer_row}
use Rattle.net_model.specs.State as state
use Rattle.physical_flows.specs.Around.{AroundFlow}
use Rattle.physical_flows.specs.AroundLaws.{AroundProperLaw}
use Rattle.physical_flows.specs.Numbers.{datapath_number, port_number}
use Rattle.physical_flows.specs.RecordKeys.{HaveKeys}
use Rattle.physical_flows.specs.ChassisFlows.{basis_at}
use Rattle.physical_flows.specs.Stages.{Basis, IsDatapath, IsPort, IsHere, beyond, members_here, homes_of, EntryRow, RemoteRow, HomeRow, ReturnRow, OutputRow}
use Rattle.physical_flows.proofs.BoundZones.{zone_fits, number_or_none_fits}
use Rattle.physical_flows.proofs.KeyLaws.{datapath_fits, port_fits}
use Rattle.tunnel_keys.specs.declared.owner.DatapathKey.{DatapathKey}
use Rattle.tunnel_keys.specs.declared.owner.PortKey.{PortKey}

-- ---- numbers in range

module _ (m : state.State) (zones : Zoned) (c : Name) where
  pub datapath_in_range : HaveKeys m.config.net m.keys → (a : Name) (dp : ℕ) → IsDatapath (basis_at m zones.numbers c) a dp → dp < 2 ^ 24
  datapath_in_range keys a dp on = subst (λ n. n < 2 ^ 24) on.number (datapath_fits m.config.net m.keys keys a on.live on.has).1

  pub port_in_range : HaveKeys m.config.net m.keys → (q : Name) (port : SwitchPort) (dp key : ℕ) → IsPort (basis_at m zones.numbers c) q port dp key → key < 2 ^ 15
  port_in_range keys q port dp key of = subst (λ n. n < 2 ^ 15) of.number (port_fits m.config.net m.keys keys q of.live of.has).1

  pub zone_in_range : IsZoned zones → (q : Name) (zone : ℕ) → IsHere (basis_at m zones.numbers c) q zone → zone < 2 ^ 16
  zone_in_range zoned q zone home = zone_fits zones zoned c q zone home.zoned

  -- and 0, where there is no key
  datapath_or_none : HaveKeys m.config.net m.keys → (a : Name) → unwrap_or (datapath_number m.keys a) 0 < 2 ^ 24
  datapath_or_none keys a = by (at m.keys.datapaths a) refl
    where
      by : (o : Option DatapathKey) → at m.keys.datapaths a ≡ o → unwrap_or (option_map (λ (k : DatapathKey). k.key) o) 0 < 2 ^ 24
      by None is = omega arith
      by (Some k) is = (datapath_fits m.config.net m.keys keys a k is).1

  port_or_none : HaveKeys m.config.net m.keys → (q : Name) → unwrap_or (port_number m.keys q) 0 < 2 ^ 15
  port_or_none keys q = by (at m.keys.ports q) refl
    where
      by : (o : Option PortKey) → at m.keys.ports q ≡ o → unwrap_or (option_map (λ (k : PortKey). k.key) o) 0 < 2 ^ 15
      by None is = omega arith
      by (Some k) is = (port_fits m.config.net m.keys keys q k is).1

  can_patch : HaveKeys m.config.net m.keys → IsZoned zones → (partner : Partner)
      → CanPatch (beyond (basis_at m zones.numbers c) partner).dp (beyond (basis_at m zones.numbers c) partner).in_port (beyond (basis_at m zones.numbers c) partner).z_dnat (beyond (basis_at m zones.numbers c) partner).z_snat
  can_patch keys zoned (switch_side q) = record {
    dp_within = datapath_or_none keys q.switch;
    in_port_within = port_or_none keys q.name;
    z_dnat_within = omega arith;
    z_snat_within = omega arith;
  }
  can_patch keys zoned (router_side r) = record {
    dp_within = datapath_or_none keys r.router;
    in_port_within = port_or_none keys r.name;
    z_dnat_within = number_or_none_fits zones zoned c (Dnat r.router);
    z_snat_within = number_or_none_fits zones zoned c (Snat r.router);
  }

-- ---- registers that can be set

abbrev is_in_port : Reg → Bool
is_in_port InPort = true
is_in_port reg = false

can_be_set : (reg : Reg) (n : ℕ) → is_in_port reg ≡ false → n < 2 ^ width reg → CanBeSet reg n
can_be_set reg n other fits = record { within = fits; of_port = λ is. absurd (false≢true (sym other ∙ ap is_in_port is)) }

in_port_set : (key : ℕ) → key < 2 ^ 15 → CanBeSet InPort key
in_port_set key small = record { within = omega (arith, small); of_port = λ is. omega (arith, small) }

-- ---- each row

module _ (f row : Flow) (e : f ≡ row) where
  row_proper : AllByRecursion (Rises row.table) row.ops → IsProperFlow f
  row_proper rises = subst IsProperFlow (sym e) (IsProperFlow.rising rises)

-- frames to other chassis, and the way on here
spread_rises : (homes : List Name) → AllByRecursion (Rises 32) (map (λ home. Frame home) homes ++ Go 33 ∷ [])
spread_rises [] = (omega arith, tt)
spread_rises (home ∷ homes) = (tt, spread_rises homes)

module _ (m : state.State) (zones : Zoned) (c : Name) (keys : HaveKeys m.config.net m.keys) (zoned : IsZoned zones) (f : Flow) where
  abbrev b : Basis
  b = basis_at m zones.numbers c

  entry_proper : EntryRow b f → IsProperFlow f
  entry_proper (EntryRow.entry q port dp key zone of home e) =
      row_proper f (entry_row q dp key zone) e
      (can_be_set Dp dp refl (datapath_in_range m zones c keys port.switch dp of.on), (in_port_set key (port_in_range m zones c keys q port dp key of), (can_be_set ZIn zone refl (zone_in_range m zones c zoned q zone home), (omega arith, tt))))
  entry_proper (EntryRow.arrival e) = row_proper f arrival_row e (tt, (can_be_set Arrived 1 refl (omega arith), (omega arith, tt)))

  remote_proper : RemoteRow b f → IsProperFlow f
  remote_proper (RemoteRow.remote q port dp key home of bound_to other e) = row_proper f (remote_row dp key home) e (tt, tt)
  remote_proper (RemoteRow.away x home of is other e) = row_proper f (remote_row x.dp x.key home) e (tt, tt)
  remote_proper (RemoteRow.spread a dp group on e) = row_proper f (spread_row dp group (homes_of b a group)) e (spread_rises (homes_of b a group))
  remote_proper (RemoteRow.stay e) = row_proper f stay_row e (omega arith, tt)

  home_proper : HomeRow b f → IsProperFlow f
  home_proper (HomeRow.home q port dp key zone of home e) =
      row_proper f (home_row dp key zone) e (can_be_set ZOut zone refl (zone_in_range m zones c zoned q zone home), (omega arith, tt))
  home_proper (HomeRow.passes x of is e) = row_proper f (pass_row x.dp x.key) e (omega arith, tt)
  home_proper (HomeRow.enters x of is e) = row_proper f (enter_row x.dp x.key) e (omega arith, tt)
  home_proper (HomeRow.copies a dp group arrived on e) = row_proper f (copies_row dp group arrived (members_here b a group arrived)) e (omega arith, tt)

  back_proper : ReturnRow b f → IsProperFlow f
  back_proper (ReturnRow.back q port dp key of e) = row_proper f (return_row dp key) e (tt, tt)
  back_proper (ReturnRow.back_in q port dp key of e) = row_proper f (return_row dp key) e (tt, tt)
  back_proper (ReturnRow.leave e) =
      row_proper f leave_row e
      (can_be_set Tracked 0 refl (omega arith), (can_be_set State 0 refl (omega arith), (can_be_set Blocked 0 refl (omega arith), (can_be_set Verdict 0 refl (omega arith), (omega arith, tt)))))

  output_proper : OutputRow b f → IsProperFlow f
  output_proper (OutputRow.output q port dp key of virtual e) = row_proper f (output_row dp q key) e (tt, tt)
  output_proper (OutputRow.patch x partner of is e) = row_proper f (patch_row x.dp x.key (beyond b partner)) e ((refl, can_patch m zones c keys zoned partner), tt)
  output_proper (OutputRow.no_peer x of is e) = row_proper f (no_peer_row x.dp x.key) e (tt, tt)

  around_flow_proper : AroundFlow b f → IsProperFlow f
  around_flow_proper (AroundFlow.in_entry r) = entry_proper r
  around_flow_proper (AroundFlow.in_remote r) = remote_proper r
  around_flow_proper (AroundFlow.in_home r) = home_proper r
  around_flow_proper (AroundFlow.in_back r) = back_proper r
  around_flow_proper (AroundFlow.in_output r) = output_proper r

-- each number lies within its register, and each flow goes on at later tables
pub around_proper : AroundProperLaw
around_proper m zones c keys zoned f r = around_flow_proper m zones c keys zoned f r
