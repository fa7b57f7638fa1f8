-- The rows around the pipelines of all units are exactly the flows of those tables.
use Rattle.std.specs.Prelude.{◌≡◌, ◌≢◌, ℕ, Bool, true, false, cond, List, [], ◌∷◌, ◌++◌, Some, None, Option, refl}
use Rattle.std.specs.Option.{option_map}
use Rattle.std.proofs.lemmas.Bool.{cases_Bool, false≢true}
use mathlib.Core.Logic.{inl, inr}
use mathlib.Core.Path.{sym, ap, subst, ◌∙◌}
use Rattle.flow_table.specs.declared.flow.Flow.{Flow}
use Rattle.nb_records.specs.Routers.{Partner}
use Rattle.nb_records.specs.Switches.{is_virtual}
use Rattle.nb_records.specs.declared.router.RouterPort.{RouterPort}
use Rattle.nb_records.specs.declared.switch.Switch.{Switch}
use Rattle.nb_records.specs.declared.switch.SwitchPort.{SwitchPort}
use Rattle.nb_rules.specs.Valid.{IsValid}
use Rattle.net_model.specs.Config.{Home, nowhere, on, everywhere}
use Rattle.net_model.specs.declared.crossing.Group.{Group}
use Rattle.net_model.specs.declared.crossing.Group.TheVariants.{Flood, Unknown}
use Rattle.ovn_base.proofs.AmongLaws.{among_append, among_none, among_all, among_left, among_right}
use Rattle.ovn_base.specs.declared.name.Name.{Name}
use Rattle.ovn_base.specs.lists.Among.{Among, here, there}
use Rattle.ovn_base.specs.names.ByName.{at}
use Rattle.ovn_base.specs.names.SameName.{bytes_decides, same_name}
use Rattle.physical_flows.proofs.FlowSearch.{some_of}
use Rattle.physical_flows.proofs.PlacedPorts.{switch_there, router_there}
use Rattle.physical_flows.specs.Around.{AroundFlow, exit_rows, keyed_around, port_around, router_port_around, around_everywhere, around_rows}
use Rattle.physical_flows.specs.AroundLaws.{AroundSetLaw}
use Rattle.physical_flows.specs.Rows.{entry_row, arrival_row, remote_row, spread_row, stay_row, home_row, pass_row, enter_row, copies_row, return_row, leave_row, output_row, patch_row, no_peer_row}
use Rattle.physical_flows.specs.Stages.{Basis, zone_of, IsDatapath, IsPort, IsHere, IsRouterPort, PatchPort, IsPatchPort, switch_patch, router_patch, beyond, members_here, homes_of, EntryRow, RemoteRow, HomeRow, ReturnRow, OutputRow}
use Rattle.physical_flows.specs.TableList.{local_rows, local_part, bound_rows, homed_rows, way_row, common_rows}
use Rattle.physical_flows.specs.Units.{rows_of_group, patch_rows, patch_rows_if, keyed_here, keyed_router_port, switch_here, port_here, router_port_here, rows_here, HasRow}
use Rattle.physical_flows.specs.Numbers.{datapath_number, port_number}
use Rattle.physical_flows.specs.declared.unit.FlowUnit.{FlowUnit}
use Rattle.physical_flows.specs.declared.unit.FlowUnit.TheVariants as unit
use Rattle.tunnel_keys.specs.declared.owner.DatapathKey.{DatapathKey}
use Rattle.tunnel_keys.specs.declared.owner.PortKey.{PortKey}

-- the rows of a switch's groups, and those of a port by its home and by where it leads
abbrev groups_of : Basis → Name → ℕ → List Flow
groups_of b a dp = rows_of_group b a dp Flood ++ rows_of_group b a dp Unknown

abbrev bound_of : Basis → Name → ℕ → ℕ → List Flow
bound_of b q dp key = bound_rows b.chassis (at b.bindings q) (zone_of b q) dp q key

abbrev leading_of : Basis → SwitchPort → ℕ → ℕ → List Flow
leading_of b port dp key = patch_rows_if (is_virtual port) b (switch_patch b port dp key)

abbrev way_of : Basis → PatchPort → Flow
way_of b x = way_row x.dp x.key (option_map (beyond b) x.partner)

other_names : (home chassis : Name) → home ≢ chassis → same_name home chassis ≡ false
other_names home chassis other = elim (cases_Bool (same_name home chassis)) [ inl same ↦ absurd (other ((bytes_decides home chassis).0 same)) | inr two ↦ two ]

-- ---- a row of a unit is one of the set

in_groups : (b : Basis) (a : Name) (dp : ℕ) → IsDatapath b a dp → (f : Flow) → Among f (groups_of b a dp) → AroundFlow b f
in_groups b a dp of f m =
    let spread : (group : Group) → AroundFlow b (spread_row dp group (homes_of b a group)) = λ group. AroundFlow.in_remote (RemoteRow.spread a dp group of refl) in
    let copies : (group : Group) (arrived : Bool) → AroundFlow b (copies_row dp group arrived (members_here b a group arrived)) = λ group arrived. AroundFlow.in_home (HomeRow.copies a dp group arrived of refl) in
    among_all (AroundFlow b) f (groups_of b a dp) (spread Flood, (copies Flood false, (copies Flood true, (spread Unknown, (copies Unknown false, (copies Unknown true, tt)))))) m

-- those of a port that leads into another datapath
module _ (b : Basis) (x : PatchPort) (on_way : IsPatchPort b x) (f : Flow) where
  in_homed : (home : Home) → x.home ≡ home → Among f (homed_rows b.chassis home x.dp x.key) → AroundFlow b f
  in_homed nowhere is m = absurd (among_none f m)
  in_homed (on home) is m = by (same_name home b.chassis) refl m
    where
      by : (same : Bool) → same_name home b.chassis ≡ same → Among f (cond same (pass_row x.dp x.key ∷ []) (remote_row x.dp x.key home ∷ [])) → AroundFlow b f
      by true same m = among_all (AroundFlow b) f (pass_row x.dp x.key ∷ []) (AroundFlow.in_home (HomeRow.passes x on_way (is ∙ ap on ((bytes_decides home b.chassis).0 same)) refl), tt) m
      by false other m =
          among_all (AroundFlow b) f (remote_row x.dp x.key home ∷ [])
          (AroundFlow.in_remote (RemoteRow.away x home on_way is (λ e. false≢true (sym other ∙ (bytes_decides home b.chassis).1 e)) refl), tt) m
  in_homed everywhere is m = among_all (AroundFlow b) f (enter_row x.dp x.key ∷ []) (AroundFlow.in_home (HomeRow.enters x on_way is refl), tt) m

  in_way : (partner : Option Partner) → x.partner ≡ partner → Among f (way_row x.dp x.key (option_map (beyond b) partner) ∷ []) → AroundFlow b f
  in_way (Some partner) is m = among_all (AroundFlow b) f (patch_row x.dp x.key (beyond b partner) ∷ []) (AroundFlow.in_output (OutputRow.patch x partner on_way is refl), tt) m
  in_way None is m = among_all (AroundFlow b) f (no_peer_row x.dp x.key ∷ []) (AroundFlow.in_output (OutputRow.no_peer x on_way is refl), tt) m

  in_patch : Among f (patch_rows b x) → AroundFlow b f
  in_patch m = elim (among_append f (homed_rows b.chassis x.home x.dp x.key) (way_of b x ∷ []) m) [
    | inl homed ↦ in_homed x.home refl homed
    | inr way ↦ in_way x.partner refl way
  ]

module _ (b : Basis) (q : Name) (port : SwitchPort) (dp key : ℕ) (of : IsPort b q port dp key) (f : Flow) where
  in_exits : (virtual : Bool) → is_virtual port ≡ virtual → Among f (exit_rows virtual dp q key) → AroundFlow b f
  in_exits true is m = among_all (AroundFlow b) f (exit_rows true dp q key) (AroundFlow.in_back (ReturnRow.back q port dp key of refl), (AroundFlow.in_output (OutputRow.output q port dp key of is refl), tt)) m
  in_exits false is m = among_all (AroundFlow b) f (exit_rows false dp q key) (AroundFlow.in_back (ReturnRow.back q port dp key of refl), tt) m

  in_local : (number : Option ℕ) → zone_of b q ≡ number → at b.bindings q ≡ Some b.chassis → Among f (local_part number dp q key) → AroundFlow b f
  in_local None zoned bound m = absurd (among_none f m)
  in_local (Some zone) zoned bound m =
      let home : IsHere b q zone = record { bound = bound; zoned = zoned } in
      among_all (AroundFlow b) f (local_rows dp q key zone)
      (AroundFlow.in_entry (EntryRow.entry q port dp key zone of home refl), (AroundFlow.in_home (HomeRow.home q port dp key zone of home refl), tt)) m

  in_remote : (home : Name) → at b.bindings q ≡ Some home → home ≢ b.chassis → Among f (remote_row dp key home ∷ []) → AroundFlow b f
  in_remote home bound other m = among_all (AroundFlow b) f (remote_row dp key home ∷ []) (AroundFlow.in_remote (RemoteRow.remote q port dp key home of bound other refl), tt) m

  in_bound : (home : Option Name) → at b.bindings q ≡ home → Among f (bound_rows b.chassis home (zone_of b q) dp q key) → AroundFlow b f
  in_bound None bound m = absurd (among_none f m)
  in_bound (Some home) bound m = by (same_name home b.chassis) refl m
    where
      by : (same : Bool) → same_name home b.chassis ≡ same → Among f (cond same (local_part (zone_of b q) dp q key) (remote_row dp key home ∷ [])) → AroundFlow b f
      by true same m = in_local (zone_of b q) refl (bound ∙ ap (λ n. Some n) ((bytes_decides home b.chassis).0 same)) m
      by false other m = in_remote home bound (λ e. false≢true (sym other ∙ (bytes_decides home b.chassis).1 e)) m

  in_leading : (virtual : Bool) → is_virtual port ≡ virtual → Among f (patch_rows_if virtual b (switch_patch b port dp key)) → AroundFlow b f
  in_leading true is m = absurd (among_none f m)
  in_leading false is m = in_patch b (switch_patch b port dp key) (IsPatchPort.to_router q port dp key of is refl) f m

module _ (b : Basis) (q : Name) (port : RouterPort) (dp key : ℕ) (of : IsRouterPort b q port dp key) (f : Flow) where
  in_router_rows : Among f (exit_rows false dp q key ++ patch_rows b (router_patch b port dp key)) → AroundFlow b f
  in_router_rows m = elim (among_append f (exit_rows false dp q key) (patch_rows b (router_patch b port dp key)) m) [
    | inl back ↦ among_all (AroundFlow b) f (exit_rows false dp q key) (AroundFlow.in_back (ReturnRow.back_in q port dp key of refl), tt) back
    | inr leads ↦ in_patch b (router_patch b port dp key) (IsPatchPort.of_router q port dp key of refl) f leads
  ]

-- those of a switch
in_switch : (b : Basis) (a : Name) (switch : Option Switch) → at b.net.switches a ≡ switch → (datapath : Option DatapathKey) → at b.keys.datapaths a ≡ datapath → (f : Flow)
    → Among f (switch_here b a switch (option_map (λ (k : DatapathKey). k.key) datapath)) → AroundFlow b f
in_switch b a None found datapath is f m = absurd (among_none f m)
in_switch b a (Some switch) found None is f m = absurd (among_none f m)
in_switch b a (Some switch) found (Some live) is f m = in_groups b a live.key (record { switch = switch; there = found; live = live; has = is; number = refl }) f m

-- those of a port: it is on a switch that is there
module _ (b : Basis) (valid : IsValid b.net) (q : Name) (f : Flow) where
  abbrev keyed_rows : SwitchPort → Option ℕ → Option ℕ → List Flow
  keyed_rows port datapath key = keyed_around (is_virtual port) q datapath key ++ keyed_here b q port datapath key

  in_keyed : (port : SwitchPort) → at b.net.switch_ports q ≡ Some port → (datapath : Option DatapathKey) → at b.keys.datapaths port.switch ≡ datapath → (own : Option PortKey) → at b.keys.ports q ≡ own
      → Among f (keyed_rows port (option_map (λ (k : DatapathKey). k.key) datapath) (option_map (λ (k : PortKey). k.key) own)) → AroundFlow b f
  in_keyed port found None dp_is own key_is m = absurd (among_none f m)
  in_keyed port found (Some d) dp_is None key_is m = absurd (among_none f m)
  in_keyed port found (Some d) dp_is (Some live) key_is m =
      let switch = some_of (at b.net.switches port.switch) (switch_there b.net valid q port found) in
      let of : IsPort b q port d.key live.key =
      record {
        there = found;
        on = record { switch = switch.0; there = switch.1; live = d; has = dp_is; number = refl };
        live = live;
        has = key_is;
        number = refl;
      } in
      elim (among_append f (exit_rows (is_virtual port) d.key q live.key) (bound_of b q d.key live.key ++ leading_of b port d.key live.key) m) [
        | inl exits ↦ in_exits b q port d.key live.key of f (is_virtual port) refl exits
        | inr own ↦ elim (among_append f (bound_of b q d.key live.key) (leading_of b port d.key live.key) own) [
          | inl bound ↦ in_bound b q port d.key live.key of f (at b.bindings q) refl bound
          | inr leads ↦ in_leading b q port d.key live.key of f (is_virtual port) refl leads
        ]
      ]

  in_port : (port : Option SwitchPort) → at b.net.switch_ports q ≡ port → Among f (port_around b q port ++ port_here b q port) → AroundFlow b f
  in_port None found m = absurd (among_none f m)
  in_port (Some port) found m = in_keyed port found (at b.keys.datapaths port.switch) refl (at b.keys.ports q) refl m

  -- and those of a router's port
  abbrev keyed_router_rows : RouterPort → Option ℕ → Option ℕ → List Flow
  keyed_router_rows port datapath key = keyed_around false q datapath key ++ keyed_router_port b port datapath key

  in_keyed_router : (port : RouterPort) → at b.net.router_ports q ≡ Some port → (datapath : Option DatapathKey) → at b.keys.datapaths port.router ≡ datapath → (own : Option PortKey) → at b.keys.ports q ≡ own
      → Among f (keyed_router_rows port (option_map (λ (k : DatapathKey). k.key) datapath) (option_map (λ (k : PortKey). k.key) own)) → AroundFlow b f
  in_keyed_router port found None dp_is own key_is m = absurd (among_none f m)
  in_keyed_router port found (Some d) dp_is None key_is m = absurd (among_none f m)
  in_keyed_router port found (Some d) dp_is (Some live) key_is m =
      let router = some_of (at b.net.routers port.router) (router_there b.net valid q port found) in
      let of : IsRouterPort b q port d.key live.key =
      record {
        there = found;
        on = record { router = router.0; there = router.1; live = d; has = dp_is; number = refl };
        live = live;
        has = key_is;
        number = refl;
      } in
      in_router_rows b q port d.key live.key of f m

  in_router_port : (port : Option RouterPort) → at b.net.router_ports q ≡ port → Among f (router_port_around b q port ++ router_port_here b q port) → AroundFlow b f
  in_router_port None found m = absurd (among_none f m)
  in_router_port (Some port) found m = in_keyed_router port found (at b.keys.datapaths port.router) refl (at b.keys.ports q) refl m

in_common : (b : Basis) (f : Flow) → Among f common_rows → AroundFlow b f
in_common b f m = among_all (AroundFlow b) f common_rows (AroundFlow.in_entry (EntryRow.arrival refl), (AroundFlow.in_remote (RemoteRow.stay refl), (AroundFlow.in_back (ReturnRow.leave refl), tt))) m

in_unit : (b : Basis) → IsValid b.net → (u : FlowUnit) (f : Flow) → Among f (around_rows b u) → AroundFlow b f
in_unit b valid unit.Common f m = in_common b f m
in_unit b valid (unit.Switch a) f m = in_switch b a (at b.net.switches a) refl (at b.keys.datapaths a) refl f m
in_unit b valid (unit.Port q) f m = in_port b valid q f (at b.net.switch_ports q) refl m
in_unit b valid (unit.RouterPort q) f m = in_router_port b valid q f (at b.net.router_ports q) refl m

-- ---- a row of the set is one of a unit

number_of : (b : Basis) (a : Name) (live : DatapathKey) (dp : ℕ) → at b.keys.datapaths a ≡ Some live → live.key ≡ dp → datapath_number b.keys a ≡ Some dp
number_of b a live dp has number = ap (λ (o : Option DatapathKey). option_map (λ k. k.key) o) has ∙ ap (λ n. Some n) number

port_number_of : (b : Basis) (q : Name) (live : PortKey) (key : ℕ) → at b.keys.ports q ≡ Some live → live.key ≡ key → port_number b.keys q ≡ Some key
port_number_of b q live key has number = ap (λ (o : Option PortKey). option_map (λ k. k.key) o) has ∙ ap (λ n. Some n) number

module _ (b : Basis) (a : Name) (dp : ℕ) (of : IsDatapath b a dp) where
  datapath_is : datapath_number b.keys a ≡ Some dp
  datapath_is = number_of b a of.live dp of.has of.number

  pub groups_are : rows_here b (unit.Switch a) ≡ groups_of b a dp
  groups_are = ap (λ o. switch_here b a o (datapath_number b.keys a)) of.there ∙ ap (λ n. switch_here b a (Some of.switch) n) datapath_is

  group_has : (group : Group) (row : Flow) → Among row (rows_of_group b a dp group) → HasRow (around_rows b) row
  group_has group row m = record { unit = unit.Switch a; among = subst (λ fs. Among row fs) (sym groups_are) (by group m) }
    where
      by : (group : Group) → Among row (rows_of_group b a dp group) → Among row (groups_of b a dp)
      by Flood m = among_left row (rows_of_group b a dp Flood) (rows_of_group b a dp Unknown) m
      by Unknown m = among_right row (rows_of_group b a dp Flood) (rows_of_group b a dp Unknown) m

module _ (b : Basis) (q : Name) (port : SwitchPort) (dp key : ℕ) (of : IsPort b q port dp key) where
  key_is : port_number b.keys q ≡ Some key
  key_is = port_number_of b q of.live key of.has of.number

  exits_are : around_everywhere b (unit.Port q) ≡ exit_rows (is_virtual port) dp q key
  exits_are = ap (λ o. port_around b q o) of.there ∙ (λ i. keyed_around (is_virtual port) q (datapath_is b port.switch dp of.on i) (key_is i))

  here_are : rows_here b (unit.Port q) ≡ bound_of b q dp key ++ leading_of b port dp key
  here_are = ap (λ o. port_here b q o) of.there ∙ (λ i. keyed_here b q port (datapath_is b port.switch dp of.on i) (key_is i))

  exit_has : (virtual : Bool) → is_virtual port ≡ virtual → (row : Flow) → Among row (exit_rows virtual dp q key) → HasRow (around_rows b) row
  exit_has virtual is row m = record {
    unit = unit.Port q;
    among = among_left row (around_everywhere b (unit.Port q)) (rows_here b (unit.Port q)) (subst (λ fs. Among row fs) (sym (exits_are ∙ ap (λ v. exit_rows v dp q key) is)) m);
  }

  back_out : (virtual : Bool) → is_virtual port ≡ virtual → HasRow (around_rows b) (return_row dp key)
  back_out true is = exit_has true is (return_row dp key) here
  back_out false is = exit_has false is (return_row dp key) here

  here_has : (row : Flow) → Among row (bound_of b q dp key ++ leading_of b port dp key) → HasRow (around_rows b) row
  here_has row m = record { unit = unit.Port q; among = among_right row (around_everywhere b (unit.Port q)) (rows_here b (unit.Port q)) (subst (λ fs. Among row fs) (sym here_are) m) }

  bound_has : (rows : List Flow) → bound_of b q dp key ≡ rows → (row : Flow) → Among row rows → HasRow (around_rows b) row
  bound_has rows is row m = here_has row (among_left row (bound_of b q dp key) (leading_of b port dp key) (subst (λ fs. Among row fs) (sym is) m))

  leading_has : is_virtual port ≡ false → (row : Flow) → Among row (patch_rows b (switch_patch b port dp key)) → HasRow (around_rows b) row
  leading_has leads row m =
      here_has row (among_right row (bound_of b q dp key) (leading_of b port dp key) (subst (λ v. Among row (patch_rows_if v b (switch_patch b port dp key))) (sym leads) m))

  -- the rows of a port that is at home here
  local_are : (zone : ℕ) → IsHere b q zone → bound_of b q dp key ≡ local_rows dp q key zone
  local_are zone home =
      ap (λ o. bound_rows b.chassis o (zone_of b q) dp q key) home.bound
      ∙ ap (λ t. cond t (local_part (zone_of b q) dp q key) (remote_row dp key b.chassis ∷ [])) ((bytes_decides b.chassis b.chassis).1 refl)
      ∙ ap (λ o. local_part o dp q key) home.zoned

  -- and of one that is at home elsewhere
  remote_are : (home : Name) → at b.bindings q ≡ Some home → home ≢ b.chassis → bound_of b q dp key ≡ remote_row dp key home ∷ []
  remote_are home bound other =
      ap (λ o. bound_rows b.chassis o (zone_of b q) dp q key) bound ∙ ap (λ t. cond t (local_part (zone_of b q) dp q key) (remote_row dp key home ∷ [])) (other_names home b.chassis other)

module _ (b : Basis) (q : Name) (port : RouterPort) (dp key : ℕ) (of : IsRouterPort b q port dp key) where
  router_is : datapath_number b.keys port.router ≡ Some dp
  router_is = number_of b port.router of.on.live dp of.on.has of.on.number

  router_key_is : port_number b.keys q ≡ Some key
  router_key_is = port_number_of b q of.live key of.has of.number

  router_exits_are : around_everywhere b (unit.RouterPort q) ≡ exit_rows false dp q key
  router_exits_are = ap (λ o. router_port_around b q o) of.there ∙ (λ i. keyed_around false q (router_is i) (router_key_is i))

  router_rows_are : rows_here b (unit.RouterPort q) ≡ patch_rows b (router_patch b port dp key)
  router_rows_are = ap (λ o. router_port_here b q o) of.there ∙ (λ i. keyed_router_port b port (router_is i) (router_key_is i))

  back_in_has : HasRow (around_rows b) (return_row dp key)
  back_in_has =
      let m : Among (return_row dp key) (exit_rows false dp q key) = here in
      record {
        unit = unit.RouterPort q;
        among = among_left (return_row dp key) (around_everywhere b (unit.RouterPort q)) (rows_here b (unit.RouterPort q)) (subst (λ fs. Among (return_row dp key) fs) (sym router_exits_are) m);
      }

  router_has : (row : Flow) → Among row (patch_rows b (router_patch b port dp key)) → HasRow (around_rows b) row
  router_has row m = record {
    unit = unit.RouterPort q;
    among = among_right row (around_everywhere b (unit.RouterPort q)) (rows_here b (unit.RouterPort q)) (subst (λ fs. Among row fs) (sym router_rows_are) m);
  }

-- ports that lead into another datapath
module _ (b : Basis) (x : PatchPort) where
  patch_has : IsPatchPort b x → (row : Flow) → Among row (patch_rows b x) → HasRow (around_rows b) row
  patch_has (IsPatchPort.to_router q port dp key of leads is) row m = leading_has b q port dp key of leads row (subst (λ y. Among row (patch_rows b y)) is m)
  patch_has (IsPatchPort.of_router q port dp key of is) row m = router_has b q port dp key of row (subst (λ y. Among row (patch_rows b y)) is m)

  module _ (of : IsPatchPort b x) where
    homed_has : (rows : List Flow) → homed_rows b.chassis x.home x.dp x.key ≡ rows → (row : Flow) → Among row rows → HasRow (around_rows b) row
    homed_has rows is row m = patch_has of row (among_left row (homed_rows b.chassis x.home x.dp x.key) (way_of b x ∷ []) (subst (λ fs. Among row fs) (sym is) m))

    passed_are : x.home ≡ on b.chassis → homed_rows b.chassis x.home x.dp x.key ≡ pass_row x.dp x.key ∷ []
    passed_are is =
        ap (λ h. homed_rows b.chassis h x.dp x.key) is ∙ ap (λ t. cond t (pass_row x.dp x.key ∷ []) (remote_row x.dp x.key b.chassis ∷ [])) ((bytes_decides b.chassis b.chassis).1 refl)

    away_are : (home : Name) → x.home ≡ on home → home ≢ b.chassis → homed_rows b.chassis x.home x.dp x.key ≡ remote_row x.dp x.key home ∷ []
    away_are home is other =
        ap (λ h. homed_rows b.chassis h x.dp x.key) is ∙ ap (λ t. cond t (pass_row x.dp x.key ∷ []) (remote_row x.dp x.key home ∷ [])) (other_names home b.chassis other)

    entered_are : x.home ≡ everywhere → homed_rows b.chassis x.home x.dp x.key ≡ enter_row x.dp x.key ∷ []
    entered_are is = ap (λ h. homed_rows b.chassis h x.dp x.key) is

    way_has : (partner : Option Partner) → x.partner ≡ partner → HasRow (around_rows b) (way_row x.dp x.key (option_map (beyond b) partner))
    way_has partner is = subst (λ p. HasRow (around_rows b) (way_row x.dp x.key (option_map (beyond b) p))) is (patch_has of (way_of b x) (among_right (way_of b x) (homed_rows b.chassis x.home x.dp x.key) (way_of b x ∷ []) here))

module _ (b : Basis) (f : Flow) where
  row_has : (row : Flow) → f ≡ row → HasRow (around_rows b) row → HasRow (around_rows b) f
  row_has row e h = subst (λ g. HasRow (around_rows b) g) (sym e) h

  common_has : (row : Flow) → f ≡ row → Among row common_rows → HasRow (around_rows b) f
  common_has row e m = row_has row e (record { unit = unit.Common; among = among_left row common_rows [] m })

  entry_has : EntryRow b f → HasRow (around_rows b) f
  entry_has (EntryRow.entry q port dp key zone of home e) = row_has (entry_row q dp key zone) e (bound_has b q port dp key of (local_rows dp q key zone) (local_are b q port dp key of zone home) (entry_row q dp key zone) here)
  entry_has (EntryRow.arrival e) = common_has arrival_row e here

  remote_has : RemoteRow b f → HasRow (around_rows b) f
  remote_has (RemoteRow.remote q port dp key home of bound other e) =
      row_has (remote_row dp key home) e (bound_has b q port dp key of (remote_row dp key home ∷ []) (remote_are b q port dp key of home bound other) (remote_row dp key home) here)
  remote_has (RemoteRow.away x home of is other e) =
      row_has (remote_row x.dp x.key home) e (homed_has b x of (remote_row x.dp x.key home ∷ []) (away_are b x of home is other) (remote_row x.dp x.key home) here)
  remote_has (RemoteRow.spread a dp group of e) = row_has (spread_row dp group (homes_of b a group)) e (group_has b a dp of group (spread_row dp group (homes_of b a group)) here)
  remote_has (RemoteRow.stay e) = common_has stay_row e (there here)

  home_has : HomeRow b f → HasRow (around_rows b) f
  home_has (HomeRow.home q port dp key zone of home e) =
      row_has (home_row dp key zone) e (bound_has b q port dp key of (local_rows dp q key zone) (local_are b q port dp key of zone home) (home_row dp key zone) (there here))
  home_has (HomeRow.passes x of is e) = row_has (pass_row x.dp x.key) e (homed_has b x of (pass_row x.dp x.key ∷ []) (passed_are b x of is) (pass_row x.dp x.key) here)
  home_has (HomeRow.enters x of is e) = row_has (enter_row x.dp x.key) e (homed_has b x of (enter_row x.dp x.key ∷ []) (entered_are b x of is) (enter_row x.dp x.key) here)
  home_has (HomeRow.copies a dp group false of e) =
      row_has (copies_row dp group false (members_here b a group false)) e (group_has b a dp of group (copies_row dp group false (members_here b a group false)) (there here))
  home_has (HomeRow.copies a dp group true of e) =
      row_has (copies_row dp group true (members_here b a group true)) e (group_has b a dp of group (copies_row dp group true (members_here b a group true)) (there (there here)))

  back_has : ReturnRow b f → HasRow (around_rows b) f
  back_has (ReturnRow.back q port dp key of e) = row_has (return_row dp key) e (back_out b q port dp key of (is_virtual port) refl)
  back_has (ReturnRow.back_in q port dp key of e) = row_has (return_row dp key) e (back_in_has b q port dp key of)
  back_has (ReturnRow.leave e) = common_has leave_row e (there (there here))

  output_has : OutputRow b f → HasRow (around_rows b) f
  output_has (OutputRow.output q port dp key of virtual e) = row_has (output_row dp q key) e (exit_has b q port dp key of true virtual (output_row dp q key) (there here))
  output_has (OutputRow.patch x partner of is e) = row_has (patch_row x.dp x.key (beyond b partner)) e (way_has b x of (Some partner) is)
  output_has (OutputRow.no_peer x of is e) = row_has (no_peer_row x.dp x.key) e (way_has b x of None is)

  set_has : AroundFlow b f → HasRow (around_rows b) f
  set_has (AroundFlow.in_entry r) = entry_has r
  set_has (AroundFlow.in_remote r) = remote_has r
  set_has (AroundFlow.in_home r) = home_has r
  set_has (AroundFlow.in_back r) = back_has r
  set_has (AroundFlow.in_output r) = output_has r

-- ---- both

-- the flows of the tables around the pipelines are the rows of the units
pub around_set : AroundSetLaw
around_set b keyed f = (λ h. in_unit b keyed.valid h.unit f h.among, set_has b f)
