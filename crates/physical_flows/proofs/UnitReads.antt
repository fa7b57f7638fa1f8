-- What the rows of a unit follow from: where that stays the same, so do the rows. And which zones keep their numbers where a port is bound.
use Rattle.std.specs.Prelude.{◌≡◌, ◌≢◌, ℕ, Bool, true, false, ◌&&◌, ◌||◌, not, cond, List, [], ◌∷◌, ◌++◌, map, filter, Option, Some, None, is_some, unwrap_or, refl}
use Rattle.std.specs.List.{list_any}
use mathlib.Core.Path.{sym, ap, ◌∙◌}
use mathlib.Core.Logic.{inl, inr}
use Rattle.std.proofs.lemmas.Bool.{false≢true}
use Rattle.std.proofs.lemmas.Option.{none-some, same_Some}
use Rattle.ovn_base.specs.lists.Among.{Among, here, there}
use Rattle.ovn_base.specs.names.ByName.{at}
use Rattle.ovn_base.specs.names.SameName.{bytes_decides, same_name}
use Rattle.ovn_base.specs.declared.name.Name.{Name}
use Rattle.ovn_base.proofs.ByNameLaws.{one_or_two, at_tail}
use Rattle.conn_zones.specs.Rezoning.{IsRezoned, is_home_on, stays_on}
use Rattle.conn_zones.specs.Zoning.{Zoned, IsZoned, home_for, number_on}
use Rattle.conn_zones.specs.declared.change.HomeChange.{HomeChange}
use Rattle.conn_zones.specs.declared.numbers.ZoneUse.{ZoneUse}
use Rattle.conn_zones.specs.declared.numbers.ZoneUse.TheVariants as zone_use
use Rattle.nb_records.specs.Switches.{is_virtual}
use Rattle.nb_records.specs.declared.router.RouterPort.{RouterPort}
use Rattle.nb_records.specs.declared.switch.Switch.{Switch}
use Rattle.nb_records.specs.declared.switch.SwitchPort.{SwitchPort}
use Rattle.net_model.specs.Config.{home_of, is_on}
use Rattle.net_model.specs.Targets.{members}
use Rattle.net_model.specs.declared.crossing.Group.{Group}
use Rattle.net_model.specs.declared.crossing.Group.TheVariants.{Flood, Unknown}
use Rattle.physical_flows.specs.declared.unit.FlowUnit.{FlowUnit}
use Rattle.physical_flows.specs.declared.unit.FlowUnit.TheVariants as unit
use Rattle.physical_flows.specs.Around.{keyed_around, port_around, router_port_around, around_everywhere, around_rows}
use Rattle.physical_flows.specs.Homes.{is_reached_at}
use Rattle.physical_flows.specs.Numbers.{datapath_number, port_number}
use Rattle.physical_flows.specs.Stages.{Basis, config_of, zone_of, member_of, members_here, homes_of, switch_patch, router_patch}
use Rattle.physical_flows.specs.TableList.{group_rows, bound_rows}
use Rattle.physical_flows.specs.Units.{rows_of_group, switch_here, patch_rows, patch_rows_if, keyed_here, keyed_router_port, port_here, router_port_here, rows_here, ChangeOnly}
use Rattle.physical_flows.proofs.FlowSearch.{is_some_of}

-- ---- lists

-- tests that agree on all elements find the same
pub any_same : {X : Type 0} (f g : X → Bool) (xs : List X) → ((x : X) → Among x xs → f x ≡ g x) → list_any f xs ≡ list_any g xs
any_same f g [] same = refl
any_same f g (x ∷ xs) same =
    let first = same x here in
    let rest = any_same f g xs (λ y m. same y (there m)) in
    λ i. first i || rest i

-- and keep the same, whose images are the same where each has one image
pub images_same : {X Y : Type 0} (f g : X → Y) (s t : X → Bool) (xs : List X) → ((x : X) → Among x xs → f x ≡ g x) → ((x : X) → Among x xs → s x ≡ t x) → map f (filter s xs) ≡ map g (filter t xs)
images_same f g s t [] images tests = refl
images_same f g s t (x ∷ xs) images tests =
    ap (λ b. map f (cond b (x ∷ filter s xs) (filter s xs))) (tests x here) ∙ by (t x) (images_same f g s t xs (λ y m. images y (there m)) (λ y m. tests y (there m)))
  where
    by : (b : Bool) → map f (filter s xs) ≡ map g (filter t xs) → map f (cond b (x ∷ filter s xs) (filter s xs)) ≡ map g (cond b (x ∷ filter t xs) (filter t xs))
    by true rest = let image = images x here in λ i. image i ∷ rest i
    by false rest = rest

-- ---- what the rows follow from

-- a member of a group has the number of its key, its home, and the number of its zone on the chassis, as before
pub record IsSameMember (before after : Basis) (port : SwitchPort) : Type 0 where
  pub number : port_number after.keys port.name ≡ port_number before.keys port.name
  pub home : home_of (config_of after) port ≡ home_of (config_of before) port
  pub zone : zone_of after port.name ≡ zone_of before port.name

-- what the rows of a port follow from is the same: its record, where it has one the numbers of its switch's key and its own, where it is bound and its
-- zone there, and the rows of one that leads to a router
pub record IsSamePort (before after : Basis) (q : Name) : Type 0 where
  pub chassis : after.chassis ≡ before.chassis
  pub entry : at after.net.switch_ports q ≡ at before.net.switch_ports q
  pub beneath : (port : SwitchPort) → at before.net.switch_ports q ≡ Some port → datapath_number after.keys port.switch ≡ datapath_number before.keys port.switch
  pub number : (port : SwitchPort) → at before.net.switch_ports q ≡ Some port → port_number after.keys q ≡ port_number before.keys q
  pub home : at after.bindings q ≡ at before.bindings q
  pub zone : zone_of after q ≡ zone_of before q
  pub leads : (port : SwitchPort) → at before.net.switch_ports q ≡ Some port → is_virtual port ≡ false → (dp key : ℕ) → patch_rows after (switch_patch after port dp key) ≡ patch_rows before (switch_patch before port dp key)

-- what the rows of a router port follow from is
pub record IsSameRouterPort (before after : Basis) (q : Name) : Type 0 where
  pub entry : at after.net.router_ports q ≡ at before.net.router_ports q
  pub beneath : (port : RouterPort) → at before.net.router_ports q ≡ Some port → datapath_number after.keys port.router ≡ datapath_number before.keys port.router
  pub number : (port : RouterPort) → at before.net.router_ports q ≡ Some port → port_number after.keys q ≡ port_number before.keys q
  pub leads : (port : RouterPort) → at before.net.router_ports q ≡ Some port → (dp key : ℕ) → patch_rows after (router_patch after port dp key) ≡ patch_rows before (router_patch before port dp key)

-- the chassis is another one, and a member of the group is at home there
abbrev pub has_member_at : Basis → Name → Group → Name → Bool
has_member_at b a group c = not (same_name c b.chassis) && list_any (λ q. is_on c (home_of (config_of b) q)) (members b.net a group)

-- what the rows of a switch follow from is the same: whether it is there, if so the number of its key, the members of its groups, what each
-- of these has, and the other chassis where one of them is at home
pub record IsSameSwitch (before after : Basis) (a : Name) : Type 0 where
  pub chassis : after.chassis ≡ before.chassis
  pub entry : is_some (at after.net.switches a) ≡ is_some (at before.net.switches a)
  pub number : (switch : Switch) → at before.net.switches a ≡ Some switch → datapath_number after.keys a ≡ datapath_number before.keys a
  pub in_group : (group : Group) → members after.net a group ≡ members before.net a group
  pub each : (group : Group) (q : SwitchPort) → Among q (members before.net a group) → IsSameMember before after q
  pub homes : (group : Group) → filter (has_member_at before a group) after.all ≡ filter (has_member_at before a group) before.all

-- ---- ports

module _ (before after : Basis) (q : Name) (same : IsSamePort before after q) where
  leading_same : (port : SwitchPort) → at before.net.switch_ports q ≡ Some port → (dp key : ℕ)
      → patch_rows_if (is_virtual port) after (switch_patch after port dp key) ≡ patch_rows_if (is_virtual port) before (switch_patch before port dp key)
  leading_same port is dp key = by (is_virtual port) refl
    where
      by : (virtual : Bool) → is_virtual port ≡ virtual → patch_rows_if virtual after (switch_patch after port dp key) ≡ patch_rows_if virtual before (switch_patch before port dp key)
      by true virtual = refl
      by false leads = same.leads port is leads dp key

  keyed_same : (port : SwitchPort) → at before.net.switch_ports q ≡ Some port → (dp key : Option ℕ) → keyed_here after q port dp key ≡ keyed_here before q port dp key
  keyed_same port is None key = refl
  keyed_same port is (Some dp) None = refl
  keyed_same port is (Some dp) (Some key) =
      let chassis = same.chassis in
      let home = same.home in
      let zone = same.zone in
      let leads = leading_same port is dp key in
      λ i. bound_rows (chassis i) (home i) (zone i) dp q key ++ leads i

  here_same : (o : Option SwitchPort) → at before.net.switch_ports q ≡ o → port_here after q o ≡ port_here before q o
  here_same None is = refl
  here_same (Some port) is =
      let dp = same.beneath port is in
      let key = same.number port is in
      (λ i. keyed_here after q port (dp i) (key i)) ∙ keyed_same port is (datapath_number before.keys port.switch) (port_number before.keys q)

  port_here_same : rows_here after (unit.Port q) ≡ rows_here before (unit.Port q)
  port_here_same = ap (λ o. port_here after q o) same.entry ∙ here_same (at before.net.switch_ports q) refl

  around_same : (o : Option SwitchPort) → at before.net.switch_ports q ≡ o → port_around after q o ≡ port_around before q o
  around_same None is = refl
  around_same (Some port) is = let dp = same.beneath port is in let key = same.number port is in λ i. keyed_around (is_virtual port) q (dp i) (key i)

  port_around_same : around_everywhere after (unit.Port q) ≡ around_everywhere before (unit.Port q)
  port_around_same = ap (λ o. port_around after q o) same.entry ∙ around_same (at before.net.switch_ports q) refl

-- ---- router ports

module _ (before after : Basis) (q : Name) (same : IsSameRouterPort before after q) where
  keyed_router_same : (port : RouterPort) → at before.net.router_ports q ≡ Some port → (dp key : Option ℕ) → keyed_router_port after port dp key ≡ keyed_router_port before port dp key
  keyed_router_same port is None key = refl
  keyed_router_same port is (Some dp) None = refl
  keyed_router_same port is (Some dp) (Some key) = same.leads port is dp key

  router_here_same : (o : Option RouterPort) → at before.net.router_ports q ≡ o → router_port_here after q o ≡ router_port_here before q o
  router_here_same None is = refl
  router_here_same (Some port) is =
      let dp = same.beneath port is in
      let key = same.number port is in
      (λ i. keyed_router_port after port (dp i) (key i)) ∙ keyed_router_same port is (datapath_number before.keys port.router) (port_number before.keys q)

  router_around_same : (o : Option RouterPort) → at before.net.router_ports q ≡ o → router_port_around after q o ≡ router_port_around before q o
  router_around_same None is = refl
  router_around_same (Some port) is = let dp = same.beneath port is in let key = same.number port is in λ i. keyed_around false q (dp i) (key i)

  router_port_same : around_rows after (unit.RouterPort q) ≡ around_rows before (unit.RouterPort q)
  router_port_same =
      (λ i. router_port_around after q (same.entry i) ++ router_port_here after q (same.entry i))
      ∙ (λ i. router_around_same (at before.net.router_ports q) refl i ++ router_here_same (at before.net.router_ports q) refl i)

-- ---- switches

module _ (before after : Basis) (a : Name) (same : IsSameSwitch before after a) where
  module _ (group : Group) where
    members_same : (arrived : Bool) → members_here after a group arrived ≡ members_here before a group arrived
    members_same arrived =
        ap (λ (ms : List SwitchPort). map (λ q. member_of after q.name) (filter (λ q. is_reached_at arrived after.chassis (home_of (config_of after) q)) ms)) (same.in_group group)
        ∙ images_same (λ (q : SwitchPort). member_of after q.name) (λ q. member_of before q.name) (λ q. is_reached_at arrived after.chassis (home_of (config_of after) q))
        (λ q. is_reached_at arrived before.chassis (home_of (config_of before) q)) (members before.net a group)
        (λ q m. let own = same.each group q m in let number = own.number in let zone = own.zone in λ i. record { key = unwrap_or (number i) 0; zone = unwrap_or (zone i) 0 })
        (λ q m. let own = same.each group q m in let home = own.home in let chassis = same.chassis in λ i. is_reached_at arrived (chassis i) (home i))

    bound_same : (c : Name) → list_any (λ q. is_on c (home_of (config_of after) q)) (members before.net a group) ≡ list_any (λ q. is_on c (home_of (config_of before) q)) (members before.net a group)
    bound_same c =
        any_same (λ q. is_on c (home_of (config_of after) q)) (λ q. is_on c (home_of (config_of before) q)) (members before.net a group) (λ q m. ap (λ h. is_on c h) (same.each group q m).home)

    homes_same : homes_of after a group ≡ homes_of before a group
    homes_same =
        let chassis = same.chassis in
        ap (λ ms. filter (λ c. not (same_name c after.chassis) && list_any (λ q. is_on c (home_of (config_of after) q)) ms) after.all) (same.in_group group)
        ∙ (λ i. filter (λ c. not (same_name c (chassis i)) && bound_same c i) after.all)
        ∙ same.homes group

    groups_same : (dp : ℕ) → rows_of_group after a dp group ≡ rows_of_group before a dp group
    groups_same dp = λ i. group_rows dp group (homes_same i) (members_same false i) (members_same true i)

  keyed_groups : (o p : Switch) (number : Option ℕ) → switch_here after a (Some o) number ≡ switch_here before a (Some p) number
  keyed_groups o p None = refl
  keyed_groups o p (Some dp) = λ i. groups_same Flood dp i ++ groups_same Unknown dp i

  own_same : (o p : Option Switch) → at before.net.switches a ≡ p → is_some o ≡ is_some p → switch_here after a o (datapath_number after.keys a) ≡ switch_here before a p (datapath_number before.keys a)
  own_same None None is e = refl
  own_same None (Some p) is e = absurd (false≢true e)
  own_same (Some o) None is e = absurd (false≢true (sym e))
  own_same (Some o) (Some p) is e = ap (λ n. switch_here after a (Some o) n) (same.number p is) ∙ keyed_groups o p (datapath_number before.keys a)

  switch_here_same : rows_here after (unit.Switch a) ≡ rows_here before (unit.Switch a)
  switch_here_same = own_same (at after.net.switches a) (at before.net.switches a) refl same.entry

-- ---- all units

-- it is enough that this stays so for the units that aren't among those
pub only_these : (before after : Basis) (units : List FlowUnit) → ((a : Name) → (¬ Among (unit.Switch a) units) → IsSameSwitch before after a)
    → ((q : Name) → (¬ Among (unit.Port q) units) → IsSamePort before after q) → ((q : Name) → (¬ Among (unit.RouterPort q) units) → IsSameRouterPort before after q)
    → ChangeOnly units (around_rows before) (around_rows after)
only_these before after units switches ports router_ports = λ u out. by u out
  where
    by : (u : FlowUnit) → (¬ Among u units) → around_rows after u ≡ around_rows before u
    by unit.Common out = refl
    by (unit.Switch a) out = switch_here_same before after a (switches a out)
    by (unit.Port q) out = let all = port_around_same before after q (ports q out) in let own = port_here_same before after q (ports q out) in λ i. all i ++ own i
    by (unit.RouterPort q) out = router_port_same before after q (router_ports q out)

-- ---- the numbers of zones, where a port is bound

-- who isn't at home on a chassis has no number there
none_elsewhere : (zoned : Zoned) → IsZoned zoned → (c : Name) (zone : ZoneUse) → (¬ (home_for zoned.homes zone ≡ Some c)) → number_on zoned.numbers c zone ≡ None
none_elsewhere zoned hold c zone away = by (number_on zoned.numbers c zone) refl
  where
    by : (o : Option ℕ) → number_on zoned.numbers c zone ≡ o → number_on zoned.numbers c zone ≡ None
    by None is = is
    by (Some n) is = absurd (away ((hold.at_home c zone).1 (is_some_of (number_on zoned.numbers c zone) n is)))

abbrev bound_change : Name → Name → HomeChange
bound_change q home = record { ports = (q, Some home) ∷ []; routers = [] }

module _ (before after : Zoned) (q home : Name) (hold : IsZoned before) (rezoned : IsRezoned before (bound_change q home) after) where
  abbrev new_home : Name × Option Name
  new_home = (q, Some home)

  home_kept : (z : ZoneUse) → z ≢ zone_use.Port q → home_for after.homes z ≡ home_for before.homes z
  home_kept (zone_use.Port p) apart = rezoned.homes.ports.homes p ∙ ap (λ o. unwrap_or o (at before.homes.ports p)) (at_tail new_home [] p (λ same. apart (ap (λ n. zone_use.Port n) same)))
  home_kept (zone_use.Dnat r) apart = rezoned.homes.routers.homes r
  home_kept (zone_use.Snat r) apart = rezoned.homes.routers.homes r

  -- nothing takes the place of who stays
  stays_home : (c : Name) (z : ZoneUse) → home_for before.homes z ≡ Some c → stays_on before.homes (bound_change q home) c z ≡ true
  stays_home c z is = by z is
    where
      stays : (o : Option Name) → o ≡ Some c → (is_home_on o c && true) ≡ true
      stays o is = ap (λ o. is_home_on o c && true) is ∙ ap (λ b. b && true) ((bytes_decides c c).1 refl)

      by : (z : ZoneUse) → home_for before.homes z ≡ Some c → stays_on before.homes (bound_change q home) c z ≡ true
      by (zone_use.Port p) is = stays (at before.homes.ports p) is
      by (zone_use.Dnat r) is = stays (at before.homes.routers r) is
      by (zone_use.Snat r) is = stays (at before.homes.routers r) is

  module _ (z : ZoneUse) (apart : z ≢ zone_use.Port q) (c : Name) where
    neither : (¬ (home_for after.homes z ≡ Some c)) → number_on after.numbers c z ≡ number_on before.numbers c z
    neither away = none_elsewhere after rezoned.zoned c z away ∙ sym (none_elsewhere before hold c z (λ was. away (home_kept z apart ∙ was)))

    -- all other zones keep their numbers on each chassis
    pub number_kept : number_on after.numbers c z ≡ number_on before.numbers c z
    number_kept = by (home_for after.homes z) refl
      where
        by : (o : Option Name) → home_for after.homes z ≡ o → number_on after.numbers c z ≡ number_on before.numbers c z
        by None is = neither (λ has. none-some c (sym is ∙ has))
        by (Some h) is = elim (one_or_two h c) [
          | inl same ↦ let has = is ∙ ap (λ n. Some n) same in rezoned.stay c z has (stays_home c z (sym (home_kept z apart) ∙ has))
          | inr other ↦ neither (λ has. other (same_Some h c (sym is ∙ has)))
        ]
