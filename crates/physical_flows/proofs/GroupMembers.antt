-- The members of a group of a switch, as entries of the network.
use Rattle.std.specs.Prelude.{◌≡◌, Bool, true, false, ◌&&◌, cond, List, [], ◌∷◌, filter, Some, refl}
use Rattle.std.specs.Map.{values_of}
use Rattle.std.proofs.lemmas.Bool.{false≢true}
use mathlib.Core.Path.{sym, ap, subst, ◌∙◌}
use Rattle.nb_records.specs.Network.{Network}
use Rattle.nb_records.specs.Switches.{takes_unknown}
use Rattle.nb_records.specs.declared.switch.SwitchPort.{SwitchPort}
use Rattle.net_model.specs.Targets.{members}
use Rattle.net_model.specs.declared.crossing.Group.{Group}
use Rattle.net_model.specs.declared.crossing.Group.TheVariants.{Flood, Unknown}
use Rattle.ovn_base.proofs.AmongLaws.{among_all, filter_among, map_among}
use Rattle.ovn_base.proofs.ByNameLaws.{among_at}
use Rattle.ovn_base.specs.declared.name.Name.{Name}
use Rattle.ovn_base.specs.lists.Among.{Among}
use Rattle.ovn_base.specs.names.ByName.{at, IsByName}
use Rattle.ovn_base.specs.names.SameName.{bytes_decides, same_name}
use Rattle.physical_flows.specs.Homes.{ArePortsNamed}
use Rattle.physical_flows.specs.TableList.{is_group_member}

-- ---- tests

pub and_first : (x y : Bool) → (x && y) ≡ true → x ≡ true
and_first true y e = refl
and_first false y e = absurd (false≢true e)

-- one test after another
filter_twice : {X : Type 0} (f g : X → Bool) (xs : List X) → filter f (filter g xs) ≡ filter (λ x. g x && f x) xs
filter_twice f g [] = refl
filter_twice f g (x ∷ xs) = by (g x) (filter_twice f g xs)
  where
    by : (b : Bool) → filter f (filter g xs) ≡ filter (λ y. g y && f y) xs → filter f (cond b (x ∷ filter g xs) (filter g xs)) ≡ cond (b && f x) (x ∷ filter (λ y. g y && f y) xs) (filter (λ y. g y && f y) xs)
    by true rest = ap (λ ys. cond (f x) (x ∷ ys) ys) rest
    by false rest = rest

-- the records that pass a test are those of the entries that do
values_kept : (test : SwitchPort → Bool) (es : List (Name × SwitchPort)) → filter test (values_of es) ≡ values_of (filter (λ e. test e.1) es)
values_kept test [] = refl
values_kept test (e ∷ es) = by (test e.1) (values_kept test es)
  where
    by : (b : Bool) → filter test (values_of es) ≡ values_of (filter (λ f. test f.1) es)
        → cond b (e.1 ∷ filter test (values_of es)) (filter test (values_of es)) ≡ values_of (cond b (e ∷ filter (λ f. test f.1) es) (filter (λ f. test f.1) es))
    by true rest = ap (λ ps. e.1 ∷ ps) rest
    by false rest = rest

-- ---- entries

-- the entry is a member's
abbrev pub of_group : Name → Group → Name × SwitchPort → Bool
of_group switch group e = same_name e.1.switch switch && is_group_member group e.1

abbrev pub entries_in : Network → Name → Group → List (Name × SwitchPort)
entries_in net switch group = filter (of_group switch group) net.switch_ports

pub members_entries : (net : Network) (switch : Name) (group : Group) → members net switch group ≡ values_of (entries_in net switch group)
members_entries net switch group = by group
  where
    flood : members net switch Flood ≡ values_of (entries_in net switch Flood)
    flood = filter_twice (λ q. q.enabled) (λ q. same_name q.switch switch) (values_of net.switch_ports) ∙ values_kept (λ q. same_name q.switch switch && q.enabled) net.switch_ports

    by : (group : Group) → members net switch group ≡ values_of (entries_in net switch group)
    by Flood = flood
    by Unknown =
        filter_twice (λ q. takes_unknown q.addresses) (λ q. q.enabled) (filter (λ q. same_name q.switch switch) (values_of net.switch_ports))
        ∙ filter_twice (λ q. q.enabled && takes_unknown q.addresses) (λ q. same_name q.switch switch) (values_of net.switch_ports)
        ∙ values_kept (λ q. same_name q.switch switch && (q.enabled && takes_unknown q.addresses)) net.switch_ports

module _ (net : Network) (sorted : IsByName net.switch_ports) (named : ArePortsNamed net) (switch : Name) (group : Group) where
  -- an entry of a member stands at its record's own name, and is of the switch
  pub entry_on : (e : Name × SwitchPort) → Among e (entries_in net switch group) → (at net.switch_ports e.0 ≡ Some e.1) × (e.1.name ≡ e.0) × (e.1.switch ≡ switch)
  entry_on e m =
      let f = filter_among (of_group switch group) e net.switch_ports m in (
        among_at e.0 e.1 net.switch_ports sorted f.0,
        among_all (λ (d : Name × SwitchPort). d.1.name ≡ d.0) e net.switch_ports named f.0,
        (bytes_decides e.1.switch switch).0 (and_first (same_name e.1.switch switch) (is_group_member group e.1) f.1),
      )

  -- a member has a record of its own name, and is of the switch
  pub member_on : (q : SwitchPort) → Among q (members net switch group) → (at net.switch_ports q.name ≡ Some q) × (q.switch ≡ switch)
  member_on q m =
      let r = map_among (λ (e : Name × SwitchPort). e.1) q (entries_in net switch group) (subst (λ (qs : List SwitchPort). Among q qs) (members_entries net switch group) m) in
      let on = entry_on r.0 r.1 in
      let name : q.name ≡ r.0.0 = ap (λ (p : SwitchPort). p.name) r.2 ∙ on.1 in
      (ap (λ n. at net.switch_ports n) name ∙ on.0 ∙ ap (λ p. Some p) (sym r.2), ap (λ (p : SwitchPort). p.switch) r.2 ∙ on.2)
