-- The rows of a group from its ports, each placed once, are those from its members.
use Rattle.std.specs.Prelude.{◌≡◌, ℕ, Bool, true, false, ◌&&◌, cond, List, [], ◌∷◌, map, filter, Option, Some, None, unwrap_or, refl}
use Rattle.std.specs.List.{cons_option}
use Rattle.std.specs.Option.{option_map}
use Rattle.std.proofs.lemmas.Bool.{false≢true}
use mathlib.Core.Path.{sym, ap, ◌∙◌}
use Rattle.flow_table.specs.declared.flow.Member.{Member}
use Rattle.nb_records.specs.declared.switch.SwitchPort.{SwitchPort}
use Rattle.ovn_base.specs.declared.name.Name.{Name}
use Rattle.ovn_base.specs.names.ByName.{at}
use Rattle.net_model.specs.Config.{Home, nowhere, on, everywhere, home_if, home_of}
use Rattle.net_model.specs.declared.crossing.Group.{Group}
use Rattle.net_model.specs.declared.crossing.Group.TheVariants.{Flood, Unknown}
use Rattle.physical_flows.specs.Homes.{is_reached_at}
use Rattle.physical_flows.specs.declared.place.Placed.{Placed}
use Rattle.physical_flows.specs.PlacedList.{zone_here, placed_port, placed_among, is_in, is_reached_by, is_reached_in, placed_homes, placed_members, rows_placed}
use Rattle.physical_flows.specs.Stages.{Basis, config_of, zone_of}
use Rattle.physical_flows.specs.TableList.{group_rows, is_group_member, one_home, others_among}
use Rattle.physical_flows.proofs.Members.{is_record_in, group_among, home_named, here_among, bound_among, rows_among}

-- where what came out of a tunnel is reached, what enters there is
reached_here : (arrived : Bool) (c : Name) (h : Home) → is_reached_at arrived c h ≡ true → is_reached_at false c h ≡ true
reached_here false c h is = is
reached_here true c nowhere is = is
reached_here true c (on home) is = is
reached_here true c everywhere is = absurd (false≢true is)

module _ (b : Basis) (group : Group) where
  member_is : (g : Group) (e : Name × ℕ) (port : SwitchPort) → is_in g (placed_port b e port) ≡ is_group_member g port
  member_is Flood e port = refl
  member_is Unknown e port = refl

  -- ---- the homes of members

  pub same_homes : (ports : List (Name × ℕ)) → placed_homes group (placed_among b ports) ≡ bound_among b (group_among b group ports)
  same_homes [] = refl
  same_homes (e ∷ es) = by (at b.net.switch_ports e.0) refl (same_homes es)
    where
      by : (o : Option SwitchPort) → at b.net.switch_ports e.0 ≡ o → placed_homes group (placed_among b es) ≡ bound_among b (group_among b group es)
          → placed_homes group (cons_option (option_map (placed_port b e) o) (placed_among b es)) ≡ bound_among b (cond (is_record_in group o) (e ∷ group_among b group es) (group_among b group es))
      by None is rest = rest
      by (Some port) is rest = ap (λ t. cons_option (cond t (one_home (home_of (config_of b) port)) None) (placed_homes group (placed_among b es))) (member_is group e port) ∙ in_it (is_group_member group port)
        where
          in_it : (t : Bool) → cons_option (cond t (one_home (home_of (config_of b) port)) None) (placed_homes group (placed_among b es)) ≡ bound_among b (cond t (e ∷ group_among b group es) (group_among b group es))
          in_it true = λ i. cons_option (one_home (home_if (home_of (config_of b)) (sym is i))) (rest i)
          in_it false = rest

  -- ---- the members that are reached here

  module _ (arrived : Bool) where
    abbrev reached : List (Name × ℕ) → List (Name × ℕ)
    reached es = filter (λ e. is_reached_at arrived b.chassis (home_named b e.0)) es

    abbrev member : Name × ℕ → Member
    member e = record { key = e.1; zone = unwrap_or (zone_of b e.0) 0 }

    abbrev kept : List Placed → List Placed
    kept ps = filter (λ p. is_reached_in group arrived p) ps

    reached_is : (a : Bool) (e : Name × ℕ) (port : SwitchPort) → is_reached_by a (placed_port b e port) ≡ is_reached_at a b.chassis (home_of (config_of b) port)
    reached_is false e port = refl
    reached_is true e port = refl

    pub same_members : (ports : List (Name × ℕ)) → placed_members group arrived (placed_among b ports) ≡ here_among b arrived (group_among b group ports)
    same_members [] = refl
    same_members (e ∷ es) = by (at b.net.switch_ports e.0) refl (same_members es)
      where
        by : (o : Option SwitchPort) → at b.net.switch_ports e.0 ≡ o → placed_members group arrived (placed_among b es) ≡ here_among b arrived (group_among b group es)
            → placed_members group arrived (cons_option (option_map (placed_port b e) o) (placed_among b es)) ≡ here_among b arrived (cond (is_record_in group o) (e ∷ group_among b group es) (group_among b group es))
        by None is rest = rest
        by (Some port) is rest =
            (λ i. map (λ (p : Placed). p.member) (cond (member_is group e port i && reached_is arrived e port i) (placed_port b e port ∷ kept (placed_among b es)) (kept (placed_among b es))))
            ∙ in_it (is_group_member group port)
          where
            here_too : (t : Bool) → is_reached_at arrived b.chassis (home_of (config_of b) port) ≡ t
                → map (λ (p : Placed). p.member) (cond t (placed_port b e port ∷ kept (placed_among b es)) (kept (placed_among b es))) ≡ map member (cond t (e ∷ reached (group_among b group es)) (reached (group_among b group es)))
            here_too true is_reached =
                let there = reached_here arrived b.chassis (home_of (config_of b) port) is_reached in
                λ i. record { key = e.1; zone = zone_here b (there i) e.0 } ∷ rest i
            here_too false left = rest

            in_it : (t : Bool) → map (λ (p : Placed). p.member) (cond (t && is_reached_at arrived b.chassis (home_of (config_of b) port)) (placed_port b e port ∷ kept (placed_among b es)) (kept (placed_among b es)))
                ≡ here_among b arrived (cond t (e ∷ group_among b group es) (group_among b group es))
            in_it true =
                here_too (is_reached_at arrived b.chassis (home_of (config_of b) port)) refl
                ∙ (λ i. map member (cond (is_reached_at arrived b.chassis (home_if (home_of (config_of b)) (sym is i))) (e ∷ reached (group_among b group es)) (reached (group_among b group es))))
            in_it false = rest

  -- ---- the rows

  pub same_rows : (dp : ℕ) (ports : List (Name × ℕ)) → rows_placed b dp group (placed_among b ports) ≡ rows_among b dp group (group_among b group ports)
  same_rows dp ports = λ i. group_rows dp group (others_among b (same_homes ports i)) (same_members false ports i) (same_members true ports i)
