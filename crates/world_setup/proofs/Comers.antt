-- The gateway routers that come home, one after another.
use Rattle.std.specs.Prelude.{◌≡◌, ◌++◌, Bool, true, false, cond, List, [], ◌∷◌, Option, Some, None, is_none, option_map, refl}
use Rattle.std.specs.List.{cons_option, filter, filter_map}
use Rattle.std.proofs.Common.{sym, ap, ◌∙◌, append_assoc}
use Rattle.conn_zones.specs.Zoning.{KnownHomes}
use Rattle.nb_records.specs.declared.router.Router.{Router}
use Rattle.net_model.specs.Config.{Config, chassis_home, is_chassis, nowhere, on}
use Rattle.ovn_base.specs.declared.name.Name.{Name}
use Rattle.ovn_base.specs.names.ByName.{at}
use Rattle.physical_flows.specs.Bindings.{homed_router}
use Rattle.physical_flows.specs.TableList.{one_home}
use Rattle.sim_laws.specs.journeys.TurnedZones.{is_coming}
use Rattle.world_setup.specs.Homecoming.{chassis_among, comers_of, home_among}

module _ (before : KnownHomes) (config : Config) where
  -- those of these routers
  abbrev pub comers_in : List (Name × Router) → List (Name × Name)
  comers_in es = filter (is_coming before.routers) (filter_map (homed_router config) es)

  home_is : (given : Option Name) → one_home (chassis_home config given) ≡ chassis_among config.chassis given
  home_is None = refl
  home_is (Some home) = by (is_chassis config home)
    where
      by : (b : Bool) → one_home (cond b (on home) nowhere) ≡ cond b (Some home) None
      by true = refl
      by false = refl

  -- the first, and then the others
  first_comes : (name : Name) (home : Option Name) (others : List (Name × Name)) → filter (is_coming before.routers) (cons_option (option_map (λ (h : Name). (name, h)) home) others) ≡ comers_of before name home ++ filter (is_coming before.routers) others
  first_comes name None others = refl
  first_comes name (Some h) others = by (is_none (at before.routers name))
    where
      by : (b : Bool) → cond b ((name, h) ∷ filter (is_coming before.routers) others) (filter (is_coming before.routers) others) ≡ cond b ((name, h) ∷ []) [] ++ filter (is_coming before.routers) others
      by true = refl
      by false = refl

  first_in : (e : Name × Router) (es : List (Name × Router)) → comers_in (e ∷ es) ≡ comers_of before e.0 (home_among config.chassis e.1) ++ comers_in es
  first_in e es = ap (λ o. filter (is_coming before.routers) (cons_option (option_map (λ (h : Name). (e.0, h)) o) (filter_map (homed_router config) es))) (home_is e.1.chassis) ∙ first_comes e.0 (home_among config.chassis e.1) (filter_map (homed_router config) es)

  pub one_comer : (left rest : List (Name × Router)) (name : Name) (router : Router) (old new whole : List (Name × Name)) → old ++ comers_in left ≡ whole → left ≡ (name, router) ∷ rest
      → (home : Option Name) → home ≡ home_among config.chassis router → new ≡ old ++ comers_of before name home → new ++ comers_in rest ≡ whole
  one_comer left rest name router old new whole so_far steps home is added =
      ap (λ l. l ++ comers_in rest) (added ∙ ap (λ o. old ++ comers_of before name o) is) ∙ append_assoc old (comers_of before name (home_among config.chassis router)) (comers_in rest)
      ∙ ap (λ l. old ++ l) (sym (first_in (name, router) rest)) ∙ ap (λ l. old ++ comers_in l) (sym steps) ∙ so_far
