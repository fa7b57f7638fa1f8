-- Who is at home on a chassis.
use Rattle.std.specs.Prelude.{◌≡◌, ℕ, Bool, true, false, cond, Option, Some, None, is_some, refl}
use Rattle.std.proofs.Common.{sym, ap, ◌∙◌, subst, arith}
use Rattle.std.proofs.lemmas.Bool.{false≢true, and_parts}
use Rattle.nb_records.specs.declared.router.Router.{Router}
use Rattle.nb_records.specs.declared.router.RouterPort.{RouterPort}
use Rattle.net_model.specs.Config.{Config, Home, nowhere, on, everywhere, chassis_home, home_if, home_of_router, home_of_router_port, is_chassis, is_on, is_on_one, is_here}
use Rattle.net_model.specs.Forwarding.{is_translating, translates_if}
use Rattle.ovn_base.proofs.AmongLaws.{any_among}
use Rattle.ovn_base.specs.names.SameName.{same_name, bytes_decides}
use Rattle.ovn_base.specs.declared.name.Name.{Name}
use Rattle.ovn_base.specs.lists.Among.{Among}
use Rattle.ovn_base.specs.names.ByName.{at, IsByName}
use Rattle.physical_flows.proofs.HomedRouters.{router_homes_exact}
use Rattle.physical_flows.specs.Bindings.{router_homes}
use Rattle.physical_flows.specs.Homes.{is_reached_at}

-- ---- what is bound to the chassis is at home there

pub one_bound : (chassis : Name) (o : Option Name) → is_on chassis (home_if on o) ≡ true → o ≡ Some chassis
one_bound chassis None h = absurd (false≢true h)
one_bound chassis (Some home) h = ap (λ (n : Name). Some n) ((bytes_decides home chassis).0 h)

pub here_bound : (chassis : Name) (o : Option Name) → is_here chassis (home_if on o) ≡ true → o ≡ Some chassis
here_bound chassis None h = absurd (false≢true h)
here_bound chassis (Some home) h = ap (λ (n : Name). Some n) ((bytes_decides home chassis).0 h)

pub reached_bound : (arrived : Bool) (chassis : Name) (o : Option Name) → is_reached_at arrived chassis (home_if on o) ≡ true → o ≡ Some chassis
reached_bound false chassis o h = here_bound chassis o h
reached_bound true chassis o h = one_bound chassis o h

-- ---- one home

abbrev name_or : Name → Home → Name
name_or other nowhere = other
name_or other (on home) = home
name_or other everywhere = other

pub same_home : (home other : Name) → on home ≡ on other → home ≡ other
same_home home other e = ap (name_or home) e

pub not_everywhere : (home : Name) → on home ≡ everywhere → ⊥
not_everywhere home e = false≢true (sym (ap is_on_one e))

pub on_bound : (o : Option Name) (home : Name) → home_if on o ≡ on home → o ≡ Some home
on_bound None home e = absurd (false≢true (ap is_on_one e))
on_bound (Some n) home e = ap (λ (m : Name). Some m) (same_home n home e)

-- who is at home on the chassis is reached there
pub reached_on : (arrived : Bool) (chassis : Name) → is_reached_at arrived chassis (on chassis) ≡ true
reached_on false chassis = (bytes_decides chassis chassis).1 refl
reached_on true chassis = (bytes_decides chassis chassis).1 refl

-- who is reached is at home there, or everywhere
pub reached_here : (arrived : Bool) (chassis : Name) (home : Home) → is_reached_at arrived chassis home ≡ true → is_here chassis home ≡ true
reached_here false chassis home h = h
reached_here true chassis nowhere h = absurd (false≢true h)
reached_here true chassis (on home) h = h
reached_here true chassis everywhere h = refl

-- where nothing is at home, nothing is reached
pub never_reached : (arrived : Bool) (chassis : Name) → is_reached_at arrived chassis nowhere ≡ false
never_reached false chassis = refl
never_reached true chassis = refl

-- and what is at home on one chassis, on no other
pub only_reached : (arrived : Bool) (home chassis : Name) → is_reached_at arrived chassis (on home) ≡ true → home ≡ chassis
only_reached false home chassis h = (bytes_decides home chassis).0 h
only_reached true home chassis h = (bytes_decides home chassis).0 h

-- what is at home everywhere is reached where the packet did not come out of a tunnel
pub not_arrived : (arrived : Bool) (chassis : Name) → is_reached_at arrived chassis everywhere ≡ true → arrived ≡ false
not_arrived false chassis h = refl
not_arrived true chassis h = absurd (false≢true h)

pub reached_everywhere : (arrived : Bool) (chassis : Name) → ◌≡◌ {A = ℕ} (cond arrived 16 0) 0 → is_reached_at arrived chassis everywhere ≡ true
reached_everywhere false chassis h = refl
reached_everywhere true chassis h = absurd (omega (arith, h))

-- ---- routers

-- the home of a gateway router is a chassis that is there
pub home_there : (c : Config) (chassis : Option Name) (home : Name) → chassis_home c chassis ≡ on home → Among home c.chassis
home_there c None home e = absurd (not_everywhere home (sym e))
home_there c (Some own) home e = by (is_chassis c own) refl e
  where
    by : (b : Bool) → is_chassis c own ≡ b → cond b (on own) nowhere ≡ on home → Among home c.chassis
    by true is h = let f = any_among (λ n. same_name n own) c.chassis is in subst (λ n. Among n c.chassis) ((bytes_decides f.0 own).0 f.2 ∙ same_home own home h) f.1
    by false is h = absurd (false≢true (ap is_on_one h))

-- a router that translates and is at home on the chassis is a gateway router, at home there alone
pub translating_home : (c : Config) → IsByName c.net.routers → (chassis : Name) (r : RouterPort) → is_here chassis (home_of_router_port c r) ≡ true → is_translating c.net r ≡ true → at (router_homes c) r.router ≡ Some chassis
translating_home c sorted chassis r = by (at c.net.routers r.router) refl
  where
    lives : (own : Name) (b : Bool) → is_here chassis (cond b (on own) nowhere) ≡ true → cond b (on own) nowhere ≡ on chassis
    lives own true h = ap (λ (n : Name). on n) ((bytes_decides own chassis).0 h)
    lives own false h = absurd (false≢true h)

    gateway : (o : Option Name) → is_some o ≡ true → is_here chassis (chassis_home c o) ≡ true → chassis_home c o ≡ on chassis
    gateway None none h = absurd (false≢true none)
    gateway (Some own) some h = lives own (is_chassis c own) h

    by : (o : Option Router) → at c.net.routers r.router ≡ o → is_here chassis (home_if (home_of_router c) o) ≡ true → translates_if c.net o ≡ true → at (router_homes c) r.router ≡ Some chassis
    by None is h k = absurd (false≢true k)
    by (Some router) is h k =
        (router_homes_exact c sorted r.router chassis).1 (record { router = router; there = is; lives = gateway router.chassis (and_parts (is_some router.chassis) _ k).0 h })
