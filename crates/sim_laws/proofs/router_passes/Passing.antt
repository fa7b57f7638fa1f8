-- A copy passes from one datapath into the next, by the passes that are left, whether routers translate or not.
use Rattle.std.specs.Prelude.{◌≡◌, ◌+◌, ℕ, zero, suc, [], ◌∷◌, Option, Some, None, refl}
use Rattle.std.proofs.Common.{ap, ◌∙◌, arith}
use Rattle.inet_packet.specs.declared.packet.Packet.{Packet}
use Rattle.inet_packet.specs.declared.regs.Reg.TheVariants as reg
use Rattle.nb_records.specs.Routers.{Partner, switch_side, router_side, partner_of_router_port}
use Rattle.net_model.specs.Entry.{Onward, Scene}
use Rattle.net_model.specs.Forwarding.{into_router}
use Rattle.net_model.specs.Trail.{Trail, Lists, Spot, spot_in_router}
use Rattle.net_model.specs.Visit.{passing, into_switch}
use Rattle.ovn_base.specs.declared.limits.TheConstants.{MAX_HOPS}
use Rattle.switch_engine.specs.Zones.{ZoneLists}
use Rattle.switch_engine.specs.declared.carried.Carried.{Carried}
use Rattle.sim_laws.proofs.passes.Ends.{ends_same}
use Rattle.sim_laws.proofs.pipelines.Pieces.{comes_then}
use Rattle.sim_laws.proofs.translating_stages.AnyWays.{ways_are}
use Rattle.sim_laws.specs.passes.ToEnd.{Never, EndsAs}
use Rattle.sim_laws.specs.pipelines.Pieces.{trail_with}
use Rattle.sim_laws.specs.pipelines.Standing.{net_of, course_of}
use Rattle.sim_laws.specs.pipelines.WalkOn.{Comes}
use Rattle.sim_laws.specs.routers.Passing.{PassingLaw, IntoSwitchLaw, IntoRouterLaw, JourneysPassLaw}
use Rattle.sim_laws.specs.routers.Patches.{IsEntering, HasPassed, into_next, PatchLaw}
use Rattle.sim_laws.specs.routers.RouterPass.{ComesToPatch, RouterPassLaw}
use Rattle.sim_laws.specs.routers.RouterStanding.{FirstRouterTableLaw}
use Rattle.sim_laws.specs.routers.RouterWays.{way_to_port, way_by_port, GoesOut, RouterIngressLaw}

-- ---- into a router

into_router_so : FirstRouterTableLaw → RouterIngressLaw → RouterPassLaw → (left : ℕ) → PassingLaw left → IntoRouterLaw left
into_router_so first_law in_law pass_law left passing_law s numbers around r p lists zones copy h so_many =
    ends_same s (λ t. way_to_port s r p (λ u x. way_by_port s x (λ v q. passing left s.scene (spot_in_router x.out) (partner_of_router_port (net_of s) x.out) v q) u) t) (λ t. into_router (passing left s.scene) s.scene r t p) lists
    (λ choices ends. ways_are s r p (passing left s.scene) (trail_with lists choices ends)) zones (copy ∷ [])
    (comes_then s (way_to_port s r p) (λ x rest t. way_by_port s x (λ v q. passing left s.scene (spot_in_router x.out) (partner_of_router_port (net_of s) x.out) v q) t) lists (GoesOut s r copy) Never zones (copy ∷ [])
    (in_law s around.laid r p lists zones copy (first_law s around.laid r h.there p h.whole lists zones h.hold copy h.in_table h.packet h.first))
    (λ after x last next goes.
    comes_then s (way_by_port s x) (λ q rest t. passing left s.scene (spot_in_router x.out) (partner_of_router_port (net_of s) x.out) t q) after (ComesToPatch s x next) Never last (next ∷ [])
    (pass_law s numbers around r h.here copy after x last next goes (goes.still.registers reg.Arrived refl ∙ h.arrived))
    (λ later q end out comes.
    passing_law s numbers around (spot_in_router x.out) (partner_of_router_port (net_of s) x.out) q later end out comes.stands (ap (λ n. n + left) (comes.passes ∙ goes.still.passes) ∙ so_many))))

-- ---- into the next datapath

-- what becomes of a packet at the partner
abbrev into_partner : Onward → Scene → Packet → Partner → Trail → Trail
into_partner onward s p (switch_side q) t = into_switch onward s q t p
into_partner onward s p (router_side r) t = into_router onward s r t p

passing_is : (s : Scene) (left : ℕ) (by : Spot) (partner : Option Partner) (p : Packet) (t : Trail) → into_next (suc left) by partner (λ u x. into_partner (passing left s) s p x u) t ≡ passing (suc left) s by partner t p
passing_is s left by None p t = refl
passing_is s left by (Some (switch_side q)) p t = refl
passing_is s left by (Some (router_side r)) p t = refl

stopping_is : (s : Scene) (by : Spot) (partner : Option Partner) (p : Packet) (t : Trail) → into_next zero by partner (λ u x. u) t ≡ passing zero s by partner t p
stopping_is s by None p t = refl
stopping_is s by (Some partner) p t = refl

-- where no pass is left
stops_so : PatchLaw → PassingLaw zero
stops_so law s numbers around by partner p lists zones copy h full =
    ends_same s (λ t. into_next zero by partner (λ u x. u) t) (λ t. passing zero s.scene by partner t p) lists (λ choices ends. stopping_is s.scene by partner p (trail_with lists choices ends)) zones (copy ∷ [])
    (comes_then s (into_next zero by partner) (λ x rest t. t) lists (HasPassed s p copy) Never zones (copy ∷ []) (law s numbers around by partner p lists zones copy h zero full)
    (λ after x last next passed. let once = passed.passes in let few = passed.few in absurd (omega (arith, full, once, few))))

-- where some are
passes_so : PatchLaw → (left : ℕ) → IntoSwitchLaw left → IntoRouterLaw left → PassingLaw (suc left)
passes_so law left switches routers s numbers around by partner p lists zones copy h so_many =
    ends_same s (λ t. into_next (suc left) by partner (λ u x. into_partner (passing left s.scene) s.scene p x u) t) (λ t. passing (suc left) s.scene by partner t p) lists
    (λ choices ends. passing_is s.scene left by partner p (trail_with lists choices ends)) zones (copy ∷ [])
    (comes_then s (into_next (suc left) by partner) (λ x rest t. into_partner (passing left s.scene) s.scene p x t) lists (HasPassed s p copy) Never zones (copy ∷ []) (law s numbers around by partner p lists zones copy h (suc left) so_many)
    (λ after x last next passed. let once = passed.passes in enters x after last next passed.enters (omega (arith, so_many, once))))
  where
    enters : (x : Partner) (after : Lists) (last : ZoneLists) (next : Carried) → IsEntering s x p after last next → next.passes + left ≡ MAX_HOPS
        → Comes (course_of s) last (next ∷ []) (EndsAs s (λ t. into_partner (passing left s.scene) s.scene p x t) after)
    enters (switch_side q) after last next is few = switches s numbers around q p after last next is few
    enters (router_side r) after last next is few = routers s numbers around r p after last next is few

-- so whatever passes are left
pub all_pass : FirstRouterTableLaw → RouterIngressLaw → RouterPassLaw → PatchLaw → JourneysPassLaw
all_pass first_law in_law pass_law law switches zero = stops_so law
all_pass first_law in_law pass_law law switches (suc left) =
    let before = all_pass first_law in_law pass_law law switches left in
    passes_so law left (switches left before) (into_router_so first_law in_law pass_law left before)
