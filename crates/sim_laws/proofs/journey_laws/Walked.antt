-- A whole walk on a chassis, and the way of the packet in the network.
use Rattle.std.specs.Prelude.{◌≡◌, ◌++◌, ℕ, List, [], ◌∷◌, refl}
use Rattle.std.specs.List.{AllZip}
use Rattle.std.proofs.Common.{sym, ap, ◌∙◌, subst, inl, inr}
use Rattle.conn_table.specs.Picks.{Choice, to_backend, to_port}
use Rattle.inet_packet.specs.Whole.{IsWhole}
use Rattle.net_model.specs.Leads.{list_owners}
use Rattle.net_model.specs.Trail.{Trail, Lists, ListOwner, End, choices_in, crossing_in, crossings_in}
use Rattle.net_model.specs.declared.crossing.Crossing.{Crossing}
use Rattle.ovn_base.proofs.AmongLaws.{among_cases, among_none}
use Rattle.ovn_base.specs.lists.Among.{Among}
use Rattle.switch_engine.specs.Outcome.{picks_in}
use Rattle.switch_engine.specs.Zones.{ZoneLists}
use Rattle.switch_engine.specs.declared.carried.Carried.{Carried}
use Rattle.switch_engine.specs.declared.effect.Effect.{Effect}
use Rattle.switch_engine.specs.declared.walk.Step.{Step}
use Rattle.tunnel_keys.specs.Keys.{Keys}
use Rattle.sim_laws.proofs.EffectNames.{AreEndsOn}
use Rattle.sim_laws.proofs.journey_laws.Ways.{IsHere, WayOn}
use Rattle.sim_laws.proofs.passes.Ends.{ended}
use Rattle.sim_laws.specs.Naming.{IsNumbered}
use Rattle.sim_laws.specs.Naming.IsNumbered.{out, drop, frame, to_backend as names_backend, to_port as names_port, lost}
use Rattle.sim_laws.specs.passes.ToEnd.{EndsAs}
use Rattle.sim_laws.specs.passes.Whole.{WholeWalkLaw}
use Rattle.sim_laws.specs.pipelines.HeldLists.{list_there, HoldLists}
use Rattle.sim_laws.specs.pipelines.Pieces.{trail_with}
use Rattle.sim_laws.specs.pipelines.Standing.{Chassis, course_of}
use Rattle.sim_laws.specs.pipelines.WalkOn.{Walks, Comes}

-- the choices of which effects tell are those of which their ends tell
pub picks_named : (keys : Keys) (ends : List End) (effects : List Effect) → AllZip (IsNumbered keys) ends effects → picks_in effects ≡ choices_in ends
picks_named keys [] [] z = refl
picks_named keys [] (f ∷ fs) z = absurd z
picks_named keys (e ∷ es) [] z = absurd z
picks_named keys (e ∷ es) (f ∷ fs) z = by e f z.0 (picks_named keys es fs z.1)
  where
    by : (e : End) (f : Effect) → IsNumbered keys e f → picks_in fs ≡ choices_in es → picks_in (f ∷ fs) ≡ choices_in (e ∷ es)
    by _ _ out rest = rest
    by _ _ (drop d p) rest = rest
    by _ _ (frame whole) rest = rest
    by _ _ (names_backend {backend = b} d) rest = ap (λ (cs : List Choice). to_backend b ∷ cs) rest
    by _ _ (names_port {port = p} d) rest = ap (λ (cs : List Choice). to_port p ∷ cs) rest
    by _ _ lost rest = rest

-- what crosses is whole
crossing_whole : (keys : Keys) (ends : List End) (effects : List Effect) → AllZip (IsNumbered keys) ends effects → (x : Crossing) → Among x (crossings_in ends) → IsWhole x.packet
crossing_whole keys [] [] z x among = absurd (among_none x among)
crossing_whole keys [] (f ∷ fs) z x among = absurd z
crossing_whole keys (e ∷ es) [] z x among = absurd z
crossing_whole keys (e ∷ es) (f ∷ fs) z x among = by e f z.0 (crossing_whole keys es fs z.1 x) among
  where
    by : (e : End) (f : Effect) → IsNumbered keys e f → (Among x (crossings_in es) → IsWhole x.packet) → Among x (crossing_in e (crossings_in es)) → IsWhole x.packet
    by _ _ out rest m = rest m
    by _ _ (drop d p) rest m = rest m
    by _ _ (frame {x = y} whole) rest m = elim (among_cases x y (crossings_in es) m) [
      | inl same ↦ subst (λ (c : Crossing). IsWhole c.packet) (sym same) whole
      | inr later ↦ rest later
    ]
    by _ _ (names_backend d) rest m = rest m
    by _ _ (names_port d) rest m = rest m
    by _ _ lost rest m = rest m

module _ (s : Chassis) (n : ℕ) (Q : List Crossing → Type 0) where
  -- the way comes to these ends, which are told of the packet, and the zones hold the lists that it leaves
  pub record IsWalked (way : Trail → Trail) (lists : Lists) (effects : List Effect) (left : ZoneLists) : Type 0 where
    pub own : List End
    pub after : Lists
    pub numbered : AllZip (IsNumbered s.keys) own effects
    pub is : (choices : List Choice) (ends : List End) → way (trail_with lists (choices_in own ++ choices) ends) ≡ trail_with after choices (ends ++ own)
    pub hold : HoldLists s.number left after
    pub on : AreEndsOn s.scene.here n own
    pub crossings : Q (crossings_in own)
    pub others : (owner : ListOwner) → ¬ IsHere s.scene.config s.scene.here owner → list_there after owner ≡ list_there lists owner
    pub owners : list_owners after ≡ list_owners lists

  -- the way leaves such crossings, where their packets are whole
  pub record Leads (t u : Trail) : Type 0 where
    pub crossings : List Crossing
    pub such : ((x : Crossing) → Among x crossings → IsWhole x.packet) → Q crossings
    pub way : WayOn s.scene.config s.scene.here n crossings t u

  pub walked : WholeWalkLaw → (way : Trail → Trail) (lists : Lists) (held : ZoneLists) (copies : List Carried) → Comes (course_of s) held copies (EndsAs s way lists)
      → ((choices : List Choice) → Leads (trail_with lists choices []) (way (trail_with lists choices [])))
      → (steps : List Step) (effects : List Effect) (left : ZoneLists) → Walks (course_of s) held copies steps effects left → IsWalked way lists effects left
  walked law way lists held copies comes leads steps effects left walk =
      let e = ended s way lists effects left [] (law s way lists held copies comes steps effects left walk) in
      let first : Trail = trail_with lists (picks_in effects ++ []) [] in
      let is : way first ≡ trail_with e.after [] e.own = e.is [] [] in
      let w = leads (picks_in effects ++ []) in
      let same : w.way.more ≡ e.own = sym w.way.ends ∙ ap (λ (t : Trail). t.ends) is in
      let crossed : crossings_in e.own ≡ w.crossings = sym (ap crossings_in same) ∙ w.way.crossing in
      let picks = picks_named s.keys e.own effects e.numbered in
      record {
        own = e.own;
        after = e.after;
        numbered = e.numbered;
        is = λ choices ends. ap (λ (cs : List Choice). way (trail_with lists (cs ++ choices) ends)) (sym picks) ∙ e.is choices ends;
        hold = e.hold;
        on = subst (λ (es : List End). AreEndsOn s.scene.here n es) same w.way.on;
        crossings = subst Q (sym crossed) (w.such (λ x among. crossing_whole s.keys e.own effects e.numbered x (subst (λ (xs : List Crossing). Among x xs) (sym crossed) among)));
        others = λ owner away. ap (λ (t : Trail). list_there t.lists owner) (sym is) ∙ w.way.others owner away;
        owners = ap (λ (t : Trail). list_owners t.lists) (sym is) ∙ w.way.owners;
      }
