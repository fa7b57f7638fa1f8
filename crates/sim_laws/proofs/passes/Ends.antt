-- Copies that come to their end, one piece of the way after another and one copy after another.
use Rattle.std.specs.Prelude.{◌≡◌, ◌++◌, List, [], ◌∷◌}
use Rattle.std.specs.List.{AllZip}
use Rattle.std.proofs.Common.{sym, ap, ◌∙◌, subst, append_assoc, append-nil, refl}
use Rattle.conn_table.specs.Picks.{Choice}
use Rattle.net_model.specs.Trail.{Trail, Lists, End}
use Rattle.switch_engine.specs.Outcome.{picks_in}
use Rattle.switch_engine.specs.Zones.{ZoneLists}
use Rattle.switch_engine.specs.declared.carried.Carried.{Carried}
use Rattle.switch_engine.specs.declared.effect.Effect.{Effect}
use Rattle.sim_laws.proofs.pipelines.Pieces.{picks_split, zip_append, comes_same}
use Rattle.sim_laws.proofs.pipelines.WalkOn.{comes_now}
use Rattle.sim_laws.specs.Naming.{IsNumbered}
use Rattle.sim_laws.specs.passes.ToEnd.{Never, EndsAs}
use Rattle.sim_laws.specs.pipelines.HeldLists.{HoldLists}
use Rattle.sim_laws.specs.pipelines.Pieces.{trail_with, Landing, goes_on, has_ended, landed, LandsAs}
use Rattle.sim_laws.specs.pipelines.Standing.{Chassis, course_of}
use Rattle.sim_laws.specs.pipelines.WalkOn.{Walks, Comes}

module _ (s : Chassis) where
  -- the way ends, and so does the copy
  pub ends_so : (way : Trail → Trail) (before after : Lists) (told : List Effect) (own : List End) (zones : ZoneLists) → AllZip (IsNumbered s.keys) own told → HoldLists s.number zones after
      → ((choices : List Choice) (ends : List End) → way (trail_with before (picks_in told ++ choices) ends) ≡ trail_with after choices (ends ++ own)) → EndsAs s way before told zones []
  ends_so way before after told own zones numbered hold is = record {
    own = own;
    numbered = numbered;
    landing = has_ended after;
    is = λ rest choices ends. is choices ends;
    lands = (refl, hold);
  }

  -- what it is that all copies have ended
  pub record Ended (way : Trail → Trail) (lists : Lists) (told : List Effect) (zones : ZoneLists) (copies : List Carried) : Type 0 where
    pub own : List End
    pub after : Lists
    pub numbered : AllZip (IsNumbered s.keys) own told
    pub is : (choices : List Choice) (ends : List End) → way (trail_with lists (picks_in told ++ choices) ends) ≡ trail_with after choices (ends ++ own)
    pub none : copies ≡ []
    pub hold : HoldLists s.number zones after

  pub ended : (way : Trail → Trail) (lists : Lists) (told : List Effect) (zones : ZoneLists) (copies : List Carried) → EndsAs s way lists told zones copies → Ended way lists told zones copies
  ended way lists told zones copies e = by e.own e.numbered e.landing e.is e.lands
    where
      by : (own : List End) → AllZip (IsNumbered s.keys) own told → (l : Landing ⊥)
          → ((rest : Trail → ⊥ → Trail) (choices : List Choice) (ends : List End) → way (trail_with lists (picks_in told ++ choices) ends) ≡ landed l rest choices (ends ++ own))
          → LandsAs s Never l zones copies → Ended way lists told zones copies
      by own numbered (goes_on after x) is lands = absurd x
      by own numbered (has_ended after) is lands = record {
        own = own;
        after = after;
        numbered = numbered;
        is = is (λ t x. absurd x);
        none = lands.0;
        hold = lands.1;
      }

  -- the way in other words
  pub ends_same : (one other : Trail → Trail) (lists : Lists) → ((choices : List Choice) (ends : List End) → one (trail_with lists choices ends) ≡ other (trail_with lists choices ends))
      → (zones : ZoneLists) (copies : List Carried) → Comes (course_of s) zones copies (EndsAs s one lists) → Comes (course_of s) zones copies (EndsAs s other lists)
  ends_same one other lists same zones copies comes = comes_same s (λ rest t. one t) (λ rest t. other t) lists Never (λ rest choices ends. same choices ends) zones copies comes

  -- of no copies nothing becomes
  pub ends_none : (lists : Lists) (zones : ZoneLists) → HoldLists s.number zones lists → Comes (course_of s) zones [] (EndsAs s (λ t. t) lists)
  ends_none lists zones hold = comes_now (course_of s) zones [] (EndsAs s (λ t. t) lists) (ends_so (λ t. t) lists lists [] [] zones tt hold (λ choices ends. ap (λ l. trail_with lists choices l) (sym (append-nil ends))))

  -- one copy goes its whole way before the others
  pub ends_then : (first : Trail → Trail) (second : Trail → Trail) (lists : Lists) (zones : ZoneLists) (copy : Carried) (copies : List Carried)
      → Comes (course_of s) zones (copy ∷ []) (EndsAs s first lists)
      → ((after : Lists) (last : ZoneLists) → HoldLists s.number last after → Comes (course_of s) last copies (EndsAs s second after))
      → Comes (course_of s) zones (copy ∷ copies) (EndsAs s (λ t. second (first t)) lists)
  ends_then first second lists zones copy copies begins goes = record {
    each = λ others steps all last walk.
        let f = begins.each (copies ++ others) steps all last walk in
        let a = ended first lists f.told f.zones f.copies f.so in
        let r = (goes a.after f.zones a.hold).each others f.steps f.more last (subst (λ l. Walks (course_of s) f.zones (l ++ (copies ++ others)) f.steps f.more last) a.none f.walk) in
        let b = ended second a.after r.told r.zones r.copies r.so in
        record {
          told = f.told ++ r.told;
          zones = r.zones;
          copies = r.copies;
          so = subst (λ l. EndsAs s (λ t. second (first t)) lists (f.told ++ r.told) r.zones l) (sym b.none) (ends_so (λ t. second (first t)) lists b.after (f.told ++ r.told) (a.own ++ b.own) r.zones
              (zip_append (IsNumbered s.keys) a.own b.own f.told r.told a.numbered b.numbered) b.hold
              (λ choices ends.
              ap (λ l. second (first (trail_with lists l ends))) (picks_split f.told r.told choices)
              ∙ ap second (a.is (picks_in r.told ++ choices) ends)
              ∙ b.is choices (ends ++ a.own)
              ∙ ap (λ l. trail_with b.after choices l) (append_assoc ends a.own b.own)));
          steps = r.steps;
          more = r.more;
          walk = r.walk;
          effects = f.effects ∙ ap (λ l. f.told ++ l) r.effects ∙ sym (append_assoc f.told r.told r.more);
        };
  }
