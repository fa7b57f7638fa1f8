-- Pieces of the way, one after another.
use Rattle.std.specs.Prelude.{◌≡◌, ◌++◌, List, [], ◌∷◌, refl}
use Rattle.std.specs.List.{AllZip}
use Rattle.std.proofs.Common.{sym, ap, ◌∙◌, subst, append-nil, append_assoc}
use Rattle.conn_table.specs.Picks.{Choice}
use Rattle.net_model.specs.Trail.{Trail, Lists, End, Point, goes, stops, then, finally}
use Rattle.inet_packet.specs.declared.packet.Packet.{Packet}
use Rattle.switch_engine.specs.Outcome.{pick_in, picks_in}
use Rattle.switch_engine.specs.Zones.{ZoneLists}
use Rattle.switch_engine.specs.declared.carried.Carried.{Carried}
use Rattle.switch_engine.specs.declared.effect.Effect.{Effect}
use Rattle.switch_engine.specs.declared.effect.Effect.TheVariants as effect
use Rattle.sim_laws.proofs.pipelines.WalkOn.{comes_now, comes_on, comes_as}
use Rattle.sim_laws.specs.Naming.{IsNumbered}
use Rattle.sim_laws.specs.pipelines.HeldLists.{HoldLists}
use Rattle.sim_laws.specs.pipelines.Pieces.{Piece, trail_with, Landing, goes_on, has_ended, landed, LandsAs, ComesTo}
use Rattle.sim_laws.specs.pipelines.Standing.{Chassis, course_of}
use Rattle.sim_laws.specs.pipelines.WalkOn.{Comes}

-- ---- lists of choices and of ends

pick_append : (e : Effect) (xs ys : List Choice) → pick_in e (xs ++ ys) ≡ pick_in e xs ++ ys
pick_append (effect.PickBackend vni vip backend) xs ys = refl
pick_append (effect.PickPort vni port) xs ys = refl
pick_append (effect.Out port packet) xs ys = refl
pick_append (effect.Frame chassis vni in_key out_key packet) xs ys = refl
pick_append (effect.Drop vni port cause) xs ys = refl
pick_append effect.Lost xs ys = refl

picks_append : (told more : List Effect) → picks_in (told ++ more) ≡ picks_in told ++ picks_in more
picks_append [] more = refl
picks_append (e ∷ told) more = ap (pick_in e) (picks_append told more) ∙ pick_append e (picks_in told) (picks_in more)

-- the choices that came first stand in front
pub picks_split : (told more : List Effect) (choices : List Choice) → picks_in (told ++ more) ++ choices ≡ picks_in told ++ (picks_in more ++ choices)
picks_split told more choices = ap (λ l. l ++ choices) (picks_append told more) ∙ append_assoc (picks_in told) (picks_in more) choices

pub zip_append : {A B : Type 0} (R : A → B → Type 0) (xs zs : List A) (ys ws : List B) → AllZip R xs ys → AllZip R zs ws → AllZip R (xs ++ zs) (ys ++ ws)
zip_append R [] zs [] ws h k = k
zip_append R [] zs (y ∷ ys) ws h k = absurd h
zip_append R (x ∷ xs) zs [] ws h k = absurd h
zip_append R (x ∷ xs) zs (y ∷ ys) ws h k = (h.0, zip_append R xs zs ys ws h.1 k)

-- ---- one piece after another

pub finally_then : (x : Point) (next : Trail → Packet → Point) (rest : Trail → Packet → Trail) → finally (then x next) rest ≡ finally x (λ t p. finally (next t p) rest)
finally_then (goes t p) next rest = refl
finally_then (stops t) next rest = refl

module _ (s : Chassis) where
  -- the piece in other words
  pub same_piece : {X : Type 0} (one other : Piece X) (lists : Lists) (Goes : Lists → X → ZoneLists → Carried → Type 0)
      → ((rest : Trail → X → Trail) (choices : List Choice) (ends : List End) → one rest (trail_with lists choices ends) ≡ other rest (trail_with lists choices ends))
      → (told : List Effect) (zones : ZoneLists) (copies : List Carried) → ComesTo s one lists Goes told zones copies → ComesTo s other lists Goes told zones copies
  same_piece one other lists Goes same told zones copies c = record {
    own = c.own;
    numbered = c.numbered;
    landing = c.landing;
    is = λ rest choices ends. sym (same rest (picks_in told ++ choices) ends) ∙ c.is rest choices ends;
    lands = c.lands;
  }

  pub comes_same : {X : Type 0} (one other : Piece X) (lists : Lists) (Goes : Lists → X → ZoneLists → Carried → Type 0)
      → ((rest : Trail → X → Trail) (choices : List Choice) (ends : List End) → one rest (trail_with lists choices ends) ≡ other rest (trail_with lists choices ends))
      → (zones : ZoneLists) (copies : List Carried) → Comes (course_of s) zones copies (ComesTo s one lists Goes) → Comes (course_of s) zones copies (ComesTo s other lists Goes)
  comes_same one other lists Goes same zones copies comes =
      comes_as (course_of s) zones copies (ComesTo s one lists Goes) (ComesTo s other lists Goes) (same_piece one other lists Goes same) comes

  -- the copy goes on as another word says too
  landed_as : {X : Type 0} (Goes Then : Lists → X → ZoneLists → Carried → Type 0) → ((after : Lists) (x : X) (last : ZoneLists) (next : Carried) → Goes after x last next → Then after x last next)
      → (l : Landing X) (last : ZoneLists) (copies : List Carried) → LandsAs s Goes l last copies → LandsAs s Then l last copies
  landed_as Goes Then each (goes_on after x) last copies lands = (lands.0, lands.1, each after x last lands.0 lands.2)
  landed_as Goes Then each (has_ended after) last copies lands = lands

  pub comes_goes : {X : Type 0} (piece : Piece X) (lists : Lists) (Goes Then : Lists → X → ZoneLists → Carried → Type 0)
      → ((after : Lists) (x : X) (last : ZoneLists) (next : Carried) → Goes after x last next → Then after x last next)
      → (zones : ZoneLists) (copies : List Carried) → Comes (course_of s) zones copies (ComesTo s piece lists Goes) → Comes (course_of s) zones copies (ComesTo s piece lists Then)
  comes_goes piece lists Goes Then each zones copies comes =
      comes_as (course_of s) zones copies (ComesTo s piece lists Goes) (ComesTo s piece lists Then)
      (λ told last left x. record { own = x.own; numbered = x.numbered; landing = x.landing; is = x.is; lands = landed_as Goes Then each x.landing last left x.lands }) comes

  module _ {X Y : Type 0} (first : Piece X) (second : X → Piece Y) (lists : Lists) (Goes : Lists → X → ZoneLists → Carried → Type 0) (Then : Lists → Y → ZoneLists → Carried → Type 0) where
    abbrev pub both : Piece Y
    both rest t = first (λ u x. second x rest u) t

    -- the packet ends in the first
    ended_first : (told : List Effect) (zones : ZoneLists) (copies : List Carried) (own : List End) (after : Lists) → AllZip (IsNumbered s.keys) own told
        → ((rest : Trail → X → Trail) (choices : List Choice) (ends : List End) → first rest (trail_with lists (picks_in told ++ choices) ends) ≡ trail_with after choices (ends ++ own))
        → (copies ≡ []) × HoldLists s.number zones after → ComesTo s both lists Then (told ++ []) zones copies
    ended_first told zones copies own after numbered is lands = record {
      own = own;
      numbered = subst (λ l. AllZip (IsNumbered s.keys) own l) (sym (append-nil told)) numbered;
      landing = has_ended after;
      is = λ rest choices ends. ap (λ l. both rest (trail_with lists (picks_in l ++ choices) ends)) (append-nil told) ∙ is (λ u x. second x rest u) choices ends;
      lands = lands;
    }

    -- it goes on, and through the second
    through_both : (told : List Effect) (own : List End) (after : Lists) (x : X) → AllZip (IsNumbered s.keys) own told
        → ((rest : Trail → X → Trail) (choices : List Choice) (ends : List End) → first rest (trail_with lists (picks_in told ++ choices) ends) ≡ rest (trail_with after choices (ends ++ own)) x)
        → (more : List Effect) (zones : ZoneLists) (copies : List Carried) → ComesTo s (second x) after Then more zones copies → ComesTo s both lists Then (told ++ more) zones copies
    through_both told own after x numbered is more zones copies c = record {
      own = own ++ c.own;
      numbered = zip_append (IsNumbered s.keys) own c.own told more numbered c.numbered;
      landing = c.landing;
      is = λ rest choices ends.
          ap (λ l. both rest (trail_with lists l ends)) (picks_split told more choices)
          ∙ is (λ u y. second y rest u) (picks_in more ++ choices) ends
          ∙ c.is rest choices (ends ++ own)
          ∙ ap (λ l. landed c.landing rest choices l) (append_assoc ends own c.own);
      lands = c.lands;
    }

    by_landing : ((after : Lists) (x : X) (zones : ZoneLists) (copy : Carried) → Goes after x zones copy → Comes (course_of s) zones (copy ∷ []) (ComesTo s (second x) after Then))
        → (told : List Effect) (zones : ZoneLists) (copies : List Carried) (own : List End) (landing : Landing X) → AllZip (IsNumbered s.keys) own told
        → ((rest : Trail → X → Trail) (choices : List Choice) (ends : List End) → first rest (trail_with lists (picks_in told ++ choices) ends) ≡ landed landing rest choices (ends ++ own))
        → LandsAs s Goes landing zones copies → Comes (course_of s) zones copies (λ more last left. ComesTo s both lists Then (told ++ more) last left)
    by_landing each told zones copies own (goes_on after x) numbered is lands =
        subst (λ l. Comes (course_of s) zones l (λ more last left. ComesTo s both lists Then (told ++ more) last left)) (sym lands.1)
        (comes_as (course_of s) zones (lands.0 ∷ []) (ComesTo s (second x) after Then) (λ more last left. ComesTo s both lists Then (told ++ more) last left)
        (through_both told own after x numbered is) (each after x zones lands.0 lands.2))
    by_landing each told zones copies own (has_ended after) numbered is lands =
        comes_now (course_of s) zones copies (λ more last left. ComesTo s both lists Then (told ++ more) last left) (ended_first told zones copies own after numbered is lands)

    pub comes_then : (zones : ZoneLists) (copies : List Carried) → Comes (course_of s) zones copies (ComesTo s first lists Goes)
        → ((after : Lists) (x : X) (zones : ZoneLists) (copy : Carried) → Goes after x zones copy → Comes (course_of s) zones (copy ∷ []) (ComesTo s (second x) after Then))
        → Comes (course_of s) zones copies (ComesTo s both lists Then)
    comes_then zones copies begins each =
        comes_on (course_of s) zones copies (ComesTo s first lists Goes) (ComesTo s both lists Then) begins
        (λ told middle left c. by_landing each told middle left c.own c.landing c.numbered c.is c.lands)
