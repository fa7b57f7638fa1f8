-- A way takes the choices that it needs, and leaves those behind them.
use Rattle.std.specs.Prelude.{◌≡◌, ◌++◌, Bool, true, false, List, Option, Some, None, refl}
use Rattle.std.proofs.Common.{ap, ◌∙◌}
use Rattle.conn_table.specs.Picks.{Choice}
use Rattle.flow_table.specs.declared.flow.Cause.{Cause}
use Rattle.inet_packet.specs.declared.packet.Packet.{Packet}
use Rattle.nb_records.specs.Routers.{Partner}
use Rattle.net_model.specs.Trail.{Trail, Spot, Point, goes, stops, then, finally, unless}

-- these choices stand behind those that are left
abbrev pub with_more : List Choice → Trail → Trail
with_more more t = record t { choices = t.choices ++ more }

abbrev pub point_with_more : List Choice → Point → Point
point_with_more more (goes t p) = goes (with_more more t) p
point_with_more more (stops t) = stops (with_more more t)

abbrev pub trail_at : Point → Trail
trail_at (goes t p) = t
trail_at (stops t) = t

-- From the first trail to the second all choices are legal only where they were before, and then the same way with more choices behind
-- leads to the third, which is the second with those.
abbrev pub TrailSpares : List Choice → Trail → Trail → Trail → Type 0
TrailSpares more t u v = u.legal ≡ true → (t.legal ≡ true) × (v ≡ with_more more u)

abbrev pub PointSpares : List Choice → Trail → Point → Point → Type 0
PointSpares more t a b = (trail_at a).legal ≡ true → (t.legal ≡ true) × (b ≡ point_with_more more a)

-- so it is from any trail
abbrev pub PieceSpares : (Trail → Packet → Point) → Type 0
PieceSpares f = (more : List Choice) (t : Trail) (p : Packet) → PointSpares more t (f t p) (f (with_more more t) p)

abbrev pub WaySpares : (Trail → Packet → Trail) → Type 0
WaySpares f = (more : List Choice) (t : Trail) (p : Packet) → TrailSpares more t (f t p) (f (with_more more t) p)

abbrev pub OnwardSpares : (Spot → Option Partner → Trail → Packet → Trail) → Type 0
OnwardSpares onward = (spot : Spot) (partner : Option Partner) → WaySpares (onward spot partner)

-- ---- one after another

pub then_spares : (f g : Trail → Packet → Point) → PieceSpares f → PieceSpares g → PieceSpares (λ t p. then (f t p) g)
then_spares f g h k more t p = by (f t p) (f (with_more more t) p) (h more t p)
  where
    by : (a b : Point) → PointSpares more t a b → PointSpares more t (then a g) (then b g)
    by (goes u q) b first = λ legal.
        let rest = k more u q legal in
        let before = first rest.0 in
        (before.0, ap (λ (c : Point). then c g) before.1 ∙ rest.1)
    by (stops u) b first = λ legal. let before = first legal in (before.0, ap (λ (c : Point). then c g) before.1)

pub finally_spares : (f : Trail → Packet → Point) (g : Trail → Packet → Trail) → PieceSpares f → WaySpares g → WaySpares (λ t p. finally (f t p) g)
finally_spares f g h k more t p = by (f t p) (f (with_more more t) p) (h more t p)
  where
    by : (a b : Point) → PointSpares more t a b → TrailSpares more t (finally a g) (finally b g)
    by (goes u q) b first = λ legal.
        let rest = k more u q legal in
        let before = first rest.0 in
        (before.0, ap (λ (c : Point). finally c g) before.1 ∙ rest.1)
    by (stops u) b first = λ legal. let before = first legal in (before.0, ap (λ (c : Point). finally c g) before.1)

-- a way after another way
pub on_spares : (f : Trail → Trail) (more : List Choice) (t u v : Trail) → ((s : Trail) → TrailSpares more s (f s) (f (with_more more s))) → TrailSpares more t u v → TrailSpares more t (f u) (f v)
on_spares f more t u v k first = λ legal.
    let rest = k u legal in
    let before = first rest.0 in
    (before.0, ap f before.1 ∙ rest.1)

pub unless_spares : (why : Option Cause) (spot : Spot) → PieceSpares (unless why spot)
unless_spares None spot more t p = λ legal. (legal, refl)
unless_spares (Some why) spot more t p = λ legal. (legal, refl)
