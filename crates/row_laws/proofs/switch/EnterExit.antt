-- The stages of a switch, one after another, let packets in and out as the model says.
use Rattle.std.specs.Prelude.{◌≡◌, Bool, true, false, List, [], ◌∷◌, Option, Some, None}
use Rattle.std.proofs.Common.{refl, ap, ◌∙◌}
use Rattle.conn_table.specs.Tracking.{Seen}
use Rattle.flow_table.specs.declared.flow.Cause.{Cause}
use Rattle.flow_table.specs.declared.flow.ZoneOf.{ZoneOf}
use Rattle.flow_table.specs.declared.flow.ZoneOf.TheVariants as zone
use Rattle.inet_packet.specs.declared.packet.Packet.{Packet}
use Rattle.nb_records.specs.declared.switch.SwitchPort.{SwitchPort}
use Rattle.logical_flows.specs.declared.stage.Stage.{Stage}
use Rattle.logical_flows.specs.declared.stage.Stage.TheVariants as stage
use Rattle.tunnel_keys.specs.declared.owner.Identity.{Identity}
use Rattle.net_model.specs.Entry.{Scene, sight_in, passage_in, admission, security_in, secure_in}
use Rattle.net_model.specs.Exit.{sight_out, passage_out, security_out, secure_out, judge_out, exit_denial}
use Rattle.net_model.specs.Tracking.{Passage, is_tracked, pass}
use Rattle.net_model.specs.Trail.{Trail, Spot, spot_of, Point, goes, stops, then, unless}
use Rattle.net_model.specs.Verdict.{Verdict, default, allow, allow_related, allow_stateless, reject, deny}
use Rattle.row_laws.proofs.switch.Passing.{then_goes, unless_done, passes}
use Rattle.row_laws.specs.Passages.{carried_out, seen_at}
use Rattle.row_laws.specs.StageActions.{track_actions, track_out_actions, verdict_actions}
use Rattle.row_laws.specs.Ways.{EnterLaw, ExitLaw, TargetLaw, through, through_all}

-- ---- one after another

then_same : (x : Point) (k l : Trail → Packet → Point) → ((t : Trail) (p : Packet) → k t p ≡ l t p) → then x k ≡ then x l
then_same (goes t p) k l same = same t p
then_same (stops t) k l same = refl

-- where nothing is done before there is a cause to drop the packet
unless_then : (o : Option Cause) (spot : Spot) (t : Trail) (p : Packet) (k l : Trail → Packet → Point) → k t p ≡ l t p → then (unless o spot t p) k ≡ then (unless o spot t p) l
unless_then None spot t p k l same = same
unless_then (Some why) spot t p k l same = refl

-- ---- stages that note something

module _ (g : Passage) (x : Seen) (t : Trail) (p : Packet) where
  track_done : (s : Stage) (z : ZoneOf) (b : Bool) → carried_out g x None t p (track_actions s z b) ≡ goes t p
  track_done s z true = refl
  track_done s z false = refl

  track_out_done : (b : Bool) (o : Option Cause) → carried_out g x None t p (track_out_actions o b) ≡ unless o (spot_of g.port) t p
  track_out_done true None = refl
  track_out_done false None = refl
  track_out_done b (Some why) = refl

  verdict_done : (s : Stage) (v : Verdict) → carried_out g x None t p (verdict_actions s v) ≡ goes t p
  verdict_done s default = refl
  verdict_done s allow = refl
  verdict_done s allow_related = refl
  verdict_done s allow_stateless = refl
  verdict_done s reject = refl
  verdict_done s deny = refl

-- ---- in

module _ (s : Scene) (i : SwitchPort) where
  abbrev after_in : List Stage → Trail → Packet → Point
  after_in = through_all (passage_in s i) (sight_in i)

  judged_in : (t : Trail) (p : Packet) → after_in (stage.SwitchTrack ∷ stage.SwitchAclIn ∷ stage.SwitchStateIn ∷ []) t p ≡ pass (passage_in s i p) t p
  judged_in t p =
      let g = passage_in s i p in
      ap (λ x. then x (after_in (stage.SwitchAclIn ∷ stage.SwitchStateIn ∷ []))) (track_done g (seen_at g t p) t p stage.SwitchTrack zone.In (is_tracked g.net i p))
      ∙ ap (λ x. then x (after_in (stage.SwitchStateIn ∷ []))) (verdict_done g (seen_at g t p) t p stage.SwitchAclIn g.verdict)
      ∙ then_goes (through g (sight_in i p) stage.SwitchStateIn t)
      ∙ passes g t (sight_in i p)

  secured_in : (t : Trail) (p : Packet) → after_in (stage.SwitchPortSecurity ∷ stage.SwitchTrack ∷ stage.SwitchAclIn ∷ stage.SwitchStateIn ∷ []) t p ≡ secure_in s i t p
  secured_in t p =
      let g = passage_in s i p in
      let later = after_in (stage.SwitchTrack ∷ stage.SwitchAclIn ∷ stage.SwitchStateIn ∷ []) in
      ap (λ x. then x later) (unless_done g t p stage.SwitchPortSecurity (seen_at g t p) (security_in i p))
      ∙ unless_then (security_in i p) (spot_of i) t p later (λ u q. pass (passage_in s i q) u q) (judged_in t p)

pub enters : EnterLaw
enters s i t p =
    let g = passage_in s i p in
    let later = after_in s i (stage.SwitchPortSecurity ∷ stage.SwitchTrack ∷ stage.SwitchAclIn ∷ stage.SwitchStateIn ∷ []) in
    ap (λ x. then x later) (unless_done g t p stage.SwitchAdmit (seen_at g t p) (admission i p))
    ∙ unless_then (admission i p) (spot_of i) t p later (secure_in s i) (secured_in s i t p)

-- ---- to its target

pub targets_same : TargetLaw
targets_same net i p = refl

-- ---- out

module _ (s : Scene) (came : Identity) (o : SwitchPort) where
  abbrev after_out : List Stage → Trail → Packet → Point
  after_out = through_all (passage_out s came o) (sight_out came o)

  secured_out : (t : Trail) (p : Packet) → after_out (stage.SwitchSecurityOut ∷ []) t p ≡ secure_out o t p
  secured_out t p =
      let g = passage_out s came o p in
      then_goes (through g (sight_out came o p) stage.SwitchSecurityOut t) ∙ unless_done g t p stage.SwitchSecurityOut (seen_at g t p) (security_out o p)

  judged_out : (t : Trail) (p : Packet) → after_out (stage.SwitchAclOut ∷ stage.SwitchStateOut ∷ stage.SwitchSecurityOut ∷ []) t p ≡ judge_out s came o t p
  judged_out t p =
      let g = passage_out s came o p in
      ap (λ x. then x (after_out (stage.SwitchStateOut ∷ stage.SwitchSecurityOut ∷ []))) (verdict_done g (seen_at g t p) t p stage.SwitchAclOut g.verdict)
      ∙ ap (λ x. then x (after_out (stage.SwitchSecurityOut ∷ []))) (passes g t (sight_out came o p))
      ∙ then_same (pass g t p) (after_out (stage.SwitchSecurityOut ∷ [])) (secure_out o) secured_out

pub exits : ExitLaw
exits s came o t p =
    let g = passage_out s came o p in
    let later = after_out s came o (stage.SwitchAclOut ∷ stage.SwitchStateOut ∷ stage.SwitchSecurityOut ∷ []) in
    ap (λ x. then x later) (track_out_done g (seen_at g t p) t p (is_tracked g.net o p) (exit_denial o))
    ∙ unless_then (exit_denial o) (spot_of o) t p later (judge_out s came o) (judged_out s came o t p)
