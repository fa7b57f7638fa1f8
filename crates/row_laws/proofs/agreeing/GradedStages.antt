-- Stages whose rows of one priority and rank have equal actions, whatever they match.
use Rattle.std.specs.Prelude.{◌≡◌, ◌++◌, ◌∷◌, [], ℕ, Bool, true, false, not, cond, nat_eq, List, map, flat_map}
use Rattle.std.specs.List.{AllByRecursion}
use Rattle.std.proofs.Common.{refl, sym, ap, ◌∙◌}
use Rattle.ovn_base.proofs.AmongLaws.{among_all}
use Rattle.ovn_base.specs.declared.address.Backend.{Backend}
use Rattle.ovn_base.specs.declared.name.Name.{Name}
use Rattle.flow_table.specs.declared.flow.Cause.TheVariants as cause
use Rattle.flow_table.specs.declared.flow.ZoneOf.TheVariants as zone
use Rattle.inet_packet.specs.declared.regs.Reg.TheVariants as reg
use Rattle.nb_records.specs.Network.{Network}
use Rattle.nb_records.specs.Switches.{has_some}
use Rattle.nb_records.specs.declared.balancer.LoadBalancer.{LoadBalancer}
use Rattle.nb_records.specs.declared.rule.Acl.{Acl}
use Rattle.nb_records.specs.declared.rule.RuleAction.{RuleAction}
use Rattle.nb_records.specs.declared.rule.RuleAction.TheVariants as action
use Rattle.nb_records.specs.declared.switch.SecurityEntry.{SecurityEntry}
use Rattle.nb_records.specs.declared.switch.SwitchPort.{SwitchPort}
use Rattle.logical_flows.specs.declared.action.Action.{Action}
use Rattle.logical_flows.specs.declared.action.Action.TheVariants as a
use Rattle.logical_flows.specs.declared.flow.LFlow.{LFlow}
use Rattle.logical_flows.specs.declared.stage.Stage.{Stage}
use Rattle.logical_flows.specs.declared.stage.Stage.TheVariants as stage
use Rattle.stage_rows.specs.Rows.{when, go_on}
use Rattle.stage_rows.specs.RuleRows.{rule_rank, verdict_number, rule_stage, rule_row}
use Rattle.stage_rows.specs.SwitchRows as switch
use Rattle.stage_rows.specs.Units.{switch_port_rows, rule_rows, balancer_rows, switch_rows, is_from_lport, is_to_lport}
use Rattle.row_laws.proofs.agreeing.TwoRows.{law_by, same_priority, same_rank}
use Rattle.row_laws.proofs.units.RowUnits.{SwitchRow, by_port, by_rule, by_balancer, by_switch}
use Rattle.row_laws.proofs.units.StageRows.{is_of_switches, rule_in, rule_out}
use Rattle.row_laws.specs.AgreeAnywhere.{AgreeAnywhereLaw}

-- what a row of a priority and a rank does
abbrev pub Told : Type 0
Told = ℕ → ℕ → List Action

abbrev pub IsTold : Told → LFlow → Type 0
IsTold f r = r.actions ≡ f r.priority r.rank

abbrev pub AreTold : Told → List LFlow → Type 0
AreTold f rows = AllByRecursion (IsTold f) rows

module _ (f : Told) where
  pub both : (xs ys : List LFlow) → AreTold f xs → AreTold f ys → AreTold f (xs ++ ys)
  both [] ys h k = k
  both (x ∷ xs) ys h k = (h.0, both xs ys h.1 k)

  pub each : {X : Type 0} (g : X → LFlow) → ((x : X) → IsTold f (g x)) → (xs : List X) → AreTold f (map g xs)
  each g h [] = tt
  each g h (x ∷ xs) = (h x, each g h xs)

  each_list : {X : Type 0} (g : X → List LFlow) → ((x : X) → AreTold f (g x)) → (xs : List X) → AreTold f (flat_map g xs)
  each_list g h [] = tt
  each_list g h (x ∷ xs) = both (g x) (flat_map g xs) (h x) (each_list g h xs)

  pub if_so : (b : Bool) (xs : List LFlow) → (b ≡ true → AreTold f xs) → AreTold f (when b xs)
  if_so true xs h = h refl
  if_so false xs h = tt

-- the rows of all units of the stage are so
record IsGraded (s : Stage) (f : Told) : Type 0 where
  ports : (net : Network) (q : SwitchPort) → AreTold f (switch_port_rows s net q)
  rules : (x : Acl) → AreTold f (rule_rows s x)
  balancers : (online : Backend → Bool) (d : Name) (x : LoadBalancer) → AreTold f (balancer_rows s online d x)
  switches : (stateful takes : Bool) → AreTold f (switch_rows s stateful takes)

by_grade : (s : Stage) → is_of_switches s ≡ true → (f : Told) → IsGraded s f → AgreeAnywhereLaw s
by_grade s of f graded = law_by s of (λ net d regs sight r q t first second.
    told net d r first ∙ (λ i. f (same_priority t i) (same_rank t i)) ∙ sym (told net d q second))
  where
    told : (net : Network) (d : Name) (r : LFlow) → SwitchRow net s d r → IsTold f r
    told net d r (by_port q port is on m) = among_all (IsTold f) r (switch_port_rows s net port) (graded.ports net port) m
    told net d r (by_rule x y is on m) = among_all (IsTold f) r (rule_rows s y) (graded.rules y) m
    told net d r (by_balancer x y is m) = among_all (IsTold f) r (balancer_rows s _ d y) (graded.balancers _ d y) m
    told net d r (by_switch m) = among_all (IsTold f) r (switch_rows s _ _) (graded.switches _ _) m

-- ---- s_admit, s_port_sec, s_track, s_track_out, s_sec_out

abbrev at_admit : Told
at_admit p k =
    cond (nat_eq p 120) (a.Drop cause.Disabled ∷ []) (cond (nat_eq p 110) (a.Drop cause.BadSource ∷ []) (cond (nat_eq p 100) (a.Drop cause.Vlan ∷ []) (go_on stage.SwitchAdmit ∷ [])))

pub admit_agrees : AgreeAnywhereLaw stage.SwitchAdmit
admit_agrees = by_grade stage.SwitchAdmit refl at_admit (record {
  ports = λ net q. if_so at_admit (not q.enabled) _ (λ h. (refl, tt));
  rules = λ x. tt;
  balancers = λ online d x. tt;
  switches = λ stateful takes. (refl, (refl, (refl, tt)));
})

abbrev at_port_security : Told
at_port_security p k =
    cond (nat_eq p 85) (a.Drop cause.PortSecurity ∷ []) (cond (nat_eq p 70) (a.Drop cause.PortSecurity ∷ []) (go_on stage.SwitchPortSecurity ∷ []))

may_enter : (q : SwitchPort) (x : SecurityEntry) → AreTold at_port_security (switch.entry_port_security q x)
may_enter q x = both at_port_security (map _ (switch.may_send x)) _ (each at_port_security _ (λ terms. refl) (switch.may_send x)) (refl, (refl, tt))

pub port_security_agrees : AgreeAnywhereLaw stage.SwitchPortSecurity
port_security_agrees = by_grade stage.SwitchPortSecurity refl at_port_security (record {
  ports = λ net q. both at_port_security (flat_map (switch.entry_port_security q) q.port_security) _ (each_list at_port_security (switch.entry_port_security q) (may_enter q) q.port_security)
      (if_so at_port_security (has_some q.port_security) _ (λ h. (refl, tt)));
  rules = λ x. tt;
  balancers = λ online d x. tt;
  switches = λ stateful takes. (refl, tt);
})

abbrev at_track : Told
at_track p k = cond (nat_eq p 100) (a.Find zone.In ∷ a.Set reg.Tracked 1 ∷ go_on stage.SwitchTrack ∷ []) (go_on stage.SwitchTrack ∷ [])

pub track_agrees : AgreeAnywhereLaw stage.SwitchTrack
track_agrees = by_grade stage.SwitchTrack refl at_track (record {
  ports = λ net q. if_so at_track (switch.tracks_port net q) _ (λ h. (refl, tt));
  rules = λ x. tt;
  balancers = λ online d x. tt;
  switches = λ stateful takes. (refl, tt);
})

abbrev at_track_out : Told
at_track_out p k =
    cond (nat_eq p 120) (a.Drop cause.Disabled ∷ []) (cond (nat_eq p 100) (a.Find zone.Out ∷ a.Set reg.Tracked 1 ∷ go_on stage.SwitchTrackOut ∷ []) (go_on stage.SwitchTrackOut ∷ []))

pub track_out_agrees : AgreeAnywhereLaw stage.SwitchTrackOut
track_out_agrees = by_grade stage.SwitchTrackOut refl at_track_out (record {
  ports = λ net q. both at_track_out (switch.port_disabled_out q) _ (if_so at_track_out (not q.enabled) _ (λ h. (refl, tt))) (if_so at_track_out (switch.tracks_port net q) _ (λ h. (refl, tt)));
  rules = λ x. tt;
  balancers = λ online d x. tt;
  switches = λ stateful takes. (refl, tt);
})

abbrev at_security_out : Told
at_security_out p k =
    cond (nat_eq p 75) (a.Drop cause.PortSecurity ∷ []) (cond (nat_eq p 60) (a.Drop cause.PortSecurity ∷ []) (go_on stage.SwitchSecurityOut ∷ []))

may_leave : (q : SwitchPort) (x : SecurityEntry) → AreTold at_security_out (switch.entry_security_out q x)
may_leave q x = both at_security_out (map _ (switch.may_get x)) _ (each at_security_out _ (λ terms. refl) (switch.may_get x)) (refl, (refl, tt))

pub security_out_agrees : AgreeAnywhereLaw stage.SwitchSecurityOut
security_out_agrees = by_grade stage.SwitchSecurityOut refl at_security_out (record {
  ports = λ net q. both at_security_out (flat_map (switch.entry_security_out q) q.port_security) _ (each_list at_security_out (switch.entry_security_out q) (may_leave q) q.port_security)
      (if_so at_security_out (has_some q.port_security) (switch.around_security_out q) (λ h. (refl, (refl, tt))));
  rules = λ x. tt;
  balancers = λ online d x. tt;
  switches = λ stateful takes. (refl, tt);
})

-- ---- s_acl_in, s_acl_out

-- the verdict of the rules of a rank
abbrev verdict_of_rank : ℕ → ℕ
verdict_of_rank k = cond (nat_eq k 6) 5 (cond (nat_eq k 5) 4 (cond (nat_eq k 4) 3 (cond (nat_eq k 3) 2 1)))

abbrev at_rules : Stage → Told
at_rules s p k = cond (nat_eq k 0) (go_on s ∷ []) (a.Set reg.Verdict (verdict_of_rank k) ∷ go_on s ∷ [])

rule_told : (s : Stage) (p : ℕ) (x : RuleAction) → (a.Set reg.Verdict (verdict_number x) ∷ go_on s ∷ []) ≡ at_rules s p (rule_rank x)
rule_told s p action.Allow = refl
rule_told s p action.AllowRelated = refl
rule_told s p action.AllowStateless = refl
rule_told s p action.Reject = refl
rule_told s p action.Drop = refl

one_rule : (s : Stage) (x : Acl) → rule_stage x.direction ≡ s → IsTold (at_rules s) (rule_row x)
one_rule s x e = ap (λ z. a.Set reg.Verdict (verdict_number x.action) ∷ go_on z ∷ []) e ∙ rule_told s (rule_row x).priority x.action

pub acl_in_agrees : AgreeAnywhereLaw stage.SwitchAclIn
acl_in_agrees = by_grade stage.SwitchAclIn refl (at_rules stage.SwitchAclIn) (record {
  ports = λ net q. tt;
  rules = λ x. if_so (at_rules stage.SwitchAclIn) (is_from_lport x.direction) (rule_row x ∷ []) (λ h. (one_rule stage.SwitchAclIn x (rule_in x.direction h), tt));
  balancers = λ online d x. tt;
  switches = λ stateful takes. (refl, tt);
})

pub acl_out_agrees : AgreeAnywhereLaw stage.SwitchAclOut
acl_out_agrees = by_grade stage.SwitchAclOut refl (at_rules stage.SwitchAclOut) (record {
  ports = λ net q. tt;
  rules = λ x. if_so (at_rules stage.SwitchAclOut) (is_to_lport x.direction) (rule_row x ∷ []) (λ h. (one_rule stage.SwitchAclOut x (rule_out x.direction h), tt));
  balancers = λ online d x. tt;
  switches = λ stateful takes. (refl, tt);
})
