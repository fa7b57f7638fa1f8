-- r_snat: of the rows of NAT that hold a source one has the prefix of a length.
use Rattle.std.specs.Prelude.{◌≡◌, ◌+◌, ◌∷◌, [], ℕ, true, List, Some}
use Rattle.std.proofs.Common.{refl, sym, ap, ◌∙◌, subst, arith, inl, inr}
use Rattle.std.proofs.lemmas.Bool.{and_parts}
use Rattle.ovn_base.proofs.AmongLaws.{among_all, among_cases}
use Rattle.ovn_base.specs.declared.name.Name.{Name}
use Rattle.ovn_base.specs.lists.Among.{here}
use Rattle.ovn_base.specs.names.ByName.{at}
use Rattle.flow_table.specs.declared.flow.Cause.TheVariants as cause
use Rattle.flow_table.specs.declared.flow.ZoneOf.TheVariants as zone
use Rattle.inet_packet.specs.declared.regs.Reg.TheVariants as reg
use Rattle.inet_packet.specs.declared.regs.Regs.{Regs}
use Rattle.match_language.specs.declared.field.Field.TheVariants as f
use Rattle.nb_records.specs.Network.{Network}
use Rattle.nb_records.specs.Routers.{contains, translates_sources}
use Rattle.nb_records.specs.declared.router.Nat.{Nat}
use Rattle.logical_flows.specs.declared.action.Action.{Action}
use Rattle.logical_flows.specs.declared.action.Action.TheVariants as a
use Rattle.logical_flows.specs.declared.flow.LFlow.{LFlow}
use Rattle.logical_flows.specs.declared.flow.RegIs.{RegIs}
use Rattle.logical_flows.specs.declared.stage.Stage.TheVariants as stage
use Rattle.stage_rows.specs.NatRows.{nat_snat}
use Rattle.stage_rows.specs.RouterRows.{router_snat}
use Rattle.stage_rows.specs.Rows.{is_new, is_invalid, ip_in, go_on, tracked_row}
use Rattle.flow_lowering.specs.Registers.{reg_number}
use Rattle.net_model.specs.Headers.{carries_ip4, src_of}
use Rattle.net_model.specs.Sights.{Sight}
use Rattle.row_laws.proofs.agreeing.TwoRouterRows.{AreTakenThere, same_priority}
use Rattle.row_laws.proofs.records.NatHolders.{nat_ok, one_source}
use Rattle.row_laws.proofs.records.OnePrefix.{one_prefix}
use Rattle.row_laws.proofs.routers.RouterUnits.{RouterRow, by_port, by_route, by_neighbour, by_nat, by_balancer, by_router}
use Rattle.row_laws.proofs.terms.PacketTerms.{says_src_in}
use Rattle.row_laws.proofs.translating.AnyRows.{any_law_by}
use Rattle.row_laws.proofs.units.RowUnits.{in_when}
use Rattle.row_laws.proofs.units.TakenRow.{among_one}
use Rattle.row_laws.specs.AgreeTranslating.{AnyRouterAgreesAnywhereLaw}
use Rattle.row_laws.specs.Rows.{RowHolds}
use Rattle.row_laws.specs.routers.RouterCopies.{router_roster}

-- the rows of a row of NAT, for a connection that begins and for what can begin none
abbrev pub snat_by : Nat → RegIs → List Action → LFlow
snat_by x state actions = tracked_row stage.RouterSnat (100 + x.logical_ip.len) (state ∷ []) (ip_in f.Ip4Src x.logical_ip ∷ []) actions

abbrev pub begins_by : Nat → List Action
begins_by x = a.Snat zone.Snat x.external_ip ∷ go_on stage.RouterSnat ∷ []

abbrev pub refuses_by : List Action
refuses_by = a.Drop cause.Invalid ∷ []

module _ (net : Network) (d : Name) (regs : Regs) (sight : Sight) (r q : LFlow) (t : AreTakenThere net stage.RouterSnat d regs sight r q) where
  abbrev Holds : LFlow → Type 0
  Holds row = RowHolds (router_roster net) regs sight row

  -- a row of NAT of the router that holds the source
  record IsNatFor (nat : Nat) (priority : ℕ) : Type 0 where
    name : Name
    there' : at net.nats name ≡ Some nat
    on : nat.router ≡ d
    translates' : translates_sources nat.kind ≡ true
    from : contains nat.logical_ip (src_of sight.packet) ≡ true
    is_at : priority ≡ 100 + nat.logical_ip.len

  data Kind (row : LFlow) : Type 0 where
    known : row.priority ≡ 200 → row.actions ≡ a.Touch ∷ a.Translate ∷ go_on stage.RouterSnat ∷ [] → Kind row
    begins : (x : Nat) → IsNatFor x row.priority → reg_number reg.State regs ≡ 1 → row.actions ≡ begins_by x → Kind row
    refuses : (x : Nat) → IsNatFor x row.priority → reg_number reg.State regs ≡ 4 → row.actions ≡ refuses_by → Kind row
    passes : row.priority ≡ 0 → row.actions ≡ go_on stage.RouterSnat ∷ [] → Kind row

  -- ---- of which kind a row is

  nat_for : (row : LFlow) → Holds row → (name : Name) (x : Nat) → at net.nats name ≡ Some x → x.router ≡ d → translates_sources x.kind ≡ true → (state : RegIs) (actions : List Action) → row ≡ snat_by x state actions → IsNatFor x row.priority
  nat_for row holds name x is on translates' state actions e =
      let own : Holds (snat_by x state actions) = subst (λ (z : LFlow). Holds z) e holds in
      let ok = (nat_ok net t.valid name x is).logical_ip in
      record {
        name = name;
        there' = is;
        on = on;
        translates' = translates';
        from = (and_parts (carries_ip4 sight.packet) (contains x.logical_ip (src_of sight.packet)) (sym (says_src_in (router_roster net) sight t.fields x.logical_ip ok) ∙ own.matching)).1;
        is_at = ap (λ (z : LFlow). z.priority) e;
      }

  state_is : (row : LFlow) → Holds row → (x : Nat) (state : RegIs) (actions : List Action) → row ≡ snat_by x state actions → reg_number state.reg regs ≡ state.value
  state_is row holds x state actions e = let own : Holds (snat_by x state actions) = subst (λ (z : LFlow). Holds z) e holds in own.registers state here

  kind : (row : LFlow) → Holds row → RouterRow net stage.RouterSnat d row → Kind row
  kind row holds (by_port name port is on m) = elim m [ ]
  kind row holds (by_route name x is on m) = elim m [ ]
  kind row holds (by_neighbour name port is on ip mac mac_is m) = elim m [ ]
  kind row holds (by_nat name x is on m) =
      let k = in_when row (translates_sources x.kind) (nat_snat x) m in
      elim (among_cases row (snat_by x is_new (begins_by x)) (snat_by x is_invalid refuses_by ∷ []) k.1) [
        | inl e ↦ begins x (nat_for row holds name x is on k.0 is_new (begins_by x) e) (state_is row holds x is_new (begins_by x) e) (ap (λ (z : LFlow). z.actions) e)
        | inr n ↦
            let e : row ≡ snat_by x is_invalid refuses_by = among_one row (snat_by x is_invalid refuses_by) n in
            refuses x (nat_for row holds name x is on k.0 is_invalid refuses_by e) (state_is row holds x is_invalid refuses_by e) (ap (λ (z : LFlow). z.actions) e)
      ]
  kind row holds (by_balancer name x is m) = elim m [ ]
  kind row holds (by_router x is m) = among_all Kind row router_snat (known refl refl, (passes refl refl, tt)) m

  -- ---- two of a kind

  one_nat_for : (x y : Nat) → IsNatFor x r.priority → IsNatFor y q.priority → x ≡ y
  one_nat_for x y h k =
      let at_one = h.is_at in
      let at_other = k.is_at in
      let same = same_priority t in
      let len : x.logical_ip.len ≡ y.logical_ip.len = omega (arith, same, at_one, at_other) in
      one_source net t.valid h.name k.name x y h.there' k.there' (h.on ∙ sym k.on) h.translates' k.translates'
      (one_prefix x.logical_ip y.logical_ip (src_of sight.packet) len h.from k.from) (one_prefix y.logical_ip x.logical_ip (src_of sight.packet) (sym len) k.from h.from)

  -- a row of NAT has its own priorities
  below_known : (n : ℕ) (x : Nat) → IsNatFor x n → n ≡ 200 → ⊥
  below_known n x h e = let is = h.is_at in let short = (nat_ok net t.valid h.name x h.there').logical_ip.1 in omega (arith, e, is, short)

  above_base : (n : ℕ) (x : Nat) → IsNatFor x n → n ≡ 0 → ⊥
  above_base n x h e = let is = h.is_at in omega (arith, e, is)

  agree : Kind r → Kind q → r.actions ≡ q.actions
  agree (known h k) (known l m) = k ∙ sym m
  agree (begins x f h k) (begins y g l m) = k ∙ ap begins_by (one_nat_for x y f g) ∙ sym m
  agree (refuses x f h k) (refuses y g l m) = k ∙ sym m
  agree (passes h k) (passes l m) = k ∙ sym m
  agree (begins x f h k) (refuses y g l m) = absurd (omega (arith, h, l))
  agree (refuses x f h k) (begins y g l m) = absurd (omega (arith, h, l))
  agree (known h k) (begins y g l m) = absurd (below_known q.priority y g (sym (same_priority t) ∙ h))
  agree (known h k) (refuses y g l m) = absurd (below_known q.priority y g (sym (same_priority t) ∙ h))
  agree (begins x f h k) (known l m) = absurd (below_known r.priority x f (same_priority t ∙ l))
  agree (refuses x f h k) (known l m) = absurd (below_known r.priority x f (same_priority t ∙ l))
  agree (passes h k) (begins y g l m) = absurd (above_base q.priority y g (sym (same_priority t) ∙ h))
  agree (passes h k) (refuses y g l m) = absurd (above_base q.priority y g (sym (same_priority t) ∙ h))
  agree (begins x f h k) (passes l m) = absurd (above_base r.priority x f (same_priority t ∙ l))
  agree (refuses x f h k) (passes l m) = absurd (above_base r.priority x f (same_priority t ∙ l))
  agree (known h k) (passes l m) = let same = same_priority t in absurd (omega (arith, same, h, l))
  agree (passes h k) (known l m) = let same = same_priority t in absurd (omega (arith, same, h, l))

  decided : RouterRow net stage.RouterSnat d r → RouterRow net stage.RouterSnat d q → r.actions ≡ q.actions
  decided first second = agree (kind r t.first.holds_here first) (kind q t.second.holds_here second)

pub any_snat_agrees : AnyRouterAgreesAnywhereLaw stage.RouterSnat
any_snat_agrees = any_law_by stage.RouterSnat refl decided
