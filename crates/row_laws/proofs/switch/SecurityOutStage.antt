-- s_sec_out drops exactly what no entry of the port's security lets it get.
use Rattle.std.specs.Prelude.{◌≡◌, ◌<◌, ◌∷◌, ◌++◌, [], ◌&&◌, ◌||◌, ℕ, Bool, true, false, not, cond, List, map, flat_map, Some, None}
use Rattle.std.specs.List.{list_all, list_any}
use Rattle.std.proofs.Common.{refl, sym, ap, ◌∙◌, subst, arith, inl, inr}
use Rattle.std.proofs.lemmas.Bool.{cases_Bool, and_parts, and_from, or_cases, or_left, or_right, or_from, false_from_ne_true, not_from_false}
use Rattle.ovn_base.proofs.AmongLaws.{among_cases, among_all, among_append, among_left, among_right, among_map, map_among, among_flat_map, flat_map_among, among_any, any_among}
use Rattle.ovn_base.specs.addresses.EtherAddress.{is_multicast_mac}
use Rattle.ovn_base.specs.declared.name.Name.{Name}
use Rattle.ovn_base.specs.lists.Among.{Among, here, there}
use Rattle.ovn_base.specs.names.ByName.{at}
use Rattle.flow_table.specs.declared.flow.Cause.TheVariants as cause
use Rattle.inet_packet.specs.declared.packet.Packet.{Packet}
use Rattle.inet_packet.specs.declared.regs.Regs.{Regs}
use Rattle.match_language.specs.declared.expr.Expr.{Expr}
use Rattle.match_language.specs.declared.expr.Expr.TheVariants as e
use Rattle.match_language.specs.declared.field.Field.TheVariants as f
use Rattle.match_language.specs.declared.field.Predicate.TheVariants as p
use Rattle.nb_records.specs.Grammar.{IsCidr, IsSecurityEntry}
use Rattle.nb_records.specs.Network.{Network}
use Rattle.nb_records.specs.Routers.{contains}
use Rattle.nb_records.specs.Switches.{same_mac, has_some}
use Rattle.nb_records.specs.declared.switch.SecurityEntry.{SecurityEntry}
use Rattle.nb_records.specs.declared.switch.SwitchPort.{SwitchPort}
use Rattle.logical_flows.specs.declared.action.Action.{Action}
use Rattle.logical_flows.specs.declared.action.Action.TheVariants as a
use Rattle.logical_flows.specs.declared.flow.LFlow.{LFlow}
use Rattle.logical_flows.specs.declared.stage.Pipeline.TheVariants.{Egress}
use Rattle.logical_flows.specs.declared.stage.Stage.TheVariants as stage
use Rattle.stage_rows.specs.Rows.{out_is, mac_is, ip_in, ip_in_some, drop_row, pass_row, base_row, go_on}
use Rattle.stage_rows.specs.SwitchRows.{group_ips, may_get, got_by, entry_security_out, around_security_out, port_security_out}
use Rattle.net_model.specs.Headers.{carries_ip4, dst_of, is_for_many}
use Rattle.net_model.specs.PortSecurity.{admits_ip, admits_to, may_leave}
use Rattle.net_model.specs.Sights.{roster_of, holds_at}
use Rattle.row_laws.proofs.terms.PacketTerms.{says_dst_in, says_for_many}
use Rattle.row_laws.proofs.switch.PortSecurityStage.{has_one}
use Rattle.row_laws.proofs.units.RowUnits.{SwitchRow, by_port, by_rule, by_balancer, by_switch, in_when, when_in}
use Rattle.row_laws.proofs.units.TakenRow.{IsTaken, among_one, its_unit, fields, taken_terms, no_port_above, exit_meant, exit_own}
use Rattle.row_laws.proofs.terms.Terms.{says_ip4, says_dst, says_mcast}
use Rattle.row_laws.proofs.records.ValidPorts.{in_grammar}
use Rattle.row_laws.specs.Copies.{Copy}
use Rattle.row_laws.specs.StageActions.{unless_dropped}
use Rattle.row_laws.specs.StageLaws.{StageLaw}

module _ (net : Network) (c : Copy) (regs : Regs) (r : LFlow) (t : IsTaken net stage.SwitchSecurityOut Egress c regs r) where
  abbrev packet : Packet
  packet = c.sight.packet

  abbrev says : Expr → Bool
  says x = holds_at (roster_of net) c.sight x

  abbrev many : Bool
  many = is_multicast_mac packet.dst

  -- ---- what an entry lets its Ethernet address get

  -- what the entry admits of a packet to its Ethernet address
  abbrev fine : SecurityEntry → Bool
  fine x = not (carries_ip4 packet) || (admits_ip x (dst_of packet) || is_for_many (dst_of packet))

  admitted : (x : SecurityEntry) → (admits_ip x (dst_of packet) || is_for_many (dst_of packet)) ≡ true → fine x ≡ true
  admitted x h = or_right (not (carries_ip4 packet)) (admits_ip x (dst_of packet) || is_for_many (dst_of packet)) h

  get_by_kind : (x : SecurityEntry) → IsSecurityEntry x → (b : Bool) → has_some x.ips ≡ b → (terms : List Expr)
      → Among terms (cond b (map (λ i. ip_in f.Ip4Dst i ∷ []) x.ips ++ (ip_in_some f.Ip4Dst group_ips ∷ []) ∷ []) ([] ∷ [])) → list_all says terms ≡ true → fine x ≡ true
  get_by_kind x ok false none terms m say = admitted x (or_left (admits_ip x (dst_of packet)) (is_for_many (dst_of packet)) (or_left (not (has_some x.ips)) (list_any (λ prefix. contains prefix (dst_of packet)) x.ips) (not_from_false (has_some x.ips) none)))
  get_by_kind x ok true some terms m say = elim (among_append terms (map (λ i. ip_in f.Ip4Dst i ∷ []) x.ips) ((ip_in_some f.Ip4Dst group_ips ∷ []) ∷ []) m) [
    | inl n ↦
        let i = map_among (λ i. ip_in f.Ip4Dst i ∷ []) terms x.ips n in
        let dst = and_parts (carries_ip4 packet) (contains i.0 (dst_of packet)) (sym (says_dst_in (roster_of net) c.sight (fields t) i.0 (among_all IsCidr i.0 x.ips ok i.1)) ∙ (and_parts (says (ip_in f.Ip4Dst i.0)) true (subst (λ xs. list_all says xs ≡ true) i.2 say)).0) in
        admitted x (or_left (admits_ip x (dst_of packet)) (is_for_many (dst_of packet)) (or_right (not (has_some x.ips)) (list_any (λ prefix. contains prefix (dst_of packet)) x.ips) (among_any (λ prefix. contains prefix (dst_of packet)) i.0 x.ips i.1 dst.1)))
    | inr n ↦
        let one = among_one terms (ip_in_some f.Ip4Dst group_ips ∷ []) n in
        let dst = and_parts (carries_ip4 packet) (is_for_many (dst_of packet)) (sym (says_for_many (roster_of net) c.sight (fields t)) ∙ (and_parts (says (ip_in_some f.Ip4Dst group_ips)) true (subst (λ xs. list_all says xs ≡ true) one say)).0) in
        admitted x (or_right (admits_ip x (dst_of packet)) (is_for_many (dst_of packet)) dst.1)
  ]

  -- and of an IPv4 packet that is admitted some terms hold
  record Gets (x : SecurityEntry) : Type 0 where
    terms : List Expr
    among : Among terms (may_get x)
    say : list_all says terms ≡ true

  gets_by_kind : (x : SecurityEntry) → IsSecurityEntry x → (b : Bool) → has_some x.ips ≡ b → carries_ip4 packet ≡ true → (admits_ip x (dst_of packet) || is_for_many (dst_of packet)) ≡ true → Gets x
  gets_by_kind x ok false none ip4 h = record {
    terms = [];
    among = subst (λ b. Among [] (cond b (map (λ i. ip_in f.Ip4Dst i ∷ []) x.ips ++ (ip_in_some f.Ip4Dst group_ips ∷ []) ∷ []) ([] ∷ []))) (sym none) here;
    say = refl;
  }
  gets_by_kind x ok true some ip4 h = elim (or_cases (admits_ip x (dst_of packet)) (is_for_many (dst_of packet)) h) [
    | inl own ↦
        let i = any_among (λ prefix. contains prefix (dst_of packet)) x.ips (ap (λ b. not b || list_any (λ prefix. contains prefix (dst_of packet)) x.ips) (sym some) ∙ own) in
        record {
          terms = ip_in f.Ip4Dst i.0 ∷ [];
          among = in_some' (ip_in f.Ip4Dst i.0 ∷ []) (among_left _ (map (λ i. ip_in f.Ip4Dst i ∷ []) x.ips) _ (among_map (λ i. ip_in f.Ip4Dst i ∷ []) i.0 x.ips i.1));
          say = and_from (says (ip_in f.Ip4Dst i.0)) true (says_dst_in (roster_of net) c.sight (fields t) i.0 (among_all IsCidr i.0 x.ips ok i.1) ∙ and_from (carries_ip4 packet) (contains i.0 (dst_of packet)) ip4 i.2) refl;
        }
    | inr all ↦ record {
      terms = ip_in_some f.Ip4Dst group_ips ∷ [];
      among = in_some' (ip_in_some f.Ip4Dst group_ips ∷ []) (among_right _ (map (λ i. ip_in f.Ip4Dst i ∷ []) x.ips) _ here);
      say = and_from (says (ip_in_some f.Ip4Dst group_ips)) true (says_for_many (roster_of net) c.sight (fields t) ∙ and_from (carries_ip4 packet) (is_for_many (dst_of packet)) ip4 all) refl;
    }
  ]
    where
      in_some' : (terms : List Expr) → Among terms (map (λ i. ip_in f.Ip4Dst i ∷ []) x.ips ++ (ip_in_some f.Ip4Dst group_ips ∷ []) ∷ []) → Among terms (may_get x)
      in_some' terms n = subst (λ b. Among terms (cond b (map (λ i. ip_in f.Ip4Dst i ∷ []) x.ips ++ (ip_in_some f.Ip4Dst group_ips ∷ []) ∷ []) ([] ∷ []))) (sym some) n

  -- ---- rows above

  sent : (x : SecurityEntry) (terms : List Expr) → same_mac x.mac packet.dst ≡ true → list_all says terms ≡ true → list_all says (got_by c.port x ++ terms) ≡ true
  sent x terms mac say =
      and_from (says (out_is c.port.name)) (says (mac_is f.EthDst x.mac) && list_all says terms) (exit_own t) (and_from (says (mac_is f.EthDst x.mac)) (list_all says terms) (says_dst (roster_of net) c.sight (fields t) x.mac ∙ mac) say)

  module _ (low : ℕ) (is : r.priority ≡ low) (x : SecurityEntry) (among : Among x c.port.port_security) (mac : same_mac x.mac packet.dst ≡ true) where
    among_rows : (row : LFlow) → Among row (entry_security_out c.port x) → Among row (port_security_out c.port)
    among_rows row m = among_left row (flat_map (entry_security_out c.port) c.port.port_security) _ (among_flat_map (entry_security_out c.port) x row c.port.port_security among m)

    abbrev get_row : List Expr → LFlow
    get_row terms = pass_row stage.SwitchSecurityOut 80 (got_by c.port x ++ terms)

    no_get_above : low < 80 → Gets x → ⊥
    no_get_above less s =
        no_port_above t low is 80 (got_by c.port x ++ s.terms) (go_on stage.SwitchSecurityOut ∷ []) less (sent x s.terms mac s.say) c.port.name c.port t.at_port.there refl
        (among_rows (get_row s.terms) (among_left (get_row s.terms) (map get_row (may_get x)) _ (among_map get_row s.terms (may_get x) s.among)))

    no_drop_above : low < 75 → carries_ip4 packet ≡ true → ⊥
    no_drop_above less ip4 =
        no_port_above t low is 75 (got_by c.port x ++ e.Is p.Ip4 ∷ []) (a.Drop cause.PortSecurity ∷ []) less
        (sent x (e.Is p.Ip4 ∷ []) mac (and_from (says (e.Is p.Ip4)) true (says_ip4 (roster_of net) c.sight (fields t) ∙ ip4) refl))
        c.port.name c.port t.at_port.there refl
        (among_rows (drop_row stage.SwitchSecurityOut 75 (got_by c.port x ++ e.Is p.Ip4 ∷ []) cause.PortSecurity) (among_right _ (map get_row (may_get x)) _ here))

    no_pass_above : low < 70 → ⊥
    no_pass_above less =
        no_port_above t low is 70 (got_by c.port x) (go_on stage.SwitchSecurityOut ∷ []) less (sent x [] mac refl) c.port.name c.port t.at_port.there refl
        (among_rows (pass_row stage.SwitchSecurityOut 70 (got_by c.port x)) (among_right _ (map get_row (may_get x)) _ (there here)))

  -- the rows around those of entries
  around : has_some c.port.port_security ≡ true → (row : LFlow) → Among row (around_security_out c.port) → Among row (port_security_out c.port)
  around some row m = among_right row (flat_map (entry_security_out c.port) c.port.port_security) _ (when_in row (has_some c.port.port_security) (around_security_out c.port) some m)

  single : (low : ℕ) → r.priority ≡ low → low < 90 → has_some c.port.port_security ≡ true → many ≡ false
  single low is less some = false_from_ne_true many (λ h.
      no_port_above t low is 90 (out_is c.port.name ∷ e.Is p.EthMcast ∷ []) (go_on stage.SwitchSecurityOut ∷ []) less
      (and_from (says (out_is c.port.name)) (says (e.Is p.EthMcast) && true) (exit_own t) (and_from (says (e.Is p.EthMcast)) true (says_mcast (roster_of net) c.sight ∙ h) refl))
      c.port.name c.port t.at_port.there refl (around some (pass_row stage.SwitchSecurityOut 90 (out_is c.port.name ∷ e.Is p.EthMcast ∷ [])) here))

  -- ---- whether some entry admits the packet

  abbrev done : Bool → List Action
  done leaves = unless_dropped stage.SwitchSecurityOut (cond (not leaves) (Some cause.PortSecurity) None)

  leaves : (x : SecurityEntry) → Among x c.port.port_security → same_mac x.mac packet.dst ≡ true → fine x ≡ true → may_leave c.port packet ≡ true
  leaves x m mac h = or_right (not (has_some c.port.port_security)) _ (or_right many _ (among_any (λ y. admits_to y packet) x c.port.port_security m (and_from (same_mac x.mac packet.dst) (fine x) mac h)))

  none_admits : has_some c.port.port_security ≡ true → many ≡ false → ((x : SecurityEntry) → Among x c.port.port_security → same_mac x.mac packet.dst ≡ true → fine x ≡ true → ⊥) → may_leave c.port packet ≡ false
  none_admits some one none =
      or_from (not (has_some c.port.port_security)) (many || list_any (λ y. admits_to y packet) c.port.port_security) (ap not some)
      (or_from many (list_any (λ y. admits_to y packet) c.port.port_security) one
      (false_from_ne_true (list_any (λ y. admits_to y packet) c.port.port_security) (λ h.
      let x = any_among (λ y. admits_to y packet) c.port.port_security h in
      let both = and_parts (same_mac x.0.mac packet.dst) (fine x.0) x.2 in
      none x.0 x.1 both.0 both.1)))

  -- ---- the rows

  module _ (q : Name) (port : SwitchPort) (found : at net.switch_ports q ≡ Some port) where
    -- the port is that of exit, and the packet is for the entry's Ethernet address
    record IsGot (x : SecurityEntry) (terms : List Expr) : Type 0 where
      own : port ≡ c.port
      mac : same_mac x.mac packet.dst ≡ true
      say : list_all says terms ≡ true

    is_got : (x : SecurityEntry) (terms : List Expr) → list_all says (got_by port x ++ terms) ≡ true → IsGot x terms
    is_got x terms h =
        let one = and_parts (says (out_is port.name)) (says (mac_is f.EthDst x.mac) && list_all says terms) h in
        let two = and_parts (says (mac_is f.EthDst x.mac)) (list_all says terms) one.1 in
        record { own = exit_meant t q port found one.0; mac = sym (says_dst (roster_of net) c.sight (fields t) x.mac) ∙ two.0; say = two.1 }

    entry_ok : (x : SecurityEntry) → Among x port.port_security → IsSecurityEntry x
    entry_ok x m = among_all IsSecurityEntry x port.port_security (in_grammar net t.valid q port found).port_security m

    moved : (x : SecurityEntry) → port ≡ c.port → Among x port.port_security → Among x c.port.port_security
    moved x own m = subst (λ (z : SwitchPort). Among x z.port_security) own m

    own_ok : port ≡ c.port → (x : SecurityEntry) → Among x c.port.port_security → IsSecurityEntry x
    own_ok own x m = entry_ok x (subst (λ (z : SwitchPort). Among x z.port_security) (sym own) m)

    gets_row : (x : SecurityEntry) → Among x port.port_security → (terms : List Expr) → Among terms (may_get x) → r ≡ pass_row stage.SwitchSecurityOut 80 (got_by port x ++ terms) → r.actions ≡ done (may_leave c.port packet)
    gets_row x m terms n e' =
        let s = is_got x terms (taken_terms t 80 (got_by port x ++ terms) (go_on stage.SwitchSecurityOut ∷ []) e') in
        ap (λ (z : LFlow). z.actions) e' ∙ ap done (sym (leaves x (moved x s.own m) s.mac (get_by_kind x (entry_ok x m) (has_some x.ips) refl terms n s.say)))

    drops_row : (x : SecurityEntry) → Among x port.port_security → r ≡ drop_row stage.SwitchSecurityOut 75 (got_by port x ++ e.Is p.Ip4 ∷ []) cause.PortSecurity → r.actions ≡ done (may_leave c.port packet)
    drops_row x m e' =
        let s = is_got x (e.Is p.Ip4 ∷ []) (taken_terms t 75 (got_by port x ++ e.Is p.Ip4 ∷ []) (a.Drop cause.PortSecurity ∷ []) e') in
        let ip4 = sym (says_ip4 (roster_of net) c.sight (fields t)) ∙ (and_parts (says (e.Is p.Ip4)) true s.say).0 in
        let is = ap (λ (z : LFlow). z.priority) e' in
        let some = has_one x c.port.port_security (moved x s.own m) in
        ap (λ (z : LFlow). z.actions) e'
        ∙ ap done (sym (none_admits some (single 75 is (omega arith) some) (λ y n mac h.
        no_get_above 75 is y n mac (omega arith) (gets_by_kind y (own_ok s.own y n) (has_some y.ips) refl ip4 (ap (λ b. not b || (admits_ip y (dst_of packet) || is_for_many (dst_of packet))) (sym ip4) ∙ h)))))

    passes_row : (x : SecurityEntry) → Among x port.port_security → r ≡ pass_row stage.SwitchSecurityOut 70 (got_by port x) → r.actions ≡ done (may_leave c.port packet)
    passes_row x m e' =
        let s = is_got x [] (taken_terms t 70 (got_by port x) (go_on stage.SwitchSecurityOut ∷ []) e') in
        let among = moved x s.own m in
        let ip4 = false_from_ne_true (carries_ip4 packet) (no_drop_above 70 (ap (λ (z : LFlow). z.priority) e') x among s.mac (omega arith)) in
        ap (λ (z : LFlow). z.actions) e' ∙ ap done (sym (leaves x among s.mac (or_left (not (carries_ip4 packet)) _ (not_from_false (carries_ip4 packet) ip4))))

    of_entry : (x : SecurityEntry) → Among x port.port_security → Among r (entry_security_out port x) → r.actions ≡ done (may_leave c.port packet)
    of_entry x m n = elim (among_append r (map (λ terms. pass_row stage.SwitchSecurityOut 80 (got_by port x ++ terms)) (may_get x)) _ n) [
      | inl k ↦ let terms = map_among (λ terms. pass_row stage.SwitchSecurityOut 80 (got_by port x ++ terms)) r (may_get x) k in gets_row x m terms.0 terms.1 terms.2
      | inr k ↦ elim (among_cases r _ _ k) [ inl e' ↦ drops_row x m e' | inr l ↦ passes_row x m (among_one r _ l) ]
    ]

    group_row : r ≡ pass_row stage.SwitchSecurityOut 90 (out_is port.name ∷ e.Is p.EthMcast ∷ []) → r.actions ≡ done (may_leave c.port packet)
    group_row e' =
        let both = and_parts (says (out_is port.name)) (says (e.Is p.EthMcast) && true) (taken_terms t 90 (out_is port.name ∷ e.Is p.EthMcast ∷ []) (go_on stage.SwitchSecurityOut ∷ []) e') in
        let h : many ≡ true = sym (says_mcast (roster_of net) c.sight) ∙ (and_parts (says (e.Is p.EthMcast)) true both.1).0 in
        ap (λ (z : LFlow). z.actions) e' ∙ ap done (sym (or_right (not (has_some c.port.port_security)) _ (or_left many _ h)))

    drops_others : has_some port.port_security ≡ true → r ≡ drop_row stage.SwitchSecurityOut 60 (out_is port.name ∷ []) cause.PortSecurity → r.actions ≡ done (may_leave c.port packet)
    drops_others some e' =
        let own : port ≡ c.port = exit_meant t q port found (and_parts (says (out_is port.name)) true (taken_terms t 60 (out_is port.name ∷ []) (a.Drop cause.PortSecurity ∷ []) e')).0 in
        let is = ap (λ (z : LFlow). z.priority) e' in
        let some' = sym (ap (λ (z : SwitchPort). has_some z.port_security) own) ∙ some in
        ap (λ (z : LFlow). z.actions) e' ∙ ap done (sym (none_admits some' (single 60 is (omega arith) some') (λ y n mac h. no_pass_above 60 is y n mac (omega arith))))

    of_port : Among r (port_security_out port) → r.actions ≡ done (may_leave c.port packet)
    of_port m = elim (among_append r (flat_map (entry_security_out port) port.port_security) _ m) [
      | inl n ↦ let x = flat_map_among (entry_security_out port) r port.port_security n in of_entry x.0 x.1 x.2
      | inr n ↦
          let k = in_when r (has_some port.port_security) (around_security_out port) n in
          elim (among_cases r _ _ k.1) [ inl e' ↦ group_row e' | inr l ↦ drops_others k.0 (among_one r _ l) ]
    ]

  secured : SwitchRow net stage.SwitchSecurityOut c.port.switch r → r.actions ≡ done (may_leave c.port packet)
  secured (by_port q port is on m) = of_port q port is m
  secured (by_rule x y is on m) = elim m [ ]
  secured (by_balancer x y is m) = elim m [ ]
  secured (by_switch m) =
      let e' = among_one r (base_row stage.SwitchSecurityOut) m in
      elim (cases_Bool (has_some c.port.port_security)) [
        | inl some ↦
            absurd (no_port_above t 0 (ap (λ (z : LFlow). z.priority) e') 60 (out_is c.port.name ∷ []) (a.Drop cause.PortSecurity ∷ []) (omega arith) (and_from (says (out_is c.port.name)) true (exit_own t) refl)
            c.port.name c.port t.at_port.there refl (around some (drop_row stage.SwitchSecurityOut 60 (out_is c.port.name ∷ []) cause.PortSecurity) (there here)))
        | inr none ↦ ap (λ (z : LFlow). z.actions) e' ∙ ap (λ b. done (not b || (many || list_any (λ y. admits_to y packet) c.port.port_security))) (sym none)
      ]

pub security_out_law : StageLaw stage.SwitchSecurityOut
security_out_law net valid c regs h r best =
    let t : IsTaken net stage.SwitchSecurityOut Egress c regs r = record { valid = valid; of = refl; at_port = h; best = best } in
    secured net c regs r t (its_unit t)
