-- s_port_sec drops exactly what no entry of the port's security admits.
use Rattle.std.specs.Prelude.{◌≡◌, ◌<◌, ◌∷◌, ◌++◌, [], ◌==◌, ◌&&◌, ◌||◌, ℕ, Bool, true, false, not, cond, List, map, flat_map, Some, None}
use Rattle.std.specs.List.{list_all, list_any}
use Rattle.std.proofs.Common.{refl, sym, ap, ◌∙◌, subst, arith, inl, inr}
use Rattle.std.proofs.lemmas.Bool.{cases_Bool, and_parts, and_from, or_cases, or_left, or_right, or_from, false_from_ne_true, not_from_false}
use Rattle.ovn_base.proofs.AmongLaws.{among_cases, among_all, among_append, among_left, among_right, among_map, map_among, among_flat_map, flat_map_among, among_any, any_among}
use Rattle.ovn_base.specs.declared.address.Cidr.{Cidr}
use Rattle.ovn_base.specs.declared.name.Name.{Name}
use Rattle.ovn_base.specs.lists.Among.{Among, here, there}
use Rattle.ovn_base.specs.names.ByName.{at}
use Rattle.flow_table.specs.declared.flow.Cause.TheVariants as cause
use Rattle.inet_packet.specs.Fields as field
use Rattle.inet_packet.specs.declared.packet.Packet.{Packet}
use Rattle.inet_packet.specs.declared.regs.Regs.{Regs}
use Rattle.match_language.specs.declared.expr.Expr.{Expr}
use Rattle.match_language.specs.declared.expr.Expr.TheVariants as e
use Rattle.match_language.specs.declared.field.Field.TheVariants as f
use Rattle.match_language.specs.declared.field.Predicate.TheVariants as p
use Rattle.nb_records.specs.Grammar.{IsCidr, IsSecurityEntry}
use Rattle.nb_records.specs.Network.{Network}
use Rattle.nb_records.specs.Routers.{contains}
use Rattle.nb_records.specs.Switches.{same_mac, has_some}
use Rattle.nb_records.specs.declared.switch.SecurityEntry.{SecurityEntry}
use Rattle.nb_records.specs.declared.switch.SwitchPort.{SwitchPort}
use Rattle.logical_flows.specs.declared.action.Action.{Action}
use Rattle.logical_flows.specs.declared.action.Action.TheVariants as a
use Rattle.logical_flows.specs.declared.flow.LFlow.{LFlow}
use Rattle.logical_flows.specs.declared.stage.Pipeline.TheVariants.{Ingress}
use Rattle.logical_flows.specs.declared.stage.Stage.TheVariants as stage
use Rattle.stage_rows.specs.Rows.{in_is, mac_is, ip_in, drop_row, pass_row, base_row, go_on}
use Rattle.stage_rows.specs.SwitchRows.{dhcp_request, may_send_any, may_send_from, may_send, sent_by, entry_port_security, port_port_security}
use Rattle.net_model.specs.Headers.{carries_ip4, carries_arp, ip_of, src_of, is_dhcp_request}
use Rattle.net_model.specs.PortSecurity.{admits_ip, admits_sender, admits_from, may_enter}
use Rattle.net_model.specs.Sights.{roster_of, holds_at}
use Rattle.row_laws.proofs.terms.PacketTerms.{says_src_in, says_spa_in, says_sha, dhcp_from, dhcp_to, not_both}
use Rattle.row_laws.proofs.units.RowUnits.{SwitchRow, by_port, by_rule, by_balancer, by_switch, in_when, when_in}
use Rattle.row_laws.proofs.units.TakenRow.{IsTaken, among_one, its_unit, fields, taken_terms, no_port_above, entry_meant, entry_own}
use Rattle.row_laws.proofs.terms.Terms.{says_ip4, says_arp, says_src, says_either}
use Rattle.row_laws.proofs.records.ValidPorts.{in_grammar}
use Rattle.row_laws.specs.Copies.{Copy}
use Rattle.row_laws.specs.StageActions.{unless_dropped}
use Rattle.row_laws.specs.StageLaws.{StageLaw}

-- a list that has something has it
pub has_one : {X : Type 0} (x : X) (xs : List X) → Among x xs → has_some xs ≡ true
has_one x [] m = elim m [ ]
has_one x (y ∷ ys) m = refl

module _ (net : Network) (c : Copy) (regs : Regs) (r : LFlow) (t : IsTaken net stage.SwitchPortSecurity Ingress c regs r) where
  abbrev packet : Packet
  packet = c.sight.packet

  abbrev says : Expr → Bool
  says x = holds_at (roster_of net) c.sight x

  -- ---- what an entry lets its Ethernet address send

  -- what the entry admits of a packet from its Ethernet address
  abbrev fine : SecurityEntry → Bool
  fine x = (not (carries_ip4 packet) || (admits_ip x (src_of packet) || is_dhcp_request packet)) && (not (carries_arp packet) || admits_sender x packet)

  ip4_fine : (x : SecurityEntry) → carries_ip4 packet ≡ true → (admits_ip x (src_of packet) || is_dhcp_request packet) ≡ true → fine x ≡ true
  ip4_fine x ip4 h =
      and_from (not (carries_ip4 packet) || (admits_ip x (src_of packet) || is_dhcp_request packet)) (not (carries_arp packet) || admits_sender x packet) (or_right (not (carries_ip4 packet)) _ h)
      (or_left (not (carries_arp packet)) (admits_sender x packet) (not_from_false (carries_arp packet) (false_from_ne_true (carries_arp packet) (not_both (roster_of net) c.sight (fields t) ip4))))

  arp_fine : (x : SecurityEntry) → carries_arp packet ≡ true → admits_sender x packet ≡ true → fine x ≡ true
  arp_fine x arp h =
      and_from (not (carries_ip4 packet) || (admits_ip x (src_of packet) || is_dhcp_request packet)) (not (carries_arp packet) || admits_sender x packet)
      (or_left (not (carries_ip4 packet)) _ (not_from_false (carries_ip4 packet) (false_from_ne_true (carries_ip4 packet) (λ ip4. not_both (roster_of net) c.sight (fields t) ip4 arp)))) (or_right (not (carries_arp packet)) (admits_sender x packet) h)

  -- one of its prefixes has the address
  in_one : (x : SecurityEntry) (ip : _) (i : Cidr) → Among i x.ips → contains i ip ≡ true → admits_ip x ip ≡ true
  in_one x ip i m h = or_right (not (has_some x.ips)) (list_any (λ prefix. contains prefix ip) x.ips) (among_any (λ prefix. contains prefix ip) i x.ips m h)

  -- an entry without prefixes has all addresses
  in_all : (x : SecurityEntry) (ip : _) → has_some x.ips ≡ false → admits_ip x ip ≡ true
  in_all x ip none = or_left (not (has_some x.ips)) (list_any (λ prefix. contains prefix ip) x.ips) (not_from_false (has_some x.ips) none)

  sent_any : (x : SecurityEntry) → has_some x.ips ≡ false → (terms : List Expr) → Among terms (may_send_any x) → list_all says terms ≡ true → fine x ≡ true
  sent_any x none terms m say = elim (among_cases terms (e.Is p.Ip4 ∷ []) ((mac_is f.ArpSha x.mac ∷ []) ∷ []) m) [
    | inl one ↦
        let ip4 = sym (says_ip4 (roster_of net) c.sight (fields t)) ∙ (and_parts (says (e.Is p.Ip4)) true (subst (λ xs. list_all says xs ≡ true) one say)).0 in
        ip4_fine x ip4 (or_left (admits_ip x (src_of packet)) (is_dhcp_request packet) (in_all x (src_of packet) none))
    | inr n ↦
        let one = among_one terms (mac_is f.ArpSha x.mac ∷ []) n in
        let sha = and_parts (carries_arp packet) _ (sym (says_sha (roster_of net) c.sight (fields t) x.mac) ∙ (and_parts (says (mac_is f.ArpSha x.mac)) true (subst (λ xs. list_all says xs ≡ true) one say)).0) in
        arp_fine x sha.0 (and_from (x.mac.number == field.arp_sha packet.body) (admits_ip x (ip_of (field.arp_spa packet.body))) sha.1 (in_all x (ip_of (field.arp_spa packet.body)) none))
  ]

  sent_from : (x : SecurityEntry) → IsSecurityEntry x → (i : Cidr) → Among i x.ips → (terms : List Expr) → Among terms (may_send_from x i) → list_all says terms ≡ true → fine x ≡ true
  sent_from x ok i among terms m say = elim (among_cases terms (ip_in f.Ip4Src i ∷ []) ((mac_is f.ArpSha x.mac ∷ ip_in f.ArpSpa i ∷ []) ∷ []) m) [
    | inl one ↦
        let prefix : IsCidr i = among_all IsCidr i x.ips ok among in
        let src = and_parts (carries_ip4 packet) _ (sym (says_src_in (roster_of net) c.sight (fields t) i prefix) ∙ (and_parts (says (ip_in f.Ip4Src i)) true (subst (λ xs. list_all says xs ≡ true) one say)).0) in
        ip4_fine x src.0 (or_left (admits_ip x (src_of packet)) (is_dhcp_request packet) (in_one x (src_of packet) i among src.1))
    | inr n ↦
        let one = among_one terms (mac_is f.ArpSha x.mac ∷ ip_in f.ArpSpa i ∷ []) n in
        let prefix : IsCidr i = among_all IsCidr i x.ips ok among in
        let both = and_parts (says (mac_is f.ArpSha x.mac)) _ (subst (λ xs. list_all says xs ≡ true) one say) in
        let sha = and_parts (carries_arp packet) _ (sym (says_sha (roster_of net) c.sight (fields t) x.mac) ∙ both.0) in
        let spa = and_parts (carries_arp packet) _ (sym (says_spa_in (roster_of net) c.sight (fields t) i prefix) ∙ (and_parts (says (ip_in f.ArpSpa i)) true both.1).0) in
        arp_fine x sha.0 (and_from (x.mac.number == field.arp_sha packet.body) (admits_ip x (ip_of (field.arp_spa packet.body))) sha.1 (in_one x (ip_of (field.arp_spa packet.body)) i among spa.1))
  ]

  sent_by_kind : (x : SecurityEntry) → IsSecurityEntry x → (b : Bool) → has_some x.ips ≡ b → (terms : List Expr) → Among terms (cond b (flat_map (may_send_from x) x.ips ++ dhcp_request ∷ []) (may_send_any x)) → list_all says terms ≡ true → fine x ≡ true
  sent_by_kind x ok false none terms m say = sent_any x none terms m say
  sent_by_kind x ok true some terms m say = elim (among_append terms (flat_map (may_send_from x) x.ips) (dhcp_request ∷ []) m) [
    | inl n ↦ let i = flat_map_among (may_send_from x) terms x.ips n in sent_from x ok i.0 i.1 terms i.2 say
    | inr n ↦
        let dhcp = dhcp_from (roster_of net) c.sight (fields t) (subst (λ xs. list_all says xs ≡ true) (among_one terms dhcp_request n) say) in
        ip4_fine x dhcp.0 (or_right (admits_ip x (src_of packet)) (is_dhcp_request packet) dhcp.1)
  ]

  -- a packet of which some terms hold is admitted
  sent_fine : (x : SecurityEntry) → IsSecurityEntry x → (terms : List Expr) → Among terms (may_send x) → list_all says terms ≡ true → fine x ≡ true
  sent_fine x ok terms m say = sent_by_kind x ok (has_some x.ips) refl terms m say

  -- and of an IPv4 or ARP packet that is admitted some terms hold
  record Sends (x : SecurityEntry) : Type 0 where
    terms : List Expr
    among : Among terms (may_send x)
    say : list_all says terms ≡ true

  among_any_kind : (x : SecurityEntry) → has_some x.ips ≡ false → (terms : List Expr) → Among terms (may_send_any x) → Among terms (may_send x)
  among_any_kind x none terms m = subst (λ b. Among terms (cond b (flat_map (may_send_from x) x.ips ++ dhcp_request ∷ []) (may_send_any x))) (sym none) m

  among_some_kind : (x : SecurityEntry) → has_some x.ips ≡ true → (terms : List Expr) → Among terms (flat_map (may_send_from x) x.ips ++ dhcp_request ∷ []) → Among terms (may_send x)
  among_some_kind x some terms m = subst (λ b. Among terms (cond b (flat_map (may_send_from x) x.ips ++ dhcp_request ∷ []) (may_send_any x))) (sym some) m

  -- the prefixes that an entry has for an address
  by_prefix : (x : SecurityEntry) (ip : _) → has_some x.ips ≡ true → admits_ip x ip ≡ true → (i : Cidr) × Among i x.ips × (contains i ip ≡ true)
  by_prefix x ip some h = any_among (λ prefix. contains prefix ip) x.ips (ap (λ b. not b || list_any (λ prefix. contains prefix ip) x.ips) (sym some) ∙ h)

  sends_ip4 : (x : SecurityEntry) → IsSecurityEntry x → carries_ip4 packet ≡ true → (admits_ip x (src_of packet) || is_dhcp_request packet) ≡ true → Sends x
  sends_ip4 x ok ip4 h = elim (cases_Bool (has_some x.ips)) [
    | inr none ↦ record {
      terms = e.Is p.Ip4 ∷ [];
      among = among_any_kind x none (e.Is p.Ip4 ∷ []) here;
      say = and_from (says (e.Is p.Ip4)) true (says_ip4 (roster_of net) c.sight (fields t) ∙ ip4) refl;
    }
    | inl some ↦ elim (or_cases (admits_ip x (src_of packet)) (is_dhcp_request packet) h) [
      | inl own ↦
          let i = by_prefix x (src_of packet) some own in
          record {
            terms = ip_in f.Ip4Src i.0 ∷ [];
            among = among_some_kind x some _ (among_left _ (flat_map (may_send_from x) x.ips) _ (among_flat_map (may_send_from x) i.0 _ x.ips i.1 here));
            say = and_from (says (ip_in f.Ip4Src i.0)) true (says_src_in (roster_of net) c.sight (fields t) i.0 (among_all IsCidr i.0 x.ips ok i.1) ∙ and_from (carries_ip4 packet) _ ip4 i.2) refl;
          }
      | inr dhcp ↦ record {
        terms = dhcp_request;
        among = among_some_kind x some dhcp_request (among_right dhcp_request (flat_map (may_send_from x) x.ips) (dhcp_request ∷ []) here);
        say = dhcp_to (roster_of net) c.sight (fields t) t.at_port.whole ip4 dhcp;
      }
    ]
  ]

  sends_arp : (x : SecurityEntry) → IsSecurityEntry x → carries_arp packet ≡ true → admits_sender x packet ≡ true → Sends x
  sends_arp x ok arp h =
      let both = and_parts (x.mac.number == field.arp_sha packet.body) (admits_ip x (ip_of (field.arp_spa packet.body))) h in
      let sha = says_sha (roster_of net) c.sight (fields t) x.mac ∙ and_from (carries_arp packet) (x.mac.number == field.arp_sha packet.body) arp both.0 in
      elim (cases_Bool (has_some x.ips)) [
        | inr none ↦ record {
          terms = mac_is f.ArpSha x.mac ∷ [];
          among = among_any_kind x none (mac_is f.ArpSha x.mac ∷ []) (there here);
          say = and_from (says (mac_is f.ArpSha x.mac)) true sha refl;
        }
        | inl some ↦
            let i = by_prefix x (ip_of (field.arp_spa packet.body)) some both.1 in
            record {
              terms = mac_is f.ArpSha x.mac ∷ ip_in f.ArpSpa i.0 ∷ [];
              among = among_some_kind x some _ (among_left _ (flat_map (may_send_from x) x.ips) _ (among_flat_map (may_send_from x) i.0 _ x.ips i.1 (there here)));
              say = and_from (says (mac_is f.ArpSha x.mac)) _ sha
                  (and_from (says (ip_in f.ArpSpa i.0)) true (says_spa_in (roster_of net) c.sight (fields t) i.0 (among_all IsCidr i.0 x.ips ok i.1) ∙ and_from (carries_arp packet) _ arp i.2) refl);
            }
      ]

  fine_sends : (x : SecurityEntry) → IsSecurityEntry x → (carries_ip4 packet || carries_arp packet) ≡ true → fine x ≡ true → Sends x
  fine_sends x ok which h =
      let both = and_parts (not (carries_ip4 packet) || (admits_ip x (src_of packet) || is_dhcp_request packet)) (not (carries_arp packet) || admits_sender x packet) h in
      elim (or_cases (carries_ip4 packet) (carries_arp packet) which) [
        | inl ip4 ↦ sends_ip4 x ok ip4 (ap (λ b. not b || (admits_ip x (src_of packet) || is_dhcp_request packet)) (sym ip4) ∙ both.0)
        | inr arp ↦ sends_arp x ok arp (ap (λ b. not b || admits_sender x packet) (sym arp) ∙ both.1)
      ]

  -- what is of neither is admitted
  other_fine : (x : SecurityEntry) → carries_ip4 packet ≡ false → carries_arp packet ≡ false → fine x ≡ true
  other_fine x ip4 arp = λ k. (not (ip4 k) || (admits_ip x (src_of packet) || is_dhcp_request packet)) && (not (arp k) || admits_sender x packet)

  -- ---- rows above

  abbrev other : Expr
  other = e.Any (e.Is p.Ip4 ∷ e.Is p.Arp ∷ [])

  says_other : says other ≡ (carries_ip4 packet || carries_arp packet)
  says_other = says_either (roster_of net) c.sight (e.Is p.Ip4) (e.Is p.Arp) ∙ (λ k. says_ip4 (roster_of net) c.sight (fields t) k || says_arp (roster_of net) c.sight (fields t) k)

  -- a packet of the port from an entry's Ethernet address
  sent : (x : SecurityEntry) (terms : List Expr) → same_mac x.mac packet.src ≡ true → list_all says terms ≡ true → list_all says (sent_by c.port x ++ terms) ≡ true
  sent x terms mac say = and_from (says (in_is c.port.name)) _ (entry_own t) (and_from (says (mac_is f.EthSrc x.mac)) _ (says_src (roster_of net) c.sight (fields t) x.mac ∙ mac) say)

  module _ (low : ℕ) (is : r.priority ≡ low) (x : SecurityEntry) (among : Among x c.port.port_security) (mac : same_mac x.mac packet.src ≡ true) where
    among_rows : (row : LFlow) → Among row (entry_port_security c.port x) → Among row (port_port_security c.port)
    among_rows row m = among_left row (flat_map (entry_port_security c.port) c.port.port_security) _ (among_flat_map (entry_port_security c.port) x row c.port.port_security among m)

    abbrev send_row : List Expr → LFlow
    send_row terms = pass_row stage.SwitchPortSecurity 90 (sent_by c.port x ++ terms)

    no_send_above : low < 90 → Sends x → ⊥
    no_send_above less s =
        no_port_above t low is 90 (sent_by c.port x ++ s.terms) (go_on stage.SwitchPortSecurity ∷ []) less (sent x s.terms mac s.say) c.port.name c.port t.at_port.there refl
        (among_rows (send_row s.terms) (among_left (send_row s.terms) (map send_row (may_send x)) _ (among_map send_row s.terms (may_send x) s.among)))

    no_drop_above : low < 85 → (carries_ip4 packet || carries_arp packet) ≡ true → ⊥
    no_drop_above less which =
        no_port_above t low is 85 (sent_by c.port x ++ other ∷ []) (a.Drop cause.PortSecurity ∷ []) less
        (sent x (other ∷ []) mac (and_from (says other) true (says_other ∙ which) refl))
        c.port.name c.port t.at_port.there refl
        (among_rows (drop_row stage.SwitchPortSecurity 85 (sent_by c.port x ++ other ∷ []) cause.PortSecurity) (among_right _ (map send_row (may_send x)) _ here))

    no_pass_above : low < 80 → ⊥
    no_pass_above less =
        no_port_above t low is 80 (sent_by c.port x) (go_on stage.SwitchPortSecurity ∷ []) less (sent x [] mac refl) c.port.name c.port t.at_port.there refl
        (among_rows (pass_row stage.SwitchPortSecurity 80 (sent_by c.port x)) (among_right _ (map send_row (may_send x)) _ (there here)))

  -- ---- whether some entry admits the packet

  abbrev done : Bool → List Action
  done enters = unless_dropped stage.SwitchPortSecurity (cond (not enters) (Some cause.PortSecurity) None)

  enters : (x : SecurityEntry) → Among x c.port.port_security → same_mac x.mac packet.src ≡ true → fine x ≡ true → may_enter c.port packet ≡ true
  enters x m mac h = or_right (not (has_some c.port.port_security)) _ (among_any (λ y. admits_from y packet) x c.port.port_security m (and_from (same_mac x.mac packet.src) (fine x) mac h))

  none_admits : has_some c.port.port_security ≡ true → ((x : SecurityEntry) → Among x c.port.port_security → same_mac x.mac packet.src ≡ true → fine x ≡ true → ⊥) → may_enter c.port packet ≡ false
  none_admits some none =
      or_from (not (has_some c.port.port_security)) (list_any (λ y. admits_from y packet) c.port.port_security) (ap not some)
      (false_from_ne_true (list_any (λ y. admits_from y packet) c.port.port_security) (λ h.
      let x = any_among (λ y. admits_from y packet) c.port.port_security h in
      let both = and_parts (same_mac x.0.mac packet.src) (fine x.0) x.2 in
      none x.0 x.1 both.0 both.1))

  -- ---- the rows

  module _ (q : Name) (port : SwitchPort) (found : at net.switch_ports q ≡ Some port) where
    -- the port is that of entry, and the packet is from the entry's Ethernet address
    record IsSent (x : SecurityEntry) (terms : List Expr) : Type 0 where
      own : port ≡ c.port
      mac : same_mac x.mac packet.src ≡ true
      say : list_all says terms ≡ true

    is_sent : (x : SecurityEntry) (terms : List Expr) → list_all says (sent_by port x ++ terms) ≡ true → IsSent x terms
    is_sent x terms h =
        let one = and_parts (says (in_is port.name)) (says (mac_is f.EthSrc x.mac) && list_all says terms) h in
        let two = and_parts (says (mac_is f.EthSrc x.mac)) (list_all says terms) one.1 in
        record { own = entry_meant t q port found one.0; mac = sym (says_src (roster_of net) c.sight (fields t) x.mac) ∙ two.0; say = two.1 }

    entry_ok : (x : SecurityEntry) → Among x port.port_security → IsSecurityEntry x
    entry_ok x m = among_all IsSecurityEntry x port.port_security (in_grammar net t.valid q port found).port_security m

    moved : (x : SecurityEntry) → port ≡ c.port → Among x port.port_security → Among x c.port.port_security
    moved x own m = subst (λ (z : SwitchPort). Among x z.port_security) own m

    own_ok : port ≡ c.port → (x : SecurityEntry) → Among x c.port.port_security → IsSecurityEntry x
    own_ok own x m = entry_ok x (subst (λ (z : SwitchPort). Among x z.port_security) (sym own) m)

    sends_row : (x : SecurityEntry) → Among x port.port_security → (terms : List Expr) → Among terms (may_send x) → r ≡ pass_row stage.SwitchPortSecurity 90 (sent_by port x ++ terms) → r.actions ≡ done (may_enter c.port packet)
    sends_row x m terms n e =
        let s = is_sent x terms (taken_terms t 90 (sent_by port x ++ terms) (go_on stage.SwitchPortSecurity ∷ []) e) in
        ap (λ (z : LFlow). z.actions) e ∙ ap done (sym (enters x (moved x s.own m) s.mac (sent_fine x (entry_ok x m) terms n s.say)))

    drops_row : (x : SecurityEntry) → Among x port.port_security → r ≡ drop_row stage.SwitchPortSecurity 85 (sent_by port x ++ other ∷ []) cause.PortSecurity → r.actions ≡ done (may_enter c.port packet)
    drops_row x m e =
        let s = is_sent x (other ∷ []) (taken_terms t 85 (sent_by port x ++ other ∷ []) (a.Drop cause.PortSecurity ∷ []) e) in
        let which : (carries_ip4 packet || carries_arp packet) ≡ true =
        sym says_other ∙ (and_parts (says other) true s.say).0 in
        ap (λ (z : LFlow). z.actions) e
        ∙ ap done (sym (none_admits (has_one x c.port.port_security (moved x s.own m)) (λ y n mac h. no_send_above 85 (ap (λ (z : LFlow). z.priority) e) y n mac (omega arith) (fine_sends y (own_ok s.own y n) which h))))

    passes_row : (x : SecurityEntry) → Among x port.port_security → r ≡ pass_row stage.SwitchPortSecurity 80 (sent_by port x) → r.actions ≡ done (may_enter c.port packet)
    passes_row x m e =
        let s = is_sent x [] (taken_terms t 80 (sent_by port x) (go_on stage.SwitchPortSecurity ∷ []) e) in
        let among = moved x s.own m in
        let is = ap (λ (z : LFlow). z.priority) e in
        let ip4 = false_from_ne_true (carries_ip4 packet) (λ h. no_drop_above 80 is x among s.mac (omega arith) (or_left (carries_ip4 packet) (carries_arp packet) h)) in
        let arp = false_from_ne_true (carries_arp packet) (λ h. no_drop_above 80 is x among s.mac (omega arith) (or_right (carries_ip4 packet) (carries_arp packet) h)) in
        ap (λ (z : LFlow). z.actions) e ∙ ap done (sym (enters x among s.mac (other_fine x ip4 arp)))

    of_entry : (x : SecurityEntry) → Among x port.port_security → Among r (entry_port_security port x) → r.actions ≡ done (may_enter c.port packet)
    of_entry x m n = elim (among_append r (map (λ terms. pass_row stage.SwitchPortSecurity 90 (sent_by port x ++ terms)) (may_send x)) _ n) [
      | inl k ↦ let terms = map_among (λ terms. pass_row stage.SwitchPortSecurity 90 (sent_by port x ++ terms)) r (may_send x) k in sends_row x m terms.0 terms.1 terms.2
      | inr k ↦ elim (among_cases r _ _ k) [ inl e ↦ drops_row x m e | inr l ↦ passes_row x m (among_one r _ l) ]
    ]

    drops_others : has_some port.port_security ≡ true → r ≡ drop_row stage.SwitchPortSecurity 70 (in_is port.name ∷ []) cause.PortSecurity → r.actions ≡ done (may_enter c.port packet)
    drops_others some e =
        let own : port ≡ c.port = entry_meant t q port found (and_parts (says (in_is port.name)) true (taken_terms t 70 (in_is port.name ∷ []) (a.Drop cause.PortSecurity ∷ []) e)).0 in
        ap (λ (z : LFlow). z.actions) e
        ∙ ap done (sym (none_admits (sym (ap (λ (z : SwitchPort). has_some z.port_security) own) ∙ some) (λ y n mac h. no_pass_above 70 (ap (λ (z : LFlow). z.priority) e) y n mac (omega arith))))

    of_port : Among r (port_port_security port) → r.actions ≡ done (may_enter c.port packet)
    of_port m = elim (among_append r (flat_map (entry_port_security port) port.port_security) _ m) [
      | inl n ↦ let x = flat_map_among (entry_port_security port) r port.port_security n in of_entry x.0 x.1 x.2
      | inr n ↦ let k = in_when r (has_some port.port_security) _ n in drops_others k.0 (among_one r _ k.1)
    ]

  secured : SwitchRow net stage.SwitchPortSecurity c.port.switch r → r.actions ≡ done (may_enter c.port packet)
  secured (by_port q port is on m) = of_port q port is m
  secured (by_rule x y is on m) = elim m [ ]
  secured (by_balancer x y is m) = elim m [ ]
  secured (by_switch m) =
      let e = among_one r (base_row stage.SwitchPortSecurity) m in
      elim (cases_Bool (has_some c.port.port_security)) [
        | inl some ↦
            let last = drop_row stage.SwitchPortSecurity 70 (in_is c.port.name ∷ []) cause.PortSecurity in
            absurd (no_port_above t 0 (ap (λ (z : LFlow). z.priority) e) 70 (in_is c.port.name ∷ []) (a.Drop cause.PortSecurity ∷ []) (omega arith) (and_from (says (in_is c.port.name)) true (entry_own t) refl)
            c.port.name c.port t.at_port.there refl (among_right last (flat_map (entry_port_security c.port) c.port.port_security) _ (when_in last (has_some c.port.port_security) (last ∷ []) some here)))
        | inr none ↦ ap (λ (z : LFlow). z.actions) e ∙ ap (λ b. done (not b || list_any (λ y. admits_from y packet) c.port.port_security)) (sym none)
      ]

pub port_security_law : StageLaw stage.SwitchPortSecurity
port_security_law net valid c regs h r best =
    let t : IsTaken net stage.SwitchPortSecurity Ingress c regs r = record { valid = valid; of = refl; at_port = h; best = best } in
    secured net c regs r t (its_unit t)
