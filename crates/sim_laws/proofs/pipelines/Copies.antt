-- A copy that stands before a table of a switch: the numbers of its port, and how it stands before the next one.
use Rattle.std.specs.Prelude.{◌≡◌, ◌≤◌, ℕ, true, cond, List, [], ◌∷◌, Option, Some, option_map, refl}
use Rattle.std.proofs.Common.{sym, ap, ◌∙◌, subst, append-nil}
use Rattle.std.proofs.Math.Dec.{leb as nat_le}
use Rattle.conn_table.specs.Picks.{Choice}
use Rattle.flow_table.specs.declared.flow.Cause.{Cause}
use Rattle.inet_packet.specs.Whole.{IsWhole}
use Rattle.inet_packet.specs.declared.packet.Packet.{Packet}
use Rattle.inet_packet.specs.declared.regs.Reg.TheVariants as reg
use Rattle.inet_packet.specs.declared.regs.Regs.{Regs}
use Rattle.logical_flows.specs.declared.stage.Pipeline.{Pipeline}
use Rattle.logical_flows.specs.declared.stage.Pipeline.TheVariants.{Ingress, Egress}
use Rattle.match_cubes.specs.declared.sets.Sets.{Sets}
use Rattle.nb_records.specs.Network.{Network}
use Rattle.nb_records.specs.declared.switch.SwitchPort.{SwitchPort}
use Rattle.net_model.specs.Config.{port_identity}
use Rattle.net_model.specs.Sights.{is_live_one, roster_of}
use Rattle.net_model.specs.Trail.{Trail, Lists, End, is_dropped, spot_of, drop_for}
use Rattle.ovn_base.specs.declared.stages.TheConstants.{LOOKUP_TABLE}
use Rattle.ovn_base.specs.names.ByName.{at}
use Rattle.row_laws.specs.Copies.{Copy, IsAtPort, IsPortOf, Words, HaveWords}
use Rattle.row_laws.specs.Numbers.{IsDatapathKey, IsPortKey, HasNumbers, NumberStandsFor}
use Rattle.switch_engine.specs.Actions.{drop_at}
use Rattle.switch_engine.specs.Zones.{ZoneLists, zone_number}
use Rattle.switch_engine.specs.declared.carried.Carried.{Carried}
use Rattle.tunnel_keys.specs.Keys.{Keys}
use Rattle.tunnel_keys.specs.Same.{identity_own}
use Rattle.tunnel_keys.specs.declared.owner.Identity.{Identity}
use Rattle.sim_laws.proofs.pipelines.Registers.{Notes, noted_in, noted_within}
use Rattle.sim_laws.specs.Naming.{HasDatapathKey, HasPortKey, IsNumbered}
use Rattle.sim_laws.specs.Naming.IsNumbered.{drop}
use Rattle.sim_laws.specs.pipelines.HeldLists.{HoldLists}
use Rattle.sim_laws.specs.pipelines.Pieces.{Piece, trail_with, goes_on, has_ended, ComesTo}
use Rattle.sim_laws.specs.pipelines.Standing.{Chassis, net_of, zone_of, StandsAtTable}

-- ---- its port

-- the register of the port by which the copy came in, or by which it leaves
abbrev pub port_reg : Pipeline → Regs → ℕ
port_reg Ingress regs = regs.in_port
port_reg Egress regs = regs.out_port

module _ (keys : Keys) (sets : Sets) (net : Network) (c : Copy) (regs : Regs) where
  lives : (o : Option Identity) → o ≡ Some (port_identity c.port) → at net.switch_ports c.port.name ≡ Some c.port → is_live_one o (option_map port_identity (at net.switch_ports c.port.name)) ≡ true
  lives o is there =
      ap (λ x. is_live_one x (option_map port_identity (at net.switch_ports c.port.name))) is
      ∙ ap (λ (p : Option SwitchPort). is_live_one (Some (port_identity c.port)) (option_map port_identity p)) there
      ∙ identity_own (port_identity c.port)

  -- it has the key of the port
  pub own_key : (way : Pipeline) → IsAtPort net way c regs → HasNumbers keys sets (roster_of net) c.port.switch regs c.sight → IsPortKey keys c.port.switch c.port.name (port_reg way regs)
  own_key Ingress place numbers = numbers.came.numbered c.port.name (lives (Some c.sight.in_port) (ap (λ (x : Identity). Some x) place.is_port) place.there)
  own_key Egress place numbers = numbers.goes.numbered c.port.name (lives c.sight.out_port place.is_port place.there)

pub has_datapath_key : {keys : Keys} {d : List ℕ} {n : ℕ} → IsDatapathKey keys d n → HasDatapathKey keys d n
has_datapath_key h = record { live = h.0; has = h.1; number = h.2 }

pub has_port_key : {keys : Keys} {d q : List ℕ} {n : ℕ} → IsPortKey keys d q n → HasPortKey keys d q n
has_port_key h = record { live = h.0; has = h.1; on = h.2; number = h.3 }

module _ (s : Chassis) {way : Pipeline} {table : ℕ} {c : Copy} {lists : Lists} {zones : ZoneLists} {copy : Carried} (h : StandsAtTable s way table c lists zones copy) where
  -- ---- a drop

  module _ (place : (regs : Regs) → cond (nat_le table LOOKUP_TABLE) regs.in_port regs.out_port ≡ port_reg way regs) (why : Cause) where
    pub drop_number : IsNumbered s.keys (is_dropped c.port.switch c.port.name why) (drop_at copy.table why copy.regs)
    drop_number =
        let key = subst (IsPortKey s.keys c.port.switch c.port.name) (sym (place copy.regs)) (own_key s.keys s.sets (net_of s) c copy.regs way h.at_port h.numbers) in
        subst (λ (k : ℕ). IsNumbered s.keys (is_dropped c.port.switch c.port.name why) (drop_at k why copy.regs)) (sym h.in_table) (drop (has_datapath_key h.numbers.on) (has_port_key key))

    -- the piece drops the packet, and the walk the copy
    pub drops_so : {X : Type 0} (piece : Piece X) (before after : Lists) (Goes : Lists → X → ZoneLists → Carried → Type 0) (last : ZoneLists) → HoldLists s.number last after
        → ((rest : Trail → X → Trail) (choices : List Choice) (ends : List End) → piece rest (trail_with before choices ends) ≡ drop_for why (spot_of c.port) (trail_with after choices ends))
        → ComesTo s piece before Goes (drop_at copy.table why copy.regs ∷ []) last []
    drops_so piece before after Goes last hold is = record {
      own = is_dropped c.port.switch c.port.name why ∷ [];
      numbered = (drop_number, tt);
      landing = has_ended after;
      is = is;
      lands = (refl, hold);
    }

-- the piece lets the packet go on, and the walk the copy; nothing is told
pub goes_so : (s : Chassis) {X : Type 0} (piece : Piece X) (before after : Lists) (Goes : Lists → X → ZoneLists → Carried → Type 0) (last : ZoneLists) (x : X) (copy : Carried) → Goes after x last copy
    → ((rest : Trail → X → Trail) (choices : List Choice) (ends : List End) → piece rest (trail_with before choices ends) ≡ rest (trail_with after choices ends) x)
    → ComesTo s piece before Goes [] last (copy ∷ [])
goes_so s piece before after Goes last x copy goes is = record {
  own = [];
  numbered = tt;
  landing = goes_on after x;
  is = λ rest choices ends. is rest choices ends ∙ ap (λ l. rest (trail_with after choices l) x) (sym (append-nil ends));
  lands = (copy, refl, goes);
}

-- ---- before the next table

-- what the registers hold
abbrev pub notes_in : Regs → Notes
notes_in regs = record { out_port = regs.out_port; state = regs.state; verdict = regs.verdict; flags = regs.flags }

-- the same copy, with another packet and other words
abbrev pub reworded : Copy → Packet → Words → Copy
reworded c p w = record { port = c.port; sight = record c.sight { packet = p }; words = w }

same_port : (way : Pipeline) (c : Copy) (p : Packet) (w : Words) → IsPortOf way c → IsPortOf way (reworded c p w)
same_port Ingress c p w h = h
same_port Egress c p w h = h

pub same_zone : (way : Pipeline) (n : Notes) (regs : Regs) → zone_number (zone_of way) (noted_in n regs) ≡ zone_number (zone_of way) regs
same_zone Ingress n regs = refl
same_zone Egress n regs = refl

module _ (s : Chassis) {way : Pipeline} {table : ℕ} {c : Copy} {lists : Lists} {zones : ZoneLists} {copy : Carried} (h : StandsAtTable s way table c lists zones copy) where
  pub stands_on : (n : Notes) → n.out_port ≡ copy.regs.out_port → n.state ≤ 7 → n.verdict ≤ 7 → (w : Words) → HaveWords w (noted_in n copy.regs) → (p : Packet) → IsWhole p
      → (after : Lists) (last : ZoneLists) → HoldLists s.number last after → (next : ℕ) (new : Carried) → new.table ≡ next → new.packet ≡ p → new.regs ≡ noted_in n copy.regs
      → StandsAtTable s way next (reworded c p w) after last new
  stands_on n out state verdict w words p whole after last hold next new in_table packet regs =
      let within = noted_within n copy.regs h.numbers.within (subst (λ (k : ℕ). k ≤ 0xffff) (sym out) (h.numbers.within.within reg.OutPort)) state verdict in
      record {
        in_table = in_table;
        packet = packet;
        at_port = record {
          there = h.at_port.there;
          is_port = same_port way c p w h.at_port.is_port;
          words = subst (HaveWords w) (sym regs) words;
          whole = whole;
        };
        numbers = subst (λ (r : Regs). HasNumbers s.keys s.sets (roster_of (net_of s)) c.port.switch r (record c.sight { packet = p })) (sym regs) (record {
          on = h.numbers.on;
          came = h.numbers.came;
          goes = subst (NumberStandsFor s.keys (roster_of (net_of s)) c.port.switch c.sight.out_port) (sym out) h.numbers.goes;
          members = h.numbers.members;
          within = within;
          whole = whole;
        });
        zone = λ virtual. h.zone virtual ∙ ap (λ (z : ℕ). Some z) (sym (ap (λ (r : Regs). zone_number (zone_of way) r) regs ∙ same_zone way n copy.regs));
        hold = hold;
      }

  -- with the same notes
  pub stands_still : (p : Packet) → IsWhole p → (after : Lists) (last : ZoneLists) → HoldLists s.number last after → (next : ℕ) (new : Carried) → new.table ≡ next → new.packet ≡ p → new.regs ≡ copy.regs
      → StandsAtTable s way next (reworded c p c.words) after last new
  stands_still p whole after last hold next new in_table packet regs =
      stands_on (notes_in copy.regs) refl (h.numbers.within.within reg.State) (h.numbers.within.within reg.Verdict) c.words h.at_port.words p whole after last hold next new in_table packet regs
