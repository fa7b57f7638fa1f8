-- How a copy stands before the next table of any router.
use Rattle.std.specs.Prelude.{◌≡◌, ◌≤◌, ℕ, cond, true, List, Option, Some, None, option_map, refl}
use Rattle.std.proofs.Common.{sym, ap, ◌∙◌, subst, arith}
use Rattle.std.proofs.Math.Dec.{leb as nat_le}
use Rattle.flow_lowering.specs.Registers.{HasRegistersInRange}
use Rattle.inet_packet.specs.Whole.{IsWhole}
use Rattle.inet_packet.specs.declared.packet.Packet.{Packet}
use Rattle.inet_packet.specs.declared.regs.Reg.TheVariants as reg
use Rattle.inet_packet.specs.declared.regs.Regs.{Regs}
use Rattle.logical_flows.specs.declared.stage.Stage.{Stage}
use Rattle.nb_records.specs.Network.{Network}
use Rattle.nb_records.specs.declared.router.RouterPort.{RouterPort}
use Rattle.net_model.specs.Forwarding.{is_translating}
use Rattle.net_model.specs.Headers.{carries_ip4}
use Rattle.net_model.specs.Sights.{is_live_one}
use Rattle.net_model.specs.Trail.{Lists, spot_in_router}
use Rattle.ovn_base.specs.declared.stages.TheConstants.{LOOKUP_TABLE}
use Rattle.row_laws.specs.Copies.{Finding, not_sought, found_new, found_forward, found_reply, found_invalid, finding_code}
use Rattle.row_laws.specs.Numbers.{IsDatapathKey, IsPortKey, NumberStandsFor, HasNumbers}
use Rattle.row_laws.specs.routers.RouterCopies.{RouterCopy, RouterWords, HaveRouterWords, IsWayOut, HasWayOut, router_port_identity, router_roster}
use Rattle.row_laws.specs.routers.TranslatingActions.{IsAskedOf, HasComeTo}
use Rattle.switch_engine.specs.Actions.{gone_on}
use Rattle.switch_engine.specs.Zones.{ZoneLists}
use Rattle.switch_engine.specs.declared.carried.Carried.{Carried}
use Rattle.tunnel_keys.specs.Same.{identity_own}
use Rattle.tunnel_keys.specs.declared.owner.Identity.{Identity}
use Rattle.sim_laws.proofs.router_stages.RouterCopiesOn.{led_on}
use Rattle.sim_laws.proofs.router_stages.RouterRegisters.{WayRegs, set_in}
use Rattle.sim_laws.proofs.translating_stages.AnyRegisters.{sought_within}
use Rattle.sim_laws.specs.pipelines.HeldLists.{HoldLists}
use Rattle.sim_laws.specs.pipelines.Standing.{Chassis, net_of, IsStill}
use Rattle.sim_laws.specs.routers.RouterStanding.{StandsInRouter}
use Rattle.sim_laws.specs.routers.TranslatingWords.{HaveRouterZones, IsAtSpot, is_sought}

-- the same copy, with another packet, of which something was found out
abbrev pub sought_in : RouterCopy → Packet → Finding → RouterCopy
sought_in c q f =
    record { port = c.port; out = c.out; sight = record { packet = q; in_port = c.sight.in_port; out_port = c.sight.out_port }; words = record { own = c.words.own; next = c.words.next; finding = f } }

-- it leaves by the same port
pub same_way : (net : Network) (c : RouterCopy) (q : Packet) (f : Finding) (o : Option RouterPort) → HasWayOut net c o → HasWayOut net (sought_in c q f) o
same_way net c q f None w = w
same_way net c q f (Some out) w = record { there = w.there; on = w.on; is_port = w.is_port }

pub finding_small : (f : Finding) → finding_code f ≤ 7
finding_small not_sought = omega arith
finding_small found_new = omega arith
finding_small found_forward = omega arith
finding_small found_reply = omega arith
finding_small found_invalid = omega arith

pub sought_of : (q : Packet) (f : Finding) → carries_ip4 q ≡ true → IsAskedOf q f
sought_of q not_sought h = tt
sought_of q found_new h = h
sought_of q found_forward h = h
sought_of q found_reply h = h
sought_of q found_invalid h = h

module _ (s : Chassis) {here : Stage} {table : ℕ} {c : RouterCopy} {lists : Lists} {zones : ZoneLists} {copy : Carried} (h : StandsInRouter s here table c lists zones copy) where
  -- nothing changed
  pub stands_on : (next : Stage) (n : ℕ) → HasComeTo (net_of s) next c → StandsInRouter s next n c lists zones (gone_on n copy)
  stands_on next n passed = record {
    in_table = refl;
    packet = h.packet;
    at_port = record { there = h.at_port.there; is_port = h.at_port.is_port; way_out = h.at_port.way_out; words = h.at_port.words; whole = h.at_port.whole; passed = passed };
    numbers = h.numbers;
    own_zones = h.own_zones;
    hold = h.hold;
  }

  -- where it goes was set
  pub stands_set : (out : Option RouterPort) (p : Packet) (w : RouterWords) (set : WayRegs) (next : Stage) (n : ℕ) (new : Carried)
      → new.table ≡ n → new.packet ≡ p → new.regs ≡ set_in set copy.regs → IsWhole p → HasRegistersInRange (set_in set copy.regs) → HaveRouterWords w (set_in set copy.regs)
      → HasWayOut (net_of s) (led_on c out p w) out → NumberStandsFor s.keys (router_roster (net_of s)) c.port.router (option_map router_port_identity out) set.out_port
      → HasComeTo (net_of s) next (led_on c out p w) → StandsInRouter s next n (led_on c out p w) lists zones new
  stands_set out p w set next n new in_table packet regs whole within words way goes passed = record {
    in_table = in_table;
    packet = packet;
    at_port = record {
      there = h.at_port.there;
      is_port = h.at_port.is_port;
      way_out = way;
      words = subst (HaveRouterWords w) (sym regs) words;
      whole = whole;
      passed = passed;
    };
    numbers = subst (λ (r : Regs). HasNumbers s.keys s.sets (router_roster (net_of s)) c.port.router r (led_on c out p w).sight) (sym regs) (record {
      on = h.numbers.on;
      came = h.numbers.came;
      goes = goes;
      members = h.numbers.members;
      within = within;
      whole = whole;
    });
    own_zones = λ on. subst (HaveRouterZones s.number c.port.router) (sym regs) (record { dnat = (h.own_zones on).dnat; snat = (h.own_zones on).snat });
    hold = h.hold;
  }

  -- something was found out, and written in the lists
  module _ (q : Packet) (f : Finding) (next : Stage) (n : ℕ) (new : Carried) (after : Lists) (last : ZoneLists) (still : IsStill is_sought copy new) where
    same_dp : new.regs.dp ≡ copy.regs.dp
    same_dp = still.registers reg.Dp refl

    sought_zones : is_translating (net_of s) c.port ≡ true → HaveRouterZones s.number c.port.router new.regs
    sought_zones on =
        let z = h.own_zones on in
        record { dnat = z.dnat ∙ ap (λ (k : ℕ). Some k) (sym (still.registers reg.ZDnat refl)); snat = z.snat ∙ ap (λ (k : ℕ). Some k) (sym (still.registers reg.ZSnat refl)) }

    pub stands_sought : new.table ≡ n → new.packet ≡ q → IsWhole q → new.regs.state ≡ finding_code f → HoldLists s.number last after → HasComeTo (net_of s) next (sought_in c q f)
        → StandsInRouter s next n (sought_in c q f) after last new
    stands_sought in_table packet whole state hold passed =
        let w = h.at_port.words in
        record {
          in_table = in_table;
          packet = packet;
          at_port = record {
            there = h.at_port.there;
            is_port = h.at_port.is_port;
            way_out = same_way (net_of s) c q f c.out h.at_port.way_out;
            words = record { own = still.registers reg.Own refl ∙ w.own; next = still.registers reg.Next refl ∙ w.next; finding = state };
            whole = whole;
            passed = passed;
          };
          numbers = record {
            on = subst (IsDatapathKey s.keys c.port.router) (sym same_dp) h.numbers.on;
            came = subst (NumberStandsFor s.keys (router_roster (net_of s)) c.port.router (Some c.sight.in_port)) (sym (still.registers reg.InPort refl)) h.numbers.came;
            goes = subst (NumberStandsFor s.keys (router_roster (net_of s)) c.port.router c.sight.out_port) (sym (still.registers reg.OutPort refl)) h.numbers.goes;
            members = h.numbers.members;
            within = sought_within copy new still h.numbers.within (subst (λ (k : ℕ). k ≤ 7) (sym state) (finding_small f));
            whole = whole;
          };
          own_zones = sought_zones;
          hold = hold;
        }

  -- ---- at its spot

  -- it has the key of the port of entry, and of that of exit
  pub entry_number : IsPortKey s.keys c.port.router c.port.name copy.regs.in_port
  entry_number =
      h.numbers.came.numbered c.port.name (
      ap (λ (x : Identity). is_live_one (Some x) ((router_roster (net_of s)).live c.port.name)) h.at_port.is_port
      ∙ ap (λ (o : Option RouterPort). is_live_one (Some (router_port_identity c.port)) (option_map router_port_identity o)) h.at_port.there
      ∙ identity_own (router_port_identity c.port))

  pub exit_number : (out : RouterPort) → IsWayOut (net_of s) c out → IsPortKey s.keys c.port.router out.name copy.regs.out_port
  exit_number out w =
      h.numbers.goes.numbered out.name (
      ap (λ (x : Option Identity). is_live_one x ((router_roster (net_of s)).live out.name)) w.is_port
      ∙ ap (λ (o : Option RouterPort). is_live_one (Some (router_port_identity out)) (option_map router_port_identity o)) w.there
      ∙ identity_own (router_port_identity out))

  -- in the ingress pipeline the spot is that of the port of entry
  pub at_entry : ((regs : Regs) → cond (nat_le table LOOKUP_TABLE) regs.in_port regs.out_port ≡ regs.in_port) → is_translating (net_of s) c.port ≡ true
      → IsAtSpot s (spot_in_router c.port) c.sight.packet lists zones copy
  at_entry place on = record {
    packet = h.packet;
    whole = h.at_port.whole;
    on = h.numbers.on;
    port = subst (λ (k : ℕ). IsPortKey s.keys c.port.router c.port.name (cond (nat_le k LOOKUP_TABLE) copy.regs.in_port copy.regs.out_port)) (sym h.in_table)
        (subst (IsPortKey s.keys c.port.router c.port.name) (sym (place copy.regs)) entry_number);
    numbers = h.own_zones on;
    hold = h.hold;
  }

  -- and in the egress pipeline that of the port of exit
  pub at_exit : ((regs : Regs) → cond (nat_le table LOOKUP_TABLE) regs.in_port regs.out_port ≡ regs.out_port) → is_translating (net_of s) c.port ≡ true
      → (out : RouterPort) → IsWayOut (net_of s) c out → IsAtSpot s (spot_in_router out) c.sight.packet lists zones copy
  at_exit place on out w = record {
    packet = h.packet;
    whole = h.at_port.whole;
    on = subst (λ (d : List ℕ). IsDatapathKey s.keys d copy.regs.dp) (sym w.on) h.numbers.on;
    port = subst (λ (k : ℕ). IsPortKey s.keys out.router out.name (cond (nat_le k LOOKUP_TABLE) copy.regs.in_port copy.regs.out_port)) (sym h.in_table)
        (subst (IsPortKey s.keys out.router out.name) (sym (place copy.regs)) (subst (λ (d : List ℕ). IsPortKey s.keys d out.name copy.regs.out_port) (sym w.on) (exit_number out w)));
    numbers = subst (λ (d : List ℕ). HaveRouterZones s.number d copy.regs) (sym w.on) (h.own_zones on);
    hold = h.hold;
  }
