-- A copy at a spot of a router, with the zone of one of the router's lists: how it goes on from there, or is dropped.
use Rattle.std.specs.Prelude.{◌≡◌, ◌==◌, ℕ, Bool, true, false, cond, List, [], ◌∷◌, Some, refl}
use Rattle.std.proofs.Common.{sym, ap, ◌∙◌}
use Rattle.conn_table.specs.Connections.{ConnectionList}
use Rattle.conn_table.specs.Picks.{Choice}
use Rattle.conn_table.specs.Tuples.{has_ports, with_addresses, with_tuple}
use Rattle.conn_table.specs.declared.tuple.Tuple.{Tuple}
use Rattle.flow_lowering.specs.Registers.{reg_number}
use Rattle.flow_table.specs.declared.flow.Cause.{Cause}
use Rattle.flow_table.specs.declared.flow.ZoneOf.{ZoneOf}
use Rattle.inet_packet.specs.Fields as field
use Rattle.inet_packet.specs.Rewrites.{over_ip4, with_ip4, ip4_with_src, ip4_with_dst, ip4_with_ports}
use Rattle.inet_packet.specs.Whole.{IsWhole}
use Rattle.inet_packet.specs.declared.packet.Body.{Body}
use Rattle.inet_packet.specs.declared.packet.Body.TheVariants as body
use Rattle.inet_packet.specs.declared.packet.Ip4Packet.{Ip4Packet}
use Rattle.inet_packet.specs.declared.packet.Packet.{Packet}
use Rattle.inet_packet.specs.declared.regs.Regs.{Regs}
use Rattle.net_model.specs.Headers.{carries_ip4}
use Rattle.net_model.specs.Trail.{Trail, Lists, End, ListOwner, is_dropped, list_of, with_list, Spot, drop_for}
use Rattle.switch_engine.specs.Actions.{drop_at}
use Rattle.switch_engine.specs.Zones.{ZoneLists, zone_number, with_zone}
use Rattle.switch_engine.specs.declared.carried.Carried.{Carried}
use Rattle.sim_laws.proofs.pipelines.Copies.{has_datapath_key, has_port_key}
use Rattle.sim_laws.proofs.pipelines.Noting.{IsOwnZone}
use Rattle.sim_laws.proofs.router_lists.OwnLists.{owned, holds_written}
use Rattle.sim_laws.specs.Naming.{IsNumbered}
use Rattle.sim_laws.specs.Naming.IsNumbered.{drop}
use Rattle.sim_laws.specs.pipelines.HeldLists.{AreApart, IsGoodList, HoldLists}
use Rattle.sim_laws.specs.pipelines.Pieces.{Piece, trail_with, has_ended, ComesTo}
use Rattle.sim_laws.specs.pipelines.Standing.{Chassis}
use Rattle.sim_laws.specs.routers.TranslatingWords.{IsAtSpot, is_none_set, GoesOnAt}

-- ---- what stays

-- another IPv4 header is one still
kept : (f : Ip4Packet → Ip4Packet) (p : Packet) → carries_ip4 (with_ip4 f p) ≡ carries_ip4 p
kept f p = by p.body
  where
    by : (b : Body) → (field.ether_type (over_ip4 f b) == 0x0800) ≡ (field.ether_type b == 0x0800)
    by (body.Ip4 i) = refl
    by (body.Arp a) = refl
    by (body.Other t) = refl

-- so is one of another tuple
pub tuple_kept : (t : Tuple) (p : Packet) → carries_ip4 (with_tuple t p) ≡ carries_ip4 p
tuple_kept t p = by (has_ports t.protocol)
  where
    addressed : carries_ip4 (with_addresses t p) ≡ carries_ip4 p
    addressed = kept (ip4_with_dst t.dst) (with_ip4 (ip4_with_src t.src) p) ∙ kept (ip4_with_src t.src) p

    by : (b : Bool) → carries_ip4 (cond b (with_ip4 (ip4_with_ports t.src_port t.dst_port) (with_addresses t p)) (with_addresses t p)) ≡ carries_ip4 p
    by true = kept (ip4_with_ports t.src_port t.dst_port) (with_addresses t p) ∙ addressed
    by false = addressed

-- ---- a copy

-- a copy at a spot of a router, the zone of one of the router's lists, and the table at which it goes on
pub record AtSpot (s : Chassis) : Type 0 where
  pub apart : AreApart s.number
  pub spot : Spot
  pub p : Packet
  pub lists : Lists
  pub zones : ZoneLists
  pub copy : Carried
  pub here : IsAtSpot s spot p lists zones copy
  pub owner : ListOwner
  pub side : ZoneOf
  pub has : s.number owner ≡ Some (zone_number side copy.regs)
  pub next : ℕ

module _ (s : Chassis) (b : AtSpot s) where
  open b use {apart, spot, p, lists, zones, copy, here as h, owner, side, has, next}

  abbrev pub z : ℕ
  z = zone_number side copy.regs

  abbrev pub list : ConnectionList
  list = list_of lists owner

  abbrev pub Goes : Lists → Packet → ZoneLists → Carried → Type 0
  Goes = GoesOnAt s next is_none_set copy

  abbrev pub lists_with : ConnectionList → Lists
  lists_with l = with_list lists owner l

  pub own : IsOwnZone zones lists owner z
  own = owned h.hold owner z has

  pub holds_own : (l : ConnectionList) → IsGoodList l → HoldLists s.number (with_zone zones z l) (lists_with l)
  holds_own l good = holds_written s.number apart zones lists h.hold owner z has l good

  -- with another packet and other lists
  pub goes_with : (q : Packet) → IsWhole q → carries_ip4 q ≡ carries_ip4 p → (after : Lists) (last : ZoneLists) → HoldLists s.number last after → (new : Carried) → new.table ≡ next → new.packet ≡ q → new.regs ≡ copy.regs → new.passes ≡ copy.passes
      → Goes after q last new
  goes_with q whole kind after last hold new in_table packet regs passes = record {
    in_table = in_table;
    packet = packet;
    whole = whole;
    ip4 = ap carries_ip4 packet ∙ kind ∙ sym (ap carries_ip4 h.packet);
    still = record { passes = passes; entry = ap (λ (r : Regs). r.at) regs; registers = λ r free. ap (λ (x : Regs). reg_number r x) regs };
    hold = hold;
  }

  -- a drop names the spot
  pub drop_number : (why : Cause) → IsNumbered s.keys (is_dropped spot.datapath spot.port why) (drop_at copy.table why copy.regs)
  drop_number why = drop (has_datapath_key h.on) (has_port_key h.port)

  -- the network drops the packet, and the walk the copy
  pub drops_here : (why : Cause) (piece : Piece Packet) (after : Lists) (last : ZoneLists) → HoldLists s.number last after
      → ((rest : Trail → Packet → Trail) (choices : List Choice) (ends : List End) → piece rest (trail_with lists choices ends) ≡ drop_for why spot (trail_with after choices ends))
      → ComesTo s piece lists Goes (drop_at copy.table why copy.regs ∷ []) last []
  drops_here why piece after last hold is = record {
    own = is_dropped spot.datapath spot.port why ∷ [];
    numbered = (drop_number why, tt);
    landing = has_ended after;
    is = is;
    lands = (refl, hold);
  }
