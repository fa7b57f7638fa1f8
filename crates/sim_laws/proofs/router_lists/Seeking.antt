-- A copy that was looked up in a router's list goes on, and remembers what was found.
use Rattle.std.specs.Prelude.{◌≡◌, ℕ, nat_eq, Bool, true, false, cond, Option, Some, bit_and, bit_or, refl}
use Rattle.std.specs.Int.{bit_at}
use Rattle.std.proofs.Common.{sym, ap, ◌∙◌, subst}
use Rattle.conn_table.specs.Connections.{ConnectionList}
use Rattle.conn_table.specs.Tracking.{seen, state_of}
use Rattle.conn_table.specs.declared.connection.State.{State}
use Rattle.flow_lowering.specs.Registers.{reg_number}
use Rattle.flow_table.specs.declared.flow.ZoneOf.{ZoneOf}
use Rattle.flow_table.specs.declared.flow.ZoneOf.TheVariants as zone
use Rattle.inet_packet.specs.Whole.{IsWhole}
use Rattle.inet_packet.specs.declared.packet.Packet.{Packet}
use Rattle.inet_packet.specs.declared.regs.Reg.{Reg}
use Rattle.inet_packet.specs.declared.regs.Reg.TheVariants as reg
use Rattle.inet_packet.specs.declared.regs.RegFlags.{RegFlags}
use Rattle.inet_packet.specs.declared.regs.Regs.{Regs}
use Rattle.net_model.specs.Headers.{carries_ip4}
use Rattle.net_model.specs.Trail.{Lists, ListOwner, list_of}
use Rattle.switch_engine.specs.Actions.{set_flag, gone_on}
use Rattle.switch_engine.specs.Tracking.{entry_named, noted, looked_up_in, looked_up}
use Rattle.switch_engine.specs.Tracking.{flag_number as entry_flag}
use Rattle.switch_engine.specs.Zones.{ZoneLists, zone_number}
use Rattle.switch_engine.specs.declared.carried.Carried.{Carried}
use Rattle.sim_laws.proofs.pipelines.Noting.{found_code}
use Rattle.sim_laws.proofs.pipelines.Registers.{or_stays, and_stays}
use Rattle.sim_laws.proofs.router_lists.OwnLists.{owned}
use Rattle.sim_laws.specs.pipelines.HeldLists.{HoldLists}
use Rattle.sim_laws.specs.pipelines.Standing.{Chassis, IsStill}
use Rattle.sim_laws.specs.routers.TranslatingWords.{seen_by, is_sought, GoesOnSought}

-- ---- registers

-- another flag than that of blocked connections stays
other_flag : (flags : RegFlags) (k i : ℕ) → bit_at 4 i ≡ 0 → bit_at 251 i ≡ 1 → bit_at (set_flag 4 k flags).0 i ≡ bit_at flags.0 i
other_flag flags k i low high = by (nat_eq k 0)
  where
    by : (b : Bool) → bit_at (cond b (bit_and flags.0 251) (bit_or flags.0 4)) i ≡ bit_at flags.0 i
    by true = and_stays flags.0 251 i high
    by false = or_stays flags.0 4 i low

-- what a list says is noted, and nothing else is
pub still_sought : (z : ℕ) (list : ConnectionList) (state : State) (before : Carried) → IsStill is_sought before (noted z list state before)
still_sought z list state before = record { passes = refl; entry = refl; registers = each }
  where
    k : ℕ
    k = entry_flag (entry_named list state)

    each : (r : Reg) → is_sought r ≡ false → reg_number r (noted z list state before).regs ≡ reg_number r before.regs
    each reg.Dp h = refl
    each reg.InPort h = refl
    each reg.OutPort h = refl
    each reg.Next h = refl
    each reg.ZIn h = refl
    each reg.ZOut h = refl
    each reg.ZDnat h = refl
    each reg.ZSnat h = refl
    each reg.Verdict h = refl
    each reg.Tier h = refl
    each reg.Loopback h = other_flag before.regs.flags k 0 refl refl
    each reg.Tracked h = other_flag before.regs.flags k 1 refl refl
    each reg.Own h = other_flag before.regs.flags k 3 refl refl
    each reg.Arrived h = other_flag before.regs.flags k 4 refl refl
    each reg.State h = cc
    each reg.Blocked h = cc

-- the number of a zone is none of what is noted
same_number : (z : ZoneOf) (n : ℕ) (list : ConnectionList) (state : State) (copy : Carried) → zone_number z (noted n list state copy).regs ≡ zone_number z copy.regs
same_number zone.In n list state copy = refl
same_number zone.Out n list state copy = refl
same_number zone.Dnat n list state copy = refl
same_number zone.Snat n list state copy = refl

-- ---- the copy

module _ (s : Chassis) (z : ZoneOf) (owner : ListOwner) (table : ℕ) (before : Carried) (lists : Lists) (p : Packet) (zones : ZoneLists) (copy : Carried) (packet : copy.packet ≡ p) (whole : IsWhole p)
    (ip4 : carries_ip4 copy.packet ≡ carries_ip4 before.packet) (regs : copy.regs ≡ before.regs) (passes : copy.passes ≡ before.passes) (hold : HoldLists s.number zones lists) (has : s.number owner ≡ Some (zone_number z copy.regs)) where
  abbrev n : ℕ
  n = zone_number z copy.regs

  abbrev sought : Carried
  sought = noted n (list_of lists owner) (state_of (seen_by owner lists p)) copy

  -- it is looked up in the owner's list
  seeks : looked_up n zones copy ≡ sought
  seeks =
      ap (λ (l : Option ConnectionList). looked_up_in n l copy) (owned hold owner n has).held
      ∙ ap (λ (q : Packet). noted n (list_of lists owner) (state_of (seen (list_of lists owner) q)) copy) packet

  still_first : IsStill is_sought before sought
  still_first =
      let later = still_sought n (list_of lists owner) (state_of (seen_by owner lists p)) copy in
      record {
        passes = passes;
        entry = ap (λ (r : Regs). r.at) regs;
        registers = λ r free. later.registers r free ∙ ap (λ (x : Regs). reg_number r x) regs;
      }

  goes_sought : GoesOnSought s table z owner before lists p zones (gone_on table sought)
  goes_sought = record {
    goes = record { in_table = refl; packet = packet; whole = whole; ip4 = ip4; still = record { passes = still_first.passes; entry = still_first.entry; registers = still_first.registers }; hold = hold };
    sought = record {
      state = found_code (seen_by owner lists p);
      entry = ap (λ (k : ℕ). Some (record { zone = k; state = state_of (seen_by owner lists p) })) (sym (same_number z n (list_of lists owner) (state_of (seen_by owner lists p)) copy));
    };
  }

  pub goes_looked_up : GoesOnSought s table z owner before lists p zones (gone_on table (looked_up n zones copy))
  goes_looked_up = subst (λ (k : Carried). GoesOnSought s table z owner before lists p zones (gone_on table k)) (sym seeks) goes_sought
