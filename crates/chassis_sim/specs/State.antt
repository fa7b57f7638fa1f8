-- What is seen of the simulated chassis.
use Rattle.std.specs.Prelude.{ℕ, ◌&&◌, Bool, List, [], Option, slice_get}
use Rattle.std.specs.Map.{lookup, remove_entry}
use Rattle.std.specs.Option.{option_and_then}
use Rattle.std.specs.BTreeMap.{is_at}
use Rattle.std.specs.Ordering.{nat_cmp}
use Rattle.std.proofs.Math.Dec.{eqb as nat_eq}
use Rattle.ovn_base.specs.declared.name.Name.{Name}
use Rattle.ovn_base.specs.names.SameName.{same_name}
use Rattle.flow_table.specs.declared.flow.Flow.{Flow}
use Rattle.switch_engine.specs.Zones.{HeldZones, ZoneLists}
use Rattle.chassis_sim.specs.declared.underlay.WaitingFrame.{WaitingFrame}

-- a datapath key and a port key
abbrev pub KeyPair : Type 0
KeyPair = ℕ × ℕ

-- what the chassis hold, and what is on its way between them
pub record SimState : Type 0 where
  -- the flows that each chassis holds
  pub chassis : List (Name × List Flow)
  -- the connection lists of each of these chassis, under their numbers
  pub zones : List (Name × ZoneLists)
  -- the chassis of each bound port
  pub bindings : List (Name × Name)
  -- the name of each pair of keys; at port key 0 that of the datapath itself
  pub names : List (KeyPair × Name)
  -- the frames that wait, in order of number
  pub waiting : List (ℕ × WaitingFrame)
  -- the number of the next frame
  pub next : ℕ

-- no chassis, no binding, no name and no frame
abbrev pub nothing_held : SimState
nothing_held = record { chassis = []; zones = []; bindings = []; names = []; waiting = []; next = 1 }

-- what stands under the name
abbrev pub at_name : {X : Type 0} → List (Name × X) → Name → Option X
at_name entries name = lookup (same_name name) entries

-- the keys are the same
abbrev pub same_pair : KeyPair → KeyPair → Bool
same_pair a b = nat_eq a.0 b.0 && nat_eq a.1 b.1

-- what stands under the number
abbrev pub numbered : {X : Type 0} → List (ℕ × X) → ℕ → Option X
numbered entries n = lookup (is_at (nat_cmp n)) entries

-- what waits, without the frame of the number
abbrev pub without : SimState → ℕ → SimState
without state n = record state { waiting = remove_entry (is_at (nat_cmp n)) state.waiting }

-- the flow of the chassis at the index
abbrev pub flow_at : SimState → Name → ℕ → Option Flow
flow_at state chassis index = option_and_then (λ flows. slice_get flows index) (at_name state.chassis chassis)

module _ (T : Type 0) where
  -- the tables and the zones of each chassis, zones for chassis that come, and for how much more there is room
  pub record SimRoom : Type 0 where
    pub chassis : ℕ
    pub zoned : ℕ
    pub bindings : ℕ
    pub names : ℕ
    -- what the tables have room for they say themselves
    pub tables : List (Name × T)
    pub zones : List (Name × HeldZones)
    pub fresh : List HeldZones

  -- what is seen of the simulated chassis
  pub record SimView : Type 0 where
    pub state : SimState
    pub room : SimRoom
