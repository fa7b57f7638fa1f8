-- The flows of a chassis by table, mask and values.
use Rattle.std.specs.Prelude.{◌≡◌, ◌<◌, ◌≤◌, ◌+◌, ℕ, Bool, cond, ◌&&◌, Option, None, List, [], ◌∷◌, length, nat_eq, slice_get}
use Rattle.std.specs.Bool.{beq}
use Rattle.std.specs.Cmp.Lexicographic.{pointwise}
use Rattle.std.specs.Option.{option_map_or}
use Rattle.ovn_base.specs.lists.Among.{Among}
use Rattle.ovn_base.specs.declared.delta.Delta.{Delta}
use Rattle.inet_packet.specs.declared.packet.Packet.{Packet}
use Rattle.inet_packet.specs.declared.regs.Regs.{Regs}
use Rattle.flow_table.specs.declared.flow.Flow.{Flow}
use Rattle.flow_table.specs.Change.{IsDeltaOf}
use Rattle.tuple_space.specs.declared.mask.Asked.{Asked}
use Rattle.tuple_space.specs.declared.mask.Mask.{Mask}
use Rattle.tuple_space.specs.declared.turn.Turn.{Turn}
use Rattle.tuple_space.specs.declared.sieve.Sieve.{Sieve}
use Rattle.tuple_space.specs.Masks.{cube_bits, cube_mask, values_wanted, values_under, AllFit}
use Rattle.tuple_space.specs.Bunches.{Bunch, flows_in, flows_under, promised_under}
use Rattle.tuple_space.specs.Turns.{HasTurn, turns_of}
use Rattle.tuple_space.specs.Sieving.{bit_of, IsLetIn}

-- the masks, each at its number, the turns of each table, the sieves of tables, and the flows by key
pub record Space : Type 0 where
  pub masks : List Mask
  pub turns : List (ℕ × List Turn)
  pub sieves : List (ℕ × Sieve)
  pub bunches : List (List ℕ × Bunch)

abbrev pub same_asked : Asked → Asked → Bool
same_asked a b = nat_eq a.field b.field && nat_eq a.bits b.bits

-- the masks are one
abbrev pub same_mask : Mask → Mask → Bool
same_mask m n = pointwise same_asked m.asks n.asks && beq m.entry n.entry

-- the number of the mask; how many there are, where it isn't one of them
abbrev pub mask_number : List Mask → Mask → ℕ
mask_number [] mask = 0
mask_number (m ∷ ms) mask = cond (same_mask m mask) 0 (mask_number ms mask + 1)

-- where the flow belongs: its table, the number of its mask, and what it wants under it
abbrev pub key_in : List Mask → Flow → List ℕ
key_in masks f = f.table ∷ mask_number masks (cube_mask f.cube) ∷ values_wanted f.cube

-- the flow's mask has a number, and a turn in its table with a bound of at least this
pub record IsServed (masks : List Mask) (turns : List (ℕ × List Turn)) (f : Flow) (priority rank : ℕ) : Type 0 where
  pub known : mask_number masks (cube_mask f.cube) < length masks
  pub turn : HasTurn (turns_of turns f.table) (mask_number masks (cube_mask f.cube)) priority rank

-- each flow stands where it belongs, and the bound of its mask's turn is at least its priority with its rank
abbrev pub AreFiled : List Mask → List (ℕ × List Turn) → List (List ℕ × Bunch) → Type 0
AreFiled masks turns bunches = (key : List ℕ) (f : Flow) → Among f (flows_under bunches key) → (key ≡ key_in masks f) × IsServed masks turns f f.priority f.rank

-- the sieve of the flow's table lets the flow's mask through wherever all fields of its cube fit
abbrev pub IsLetThrough : List Mask → List (ℕ × Sieve) → Flow → Type 0
IsLetThrough masks sieves f = (xs : List ℕ) → AllFit (cube_bits f.cube) xs → IsLetIn sieves f.table xs (bit_of (mask_number masks (cube_mask f.cube)))

-- no flow is left out by a sieve
abbrev pub AreLetThrough : List Mask → List (ℕ × Sieve) → List (List ℕ × Bunch) → Type 0
AreLetThrough masks sieves bunches = (key : List ℕ) (f : Flow) → Among f (flows_under bunches key) → IsLetThrough masks sieves f

-- no mask asks for more fields than there are
abbrev pub AreFew : List Mask → Type 0
AreFew masks = (m : Mask) → Among m masks → length m.asks ≤ 30

-- what always holds
pub record IsSpace (masks : List Mask) (turns : List (ℕ × List Turn)) (sieves : List (ℕ × Sieve)) (bunches : List (List ℕ × Bunch)) : Type 0 where
  pub filed : AreFiled masks turns bunches
  pub let_through : AreLetThrough masks sieves bunches
  pub few : AreFew masks

-- how many of the flows belong at the key
abbrev pub count_under : List Mask → List ℕ → List Flow → ℕ
count_under masks key [] = 0
count_under masks key (f ∷ fs) = cond (pointwise nat_eq (key_in masks f) key) 1 0 + count_under masks key fs

-- the delta is one of the flows held, their masks have numbers and turns, and room is promised for what comes at each key
pub record IsSpaceReady (space : Space) (delta : Delta Flow) : Type 0 where
  pub fits : IsDeltaOf (flows_in space.bunches) delta
  pub served : (f : Flow) → Among f delta.added → IsServed space.masks space.turns f 0 0
  pub room : (key : List ℕ) → count_under space.masks key delta.added ≤ promised_under space.bunches key

-- the first flow of the table that wants what the packet has under the mask of this number
abbrev pub first_under : List Mask → List (List ℕ × Bunch) → ℕ → ℕ → Regs → Packet → Option Flow
first_under masks bunches table number regs packet = option_map_or (λ m. slice_get (flows_under bunches (table ∷ number ∷ values_under m regs packet)) 0) (slice_get masks number) None
