-- What a Geneve frame between chassis says, the one spelling that is written, and what is wrong with other bytes.
use Rattle.std.specs.Prelude.{◌≡◌, ◌≢◌, ℕ, ◌+◌, ◌*◌, ◌^◌, ◌<◌, ◌≤◌, ◌==◌, ◌&&◌, nat_le, Bool, true, false, not, List, [], ◌∷◌, ◌++◌, length, filter, ⊤}
use Rattle.std.specs.List.{list_any}
use Rattle.std.specs.Int.{bytes_high_first}
use Rattle.geneve_frames.specs.Layout.{BaseHeader, TunnelOption, HasHeader, IsFrameLaidOut}
use Rattle.geneve_frames.specs.declared.fault.GeneveFault.{GeneveFault}
use Rattle.geneve_frames.specs.declared.fault.GeneveFault.TheVariants.{Short, Version, Control, Protocol, OptionsCut, UnknownCritical, NoOvnOption, TwoOvnOptions}

-- OVN's option: class 0x0102, type 0x80, and one word of data
abbrev pub is_ovn : TunnelOption → Bool
is_ovn option = (option.class == 0x0102) && ((option.kind == 0x80) && (option.words == 1))

-- another option whose type has its highest bit
abbrev pub is_unknown_critical : TunnelOption → Bool
is_unknown_critical option = nat_le 0x80 option.kind && not (is_ovn option)

-- four bytes: a bit that is ignored, 15 bits of in key, and 16 bits of out key
pub record CarriesKeys (content : List ℕ) (in_key out_key : ℕ) : Type 0 where
  pub top : ℕ
  pub top_bit : top < 2
  pub in_bits : in_key < 2 ^ 15
  pub out_bits : out_key < 2 ^ 16
  pub whole : content ≡ bytes_high_first 2 (2 ^ 15 * top + in_key) ++ bytes_high_first 2 out_key

-- The frame carries the inner frame in this virtual network with these keys: version 0, no control frame, Ethernet
-- within, no unknown option that is critical, and exactly one option of OVN, which has the keys.
pub record Spells (frame : List ℕ) (vni in_key out_key : ℕ) (inner : List ℕ) : Type 0 where
  pub base : BaseHeader
  pub options : List TunnelOption
  pub laid_out : IsFrameLaidOut frame base options inner
  pub version : base.version ≡ 0
  pub control : base.control ≡ 0
  pub protocol : base.protocol ≡ 0x6558
  pub network : base.vni ≡ vni
  pub known : list_any is_unknown_critical options ≡ false
  pub ovn : TunnelOption
  pub alone : filter is_ovn options ≡ ovn ∷ []
  pub keys : CarriesKeys ovn.content in_key out_key

-- 02 40 65 58, the network in three bytes, 00 01 02 80 01, each key in two bytes, and the inner frame
abbrev pub canon : ℕ → ℕ → ℕ → List ℕ → List ℕ
canon vni in_key out_key inner = 0x02 ∷ 0x40 ∷ 0x65 ∷ 0x58 ∷ (bytes_high_first 3 vni ++ 0x00 ∷ 0x01 ∷ 0x02 ∷ 0x80 ∷ 0x01 ∷ (bytes_high_first 2 in_key ++ (bytes_high_first 2 out_key ++ inner)))

-- the frame begins with a base header of which this holds
abbrev pub HasBase : List ℕ → (BaseHeader → Type 0) → Type 0
HasBase frame P = (base : BaseHeader) × (rest : List ℕ) × HasHeader frame base rest × P base

-- the frame has whole options of which this holds
abbrev pub HasOptions : List ℕ → (List TunnelOption → Type 0) → Type 0
HasOptions frame P = (base : BaseHeader) × (options : List TunnelOption) × (inner : List ℕ) × IsFrameLaidOut frame base options inner × P options

-- what each fault says of the bytes
abbrev pub Shows : GeneveFault → List ℕ → Type 0
Shows Short frame = length frame < 8
Shows Version frame = HasBase frame (λ base. base.version ≢ 0)
Shows Control frame = HasBase frame (λ base. base.control ≡ 1)
Shows Protocol frame = HasBase frame (λ base. base.protocol ≢ 0x6558)
Shows OptionsCut frame = (8 ≤ length frame) × ¬ (HasOptions frame (λ options. ⊤))
Shows UnknownCritical frame = HasOptions frame (λ options. list_any is_unknown_critical options ≡ true)
Shows NoOvnOption frame = HasOptions frame (λ options. filter is_ovn options ≡ [])
Shows TwoOvnOptions frame = HasOptions frame (λ options. 2 ≤ length (filter is_ovn options))

-- a fault's place in the order
abbrev pub place : GeneveFault → ℕ
place Short = 0
place Version = 1
place Control = 2
place Protocol = 3
place OptionsCut = 4
place UnknownCritical = 5
place NoOvnOption = 6
place TwoOvnOptions = 7

-- the bytes show no fault of the first n
abbrev pub IsClear : ℕ → List ℕ → Type 0
IsClear n frame = (fault : GeneveFault) → place fault < n → ¬ Shows fault frame

-- the first fault, in this order, that the bytes show
pub record IsFirst (fault : GeneveFault) (frame : List ℕ) : Type 0 where
  pub shows : Shows fault frame
  pub first : IsClear (place fault) frame
