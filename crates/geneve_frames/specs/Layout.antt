-- How a Geneve frame is laid out in bytes, whatever it means: the base header of RFC 8926, section 3.4, the options of
-- section 3.5, and what follows them.
use Rattle.std.specs.Prelude.{◌≡◌, ℕ, ◌+◌, ◌*◌, ◌^◌, ◌<◌, List, [], ◌∷◌, ◌++◌, length}
use Rattle.std.specs.List.{flat_map, AllByRecursion}
use Rattle.std.specs.Int.{bytes_high_first}

-- the fields of the base header
pub record BaseHeader : Type 0 where
  pub version : ℕ
  pub words : ℕ  -- the length of the options, in words of four bytes
  pub control : ℕ
  pub flags : ℕ  -- the critical flag, and six reserved bits
  pub protocol : ℕ
  pub vni : ℕ
  pub reserved : ℕ

-- each field fits its bits
pub record IsBaseHeader (base : BaseHeader) : Type 0 where
  pub version : base.version < 2 ^ 2
  pub words : base.words < 2 ^ 6
  pub control : base.control < 2
  pub flags : base.flags < 2 ^ 7
  pub protocol : base.protocol < 2 ^ 16
  pub vni : base.vni < 2 ^ 24
  pub reserved : base.reserved < 2 ^ 8

-- eight bytes
abbrev pub base_bytes : BaseHeader → List ℕ
base_bytes base = (2 ^ 6 * base.version + base.words) ∷ (2 ^ 7 * base.control + base.flags) ∷ (bytes_high_first 2 base.protocol ++ (bytes_high_first 3 base.vni ++ base.reserved ∷ []))

-- the fields of an option, and its data
pub record TunnelOption : Type 0 where
  pub class : ℕ
  pub kind : ℕ
  pub reserved : ℕ
  pub words : ℕ  -- the length of the data, in words of four bytes
  pub content : List ℕ

-- each field fits its bits, and the data is as long as the option says
pub record IsTunnelOption (option : TunnelOption) : Type 0 where
  pub class : option.class < 2 ^ 16
  pub kind : option.kind < 2 ^ 8
  pub reserved : option.reserved < 2 ^ 3
  pub words : option.words < 2 ^ 5
  pub content : length option.content ≡ 4 * option.words

-- four bytes, and the data
abbrev pub option_bytes : TunnelOption → List ℕ
option_bytes option = bytes_high_first 2 option.class ++ option.kind ∷ (2 ^ 5 * option.reserved + option.words) ∷ option.content

-- the bytes are these options, one after the other
pub record AreOptions (bytes : List ℕ) (options : List TunnelOption) : Type 0 where
  pub each : AllByRecursion IsTunnelOption options
  pub whole : bytes ≡ flat_map option_bytes options

-- the frame begins with this base header
pub record HasHeader (frame : List ℕ) (base : BaseHeader) (rest : List ℕ) : Type 0 where
  pub fits : IsBaseHeader base
  pub whole : frame ≡ base_bytes base ++ rest

-- the frame is this base header, these options, which are as long as the header says, and the inner frame
pub record IsFrameLaidOut (frame : List ℕ) (base : BaseHeader) (options : List TunnelOption) (inner : List ℕ) : Type 0 where
  pub begins : HasHeader frame base (flat_map option_bytes options ++ inner)
  pub each : AllByRecursion IsTunnelOption options
  pub fills : length (flat_map option_bytes options) ≡ 4 * base.words
