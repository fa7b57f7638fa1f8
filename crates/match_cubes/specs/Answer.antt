-- What `cubes` answers.
use Rattle.std.specs.Prelude.{◌≡◌, ◌≤◌, ◌<◌, ◌↔◌, ℕ, true, List, Result, Ok, Err}
use Rattle.ovn_base.specs.declared.limits.TheConstants.{MAX_WIDTH}
use Rattle.ovn_base.specs.lists.Among.{Among}
use Rattle.inet_packet.specs.declared.cube.Cube.{Cube}
use Rattle.inet_packet.specs.declared.packet.Packet.{Packet}
use Rattle.inet_packet.specs.declared.regs.Regs.{Regs}
use Rattle.inet_packet.specs.Fits.{CubeFits}
use Rattle.match_language.specs.declared.expr.Expr.{Expr}
use Rattle.match_cubes.specs.declared.fault.CubeFault.{CubeFault}
use Rattle.match_cubes.specs.declared.fault.CubeFault.TheVariants as fault
use Rattle.match_cubes.specs.Points.{Setting}
use Rattle.match_cubes.specs.Holds.{holds}
use Rattle.match_cubes.specs.Width.{saturated}
use Rattle.match_cubes.specs.Suited.{HasFieldsInRange}

-- one of the cubes holds the packet with its registers
pub record InOne (cubes : List Cube) (regs : Regs) (packet : Packet) : Type 0 where
  pub cube : Cube
  pub among : Among cube cubes
  pub fits : CubeFits cube regs packet

-- It is too wide exactly where it is wider than 65,536, and then this is how wide.
abbrev pub IsWidth : ℕ → Result (List Cube) CubeFault → Type 0
IsWidth w (Ok cs) = w ≤ MAX_WIDTH
IsWidth w (Err (fault.TooWide n)) = (MAX_WIDTH < w) × (n ≡ saturated w)
IsWidth w (Err fault.Memory) = w ≤ MAX_WIDTH

-- A packet with its registers is in one of the cubes exactly where the match holds of it.
abbrev pub AreExact : Setting → Expr → List Cube → Type 0
AreExact s e cs = (regs : Regs) (packet : Packet) → HasFieldsInRange packet → InOne cs regs packet ↔ (holds s e regs packet ≡ true)
