-- What a fixed buffer is seen as.
use Rattle.std.specs.Prelude.{ℕ, List}

-- what a fixed buffer is seen as: the text that was cut off last, the held bytes, its size, and the room behind them
pub record WindowState : Type 0 where
  pub text : List ℕ
  pub held : List ℕ
  pub room : ℕ
  pub behind : ℕ
