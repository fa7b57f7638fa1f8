-- What a buffer of lines is after a line was cut off its held bytes.
use Rattle.std.specs.Prelude.{◌≡◌, ◌+◌, ◌∷◌, ◌++◌, length}
use Rattle.ovn_base.specs.lines.Lines.{HasNoFeed}
use Rattle.ovn_base.specs.lines.Reading.{Reading}

-- the new text was cut off the held bytes with its line feed
pub record CutsEnded (old new : Reading) : Type 0 where
  pub no_feed : HasNoFeed new.text
  pub split : old.held ≡ new.text ++ 10 ∷ new.held
  pub given : new.given ≡ old.given + (length new.text + 1)
  pub ended : new.ended ≡ old.ended
  pub faulted : new.faulted ≡ old.faulted
