-- A fault ends the reading.
use Rattle.std.specs.Prelude.{◌≡◌, Err}
use Rattle.edit_reader.specs.Outcomes.{Read, Fails}
use Rattle.edit_reader.specs.declared.event.ReadError.{ReadError}
use Rattle.edit_reader.specs.declared.event.ReadError.TheVariants.{Refused, Memory}
use Rattle.edit_reader.specs.declared.event.ReadRefusal.{ReadRefusal}

pub fails_after : {A B : Type 0} (e : ReadError) (read : Read A) (whole : Read B) → Fails e read → ((f : ReadRefusal) → read ≡ Err f → whole ≡ Err f) → Fails e whole
fails_after Memory read whole h k = tt
fails_after (Refused f) read whole h k = k f h
