use Rattle.match_language.specs.declared.field.Direction.TheVariants as d
use Rattle.match_language.proofs.Ways.{fits_to}
use Rattle.match_language.proofs.reader.fits_to_lport.Goals as goal

pub returns : goal.returns
returns c = λ n x h. fits_to d.FromLport n x h
