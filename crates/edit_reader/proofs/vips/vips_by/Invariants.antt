use Rattle.std.specs.Prelude.{◌≡◌, [], map, drop}
use Rattle.edit_reader.specs.Vips.{vips_by}
use Rattle.edit_reader.proofs.vips.vips_by.Given as goal

abbrev pub invariant-texts : goal.invariant-texts
invariant-texts l = vips_by l.vips.items (map (λ t. (t.0.now, t.1.now)) (drop l.at-index l.texts)) ≡ vips_by [] (map (λ t. (t.0.now, t.1.now)) l.texts)
