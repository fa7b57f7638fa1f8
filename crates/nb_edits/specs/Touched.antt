-- The names of the records that operations can change.
use Rattle.std.specs.Prelude.{◌≡◌, ℕ, List, [], ◌∷◌}
use Rattle.std.specs.BTreeSet.{insert_key}
use Rattle.std.specs.Cmp.Lexicographic.{slice_cmp}
use Rattle.std.specs.Option.{option_map_or}
use Rattle.std.specs.Ordering.{nat_cmp}
use Rattle.ovn_base.specs.declared.name.Name.{Name}
use Rattle.ovn_base.specs.lists.Among.{Among}
use Rattle.nb_records.specs.Editing.{operated}
use Rattle.nb_records.specs.Network.{Network, record_at, name_of}
use Rattle.nb_records.specs.declared.change.Op.{Op}
use Rattle.nb_records.specs.declared.change.Op.TheVariants as op
use Rattle.nb_records.specs.declared.kinds.Kind.{Kind}

-- the name of the only records that the operation can change
abbrev pub touched_name : Network → Op → Name
touched_name net (op.Add r) = name_of r
touched_name net (op.Set k name c) = option_map_or name_of (record_at net k name) name
touched_name net (op.Remove k name) = name
touched_name net (op.Health balancer backend online) = balancer

-- the names with those of all operations, each on what those before it leave, in order
abbrev pub touched_names : Network → List Name → List Op → ℕ → List Name
touched_names net names [] n = names
touched_names net names (o ∷ ops) n = touched_names (operated net o n) (insert_key (slice_cmp nat_cmp) names (touched_name net o)) ops n

-- at each name but these there are the same records
abbrev pub AgreeBut : List Name → Network → Network → Type 0
AgreeBut names before after = (k : Kind) (q : Name) → ¬ Among q names → record_at after k q ≡ record_at before k q
