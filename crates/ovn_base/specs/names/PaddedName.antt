-- A name is seen as its bytes; it is kept in an array, filled up with zeros.
use Rattle.std.specs.Prelude.{◌≡◌, ◌≤◌, ◌-◌, ◌++◌, ℕ, List, length, take, drop, replicate}
use Rattle.std.proofs.Common.{arith}
use Rattle.std.proofs.lemmas.List.{take-append-drop, length-take-le}
use Rattle.ovn_base.specs.names.NameText.{IsName}
use Rattle.ovn_base.specs.declared.name.Name.TheInside.{Inside}

-- a name's bytes, and zeros after them
pub record IsPadded (n : Inside) : Type 0 where
  pub fits : n.len ≤ 64
  pub whole : length n.bytes ≡ 64
  pub zeros : drop n.len n.bytes ≡ replicate (64 - n.len) 0
  pub named : IsName (take n.len n.bytes)

-- the array and the length of a name's bytes
abbrev pub fields_of : List ℕ → Inside
fields_of xs = record { len = length xs; bytes = xs ++ replicate (64 - length xs) 0 }

-- the fields of the bytes of a name are the name's
pub fields_of-take : (n : Inside) → IsPadded n → fields_of (take n.len n.bytes) ≡ n
fields_of-take n h =
    let same : length (take n.len n.bytes) ≡ n.len = length-take-le n.len n.bytes (omega (arith, h.fits, h.whole)) in
    let filled : take n.len n.bytes ++ replicate (64 - length (take n.len n.bytes)) 0 ≡ n.bytes =
    rw same (rw (← h.zeros) (take-append-drop n.len n.bytes)) in
    λ i. record { len = same i; bytes = filled i }
