-- What a field of a cube adds to the hash of a flow.
use Rattle.std.specs.Prelude.{◌≡◌, ◌&&◌, ◌++◌, Bool, true, false, [], cond, nat_eq}
use Rattle.std.proofs.Common.{ap}
use Rattle.std.specs.Bool.{Decides}
use Rattle.std.specs.Hash as fed
use Rattle.std.specs.Hash.{HashWrites}
use Rattle.std.specs.Cmp.{first_so, second_so}
use Rattle.std.proofs.lemmas.Bool.Decides.{Decides-eqb}
use Rattle.inet_packet.specs.declared.cube.Bits.{Bits}

-- its value and its mask, and nothing where no bit counts
abbrev pub fed_by : Bits → HashWrites
fed_by b = cond (nat_eq b.mask 0) [] (fed.u64 b.value ++ fed.u64 b.mask)

-- the values are one, and the masks
abbrev pub same_bits : Bits → Bits → Bool
same_bits a b = nat_eq a.value b.value && nat_eq a.mask b.mask

both_so : (a b : Bool) → a ≡ true → b ≡ true → (a && b) ≡ true
both_so true b p q = q
both_so false b p q = p

pub same_bits_decides : (a b : Bits) → Decides (same_bits a b) (a ≡ b)
same_bits_decides a b = (
  λ h i. record {
    value = (Decides-eqb a.value b.value).0 (first_so (nat_eq a.value b.value) (nat_eq a.mask b.mask) h) i;
    mask = (Decides-eqb a.mask b.mask).0 (second_so (nat_eq a.value b.value) (nat_eq a.mask b.mask) h) i;
  },
  λ e. both_so (nat_eq a.value b.value) (nat_eq a.mask b.mask)
      ((Decides-eqb a.value b.value).1 (ap (λ (c : Bits). c.value) e))
      ((Decides-eqb a.mask b.mask).1 (ap (λ (c : Bits). c.mask) e)),
)
