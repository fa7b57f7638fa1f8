-- The one spelling that is written spells its parts.
use Rattle.std.proofs.Common.{ℕ, ◌<◌, List, [], ◌∷◌, ◌++◌, refl, sym, ap, arith, zero-add}
use Rattle.std.specs.Int.{bytes_high_first}
use Rattle.geneve_frames.specs.Layout.{BaseHeader, IsBaseHeader, TunnelOption, IsTunnelOption}
use Rattle.geneve_frames.specs.Meaning.{Spells, CarriesKeys, canon}

abbrev canon_base : ℕ → BaseHeader
canon_base vni = record { version = 0; words = 2; control = 0; flags = 64; protocol = 0x6558; vni = vni; reserved = 0 }

abbrev canon_option : ℕ → ℕ → TunnelOption
canon_option in_key out_key = record { class = 0x0102; kind = 0x80; reserved = 0; words = 1; content = bytes_high_first 2 in_key ++ bytes_high_first 2 out_key }

keys_carried : (in_key out_key : ℕ) → in_key < 32768 → out_key < 65536 → CarriesKeys (bytes_high_first 2 in_key ++ bytes_high_first 2 out_key) in_key out_key
keys_carried in_key out_key li lo = record {
  top = 0;
  top_bit = omega arith;
  in_bits = li;
  out_bits = lo;
  whole = ap (λ (n : ℕ). bytes_high_first 2 n ++ bytes_high_first 2 out_key) (sym (zero-add in_key));
}

pub canon_spells : (vni in_key out_key : ℕ) (inner : List ℕ) → vni < 16777216 → in_key < 32768 → out_key < 65536 → Spells (canon vni in_key out_key inner) vni in_key out_key inner
canon_spells vni in_key out_key inner lv li lo =
    let fits : IsBaseHeader (canon_base vni) = record { version = omega arith; words = omega arith; control = omega arith; flags = omega arith; protocol = omega arith; vni = lv; reserved = omega arith } in
    let is : IsTunnelOption (canon_option in_key out_key) = record { class = omega arith; kind = omega arith; reserved = omega arith; words = omega arith; content = refl } in
    record {
      base = canon_base vni;
      options = canon_option in_key out_key ∷ [];
      laid_out = record { begins = record { fits = fits; whole = refl }; each = (is, tt); fills = refl };
      version = refl;
      control = refl;
      protocol = refl;
      network = refl;
      known = refl;
      ovn = canon_option in_key out_key;
      alone = refl;
      keys = keys_carried in_key out_key li lo;
    }
