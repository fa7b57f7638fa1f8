-- Addresses put in order from the last to the first.
use Rattle.std.specs.Prelude.{◌≡◌, ◌++◌, List, [], ◌∷◌}
use Rattle.std.specs.BTreeSet.{insert_key}
use Rattle.std.proofs.Common.{refl, ap}
use Rattle.ovn_base.specs.declared.address.Ip4.{Ip4}
use Rattle.stage_rows.specs.Facts.{ip_cmp, ips_in_order}

-- the addresses among those that are in order already
abbrev pub put_onto : List Ip4 → List Ip4 → List Ip4
put_onto keys [] = keys
put_onto keys (ip ∷ ips) = insert_key ip_cmp (put_onto keys ips) ip

pub put_none : (ips : List Ip4) → put_onto [] ips ≡ ips_in_order ips
put_none [] = refl
put_none (ip ∷ ips) = ap (λ keys. insert_key ip_cmp keys ip) (put_none ips)

pub put_last : (keys ips : List Ip4) (ip : Ip4) → put_onto keys (ips ++ ip ∷ []) ≡ put_onto (insert_key ip_cmp keys ip) ips
put_last keys [] ip = refl
put_last keys (x ∷ ips) ip = ap (λ ks. insert_key ip_cmp ks x) (put_last keys ips ip)
