use Rattle.std.specs.Prelude.{◌≡◌, ◌++◌, ◌∷◌, ◌/◌, ◌%◌, ℕ, List}
use Rattle.std.specs.Fmt.{decimal}
use Rattle.std.proofs.Common.{ap, append_assoc, get_or, ◌∙◌}
use Rattle.ovn_base.proofs.print_address.push_ip4.Goals as goal

pub returns-clause-ok : goal.returns-clause-ok
returns-clause-ok c =
    let n = c.args.ip.0 in
    let e1 : c.from.result ≡ n / 16777216 % 256 = c.from.ensures ∙ ap (λ (xs : List ℕ). get_or xs 0 0) c.to_be_bytes.ensures in
    let e2 : c.from-2.result ≡ n / 65536 % 256 = c.from-2.ensures ∙ ap (λ (xs : List ℕ). get_or xs 1 0) c.to_be_bytes.ensures in
    let e3 : c.from-3.result ≡ n / 256 % 256 = c.from-3.ensures ∙ ap (λ (xs : List ℕ). get_or xs 2 0) c.to_be_bytes.ensures in
    let e4 : c.from-4.result ≡ n % 256 = c.from-4.ensures ∙ ap (λ (xs : List ℕ). get_or xs 3 0) c.to_be_bytes.ensures in
    rw (c.in_ok-push_number-4.ensures.ok, c.in_ok-push-3.ensures.items, c.in_ok-push_number-3.ensures.ok, c.in_ok-push-2.ensures.items, c.in_ok-push_number-2.ensures.ok, c.in_ok-push.ensures.items, c.in_ok-push_number.ensures.ok) (
    simp append_assoc (λ i. c.args.out.now.items ++ (decimal (e1 i) ++ 46 ∷ (decimal (e2 i) ++ 46 ∷ (decimal (e3 i) ++ 46 ∷ decimal (e4 i))))))
