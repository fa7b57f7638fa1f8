use Rattle.std.proofs.Common.{◌≡◌, true, refl}
use Rattle.std.proofs.lemmas.Bool.{false≢true}
use Rattle.std.specs.Cmp.{first_so, second_so}
use Rattle.ovn_base.proofs.Exact.{nat_exact, pointwise_exact}
use Rattle.flow_table.specs.contracts.flow.FlowOpPartialEq.TheImpl.{ghosts}
use Rattle.flow_table.specs.declared.flow.FlowOp.{FlowOp}
use Rattle.flow_table.specs.declared.flow.FlowOp.TheVariants.{Set, OutIsIn, Find, Undo, Translate, Touch, Block, Unblock, Commit, Dnat, Snat, Balance, ArpReply, EchoReply, DecTtl, NextDst, EthSrc, EthDst, Go, Drop, Header, Frame, Copies, Output, Patch}
use Rattle.flow_table.proofs.exact.exact_op.Goals as goal

pub returns : goal.returns
returns c = λ a b. (same a b, c.equal_where_same.ensures a b)
  where
    same : (a b : FlowOp) → ghosts.eq a b ≡ true → a ≡ b
    same (Set r n) (Set s m) h = let regs = (c.exact_reg.ensures r s).0 (first_so _ _ h) in let values = nat_exact n m (second_so _ _ h) in λ i. Set (regs i) (values i)
    same OutIsIn OutIsIn h = refl
    same (Find z) (Find y) h = let zones = (c.exact_zone_of.ensures z y).0 h in λ i. Find (zones i)
    same Undo Undo h = refl
    same Translate Translate h = refl
    same Touch Touch h = refl
    same Block Block h = refl
    same Unblock Unblock h = refl
    same (Commit z) (Commit y) h = let zones = (c.exact_zone_of.ensures z y).0 h in λ i. Commit (zones i)
    same (Dnat z p) (Dnat y q) h = let zones = (c.exact_zone_of.ensures z y).0 (first_so _ _ h) in let ips = (c.exact_ip4.ensures.equal p q).0 (second_so _ _ h) in λ i. Dnat (zones i) (ips i)
    same (Snat z p) (Snat y q) h = let zones = (c.exact_zone_of.ensures z y).0 (first_so _ _ h) in let ips = (c.exact_ip4.ensures.equal p q).0 (second_so _ _ h) in λ i. Snat (zones i) (ips i)
    same (Balance z v xs) (Balance y w ys) h =
        let rest = second_so _ _ h in
        let zones = (c.exact_zone_of.ensures z y).0 (first_so _ _ h) in
        let vips = (c.exact_backend.ensures.equal v w).0 (first_so _ _ rest) in
        let backends = pointwise_exact _ (λ p q. (c.exact_backend.ensures.equal p q).0) xs ys (second_so _ _ rest) in
        λ i. Balance (zones i) (vips i) (backends i)
    same (ArpReply m p) (ArpReply n q) h = let macs = (c.exact_mac.ensures.equal m n).0 (first_so _ _ h) in let ips = (c.exact_ip4.ensures.equal p q).0 (second_so _ _ h) in λ i. ArpReply (macs i) (ips i)
    same EchoReply EchoReply h = refl
    same DecTtl DecTtl h = refl
    same NextDst NextDst h = refl
    same (EthSrc m) (EthSrc n) h = let macs = (c.exact_mac.ensures.equal m n).0 h in λ i. EthSrc (macs i)
    same (EthDst m) (EthDst n) h = let macs = (c.exact_mac.ensures.equal m n).0 h in λ i. EthDst (macs i)
    same (Go n) (Go m) h = let tables = nat_exact n m h in λ i. Go (tables i)
    same (Drop x) (Drop y) h = let causes = (c.exact_cause.ensures x y).0 h in λ i. Drop (causes i)
    same Header Header h = refl
    same (Frame p) (Frame q) h = let names = (c.exact_name.ensures.equal p q).0 h in λ i. Frame (names i)
    same (Copies xs) (Copies ys) h = let members = pointwise_exact _ (λ p q. (c.exact_member.ensures p q).0) xs ys h in λ i. Copies (members i)
    same (Output p) (Output q) h = let names = (c.exact_name.ensures.equal p q).0 h in λ i. Output (names i)
    same (Patch d k x z) (Patch e l y w) h =
        let others = second_so _ _ h in
        let zones = second_so _ _ others in
        let datapaths = nat_exact d e (first_so _ _ h) in
        let ports = nat_exact k l (first_so _ _ others) in
        let dnats = nat_exact x y (first_so _ _ zones) in
        let snats = nat_exact z w (second_so _ _ zones) in
        λ i. Patch (datapaths i) (ports i) (dnats i) (snats i)
    same _ _ h = absurd (false≢true h)
