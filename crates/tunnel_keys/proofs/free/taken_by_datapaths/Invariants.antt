use Rattle.std.proofs.Common.{◌≡◌, ◌++◌, map, drop}
use Rattle.tunnel_keys.specs.Keys.{taken_datapaths}
use Rattle.tunnel_keys.proofs.free.taken_by_datapaths.Given as goal

-- what is left comes behind what was taken so far
abbrev pub invariant-loop-datapath : goal.invariant-loop-datapath
invariant-loop-datapath l = l.taken ++ map (λ e. e.1.key) l.datapath-iterator ≡ map (λ e. e.1.key) l.live.entries

abbrev pub invariant-loop-held : goal.invariant-loop-held
invariant-loop-held l = l.taken ++ map (λ h. h.key) (drop l.held-index l.retired) ≡ taken_datapaths l.live.entries l.retired
