-- Cubes of which something is left have flows, one by one.
use Rattle.std.specs.Prelude.{◌≡◌, List, [], ◌∷◌, ◌++◌, map, Option, Some, None}
use Rattle.std.specs.List.{filter_map, cons_option}
use Rattle.std.proofs.Common.{ap, ◌∙◌, append_assoc}
use Rattle.inet_packet.specs.declared.cube.Cube.{Cube}
use Rattle.flow_table.specs.declared.flow.Flow.{Flow}

module _ (flow : Cube → Flow) (met : Cube → Option Cube) (flows : List Flow) where
  pub flow_more : (c d : Cube) (cs : List Cube) → Some d ≡ met c → (flows ++ flow d ∷ []) ++ map flow (filter_map met cs) ≡ flows ++ map flow (filter_map met (c ∷ cs))
  flow_more c d cs h =
      append_assoc flows (flow d ∷ []) (map flow (filter_map met cs)) ∙ ap (λ (o : Option Cube). flows ++ map flow (cons_option o (filter_map met cs))) h

  pub flow_none : (c : Cube) (cs : List Cube) → None ≡ met c → flows ++ map flow (filter_map met cs) ≡ flows ++ map flow (filter_map met (c ∷ cs))
  flow_none c cs h = ap (λ (o : Option Cube). flows ++ map flow (cons_option o (filter_map met cs))) h
