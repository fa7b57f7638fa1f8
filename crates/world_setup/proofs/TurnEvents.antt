-- What a turn of the configuration leaves: names, bindings, keys, and the rest of the state.
use Rattle.std.specs.Prelude.{◌≡◌, ℕ, cond, List, [], ◌∷◌, Some, codes, length, unwrap_or, refl}
use Rattle.std.proofs.Common.{arith, sym, ap, ◌∙◌, inl, inr}
use Rattle.std.proofs.lemmas.Bool.{cases_Bool, false≢true}
use Rattle.chassis_sim.specs.Settings.{AreSet, set_in_turn}
use Rattle.chassis_sim.specs.State as sim
use Rattle.chassis_sim.specs.State.{same_pair}
use Rattle.net_model.specs.State.{settled_where_none_waits}
use Rattle.net_model.specs.declared.crossing.Crossing.{Crossing}
use Rattle.ovn_base.specs.names.ByName.{at, put}
use Rattle.ovn_base.specs.names.SameName.{bytes_decides, same_name}
use Rattle.ovn_base.specs.declared.name.Name.{Name}
use Rattle.ovn_base.proofs.ByNameLaws.{put_other, put_there}
use Rattle.sim_laws.specs.Held.{HaveOwnersNames}
use Rattle.tunnel_keys.specs.Keys.{Keys, settled}

-- names stay where none is given
pub still_named : (keys : Keys) (old new : sim.SimState) → AreSet same_pair [] old.names new.names → HaveOwnersNames keys old → HaveOwnersNames keys new
still_named keys old new same named = record {
  datapaths = λ a k has. ap (λ o. unwrap_or o (codes "-")) (same (k.key, 0)) ∙ named.datapaths a k has;
  ports = λ q p k has under. ap (λ o. unwrap_or o (codes "-")) (same (k.key, p.key)) ∙ named.ports q p k has under;
}

-- a port that is bound is at its chassis, and the others are where they were
pub bound_then : (bindings : List (Name × Name)) (p c q : Name) → set_in_turn same_name ((p, Some c) ∷ []) q (at bindings q) ≡ at (put bindings p c) q
bound_then bindings p c q = elim (cases_Bool (same_name p q)) [
  | inl same ↦
      let is : p ≡ q = (bytes_decides p q).0 same in
      ap (λ b. cond b (Some c) (at bindings q)) same ∙ sym (ap (λ n. at (put bindings p c) n) (sym is) ∙ put_there bindings p c)
  | inr other ↦
      ap (λ b. cond b (Some c) (at bindings q)) other ∙ sym (put_other bindings p c q (λ is. false≢true (sym other ∙ (bytes_decides p q).1 (sym is))))
]

-- ---- keys

-- where no key is retired, nothing comes of giving retired ones up
pub same_settled : (ws : List (ℕ × Crossing)) (keys : Keys) → settled keys ≡ keys → settled_where_none_waits ws keys ≡ keys
same_settled [] keys none = none
same_settled (w ∷ ws) keys none = refl

pub none_settled : (keys : Keys) → keys.retired_datapaths ≡ [] → keys.retired_ports ≡ [] → settled keys ≡ keys
none_settled keys d p = λ i. record keys { retired_datapaths = sym d i; retired_ports = sym p i }

-- retired keys are given up where nothing waits, and only there
pub given_up : (ws : List (ℕ × Crossing)) (keys : Keys) → length ws ≡ 0 → settled keys ≡ settled_where_none_waits ws keys
given_up [] keys none = refl
given_up (w ∷ ws) keys none = absurd (omega (arith, none))

pub kept_on : (ws : List (ℕ × Crossing)) (keys : Keys) → ¬ (length ws ≡ 0) → keys ≡ settled_where_none_waits ws keys
kept_on [] keys some = absurd (some refl)
kept_on (w ∷ ws) keys some = refl
