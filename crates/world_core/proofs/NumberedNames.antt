-- Whom numbers name: the names that the simulated chassis hold of keys, and whom the number of a target is of.
use Rattle.std.specs.Prelude.{◌≡◌, ◌<◌, ℕ, Some, refl}
use Rattle.std.proofs.Common.{sym, ap, ◌∙◌, subst, arith}
use Rattle.chassis_sim.specs.InNames.{name_of}
use Rattle.chassis_sim.specs.State as sim
use Rattle.net_model.specs.State.{State}
use Rattle.net_model.specs.declared.crossing.Aim.{Aim}
use Rattle.net_model.specs.declared.crossing.Aim.TheVariants.{ToPort, ToGroup}
use Rattle.net_model.specs.declared.crossing.Group.TheVariants.{Flood, Unknown}
use Rattle.ovn_base.specs.declared.name.Name.{Name}
use Rattle.ovn_base.specs.names.ByName.{at}
use Rattle.physical_flows.proofs.KeyLaws.{port_fits}
use Rattle.physical_flows.specs.RecordKeys.{HaveKeys}
use Rattle.sim_laws.specs.Held.{HaveOwnersNames}
use Rattle.sim_laws.specs.Naming.{HasDatapathKey, HasPortKey}
use Rattle.tunnel_keys.specs.Keys.{Keys}
use Rattle.tunnel_keys.specs.declared.owner.Identity.{Identity}
use Rattle.world_core.specs.Packets.{IsNumberOf, IsPortNumber}

-- who has keys has its own name there
module _ (keys : Keys) (s : sim.SimState) (named : HaveOwnersNames keys s) where
  pub datapath_name : (a : Name) (key : ℕ) → HasDatapathKey keys a key → name_of s.names key 0 ≡ a
  datapath_name a key h = ap (λ n. name_of s.names n 0) (sym h.number) ∙ named.datapaths a h.live h.has

  pub port_name : (a q : Name) (datapath key : ℕ) → HasDatapathKey keys a datapath → HasPortKey keys a q key → name_of s.names datapath key ≡ q
  port_name a q datapath key d p =
      ap (λ n. name_of s.names n key) (sym d.number)
      ∙ ap (λ n. name_of s.names d.live.key n) (sym p.number)
      ∙ named.ports q p.live d.live p.has (subst (λ n. at keys.datapaths n ≡ Some d.live) (sym p.on) d.has)

module _ (m : State) (have : HaveKeys m.config.net m.keys) (switch : Name) where
  key_small : (q : Name) (key : ℕ) → HasPortKey m.keys switch q key → key < 32768
  key_small q key h = let fits = (port_fits m.config.net m.keys have q h.live h.has).1 in let is = h.number in omega (arith, fits, is)

  -- groups have numbers of their own
  pub aims_flood : (key : ℕ) → key ≡ 32768 → (aim : Aim) → IsNumberOf m switch key aim → aim ≡ ToGroup Flood
  aims_flood key e (ToGroup Flood) n = refl
  aims_flood key e (ToGroup Unknown) n = absurd (omega (arith, e, n))
  aims_flood key e (ToPort id) n = let small = key_small id.name key n.0 in absurd (omega (arith, e, small))

  pub aims_unknown : (key : ℕ) → key ≡ 32769 → (aim : Aim) → IsNumberOf m switch key aim → aim ≡ ToGroup Unknown
  aims_unknown key e (ToGroup Unknown) n = refl
  aims_unknown key e (ToGroup Flood) n = absurd (omega (arith, e, n))
  aims_unknown key e (ToPort id) n = let small = key_small id.name key n.0 in absurd (omega (arith, e, small))

  -- other numbers are those of ports
  pub record IsPortAim (key : ℕ) (aim : Aim) : Type 0 where
    pub id : Identity
    pub is : aim ≡ ToPort id
    pub number : IsPortNumber m switch key id

  pub aims_port : (key : ℕ) → (key ≡ 32768 → ⊥) → (key ≡ 32769 → ⊥) → (aim : Aim) → IsNumberOf m switch key aim → IsPortAim key aim
  aims_port key f u (ToGroup Flood) n = absurd (f n)
  aims_port key f u (ToGroup Unknown) n = absurd (u n)
  aims_port key f u (ToPort id) n = record { id = id; is = refl; number = n }
