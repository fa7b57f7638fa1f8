-- Names of owners and frames of crossings, as the simulated chassis hold them.
use Rattle.std.specs.Prelude.{◌≡◌, ℕ, Some}
use Rattle.ovn_base.specs.names.ByName.{at}
use Rattle.ovn_base.specs.declared.name.Name.{Name}
use Rattle.chassis_sim.specs.InNames.{name_of}
use Rattle.chassis_sim.specs.State as sim
use Rattle.chassis_sim.specs.State.{at_name}
use Rattle.chassis_sim.specs.declared.underlay.WaitingFrame.{WaitingFrame}
use Rattle.tunnel_keys.specs.Keys.{Keys}
use Rattle.tunnel_keys.specs.declared.owner.DatapathKey.{DatapathKey}
use Rattle.tunnel_keys.specs.declared.owner.PortKey.{PortKey}
use Rattle.net_model.specs.declared.crossing.Crossing.{Crossing}
use Rattle.sim_laws.specs.Effects.{spelled}

-- each live key has its owner's name
pub record HaveOwnersNames (keys : Keys) (s : sim.SimState) : Type 0 where
  pub datapaths : (a : Name) (k : DatapathKey) → at keys.datapaths a ≡ Some k → name_of s.names k.key 0 ≡ a
  pub ports : (q : Name) (p : PortKey) (k : DatapathKey) → at keys.ports q ≡ Some p → at keys.datapaths p.datapath ≡ Some k → name_of s.names k.key p.key ≡ q

-- the frame of a crossing, that goes to the crossing's home
abbrev pub frame_of_crossing : Keys → ℕ × Crossing → ℕ × WaitingFrame
frame_of_crossing keys w = (w.0, record { to = w.1.home; bytes = spelled keys w.1 })
