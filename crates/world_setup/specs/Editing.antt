-- What an accepted edit does to the records and the keys. Its effects name the keys that were picked.
use Rattle.std.specs.Prelude.{◌≡◌, ◌+◌, List}
use Rattle.nb_records.specs.Editing.{accepted}
use Rattle.nb_records.specs.Network.{Network}
use Rattle.nb_records.specs.declared.change.Op.{Op}
use Rattle.net_model.specs.Owners.{owners_only_in, Rekeys}
use Rattle.net_model.specs.State.{State, event_count}
use Rattle.net_model.specs.Transition.{turned_by, edit}
use Rattle.switch_engine.specs.declared.effect.NetEffect.{NetEffect}
use Rattle.tunnel_keys.specs.Keys.{Keys}
use Rattle.world_setup.specs.KeyLines.{key_effects}

-- the records that the operations of the next event leave
abbrev pub next_net : State → List Op → Network
next_net m ops = accepted m.config.net ops (event_count m + 1)

-- the state with other records and keys: what was bound stays so where its port stays
abbrev pub edited : State → Network → Keys → State
edited m net keys = record (turned_by (edit m.config net) m) { keys = keys }

-- an accepted edit: the records become those that its operations leave, who comes gets a key, a legal one, and its effects name these
pub record Edits (m : State) (ops : List Op) (effects : List NetEffect) (after : State) : Type 0 where
  pub keys : Keys
  pub rekeys : Rekeys m.config.net (next_net m ops) m.keys keys
  pub effects_are : effects ≡ key_effects (owners_only_in (next_net m ops) m.config.net) keys
  pub state : after ≡ edited m (next_net m ops) keys
