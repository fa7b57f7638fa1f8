-- Who has connection lists.
use Rattle.std.specs.Prelude.{◌≡◌}
use Rattle.std.specs.Map.{keys_of}
use Rattle.net_model.specs.Config.{Config}
use Rattle.net_model.specs.ListOwners.{homed_routers}
use Rattle.net_model.specs.Trail.{Lists}

-- the lists are those of who is at home, in order of name: each bound port has one, and each gateway router on its chassis has two
pub record AreAtHome (c : Config) (lists : Lists) : Type 0 where
  pub ports : keys_of lists.ports ≡ keys_of c.bindings
  pub dnats : keys_of lists.dnats ≡ homed_routers c
  pub snats : keys_of lists.snats ≡ homed_routers c
