-- What a register keeps of the owners that came.
use Rattle.std.specs.Prelude.{◌≡◌, ℕ, Option, IfSome}
use Rattle.ovn_base.specs.declared.address.Birth.{Birth}
use Rattle.ovn_base.specs.declared.name.Name.{Name}
use Rattle.tunnel_keys.specs.Births.{AreKeysBorn}
use Rattle.tunnel_keys.specs.Edits.{IsLive}
use Rattle.tunnel_keys.specs.Keys.{Keys}
use Rattle.tunnel_keys.specs.declared.owner.KeyOwner.{KeyOwner}
use Rattle.tunnel_keys.specs.declared.owner.KeyOwner.TheVariants.{Port}

-- the owner is a port with a live key
pub record IsLivePort (keys : Keys) (owner : KeyOwner) : Type 0 where
  pub datapath : Name
  pub name : Name
  pub birth : Birth
  pub is : owner ≡ Port datapath name birth
  pub live : IsLive keys owner

-- nobody was born after the last birth, and the last port is live
pub record IsRegister (keys : Keys) (last_birth : ℕ) (last_port : Option KeyOwner) : Type 0 where
  pub born : AreKeysBorn keys last_birth
  pub live : IfSome last_port (λ owner. IsLivePort keys owner)
