-- What an accepted edit leaves of records, marks and owners of keys.
use Rattle.std.specs.Prelude.{◌≡◌, ◌<◌, ◌↔◌, ◌⊎◌, ℕ, true, false, List, [], ◌∷◌, Some}
use Rattle.std.specs.List.{AllByRecursion}
use Rattle.ovn_base.specs.declared.name.Name.{Name}
use Rattle.ovn_base.specs.lists.Among.{Among}
use Rattle.ovn_base.specs.names.ByName.{at}
use Rattle.nb_records.specs.Editing.{operated, accepted, lists_backend}
use Rattle.nb_records.specs.Network.{Network, record_at, birth_of}
use Rattle.nb_records.specs.declared.change.Op.{Op}
use Rattle.nb_records.specs.declared.change.Op.TheVariants as op
use Rattle.nb_records.specs.declared.kinds.Kind.{Kind}
use Rattle.nb_records.specs.declared.record.Record.{Record}
use Rattle.nb_records.specs.declared.record.Record.TheVariants as row
use Rattle.nb_rules.specs.Valid.{IsValid}
use Rattle.net_model.specs.Owners.{owners_of}
use Rattle.tunnel_keys.specs.Edits.{IsLive}
use Rattle.tunnel_keys.specs.Keys.{Keys, held_datapaths, held_ports}
use Rattle.tunnel_keys.specs.Owners.{birth_in}
use Rattle.tunnel_keys.specs.declared.owner.HeldDatapath.{HeldDatapath}
use Rattle.tunnel_keys.specs.declared.owner.HeldPort.{HeldPort}
use Rattle.tunnel_keys.specs.declared.owner.KeyOwner.{KeyOwner}
use Rattle.nb_edits.specs.OpFaults.{is_kept_mark}

-- the owners of the records have the live keys, and all that have or had one came before the event of this number
pub record AreKeysOf (net : Network) (n : ℕ) (keys : Keys) : Type 0 where
  pub owners : (o : KeyOwner) → IsLive keys o ↔ Among o (owners_of net)
  pub datapaths : (a : HeldDatapath) → Among a (held_datapaths keys) → a.owner.birth.0 < n
  pub ports : (a : HeldPort) → Among a (held_ports keys) → (a.owner.birth.0 < n) × (a.datapath.birth.0 < n)

-- each owner of the records after was one of those before, or came with the event of this number
abbrev pub AreBorn : Network → Network → ℕ → Type 0
AreBorn before after n = (o : KeyOwner) → Among o (owners_of after) → Among o (owners_of before) ⊎ ((birth_in o).0 ≡ n)

-- the record is the other one, but for the values that a `set` can give
abbrev pub IsSetOf : Record → Record → Type 0
IsSetOf (row.Switch r) (row.Switch s) = r ≡ s
IsSetOf (row.Router r) (row.Router s) = r ≡ s
IsSetOf (row.RouterPort r) (row.RouterPort s) = r ≡ record s { mac = r.mac; networks = r.networks; peer = r.peer }
IsSetOf (row.SwitchPort r) (row.SwitchPort s) = r ≡ record s { addresses = r.addresses; port_security = r.port_security; enabled = r.enabled }
IsSetOf (row.AddressSet r) (row.AddressSet s) = r ≡ record s { addresses = r.addresses }
IsSetOf (row.PortGroup r) (row.PortGroup s) = r ≡ record s { ports = r.ports }
IsSetOf (row.Acl r) (row.Acl s) = r ≡ record s { priority = r.priority; matching = r.matching; action = r.action }
IsSetOf (row.Route r) (row.Route s) = r ≡ record s { prefix = r.prefix; nexthop = r.nexthop }
IsSetOf (row.Nat r) (row.Nat s) = r ≡ record s { external_ip = r.external_ip; logical_ip = r.logical_ip }
IsSetOf (row.LoadBalancer r) (row.LoadBalancer s) = r ≡ record s { vips = r.vips; switches = r.switches; routers = r.routers }
IsSetOf (row.StaticMac r) (row.StaticMac s) = r ≡ record s { ip = r.ip; mac = r.mac }
IsSetOf r s = ⊥

-- each record after is one of this event, or the one of its kind and name before, but for values that were set
abbrev pub AreRecordsFrom : Network → Network → ℕ → Type 0
AreRecordsFrom before after n = (k : Kind) (q : Name) (r : Record) → record_at after k q ≡ Some r → ((birth_of r).0 ≡ n) ⊎ ((s : Record) × (record_at before k q ≡ Some s) × IsSetOf r s)

-- each mark is one of a backend that a vip of its balancer lists
abbrev pub AreListed : Network → Type 0
AreListed net = AllByRecursion (λ m. is_kept_mark net m ≡ true) net.offline

-- the operation marks no backend offline that no vip of the balancer lists
abbrev pub MarksListed : Network → Op → Type 0
MarksListed net (op.Health balancer backend false) = lists_backend backend (at net.load_balancers balancer) ≡ true
MarksListed net o = Unit {0}

-- nor does any of them, each on what those before it leave
abbrev pub EachMarksListed : Network → List Op → ℕ → Type 0
EachMarksListed net [] n = Unit {0}
EachMarksListed net (o ∷ ops) n = MarksListed net o × EachMarksListed (operated net o n) ops n

-- what an edit without a fault leaves
pub record LeavesSoundRecords (net : Network) (ops : List Op) (n : ℕ) : Type 0 where
  pub valid : IsValid (accepted net ops n)
  pub records : AreRecordsFrom net (accepted net ops n) n
  pub owners : AreBorn net (accepted net ops n) n
  pub marks : EachMarksListed net ops n → AreListed net → AreListed (accepted net ops n)
