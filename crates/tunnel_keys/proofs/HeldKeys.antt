-- The keys that are held, live or retired.
use Rattle.std.specs.Prelude.{◌≡◌, List, Option, Some, None, IsSome, refl}
use mathlib.Core.Path.{sym, ap}
use Rattle.std.specs.Option.{option_map}
use Rattle.std.specs.List.{filter_map}
use Rattle.std.proofs.lemmas.Bool.{false≢true}
use Rattle.std.proofs.lemmas.Option.{none-some, same_Some}
use Rattle.ovn_base.specs.lists.Among.{Among}
use Rattle.ovn_base.proofs.AmongLaws.{among_left, among_filter_map}
use Rattle.ovn_base.specs.declared.name.Name.{Name}
use Rattle.ovn_base.specs.names.ByName.{at}
use Rattle.tunnel_keys.specs.Keys.{Keys, IsKeys, held_port, held_ports}
use Rattle.tunnel_keys.specs.declared.owner.DatapathKey.{DatapathKey}
use Rattle.tunnel_keys.specs.declared.owner.PortKey.{PortKey}
use Rattle.tunnel_keys.specs.declared.owner.HeldPort.{HeldPort}

pub found : {X : Type 0} (o : Option X) → IsSome o → (x : X) × (o ≡ Some x)
found None h = absurd (false≢true h)
found (Some x) h = (x, refl)

pub is_found : {X : Type 0} (o : Option X) (x : X) → o ≡ Some x → IsSome o
is_found None x e = absurd (none-some x e)
is_found (Some y) x e = refl

-- a port's key, with its datapath
abbrev pub on_datapath_key : Name → PortKey → DatapathKey → HeldPort
on_datapath_key n p d = record { owner = record { name = n; birth = p.birth }; datapath = record { name = p.datapath; birth = d.birth }; key = p.key }

pub held_port_is : (ds : List (Name × DatapathKey)) (e : Name × PortKey) (a : HeldPort) → held_port ds e ≡ Some a → (d : DatapathKey) × (at ds e.1.datapath ≡ Some d) × (a ≡ on_datapath_key e.0 e.1 d)
held_port_is ds e a h = by (at ds e.1.datapath) refl h
  where
    by : (o : Option DatapathKey) → at ds e.1.datapath ≡ o → option_map (λ d. on_datapath_key e.0 e.1 d) o ≡ Some a → (d : DatapathKey) × (at ds e.1.datapath ≡ Some d) × (a ≡ on_datapath_key e.0 e.1 d)
    by None f g = absurd (none-some a g)
    by (Some d) f g = (d, f, sym (same_Some (on_datapath_key e.0 e.1 d) a g))

pub is_held_port : (ds : List (Name × DatapathKey)) (n : Name) (p : PortKey) (d : DatapathKey) → at ds p.datapath ≡ Some d → held_port ds (n, p) ≡ Some (on_datapath_key n p d)
is_held_port ds n p d f = ap (λ o. option_map (λ (x : DatapathKey). on_datapath_key n p x) o) f

-- a live port's key is held
pub live_owner_held : (keys : Keys) → IsKeys keys → (n : Name) (p : PortKey) → Among (n, p) keys.ports → (a : HeldPort) × Among a (held_ports keys) × (a.owner ≡ record { name = n; birth = p.birth })
live_owner_held keys hold n p m =
    let d = found (at keys.datapaths p.datapath) (hold.on_datapath (n, p) m) in
    let a = on_datapath_key n p d.0 in
    (a, among_left a (filter_map (held_port keys.datapaths) keys.ports) keys.retired_ports (among_filter_map (held_port keys.datapaths) (n, p) a keys.ports m (is_held_port keys.datapaths n p d.0 d.1)), refl)
