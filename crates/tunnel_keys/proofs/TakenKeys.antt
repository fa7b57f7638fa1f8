-- The taken keys of a datapath, from the keys of all datapaths and from those under its name.
use Rattle.std.specs.Prelude.{◌≡◌, ℕ, Bool, true, false, ◌&&◌, cond, List, [], ◌∷◌, ◌++◌, map, refl}
use mathlib.Core.Path.{sym, ap, ◌∙◌}
use Rattle.std.specs.List.{filter}
use Rattle.ovn_base.specs.declared.name.Name.{Name}
use Rattle.ovn_base.specs.declared.address.Birth.{Birth}
use Rattle.ovn_base.specs.names.ByName.{in_order}
use Rattle.ovn_base.specs.names.SameName.{same_name}
use Rattle.tunnel_keys.specs.Same.{same_birth, same_identity}
use Rattle.tunnel_keys.specs.Owners.{ports_in}
use Rattle.tunnel_keys.specs.Keys.{ports_on, free_in, taken_ports}
use Rattle.tunnel_keys.specs.Giving.{with_keys, new_port_key, taken_on}
use Rattle.tunnel_keys.specs.declared.owner.Identity.{Identity}
use Rattle.tunnel_keys.specs.declared.owner.PortKey.{PortKey}
use Rattle.tunnel_keys.specs.declared.owner.HeldPort.{HeldPort}
use Rattle.tunnel_keys.specs.declared.owner.KeyOwner.{KeyOwner}

-- the retired ports under the name of a datapath
abbrev pub retired_under : List HeldPort → Name → List HeldPort
retired_under retired name = filter (λ h. same_name name h.datapath.name) retired

keys_listed : (es : List (Name × PortKey)) → map (λ (p : Name × ℕ). p.1) (map (λ (e : Name × PortKey). (e.0, e.1.key)) es) ≡ map (λ e. e.1.key) es
keys_listed [] = refl
keys_listed (e ∷ es) = ap (λ t. e.1.key ∷ t) (keys_listed es)

-- of a datapath's retired ports all stand under its name
under_first : (d : Identity) (hs : List HeldPort) → filter (λ h. same_identity d h.datapath) (retired_under hs d.name) ≡ filter (λ h. same_identity d h.datapath) hs
under_first d [] = refl
under_first d (h ∷ hs) = by (same_name d.name h.datapath.name) refl (under_first d hs)
  where
    by : (b : Bool) → same_name d.name h.datapath.name ≡ b → filter (λ h. same_identity d h.datapath) (retired_under hs d.name) ≡ filter (λ h. same_identity d h.datapath) hs
        → filter (λ h. same_identity d h.datapath) (cond b (h ∷ retired_under hs d.name) (retired_under hs d.name)) ≡ filter (λ h. same_identity d h.datapath) (h ∷ hs)
    by true is ih = ap (λ t. cond (same_identity d h.datapath) (h ∷ t) t) ih
    by false is ih = ih ∙ ap (λ c. cond (c && same_birth d.birth h.datapath.birth) (h ∷ filter (λ h. same_identity d h.datapath) hs) (filter (λ h. same_identity d h.datapath) hs)) (sym is)

taken_is : (live : List (Name × PortKey)) (retired : List HeldPort) (d : Identity) → taken_on (ports_on live d.name) (retired_under retired d.name) d ≡ taken_ports live retired d
taken_is live retired d = λ i. keys_listed (filter (λ e. same_name d.name e.1.datapath) live) i ++ map (λ h. h.key) (under_first d retired i)

module _ (range : ℕ) (live : List (Name × PortKey)) (retired : List HeldPort) (added : List KeyOwner) (d : Identity) (here : List (Name × ℕ)) (gone : List HeldPort) (come : List (Name × Birth))
    (is_here : here ≡ ports_on live d.name) (is_gone : gone ≡ retired_under retired d.name) (is_come : come ≡ ports_in d.name added) where
  pub free_is : free_in range (taken_on here gone d) ≡ free_in range (taken_ports live retired d)
  free_is = (λ i. free_in range (taken_on (is_here i) (is_gone i) d)) ∙ ap (λ t. free_in range t) (taken_is live retired d)

  pub given_is : with_keys (new_port_key d.name) (in_order come) (free_in range (taken_on here gone d)) ≡ with_keys (new_port_key d.name) (in_order (ports_in d.name added)) (free_in range (taken_ports live retired d))
  given_is = λ i. with_keys (new_port_key d.name) (in_order (is_come i)) (free_is i)
