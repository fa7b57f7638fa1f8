-- The ports of a switch and the members of its groups.
use Rattle.std.specs.Prelude.{◌≡◌, true, Bool, false, refl}
use Rattle.std.proofs.Common.{sym, ap}
use Rattle.std.proofs.lemmas.Bool.{false≢true}
use Rattle.nb_records.specs.Switches.{is_virtual, is_virtual_kind, takes_unknown, enabled_ports}
use Rattle.nb_records.specs.declared.switch.PortKind.{PortKind}
use Rattle.nb_records.specs.declared.switch.PortKind.TheVariants as port_kind
use Rattle.nb_records.specs.declared.switch.SwitchPort.{SwitchPort}
use Rattle.net_model.specs.Config.{on, home_if, home_of, home_by_kind}
use Rattle.net_model.specs.Targets.{members}
use Rattle.net_model.specs.declared.crossing.Group.{Group}
use Rattle.net_model.specs.declared.crossing.Group.TheVariants.{Flood, Unknown}
use Rattle.ovn_base.proofs.AmongLaws.{filter_among}
use Rattle.ovn_base.specs.declared.name.Name.{Name}
use Rattle.ovn_base.specs.lists.Among.{Among}
use Rattle.ovn_base.specs.names.ByName.{at}
use Rattle.row_laws.proofs.records.SwitchPorts.{IsEnabled, enabled_is}
use Rattle.sim_laws.specs.pipelines.Standing.{Chassis, net_of, IsLaidOut}

-- two tests that say the same
pub same_tests : (v w : Bool) → (v ≡ true → w ≡ true) → (w ≡ true → v ≡ true) → v ≡ w
same_tests true w f g = sym (f refl)
same_tests false true f g = g refl
same_tests false false f g = refl

pub virtual_is : (k : PortKind) → is_virtual_kind k ≡ true → k ≡ port_kind.Virtual
virtual_is port_kind.Virtual h = refl
virtual_is port_kind.Router h = absurd (false≢true h)

module _ (s : Chassis) where
  -- a virtual port is at home where it is bound
  pub home_is : (o : SwitchPort) → is_virtual o ≡ true → home_of s.scene.config o ≡ home_if on (at s.scene.config.bindings o.name)
  home_is o virtual = ap (home_by_kind s.scene.config o) (virtual_is o.kind virtual)

module _ (s : Chassis) (laid : IsLaidOut s) where
  -- a member is an enabled port of the switch
  pub member_is : (a : Name) (g : Group) (q : SwitchPort) → Among q (members (net_of s) a g) → IsEnabled (net_of s) laid.valid a q
  member_is a Flood q m = enabled_is (net_of s) laid.valid a q m
  member_is a Unknown q m = enabled_is (net_of s) laid.valid a q (filter_among (λ (p : SwitchPort). takes_unknown p.addresses) q (enabled_ports (net_of s) a) m).0
