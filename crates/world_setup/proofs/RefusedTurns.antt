-- Why an edit, a binding or a chassis is refused, and when it isn't.
use Rattle.std.specs.Prelude.{◌≡◌, ◌+◌, Bool, true, false, List, None, Some, Option, not, option_map, if◌then◌else◌, length, nat_le, refl}
use Rattle.std.proofs.Common.{ap}
use Rattle.edit_reader.specs.declared.event.Event.TheVariants as event_of
use Rattle.event_lines.specs.declared.refusal.Refusal.{Refusal}
use Rattle.event_lines.specs.declared.refusal.Refusal.TheVariants as why
use Rattle.nb_edits.specs.OpFaults.{fault_of}
use Rattle.nb_records.specs.Switches.{or_else}
use Rattle.nb_records.specs.declared.change.Op.{Op}
use Rattle.nb_rules.specs.declared.fault.SchemaFault.{SchemaFault}
use Rattle.net_model.specs.Config.{is_chassis}
use Rattle.net_model.specs.State.{State, event_count}
use Rattle.ovn_base.specs.declared.name.Name.{Name}
use Rattle.ovn_base.specs.names.ByName.{at}
use Rattle.world_setup.specs.Built.{is_built_edit}
use Rattle.world_setup.specs.Causes.{cause_if}
use Rattle.world_setup.specs.Editing.{next_net}
use Rattle.world_setup.specs.KeyCauses.{KeyLack, key_lack}
use Rattle.world_setup.specs.Refusing.{is_virtual_port, refusal, refusal_of_lack}

-- ---- edits

module _ (m : State) (ops : List Op) where
  -- by whether it is built, what is wrong with it, and what keys it lacks
  abbrev by_parts : Bool → Option SchemaFault → Option KeyLack → Option Refusal
  by_parts built fault lack = if built then or_else (option_map (λ f. why.Schema f) fault) (option_map refusal_of_lack lack) else Some why.NotBuilt

  pub edit_unbuilt : is_built_edit ops ≡ false → refusal m (event_of.Edit ops) ≡ Some why.NotBuilt
  edit_unbuilt built = ap (λ b. by_parts b (fault_of m.config.net ops (event_count m + 1)) (key_lack m.keys m.config.net (next_net m ops))) built

  pub edit_faulty : (fault : SchemaFault) → is_built_edit ops ≡ true → fault_of m.config.net ops (event_count m + 1) ≡ Some fault → refusal m (event_of.Edit ops) ≡ Some (why.Schema fault)
  edit_faulty fault built is = λ i. by_parts (built i) (is i) (key_lack m.keys m.config.net (next_net m ops))

  pub edit_lacks : (lack : KeyLack) → is_built_edit ops ≡ true → fault_of m.config.net ops (event_count m + 1) ≡ None → key_lack m.keys m.config.net (next_net m ops) ≡ Some lack → refusal m (event_of.Edit ops) ≡ Some (refusal_of_lack lack)
  edit_lacks lack built none is = λ i. by_parts (built i) (none i) (is i)

  pub edit_allowed : is_built_edit ops ≡ true → fault_of m.config.net ops (event_count m + 1) ≡ None → key_lack m.keys m.config.net (next_net m ops) ≡ None → refusal m (event_of.Edit ops) ≡ None
  edit_allowed built none enough = λ i. by_parts (built i) (none i) (enough i)

  -- what isn't refused is built, and nothing is wrong with it
  pub edit_built : refusal m (event_of.Edit ops) ≡ None → is_built_edit ops ≡ true
  edit_built h = by (is_built_edit ops) h
    where
      by : (b : Bool) → by_parts b (fault_of m.config.net ops (event_count m + 1)) (key_lack m.keys m.config.net (next_net m ops)) ≡ None → b ≡ true
      by true h = refl
      by false h = cc

  pub edit_faultless : refusal m (event_of.Edit ops) ≡ None → fault_of m.config.net ops (event_count m + 1) ≡ None
  edit_faultless h = by (is_built_edit ops) (fault_of m.config.net ops (event_count m + 1)) h
    where
      by : (b : Bool) (fault : Option SchemaFault) → by_parts b fault (key_lack m.keys m.config.net (next_net m ops)) ≡ None → fault ≡ None
      by b None h = refl
      by true (Some f) h = cc
      by false (Some f) h = cc

-- ---- bindings

module _ (m : State) (p c : Name) where
  abbrev binding_by : Bool → Bool → Option Refusal
  binding_by port chassis = or_else (cause_if (not port) (why.NoSuch p)) (cause_if (not chassis) (why.NoSuch c))

  pub bind_no_port : is_virtual_port (at m.config.net.switch_ports p) ≡ false → refusal m (event_of.Bind p c) ≡ Some (why.NoSuch p)
  bind_no_port port = ap (λ b. binding_by b (is_chassis m.config c)) port

  pub bind_no_chassis : is_virtual_port (at m.config.net.switch_ports p) ≡ true → is_chassis m.config c ≡ false → refusal m (event_of.Bind p c) ≡ Some (why.NoSuch c)
  bind_no_chassis port chassis = λ i. binding_by (port i) (chassis i)

  pub bind_allowed : is_virtual_port (at m.config.net.switch_ports p) ≡ true → is_chassis m.config c ≡ true → refusal m (event_of.Bind p c) ≡ None
  bind_allowed port chassis = λ i. binding_by (port i) (chassis i)

-- ---- chassis

module _ (m : State) (c : Name) where
  abbrev chassis_by : Bool → Bool → Option Refusal
  chassis_by there full = or_else (cause_if there (why.DuplicateName c)) (cause_if full why.LimitChassis)

  pub chassis_there : is_chassis m.config c ≡ true → refusal m (event_of.AddChassis c) ≡ Some (why.DuplicateName c)
  chassis_there there = ap (λ b. chassis_by b (nat_le 64 (length m.config.chassis))) there

  pub chassis_full : is_chassis m.config c ≡ false → nat_le 64 (length m.config.chassis) ≡ true → refusal m (event_of.AddChassis c) ≡ Some why.LimitChassis
  chassis_full new full = λ i. chassis_by (new i) (full i)

  pub chassis_allowed : is_chassis m.config c ≡ false → nat_le 64 (length m.config.chassis) ≡ false → refusal m (event_of.AddChassis c) ≡ None
  chassis_allowed new few = λ i. chassis_by (new i) (few i)
