-- What holds where an event isn't refused.
use Rattle.std.specs.Prelude.{◌≡◌, ◌<◌, ◌||◌, ℕ, Bool, true, false, List, [], ◌∷◌, length, nat_le, Some, None, Option, IsSome, is_none, is_some, not, refl}
use Rattle.std.proofs.Common.{sym, subst}
use Rattle.std.proofs.lemmas.Bool.{leb-false}
use Rattle.std.specs.List.{list_any}
use Rattle.ovn_base.specs.lists.Among.{Among}
use Rattle.ovn_base.proofs.NameLemmas.{same_bytes}
use Rattle.ovn_base.specs.declared.name.Name.{Name}
use Rattle.ovn_base.specs.names.ByName.{at}
use Rattle.ovn_base.specs.names.SameName.{same_name}
use Rattle.nb_records.specs.Switches.{or_else}
use Rattle.nb_records.specs.declared.switch.SwitchPort.{SwitchPort}
use Rattle.chassis_sim.specs.State.{numbered}
use Rattle.edit_reader.specs.declared.event.Event.TheVariants as event_of
use Rattle.event_lines.specs.declared.refusal.Refusal.{Refusal}
use Rattle.event_lines.specs.declared.refusal.Refusal.TheVariants as why
use Rattle.net_model.specs.Config.{is_chassis}
use Rattle.net_model.specs.State.{State}
use Rattle.world_setup.specs.Causes.{cause_if}
use Rattle.world_setup.specs.Refusing.{cause_of_entry, is_virtual_port, no_chassis, no_frame, no_port, not_bound, refusal}

-- no cause holds where the first doesn't and the rest don't
pub neither : (one rest : Option Refusal) → or_else one rest ≡ None → (one ≡ None) × (rest ≡ None)
neither None rest h = (refl, h)
neither (Some x) rest h = cc

pub no_cause : (b : Bool) (x : Refusal) → cause_if b x ≡ None → b ≡ false
no_cause false x h = refl
no_cause true x h = cc

not_not : (b : Bool) → not b ≡ false → b ≡ true
not_not true h = refl
not_not false h = cc

-- ---- packets

pub is_bound : (m : State) (p : Name) (frame : List ℕ) → cause_of_entry m p frame ≡ None → IsSome (at m.config.bindings p)
is_bound m p frame h =
    let rest = neither (no_port m p) _ h in
    let bound = neither (not_bound m p) _ rest.1 in
    by (at m.config.bindings p) (no_cause (is_none (at m.config.bindings p)) (why.NotBound p) bound.0)
  where
    by : (o : Option Name) → is_none o ≡ false → IsSome o
    by (Some c) h = search
    by None h = cc

-- a frame that is taken waits
pub waits_so : (m : State) (n : ℕ) → no_frame m n ≡ None → is_some (numbered m.waiting n) ≡ true
waits_so m n h = not_not (is_some (numbered m.waiting n)) (no_cause (not (is_some (numbered m.waiting n))) (why.NoFrame n) h)

-- ---- chassis and bindings

-- a chassis that comes is new, and there is room for it
pub chassis_new : (m : State) (c : Name) → refusal m (event_of.AddChassis c) ≡ None → (is_chassis m.config c ≡ false) × (length m.config.chassis < 64)
chassis_new m c h =
    let causes = neither (cause_if (is_chassis m.config c) (why.DuplicateName c)) _ h in
    (no_cause (is_chassis m.config c) (why.DuplicateName c) causes.0, leb-false 64 (length m.config.chassis) (no_cause (nat_le 64 (length m.config.chassis)) why.LimitChassis causes.1))

-- the port of a binding is there and virtual, and its chassis is there
pub port_virtual : (m : State) (p c : Name) → refusal m (event_of.Bind p c) ≡ None → is_virtual_port (at m.config.net.switch_ports p) ≡ true
port_virtual m p c h =
    let causes = neither (no_port m p) (no_chassis m c) h in
    not_not (is_virtual_port (at m.config.net.switch_ports p)) (no_cause (not (is_virtual_port (at m.config.net.switch_ports p))) (why.NoSuch p) causes.0)

pub port_there : (m : State) (p c : Name) → refusal m (event_of.Bind p c) ≡ None → IsSome (at m.config.net.switch_ports p)
port_there m p c h = by (at m.config.net.switch_ports p) (port_virtual m p c h)
  where
    by : (o : Option SwitchPort) → is_virtual_port o ≡ true → IsSome o
    by (Some port) h = search
    by None h = cc

pub is_known : (m : State) (p chassis : Name) → refusal m (event_of.Bind p chassis) ≡ None → is_chassis m.config chassis ≡ true
is_known m p chassis h =
    let causes = neither (no_port m p) (no_chassis m chassis) h in
    not_not (is_chassis m.config chassis) (no_cause (not (is_chassis m.config chassis)) (why.NoSuch chassis) causes.1)

pub among_chassis : (names : List Name) (chassis : Name) → list_any (λ c. same_name c chassis) names ≡ true → Among chassis names
among_chassis [] chassis h = cc
among_chassis (c ∷ names) chassis h =
    elim (same_name c chassis) as (λ b. same_name c chassis ≡ b → (b || list_any (λ d. same_name d chassis) names) ≡ true → Among chassis (c ∷ names)) [
      | true ↦ λ same all. subst (λ d. Among chassis (d ∷ names)) (sym (same_bytes c chassis same)) Among.here
      | false ↦ λ other rest. Among.there (among_chassis names chassis rest)
    ] refl h
