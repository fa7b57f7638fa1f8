use Rattle.std.proofs.Common.{◌↔◌, sym, ◌∙◌, ap, subst}
use Rattle.std.proofs.lemmas.Result.{err_from_is_err_and}
use Rattle.ovn_base.specs.lists.Among.{Among}
use Rattle.ovn_base.specs.names.ByName.{put_all}
use Rattle.tunnel_keys.specs.Grouped.{listed_on}
use Rattle.tunnel_keys.specs.Owners.{ports_in}
use Rattle.tunnel_keys.specs.Keys.{Keys}
use Rattle.tunnel_keys.specs.Edits.{IsKeyEdit, IsAfter}
use Rattle.tunnel_keys.specs.Causes.{IsCause, HasKeys}
use Rattle.tunnel_keys.proofs.After.{IsRetired, datapath_cause, port_cause, datapaths_sorted, ports_kept, made_after, made_has}
use Rattle.tunnel_keys.proofs.Lists.{none_left, none_right}
use Rattle.tunnel_keys.proofs.KeyOrder.{held_datapath_exact, held_port_exact}
use Rattle.tunnel_keys.proofs.PortLists.{lists_in_order, lists_have}
use Rattle.tunnel_keys.proofs.store.KeyStore.after.Goals as goal

pub returns-in_err-more-clause-fault : goal.returns-in_err-more-clause-fault
returns-in_err-more-clause-fault c =
    let before : Keys = record { datapath_range = c.self.inside.datapath_range; port_range = c.self.inside.port_range; datapaths = c.self.inside.datapaths.entries; ports = c.self.inside.ports.entries; retired_datapaths = c.self.inside.retired_datapaths; retired_ports = c.self.inside.retired_ports } in
    let edit : IsKeyEdit before c.args.added.now c.args.removed.now = subst (λ k. IsKeyEdit k c.args.added.now c.args.removed.now) (sym c.self.view_is) c.requires in
    let retired : IsRetired before c.args.removed.now c.in_ok-staying.staying.entries c.in_ok-ports.ports.entries c.in_ok-gone.gone c.in_ok-gone_ports.gone_ports =
    record { staying = c.in_ok-staying.ensures; staying_ports = c.in_ok-ports.ensures; retired = c.in_ok-gone.ensures; retired_ports = c.in_ok-gone_ports.ensures } in
    let p = err_from_is_err_and c.from_residual-in_err-more.result c.from_residual-in_err-more.ensures.1 in
    rw (p.1, p.2) (subst (λ k. IsCause k c.args.added.now c.args.removed.now c.in_err-more.field-0.0) c.self.view_is (datapath_cause before c.args.added.now c.args.removed.now c.self.invariant.0 edit c.in_ok-staying.staying.entries c.in_ok-ports.ports.entries c.in_ok-gone.gone c.in_ok-gone_ports.gone_ports retired c.in_err-more.field-0.0 c.in_err-more.ensures.fault))

pub returns-in_err-more-2-clause-fault : goal.returns-in_err-more-2-clause-fault
returns-in_err-more-2-clause-fault c =
    let before : Keys = record { datapath_range = c.self.inside.datapath_range; port_range = c.self.inside.port_range; datapaths = c.self.inside.datapaths.entries; ports = c.self.inside.ports.entries; retired_datapaths = c.self.inside.retired_datapaths; retired_ports = c.self.inside.retired_ports } in
    let edit : IsKeyEdit before c.args.added.now c.args.removed.now = subst (λ k. IsKeyEdit k c.args.added.now c.args.removed.now) (sym c.self.view_is) c.requires in
    let retired : IsRetired before c.args.removed.now c.in_ok-staying.staying.entries c.in_ok-ports.ports.entries c.in_ok-gone.gone c.in_ok-gone_ports.gone_ports =
    record { staying = c.in_ok-staying.ensures; staying_ports = c.in_ok-ports.ensures; retired = c.in_ok-gone.ensures; retired_ports = c.in_ok-gone_ports.ensures } in
    let made = c.in_ok-datapaths.ensures ∙ ap (λ es. put_all c.in_ok-staying.staying.entries es) c.in_ok-more.ensures.given in
    let p = err_from_is_err_and c.from_residual-in_err-more-2.result c.from_residual-in_err-more-2.ensures.1 in
    rw (p.1, p.2) (subst (λ k. IsCause k c.args.added.now c.args.removed.now c.in_err-more-2.field-0.0) c.self.view_is (port_cause before c.args.added.now c.args.removed.now c.self.invariant.0 edit c.in_ok-staying.staying.entries c.in_ok-ports.ports.entries c.in_ok-gone.gone c.in_ok-gone_ports.gone_ports retired c.in_ok-more.ensures.enough c.in_ok-datapaths.datapaths.entries made c.in_err-more-2.field-0.0 c.in_err-more-2.ensures.fault))

pub listed_ports-requires : goal.listed_ports-requires
listed_ports-requires c =
    let before : Keys = record { datapath_range = c.self.inside.datapath_range; port_range = c.self.inside.port_range; datapaths = c.self.inside.datapaths.entries; ports = c.self.inside.ports.entries; retired_datapaths = c.self.inside.retired_datapaths; retired_ports = c.self.inside.retired_ports } in
    let edit : IsKeyEdit before c.args.added.now c.args.removed.now = subst (λ k. IsKeyEdit k c.args.added.now c.args.removed.now) (sym c.self.view_is) c.requires in
    let retired : IsRetired before c.args.removed.now c.in_ok-staying.staying.entries c.in_ok-ports.ports.entries c.in_ok-gone.gone c.in_ok-gone_ports.gone_ports =
    record { staying = c.in_ok-staying.ensures; staying_ports = c.in_ok-ports.ensures; retired = c.in_ok-gone.ensures; retired_ports = c.in_ok-gone_ports.ensures } in
    let made = c.in_ok-datapaths.ensures ∙ ap (λ es. put_all c.in_ok-staying.staying.entries es) c.in_ok-more.ensures.given in
    let last = c.in_ok-ports-2.ensures ∙ ap (λ es. put_all c.in_ok-ports.ports.entries es) c.in_ok-more-2.ensures.given in
    record {
      unchanged = λ d none.
          let owners = sym (c.in_ok-changed.ensures d) ∙ none in
          let kept = ports_kept before c.args.added.now c.args.removed.now c.self.invariant.0 edit c.in_ok-staying.staying.entries c.in_ok-ports.ports.entries c.in_ok-gone.gone c.in_ok-gone_ports.gone_ports retired c.in_ok-more.ensures.enough c.in_ok-datapaths.datapaths.entries made c.in_ok-more-2.ensures.enough c.in_ok-ports-2.ports.entries last d
          (none_left (ports_in d c.args.added.now) (ports_in d c.args.removed.now) owners) (none_right (ports_in d c.args.added.now) (ports_in d c.args.removed.now) owners) in
          ap (λ es. listed_on es d) c.self.invariant.1 ∙ lists_have before c.self.invariant.0 d ∙ sym kept;
    }

pub in_order-requires : goal.in_order-requires
in_order-requires c = record { exact = held_datapath_exact }

pub in_order-requires-2 : goal.in_order-requires-2
in_order-requires-2 c = record { exact = held_port_exact }

pub invariant_of-result : goal.invariant_of-result
invariant_of-result c =
    let before : Keys = record { datapath_range = c.self.inside.datapath_range; port_range = c.self.inside.port_range; datapaths = c.self.inside.datapaths.entries; ports = c.self.inside.ports.entries; retired_datapaths = c.self.inside.retired_datapaths; retired_ports = c.self.inside.retired_ports } in
    let edit : IsKeyEdit before c.args.added.now c.args.removed.now = subst (λ k. IsKeyEdit k c.args.added.now c.args.removed.now) (sym c.self.view_is) c.requires in
    let retired : IsRetired before c.args.removed.now c.in_ok-staying.staying.entries c.in_ok-ports.ports.entries c.in_ok-gone.gone c.in_ok-gone_ports.gone_ports =
    record { staying = c.in_ok-staying.ensures; staying_ports = c.in_ok-ports.ensures; retired = c.in_ok-gone.ensures; retired_ports = c.in_ok-gone_ports.ensures } in
    let made = c.in_ok-datapaths.ensures ∙ ap (λ es. put_all c.in_ok-staying.staying.entries es) c.in_ok-more.ensures.given in
    let last = c.in_ok-ports-2.ensures ∙ ap (λ es. put_all c.in_ok-ports.ports.entries es) c.in_ok-more-2.ensures.given in
    let all = made_after before c.args.added.now c.args.removed.now c.self.invariant.0 edit c.in_ok-staying.staying.entries c.in_ok-ports.ports.entries c.in_ok-gone.gone c.in_ok-gone_ports.gone_ports retired
    c.in_ok-more.ensures.enough c.in_ok-datapaths.datapaths.entries made c.in_ok-more-2.ensures.enough c.in_ok-ports-2.ports.entries last
    c.in_ok-retired_datapaths.retired_datapaths c.in_ok-retired_ports.retired_ports c.in_ok-retired_datapaths.ensures.order c.in_ok-retired_ports.ensures.order
    (λ h. subst (λ l. Among h c.in_ok-retired_datapaths.retired_datapaths ↔ Among h l) c.as_slice.ensures (c.in_ok-retired_datapaths.ensures.same h))
    (λ h. subst (λ l. Among h c.in_ok-retired_ports.retired_ports ↔ Among h l) c.as_slice-2.ensures (c.in_ok-retired_ports.ensures.same h)) in (
      all.hold,
      c.in_ok-lists.ensures ∙ lists_in_order c.in_ok-ports-2.ports.entries c.in_ok-datapaths.datapaths.entries (datapaths_sorted before c.args.added.now c.args.removed.now c.self.invariant.0 edit c.in_ok-staying.staying.entries c.in_ok-ports.ports.entries c.in_ok-gone.gone c.in_ok-gone_ports.gone_ports retired c.in_ok-more.ensures.enough c.in_ok-datapaths.datapaths.entries made),
    )

pub returns-clause-after : goal.returns-clause-after
returns-clause-after c =
    let before : Keys = record { datapath_range = c.self.inside.datapath_range; port_range = c.self.inside.port_range; datapaths = c.self.inside.datapaths.entries; ports = c.self.inside.ports.entries; retired_datapaths = c.self.inside.retired_datapaths; retired_ports = c.self.inside.retired_ports } in
    let edit : IsKeyEdit before c.args.added.now c.args.removed.now = subst (λ k. IsKeyEdit k c.args.added.now c.args.removed.now) (sym c.self.view_is) c.requires in
    let retired : IsRetired before c.args.removed.now c.in_ok-staying.staying.entries c.in_ok-ports.ports.entries c.in_ok-gone.gone c.in_ok-gone_ports.gone_ports =
    record { staying = c.in_ok-staying.ensures; staying_ports = c.in_ok-ports.ensures; retired = c.in_ok-gone.ensures; retired_ports = c.in_ok-gone_ports.ensures } in
    let made = c.in_ok-datapaths.ensures ∙ ap (λ es. put_all c.in_ok-staying.staying.entries es) c.in_ok-more.ensures.given in
    let last = c.in_ok-ports-2.ensures ∙ ap (λ es. put_all c.in_ok-ports.ports.entries es) c.in_ok-more-2.ensures.given in
    let all = made_after before c.args.added.now c.args.removed.now c.self.invariant.0 edit c.in_ok-staying.staying.entries c.in_ok-ports.ports.entries c.in_ok-gone.gone c.in_ok-gone_ports.gone_ports retired
    c.in_ok-more.ensures.enough c.in_ok-datapaths.datapaths.entries made c.in_ok-more-2.ensures.enough c.in_ok-ports-2.ports.entries last
    c.in_ok-retired_datapaths.retired_datapaths c.in_ok-retired_ports.retired_ports c.in_ok-retired_datapaths.ensures.order c.in_ok-retired_ports.ensures.order
    (λ h. subst (λ l. Among h c.in_ok-retired_datapaths.retired_datapaths ↔ Among h l) c.as_slice.ensures (c.in_ok-retired_datapaths.ensures.same h))
    (λ h. subst (λ l. Among h c.in_ok-retired_ports.retired_ports ↔ Among h l) c.as_slice-2.ensures (c.in_ok-retired_ports.ensures.same h)) in
    subst (λ k. IsAfter k c.args.added.now c.args.removed.now (record before { datapaths = c.in_ok-datapaths.datapaths.entries; ports = c.in_ok-ports-2.ports.entries; retired_datapaths = c.in_ok-retired_datapaths.retired_datapaths; retired_ports = c.in_ok-retired_ports.retired_ports })) c.self.view_is all

pub returns-clause-enough : goal.returns-clause-enough
returns-clause-enough c =
    let before : Keys = record { datapath_range = c.self.inside.datapath_range; port_range = c.self.inside.port_range; datapaths = c.self.inside.datapaths.entries; ports = c.self.inside.ports.entries; retired_datapaths = c.self.inside.retired_datapaths; retired_ports = c.self.inside.retired_ports } in
    let edit : IsKeyEdit before c.args.added.now c.args.removed.now = subst (λ k. IsKeyEdit k c.args.added.now c.args.removed.now) (sym c.self.view_is) c.requires in
    let retired : IsRetired before c.args.removed.now c.in_ok-staying.staying.entries c.in_ok-ports.ports.entries c.in_ok-gone.gone c.in_ok-gone_ports.gone_ports =
    record { staying = c.in_ok-staying.ensures; staying_ports = c.in_ok-ports.ensures; retired = c.in_ok-gone.ensures; retired_ports = c.in_ok-gone_ports.ensures } in
    let made = c.in_ok-datapaths.ensures ∙ ap (λ es. put_all c.in_ok-staying.staying.entries es) c.in_ok-more.ensures.given in
    let last = c.in_ok-ports-2.ensures ∙ ap (λ es. put_all c.in_ok-ports.ports.entries es) c.in_ok-more-2.ensures.given in
    subst (λ k. HasKeys k c.args.added.now c.args.removed.now) c.self.view_is (made_has before c.args.added.now c.args.removed.now c.self.invariant.0 edit c.in_ok-staying.staying.entries c.in_ok-ports.ports.entries c.in_ok-gone.gone c.in_ok-gone_ports.gone_ports retired c.in_ok-more.ensures.enough c.in_ok-datapaths.datapaths.entries made c.in_ok-more-2.ensures.enough c.in_ok-ports-2.ports.entries last)
