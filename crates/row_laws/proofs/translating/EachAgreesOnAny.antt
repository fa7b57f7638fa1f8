-- In each stage of a router rows agree, wherever the packet is, be it a router that translates or not; so flows do in each table.
use Rattle.std.proofs.Common.{refl}
use Rattle.logical_flows.specs.Stages.{stage_table}
use Rattle.logical_flows.specs.declared.stage.Stage.TheVariants as stage
use Rattle.row_laws.proofs.agreeing.ArpStage.{arp_agrees}
use Rattle.row_laws.proofs.agreeing.FlowsAgree.{flows_by_rows, none_in_routers}
use Rattle.row_laws.proofs.agreeing.GradedRouterStages.{two_by_grade, at_admit, admit_graded, at_own, own_graded, at_undo, undo_graded, at_find, find_graded}
use Rattle.row_laws.proofs.agreeing.GradedStages.{admit_agrees, port_security_agrees, track_agrees, acl_in_agrees, track_out_agrees, acl_out_agrees, security_out_agrees}
use Rattle.row_laws.proofs.agreeing.LookupStage.{lookup_agrees}
use Rattle.row_laws.proofs.agreeing.RouterAnswers.{taken_in}
use Rattle.row_laws.proofs.agreeing.RouterNeighbours.{sent}
use Rattle.row_laws.proofs.agreeing.RouterRoutes.{routed}
use Rattle.row_laws.proofs.agreeing.StateStages.{state_in_agrees, state_out_agrees}
use Rattle.row_laws.proofs.translating.AnyRows.{law_of_own}
use Rattle.row_laws.proofs.translating.DnatRows.{any_dnat_agrees}
use Rattle.row_laws.proofs.translating.SnatRows.{any_snat_agrees}
use Rattle.row_laws.specs.AgreeAnywhere.{FlowsAgreeLaw}
use Rattle.row_laws.specs.AgreeTranslating.{AnyRouterAgreesAnywhereLaw}
use Rattle.row_laws.specs.StageLaws.{OfEachStage}
use Rattle.row_laws.specs.routers.RouterLaws.{OfEachRouterStage}

pub each_agrees_on_any : OfEachRouterStage AnyRouterAgreesAnywhereLaw
each_agrees_on_any = record {
  admit = law_of_own stage.RouterAdmit refl (record { nats = λ x. refl; balancers = λ online d x. refl }) (two_by_grade stage.RouterAdmit at_admit admit_graded);
  input = law_of_own stage.RouterInput refl (record { nats = λ x. refl; balancers = λ online d x. refl }) taken_in;
  undo = law_of_own stage.RouterUndo refl (record { nats = λ x. refl; balancers = λ online d x. refl }) (two_by_grade stage.RouterUndo at_undo undo_graded);
  dnat = any_dnat_agrees;
  own = law_of_own stage.RouterOwn refl (record { nats = λ x. refl; balancers = λ online d x. refl }) (two_by_grade stage.RouterOwn at_own own_graded);
  route = law_of_own stage.RouterRoute refl (record { nats = λ x. refl; balancers = λ online d x. refl }) routed;
  neighbour = law_of_own stage.RouterNeighbour refl (record { nats = λ x. refl; balancers = λ online d x. refl }) sent;
  find = law_of_own stage.RouterFind refl (record { nats = λ x. refl; balancers = λ online d x. refl }) (two_by_grade stage.RouterFind at_find find_graded);
  snat = any_snat_agrees;
}

pub each_flows_agree : OfEachStage FlowsAgreeLaw
each_flows_agree = record {
  admit = flows_by_rows stage.SwitchAdmit admit_agrees each_agrees_on_any.admit;
  port_security = flows_by_rows stage.SwitchPortSecurity port_security_agrees each_agrees_on_any.input;
  track = flows_by_rows stage.SwitchTrack track_agrees each_agrees_on_any.undo;
  acl_in = flows_by_rows stage.SwitchAclIn acl_in_agrees each_agrees_on_any.dnat;
  state_in = flows_by_rows stage.SwitchStateIn state_in_agrees each_agrees_on_any.own;
  arp = flows_by_rows stage.SwitchArp arp_agrees each_agrees_on_any.route;
  lookup = flows_by_rows stage.SwitchLookup lookup_agrees each_agrees_on_any.neighbour;
  track_out = flows_by_rows stage.SwitchTrackOut track_out_agrees each_agrees_on_any.find;
  acl_out = flows_by_rows stage.SwitchAclOut acl_out_agrees each_agrees_on_any.snat;
  state_out = flows_by_rows stage.SwitchStateOut state_out_agrees (none_in_routers (stage_table stage.SwitchStateOut) refl);
  security_out = flows_by_rows stage.SwitchSecurityOut security_out_agrees (none_in_routers (stage_table stage.SwitchSecurityOut) refl);
}
