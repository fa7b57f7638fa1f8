-- In each stage of a switch rows agree, wherever the packet is.
use Rattle.row_laws.proofs.agreeing.ArpStage.{arp_agrees}
use Rattle.row_laws.proofs.agreeing.GradedStages.{admit_agrees, port_security_agrees, track_agrees, acl_in_agrees, track_out_agrees, acl_out_agrees, security_out_agrees}
use Rattle.row_laws.proofs.agreeing.LookupStage.{lookup_agrees}
use Rattle.row_laws.proofs.agreeing.StateStages.{state_in_agrees, state_out_agrees}
use Rattle.row_laws.specs.AgreeAnywhere.{AgreeAnywhereLaw}
use Rattle.row_laws.specs.StageLaws.{OfEachStage}

pub each_agrees_anywhere : OfEachStage AgreeAnywhereLaw
each_agrees_anywhere = record {
  admit = admit_agrees;
  port_security = port_security_agrees;
  track = track_agrees;
  acl_in = acl_in_agrees;
  state_in = state_in_agrees;
  arp = arp_agrees;
  lookup = lookup_agrees;
  track_out = track_out_agrees;
  acl_out = acl_out_agrees;
  state_out = state_out_agrees;
  security_out = security_out_agrees;
}
