-- The laws of all stages of a switch.
use Rattle.std.proofs.Common.{refl}
use Rattle.logical_flows.specs.declared.stage.Stage.TheVariants as stage
use Rattle.row_laws.proofs.switch.AdmitStage.{admit_law}
use Rattle.row_laws.proofs.switch.ArpStage.{arp_law}
use Rattle.row_laws.proofs.units.BaseRows.{base_law, rows_agree, table_law}
use Rattle.row_laws.proofs.switch.LookupStage.{lookup_law}
use Rattle.row_laws.proofs.switch.PortSecurityStage.{port_security_law}
use Rattle.row_laws.proofs.switch.RuleStages.{rules_in_law, rules_out_law}
use Rattle.row_laws.proofs.switch.SecurityOutStage.{security_out_law}
use Rattle.row_laws.proofs.switch.StateInStage.{state_in_law}
use Rattle.row_laws.proofs.switch.StateStages.{state_out_law}
use Rattle.row_laws.proofs.switch.TrackStages.{track_law, track_out_law}
use Rattle.row_laws.specs.StageLaws.{OfEachStage, StageLaw, BaseLaw, AgreeLaw, TableLaw}

pub each_law : OfEachStage StageLaw
each_law = record {
  admit = admit_law;
  port_security = port_security_law;
  track = track_law;
  acl_in = rules_in_law;
  state_in = state_in_law;
  arp = arp_law;
  lookup = lookup_law;
  track_out = track_out_law;
  acl_out = rules_out_law;
  state_out = state_out_law;
  security_out = security_out_law;
}

pub each_base : OfEachStage BaseLaw
each_base = record {
  admit = base_law stage.SwitchAdmit refl;
  port_security = base_law stage.SwitchPortSecurity refl;
  track = base_law stage.SwitchTrack refl;
  acl_in = base_law stage.SwitchAclIn refl;
  state_in = base_law stage.SwitchStateIn refl;
  arp = base_law stage.SwitchArp refl;
  lookup = base_law stage.SwitchLookup refl;
  track_out = base_law stage.SwitchTrackOut refl;
  acl_out = base_law stage.SwitchAclOut refl;
  state_out = base_law stage.SwitchStateOut refl;
  security_out = base_law stage.SwitchSecurityOut refl;
}

pub each_agrees : OfEachStage AgreeLaw
each_agrees = record {
  admit = rows_agree stage.SwitchAdmit admit_law;
  port_security = rows_agree stage.SwitchPortSecurity port_security_law;
  track = rows_agree stage.SwitchTrack track_law;
  acl_in = rows_agree stage.SwitchAclIn rules_in_law;
  state_in = rows_agree stage.SwitchStateIn state_in_law;
  arp = rows_agree stage.SwitchArp arp_law;
  lookup = rows_agree stage.SwitchLookup lookup_law;
  track_out = rows_agree stage.SwitchTrackOut track_out_law;
  acl_out = rows_agree stage.SwitchAclOut rules_out_law;
  state_out = rows_agree stage.SwitchStateOut state_out_law;
  security_out = rows_agree stage.SwitchSecurityOut security_out_law;
}

pub each_table : OfEachStage TableLaw
each_table = record {
  admit = table_law stage.SwitchAdmit admit_law refl;
  port_security = table_law stage.SwitchPortSecurity port_security_law refl;
  track = table_law stage.SwitchTrack track_law refl;
  acl_in = table_law stage.SwitchAclIn rules_in_law refl;
  state_in = table_law stage.SwitchStateIn state_in_law refl;
  arp = table_law stage.SwitchArp arp_law refl;
  lookup = table_law stage.SwitchLookup lookup_law refl;
  track_out = table_law stage.SwitchTrackOut track_out_law refl;
  acl_out = table_law stage.SwitchAclOut rules_out_law refl;
  state_out = table_law stage.SwitchStateOut state_out_law refl;
  security_out = table_law stage.SwitchSecurityOut security_out_law refl;
}
