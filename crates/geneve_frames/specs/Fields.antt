-- What the code keeps of a base header, of an option, and of the options that it has seen.
use Rattle.std.specs.Prelude.{◌≡◌, ◌*◌, ◌≤◌, nat_le, List, [], ◌∷◌, length, filter}
use Rattle.std.specs.List.{list_any}
use Rattle.geneve_frames.specs.Layout.{BaseHeader, TunnelOption}
use Rattle.geneve_frames.specs.Meaning.{is_ovn, is_unknown_critical, CarriesKeys}
use Rattle.geneve_frames.specs.declared.layout.BaseFields.{BaseFields}
use Rattle.geneve_frames.specs.declared.layout.OptionFields.{OptionFields}
use Rattle.geneve_frames.specs.declared.survey.Ovn.{Ovn}
use Rattle.geneve_frames.specs.declared.survey.Ovn.TheVariants.{Missing, Once, Repeated}
use Rattle.geneve_frames.specs.declared.survey.Survey.{Survey}

-- the fields are those of this base header
pub record IsBase (fields : BaseFields) (base : BaseHeader) : Type 0 where
  pub version : fields.version ≡ base.version
  pub options_length : fields.options_length ≡ 4 * base.words
  pub control : fields.is_control ≡ nat_le 1 base.control
  pub protocol : fields.protocol ≡ base.protocol
  pub vni : fields.vni ≡ base.vni

-- the fields are those of this option
pub record IsOption (fields : OptionFields) (option : TunnelOption) : Type 0 where
  pub class : fields.class ≡ option.class
  pub kind : fields.kind ≡ option.kind
  pub content : fields.«data».now ≡ option.content

-- how often OVN's option is among the options, with its keys where it is there once
abbrev pub IsFound : Ovn → List TunnelOption → Type 0
IsFound Missing options = filter is_ovn options ≡ []
IsFound (Once in_key out_key) options = (ovn : TunnelOption) × (filter is_ovn options ≡ ovn ∷ []) × CarriesKeys ovn.content in_key out_key
IsFound Repeated options = 2 ≤ length (filter is_ovn options)

-- the options have this in all
pub record Sums (survey : Survey) (options : List TunnelOption) : Type 0 where
  pub critical : survey.unknown_critical ≡ list_any is_unknown_critical options
  pub ovn : IsFound survey.ovn options
