-- What a refusal says: its name, and after one space each thing that it is about.
use Rattle.std.specs.Prelude.{ℕ, List, ◌++◌, codes, decimal}
use Rattle.std.specs.Option.{unwrap_or}
use Rattle.ovn_base.specs.addresses.AddressText.{mac_text, ip4_text}
use Rattle.ovn_base.specs.names.NameText.{spelled_name}
use Rattle.match_language.specs.declared.fault.MatchFault.{MatchFault}
use Rattle.match_language.specs.declared.fault.MatchFault.TheVariants as bad
use Rattle.nb_rules.specs.declared.fault.Address.{Address}
use Rattle.nb_rules.specs.declared.fault.Address.TheVariants.{Ether, Ip}
use Rattle.nb_rules.specs.declared.fault.Limited.{Limited}
use Rattle.nb_rules.specs.declared.fault.Limited.TheVariants.{Datapath, Port, Acl, Cubes}
use Rattle.nb_rules.specs.declared.fault.SchemaFault.{SchemaFault}
use Rattle.nb_rules.specs.declared.fault.SchemaFault.TheVariants as fault
use Rattle.edit_reader.specs.declared.event.ReadRefusal.{ReadRefusal}
use Rattle.edit_reader.specs.declared.event.ReadRefusal.TheVariants as unread
use Rattle.event_lines.specs.declared.refusal.Refusal.{Refusal}
use Rattle.event_lines.specs.declared.refusal.Refusal.TheVariants as why
use Rattle.event_lines.specs.Text.{backend_text}

-- what a refusal is about is shown where it is a name, and else as `?`
abbrev pub argument_text : List ℕ → List ℕ
argument_text bytes = unwrap_or (spelled_name bytes) (codes "?")

-- the address as it is printed
abbrev pub address_text : Address → List ℕ
address_text (Ether mac) = mac_text mac
address_text (Ip ip) = ip4_text ip

-- the fault of a match, and its place
abbrev pub match_words : MatchFault → List ℕ
match_words (bad.Token place) = codes "Token " ++ decimal place
match_words (bad.Syntax place) = codes "Syntax " ++ decimal place
match_words (bad.UnknownField place) = codes "UnknownField " ++ decimal place
match_words (bad.BadConstant place) = codes "BadConstant " ++ decimal place
match_words (bad.MixedAndOr place) = codes "MixedAndOr " ++ decimal place
match_words (bad.TooDeep place) = codes "TooDeep " ++ decimal place

-- why a line was not read
abbrev pub read_words : ReadRefusal → List ℕ
read_words unread.TooLong = codes "TooLong"
read_words unread.BadJson = codes "BadJson"
read_words unread.NotObject = codes "NotObject"
read_words unread.UnknownEvent = codes "UnknownEvent"
read_words (unread.UnknownField field) = codes "UnknownField " ++ argument_text field
read_words (unread.MissingField field) = codes "MissingField " ++ argument_text field
read_words (unread.WrongKind field) = codes "WrongKind " ++ argument_text field
read_words (unread.OutOfRange field) = codes "OutOfRange " ++ argument_text field
read_words (unread.BadMatch match_fault) = codes "BadMatch " ++ match_words match_fault

-- what there may be only so many of
abbrev pub limit_word : Limited → List ℕ
limit_word Datapath = codes "datapath"
limit_word Port = codes "port"
limit_word Acl = codes "acl"
limit_word Cubes = codes "cubes"

-- what is wrong with an edit
abbrev pub schema_words : SchemaFault → List ℕ
schema_words (fault.DuplicateName name) = codes "DuplicateName " ++ argument_text name
schema_words (fault.NoSuch name) = codes "NoSuch " ++ argument_text name
schema_words (fault.BadDirection name) = codes "BadDirection " ++ argument_text name
schema_words (fault.StillUsed name) = codes "StillUsed " ++ argument_text name
schema_words (fault.BadAddress name) = codes "BadAddress " ++ argument_text name
schema_words (fault.BadPeer name) = codes "BadPeer " ++ argument_text name
schema_words (fault.DuplicateAddress address holder) = codes "DuplicateAddress " ++ (address_text address ++ (codes " " ++ argument_text holder))
schema_words (fault.DuplicatePrefix name) = codes "DuplicatePrefix " ++ argument_text name
schema_words (fault.NoNetworkForNexthop name) = codes "NoNetworkForNexthop " ++ argument_text name
schema_words (fault.NatNeedsChassis name) = codes "NatNeedsChassis " ++ argument_text name
schema_words (fault.TooWide width) = codes "TooWide " ++ decimal width
schema_words (fault.Limit limited) = codes "Limit " ++ limit_word limited

-- why an event does nothing
abbrev pub refusal_words : Refusal → List ℕ
refusal_words (why.Read read_fault) = read_words read_fault
refusal_words (why.Schema schema_fault) = schema_words schema_fault
refusal_words why.NoDatapathKey = codes "NoDatapathKey"
refusal_words (why.NoPortKey datapath) = codes "NoPortKey " ++ argument_text datapath
refusal_words (why.NoSuch name) = codes "NoSuch " ++ argument_text name
refusal_words (why.NoSuchBackend backend) = codes "NoSuch " ++ backend_text backend
refusal_words (why.NotBound port) = codes "NotBound " ++ argument_text port
refusal_words (why.DuplicateName name) = codes "DuplicateName " ++ argument_text name
refusal_words why.LimitChassis = codes "Limit chassis"
refusal_words why.KeysFixed = codes "KeysFixed"
refusal_words why.TooShort = codes "TooShort"
refusal_words why.TooBig = codes "TooBig"
refusal_words why.BadIp4 = codes "BadIp4"
refusal_words (why.NoFrame frame) = codes "NoFrame " ++ decimal frame
refusal_words why.TooManyFrames = codes "TooManyFrames"
refusal_words why.NotBuilt = codes "NotBuilt"
