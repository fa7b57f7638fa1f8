-- The fields of each kind of record and of each event, as tables; and the reading of an object by a table.
use Rattle.std.specs.Prelude.{ℕ, ◌^◌, ◌-◌, ◌&&◌, ◌||◌, if◌then◌else◌, not, nat_le, Bool, true, false, List, [], ◌∷◌, length, codes, Option, Some, None, is_some, option_and_then, Result, Ok, Err}
use Rattle.std.specs.Str.{bytes_eq}
use Rattle.serde_json.specs.Data.{Data}
use Rattle.serde_json.specs.Find.{get, as_str, as_array}
use Rattle.match_language.specs.Reading.{whole}
use Rattle.match_language.specs.declared.expr.Expr.{Expr}
use Rattle.match_language.specs.declared.fault.MatchFault.{MatchFault}
use Rattle.match_language.specs.declared.field.Direction.{Direction}
use Rattle.match_language.specs.declared.field.Direction.TheVariants as way
use Rattle.ovn_base.specs.addresses.AddressReading.{spelled_mac, spelled_ip4, spelled_cidr}
use Rattle.ovn_base.specs.declared.address.Backend.{Backend}
use Rattle.ovn_base.specs.declared.address.Cidr.{Cidr}
use Rattle.ovn_base.specs.declared.address.Ip4.{Ip4}
use Rattle.ovn_base.specs.declared.address.Mac.{Mac}
use Rattle.ovn_base.specs.declared.address.SetEntry.{SetEntry}
use Rattle.ovn_base.specs.declared.limits.TheConstants.{MAX_ACL_PRIORITY, MAX_DATAPATH_KEY, MAX_PORT_KEY, MAX_CLOCK}
use Rattle.ovn_base.specs.declared.name.Name.{Name}
use Rattle.ovn_base.specs.names.NameText.{spelled_name}
use Rattle.nb_records.specs.declared.balancer.BalancerProtocol.{BalancerProtocol}
use Rattle.nb_records.specs.declared.balancer.BalancerProtocol.TheVariants as protocol
use Rattle.nb_records.specs.declared.balancer.Vip.{Vip}
use Rattle.nb_records.specs.declared.kinds.Kind.{Kind}
use Rattle.nb_records.specs.declared.kinds.Kind.TheVariants as kind
use Rattle.nb_records.specs.declared.router.NatKind.{NatKind}
use Rattle.nb_records.specs.declared.rule.RuleAction.{RuleAction}
use Rattle.nb_records.specs.declared.switch.PortAddress.{PortAddress}
use Rattle.nb_records.specs.declared.switch.PortKind.{PortKind}
use Rattle.nb_records.specs.declared.switch.PortKind.TheVariants as port_kind
use Rattle.nb_records.specs.declared.switch.SecurityEntry.{SecurityEntry}
use Rattle.edit_reader.specs.Outcomes.{Read, ◌>>=◌, of_kind, in_range}
use Rattle.edit_reader.specs.Fields.{needed, given, default_or, needed_where, text_in, text_by, texts_of, texts_by, each_by, flag, number_in}
use Rattle.edit_reader.specs.Grammars.{spelled_port_kind, spelled_nat_kind, spelled_direction, spelled_action, spelled_protocol, spelled_prefix, spelled_set_entry, spelled_port_address, spelled_security, spelled_backend, spelled_frame}
use Rattle.edit_reader.specs.Vips.{vips_in}
use Rattle.edit_reader.specs.declared.event.ReadRefusal.TheVariants.{BadMatch}

-- ---- what the values of a field are

-- the grammars of texts
pub data Grammar : Type 0 where
  names : Grammar
  macs : Grammar
  ips : Grammar
  -- IP/LEN
  prefixes : Grammar
  -- IP or IP/LEN
  ips_or_prefixes : Grammar
  backends : Grammar
  port_addresses : Grammar
  security_entries : Grammar
  set_entries : Grammar
  port_kinds : Grammar
  nat_kinds : Grammar
  directions : Grammar
  actions : Grammar
  protocols : Grammar
  frames : Grammar

abbrev pub SpelledAs : Grammar → Type 0
SpelledAs names = Name
SpelledAs macs = Mac
SpelledAs ips = Ip4
SpelledAs prefixes = Cidr
SpelledAs ips_or_prefixes = Cidr
SpelledAs backends = Backend
SpelledAs port_addresses = PortAddress
SpelledAs security_entries = SecurityEntry
SpelledAs set_entries = SetEntry
SpelledAs port_kinds = PortKind
SpelledAs nat_kinds = NatKind
SpelledAs directions = Direction
SpelledAs actions = RuleAction
SpelledAs protocols = BalancerProtocol
SpelledAs frames = List ℕ

abbrev pub spelled_as : (g : Grammar) → List ℕ → Option (SpelledAs g)
spelled_as names = spelled_name
spelled_as macs = spelled_mac
spelled_as ips = spelled_ip4
spelled_as prefixes = spelled_prefix
spelled_as ips_or_prefixes = spelled_cidr
spelled_as backends = spelled_backend
spelled_as port_addresses = spelled_port_address
spelled_as security_entries = spelled_security
spelled_as set_entries = spelled_set_entry
spelled_as port_kinds = spelled_port_kind
spelled_as nat_kinds = spelled_nat_kind
spelled_as directions = spelled_direction
spelled_as actions = spelled_action
spelled_as protocols = spelled_protocol
spelled_as frames = spelled_frame

pub data Shape : Type 0 where
  -- a text in the grammar
  a_text : Grammar → Shape
  -- an array of such texts
  texts : Grammar → Shape
  -- an array of 1 to 16 prefixes
  networks : Shape
  a_flag : Shape
  -- a whole number from the first to the second
  a_number : ℕ → ℕ → Shape
  a_match : Shape
  vips : Shape

abbrev pub ValueOf : Shape → Type 0
ValueOf (a_text g) = SpelledAs g
ValueOf (texts g) = List (SpelledAs g)
ValueOf networks = List Cidr
ValueOf a_flag = Bool
ValueOf (a_number least most) = ℕ
ValueOf a_match = Expr
ValueOf vips = List Vip

abbrev pub few_networks : List (List ℕ) → Option (List (List ℕ))
few_networks found = if nat_le 1 (length found) && nat_le (length found) 16 then Some found else None

-- first each element is a text, then there are 1 to 16, then each is IP/LEN
unfoldable pub networks_in : List ℕ → Data → Read (List Cidr)
networks_in field d = do
  items ← of_kind field (as_array d)
  found ← texts_of field items
  few ← in_range field (few_networks found)
  in_range field (each_by spelled_prefix few)

-- the field is there, and exactly this text
abbrev pub is_the_text : List ℕ → Option (List ℕ) → Bool
is_the_text text None = false
is_the_text text (Some s) = bytes_eq s text

abbrev pub says : List ℕ → List ℕ → Data → Bool
says field text d = is_the_text text (option_and_then as_str (get field d))

abbrev pub has : List ℕ → Data → Bool
has field d = is_some (get field d)

-- the direction of the rule of which the object is: to-lport where it says none, as in a `set`
abbrev pub way_in : Data → Direction
way_in d = if says (codes "direction") (codes "from-lport") d then way.FromLport else way.ToLport

abbrev pub match_of : Result Expr MatchFault → Read Expr
match_of (Ok expr) = Ok expr
match_of (Err fault) = Err (BadMatch fault)

-- a text in the match language, for a rule of that direction
unfoldable pub match_in : Direction → List ℕ → Data → Read Expr
match_in way field d = text_in field d >>= λ text. match_of (whole way text)

-- what a value of the shape is in the object
abbrev pub reads_as : (s : Shape) → Data → List ℕ → Data → Read (ValueOf s)
reads_as (a_text g) o = text_by (spelled_as g)
reads_as (texts g) o = texts_by (spelled_as g)
reads_as networks o = networks_in
reads_as a_flag o = flag
reads_as (a_number least most) o = number_in least most
reads_as a_match o = match_in (way_in o)
reads_as vips o = vips_in

-- ---- whether a field has to be there

pub data Need (A : Type 0) : Type 0 where
  required : Need A
  by_default : A → Need A
  optional : Need A
  -- it has to be there where the object passes the test, and is no field of the object elsewhere
  only_where : (Data → Bool) → Need A

abbrev pub Taken : {A : Type 0} → Need A → Type 0
Taken {A} required = A
Taken {A} (by_default x) = A
Taken {A} optional = Option A
Taken {A} (only_where test) = Option A

abbrev pub field_by : {A : Type 0} → (need : Need A) → (List ℕ → Data → Read A) → List ℕ → Data → Read (Taken need)
field_by required reads field d = needed reads field d
field_by (by_default x) reads field d = default_or reads x field d
field_by optional reads field d = given reads field d
field_by (only_where test) reads field d = needed_where (test d) reads field d

abbrev pub is_field : {A : Type 0} → Need A → Data → Bool
is_field (only_where test) d = test d
is_field _ d = true

-- ---- tables

-- a field: its name, what its values are, whether it has to be there, and whether `set` refuses it
pub record Row : Type 0 where
  pub name : List ℕ
  pub shape : Shape
  pub need : Need (ValueOf shape)
  pub fixed : Bool

-- marked *, and not
abbrev pub fixed : List ℕ → (s : Shape) → Need (ValueOf s) → Row
fixed name s need = record { name = name; shape = s; need = need; fixed = true }

abbrev pub free : List ℕ → (s : Shape) → Need (ValueOf s) → Row
free name s need = record { name = name; shape = s; need = need; fixed = false }

-- `type` is exactly the text `router`
abbrev pub is_router : Data → Bool
is_router d = says (codes "type") (codes "router") d

-- a rule without `port_group` is one of a switch, and one with `switch` is one of no group
abbrev pub is_of_switch : Data → Bool
is_of_switch d = has (codes "switch") d || not (has (codes "port_group") d)

abbrev pub is_of_group : Data → Bool
is_of_group d = not (has (codes "switch") d)

-- the fields of each kind behind `name`, in their order
abbrev pub rows_of : Kind → List Row
rows_of kind.Switch = []
rows_of kind.Router =
    fixed (codes "chassis") (a_text names) optional
    ∷ []
rows_of kind.RouterPort =
    fixed (codes "router") (a_text names) required
    ∷ free (codes "mac") (a_text macs) required
    ∷ free (codes "networks") networks required
    ∷ free (codes "peer") (a_text names) optional
    ∷ []
rows_of kind.SwitchPort =
    fixed (codes "switch") (a_text names) required
    ∷ fixed (codes "type") (a_text port_kinds) (by_default port_kind.Virtual)
    ∷ fixed (codes "router_port") (a_text names) (only_where is_router)
    ∷ free (codes "addresses") (texts port_addresses) (by_default [])
    ∷ free (codes "port_security") (texts security_entries) (by_default [])
    ∷ free (codes "enabled") a_flag (by_default true)
    ∷ []
rows_of kind.AddressSet =
    free (codes "addresses") (texts set_entries) required
    ∷ []
rows_of kind.PortGroup =
    free (codes "ports") (texts names) required
    ∷ []
rows_of kind.Acl =
    fixed (codes "switch") (a_text names) (only_where is_of_switch)
    ∷ fixed (codes "port_group") (a_text names) (only_where is_of_group)
    ∷ fixed (codes "direction") (a_text directions) required
    ∷ free (codes "priority") (a_number 0 MAX_ACL_PRIORITY) required
    ∷ free (codes "match") a_match required
    ∷ free (codes "action") (a_text actions) required
    ∷ []
rows_of kind.Route =
    fixed (codes "router") (a_text names) required
    ∷ free (codes "prefix") (a_text prefixes) required
    ∷ free (codes "nexthop") (a_text ips) required
    ∷ []
rows_of kind.Nat =
    fixed (codes "router") (a_text names) required
    ∷ fixed (codes "type") (a_text nat_kinds) required
    ∷ free (codes "external_ip") (a_text ips) required
    ∷ free (codes "logical_ip") (a_text ips_or_prefixes) required
    ∷ []
rows_of kind.LoadBalancer =
    fixed (codes "protocol") (a_text protocols) (by_default protocol.Tcp)
    ∷ free (codes "vips") vips required
    ∷ free (codes "switches") (texts names) (by_default [])
    ∷ free (codes "routers") (texts names) (by_default [])
    ∷ []
rows_of kind.StaticMac =
    fixed (codes "port") (a_text names) required
    ∷ free (codes "ip") (a_text ips) required
    ∷ free (codes "mac") (a_text macs) required
    ∷ []

-- the fields of the inner object of each event that has one kind of such
abbrev pub port_rows : List Row
port_rows = fixed (codes "port") (a_text names) required ∷ []

abbrev pub bind_rows : List Row
bind_rows =
    fixed (codes "port") (a_text names) required
    ∷ fixed (codes "chassis") (a_text names) required
    ∷ []

abbrev pub key_rows : List Row
key_rows =
    fixed (codes "datapaths") (a_number 1 MAX_DATAPATH_KEY) required
    ∷ fixed (codes "ports") (a_number 1 MAX_PORT_KEY) required
    ∷ []

abbrev pub health_rows : List Row
health_rows =
    fixed (codes "balancer") (a_text names) required
    ∷ fixed (codes "backend") (a_text backends) required
    ∷ fixed (codes "online") a_flag required
    ∷ []

abbrev pub clock_rows : List Row
clock_rows = fixed (codes "seconds") (a_number 0 MAX_CLOCK) required ∷ []

abbrev pub entry_rows : List Row
entry_rows =
    fixed (codes "port") (a_text names) required
    ∷ fixed (codes "frame") (a_text frames) required
    ∷ []

abbrev pub frame_rows : List Row
frame_rows = fixed (codes "frame") (a_number 0 (2 ^ 64 - 1)) required ∷ []

-- ---- the reading of a table

abbrev pub ValuesOf : List Row → Type 0
ValuesOf [] = Unit {0}
ValuesOf (r ∷ rs) = Taken r.need × ValuesOf rs

-- the fields that an object gives, in their order
abbrev pub values_of : (rows : List Row) → Data → Read (ValuesOf rows)
values_of [] d = Ok tt
values_of (r ∷ rs) d = field_by r.need (reads_as r.shape d) r.name d >>= λ x. values_of rs d >>= λ xs. Ok (x, xs)

abbrev pub Changed : Bool → Type 0 → Type 0 → Type 0
Changed true A B = B
Changed false A B = Option A × B

abbrev pub ChangesOf : List Row → Type 0
ChangesOf [] = Unit {0}
ChangesOf (r ∷ rs) = Changed r.fixed (ValueOf r.shape) (ChangesOf rs)

abbrev pub change_by : {A B : Type 0} → (refused : Bool) (reads : List ℕ → Data → Read A) → List ℕ → Data → Read B → Read (Changed refused A B)
change_by true reads field d others = others
change_by false reads field d others = given reads field d >>= λ x. others >>= λ xs. Ok (x, xs)

-- the fields that `set` gives, in their order
abbrev pub changes_of : (rows : List Row) → Data → Read (ChangesOf rows)
changes_of [] d = Ok tt
changes_of (r ∷ rs) d = change_by r.fixed (reads_as r.shape d) r.name d (changes_of rs d)

-- ---- the names that an object may have

abbrev pub names_in : List Row → Data → List (List ℕ)
names_in [] d = []
names_in (r ∷ rs) d = if is_field r.need d then r.name ∷ names_in rs d else names_in rs d

abbrev pub free_names : List Row → List (List ℕ)
free_names [] = []
free_names (r ∷ rs) = if r.fixed then free_names rs else r.name ∷ free_names rs
