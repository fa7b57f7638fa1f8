-- What a refusal says has no line feed.
use Rattle.std.proofs.Common.{◌≡◌, ◌+◌, ◌/◌, ◌%◌, ◌++◌, ℕ, Bool, true, false, List, [], ◌∷◌, map, nat_lt, codes, decimal, if◌then◌else◌, Some, None, refl, arith}
use Rattle.std.specs.Char.{digit_char}
use Rattle.std.specs.List.{AllByRecursion, list_all, join_with_byte}
use Rattle.std.specs.Option.{unwrap_or}
use Rattle.std.proofs.lemmas.Bool.Decides.{nat_tests}
use Rattle.std.proofs.lemmas.List.Elements.{recursion_from_All}
use Rattle.std.proofs.lemmas.List.Sums.{AllPass-from_list_all}
use Rattle.ovn_base.specs.addresses.AddressText.{pair_text, mac_text, ip4_text}
use Rattle.ovn_base.specs.addresses.EtherAddress.{mac_bytes}
use Rattle.ovn_base.specs.declared.address.Mac.{Mac}
use Rattle.ovn_base.specs.names.NameText.{is_name, name_byte, spelled_name}
use Rattle.match_language.specs.declared.fault.MatchFault.{MatchFault}
use Rattle.match_language.specs.declared.fault.MatchFault.TheVariants as bad
use Rattle.nb_rules.specs.declared.fault.Address.{Address}
use Rattle.nb_rules.specs.declared.fault.Address.TheVariants.{Ether, Ip}
use Rattle.nb_rules.specs.declared.fault.Limited.{Limited}
use Rattle.nb_rules.specs.declared.fault.Limited.TheVariants.{Datapath, Port, Acl, Cubes}
use Rattle.nb_rules.specs.declared.fault.SchemaFault.{SchemaFault}
use Rattle.nb_rules.specs.declared.fault.SchemaFault.TheVariants as fault
use Rattle.edit_reader.specs.declared.event.ReadRefusal.{ReadRefusal}
use Rattle.edit_reader.specs.declared.event.ReadRefusal.TheVariants as unread
use Rattle.event_lines.specs.declared.refusal.Refusal.{Refusal}
use Rattle.event_lines.specs.declared.refusal.Refusal.TheVariants as why
use Rattle.event_lines.specs.Text.{backend_text}
use Rattle.event_lines.proofs.BackendWords.{ip4_in_word, backend_in_word}
use Rattle.event_lines.specs.Refusals.{argument_text, address_text, match_words, read_words, limit_word, schema_words, refusal_words}
use Rattle.event_lines.proofs.Feeds.{IsNoFeed, HaveNoFeed, have_none, tested, no_feed_joined, no_feed_in, decimal_in_word, name_in_word}

-- ---- numbers, names and addresses

decimal_no_feed : (n : ℕ) → HaveNoFeed (decimal n)
decimal_no_feed n = no_feed_in (decimal n) (decimal_in_word n)

counted_no_feed : (label : List ℕ) (n : ℕ) → have_none label ≡ true → HaveNoFeed (label ++ decimal n)
counted_no_feed label n e = no_feed_joined label (decimal n) (tested label e) (decimal_no_feed n)

-- texts in a row, with a byte between each two that is no feed
row_no_feed : (between : ℕ) (texts : List (List ℕ)) → IsNoFeed between → AllByRecursion HaveNoFeed texts → HaveNoFeed (join_with_byte between texts)
row_no_feed between [] other h = tt
row_no_feed between (text ∷ []) other h = h.0
row_no_feed between (text ∷ next ∷ texts) other h =
    no_feed_joined text (between ∷ join_with_byte between (next ∷ texts)) h.0 (other, row_no_feed between (next ∷ texts) other h.1)

each_no_feed : (text : ℕ → List ℕ) (numbers : List ℕ) → ((n : ℕ) → HaveNoFeed (text n)) → AllByRecursion HaveNoFeed (map text numbers)
each_no_feed text [] h = tt
each_no_feed text (n ∷ numbers) h = (h n, each_no_feed text numbers h)

digit_no_feed : (d : ℕ) → IsNoFeed (digit_char d)
digit_no_feed d = by (nat_lt d 10)
  where
    by : (t : Bool) → IsNoFeed (if t then 48 + d else 87 + d)
    by true = λ e. omega arith
    by false = λ e. omega arith

mac_no_feed : (mac : Mac) → HaveNoFeed (mac_text mac)
mac_no_feed mac =
    row_no_feed 58 (map pair_text (mac_bytes mac)) (λ e. omega arith)
    (each_no_feed pair_text (mac_bytes mac) (λ b. (digit_no_feed (b / 16), (digit_no_feed (b % 16), tt))))

address_no_feed : (address : Address) → HaveNoFeed (address_text address)
address_no_feed (Ether mac) = mac_no_feed mac
address_no_feed (Ip ip) = no_feed_in (ip4_text ip) (ip4_in_word ip)

-- the bytes of a field stand there only where they are a name
argument_no_feed : (bytes : List ℕ) → HaveNoFeed (argument_text bytes)
unfolding spelled_name
argument_no_feed bytes = by (is_name bytes) refl
  where
    passing : is_name bytes ≡ true → list_all name_byte bytes ≡ true
    passing is = grind (arith, nat_tests)

    by : (t : Bool) → is_name bytes ≡ t → HaveNoFeed (unwrap_or (if t then Some bytes else None) (codes "?"))
    by true is = no_feed_in bytes (name_in_word bytes (recursion_from_All (λ b. name_byte b ≡ true) bytes (AllPass-from_list_all name_byte bytes (passing is))))
    by false is = tested (codes "?") refl

-- ---- refusals

match_no_feed : (match_fault : MatchFault) → HaveNoFeed (match_words match_fault)
match_no_feed (bad.Token place) = counted_no_feed (codes "Token ") place refl
match_no_feed (bad.Syntax place) = counted_no_feed (codes "Syntax ") place refl
match_no_feed (bad.UnknownField place) = counted_no_feed (codes "UnknownField ") place refl
match_no_feed (bad.BadConstant place) = counted_no_feed (codes "BadConstant ") place refl
match_no_feed (bad.MixedAndOr place) = counted_no_feed (codes "MixedAndOr ") place refl
match_no_feed (bad.TooDeep place) = counted_no_feed (codes "TooDeep ") place refl

argument_is_last : (label field : List ℕ) → have_none label ≡ true → HaveNoFeed (label ++ argument_text field)
argument_is_last label field e = no_feed_joined label (argument_text field) (tested label e) (argument_no_feed field)

read_no_feed : (read_fault : ReadRefusal) → HaveNoFeed (read_words read_fault)
read_no_feed unread.TooLong = tested (codes "TooLong") refl
read_no_feed unread.BadJson = tested (codes "BadJson") refl
read_no_feed unread.NotObject = tested (codes "NotObject") refl
read_no_feed unread.UnknownEvent = tested (codes "UnknownEvent") refl
read_no_feed (unread.UnknownField field) = argument_is_last (codes "UnknownField ") field refl
read_no_feed (unread.MissingField field) = argument_is_last (codes "MissingField ") field refl
read_no_feed (unread.WrongKind field) = argument_is_last (codes "WrongKind ") field refl
read_no_feed (unread.OutOfRange field) = argument_is_last (codes "OutOfRange ") field refl
read_no_feed (unread.BadMatch match_fault) = no_feed_joined (codes "BadMatch ") (match_words match_fault) (tested (codes "BadMatch ") refl) (match_no_feed match_fault)

limit_no_feed : (limited : Limited) → HaveNoFeed (limit_word limited)
limit_no_feed Datapath = tested (codes "datapath") refl
limit_no_feed Port = tested (codes "port") refl
limit_no_feed Acl = tested (codes "acl") refl
limit_no_feed Cubes = tested (codes "cubes") refl

schema_no_feed : (schema_fault : SchemaFault) → HaveNoFeed (schema_words schema_fault)
schema_no_feed (fault.DuplicateName name) = argument_is_last (codes "DuplicateName ") name refl
schema_no_feed (fault.NoSuch name) = argument_is_last (codes "NoSuch ") name refl
schema_no_feed (fault.BadDirection name) = argument_is_last (codes "BadDirection ") name refl
schema_no_feed (fault.StillUsed name) = argument_is_last (codes "StillUsed ") name refl
schema_no_feed (fault.BadAddress name) = argument_is_last (codes "BadAddress ") name refl
schema_no_feed (fault.BadPeer name) = argument_is_last (codes "BadPeer ") name refl
schema_no_feed (fault.DuplicateAddress address holder) =
    no_feed_joined (codes "DuplicateAddress ") (address_text address ++ (codes " " ++ argument_text holder)) (tested (codes "DuplicateAddress ") refl)
    (no_feed_joined (address_text address) (codes " " ++ argument_text holder) (address_no_feed address) (argument_is_last (codes " ") holder refl))
schema_no_feed (fault.DuplicatePrefix name) = argument_is_last (codes "DuplicatePrefix ") name refl
schema_no_feed (fault.NoNetworkForNexthop name) = argument_is_last (codes "NoNetworkForNexthop ") name refl
schema_no_feed (fault.NatNeedsChassis name) = argument_is_last (codes "NatNeedsChassis ") name refl
schema_no_feed (fault.TooWide width) = counted_no_feed (codes "TooWide ") width refl
schema_no_feed (fault.Limit limited) = no_feed_joined (codes "Limit ") (limit_word limited) (tested (codes "Limit ") refl) (limit_no_feed limited)

pub refusal_no_feed : (cause : Refusal) → HaveNoFeed (refusal_words cause)
refusal_no_feed (why.Read read_fault) = read_no_feed read_fault
refusal_no_feed (why.Schema schema_fault) = schema_no_feed schema_fault
refusal_no_feed why.NoDatapathKey = tested (codes "NoDatapathKey") refl
refusal_no_feed (why.NoPortKey datapath) = argument_is_last (codes "NoPortKey ") datapath refl
refusal_no_feed (why.NoSuch name) = argument_is_last (codes "NoSuch ") name refl
refusal_no_feed (why.NoSuchBackend backend) = no_feed_joined (codes "NoSuch ") (backend_text backend) (tested (codes "NoSuch ") refl) (no_feed_in (backend_text backend) (backend_in_word backend))
refusal_no_feed (why.NotBound port) = argument_is_last (codes "NotBound ") port refl
refusal_no_feed (why.DuplicateName name) = argument_is_last (codes "DuplicateName ") name refl
refusal_no_feed why.LimitChassis = tested (codes "Limit chassis") refl
refusal_no_feed why.KeysFixed = tested (codes "KeysFixed") refl
refusal_no_feed why.TooShort = tested (codes "TooShort") refl
refusal_no_feed why.TooBig = tested (codes "TooBig") refl
refusal_no_feed why.BadIp4 = tested (codes "BadIp4") refl
refusal_no_feed (why.NoFrame frame) = counted_no_feed (codes "NoFrame ") frame refl
refusal_no_feed why.TooManyFrames = tested (codes "TooManyFrames") refl
refusal_no_feed why.NotBuilt = tested (codes "NotBuilt") refl
