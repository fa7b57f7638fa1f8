-- The pieces of addresses: which bytes they have, and that each spells one value.
use Rattle.std.specs.Prelude.{◌≡◌, ◌≢◌, ◌<◌, ◌≤◌, ◌+◌, ◌*◌, ◌/◌, ◌%◌, ◌^◌, ◌++◌, ℕ, List, [], ◌∷◌, Option, None, IfNone, map}
use Rattle.std.specs.Int.{from_be_bytes, to_be_bytes, byte_at}
use Rattle.std.specs.List.{AllByRecursion, AllZip}
use mir.Syntax.{w32}
use Rattle.std.specs.Char.{digit_value, digit_char}
use Rattle.std.specs.Fmt.{decimal}
use Rattle.std.proofs.Common.{refl, ap, ◌∙◌, sym, subst, arith}
use Rattle.std.proofs.lemmas.Fmt.{decimal_by_steps, decimal_injective}
use Rattle.std.proofs.lemmas.List.Elements.{All-cons, All-append}
use Rattle.std.proofs.lemmas.Nat.{from_be_bytes-to_be_bytes_4}
use Rattle.std.proofs.lemmas.Str.{digit_value-digit_char}
use Rattle.ovn_base.specs.addresses.EtherAddress.{mac_bytes}
use Rattle.ovn_base.specs.addresses.AddressText.{SpellsPair, SpellsOctet, SpellsMac, SpellsIp4, SpellsCidr, pair_text, mac_text, ip4_text, cidr_text}
use Rattle.ovn_base.specs.addresses.AddressText.SpellsCidr.{alone, with_length}
use Rattle.ovn_base.specs.declared.address.Mac.{Mac}
use Rattle.ovn_base.specs.declared.address.Ip4.{Ip4}
use Rattle.ovn_base.specs.declared.address.Cidr.{Cidr}
use Rattle.ovn_base.proofs.DecimalLemmas.{NoNumber}
use Rattle.ovn_base.proofs.MacLemmas.{mac_bytes-below, same_bytes_ether}
use Rattle.ovn_base.proofs.JoinedLemmas.{Lacks, NoneJoined, lacks_seam, same_cut, same_values, joined_lacks}

lacks_none : (x : ℕ) → Lacks x []
lacks_none x k d small = absurd (omega arith)

lacks_one : (x b : ℕ) → b ≢ x → Lacks x (b ∷ [])
lacks_one x b apart = All-cons (λ c. c ≢ x) b [] apart (lacks_none x)

-- a hexadecimal digit is no ':'
digit_apart : (b : ℕ) → digit_value b < 16 → b ≢ 58
digit_apart b small e = let none : digit_value b ≡ 36 = ap digit_value e in absurd (omega (arith, none))

-- a pair has no ':'
pub pair_lacks : (text : List ℕ) (byte : ℕ) → SpellsPair text byte → Lacks 58 text
pair_lacks text byte h =
    subst (λ t. Lacks 58 t) (sym h.digits) (All-cons (λ c. c ≢ 58) h.high (h.low ∷ []) (digit_apart h.high h.high_digit) (lacks_one 58 h.low (digit_apart h.low h.low_digit)))

-- a decimal number has no byte that is no digit
pub decimal_lacks : (x n : ℕ) → x < 48 → n < 2 ^ 64 → Lacks x (decimal n)
decimal_lacks x n low fits =
    decimal_by_steps (λ m ds. Lacks x ds) (λ m small. lacks_one x (48 + m) (λ e. absurd (omega arith)))
    (λ m ds large front. All-append (λ c. c ≢ x) ds ((48 + m % 10) ∷ []) front (lacks_one x (48 + m % 10) (λ e. absurd (omega arith)))) n fits

-- an octet has no '.' and no '/'
pub octet_lacks : (x : ℕ) → x < 48 → (text : List ℕ) (n : ℕ) → SpellsOctet text n → Lacks x text
octet_lacks x low text n h = subst (λ t. Lacks x t) (sym h.digits) (decimal_lacks x n low (omega (arith, h.small)))

-- two pairs of one text are of one byte
pub same_pair : (text : List ℕ) (v w : ℕ) → SpellsPair text v → SpellsPair text w → v ≡ w
same_pair text v w h k =
    let e : h.high ∷ h.low ∷ [] ≡ k.high ∷ k.low ∷ [] = sym h.digits ∙ k.digits in
    let high : h.high ≡ k.high = cc in
    let low : h.low ≡ k.low = cc in
    h.value ∙ (λ i. 16 * digit_value (high i) + digit_value (low i)) ∙ sym k.value

-- two octets of one text are of one number
pub same_octet : (text : List ℕ) (v w : ℕ) → SpellsOctet text v → SpellsOctet text w → v ≡ w
same_octet text v w h k = decimal_injective v w (omega (arith, h.small)) (omega (arith, k.small)) (sym h.digits ∙ k.digits)

-- a text of other than six pairs spells no Ethernet address
pub no_mac : (text : List ℕ) → NoneJoined SpellsPair 58 text 6 → (mac : Mac) → ¬ SpellsMac text mac
no_mac text none mac h = none (mac_bytes mac) refl h.pairs

-- a text of other than four octets spells no IPv4 address
pub no_ip4 : (text : List ℕ) → NoneJoined SpellsOctet 46 text 4 → (ip : Ip4) → ¬ SpellsIp4 text ip
no_ip4 text none ip h = none h.octets h.four h.numbers

-- an IPv4 address has no '/'
pub ip4_lacks : (text : List ℕ) (ip : Ip4) → SpellsIp4 text ip → Lacks 47 text
ip4_lacks text ip h = joined_lacks SpellsOctet 46 47 (λ e. absurd (omega arith)) (octet_lacks 47 (omega arith)) text h.octets h.numbers

pub no_cidr_alone : (text : List ℕ) → Lacks 47 text → ((ip : Ip4) → ¬ SpellsIp4 text ip) → (cidr : Cidr) → ¬ SpellsCidr text cidr
no_cidr_alone text lacks none cidr (alone spells len) = none cidr.addr spells
no_cidr_alone text lacks none cidr (with_length ip spells small whole) = lacks_seam 47 ip (decimal cidr.len) (subst (λ t. Lacks 47 t) whole lacks)

module _ (text front rest : List ℕ) (whole : text ≡ front ++ 47 ∷ rest) (lacks : Lacks 47 front) where
  pub no_cidr_ip : ((ip : Ip4) → ¬ SpellsIp4 front ip) → (cidr : Cidr) → ¬ SpellsCidr text cidr
  no_cidr_ip none cidr (alone spells len) = lacks_seam 47 front rest (subst (λ t. Lacks 47 t) whole (ip4_lacks text cidr.addr spells))
  no_cidr_ip none cidr (with_length ip spells small e) =
      let cuts = same_cut 47 ip front (decimal cidr.len) rest (ip4_lacks ip cidr.addr spells) lacks (sym e ∙ whole) in
      none cidr.addr (subst (λ t. SpellsIp4 t cidr.addr) cuts.0 spells)

  pub no_cidr_length : NoNumber rest 32 → (cidr : Cidr) → ¬ SpellsCidr text cidr
  no_cidr_length none cidr (alone spells len) = lacks_seam 47 front rest (subst (λ t. Lacks 47 t) whole (ip4_lacks text cidr.addr spells))
  no_cidr_length none cidr (with_length ip spells small e) =
      let cuts = same_cut 47 ip front (decimal cidr.len) rest (ip4_lacks ip cidr.addr spells) lacks (sym e ∙ whole) in
      none cidr.len small (sym cuts.1)

-- a text spells at most one Ethernet address
pub same_mac : (text : List ℕ) (a b : Mac) → SpellsMac text a → SpellsMac text b → a ≡ b
same_mac text a b h k = same_bytes_ether a b (same_values SpellsPair 58 pair_lacks same_pair text (mac_bytes a) (mac_bytes b) refl h.pairs k.pairs)

-- a text spells at most one IPv4 address
pub same_ip4 : (text : List ℕ) (a b : Ip4) → SpellsIp4 text a → SpellsIp4 text b → a ≡ b
same_ip4 text a b h k =
    let octets = same_values SpellsOctet 46 (octet_lacks 46 (omega arith)) same_octet text h.octets k.octets (h.four ∙ sym k.four) h.numbers k.numbers in
    let same : a.0 ≡ b.0 = h.value ∙ ap (λ o. from_be_bytes w32 o) octets ∙ sym k.value in
    λ i. record { 0 = same i }

-- a text spells at most one IPv4 address with a length
pub same_cidr : (text : List ℕ) (a b : Cidr) → SpellsCidr text a → SpellsCidr text b → a ≡ b
same_cidr text a b (alone h m) (alone k n) =
    let addr = same_ip4 text a.addr b.addr h k in
    let len : a.len ≡ b.len = m ∙ sym n in
    λ i. record { addr = addr i; len = len i }
same_cidr text a b (alone h m) (with_length ip k n e) = absurd (lacks_seam 47 ip (decimal b.len) (subst (λ t. Lacks 47 t) e (ip4_lacks text a.addr h)))
same_cidr text a b (with_length ip h m e) (alone k n) = absurd (lacks_seam 47 ip (decimal a.len) (subst (λ t. Lacks 47 t) e (ip4_lacks text b.addr k)))
same_cidr text a b (with_length ip h m e) (with_length other k n d) =
    let cuts = same_cut 47 ip other (decimal a.len) (decimal b.len) (ip4_lacks ip a.addr h) (ip4_lacks other b.addr k) (sym e ∙ d) in
    let addr = same_ip4 other a.addr b.addr (subst (λ t. SpellsIp4 t a.addr) cuts.0 h) k in
    let len : a.len ≡ b.len = decimal_injective a.len b.len (omega arith) (omega arith) cuts.1 in
    λ i. record { addr = addr i; len = len i }

pair_spells : (b : ℕ) → b < 256 → SpellsPair (pair_text b) b
pair_spells b small =
    let high : digit_value (digit_char (b / 16)) ≡ b / 16 = digit_value-digit_char (b / 16) (omega arith) in
    let low : digit_value (digit_char (b % 16)) ≡ b % 16 = digit_value-digit_char (b % 16) (omega arith) in
    record {
      high = digit_char (b / 16);
      low = digit_char (b % 16);
      digits = refl;
      high_digit = omega (arith, high);
      low_digit = omega (arith, low);
      value = omega (arith, high, low);
    }

pairs_spell : (bytes : List ℕ) → AllByRecursion (λ b. b < 256) bytes → AllZip SpellsPair (map pair_text bytes) bytes
pairs_spell [] all = tt
pairs_spell (b ∷ bytes) all = (pair_spells b all.0, pairs_spell bytes all.1)

-- the printed text of an Ethernet address spells it
pub mac_text-spells : (mac : Mac) → SpellsMac (mac_text mac) mac
mac_text-spells mac = record { pairs = record { pieces = map pair_text (mac_bytes mac); joined = refl; each = pairs_spell (mac_bytes mac) (mac_bytes-below mac) } }

octet_spells : (n : ℕ) → n < 256 → SpellsOctet (decimal n) n
octet_spells n small = record { small = omega arith; digits = refl }

-- the printed text of an IPv4 address spells it
pub ip4_text-spells : (ip : Ip4) → ip.0 < 2 ^ 32 → SpellsIp4 (ip4_text ip) ip
ip4_text-spells ip small = record {
  octets = to_be_bytes w32 ip.0;
  four = refl;
  numbers = record {
    pieces = map decimal (to_be_bytes w32 ip.0);
    joined = refl;
    each = (octet_spells (byte_at 3 ip.0) (omega arith), (octet_spells (byte_at 2 ip.0) (omega arith), (octet_spells (byte_at 1 ip.0) (omega arith), (octet_spells (byte_at 0 ip.0) (omega arith), tt))));
  };
  value = sym (from_be_bytes-to_be_bytes_4 ip.0 small);
}

-- and so does that of an address with a length
pub cidr_text-spells : (cidr : Cidr) → cidr.addr.0 < 2 ^ 32 → cidr.len ≤ 32 → SpellsCidr (cidr_text cidr) cidr
cidr_text-spells cidr small short = with_length (ip4_text cidr.addr) (ip4_text-spells cidr.addr small) short refl

-- at an answer that is none
pub at_none : {A : Type 0} {P : Type 0} (result : Option A) → result ≡ None → P → IfNone result P
at_none {P = P} result is_none none = subst (λ r. IfNone r P) (sym is_none) none
