-- What the texts of a grammar spell is in it.
use Rattle.std.specs.Prelude.{◌≡◌, ◌≤◌, ◌++◌, ◌==◌, ◌&&◌, nat_le, ℕ, suc, true, List, [], ◌∷◌, length, Option, Some, None, codes, position, refl}
use Rattle.std.specs.Cmp.{first_so, second_so}
use Rattle.std.specs.Fmt.{decimal}
use Rattle.std.specs.Int.{from_be_bytes}
use Rattle.std.specs.List.{AllByRecursion, list_all, slice_split}
use Rattle.std.specs.Str.{bytes_eq}
use Rattle.std.specs.Str.Parse.{digits_value}
use mir.Syntax.{w32}
use Rattle.std.proofs.Common.{ap, ◌∙◌, sym, subst, inl, inr, arith}
use Rattle.std.proofs.lemmas.Bool.{leb-true}
use Rattle.std.proofs.lemmas.List.Sums.{AllPass-from_list_all}
use Rattle.std.proofs.lemmas.Slice.Eq.{bytes_eq-Decides}
use Rattle.ovn_base.specs.addresses.AddressReading.{◌>>=◌, parted, first_spelled_octet, spelled_mac, spelled_ip4, spelled_length, spelled_parts, spelled_cidr}
use Rattle.ovn_base.specs.declared.address.Backend.{Backend}
use Rattle.ovn_base.specs.declared.address.Cidr.{Cidr}
use Rattle.ovn_base.specs.declared.address.Ip4.{Ip4}
use Rattle.ovn_base.specs.declared.address.Mac.{Mac}
use Rattle.ovn_base.specs.declared.address.SetEntry.{SetEntry}
use Rattle.ovn_base.specs.declared.address.SetEntry.TheVariants as entry
use Rattle.ovn_base.specs.declared.name.Name.{Name}
use Rattle.ovn_base.specs.names.NameText.{IsName, name_byte, is_name, spelled_name}
use Rattle.ovn_base.specs.numbers.NumberReading.{spelled_number}
use Rattle.ovn_base.proofs.SeparatorLaws.{at_place}
use Rattle.nb_records.specs.Grammar.{IsIp4, IsCidr, IsBackend, IsPortAddress, IsSecurityEntry, IsSetEntry}
use Rattle.nb_records.specs.declared.switch.PortAddress.{PortAddress}
use Rattle.nb_records.specs.declared.switch.PortAddress.TheVariants as address
use Rattle.nb_records.specs.declared.switch.SecurityEntry.{SecurityEntry}
use Rattle.match_language.proofs.Steps.{chosen}
use Rattle.edit_reader.specs.Fields.{each_by}
use Rattle.edit_reader.specs.Grammars.{has_slash, spelled_prefix, set_entry_by, spelled_set_entry, ether_by, spelled_ether, spelled_port_address, spelled_security, some_port, spelled_port, spelled_backend}
use Rattle.edit_reader.proofs.ReadSteps.{found, some_is, not_none, and_then_some, mapped_some, chosen_some}

-- the value of a step of addresses that spelled one
spelled_some : {A B : Type 0} (o : Option A) (f : A → Option B) (y : B) → (o >>= f) ≡ Some y → (x : A) × (o ≡ Some x) × (f x ≡ Some y)
spelled_some (Some x) f y e = (x, refl, e)
spelled_some None f y e = absurd (not_none y e)

-- ---- names and numbers

is_name_fits : (text : List ℕ) → is_name text ≡ true → IsName text
is_name_fits text e =
    let long = first_so (nat_le 1 (length text) && nat_le (length text) 64) (list_all name_byte text) e in
    record {
      some = leb-true 1 (length text) (first_so (nat_le 1 (length text)) (nat_le (length text) 64) long);
      few = leb-true (length text) 64 (second_so (nat_le 1 (length text)) (nat_le (length text) 64) long);
      bytes = AllPass-from_list_all name_byte text (second_so (nat_le 1 (length text) && nat_le (length text) 64) (list_all name_byte text) e);
    }

pub name_fits : (text : List ℕ) (name : Name) → spelled_name text ≡ Some name → IsName name
unfolding spelled_name
name_fits text name e =
    let chose = chosen_some (is_name text) (Some text) name e in
    subst IsName (some_is text name chose.1) (is_name_fits text chose.0)

-- the number is in its range, and the text is the one that it prints
pub number_spelled : (most : ℕ) (text : List ℕ) (n : ℕ) → spelled_number most text ≡ Some n → (n ≤ most) × (text ≡ decimal n)
unfolding spelled_number
number_spelled most text n e =
    let value = digits_value 10 text in
    let chose = chosen_some (nat_le value most && bytes_eq text (decimal value)) (Some value) n e in
    let within = first_so (nat_le value most) (bytes_eq text (decimal value)) chose.0 in
    let printed = (bytes_eq-Decides text (decimal value)).0 (second_so (nat_le value most) (bytes_eq text (decimal value)) chose.0) in
    subst (λ (k : ℕ). (k ≤ most) × (text ≡ decimal k)) (some_is value n chose.1) (leb-true value most within, printed)

-- the parts, and the separator between them, are the text
pub parts_join : (separator : ℕ) (text : List ℕ) (parts : List ℕ × List ℕ) → parted separator text ≡ Some parts → text ≡ parts.0 ++ separator ∷ parts.1
parts_join separator text parts e =
    let at = mapped_some _ (position (λ b. b == separator) text) parts e in
    (at_place separator text at.0 at.1).split ∙ ap (λ (p : List ℕ × List ℕ). p.0 ++ separator ∷ p.1) at.2

-- ---- addresses

-- an octet in front of a '.'
pub first_octet : (text : List ℕ) (first : ℕ × List ℕ) → first_spelled_octet text ≡ Some first → (first.0 ≤ 255) × (text ≡ decimal first.0 ++ 46 ∷ first.1)
unfolding first_spelled_octet
first_octet text first e =
    let cut = spelled_some (parted 46 text) _ first e in
    let number = spelled_some (spelled_number 255 cut.0.0) _ first cut.2 in
    let is = number_spelled 255 cut.0.0 number.0 number.1 in
    subst (λ (f : ℕ × List ℕ). (f.0 ≤ 255) × (text ≡ decimal f.0 ++ 46 ∷ f.1)) (some_is (number.0, cut.0.1) first number.2)
    (is.0, parts_join 46 text cut.0 cut.1 ∙ ap (λ t. t ++ 46 ∷ cut.0.1) is.1)

abbrev pub octets_text : ℕ → ℕ → ℕ → ℕ → List ℕ
octets_text a b c d = decimal a ++ 46 ∷ (decimal b ++ 46 ∷ (decimal c ++ 46 ∷ decimal d))

-- the text is four octets, and they are the address
pub record IsDotted (text : List ℕ) (ip : Ip4) : Type 0 where
  pub a : ℕ
  pub b : ℕ
  pub c : ℕ
  pub d : ℕ
  pub small_a : a ≤ 255
  pub small_b : b ≤ 255
  pub small_c : c ≤ 255
  pub small_d : d ≤ 255
  pub printed : text ≡ octets_text a b c d
  pub value : ip.0 ≡ from_be_bytes w32 (a ∷ b ∷ c ∷ d ∷ [])

pub ip_dotted : (text : List ℕ) (ip : Ip4) → spelled_ip4 text ≡ Some ip → IsDotted text ip
unfolding spelled_ip4
ip_dotted text ip e =
    let a = spelled_some (first_spelled_octet text) _ ip e in
    let b = spelled_some (first_spelled_octet a.0.1) _ ip a.2 in
    let c = spelled_some (first_spelled_octet b.0.1) _ ip b.2 in
    let d = spelled_some (spelled_number 255 c.0.1) _ ip c.2 in
    let is_a = first_octet text a.0 a.1 in
    let is_b = first_octet a.0.1 b.0 b.1 in
    let is_c = first_octet b.0.1 c.0 c.1 in
    let is_d = number_spelled 255 c.0.1 d.0 d.1 in
    record {
      a = a.0.0;
      b = b.0.0;
      c = c.0.0;
      d = d.0;
      small_a = is_a.0;
      small_b = is_b.0;
      small_c = is_c.0;
      small_d = is_d.0;
      printed =
          is_a.1 ∙ ap (λ t. decimal a.0.0 ++ 46 ∷ t) (is_b.1 ∙ ap (λ t. decimal b.0.0 ++ 46 ∷ t) (is_c.1 ∙ ap (λ t. decimal c.0.0 ++ 46 ∷ t) is_d.1));
      value = ap (λ (i : Ip4). i.0) (sym (some_is (record { 0 = from_be_bytes w32 (a.0.0 ∷ b.0.0 ∷ c.0.0 ∷ d.0 ∷ []) }) ip d.2));
    }

pub ip_fits : (text : List ℕ) (ip : Ip4) → spelled_ip4 text ≡ Some ip → IsIp4 ip
ip_fits text ip e =
    let q = ip_dotted text ip e in
    let a = q.small_a in
    let b = q.small_b in
    let c = q.small_c in
    let d = q.small_d in
    let value = q.value in
    omega (arith, a, b, c, d, value)

length_fits : (ip : Ip4) (text : List ℕ) (prefix : Cidr) → IsIp4 ip → spelled_length ip text ≡ Some prefix → IsCidr prefix
length_fits ip text prefix fits e =
    let at = mapped_some _ (spelled_number 32 text) prefix e in
    subst IsCidr at.2 (fits, (number_spelled 32 text at.0 at.1).0)

parts_fit : (text : List ℕ) (parts : Option (List ℕ × List ℕ)) (prefix : Cidr) → spelled_parts text parts ≡ Some prefix → IsCidr prefix
parts_fit text None prefix e =
    let at = mapped_some _ (spelled_ip4 text) prefix e in
    subst IsCidr at.2 (ip_fits text at.0 at.1, omega arith)
parts_fit text (Some parts) prefix e =
    let ip = spelled_some (spelled_ip4 parts.0) _ prefix e in
    length_fits ip.0 parts.1 prefix (ip_fits parts.0 ip.0 ip.1) ip.2

pub cidr_fits : (text : List ℕ) (prefix : Cidr) → spelled_cidr text ≡ Some prefix → IsCidr prefix
unfolding spelled_cidr
cidr_fits text prefix e = parts_fit text (parted 47 text) prefix e

pub prefix_fits : (text : List ℕ) (prefix : Cidr) → spelled_prefix text ≡ Some prefix → IsCidr prefix
unfolding spelled_prefix
prefix_fits text prefix e = cidr_fits text prefix (chosen_some (has_slash text) (spelled_cidr text) prefix e).1

set_entry_by_fits : (mac : Option Mac) (text : List ℕ) (x : SetEntry) → set_entry_by mac (spelled_cidr text) ≡ Some x → IsSetEntry x
set_entry_by_fits (Some mac) text x e = subst IsSetEntry (some_is (entry.Ether mac) x e) tt
set_entry_by_fits None text x e =
    let at = mapped_some entry.Ip (spelled_cidr text) x e in
    subst IsSetEntry at.2 (cidr_fits text at.0 at.1)

pub set_entry_fits : (text : List ℕ) (x : SetEntry) → spelled_set_entry text ≡ Some x → IsSetEntry x
unfolding spelled_set_entry
set_entry_fits text x e = set_entry_by_fits (spelled_mac text) text x e

-- ---- texts of one grammar

module _ {A : Type 0} (P : A → Type 0) (grammar : List ℕ → Option A) (fits : (text : List ℕ) (x : A) → grammar text ≡ Some x → P x) where
  pub each_fits : (texts : List (List ℕ)) (xs : List A) → each_by grammar texts ≡ Some xs → AllByRecursion P xs
  each_fits [] xs e = subst (AllByRecursion P) (some_is [] xs e) tt
  each_fits (text ∷ texts) xs e =
      let first = and_then_some _ (grammar text) xs e in
      let rest = and_then_some _ (each_by grammar texts) xs first.2 in
      subst (AllByRecursion P) (some_is (first.0 ∷ rest.0) xs rest.2) (fits text first.0 first.1, each_fits texts rest.0 rest.1)

  -- as many as there are texts
  pub each_long : (texts : List (List ℕ)) (xs : List A) → each_by grammar texts ≡ Some xs → length xs ≡ length texts
  each_long [] xs e = ap length (sym (some_is [] xs e))
  each_long (text ∷ texts) xs e =
      let first = and_then_some _ (grammar text) xs e in
      let rest = and_then_some _ (each_by grammar texts) xs first.2 in
      ap length (sym (some_is (first.0 ∷ rest.0) xs rest.2)) ∙ ap suc (each_long texts rest.0 rest.1)

  ether_by_fits : (pieces : List (List ℕ)) (x : Mac × List A) → ether_by grammar pieces ≡ Some x → AllByRecursion P x.1
  ether_by_fits [] x e = absurd (not_none x e)
  ether_by_fits (piece ∷ pieces) x e =
      let mac = spelled_some (spelled_mac piece) _ x e in
      let ips = spelled_some (each_by grammar pieces) _ x mac.2 in
      subst (λ (y : Mac × List A). AllByRecursion P y.1) (some_is (mac.0, ips.0) x ips.2) (each_fits pieces ips.0 ips.1)

  pub ether_fits : (text : List ℕ) (x : Mac × List A) → spelled_ether grammar text ≡ Some x → AllByRecursion P x.1
  unfolding spelled_ether
  ether_fits text x e = ether_by_fits (slice_split (λ b. b == 32) text) x e

pub port_address_fits : (text : List ℕ) (x : PortAddress) → spelled_port_address text ≡ Some x → IsPortAddress x
unfolding spelled_port_address
port_address_fits text x e = elim (chosen (bytes_eq (codes "unknown") text) (found address.Unknown) _ (Some x) e) [
  | inl h ↦ subst IsPortAddress (some_is address.Unknown x h.1) tt
  | inr h ↦
      elim (chosen (bytes_eq (codes "router") text) (found address.Router) _ (Some x) h.1) [
        | inl g ↦ subst IsPortAddress (some_is address.Router x g.1) tt
        | inr g ↦
            let at = mapped_some _ (spelled_ether spelled_ip4 text) x g.1 in
            subst IsPortAddress at.2 (ether_fits IsIp4 spelled_ip4 ip_fits text at.0 at.1)
      ]
]

pub security_fits : (text : List ℕ) (x : SecurityEntry) → spelled_security text ≡ Some x → IsSecurityEntry x
unfolding spelled_security
security_fits text x e =
    let at = mapped_some _ (spelled_ether spelled_cidr text) x e in
    subst IsSecurityEntry at.2 (ether_fits IsCidr spelled_cidr cidr_fits text at.0 at.1)

-- ---- addresses with a port

pub port_spelled : (text : List ℕ) (n : ℕ) → spelled_port text ≡ Some n → (1 ≤ n) × (n ≤ 65535) × (text ≡ decimal n)
unfolding spelled_port
port_spelled text n e =
    let number = spelled_some (spelled_number 65535 text) some_port n e in
    let some = chosen_some (nat_le 1 number.0) (Some number.0) n number.2 in
    let is = number_spelled 65535 text number.0 number.1 in
    subst (λ (k : ℕ). (1 ≤ k) × (k ≤ 65535) × (text ≡ decimal k)) (some_is number.0 n some.1) (leb-true 1 number.0 some.0, is.0, is.1)

-- the text is an address, ':' and a port
pub record IsTwoParts (text : List ℕ) (x : Backend) : Type 0 where
  pub ip_text : List ℕ
  pub ip : IsDotted ip_text x.ip
  pub ip_within : IsIp4 x.ip
  pub some : 1 ≤ x.port
  pub few : x.port ≤ 65535
  pub printed : text ≡ ip_text ++ 58 ∷ decimal x.port

pub backend_parts : (text : List ℕ) (x : Backend) → spelled_backend text ≡ Some x → IsTwoParts text x
unfolding spelled_backend
backend_parts text x e =
    let cut = spelled_some (parted 58 text) _ x e in
    let ip = spelled_some (spelled_ip4 cut.0.0) _ x cut.2 in
    let port = spelled_some (spelled_port cut.0.1) _ x ip.2 in
    let is = port_spelled cut.0.1 port.0 port.1 in
    subst (IsTwoParts text) (some_is (record { ip = ip.0; port = port.0 }) x port.2) (record {
      ip_text = cut.0.0;
      ip = ip_dotted cut.0.0 ip.0 ip.1;
      ip_within = ip_fits cut.0.0 ip.0 ip.1;
      some = is.0;
      few = is.1;
      printed = parts_join 58 text cut.0 cut.1 ∙ ap (λ t. cut.0.0 ++ 58 ∷ t) is.2;
    })

pub backend_fits : (text : List ℕ) (x : Backend) → spelled_backend text ≡ Some x → IsBackend x
backend_fits text x e =
    let parts = backend_parts text x e in
    let few = parts.few in
    record { ip = parts.ip_within; some = parts.some; few = omega (arith, few) }
