-- Bytes that are long enough begin with a base header, or with an option.
use Rattle.std.proofs.Common.{◌≡◌, ℕ, ◌+◌, ◌-◌, ◌*◌, ◌/◌, ◌%◌, ◌<◌, ◌≤◌, List, [], ◌∷◌, ◌++◌, length, get_or, take, drop, sym, ap, ◌∙◌, arith}
use Rattle.std.proofs.lemmas.List.{take-append-drop, length-take}
use Rattle.std.proofs.lemmas.Bool.Decides.{nat_tests}
use Rattle.std.specs.Int.{bytes_high_first}
use Rattle.byteorder.specs.Endian.{big_number}
use Rattle.std.specs.Prelude.{nat_le}
use Rattle.geneve_frames.specs.Meaning.{CarriesKeys}
use Rattle.geneve_frames.specs.Fields.{IsBase, IsOption}
use Rattle.geneve_frames.specs.declared.layout.BaseFields.{BaseFields}
use Rattle.geneve_frames.specs.declared.layout.OptionFields.{OptionFields}
use Rattle.geneve_frames.specs.Layout.{BaseHeader, HasHeader, TunnelOption, IsTunnelOption, option_bytes}

abbrev pub IsBytes : List ℕ → Type 0
IsBytes bytes = (i : ℕ) → get_or bytes i 0 < 256

abbrev pub two : ℕ → ℕ → ℕ
two a b = a * 256 + b

abbrev pub three : ℕ → ℕ → ℕ → ℕ
three a b c = a * 65536 + (b * 256 + c)

pub two_bytes : (a b : ℕ) → a < 256 → b < 256 → a ∷ b ∷ [] ≡ bytes_high_first 2 (two a b)
two_bytes a b la lb =
    let high : a ≡ (a * 256 + b) / 256 % 256 = omega arith in
    let low : b ≡ (a * 256 + b) % 256 = omega arith in
    cc

pub three_bytes : (a b c : ℕ) → a < 256 → b < 256 → c < 256 → a ∷ b ∷ c ∷ [] ≡ bytes_high_first 3 (three a b c)
three_bytes a b c la lb lc =
    let high : a ≡ (a * 65536 + (b * 256 + c)) / 65536 % 256 = omega arith in
    let middle : b ≡ (a * 65536 + (b * 256 + c)) / 256 % 256 = omega arith in
    let low : c ≡ (a * 65536 + (b * 256 + c)) % 256 = omega arith in
    cc

-- the option at the front of these bytes
abbrev pub option_in : (a b k f : ℕ) → List ℕ → TunnelOption
option_in a b k f rest = record { class = two a b; kind = k; reserved = f / 32; words = f % 32; content = take (4 * (f % 32)) rest }

pub option_front : (a b k f : ℕ) (rest : List ℕ) → a < 256 → b < 256 → k < 256 → f < 256 → 4 * (f % 32) ≤ length rest → IsTunnelOption (option_in a b k f rest) × (a ∷ b ∷ k ∷ f ∷ rest ≡ option_bytes (option_in a b k f rest) ++ drop (4 * (f % 32)) rest)
option_front a b k f rest la lb lk lf long =
    let class : a ∷ b ∷ [] ≡ bytes_high_first 2 (two a b) = two_bytes a b la lb in
    let flags : f ≡ 32 * (f / 32) + f % 32 = omega arith in
    let parts : take (4 * (f % 32)) rest ++ drop (4 * (f % 32)) rest ≡ rest = take-append-drop (4 * (f % 32)) rest in (
      record { class = omega arith; kind = omega arith; reserved = omega arith; words = omega arith; content = omega (arith, length-take (4 * (f % 32)) rest) },
      ap (λ (t : List ℕ). a ∷ b ∷ k ∷ f ∷ t) (sym parts)
          ∙ ap (λ (x : ℕ). a ∷ b ∷ k ∷ x ∷ (take (4 * (f % 32)) rest ++ drop (4 * (f % 32)) rest)) flags
          ∙ ap (λ (t : List ℕ). t ++ (k ∷ (32 * (f / 32) + f % 32) ∷ (take (4 * (f % 32)) rest ++ drop (4 * (f % 32)) rest))) class,
    )

-- the base header at the front of these bytes
abbrev pub base_in : (a b c d e f g h : ℕ) → BaseHeader
base_in a b c d e f g h = record { version = a / 64; words = a % 64; control = b / 128; flags = b % 128; protocol = two c d; vni = three e f g; reserved = h }

pub base_front : (a b c d e f g h : ℕ) (rest : List ℕ) → a < 256 → b < 256 → c < 256 → d < 256 → e < 256 → f < 256 → g < 256 → h < 256 → HasHeader (a ∷ b ∷ c ∷ d ∷ e ∷ f ∷ g ∷ h ∷ rest) (base_in a b c d e f g h) rest
base_front a b c d e f g h rest la lb lc ld le lf lg lh =
    let protocol : c ∷ d ∷ [] ≡ bytes_high_first 2 (two c d) = two_bytes c d lc ld in
    let network : e ∷ f ∷ g ∷ [] ≡ bytes_high_first 3 (three e f g) = three_bytes e f g le lf lg in
    let first : a ≡ 64 * (a / 64) + a % 64 = omega arith in
    let second : b ≡ 128 * (b / 128) + b % 128 = omega arith in
    record {
      fits = record { version = omega arith; words = omega arith; control = omega arith; flags = omega arith; protocol = omega arith; vni = omega arith; reserved = omega arith };
      whole = ap (λ (x : ℕ). x ∷ b ∷ c ∷ d ∷ e ∷ f ∷ g ∷ h ∷ rest) first
          ∙ ap (λ (x : ℕ). (64 * (a / 64) + a % 64) ∷ x ∷ c ∷ d ∷ e ∷ f ∷ g ∷ h ∷ rest) second
          ∙ ap (λ (t : List ℕ). (64 * (a / 64) + a % 64) ∷ (128 * (b / 128) + b % 128) ∷ (t ++ (e ∷ f ∷ g ∷ h ∷ rest))) protocol
          ∙ ap (λ (t : List ℕ). (64 * (a / 64) + a % 64) ∷ (128 * (b / 128) + b % 128) ∷ (bytes_high_first 2 (two c d) ++ (t ++ (h ∷ rest)))) network;
    }

-- the O bit
control_bit : (b : ℕ) → b < 256 → nat_le 128 b ≡ nat_le 1 (b / 128)
control_bit b lb = grind (arith, nat_tests)

-- what the code reads at the front of a frame is its base header
pub base_found : (frame front rest : List ℕ) (fields : BaseFields) → IsBytes frame → 8 ≤ length frame → front ≡ take 8 frame → rest ≡ drop 8 frame
    → fields.version ≡ get_or front 0 0 / 64 → fields.options_length ≡ 4 * (get_or front 0 0 % 64) → fields.is_control ≡ nat_le 128 (get_or front 1 0)
    → fields.protocol ≡ big_number 2 (take (length front - 2) (drop 2 front)) → fields.vni ≡ big_number 3 (take (length front - 4) (drop 4 front))
    → (base : BaseHeader) × HasHeader frame base rest × IsBase fields base
base_found (a ∷ b ∷ c ∷ d ∷ e ∷ f ∷ g ∷ h ∷ tail) front rest fields bytes long front-is rest-is version words control protocol network =
    let begins : HasHeader (a ∷ b ∷ c ∷ d ∷ e ∷ f ∷ g ∷ h ∷ tail) (base_in a b c d e f g h) tail = base_front a b c d e f g h tail (bytes 0) (bytes 1) (bytes 2) (bytes 3) (bytes 4) (bytes 5) (bytes 6) (bytes 7) in
    let protocol-is = protocol ∙ ap (λ (t : List ℕ). big_number 2 (take (length t - 2) (drop 2 t))) front-is in
    let network-is = network ∙ ap (λ (t : List ℕ). big_number 3 (take (length t - 4) (drop 4 t))) front-is in (
      base_in a b c d e f g h,
      rw rest-is begins,
      record {
        version = version ∙ ap (λ (t : List ℕ). get_or t 0 0 / 64) front-is;
        options_length = words ∙ ap (λ (t : List ℕ). 4 * (get_or t 0 0 % 64)) front-is;
        control = control ∙ ap (λ (t : List ℕ). nat_le 128 (get_or t 1 0)) front-is ∙ control_bit b (bytes 1);
        protocol = omega (arith, protocol-is);
        vni = omega (arith, network-is);
      },
    )
base_found frame front rest fields bytes long front-is rest-is version words control protocol network = absurd (omega arith)

-- what the code reads at the front of some options is an option
pub option_found : (options front rest content after : List ℕ) (n : ℕ) (fields : OptionFields) → IsBytes options → 4 ≤ length options → front ≡ take 4 options → rest ≡ drop 4 options
    → n ≡ 4 * (get_or front 3 0 % 32) → n ≤ length rest → content ≡ take n rest → after ≡ drop n rest
    → fields.class ≡ big_number 2 front → fields.kind ≡ get_or front 2 0 → fields.«data».now ≡ content
    → (option : TunnelOption) × IsTunnelOption option × (options ≡ option_bytes option ++ after) × IsOption fields option
option_found (a ∷ b ∷ k ∷ f ∷ tail) front rest content after n fields bytes long front-is rest-is n-is fits content-is after-is class kind content-kept =
    let length-is : n ≡ 4 * (f % 32) = n-is ∙ ap (λ (t : List ℕ). 4 * (get_or t 3 0 % 32)) front-is in
    let found = option_front a b k f tail (bytes 0) (bytes 1) (bytes 2) (bytes 3) (omega (arith, ap length rest-is)) in
    let class-is = class ∙ ap (λ (t : List ℕ). big_number 2 t) front-is in
    let both : (content ≡ take (4 * (f % 32)) tail) × (after ≡ drop (4 * (f % 32)) tail) = (content-is ∙ ap (λ (t : List ℕ). take n t) rest-is ∙ ap (λ (m : ℕ). take m tail) length-is, after-is ∙ ap (λ (t : List ℕ). drop n t) rest-is ∙ ap (λ (m : ℕ). drop m tail) length-is) in (
      option_in a b k f tail,
      found.0,
      found.1 ∙ ap (λ (t : List ℕ). option_bytes (option_in a b k f tail) ++ t) (sym both.1),
      record {
        class = omega (arith, class-is);
        kind = kind ∙ ap (λ (t : List ℕ). get_or t 2 0) front-is;
        content = content-kept ∙ both.0;
      },
    )
option_found options front rest content after n fields bytes long front-is rest-is n-is fits content-is after-is class kind content-kept = absurd (omega arith)

-- what the code reads in the data of OVN's option are its keys
pub keys_found : (content : List ℕ) (high out : ℕ) → IsBytes content → length content ≡ 4 → high ≡ big_number 2 content → out ≡ big_number 2 (take (length content - 2) (drop 2 content)) → CarriesKeys content (high % 32768) out
keys_found (a ∷ b ∷ c ∷ d ∷ []) high out bytes long high-is out-is =
    let la = bytes 0 in
    let lb = bytes 1 in
    let lc = bytes 2 in
    let ld = bytes 3 in
    let first : a * 256 + b ≡ 32768 * (high / 32768) + high % 32768 = omega (arith, high-is) in
    let second : c * 256 + d ≡ out = omega (arith, out-is) in
    record {
      top = high / 32768;
      top_bit = omega (arith, high-is);
      in_bits = omega arith;
      out_bits = omega (arith, out-is);
      whole = ap (λ (t : List ℕ). t ++ (c ∷ d ∷ [])) (two_bytes a b la lb ∙ ap (λ (n : ℕ). bytes_high_first 2 n) first)
          ∙ ap (λ (t : List ℕ). bytes_high_first 2 (32768 * (high / 32768) + high % 32768) ++ t) (two_bytes c d lc ld ∙ ap (λ (n : ℕ). bytes_high_first 2 n) second);
    }
keys_found content high out bytes long high-is out-is = absurd (omega arith)
