-- What is read of the bytes behind the two addresses.
use Rattle.std.specs.Prelude.{◌≡◌, ◌≢◌, ℕ, ◌+◌, ◌*◌, ◌/◌, ◌%◌, ◌^◌, ◌<◌, ◌≤◌, List, ◌∷◌, ◌++◌, length, take, slice_index, Result, Ok, Err}
use Rattle.ovn_base.specs.declared.limits.TheConstants.{MIN_FRAME, MAX_FRAME}
use Rattle.inet_packet.specs.declared.frame.Front.{Front}
use Rattle.inet_packet.specs.declared.frame.FrameFault.{FrameFault}
use Rattle.inet_packet.specs.declared.frame.FrameFault.TheVariants as faults
use Rattle.inet_packet.specs.declared.packet.Body.{Body}
use Rattle.inet_packet.specs.declared.packet.Ip4Packet.{Ip4Packet}
use Rattle.inet_packet.specs.declared.packet.Packet.{Packet}
use Rattle.inet_packet.specs.declared.packet.Part.{Part}
use Rattle.inet_packet.specs.Frame.{two, four, body_bytes, frame_of}
use Rattle.inet_packet.specs.Sums.{words, ones_sum}
use Rattle.inet_packet.specs.Whole.{IsWhole, IsWholeBody}

-- the Ethernet type of a frame, behind the two addresses
abbrev pub ether_type_at : List ℕ → ℕ
ether_type_at frame = slice_index frame 12 * 256 + slice_index frame 13

-- the length that an IPv4 header gives for itself, and for header and data
abbrev pub header_len : List ℕ → ℕ
header_len bytes = slice_index bytes 0 % 16 * 4

abbrev pub total_len : List ℕ → ℕ
total_len bytes = slice_index bytes 2 * 256 + slice_index bytes 3

-- the bytes begin with an IPv4 header whose version, lengths and sum are right
pub record IsIp4Bytes (bytes : List ℕ) : Type 0 where
  pub long : 20 ≤ length bytes
  pub version : slice_index bytes 0 / 16 ≡ 4
  pub has_header : 20 ≤ header_len bytes
  pub has_total : header_len bytes ≤ total_len bytes
  pub is_there : total_len bytes ≤ length bytes
  pub sums_up : ones_sum (words (take (header_len bytes) bytes)) ≡ 0xffff

-- the first 20 bytes of an IPv4 header
abbrev pub front_bytes : Front → List ℕ
front_bytes f = f.first ∷ f.tos ∷ (two f.total ++ (two f.ident ++ (two f.frag ++ (f.ttl ∷ f.proto ∷ (two f.sum ++ (four f.src.0 ++ four f.dst.0))))))

-- its fields are in their ranges
pub record IsFrontWithin (f : Front) : Type 0 where
  pub first : f.first < 256
  pub tos : f.tos < 256
  pub total : f.total < 2 ^ 16
  pub ident : f.ident < 2 ^ 16
  pub frag : f.frag < 2 ^ 16
  pub ttl : f.ttl < 256
  pub proto : f.proto < 256
  pub sum : f.sum < 2 ^ 16
  pub src : f.src.0 < 2 ^ 32
  pub dst : f.dst.0 < 2 ^ 32

-- an IPv4 packet of what is read of it
abbrev pub ip4_packet_of : Front → List ℕ → Part → Ip4Packet
ip4_packet_of f options part = record { tos = f.tos; total = f.total; ident = f.ident; frag = f.frag; ttl = f.ttl; proto = f.proto; sum = f.sum; src = f.src; dst = f.dst; options = options; part = part }

-- the bytes behind a type are this body and this rest
pub record IsBodyOf (ether_type : ℕ) (bytes : List ℕ) (body : Body) (tail : List ℕ) : Type 0 where
  pub parts : two ether_type ++ bytes ≡ body_bytes body ++ tail
  pub whole : IsWholeBody body tail

-- they are some body and some rest
pub record HasBody (ether_type : ℕ) (bytes : List ℕ) : Type 0 where
  pub body : Body
  pub tail : List ℕ
  pub is_body : IsBodyOf ether_type bytes body tail

-- what is read is the body and the rest, and IPv4 alone can be bad
abbrev pub ReadsBody : Result (Body × List ℕ) FrameFault → ℕ → List ℕ → Type 0
ReadsBody (Ok r) ether_type bytes = IsBodyOf ether_type bytes r.0 r.1
ReadsBody (Err faults.TooShort) ether_type bytes = ⊥
ReadsBody (Err faults.TooBig) ether_type bytes = ⊥
ReadsBody (Err faults.BadIp4) ether_type bytes = (ether_type ≡ 0x0800) × (¬ IsIp4Bytes bytes)
ReadsBody (Err faults.Memory) ether_type bytes = HasBody ether_type bytes

-- the bytes are a frame in length, of type 0x0800, but of no whole packet
pub record IsBadIp4 (frame : List ℕ) : Type 0 where
  pub long : MIN_FRAME ≤ length frame
  pub short : length frame ≤ MAX_FRAME
  pub ip4 : ether_type_at frame ≡ 0x0800
  pub of_none : (p : Packet) → IsWhole p → frame_of p ≢ frame
