-- The order of tuples.
use Rattle.std.specs.Prelude.{ℕ, ◌+◌, Bool, List, [], ◌∷◌, nat_eq}
use Rattle.std.specs.Cmp.Lexicographic.{pointwise, slice_cmp}
use Rattle.std.specs.Ordering.{nat_cmp, on}
use Rattle.std.specs.declared.cmp.Ordering.{Ordering}
use Rattle.conn_table.specs.declared.tuple.Protocol.{Protocol}
use Rattle.conn_table.specs.declared.tuple.Protocol.TheVariants.{Tcp, Udp, EchoRequest, EchoReply, Other}
use Rattle.conn_table.specs.declared.tuple.Tuple.{Tuple}

-- the place of a protocol in the order
abbrev pub protocol_number : Protocol → ℕ
protocol_number Tcp = 0
protocol_number Udp = 1
protocol_number EchoRequest = 2
protocol_number EchoReply = 3
protocol_number (Other n) = 4 + n

-- tuples are compared by these numbers in turn
abbrev pub tuple_numbers : Tuple → List ℕ
tuple_numbers t = protocol_number t.protocol ∷ t.src.0 ∷ t.src_port ∷ t.dst.0 ∷ t.dst_port ∷ []

-- the tuples are one
abbrev pub same_tuple : Tuple → Tuple → Bool
same_tuple = on tuple_numbers (pointwise nat_eq)

abbrev pub tuple_cmp : Tuple → Tuple → Ordering
tuple_cmp = on tuple_numbers (slice_cmp nat_cmp)
