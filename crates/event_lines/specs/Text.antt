-- Pieces of a text, and what a text begins with.
use Rattle.std.specs.Prelude.{◌≡◌, ℕ, List, ◌++◌, codes, decimal, length, take}
use Rattle.ovn_base.specs.addresses.AddressText.{ip4_text}
use Rattle.ovn_base.specs.declared.address.Backend.{Backend}

-- the address, ':' and the port
unfoldable pub backend_text : Backend → List ℕ
backend_text backend = ip4_text backend.ip ++ (codes ":" ++ decimal backend.port)

-- the text begins with these bytes
abbrev pub StartsWith : List ℕ → List ℕ → Type 0
StartsWith text front = take (length front) text ≡ front
