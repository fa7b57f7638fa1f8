-- What a cursor holds.
use Rattle.std.specs.Prelude.{◌≡◌, ◌≤◌, ◌<◌, ◌^◌, ◌+◌, length}
use Rattle.match_language.specs.declared.cursor.Cursor.TheInside.{Inside}
use Rattle.match_language.specs.Tokens.{first_token}
use Rattle.match_language.specs.Input.{Input}

-- the place at which it stands
abbrev pub input_of : Inside → Input
input_of c = record { place = c.place; text = c.text.now }

-- the next token is kept beside the text
pub record HasToken (c : Inside) : Type 0 where
  pub token : c.token ≡ (first_token c.text.now).0
  pub len : c.len ≡ (first_token c.text.now).1
  pub within : c.len ≤ length c.text.now
  pub fits : c.place + length c.text.now < 2 ^ 64
