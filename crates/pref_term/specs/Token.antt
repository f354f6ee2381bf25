-- The tokens of a question text. (this project)
use Rattle.std.specs.Prelude.{ℕ, zero, suc, ◌+◌, List, [], ◌∷◌, take, ◌==◌, if◌then◌else◌}
use Rattle.std.specs.Char.{is_ascii_alphabetic, is_ascii_digit}
use Rattle.std.specs.List.{prefix_len}
use Rattle.pref_table.specs.Names.{is_name_byte}
use Rattle.pref_table.specs.Number.{is_blank}
pub use Rattle.pref_term.specs.declared.token.Sign.{Sign}
pub use Rattle.pref_term.specs.declared.token.Sign.TheVariants.{Left as left, Right as right, Comma as comma, Star as star, Ampersand as ampersand, Minus as minus, LeftBrace as left_brace, RightBrace as right_brace}

-- a token, with its bytes where it has a choice of them
pub data Token : Type 0 where
  word : (letters : List ℕ) → Token
  digits : (digits : List ℕ) → Token
  sign : (s : Sign) → Token
  -- a byte that no rule allows
  other : Token
  finish : Token

-- a token, and the place of its first byte
pub record Placed : Type 0 where
  pub token : Token
  pub place : ℕ

-- the token that is this byte alone
abbrev pub sign_or_other : ℕ → Token
sign_or_other b =
    if b == 40 then sign left
    else if b == 41 then sign right
    else if b == 44 then sign comma
    else if b == 42 then sign star
    else if b == 38 then sign ampersand
    else if b == 45 then sign minus
    else if b == 123 then sign left_brace
    else if b == 125 then sign right_brace
    else other

-- how many of the bytes after b belong to the token that b begins; a word goes on with the bytes of a name
abbrev pub more_bytes : ℕ → List ℕ → ℕ
more_bytes b bs = if is_ascii_alphabetic b then prefix_len is_name_byte bs else if is_ascii_digit b then prefix_len is_ascii_digit bs else 0

-- the token that b begins
abbrev pub token_from : ℕ → List ℕ → Token
token_from b bs =
    if is_ascii_alphabetic b then word (b ∷ take (more_bytes b bs) bs)
    else if is_ascii_digit b then digits (b ∷ take (more_bytes b bs) bs)
    else sign_or_other b

-- the tokens of the bytes, of which the first few belong to a token that was listed before
abbrev pub tokens_from : (reported place : ℕ) → List ℕ → List Placed
tokens_from reported place [] = record { token = finish; place = place } ∷ []
tokens_from (suc reported) place (b ∷ bs) = tokens_from reported (place + 1) bs
tokens_from zero place (b ∷ bs) =
    if is_blank b then tokens_from 0 (place + 1) bs
    else record { token = token_from b bs; place = place } ∷ tokens_from (more_bytes b bs) (place + 1) bs

-- the tokens of a text, up to its end; blanks lie between them
abbrev pub tokens_of : List ℕ → List Placed
tokens_of text = tokens_from 0 0 text
