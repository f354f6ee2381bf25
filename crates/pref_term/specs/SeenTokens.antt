-- No public contract cites this.
-- A token of the code, as the grammar sees it. (this project)
use Rattle.std.specs.Prelude.{◌≡◌, ℕ, ◌+◌, List, [], ◌∷◌}
use Rattle.pref_term.specs.Token.{Token, word, digits, sign, other, finish, token_from, more_bytes}
use Rattle.pref_term.specs.declared.front.Token as code
use Rattle.pref_term.specs.declared.front.Token.TheVariants.{Word, Digits, Sign, Other, End}

abbrev pub seen : code.Token → Token
seen (Word letters) = word letters.now
seen (Digits ds) = digits ds.now
seen (Sign s) = sign s
seen Other = other
seen End = finish

-- the token that the bytes begin with, and how many bytes it has; where there is none, the end
abbrev pub IsFront : List ℕ → Token → ℕ → Type 0
IsFront [] t n = (t ≡ finish) × (n ≡ 0)
IsFront (b ∷ bs) t n = (t ≡ token_from b bs) × (n ≡ more_bytes b bs + 1)
