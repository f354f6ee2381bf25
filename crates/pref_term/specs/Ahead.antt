-- No public contract cites this.
-- What lies ahead of a place in a text. (this project)
use Rattle.std.specs.Prelude.{List, [], ◌∷◌, drop}
use Rattle.pref_term.specs.Token.{Placed, tokens_from}
use Rattle.pref_term.specs.SeenTokens.{seen}
use Rattle.pref_term.specs.declared.cursor.Cursor.{Cursor}
use Rattle.pref_term.specs.declared.cursor.Lexeme.{Lexeme}
use Rattle.pref_term.specs.declared.front.Token as code
use Rattle.pref_term.specs.declared.front.Token.TheVariants.{End}

abbrev pub ahead : Cursor → List Placed
ahead c = tokens_from 0 c.place (drop c.place c.text.now)

-- nothing lies behind the end
abbrev pub behind_token : code.Token → List Placed → List Placed
behind_token End ts = []
behind_token _ ts = ts

abbrev pub taken : Lexeme → List Placed
taken t = record { token = seen t.token; place = t.at } ∷ behind_token t.token (ahead t.next)
