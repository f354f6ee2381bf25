-- The changes that a script asks for: each in a command line of its own, or in a piece of a commit. (this project)
use Rattle.std.specs.Prelude.{ℕ, Bool, ◌==◌, List, Option, Some, None, is_some, if◌then◌else◌, codes}
use Rattle.std.specs.List.{list_all, slice_split}
use Rattle.std.specs.Str.{bytes_eq}
use Rattle.pref_table.specs.Number.{after_blanks}
use Rattle.pref_script.specs.Words.{◌>>=◌, after_word, id_of, lone_id, word_of}
use Rattle.pref_script.specs.declared.pieces.ChangeVerb.{ChangeVerb}
use Rattle.pref_script.specs.declared.pieces.ChangeVerb.TheVariants as verb
use Rattle.pref_script.specs.declared.pieces.ChangeForm.{ChangeForm}
use Rattle.pref_script.specs.declared.pieces.ChangeForm.TheVariants as form

-- the change that a word asks for
unfoldable pub change_verb_of : List ℕ → Option ChangeVerb
change_verb_of word =
    if bytes_eq word (codes "insert") then Some verb.Insert
    else if bytes_eq word (codes "update") then Some verb.Update
    else if bytes_eq word (codes "delete") then Some verb.Delete
    else None

-- what a change says: its values are still a text
pub data ChangeSaid : Type 0 where
  inserts : List ℕ → ChangeSaid
  updates : ℕ → List ℕ → ChangeSaid
  deletes : ℕ → ChangeSaid

-- the same, as the code holds it
abbrev pub change_said : ChangeForm → ChangeSaid
change_said (form.Insert values) = inserts values.now
change_said (form.Update id values) = updates id values.now
change_said (form.Delete id) = deletes id

-- a verb with what follows it
unfoldable pub change_said_by : ChangeVerb → List ℕ → Option ChangeSaid
change_said_by verb.Insert rest = Some (inserts rest)
change_said_by verb.Update rest = do
  id ← id_of (word_of rest)
  Some (updates id (after_word rest))
change_said_by verb.Delete rest = do
  id ← lone_id rest
  Some (deletes id)

abbrev pub is_semicolon : ℕ → Bool
is_semicolon byte = byte == 59

-- the pieces of a commit's text
abbrev pub pieces_of : List ℕ → List (List ℕ)
pieces_of text = slice_split is_semicolon text

-- what a piece says, where it has the form of a change
abbrev pub said_from : List ℕ → Option ChangeSaid
said_from text = do
  verb ← change_verb_of (word_of text)
  change_said_by verb (after_word text)

unfoldable pub piece_said : List ℕ → Option ChangeSaid
piece_said piece = said_from (after_blanks piece)

-- whether each piece has the form of a change
abbrev pub are_changes : List ℕ → Bool
are_changes text = list_all (λ piece. is_some (piece_said piece)) (pieces_of text)
