-- What was read of an input and not taken yet. (this project)
use Rattle.std.specs.Prelude.{ℕ, ◌≡◌, ◌≢◌, ◌≤◌, ◌<◌, ◌+◌, ◌-◌, ◌⊎◌, ⊤, Bool, true, List, [], ◌∷◌, ◌++◌, length, take, drop, slice_index, Option}
use Rattle.std.specs.Io.KnownBytes.{Consumes, IsAtEnd}
use Rattle.pref_script.specs.Run.{Source}
use Rattle.pref_script.specs.Script.{raw_lines}
use Rattle.pref_script.specs.declared.read_ahead.ReadAhead.{ReadAhead}
use Rattle.pref_script.specs.declared.fault.RunFault.{RunFault}
use Rattle.pref_script.specs.declared.fault.RunFault.TheVariants as fault

-- what was read and not taken yet
abbrev pub unread : ReadAhead → List ℕ
unread ahead = drop ahead.start ahead.bytes.items

-- whether the reader has come to its end
abbrev pub is_at_end : ReadAhead → Bool
is_at_end ahead = ahead.ended

-- what was read comes behind what was there; nothing is read after the end, and at the end nothing is left
pub record ReadBehind (had left : Option (List ℕ)) (old new : ReadAhead) : Type 0 where
  pub bytes : List ℕ
  pub consumed : Consumes had left bytes
  pub behind : unread new ≡ unread old ++ bytes
  pub no_more : is_at_end old ≡ true → (bytes ≡ []) × (is_at_end new ≡ true)
  pub at_end : (is_at_end old ≡ true → IsAtEnd had) → is_at_end new ≡ true → IsAtEnd left

-- one read, if any: none after the end, and at most 8,192 bytes
pub record ReadOnce (had left : Option (List ℕ)) (old : ReadAhead) : Type 0 where
  pub bytes : List ℕ
  pub consumed : Consumes had left bytes
  pub no_more : is_at_end old ≡ true → (bytes ≡ []) × (IsAtEnd had → IsAtEnd left)
  pub few : length bytes ≤ 8192

-- from one place of a text up to another there is no line feed
abbrev pub NoLineFeed : ℕ → ℕ → List ℕ → Type 0
NoLineFeed from end text = (place : ℕ) → from ≤ place → place < end → slice_index text place ≢ 10

-- the most bytes that are read ahead: as many as a line may have, and those of one read
abbrev pub most_ahead : ℕ
most_ahead = 16777216 + 8192

-- Little was read ahead: from this place on no line ends before the last 8,192 bytes.
pub record IsLittle (from : ℕ) (text : List ℕ) : Type 0 where
  pub no_line : NoLineFeed from (length text - 8192) text
  pub most : length text ≤ most_ahead

-- some bytes were read, and none after the end; and little is there, if little was
pub record ReadSome (had left : Option (List ℕ)) (from : ℕ) (old : ReadAhead) : Type 0 where
  pub bytes : List ℕ
  pub consumed : Consumes had left bytes
  pub no_more : is_at_end old ≡ true → (bytes ≡ []) × (IsAtEnd had → IsAtEnd left)
  pub little : IsLittle from (unread old) → IsLittle from (unread old ++ bytes)

-- a whole line: whatever follows it, it is the first line
abbrev pub IsWhole : List ℕ → Type 0
IsWhole line = (more : List ℕ) → raw_lines (line ++ more) ≡ line ∷ raw_lines more

-- what is between two places of a text
abbrev pub between : ℕ → ℕ → List ℕ → List ℕ
between from end text = take (end - from) (drop from text)

-- between two places is the next line, which is whole; or the input has ended, and this is its last line, or nothing
abbrev pub IsLineAt : ℕ → ℕ → ReadAhead → Type 0
IsLineAt from end ahead = let line = between from end (unread ahead) in
    (from < end) × IsWhole line ⊎ (is_at_end ahead ≡ true) × (end ≡ length (unread ahead)) × (from < end → raw_lines line ≡ line ∷ [])

-- the line from this place on ends behind 16,777,216 bytes
abbrev pub IsLong : ℕ → List ℕ → Type 0
IsLong from text = NoLineFeed from 16777216 text × (16777216 < length text)

-- why nothing was read
abbrev pub ReadFault : Bool → RunFault → Type 0
ReadFault failed fault.Read = failed ≡ true
ReadFault failed fault.Memory = ⊤
ReadFault failed other = ⊥

-- why no line was read
abbrev pub LineFault : Source → ℕ → ReadAhead → ReadAhead → RunFault → Type 0
LineFault source from old new fault.TooLarge = ReadBehind source.had source.left old new × IsLong from (unread new)
LineFault source from old new why = ReadFault source.failed why
