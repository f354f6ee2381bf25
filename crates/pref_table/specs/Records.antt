-- No public contract cites this.
-- The records that a reader of the crate csv has left.
use Rattle.std.specs.Prelude.{ℕ, ◌≡◌, ◌<◌, ◌≤◌, ◌⊎◌, Bool, true, false, List, [], ◌∷◌, length, Some}
use Rattle.std.specs.Bool.{MatchBool}
use Rattle.std.specs.Borrow.{Bor}
use Rattle.csv.specs.Machine.{ends_at_end}
use Rattle.csv.specs.Reading.{default_config, records, records_from, source_of, Ready, is_flexible, reader_config, reader_state, reader_trim}
use Rattle.csv.specs.declared.parser.Action.{Action}
use Rattle.csv.specs.declared.parser.Action.TheVariants as act
use Rattle.csv.specs.declared.parser.State.{State}
use Rattle.csv.specs.declared.parser.State.TheVariants as st
use Rattle.csv.specs.declared.reader.Reader.{Reader}
use Rattle.csv.specs.declared.reader.Trim.TheVariants as trim
use Rattle.pref_table.specs.declared.records.Effect.{Effect}
use Rattle.pref_table.specs.declared.records.Effect.TheVariants.{Goes, EndsField, EndsRecord}
use Rattle.pref_table.specs.declared.records.Next.{Next}
use Rattle.pref_table.specs.declared.records.Next.TheVariants.{Nothing, Wide, Narrow}
use Rattle.pref_table.specs.declared.records.Place.{Place}
use Rattle.pref_table.specs.declared.records.Place.TheVariants.{BetweenRecords, BeforeField, InField, InQuotes, AfterQuote}

-- a reader of bytes in memory
abbrev pub BytesReader : Type 0
BytesReader = Reader (Bor (List ℕ))

-- the reader, with the crate's defaults, has these records left: it is between two records, before bytes that read so
pub record HasLeft (reader : BytesReader) (left : List (List (List ℕ))) : Type 0 where
  pub config : reader_config reader ≡ default_config
  pub trim : reader_trim reader ≡ trim.None
  pub ready : Ready reader
  pub flexible : is_flexible reader ≡ true
  pub between : ends_at_end (reader_state reader) ≡ false
  pub bytes : List ℕ
  pub source : source_of (λ s. Some s.now) reader ≡ Some bytes
  pub most : ℕ
  pub enough : length bytes < most
  pub records : left ≡ records_from default_config most (reader_state reader) bytes

-- what a read of the next record shows, of the records that were left: the first of them, or that there was none
abbrev pub ReadsFirst : BytesReader → BytesReader → Bool → List (List ℕ) → Type 0
ReadsFirst old new found fields = (left : List (List (List ℕ))) → HasLeft old left
    → MatchBool found ((rest : List (List (List ℕ))) × (left ≡ fields ∷ rest) × HasLeft new rest) (left ≡ [])

-- where csv's machine stands
abbrev pub state_at : Place → State
state_at BetweenRecords = st.StartRecord
state_at BeforeField = st.StartField
state_at InField = st.InField
state_at InQuotes = st.InQuoted
state_at AfterQuote = st.AfterQuote

-- what csv's machine does at a byte
abbrev pub Does : State × Action → Effect → Type 0
Does step (Goes next) = (step ≡ (state_at next, act.Skip)) ⊎ (step ≡ (state_at next, act.Copy))
Does step EndsField = step ≡ (st.StartField, act.EndField)
Does step EndsRecord = (step ≡ (st.StartRecord, act.EndRecord)) ⊎ (step ≡ (st.AfterCr, act.EndRecord))

-- the first record of a text has these fields, no more than a table has columns, and the others are those of what follows it
abbrev pub IsNarrow : List ℕ → List (List ℕ) → List ℕ → Type 0
IsNarrow text fields after = (records default_config text ≡ fields ∷ records default_config after) × (length fields ≤ 16)

-- the first record of a text has more fields than a table has columns
abbrev pub IsWide : List ℕ → Type 0
IsWide text = (fields : List (List ℕ)) × (more : List (List (List ℕ))) × (records default_config text ≡ fields ∷ more) × (16 < length fields)

-- what the first record of a text is
abbrev pub IsNext : List ℕ → Next → Type 0
IsNext text Nothing = records default_config text ≡ []
IsNext text Wide = IsWide text
IsNext text (Narrow after) = (fields : List (List ℕ)) × IsNarrow text fields after.now

-- the same, where a reader reads it that had the records of the text left
abbrev pub ReadsNext : BytesReader → List ℕ → List (List ℕ) → Next → Type 0
ReadsNext new text fields Nothing = records default_config text ≡ []
ReadsNext new text fields Wide = IsWide text
ReadsNext new text fields (Narrow after) = IsNarrow text fields after.now × HasLeft new (records default_config after.now)
