-- No public contract cites this.
-- Signatures, and places in a list of entries.
use Rattle.std.specs.Prelude.{ℕ, List, [], get_or}
use Rattle.pref_term.specs.declared.signature.scale.Scale.{Scale}
use Rattle.pref_term.specs.Signatures.{signature}
use Rattle.pref_sky.specs.declared.entry.Entry.{Entry}

-- the signature of an entry by some scales
abbrev pub signature_by : List Scale → Entry → ℕ
signature_by scales e = signature scales e.row

-- the entry at a place of a list
abbrev pub entry_at : List Entry → ℕ → Entry
entry_at entries place = get_or entries place (record { id = 0; row = [] })
