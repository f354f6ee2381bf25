use Rattle.pref_sky.proofs.Common.{◌≡◌, ◌+◌, take}
use Rattle.pref_sky.specs.NumberedRows.{numbered_from}
use Rattle.pref_sky.proofs.numbering.numbered_from.Given as goal

-- the rows so far are numbered, and the id is the last one's
abbrev pub invariant-loop-row : goal.invariant-loop-row
invariant-loop-row l =
    record {
      id : l.id ≡ l.last + l.row-index;
      numbered : l.entries.items ≡ numbered_from l.last (take l.row-index l.rows);
    }
