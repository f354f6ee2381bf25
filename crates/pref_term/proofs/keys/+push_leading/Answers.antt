use Rattle.pref_term.proofs.keys.+push_leading.Goals as goal

-- for an edit that must fail: an answer fails at once, a search twice at its limits
pub returns-in-Reverse : goal.returns-in-Reverse
returns-in-Reverse t c = rw (c.in-Reverse.is, ← c.deref-in-Reverse.ensures) c.push_leading-in-Reverse.ensures
