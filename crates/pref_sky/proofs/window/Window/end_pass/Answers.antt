use Rattle.pref_sky.proofs.Common.{rules}
use Rattle.pref_sky.proofs.window.Window.end_pass.Goals as goal

-- for an edit that must fail: an answer fails at once, a search twice at its limits
pub returns : goal.returns
returns c = search rules
