use Rattle.pref_core.proofs.Common.{ap, Limits}
use Rattle.pref_core.proofs.setup.Setup.with_window.Goals as goal

-- for an edit that must fail: an answer fails at once, a search twice at its limits
pub returns-clause-value : goal.returns-clause-value
returns-clause-value c = ap (λ (l : Limits). record l { window = c.args.window }) c.self.view_is
