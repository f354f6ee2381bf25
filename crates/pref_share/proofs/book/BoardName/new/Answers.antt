use Rattle.std.proofs.Common.{rules}
use Rattle.pref_share.proofs.PageSteps.{starts}
use Rattle.pref_share.proofs.book.BoardName.new.Goals as goal

pub open_row-seen-requires : goal.open_row-seen-requires
open_row-seen-requires c = (starts, search rules, search rules)
