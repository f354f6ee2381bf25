use Rattle.pref_share.proofs.Common.{◌≡◌, ◌+◌, [], newcomers}
use Rattle.pref_share.specs.Book.{pages}
use Rattle.pref_share.proofs.board.all_clients.Given as goal

abbrev pub invariant-loop-client : goal.invariant-loop-client
invariant-loop-client g l = (l.all.items ≡ newcomers l.client) × (l.publisher ≡ []) × (l.rights.book ≡ g.J.BoardBrand.book) × (l.rights.next ≡ l.client + 1) × (l.rights.next + l.rights.left ≡ pages)
