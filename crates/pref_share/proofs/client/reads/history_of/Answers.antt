use Rattle.pref_share.proofs.Common.{first_contents, first_state}
use Rattle.pref_share.specs.Book.{ops_of}
use Rattle.pref_share.proofs.HistoryLaws.{legal_from_let_in, opens}
use Rattle.pref_share.proofs.client.reads.history_of.Goals as goal

pub of-now-requires-clause-legal : goal.of-now-requires-clause-legal
of-now-requires-clause-legal g c =
    let o = g.J.BoardBrand.opening in
    record {
      allowed = c.requires.legal.allowed;
      fits = c.requires.legal.fits;
      each = legal_from_let_in (first_contents o) (first_state o) (ops_of c.args.published.now.seen.log) (opens o c.requires.legal.fits).0 c.requires.stands.legal;
    }
