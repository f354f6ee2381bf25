use Rattle.pref_share.proofs.Common.{Some, refl, CallCommit, CallBegin, CallAbandon, Commit, Begin, Abandon}
use Rattle.pref_share.proofs.ActSteps.{commits, begun, scanned_step, finished, abandoned, got, has_room}
use Rattle.pref_share.proofs.RefusalReplies.{change_refused, quiet_refused, finish_refused, scan_refused, get_refused, passed_on}
use Rattle.pref_share.proofs.client.acts.answer_other.Goals as goal

pub returns-in_ok-returned-in-Commit-clause-answered : goal.returns-in_ok-returned-in-Commit-clause-answered
returns-in_ok-returned-in-Commit-clause-answered g c = rw (c.in-Commit.is) (commits g.J.BoardBrand.opening c.args.client.now _ c.in-Commit.commit _ c.in_ok-returned-in-Commit.ensures.committed)

pub returns-in_err-returned-in-Commit-clause-refused : goal.returns-in_err-returned-in-Commit-clause-refused
returns-in_err-returned-in-Commit-clause-refused g c = rw (c.in-Commit.is) (passed_on c.from_residual.result c.in_err-returned-in-Commit.field-0.0 _ c.from_residual.ensures.1 (change_refused g.J.BoardBrand.opening c.args.client.now _ (Commit c.in-Commit.commit) (CallCommit c.in-Commit.commit) c.in_err-returned-in-Commit.field-0.0 c.seen-seen.ensures.legal refl refl c.in_err-returned-in-Commit.ensures.refused))

pub returns-in-Ok-clause-answered : goal.returns-in-Ok-clause-answered
returns-in-Ok-clause-answered g c = rw (c.in-Begin.is) (begun g.J.BoardBrand.opening c.args.client.now _ c.in-Begin.ask c.in-Ok.blocks c.in-Ok.ensures.begun)

pub returns-in-Err-clause-refused : goal.returns-in-Err-clause-refused
returns-in-Err-clause-refused g c = rw (c.in-Begin.is) (quiet_refused g.J.BoardBrand.opening c.args.client.now _ (Begin c.in-Begin.ask) CallBegin c.in-Err.refusal.fault c.seen-seen.ensures.legal refl c.in-Err.ensures.refused.1)

pub returns-in_ok-scan-in-Scan-clause-answered : goal.returns-in_ok-scan-in-Scan-clause-answered
returns-in_ok-scan-in-Scan-clause-answered g c = rw (c.in-Scan.is) (scanned_step g.J.BoardBrand.opening c.args.client.now _ _ c.in_ok-scan-in-Scan.ensures.scanned)

pub returns-in_err-scan-in-Scan-clause-refused : goal.returns-in_err-scan-in-Scan-clause-refused
returns-in_err-scan-in-Scan-clause-refused g c = rw (c.in-Scan.is) (passed_on c.from_residual-in_err-scan-in-Scan.result c.in_err-scan-in-Scan.field-0.0 _ c.from_residual-in_err-scan-in-Scan.ensures.1 (scan_refused g.J.BoardBrand.opening c.args.client.now _ c.in_err-scan-in-Scan.field-0.0 c.seen-seen.ensures.legal c.in_err-scan-in-Scan.ensures.refused))

pub returns-in_ok-ranked-in-Finish-clause-answered : goal.returns-in_ok-ranked-in-Finish-clause-answered
returns-in_ok-ranked-in-Finish-clause-answered g c = rw (c.in-Finish.is) (rw (c.of.ensures) (finished g.J.BoardBrand.opening c.args.client.now _ c.in_ok-ranked-in-Finish.ranked.items c.in_ok-ranked-in-Finish.ensures.finished))

pub returns-in_err-ranked-in-Finish-clause-refused : goal.returns-in_err-ranked-in-Finish-clause-refused
returns-in_err-ranked-in-Finish-clause-refused g c = rw (c.in-Finish.is) (passed_on c.from_residual-in_err-ranked-in-Finish.result c.in_err-ranked-in-Finish.field-0.0 _ c.from_residual-in_err-ranked-in-Finish.ensures.1 (finish_refused g.J.BoardBrand.opening c.args.client.now _ c.in_err-ranked-in-Finish.field-0.0 c.seen-seen.ensures.legal c.in_err-ranked-in-Finish.ensures.refused))

pub returns-in_ok-abandon-in-Abandon-clause-answered : goal.returns-in_ok-abandon-in-Abandon-clause-answered
returns-in_ok-abandon-in-Abandon-clause-answered g c = rw (c.in-Abandon.is) (abandoned g.J.BoardBrand.opening c.args.client.now _ c.in_ok-abandon-in-Abandon.ensures.abandoned.0 c.in_ok-abandon-in-Abandon.ensures.abandoned.1)

pub returns-in_err-abandon-in-Abandon-clause-refused : goal.returns-in_err-abandon-in-Abandon-clause-refused
returns-in_err-abandon-in-Abandon-clause-refused g c = rw (c.in-Abandon.is) (passed_on c.from_residual-in_err-abandon-in-Abandon.result c.in_err-abandon-in-Abandon.field-0.0 _ c.from_residual-in_err-abandon-in-Abandon.ensures.1 (quiet_refused g.J.BoardBrand.opening c.args.client.now _ Abandon CallAbandon c.in_err-abandon-in-Abandon.field-0.0 c.seen-seen.ensures.legal refl c.in_err-abandon-in-Abandon.ensures.refused))

pub returns-in_ok-get-in-Get-clause-answered : goal.returns-in_ok-get-in-Get-clause-answered
returns-in_ok-get-in-Get-clause-answered g c = rw (c.in-Get.is) (got g.J.BoardBrand.opening c.args.client.now _ c.in-Get.id (Some _) c.in_ok-get-in-Get.ensures.row.0 c.in_ok-get-in-Get.ensures.row.1)

pub returns-in_err-get-in-Get-clause-refused : goal.returns-in_err-get-in-Get-clause-refused
returns-in_err-get-in-Get-clause-refused g c = rw (c.in-Get.is) (passed_on c.from_residual-in_err-get-in-Get.result c.in_err-get-in-Get.field-0.0 _ c.from_residual-in_err-get-in-Get.ensures.1 (get_refused g.J.BoardBrand.opening c.args.client.now _ c.in-Get.id c.in_err-get-in-Get.field-0.0 c.seen-seen.ensures.legal c.in_err-get-in-Get.ensures.refused))

pub returns-in_ok-room-in-Room-clause-answered : goal.returns-in_ok-room-in-Room-clause-answered
returns-in_ok-room-in-Room-clause-answered g c = rw (c.in-Room.is) (has_room g.J.BoardBrand.opening c.args.client.now _ _ c.in_ok-room-in-Room.ensures.room.0 c.in_ok-room-in-Room.ensures.room.1)
