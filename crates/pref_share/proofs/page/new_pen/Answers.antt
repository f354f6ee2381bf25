use Rattle.std.proofs.Common.{ap, sym, ◌∙◌}
use Rattle.pref_share.proofs.PageSteps.{begins_moves}
use Rattle.pref_share.proofs.page.new_pen.Goals as goal

pub compare_exchange-found-requires : goal.compare_exchange-found-requires
compare_exchange-found-requires c =
    let h = c.requires.word in
    let book = sym (ap (λ w. w.book) h) in
    let offer = c.plain-offer.ensures in
    let pen = c.no_pen-pen.ensures in (
      ap (λ w. w.tracked) h,
      book,
      pen.0 ∙ book,
      offer.0,
      rw (pen.1, offer.3) (begins_moves c.args.seen.now.log c.plain-offer.result.ask c.args.word.now.key c.requires.page),
    )
