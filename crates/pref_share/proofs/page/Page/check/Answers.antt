use Rattle.std.proofs.Common.{length, List, subst, arith, ap, sym, ◌∙◌}
use mathlib.Core.List.{IsPrefix}
use Rattle.pref_core.specs.declared.call.Op.{Op}
use Rattle.pref_share.specs.Book.{ops_on, ops_of}
use Rattle.pref_share.proofs.CallCounts.{count_prefix}
use Rattle.pref_share.proofs.PageSteps.{whole_moves, ops_prefix}
use Rattle.pref_share.proofs.PrefixLaws.{prefix_trans}
use Rattle.pref_share.proofs.page.Page.check.Goals as goal

pub compare_exchange-found-requires : goal.compare_exchange-found-requires
compare_exchange-found-requires c =
    let h = c.self.invariant.0 in
    let book = c.learn.ensures.0 ∙ ap (λ s. s.book) c.again-seen.ensures in
    let offer = c.plain-offer.ensures in (
      ap (λ w. w.tracked) h,
      book ∙ sym (ap (λ w. w.book) h),
      c.self.invariant.2 ∙ sym (ap (λ w. w.book) h),
      offer.0,
      rw (offer.3) (whole_moves c.learn.new.self.log c.self.inside.pen.nib c.plain-offer.result.ask c.self.inside.word.key c.self.invariant.1 c.self.invariant.3),
    )

pub returns-clause-begins : goal.returns-clause-begins
returns-clause-begins c =
    let e = c.compare_exchange-found.ensures in
    let w = c.compare_exchange-found.new.seen.log in
    let own = subst (λ s. IsPrefix s c.learn.new.self.log) (ap (λ s. s.log) c.again-seen.ensures) c.learn.ensures.2 in
    rw (← c.self.view_is)
    (λ none. subst (λ (l : List Op). IsPrefix (ops_of c.args.reached.now.log) l) (ap (λ k. ops_on k w) (sym none) ∙ e.7.2 c.self.inside.seen.log own c.self.invariant.4) (ops_prefix 0 _ w (prefix_trans _ _ w c.learn.ensures.3 e.6)))

pub returns-clause-few : goal.returns-clause-few
returns-clause-few c =
    let e = c.compare_exchange-found.ensures in
    let w = c.compare_exchange-found.new.seen.log in
    let key = c.self.inside.word.key in
    let own = subst (λ s. IsPrefix s c.learn.new.self.log) (ap (λ s. s.log) c.again-seen.ensures) c.learn.ensures.2 in
    let counted = count_prefix key (ops_of c.args.reached.now.log) (ops_of w) (ops_prefix 0 _ w (prefix_trans _ _ w c.learn.ensures.3 e.6)) in
    rw (← c.self.view_is) (λ some. omega (arith, e.7.1 key some, counted, ap length (e.7.2 c.self.inside.seen.log own c.self.invariant.4)))
