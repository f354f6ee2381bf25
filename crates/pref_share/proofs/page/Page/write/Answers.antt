use Rattle.std.proofs.Common.{subst, ap, sym, ◌∙◌}
use mathlib.Core.List.{IsPrefix}
use Rattle.pref_core.specs.Planned.{op_of}
use Rattle.pref_share.proofs.PageSteps.{adds_moves, backs}
use Rattle.pref_share.proofs.PrefixLaws.{prefix_trans}
use Rattle.pref_share.proofs.page.Page.write.Goals as goal

pub compare_exchange-found-requires : goal.compare_exchange-found-requires
compare_exchange-found-requires c =
    let h = c.self.invariant.0 in
    let page = c.self.inside.word.key in
    let mine = c.self.inside.seen.log in
    let learned = c.learn.new.self.log in
    let v = c.new_pen-next.new.seen.log in
    let offer = c.plain-offer.ensures in
    let ask = c.plain-offer.result.ask in
    let book = c.new_pen-next.ensures.seen.0 ∙ c.learn.ensures.0 ∙ ap (λ s. s.book) c.again-seen.ensures in
    let own = subst (λ s. IsPrefix s learned) (ap (λ s. s.log) c.again-seen.ensures) c.learn.ensures.2 in
    let begins : IsPrefix mine v = prefix_trans mine learned v own c.new_pen-next.ensures.seen.1 in
    let turn = rw (← c.self.view_is, ← c.other.view_is) at c.requires.turn in (
      ap (λ w. w.tracked) h,
      book ∙ sym (ap (λ w. w.book) h),
      c.self.invariant.2 ∙ sym (ap (λ w. w.book) h),
      offer.0,
      rw (offer.3) (adds_moves v mine c.self.inside.pen.nib ask page c.self.invariant.1 (ap (λ a. a.page) offer.1) c.self.invariant.3 begins c.self.invariant.4
          (backs page c.other.inside.word.key mine c.other.inside.seen.log learned v ask (op_of c.args.op.now) c.learn.ensures.4.1.backed own c.learn.ensures.3 c.new_pen-next.ensures.seen.1 (ap (λ a. a.page) offer.1) (ap (λ a. a.op) offer.1) turn)),
    )
