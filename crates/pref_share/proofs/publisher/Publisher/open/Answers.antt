use Rattle.pref_share.proofs.Common.{◌≡◌, [], length, sym, subst, ap, ◌∙◌, manually_drop_value, ran, Contents, Book, first_contents, contents_at, HoldsHistory, Knows}
use Rattle.pref_share.proofs.Common.{Published}
use Rattle.left_right.specs.Sides.{view}
use Rattle.pref_core.specs.Indexes.{IsIndexOf}
use Rattle.pref_share.specs.Book.{Page, ops_of, ops_on}
use Rattle.pref_share.proofs.publisher.Publisher.open.Goals as goal

pub invariant_of-result : goal.invariant_of-result
invariant_of-result g c =
    let o = g.J.BoardBrand.opening in
    let ops : c.args.page.ops ≡ [] = ap (λ (p : Page). p.ops) c.requires.page in
    let number = ap (λ (p : Page). p.number) c.requires.page in
    let page_book = ap (λ (p : Page). p.book) c.requires.page in
    let first : Published = record { store = c.args.store; len = 0; seen = c.again.result } in
    let same : c.in-Ok.writer.desk.shown.value ≡ first = c.in-Ok.ensures.shown ∙ c.in_ok-writer.ensures.0 in
    let shown : (manually_drop_value c.new_unchecked.result).desk.shown.value ≡ first = rw c.new_unchecked.ensures (c.open_with.ensures.shown ∙ same) in
    let log : ops_of first.seen.log ≡ c.args.page.ops = ap (λ s. ops_of s.log) c.again.ensures ∙ ap (λ n. ops_on n c.entries.result.log) (sym number) ∙ c.entries.ensures.all in
    let book : first.seen.book ≡ g.J.BoardBrand.book = ap (λ s. s.book) c.again.ensures ∙ c.entries.ensures.book ∙ page_book in
    let stands : HoldsHistory (first_contents o) g.J.BoardBrand.book first = record {
      legal = rw (log ∙ ops) tt;
      store = c.requires.opening ∙ ap (ran (first_contents o)) (sym (log ∙ ops));
      len = ap length (sym (log ∙ ops));
      in_book = book;
    } in (
      number,
      page_book,
      rw ops c.requires.legal,
      subst (λ (s : Contents). IsIndexOf s c.in_ok-index.index) (c.requires.opening ∙ ap (contents_at o) (sym ops)) c.in_ok-index.ensures,
      ap (λ (p : Published). ops_of p.seen.log) shown ∙ log,
      subst (HoldsHistory (first_contents o) g.J.BoardBrand.book) (sym shown) stands,
      rw c.new_unchecked.ensures (subst (λ (s : Contents). Knows s g.J.BoardBrand.book (view c.open_with.result.desk.place)) (ap (λ (p : Published). p.store) same ∙ c.requires.opening)
          (subst (λ (b : Book). Knows c.in-Ok.writer.desk.shown.value.store b (view c.open_with.result.desk.place)) (ap (λ (p : Published). p.seen.book) same ∙ book) c.open_with.ensures.knows)),
      rw c.new_unchecked.ensures c.open_with.ensures.pending,
    )
