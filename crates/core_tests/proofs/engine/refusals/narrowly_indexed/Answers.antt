use Rattle.std.proofs.Common.{sym, ap, ◌∙◌, subst}
use Rattle.pref_core.specs.Indexes.{IsIndexOf}
use Rattle.pref_core.specs.Slots.{opening_contents}
use Rattle.core_tests.proofs.Openings.{index_of_other_room}
use Rattle.core_tests.proofs.engine.refusals.narrowly_indexed.Goals as goal

pub returns : goal.returns
returns c =
    let narrow = c.in_ok-setup_of.field-0 in
    let wide = c.in_ok-setup_of-2.field-0 in
    let opened = c.in_ok-full.ensures.opening ∙ ap (opening_contents narrow) (c.deref.ensures.value ∙ sym c.deref-2.ensures.value) in
    subst (λ s. IsIndexOf s c.in_ok-index.index) (sym c.in_ok-store.ensures.opening)
    (index_of_other_room narrow wide c.deref-2.result.now c.in_ok-index.index (subst (λ s. IsIndexOf s c.in_ok-index.index) opened c.in_ok-index.ensures))
