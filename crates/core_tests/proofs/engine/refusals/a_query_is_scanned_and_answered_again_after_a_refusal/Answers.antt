use Rattle.std.proofs.Common.{sym, subst}
use Rattle.pref_core.specs.State.{opening_table}
use Rattle.pref_core.specs.Slots.{Shows}
use Rattle.pref_core.specs.Scans.{NextIsNew, begin}
use Rattle.pref_core.proofs.QueryLaws.{begun_on_its_way, next_is_new_on_its_way}
use Rattle.core_tests.proofs.engine.refusals.a_query_is_scanned_and_answered_again_after_a_refusal.Goals as goal

pub scan_and_answer-requires : goal.scan_and_answer-requires
scan_and_answer-requires g c =
    let slots = c.in_ok-store.store.slots in
    let table = opening_table 0 c.deref.result.now in
    let query = begin c.in_ok-ask.ask c.stamp.result c.in_ok-setup.setup in
    let shows = subst (λ n. Shows slots n table) (sym c.stamp.ensures) (c.in_ok-store.ensures.state.0).table in
    subst (λ q. NextIsNew q slots) (sym c.begin-query.ensures)
    (next_is_new_on_its_way slots query table shows (begun_on_its_way c.in_ok-setup.setup slots c.in_ok-ask.ask c.stamp.result c.blocks-2.ensures.allowed c.in_ok-store.ensures.state.1))
