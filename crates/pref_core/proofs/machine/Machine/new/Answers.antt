use Rattle.pref_core.proofs.Common.{replicate, None, refl, ap, ◌∙◌, opened}
use Rattle.pref_core.proofs.SystemsLaws.{opened_system}
use Rattle.pref_core.proofs.machine.Machine.new.Goals as goal

pub invariant_of-result : goal.invariant_of-result
invariant_of-result c = record {
  system = opened c.args.setup c.args.rows.now;
  indexed = c.in_ok-index.ensures;
  stands = opened_system c.in_ok-store.store c.args.setup c.args.rows.now c.in_ok-queries.queries.items c.in_ok-store.ensures.state.0 c.in_ok-store.ensures.state.1 (c.in_ok-queries.ensures ∙ ap (λ n. replicate n None) c.clients.ensures.value);
}

pub returns-clause-opened : goal.returns-clause-opened
returns-clause-opened c = (refl, opened_system c.in_ok-store.store c.args.setup c.args.rows.now c.in_ok-queries.queries.items c.in_ok-store.ensures.state.0 c.in_ok-store.ensures.state.1 (c.in_ok-queries.ensures ∙ ap (λ n. replicate n None) c.clients.ensures.value))
