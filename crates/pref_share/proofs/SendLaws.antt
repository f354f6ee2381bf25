-- A client and its acts may go to another thread: a question is a tree, which crosses with its parts.
use Rattle.pref_share.proofs.Common.{IsSend, sendable, view_send}
use denote.RattleType.{RattleType}
use denote.Param.SendFields.{declared_send, variants_send, as_row_send}
use Rattle.std.proofs.Crossing.{frees}
use Rattle.std.proofs.alloc.Global.TheSendSync as heap
use Rattle.std.proofs.boxed.Box.TheSendSync as boxes
use Rattle.std.proofs.vec.Vec.TheSendSync as vectors
use Rattle.std.proofs.vec.IntoIter.TheSendSync as iterators
use Rattle.std.specs.contracts.alloc.Global as global
use Rattle.pref_table.proofs.row.Row.TheSendSync as rows
use Rattle.pref_term.proofs.term.Term.TheLaws.TheKnot as knot
use Rattle.pref_term.proofs.term.NumberSets.TheSendSync as number_sets
use Rattle.pref_term.proofs.term.Numbers.TheSendSync as numbers
use Rattle.pref_term.proofs.ask.Mode.TheSendSync as modes
use Rattle.pref_term.proofs.chain.Chain.TheSendSync as chains
use Rattle.pref_term.proofs.key.Key.TheSendSync as keys
use Rattle.pref_term.specs.contracts.ask.Ask as ask
use Rattle.pref_term.specs.contracts.term.Term as term
use Rattle.pref_term.proofs.signature.scales.Scales.TheSendSync as scales
use Rattle.pref_sky.proofs.entry.Entry.TheSendSync as entries
use Rattle.pref_sky.proofs.entry.Ranked.TheSendSync as ranked
use Rattle.pref_sky.proofs.item.Item.TheSendSync as items
use Rattle.pref_sky.proofs.lately.Lately.TheSendSync as lately
use Rattle.pref_sky.specs.contracts.own_order.OwnOrder as own_order
use Rattle.pref_sky.specs.contracts.sorted.Pruned as pruned
use Rattle.pref_sky.specs.contracts.sorted.SortedEntries as sorted_entries
use Rattle.pref_sky.specs.contracts.partial.Held as held
use Rattle.pref_sky.specs.contracts.partial.Partial as partial
use Rattle.pref_sky.specs.contracts.partial.Partial.TheInside as partial_fields
use Rattle.std.proofs.option.Option.TheSendSync as options
use Rattle.left_right.proofs.reader.Reader.TheSendSync as readers
use Rattle.pref_core.proofs.event.BoxedCommit.TheSendSync as boxed_commits
use Rattle.pref_core.proofs.event.Reply.TheSendSync as replies
use Rattle.pref_core.proofs.setup.Setup.TheSendSync as setups
use Rattle.pref_share.proofs.history.Prefix.TheSendSync as prefixes
use Rattle.pref_share.proofs.page.Page.TheSendSync as pages
use Rattle.pref_share.proofs.published.Published.TheSendSync as published
use Rattle.pref_core.specs.contracts.event.Act as act
use Rattle.pref_share.specs.contracts.task.Listed as listed
use Rattle.pref_share.specs.contracts.client.Asking as asking
use Rattle.pref_share.specs.contracts.client.Asking.TheInside as asking_fields
use Rattle.pref_share.specs.contracts.client.Client.TheInside as client_fields
use Rattle.pref_share.specs.contracts.client.Client as client
use Rattle.pref_core.specs.contracts.query.Query as query

pub term_send : IsSend (term.the_field).row
term_send = knot.send-Term (search sendable) (search sendable) numbers.the_send number_sets.the_send (λ h s. boxes.the_send h global.the_row _ s heap.the_send frees)

pub ask_send : IsSend ask.the_row
ask_send = search (sendable, declared_send, as_row_send, term_send, chains.the_send, keys.the_send, modes.the_send, vectors.the_send, heap.the_send, frees) depth 18

pub act_send : IsSend act.the_row
act_send = search (sendable, variants_send, as_row_send, ask_send, rows.the_send, boxed_commits.the_send) depth 14

pub listed_send : IsSend listed.the_row
listed_send = search (sendable, declared_send, as_row_send, vectors.the_send, iterators.the_send, act_send, replies.the_send, heap.the_send, frees) depth 14

own_order_send : IsSend own_order.the_row
own_order_send = search (sendable, declared_send, as_row_send, ask_send) depth 14

pruned_send : IsSend pruned.the_row
pruned_send = search (sendable, declared_send, as_row_send, own_order_send, vectors.the_send, entries.the_send, items.the_send, scales.the_send, lately.the_send, heap.the_send, frees) depth 18

sorted_entries_send : IsSend sorted_entries.the_row
sorted_entries_send = search (sendable, declared_send, as_row_send, pruned_send, vectors.the_send, entries.the_send, heap.the_send, frees) depth 14

held_send : IsSend held.the_row
held_send = search (sendable, variants_send, as_row_send, sorted_entries_send, vectors.the_send, ranked.the_send, heap.the_send, frees) depth 14

partial_inside : IsSend partial_fields.the_row
partial_inside = search (sendable, declared_send, held_send) depth 14

pub partial_send : IsSend partial.the_row
partial_send = view_send _ _ _ _ _ partial_inside

pub query_send : IsSend query.the_row
query_send = search (sendable, declared_send, as_row_send, ask_send, partial_send) depth 14

asking_inside : (J : RattleType) (N : _) → IsSend (asking_fields.the_row J N)
asking_inside J N = search (sendable, declared_send, as_row_send, query_send, prefixes.the_send) depth 14

asking_send : (J : RattleType) (N : _) → IsSend (asking.the_row J N)
asking_send J N = view_send _ _ _ _ _ (asking_inside J N)

client_inside : (J : RattleType) (N : _) → IsSend (client_fields.the_row J N)
client_inside J N = declared_send (client_fields.the_type J N) (
  search (sendable, as_row_send),
  (
    search (sendable, as_row_send),
    (
      search (sendable, setups.the_send),
      (
        search (sendable, as_row_send, prefixes.the_send),
        (
          search (sendable, as_row_send, options.the_send, asking_send),
          (
            search (sendable, as_row_send, pages.the_send),
            (search (sendable, as_row_send, readers.the_field_send, heap.the_send, published.the_sync, heap.the_sync, frees) depth 9, tt),
          ),
        ),
      ),
    ),
  ),
)

pub client_send : (J : RattleType) (N : _) → IsSend (client.the_row J N)
client_send J N = view_send _ _ _ _ _ (client_inside J N)
