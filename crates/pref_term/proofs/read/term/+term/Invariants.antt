use Rattle.pref_term.proofs.Common.{◌≤◌, ◌+◌, ◌-◌, ◌*◌, length, sign, star, ahead, ReadsFactors, ReadsProducts, NotNext, preference_of}
use Rattle.pref_term.proofs.read.term.+term.Given as goal

-- a call goes down to a part of the grammar, or into a nesting
abbrev pub decreases-group : goal.decreases-group
decreases-group l = 4 * (64 - l.depth)

abbrev pub decreases-prior : goal.decreases-prior
decreases-prior l = 4 * (64 - l.depth) + 3

abbrev pub decreases-product : goal.decreases-product
decreases-product l = 4 * (64 - l.depth) + 2

abbrev pub decreases-unary : goal.decreases-unary
decreases-unary l = 4 * (64 - l.depth) + 1

-- the products so far
abbrev pub invariant-prior-loop-taken : goal.invariant-prior-loop-taken
invariant-prior-loop-taken l = record {
  so_far : ReadsProducts l.schema l.depth (ahead l.fn.cursor) (preference_of l.term) (ahead l.place);
  stops : NotNext (sign star) (ahead l.place);
  shorter : length (ahead l.place) + 1 ≤ length (ahead l.fn.cursor);
}

abbrev pub decreases-prior-loop-taken : goal.decreases-prior-loop-taken
decreases-prior-loop-taken l = length (ahead l.place)

-- the factors so far
abbrev pub invariant-product-loop-taken : goal.invariant-product-loop-taken
invariant-product-loop-taken l = record {
  so_far : ReadsFactors l.schema l.depth (ahead l.fn.cursor) (preference_of l.term) (ahead l.place);
  shorter : length (ahead l.place) + 1 ≤ length (ahead l.fn.cursor);
}

abbrev pub decreases-product-loop-taken : goal.decreases-product-loop-taken
decreases-product-loop-taken l = length (ahead l.place)
