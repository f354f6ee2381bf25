use Rattle.std.proofs.Common.{◌≡◌, ◌+◌, ◌≤◌, drop}
use Rattle.prefq_c.specs.Openings.{feeds}
use Rattle.prefq_c.proofs.sizes.count_feeds.Given as goal

abbrev pub invariant-loop-byte : goal.invariant-loop-byte
invariant-loop-byte l = (l.count ≤ l.byte-index) × (l.count + feeds (drop l.byte-index l.text) ≡ feeds l.text)
