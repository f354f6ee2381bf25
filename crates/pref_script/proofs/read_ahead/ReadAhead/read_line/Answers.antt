use Rattle.pref_script.proofs.Common.{ap, arith, exits, length, length-append, rules, take_rest, unread}
use Rattle.pref_script.proofs.LineLaws.{behind_more, last_within, little_behind, long_none, long_on, none_in_front, none_on, once_more, some_behind, whole_on}
use Rattle.pref_script.proofs.read_ahead.ReadAhead.read_line.Goals as goal

pub loop-place-init : goal.loop-place-init
loop-place-init g c = record { later = omega arith; inside = omega arith; behind = search rules; none = λ place low high. absurd (omega (arith, low, high)); little = λ few. few }

pub loop-place-preserved : goal.loop-place-preserved
loop-place-preserved g c =
    let so_far = c.loop-place.invariant in
    let all = unread c.loop-place.self in
    let read = c.in_ok-read_more.ensures.ok in
    let none = none_on c.args.from c.loop-place.seen all so_far.none (rw (take_rest all c.loop-place.seen) at (rw c.as_slice.ensures at c.in_default.ensures)) in
    record {
      later = omega (arith, so_far.later, so_far.inside, ap length c.as_slice-seen.ensures);
      inside = omega (arith, ap length c.as_slice-seen.ensures, ap length read.behind, length-append all read.bytes);
      behind = behind_more _ _ _ _ _ _ so_far.behind read;
      none = rw (read.behind, ap length c.as_slice-seen.ensures) (none_in_front c.args.from (length all) all read.bytes none (omega arith));
      little = λ _. little_behind _ _ _ _ c.args.from read none (grind arith) c.in_ok-read_more.ensures.few;
    }

pub returns-in-Some : goal.returns-in-Some
returns-in-Some g c =
    let so_far = c.loop-place.invariant in
    let all = unread c.loop-place.self in
    let found = rw (take_rest all c.loop-place.seen) at (rw c.as_slice.ensures at c.in-Some.ensures) in
    let line = whole_on c.loop-place.self c.args.from c.loop-place.seen c.in-Some.place so_far.later so_far.none found in
    grind (arith, line, long_on all c.args.from c.loop-place.seen c.in-Some.place so_far.later so_far.none found, some_behind _ _ _ _ c.args.from so_far.behind so_far.little)

pub returns-then-self : goal.returns-then-self
returns-then-self g c =
    let so_far = c.loop-place.invariant in
    let all = unread c.loop-place.self in
    let none = none_on c.args.from c.loop-place.seen all so_far.none (rw (take_rest all c.loop-place.seen) at (rw c.as_slice.ensures at c.in_default.ensures)) in
    grind (arith, last_within c.loop-place.self c.args.from, none, long_none c.args.from all none, some_behind _ _ _ _ c.args.from so_far.behind so_far.little)

pub returns-in_err-read_more : goal.returns-in_err-read_more
returns-in_err-read_more g c =
    let all = unread c.loop-place.self in
    let none = none_on c.args.from c.loop-place.seen all c.loop-place.invariant.none (rw (take_rest all c.loop-place.seen) at (rw c.as_slice.ensures at c.in_default.ensures)) in
    grind (arith, exits, once_more _ _ _ _ _ c.args.from c.loop-place.invariant.behind c.read_more.ensures.read none (grind arith))

pub loop-place-smaller : goal.loop-place-smaller
loop-place-smaller g c = grind (arith, length-append (unread c.loop-place.self) c.in_ok-read_more.ensures.ok.bytes)
