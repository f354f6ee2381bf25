use Rattle.pref_sky.proofs.Common.{[], ◌∙◌, ap, get_or_read}
use Rattle.pref_sky.proofs.SweepLaws.{above_alike, behind, class_begins, class_goes_on, swept_alike, swept_anew}
use Rattle.pref_sky.specs.Leads.{rule_of}
use Rattle.pref_sky.proofs.sweep.Sweep.step.Goals.{in-Apart, in-InClass}
use Rattle.pref_sky.proofs.sweep.Sweep.step.Goals as goal

pub returns-in-Alike : goal.returns-in-Alike
returns-in-Alike c =
    let same = c.standing.ensures.same (λ apart. cc (apart, c.in-Alike.is)) in
    let alike = c.standing.ensures.alike c.in-Alike.is in
    let swept = c.requires.swept.swept in
    let passed = c.requires.passed in
    let class = passed.class same.0 in
    let above = above_alike _ _ _ _ _ _ alike (passed.above same.0) in
    behind
    (swept_alike passed.so_far swept c.requires.inside c.args.self.now.above above same.0 class.begins (passed.above same.0) alike same.1)
    (class_goes_on swept c.args.self.now.class c.args.place same.0 class same.1) above

pub count_above-self-requires : goal.count_above-self-requires
count_above-self-requires c =
    let leads = c.requires.swept in
    let so_far = c.requires.passed.so_far in
    let stands = c.standing.ensures in
    let signed = c.sign-signature.ensures ∙ ap (rule_of c.args.lead.now) (get_or_read c.args.entries.now c.args.place c.index-entries-place.result c.requires.inside c.index-entries-place.is (record { id = 0; row = [] })) in
    elim c.match-standing.branch [
      | in-InClass w ↦
          let same = stands.same (λ apart. cc (apart, w.in-InClass.is)) in
          let class = class_goes_on leads.swept c.args.self.now.class c.args.place same.0 (c.requires.passed.class same.0) same.1 in
          rw (w.self-is) (record { inside = c.requires.inside; leads = leads; signed = signed; so_far = so_far; class = class })
      | in-Apart w ↦
          let class = class_begins leads.swept c.args.place c.requires.inside (stands.apart w.in-Apart.is) in
          rw (w.self-is) (record { inside = c.requires.inside; leads = leads; signed = signed; so_far = swept_anew so_far; class = class })
    ]
