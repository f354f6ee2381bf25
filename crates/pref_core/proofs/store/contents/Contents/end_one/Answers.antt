use Rattle.pref_core.proofs.Common.{sym, ap, ◌∙◌, map, option_to_list, close, with_slots}
use Rattle.pref_core.proofs.FilledLaws.{ended_none}
use Rattle.pref_core.proofs.store.contents.Contents.end_one.Goals as goal

pub returns-in_default : goal.returns-in_default
returns-in_default c =
    let now = c.args.self.now in
    ended_none now ∙ ap (λ ids. with_slots (map (close ids now.stamp) now.slots) now) (sym (ap option_to_list c.in_default.is) ∙ c.ended.ensures)
