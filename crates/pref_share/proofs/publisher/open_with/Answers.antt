use Rattle.pref_share.proofs.Common.{◌∙◌}
use Rattle.pref_share.proofs.ViewsLaws.{opens}
use Rattle.pref_share.proofs.publisher.open_with.Goals as goal

pub publish_as-writer-requires : goal.publish_as-writer-requires
publish_as-writer-requires g c next is =
    let x = c.args.writer.desk.shown.value in
    opens _ _ x next (is ∙ c.requires.pending)
