use Rattle.pref_share.proofs.ViewsLaws.{admits, tells, hears}
use Rattle.pref_share.proofs.publisher.Publisher.reader.Goals as goal

pub reader-requires : goal.reader-requires
reader-requires g c = admits

pub tell-requires : goal.tell-requires
tell-requires g c = tells _ _

pub learn-requires-clause-rule : goal.learn-requires-clause-rule
learn-requires-clause-rule g c = hears _ _ _ _
