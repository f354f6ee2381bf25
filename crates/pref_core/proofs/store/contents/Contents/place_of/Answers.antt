use Rattle.pref_core.proofs.Common.{subst, IsPlaceOf, Contents}
use Rattle.pref_core.proofs.store.contents.Contents.place_of.Goals as goal

pub returns-in-None : goal.returns-in-None
returns-in-None c = subst (λ (s : Contents). IsPlaceOf s.stamp c.args.id s.slots c.find.result) c.self.view_is c.find.ensures
