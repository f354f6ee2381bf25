use Rattle.std.proofs.Common.{subst}
use Rattle.pref_sky.specs.Levels.{HaveDifferentIds}
use Rattle.pref_sky.proofs.LevelLaws.{first_differ}
use Rattle.sky_tests.proofs.skylines.shapes.check_change.Goals as goal

pub levels-requires-clause-ids : goal.levels-requires-clause-ids
levels-requires-clause-ids g c = first_differ c.split_at.result.0.now c.split_at.result.1.now (subst HaveDifferentIds c.split_at.ensures.by_index.0 c.requires.ids)

pub levels-requires-2-clause-ids : goal.levels-requires-2-clause-ids
levels-requires-2-clause-ids g c = first_differ c.split_at.result.0.now c.split_at.result.1.now (subst HaveDifferentIds c.split_at.ensures.by_index.0 c.requires.ids)
