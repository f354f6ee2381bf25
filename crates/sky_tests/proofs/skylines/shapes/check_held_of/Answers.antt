use Rattle.std.proofs.Common.{subst}
use Rattle.pref_sky.specs.Levels.{HaveDifferentIds}
use Rattle.pref_sky.proofs.LevelLaws.{first_differ}
use Rattle.sky_tests.proofs.skylines.shapes.check_held_of.Goals as goal

pub levels_upto-requires : goal.levels_upto-requires
levels_upto-requires g c = first_differ c.split_at.result.0.now c.split_at.result.1.now (subst HaveDifferentIds c.split_at.ensures.by_index.0 c.requires)
