-- The derived `==` of keys is true exactly where they are the same.
use Rattle.pref_term.proofs.Common.{◌≡◌, arith, ints, Key}
use Rattle.std.specs.Bool.{Decides}
use Rattle.std.specs.Cmp.{booleans_Decides, signed_Decides, unsigned_Decides}
use Rattle.pref_term.specs.EqualLaws.{set_lists}
use Rattle.pref_term.specs.declared.key.Score.{Score}
use Rattle.pref_term.specs.declared.key.Score.TheVariants.{Sets}
use Rattle.pref_term.specs.contracts.key.KeyPartialEq.TheImpl as key
use Rattle.pref_term.specs.contracts.key.ScorePartialEq.TheImpl as score

pub scores_Decides : (a b : Score) → Decides ((score.ghosts).eq a b) (a ≡ b)
scores_Decides (Sets s) (Sets t) = grind (arith, set_lists s t)
scores_Decides a b = grind (arith, ints, signed_Decides)

pub key_Decides : (a b : Key) → Decides ((key.ghosts).eq a b) (a ≡ b)
key_Decides a b = grind (arith, scores_Decides a.score b.score, unsigned_Decides, booleans_Decides)
