use Rattle.pref_script.proofs.Common.{is_some, rules, is_semicolon, piece_said}
use borrow.Author.Tests.{tests}
use Rattle.std.proofs.lemmas.Iterator.Search.{all_from_yields_List}
use Rattle.std.proofs.lemmas.Iterator.Splits.{YieldsList-from_slice_split}
use Rattle.pref_script.proofs.pieces.are_changes.Goals as goal

pub returns : goal.returns
returns c =
    all_from_yields_List (λ piece. is_some (piece_said piece)) _ _ _ c.all.ensures.ran
    (YieldsList-from_slice_split _ is_semicolon c.args.text.now c.split.ensures.rest c.split.ensures.done c.split.ensures.closure (λ x b q k. search (rules, tests)))
    (λ x b q k. search (rules, tests))
