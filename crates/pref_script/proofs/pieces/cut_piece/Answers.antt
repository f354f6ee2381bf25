use Rattle.pref_script.proofs.Common.{◌∙◌, ◌∷◌, ◌+◌, ◌-◌, ap, arith, drop, length, sym, take, length-drop, take_all, pieces_of}
use Rattle.pref_script.proofs.SplitLaws.{split_first, split_none}
use Rattle.pref_script.proofs.pieces.cut_piece.Goals as goal

pub returns-in-Some : goal.returns-in-Some
returns-in-Some c =
    let text = c.args.text.now in
    let place = c.in-Some.place in
    split_first 59 text place c.in-Some.ensures
    ∙ ap (λ t. take place text ∷ pieces_of t) (sym (take_all (length text - (place + 1)) (drop (place + 1) text) (omega (arith, length-drop (place + 1) text))))

pub returns-in-None : goal.returns-in-None
returns-in-None c = split_none 59 c.args.text.now c.in-None.ensures
