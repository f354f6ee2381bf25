use Rattle.pref_term.proofs.Common.{sym, ◌∙◌, option_or, base_words, letters_of, outer_words}
use Rattle.std.proofs.Common.{bytes_eq}
use Rattle.std.proofs.lemmas.List.Folds.{find-append}
use Rattle.pref_term.proofs.token.word_of_grammar.Goals as goal

pub returns : goal.returns
returns c =
    c.or.ensures ∙ ((λ i. option_or (c.outer_word.ensures i) (c.base_word.ensures i)) ∙ sym (find-append (λ k. bytes_eq (letters_of k) c.args.letters.now) outer_words base_words))
