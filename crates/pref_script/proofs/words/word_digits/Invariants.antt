use Rattle.pref_script.proofs.Common.{◌≡◌, ◌≤◌, drop, length, take, all_ascii_digits, digits_value, word_of}
use Rattle.pref_script.proofs.words.word_digits.Given as goal

-- the bytes so far are in the word, the number is theirs, and what is left of the word is digits where all is
abbrev pub invariant-loop-place : goal.invariant-loop-place
invariant-loop-place l = record {
  inside : l.place ≤ length (word_of l.text);
  so_far : digits_value 10 (take l.place (word_of l.text)) ≡ l.number;
  digits : all_ascii_digits (drop l.place (word_of l.text)) ≡ all_ascii_digits (word_of l.text);
}
