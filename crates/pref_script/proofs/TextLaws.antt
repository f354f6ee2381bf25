-- Lines that are printed one after the other.
use Rattle.pref_script.proofs.Common.{arith, ◌≡◌, ◌∙◌, ℕ, ◌+◌, ◌<◌, ◌≤◌, List, [], ◌∷◌, ◌++◌, length, drop, get_or, refl, sym, append_assoc, append-nil, drop_more, drop_all, texts}
use Rattle.std.proofs.lemmas.Fmt.{decimal_digit}
use Rattle.std.specs.Fmt.{decimal}

-- the text of a number below ten
pub digit_text : (n : ℕ) → n < 10 → decimal n ≡ (48 + n) ∷ []
digit_text n small = decimal_digit n small

-- one text more
pub texts-more : {A : Type 0} (text : A → List ℕ) (out wrote all : List ℕ) (xs : List A) (place : ℕ) (x d : A) → place < length xs → get_or xs place d ≡ x
    → out ++ texts text (drop place xs) ≡ all → wrote ≡ out ++ text x → wrote ++ texts text (drop (place + 1) xs) ≡ all
unfolding texts
texts-more text out wrote all xs place x d inside here before now = grind (arith, drop_more, append_assoc)

-- and none more
pub texts-end : {A : Type 0} (text : A → List ℕ) (out all : List ℕ) (xs : List A) (place : ℕ) → length xs ≤ place → out ++ texts text (drop place xs) ≡ all → out ≡ all
unfolding texts
texts-end text out all xs place none before = sym (append-nil out) ∙ rw (drop_all place xs none) at before

-- the texts of some things and of others
pub texts-append : {A : Type 0} (text : A → List ℕ) (xs ys : List A) → texts text (xs ++ ys) ≡ texts text xs ++ texts text ys
unfolding texts
texts-append text [] ys = refl
texts-append text (x ∷ xs) ys = grind (arith, texts-append text xs ys, append_assoc)
