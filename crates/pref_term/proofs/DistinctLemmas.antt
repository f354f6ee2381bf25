-- What the word `distinct` of a clause leaves of a text, and what a clause behind it asks.
use Rattle.pref_term.proofs.Common.{◌≡◌, arith, ℕ, List, [], ◌∷◌, true, false, cond, Some, refl, ap, ◌∙◌, ◌≤◌, length, ◌≢◌, fold, codes, AllByRecursion}
use Rattle.pref_term.proofs.Common.{bytes_eq, str_to_ascii_lowercase, bytes_eq-Decides, Token, finish, Placed, tokens_of, seen, behind_token, CasedWord, skyline_word, of_word}
use Rattle.pref_term.proofs.Common.{cased_letters, cased, IsWritten, DimText, HeadText, PriorText, AskText, rated, skyline}
use Rattle.pref_term.proofs.Common.{ask_leaves, IsText, is_distinct_ahead, says_distinct, without_third, plain, is_word, Names, orders_of}
use Rattle.pref_term.proofs.Common.{product_of, tokens_in, tokens_on, IsGood, Spells, question, meant, start, dim_due, run, word_ahead}
use Rattle.pref_term.proofs.Common.{IsBehindDistinct, Preference, scored, pareto, Question, IsClause, IsDimension, TermFault}
use Rattle.pref_term.proofs.Common.{and_from, Bor, Lexeme, Word, ahead, taken, Result, subst, sym, Gives, Asks, AsksWhole, AsksClause}
use Rattle.pref_term.proofs.GrammarComplete.{cased_found, no_keyword}
use Rattle.pref_term.proofs.LedLemmas.{at_place, run_step}
use Rattle.pref_term.specs.declared.front.Token as code
use Rattle.std.proofs.lemmas.Bool.Decides.{nat_tests}

spelled : (k : CasedWord) (letters : List ℕ) → bytes_eq (cased_letters k) (str_to_ascii_lowercase letters) ≡ true → IsWritten (cased k letters)
spelled k letters h = (bytes_eq-Decides (cased_letters k) (str_to_ascii_lowercase letters)).0 h

-- the two words lead to a column of the clause
words_lead : (names : Names) (s o : List ℕ) (ps po : ℕ) (us : List Placed) → IsWritten (cased skyline_word s) → IsWritten (cased of_word o) → run names (word_ahead s ps (word_ahead o po us)) 0 start ≡ run names us po (dim_due s o [])
words_lead names s o ps po us ws wo = grind (arith, run_step, no_keyword, cased_found)

pub behind_distinct : (s o : List ℕ) (ps po : ℕ) (d : Placed) (us : List Placed) → bytes_eq (codes "skyline") (str_to_ascii_lowercase s) ≡ true → bytes_eq (codes "of") (str_to_ascii_lowercase o) ≡ true → is_distinct_ahead (d ∷ us) ≡ true
    → IsBehindDistinct (word_ahead s ps (word_ahead o po (d ∷ us))) us
behind_distinct s o ps po d us hs ho hd =
    let ts = word_ahead s ps (word_ahead o po (d ∷ us)) in
    let said : says_distinct ts ≡ true = and_from _ _ hs (and_from _ _ ho hd) in
    record {
      said = said;
      skyline_is = s;
      of_is = o;
      place = po;
      leads = λ names. ap (λ b. run names (cond b (word_ahead s ps (word_ahead o po us)) ts) 0 start) said ∙ words_lead names s o ps po us (spelled skyline_word s hs) (spelled of_word o ho);
    }

-- what is behind a token that is not the end
pub behind_more : (k : code.Token) (ts : List Placed) → seen k ≢ finish → behind_token k ts ≡ ts
behind_more k ts h = grind arith

-- the word is not the end
pub behind_said : (k : code.Token) (at : ℕ) (ts : List Placed) → is_distinct_ahead (record { token = seen k; place = at } ∷ behind_token k ts) ≡ true → behind_token k ts ≡ ts
behind_said k at ts h = grind arith

-- behind the word the second token decides
pub third_decides : (ts : List Placed) (w : List ℕ) (at : ℕ) (second third : Lexeme) → ts ≡ word_ahead w at (taken second) → seen second.token ≢ finish → ahead second.next ≡ taken third → bytes_eq (codes "distinct") (str_to_ascii_lowercase w) ≡ true
    → is_distinct_ahead ts ≡ is_word (seen third.token)
third_decides ts w at second third e more h is = grind (arith, at_place, behind_more)

pub not_word : (k : code.Token) → ((letters : Bor (List ℕ)) → k ≢ Word letters) → is_word (seen k) ≡ false
not_word k h = grind arith

-- ---- whole questions

pub whole_clause : (names : Names) (ts us : List Placed) (r : Result Question TermFault) → IsBehindDistinct ts us → AsksClause names true us r → AsksWhole names ts r
whole_clause names ts us r b h =
    let clause = h.asks b.skyline_is b.of_is in
    subst (λ (x : Result Question TermFault). Gives x r) (sym (ap (λ d. meant names d (run names (plain ts) 0 start)) b.said ∙ ap (meant names true) (b.leads names))) (clause.asks b.place)

pub whole_plain : (names : Names) (ts : List Placed) (r : Result Question TermFault) → says_distinct ts ≡ false → Asks names false start ts r → AsksWhole names ts r
whole_plain names ts r e h = rw e (h.asks 0)

-- ---- a clause

-- the product of MIN and MAX columns is that of a clause
clause_on : (p : Preference) (ps : List Preference) → IsClause p → AllByRecursion IsDimension ps → IsClause (fold pareto p ps)
clause_on p (scored t ∷ ps) h k = clause_on (pareto p (scored t)) ps (h, k.0) k.1
clause_on p ps h k = grind (arith)

orders_fine : (names : Names) (ds : List DimText) → AllByRecursion IsDimension (orders_of names ds)
orders_fine names [] = tt
orders_fine names (d ∷ ds) = grind (arith, orders_fine names ds)

pub product_is_clause : (names : Names) (ds : List DimText) (p : Preference) → product_of (orders_of names ds) ≡ Some p → IsClause p
product_is_clause names ds p e = grind (arith, orders_fine, clause_on)

-- ---- texts without the word

pub head_said : (head : HeadText) (r : PriorText) (group : List (List ℕ)) (ts : List Placed) → tokens_in ts ≡ tokens_on (ask_leaves (rated head r group)) → says_distinct ts ≡ false
head_said head r group ts e = grind arith

pub plain_tokens : (ts : List Placed) (tokens : List Token) → tokens_in ts ≡ tokens → says_distinct ts ≡ false → tokens_in (plain ts) ≡ tokens
plain_tokens ts tokens e f = ap (λ b. tokens_in (cond b (without_third ts) ts)) f ∙ e

-- nor does a text whose fifth token is no word
fifth_said : (ts : List Placed) (a b c d e : Token) (rest : List Token) → tokens_in ts ≡ a ∷ b ∷ c ∷ d ∷ e ∷ rest → is_word e ≡ false → says_distinct ts ≡ false
fifth_said ts a b c d e rest h ends = grind (arith, nat_tests)

-- so a text of the grammar does not
tree_said : (tree : AskText) (ts : List Placed) → tokens_in ts ≡ tokens_on (ask_leaves tree) → says_distinct ts ≡ false
tree_said (rated head r group) ts e = head_said head r group ts e
tree_said (skyline s o first []) ts e = fifth_said ts _ _ _ _ _ _ e refl
tree_said (skyline s o first (d ∷ ds)) ts e = fifth_said ts _ _ _ _ _ _ e refl

-- and it spells what its tree asks
pub tree_spells : (names : Names) (text : List ℕ) (tree : AskText) (q : Question) → IsText tree → length text ≤ 4096 → tokens_in (tokens_of text) ≡ tokens_on (ask_leaves tree) → AllByRecursion (IsGood names) (ask_leaves tree) → question names false tree ≡ Some q → Spells names text q
tree_spells names text tree q written short tokens good meaning = grind (arith, tree_said tree (tokens_of text) tokens, plain_tokens (tokens_of text) (tokens_on (ask_leaves tree)) tokens (tree_said tree (tokens_of text) tokens))
