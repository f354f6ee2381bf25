-- The changes of a commit line, one piece at a time.
use Rattle.pref_script.proofs.Common.{◌≡◌, ◌∙◌, ℕ, ◌+◌, ◌<◌, ◌≤◌, true, List, [], ◌∷◌, ◌++◌, length, take, drop, get_or, set, sym, ap, refl, arith, inl, inr, Ok, Err, Bool, cond}
use Rattle.pref_script.proofs.Common.{Option, Some, None, is_some, list_all, cases_lt, length-drop, length-set, length-take, length-take-le, length_push, take-append-le}
use Rattle.pref_script.proofs.Common.{take_all, take_more_set, all_from, change_of, commit_said, of_changes, piece_change, are_changes, piece_said, pieces_of, Reads, first_refusal, pieces_left}
use Rattle.std.proofs.lemmas.Bool.{cases_Bool}
use Rattle.pref_core.specs.Changes.{commit_of}
use Rattle.pref_core.specs.declared.changes.Change.{Change}
use Rattle.pref_table.proofs.NumberedFacts.{all_from-all, all_from-fails_at, all_from-more, all_from-none}
use Rattle.pref_script.proofs.SplitLaws.{drop_here}
use Rattle.pref_script.specs.Pieces.{ChangeSaid}
use Rattle.pref_script.specs.declared.command.Refusal.TheVariants.{NotCommand}
use Rattle.pref_script.specs.declared.command.Stop.{Stop}
use Rattle.pref_script.specs.declared.command.Stop.TheVariants.{Refused as StopRefused}

-- nine changes are too many already, whatever follows them
pub commit_of-first : (all : List Change) → commit_of (take 9 all) ≡ commit_of all
commit_of-first all = elim (cases_lt (length all) 10) [ inl few ↦ ap commit_of (take_all 9 all (omega arith)) | inr many ↦ grind (arith, many, length-take-le 9 all) ]

-- So many pieces were read, and of their changes the first nine are kept.
pub record KeepsFirst (names : List (List ℕ)) (pieces : List (List ℕ)) (place : ℕ) (kept : List Change) (count : ℕ) : Type 0 where
  pub all : List Change
  pub read : all_from (λ _ piece. piece_change names (piece_said piece)) 1 (take place pieces) ≡ Ok all
  pub size : length kept ≡ 9
  pub few : count ≤ 9
  pub first : take count kept ≡ take 9 all

-- as many are kept as were counted
kept_count : (names pieces : List (List ℕ)) (place : ℕ) (kept : List Change) (count : ℕ) (h : KeepsFirst names pieces place kept count) → length (take 9 h.all) ≡ count
kept_count names pieces place kept count h = ap length (sym h.first) ∙ length-take-le count kept (omega (arith, h.size, h.few))

-- a change that is kept, and one past the ninth
pub keeps_one : (names pieces : List (List ℕ)) (place : ℕ) (kept : List Change) (count : ℕ) (piece : List ℕ) (change : Change) → KeepsFirst names pieces place kept count
    → (place < length pieces) × (piece ≡ get_or pieces place piece) → count < 9 → piece_change names (piece_said piece) ≡ Ok change → KeepsFirst names pieces (place + 1) (set kept count change) (count + 1)
keeps_one names pieces place kept count piece change h turn room is = record {
  all = h.all ++ change ∷ [];
  read = all_from-more _ 1 pieces h.all place piece change turn.0 h.read (ap (λ (p : List ℕ). piece_change names (piece_said p)) (sym turn.1) ∙ is);
  size = length-set kept count change ∙ h.size;
  few = omega arith;
  first = grind (arith, take_more_set kept count change, h.first, h.size, take_all 9 h.all, take_all 9 (h.all ++ change ∷ []), length_push h.all change, length-take 9 h.all, kept_count names pieces place kept count h);
}

pub keeps_past : (names pieces : List (List ℕ)) (place : ℕ) (kept : List Change) (count : ℕ) (piece : List ℕ) (change : Change) → KeepsFirst names pieces place kept count
    → (place < length pieces) × (piece ≡ get_or pieces place piece) → (count < 9 → ⊥) → piece_change names (piece_said piece) ≡ Ok change → KeepsFirst names pieces (place + 1) kept count
keeps_past names pieces place kept count piece change h turn full is = record {
  all = h.all ++ change ∷ [];
  read = all_from-more _ 1 pieces h.all place piece change turn.0 h.read (ap (λ (p : List ℕ). piece_change names (piece_said p)) (sym turn.1) ∙ is);
  size = h.size;
  few = h.few;
  first = h.first ∙ sym (take-append-le 9 h.all (change ∷ []) (omega (arith, full, length-take 9 h.all, kept_count names pieces place kept count h)));
}

-- the first piece whose values are refused
pub keeps_fails : (names : List (List ℕ)) (text : List ℕ) (place : ℕ) (kept : List Change) (count : ℕ) (piece : List ℕ) (why : Stop) → are_changes text ≡ true
    → KeepsFirst names (pieces_of text) place kept count → (place < length (pieces_of text)) × (piece ≡ get_or (pieces_of text) place piece)
    → Reads {X = Change} (Err why) (piece_change names (piece_said piece)) → Reads {X = List Change} (Err why) (commit_said names text)
unfolding commit_said
keeps_fails names text place kept count piece why forms h turn is = grind (arith, all_from-fails_at)

-- whether each of these pieces has the form of a change
abbrev all_forms : List (List ℕ) → Bool
all_forms pieces = list_all (λ piece. is_some (piece_said piece)) pieces

-- Some pieces of a text were read, each has the form of a change, and these are left.
pub record ReadsPieces (names : List (List ℕ)) (text : List ℕ) (left : Option (List ℕ)) (kept : List Change) (count : ℕ) : Type 0 where
  pub place : ℕ
  pub rest : drop place (pieces_of text) ≡ pieces_left left
  pub forms : are_changes text ≡ all_forms (pieces_left left)
  pub keeps : KeepsFirst names (pieces_of text) place kept count

pub pieces_none : (names : List (List ℕ)) (text : List ℕ) (kept : List Change) → length kept ≡ 9 → ReadsPieces names text (Some text) kept 0
pieces_none names text kept size = record { place = 0; rest = refl; forms = refl; keeps = record { all = []; read = all_from-none _ 1; size = size; few = omega arith; first = refl } }

-- the first refusal, by the forms of the pieces that follow
refusal-by_forms : (why : Stop) (rest : Option (List ℕ)) → first_refusal why rest ≡ cond (all_forms (pieces_left rest)) why (StopRefused NotCommand)
refusal-by_forms why rest = grind (arith)

-- the next piece, which says a change: its place, and the forms of those after it
module _ (names : List (List ℕ)) (text now : List ℕ) (kept : List Change) (count : ℕ) (piece : List ℕ) (what : ChangeSaid) (rest : Option (List ℕ))
    (reads : ReadsPieces names text (Some now) kept count) (cut : pieces_of now ≡ piece ∷ pieces_left rest) (says : Some what ≡ piece_said piece) where
  turn : (reads.place < length (pieces_of text)) × (piece ≡ get_or (pieces_of text) reads.place piece) × (drop (reads.place + 1) (pieces_of text) ≡ pieces_left rest)
  turn = grind (arith, drop_here (pieces_of text) reads.place piece piece (pieces_left rest) (reads.rest ∙ cut))

  forms_left : are_changes text ≡ all_forms (pieces_left rest)
  forms_left = reads.forms ∙ ap all_forms cut ∙ rw (← says) refl

  -- its values are refused
  pub pieces_refused : (why : Stop) → Reads {X = Change} (Err why) (change_of names what) → Reads {X = List Change} (Err (first_refusal why rest)) (commit_said names text)
  unfolding commit_said
  pieces_refused why is = elim (cases_Bool (all_forms (pieces_left rest))) [ inl h ↦ rw (refusal-by_forms why rest, h) (keeps_fails names text reads.place kept count piece why (forms_left ∙ h) reads.keeps (turn.0, turn.1) (rw (← says) is)) | inr h ↦ grind (arith, refusal-by_forms why rest, h, forms_left) ]

  -- it is read, and kept or not
  pub pieces_kept : (change : Change) → count < 9 → change_of names what ≡ Ok change → ReadsPieces names text rest (set kept count change) (count + 1)
  pieces_kept change room is = grind (arith, turn, keeps_one)

  pub pieces_past : (change : Change) → (count < 9 → ⊥) → change_of names what ≡ Ok change → ReadsPieces names text rest kept count
  pieces_past change full is = record {
    place = reads.place + 1;
    rest = turn.2;
    forms = forms_left;
    keeps = keeps_past names (pieces_of text) reads.place kept count piece change reads.keeps (turn.0, turn.1) full (rw (← says) is);
  }

-- no piece is left
pub pieces_all : (names : List (List ℕ)) (text : List ℕ) (kept : List Change) (count : ℕ) → ReadsPieces names text None kept count → commit_said names text ≡ of_changes (commit_of (take count kept))
unfolding commit_said
pieces_all names text kept count reads = grind (arith, all_from-all (λ _ part. piece_change names (piece_said part)) 1 (pieces_of text) reads.keeps.all reads.place, reads.keeps.read, reads.keeps.first, reads.rest, reads.forms, commit_of-first reads.keeps.all, length-drop reads.place (pieces_of text))
