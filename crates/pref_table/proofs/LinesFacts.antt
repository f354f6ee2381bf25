-- Lines that csv reads as they are cut at their commas.
use Rattle.pref_table.proofs.Common.{◌≡◌, ◌∙◌, ℕ, zero, suc, ◌+◌, ◌-◌, ◌<◌, ◌≤◌, Bool, true, false, List, [], ◌∷◌, ◌++◌, length, take, drop, get_or, unwrap_or, ◌≢◌, Option, Some, None, Result, Ok}
use Rattle.pref_table.proofs.Common.{Err, ℤ, sym, ap, refl, arith, inl, inr, append_assoc, onto_first, slice_split, eq-eqb, eqb-true, ne_eqb, append-nil, drop_more, get_or-take}
use Rattle.pref_table.proofs.Common.{get_or_append_left, length-append, length-take, take-append-drop, take_all, drop_of_length-le, length-slice_split, Read, ends_at_end, in_field, next_record}
use Rattle.pref_table.proofs.Common.{start_field, step, default_config, is_bom, records, records_from, strip_bom, State, IsCutAtLine, IsLineBefore, IsLineEnd, IsPlainLine, header_names, rows_with}
use Rattle.pref_table.proofs.Common.{◌>>=◌, ArePlain, IsPlain, is_comma, table_of_records, TableFault}
use Rattle.memchr.specs.Find.{IsFirstByte, is_byte}
use Rattle.pref_table.proofs.RecordsFacts.{next-facts, next-shorter, records-none, records-some}
use Rattle.pref_table.proofs.TablesFacts.{table_names, table-rows}
use Rattle.csv.specs.declared.parser.State.TheVariants as st
use Rattle.csv.specs.declared.parser.Action.TheVariants as act

-- a state before a field or inside one, which takes a plain byte as it is and ends the record at a line feed or at the end of the text
record IsInRecord (s : State) : Type 0 where
  plain : (byte : ℕ) → IsPlain byte → step default_config s byte ≡ in_field default_config byte
  feed : step default_config s 10 ≡ (st.StartRecord, act.EndRecord)
  return : step default_config s 13 ≡ (st.AfterCr, act.EndRecord)
  ends : ends_at_end s ≡ true

start_field-plain : (byte : ℕ) → IsPlain byte → start_field default_config byte ≡ in_field default_config byte
start_field-plain byte (quote, _, _) = rw (ne_eqb byte 34 quote) refl

start_record-plain : (byte : ℕ) → IsPlain byte → step default_config st.StartRecord byte ≡ in_field default_config byte
start_record-plain byte (quote, return, feed) = rw (ne_eqb byte 13 return, ne_eqb byte 10 feed, ne_eqb byte 34 quote) refl

-- the fields of a line, of which the first goes on from these bytes
abbrev going_on : List ℕ → List (List ℕ) → List (List ℕ)
going_on field [] = field ∷ []
going_on field (first ∷ more) = (field ++ first) ∷ more

going_on-start : (fields : List (List ℕ)) → 0 < length fields → going_on [] fields ≡ fields
going_on-start fields some = grind (arith)

going_on-byte : (field : List ℕ) (byte : ℕ) (fields : List (List ℕ)) → going_on (field ++ byte ∷ []) fields ≡ going_on field (onto_first byte fields)
going_on-byte field byte fields = grind (arith, append_assoc)

split-some : (line : List ℕ) → 0 < length (slice_split is_comma line)
split-some line = omega (arith, length-slice_split is_comma line)

-- the end of a line ends the record at hand, and leaves this state and these bytes
abbrev Ends : List ℕ → State → List ℕ → Type 0
Ends after ended left = (s : State) → IsInRecord s → (fields : List (List ℕ)) (field : List ℕ)
    → next_record default_config s fields field after ≡ Some (fields ++ (field ∷ []), ended, left)

-- from a state with these fields and bytes, the rest of a line is read as the fields that its commas cut
abbrev ReadsOn : List ℕ → List ℕ → State → List ℕ → State → Type 0
ReadsOn line after ended left s = (fields : List (List ℕ)) (field : List ℕ)
    → next_record default_config s fields field (line ++ after) ≡ Some (fields ++ going_on field (slice_split is_comma line), ended, left)

reads-byte : (byte : ℕ) (line after : List ℕ) (ended : State) (left : List ℕ) (s : State) → IsPlain byte → step default_config s byte ≡ in_field default_config byte
    → ((s : State) → IsInRecord s → ReadsOn line after ended left s) → ReadsOn (byte ∷ line) after ended left s
unfolding next_record
reads-byte byte line after ended left s plain taken more fields field = grind (arith, going_on-start, split-some, append-nil, start_field-plain, going_on-byte, append_assoc, ne_eqb)

reads-line : (line after : List ℕ) (ended : State) (left : List ℕ) → ArePlain line → Ends after ended left → (s : State) → IsInRecord s → ReadsOn line after ended left s
reads-line [] after ended left plain ends s inside fields field = grind (arith, append-nil)
reads-line (byte ∷ line) after ended left plain ends s inside fields field =
    reads-byte byte line after ended left s (plain 0 (omega arith)) (inside.plain byte (plain 0 (omega arith)))
    (reads-line line after ended left (λ k h. plain (suc k) (omega arith)) ends) fields field

-- a line of plain bytes is one record
reads-record : (line after : List ℕ) (ended : State) (left : List ℕ) → IsPlainLine line → Ends after ended left
    → next_record default_config st.StartRecord [] [] (line ++ after) ≡ Some (slice_split is_comma line, ended, left)
reads-record [] after ended left line ends = absurd (omega (arith, line.some))
reads-record (byte ∷ rest) after ended left line ends =
    reads-byte byte rest after ended left st.StartRecord (line.plain 0 (omega arith)) (start_record-plain byte (line.plain 0 (omega arith)))
    (reads-line rest after ended left (λ k h. line.plain (suc k) (omega arith)) ends) [] []
    ∙ ap (λ (t : List (List ℕ)). Some (t, ended, left)) (going_on-start (slice_split is_comma (byte ∷ rest)) (split-some (byte ∷ rest)))

-- any number past a text's length counts all its records
records-enough : (n m : ℕ) (s : State) (xs : List ℕ) → ends_at_end s ≡ false → length xs < n → length xs < m
    → records_from default_config n s xs ≡ records_from default_config m s xs
records-enough (suc n) (suc m) s xs between a b = by (next_record default_config s [] [] xs) refl (records-enough n m)
  where
    by : (read : Option Read) → next_record default_config s [] [] xs ≡ read
        → ((s : State) (xs : List ℕ) → ends_at_end s ≡ false → length xs < n → length xs < m → records_from default_config n s xs ≡ records_from default_config m s xs)
        → records_from default_config (suc n) s xs ≡ records_from default_config (suc m) s xs
    by None e more = records-none (suc n) s xs e ∙ sym (records-none (suc m) s xs e)
    by (Some p) e more =
        let shorter = next-shorter xs s p between e in
        let after = next-facts xs s [] [] p e in
        records-some n s xs p e ∙ ap (λ (t : List (List (List ℕ))). p.0 ∷ t) (more p.1 p.2 after.0 (omega arith) (omega arith)) ∙ sym (records-some m s xs p e)
records-enough n m s xs between a b = grind (arith)

pub records-of : (n : ℕ) (xs : List ℕ) → length xs < n → records_from default_config n st.StartRecord xs ≡ records default_config xs
records-of n xs enough = records-enough n (length xs + 1) st.StartRecord xs refl enough (omega arith)

pub records-first : (xs : List ℕ) (fields : List (List ℕ)) (ended : State) (left : List ℕ) (rest : List (List (List ℕ)))
    → next_record default_config st.StartRecord [] [] xs ≡ Some (fields, ended, left) → ((n : ℕ) → length left < n → records_from default_config n ended left ≡ rest)
    → records default_config xs ≡ fields ∷ rest
records-first xs fields ended left rest e more =
    let shorter = next-shorter xs st.StartRecord (fields, ended, left) refl e in
    sym (records-of (suc (length xs)) xs (omega arith)) ∙ records-some (length xs) st.StartRecord xs (fields, ended, left) e
    ∙ ap (λ (t : List (List (List ℕ))). fields ∷ t) (more (length xs) shorter)

-- a line feed between two records changes none
records-feed : (xs : List ℕ) → records default_config (10 ∷ xs) ≡ records default_config xs
unfolding next_record records_from
records-feed xs = grind (arith, records-of (suc (suc (length xs))) (10 ∷ xs) (omega arith), records-of (suc (suc (length xs))) xs (omega arith))

-- behind a carriage return a record begins as at the start of a text
starts-after_return : (byte : ℕ) → step default_config st.AfterCr byte ≡ step default_config st.StartRecord byte
starts-after_return byte = grind (arith)

pub records-after_return : (n : ℕ) (after : List ℕ) → length after < n → records_from default_config n st.AfterCr after ≡ records default_config after
unfolding records_from next_record
records-after_return zero after enough = absurd (omega arith)
records-after_return (suc n) [] enough = records-of (suc n) [] enough
records-after_return (suc n) (byte ∷ rest) enough = rw (starts-after_return byte) (records-of (suc n) (byte ∷ rest) enough)

-- a plain line is the first record of a text that begins with it
records-line : (line after : List ℕ) → IsPlainLine line → IsLineEnd after → records default_config (line ++ after) ≡ slice_split is_comma line ∷ records default_config after
unfolding next_record
records-line line after plain (inl none) =
    rw none (records-first (line ++ []) (slice_split is_comma line) st.StartRecord [] (records default_config [])
    (reads-record line [] st.StartRecord [] plain (λ s inside fields field. rw inside.ends refl)) (λ n h. records-of n [] h))
records-line line after plain (inr (left, feed)) =
    rw feed (records-first (line ++ 10 ∷ left) (slice_split is_comma line) st.StartRecord left (records default_config (10 ∷ left))
    (reads-record line (10 ∷ left) st.StartRecord left plain (λ s inside fields field. rw inside.feed refl)) (λ n h. records-of n left h ∙ sym (records-feed left)))

records-return : (line after : List ℕ) → IsPlainLine line → IsLineEnd after → records default_config (line ++ 13 ∷ after) ≡ slice_split is_comma line ∷ records default_config after
unfolding next_record
records-return line after plain ends =
    records-first (line ++ 13 ∷ after) (slice_split is_comma line) st.AfterCr after (records default_config after)
    (reads-record line (13 ∷ after) st.AfterCr after plain (λ s inside fields field. rw inside.return refl)) (λ n h. records-after_return n after h)

records-cut : (text line after : List ℕ) → IsLineBefore text line after → IsPlainLine line → IsLineEnd after → records default_config text ≡ slice_split is_comma line ∷ records default_config after
records-cut text line after parts plain ends = grind (arith, records-line, records-return)

-- a text whose first line is plain has the records of one without a carriage return there
pub records-lines : (text line after : List ℕ) → IsLineBefore text line after → IsPlainLine line → IsLineEnd after → records default_config (line ++ after) ≡ records default_config text
records-lines text line after parts plain ends = records-line line after plain ends ∙ sym (records-cut text line after parts plain ends)

-- the line that follows a line's end, where it is plain, is the next record
pub records-next_line : (text line after : List ℕ) → IsLineEnd text → 1 ≤ length text → IsLineBefore (take (length text - 1) (drop 1 text)) line after → IsPlainLine line → IsLineEnd after
    → records default_config text ≡ slice_split is_comma line ∷ records default_config after
records-next_line text line after next some parts plain ends = grind (arith, take_all, records-feed, records-cut)

-- a line's end alone has no record
pub records-none_left : (after : List ℕ) → IsLineEnd after → length after ≤ 1 → records default_config after ≡ []
unfolding next_record records_from
records-none_left after (inl none) few = rw none refl
records-none_left after (inr ([], feed)) few = rw feed refl
records-none_left after (inr (byte ∷ more, feed)) few = absurd (omega (arith, ap length feed))

-- the table of a plain header and the lines under it
module _ (header lines : List ℕ) (plain : IsPlainLine header) (ends : IsLineEnd lines) where
  same_names : header_names (records default_config (header ++ lines)) ≡ header_names (records default_config header)
  unfolding next_record records_from
  same_names = ap header_names (records-line header lines plain ends) ∙ sym (ap header_names (rw (append-nil header) at (records-line header [] plain (inl refl))))

  pub table-no_names : (fault : TableFault) → header_names (records default_config header) ≡ Err fault → table_of_records (records default_config (header ++ lines)) ≡ Err fault
  table-no_names fault h = table_names (records default_config (header ++ lines)) fault (same_names ∙ h)

  pub table-lines : (names : List (List ℕ)) (rows : Result (List (List ℤ)) TableFault) → header_names (records default_config header) ≡ Ok names
      → rows_with (length names) [] (records default_config lines) ≡ rows → table_of_records (records default_config (header ++ lines)) ≡ (rows >>= λ rows. Ok (names, rows))
  table-lines names rows h r = grind (arith, table-rows, same_names, records-line)

-- no byte order mark begins a text that begins one without, nor what begins at a line's end
strip-front : (xs ys : List ℕ) → strip_bom (xs ++ ys) ≡ xs ++ ys → strip_bom xs ≡ xs
unfolding strip_bom
strip-front (a ∷ b ∷ c ∷ rest) ys h = by (is_bom a b c) refl h
  where
    by : (mark : Bool) → is_bom a b c ≡ mark → strip_bom (a ∷ b ∷ c ∷ rest ++ ys) ≡ a ∷ b ∷ c ∷ rest ++ ys → strip_bom (a ∷ b ∷ c ∷ rest) ≡ a ∷ b ∷ c ∷ rest
    by true e h = absurd (omega (arith, ap length (rw e at h)))
    by false e h = rw e refl
strip-front _ ys h = refl

pub strip-header : (text header after : List ℕ) → IsLineBefore text header after → strip_bom text ≡ text → strip_bom header ≡ header
strip-header text header after parts h = grind (arith, strip-front)

pub strip-line_end : (after : List ℕ) → IsLineEnd after → strip_bom after ≡ after
unfolding strip_bom
strip-line_end after ends = grind (arith)

-- a byte of a line that the text begins with
line-byte : (text line end : List ℕ) (size k : ℕ) → take size text ≡ line ++ end → k < length line → (k < size) × (get_or text k 0 ≡ get_or line k 0)
line-byte text line end size k parts inside = grind (arith, length-append line end, length-take size text, get_or-take size text k 0 (omega (arith, ap length parts, length-append line end, length-take size text)), get_or_append_left line end 0 k inside)

line-inside : (text line : List ℕ) (size : ℕ) → IsLineBefore (take size text) line [] → ((k : ℕ) → k < size → get_or text k 0 ≢ 10) → (k : ℕ) → k < length line → get_or line k 0 ≢ 10
line-inside text line size (inl parts) none k inside = let at = line-byte text line [] size k parts inside in rw at.1 at (none k at.0)
line-inside text line size (inr parts) none k inside = let at = line-byte text line (13 ∷ []) size k parts inside in rw at.1 at (none k at.0)

line-before : (text line : List ℕ) (size : ℕ) → IsLineBefore (take size text) line [] → IsLineBefore text line (drop size text)
line-before text line size parts = grind (arith, take-append-drop size text, append-nil, append_assoc)

-- a text cut at its first line feed, or at its end
pub line-cut : (text line : List ℕ) (found : Option ℕ) (size : ℕ) → IsFirstByte (is_byte 10) text found → size ≡ unwrap_or found (length text)
    → IsLineBefore (take size text) line [] → IsCutAtLine text line (drop size text)
line-cut text line None size none at parts = grind (arith, line-before text line size parts, line-inside, drop_of_length-le text)
line-cut text line (Some place) size (first, here) at parts =
    let feed : get_or text size 0 ≡ 10 = rw at (eqb-true _ 10 here) in
    record {
      parts = line-before text line size parts;
      inside = line-inside text line size parts (λ k h same. first.before k (omega arith) (omega arith) (eq-eqb _ 10 same));
      ends = inr (drop (size + 1) text, drop_more text size 0 (omega (arith, first.high)) ∙ ap (λ (b : ℕ). b ∷ drop (size + 1) text) feed);
    }
