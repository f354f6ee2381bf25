-- Lines that are read ahead.
use Rattle.pref_script.proofs.Common.{◌≡◌, ◌∙◌, ℕ, ◌+◌, ◌-◌, ◌<◌, ◌≤◌, true, List, [], ◌∷◌, ◌++◌, length, take, drop, get_or, ap, refl, sym, subst, arith, append_assoc, cases_lt, eq-eqb, eqb-true, ◌==◌, inl, inr, Option}
use Rattle.pref_script.proofs.Common.{Some, None, ◌⊎◌, Consumes-nil, Consumes-trans, append-nil, drop-append-le, drop_all, get_or-drop, get_or-take, get_or_append_left}
use Rattle.pref_script.proofs.Common.{length-append, length-drop, length-take, take-append-le, take_all, take-add, IsFirstByte, is_byte, EndsWithLine, IsLineAt}
use Rattle.pref_script.proofs.Common.{IsLittle, IsLong, IsWhole, NoLineFeed, ReadBehind, ReadOnce, ReadSome, between, is_at_end, unread, raw_lines, ReadAhead}
use Rattle.pref_script.proofs.ScriptLaws.{lines_at, lines_last, lines_none}

-- something was read, and then something more
pub behind_more : (a b c : Option (List ℕ)) (x y z : ReadAhead) → ReadBehind a b x y → ReadBehind b c y z → ReadBehind a c x z
behind_more a b c x y z first next = grind (arith, append_assoc)

-- a text up to its first line feed is a whole line
line_first : (text : List ℕ) (place : ℕ) → IsFirstByte (is_byte 10) text (Some place) → IsWhole (take (place + 1) text)
line_first text place found = λ more. grind (arith, lines_at (take (place + 1) text ++ more) place, length-take, get_or_append_left, get_or-take, take-append-le, take_all, drop-append-le, drop_all)

-- the line that a line feed ends
whole_at : (a : ReadAhead) (from place : ℕ) → IsFirstByte (is_byte 10) (drop from (unread a)) (Some place) → IsLineAt from (from + place + 1) a
whole_at a from place found = grind (arith, line_first (drop from (unread a)) place found)

-- ---- line feeds

-- a byte behind a place, from there
at_place : (text : List ℕ) (from place : ℕ) → from ≤ place → get_or (drop from text) (place - from) 0 ≡ get_or text place 0
at_place text from place low = grind (arith, get_or-drop)

-- a search that met no line feed
pub none_met : (text : List ℕ) (from : ℕ) → IsFirstByte (is_byte 10) (drop from text) None → NoLineFeed from (length text) text
none_met text from none = λ place low high at. none (place - from) (omega arith) (omega (arith, length-drop from text)) (eq-eqb _ 10 (at_place text from place low ∙ at))

-- none up to a place, and none from there on
pub none_on : (from seen : ℕ) (text : List ℕ) → NoLineFeed from seen text → IsFirstByte (is_byte 10) (drop seen text) None → NoLineFeed from (length text) text
none_on from seen text before after = λ place low high at. elim (cases_lt place seen) [ inl left ↦ before place low left at | inr right ↦ none_met text seen after place right high at ]

-- none up to a place, and the first one from there on
first_on : (text : List ℕ) (from seen place : ℕ) → from ≤ seen → NoLineFeed from seen text → IsFirstByte (is_byte 10) (drop seen text) (Some place) → IsFirstByte (is_byte 10) (drop from text) (Some (seen - from + place))
first_on text from seen place later before found =
    let none : NoLineFeed from (seen + place) text = λ k low high at. elim (cases_lt k seen) [
      | inl left ↦ before k low left at
      | inr right ↦ found.0.before (k - seen) (omega arith) (omega (arith, high, right)) (eq-eqb _ 10 (at_place text seen k right ∙ at))
    ] in
    let same : get_or (drop from text) (seen - from + place) 0 ≡ get_or (drop seen text) place 0 = get_or-drop from text (seen - from + place) 0 ∙ ap (λ (k : ℕ). get_or text k 0) (omega (arith, later)) ∙ sym (get_or-drop seen text place 0) in (
      record {
        low = omega arith;
        high = omega (arith, found.0.high, later, length-drop from text, length-drop seen text);
        before = λ k low high is. none (from + k) (omega arith) (omega (arith, high, later)) (sym (get_or-drop from text k 0) ∙ eqb-true _ 10 is);
      },
      ap (λ (byte : ℕ). byte == 10) same ∙ found.1,
    )

-- none up to the end
first_none : (text : List ℕ) (from : ℕ) → NoLineFeed from (length text) text → IsFirstByte (is_byte 10) (drop from text) None
first_none text from none = λ k low high is. none (from + k) (omega arith) (omega (arith, high, length-drop from text)) (sym (get_or-drop from text k 0) ∙ eqb-true _ 10 is)

-- none in a text with others behind it
pub none_in_front : (from end : ℕ) (text more : List ℕ) → NoLineFeed from end text → end ≤ length text → NoLineFeed from end (text ++ more)
none_in_front from end text more none inside = λ place low high at. none place low high (sym (get_or_append_left text more 0 place (omega arith)) ∙ at)

-- none in what is left behind a place
pub none_behind : (from end : ℕ) (text : List ℕ) → NoLineFeed from end text → NoLineFeed 0 (end - from) (drop from text)
none_behind from end text none = λ place low high at. none (from + place) (omega arith) (omega arith) (sym (get_or-drop from text place 0) ∙ at)

-- ---- how much is there

-- a read more, where no line feed was
pub little_more : (from : ℕ) (text more : List ℕ) → NoLineFeed from (length text) text → length text ≤ 16777216 → length more ≤ 8192 → IsLittle from (text ++ more)
little_more from text more none few size = grind (arith, length-append, get_or_append_left)

-- a read more, where no line feed was
pub once_more : (a b c : Option (List ℕ)) (x y : ReadAhead) (from : ℕ) → ReadBehind a b x y → ReadOnce b c y → NoLineFeed from (length (unread y)) (unread y) → length (unread y) ≤ 16777216 → ReadSome a c from x
once_more a b c x y from first next none few =
    grind (arith, Consumes-trans a b c first.bytes next.bytes first.consumed next.consumed, append_assoc (unread x) first.bytes next.bytes, little_more from (unread y) next.bytes none few next.few)

-- the same of what is there then
pub little_behind : (a b : Option (List ℕ)) (x y : ReadAhead) (from : ℕ) → ReadBehind a b x y → NoLineFeed from (length (unread x)) (unread x) → length (unread x) ≤ 16777216 → length (unread y) ≤ length (unread x) + 8192 → IsLittle from (unread y)
little_behind a b x y from read none few more = subst (IsLittle from) (sym read.behind) (little_more from (unread x) read.bytes none few (omega (arith, ap length read.behind, length-append (unread x) read.bytes)))

-- the same from a later place on
pub little_later : (from to : ℕ) (text : List ℕ) → from ≤ to → IsLittle from text → IsLittle to text
little_later from to text later little = record { no_line = λ place low high. little.no_line place (omega arith) high; most = little.most }

-- what is left when the bytes up to that place were taken
pub little_left : (from : ℕ) (text : List ℕ) → IsLittle from text → IsLittle 0 (drop from text)
little_left from text little = grind (arith, length-drop, get_or-drop)

-- ---- a line

-- the line that a line feed ends, which was searched for behind the line's begin
pub whole_on : (a : ReadAhead) (from seen place : ℕ) → from ≤ seen → NoLineFeed from seen (unread a) → IsFirstByte (is_byte 10) (drop seen (unread a)) (Some place) → IsLineAt from (seen + place + 1) a
whole_on a from seen place later none found =
    subst (λ (end : ℕ). IsLineAt from end a) (omega (arith, later)) (whole_at a from (seen - from + place) (first_on (unread a) from seen place later none found))

-- the same line, where it ends too far away
pub long_on : (text : List ℕ) (from seen place : ℕ) → from ≤ seen → NoLineFeed from seen text → IsFirstByte (is_byte 10) (drop seen text) (Some place) → 16777216 < seen + place + 1 → IsLong from text
long_on text from seen place later none found long = grind (arith, first_on text from seen place later none found, at_place, length-drop)

-- no line end was found, and more is there than a line has
pub long_none : (from : ℕ) (text : List ℕ) → NoLineFeed from (length text) text → 16777216 < length text → IsLong from text
long_none from text none long = (λ place low high. none place low (omega arith), long)

-- the last line, which the end of the input ends, or which would be too long if it went on
pub last_within : (a : ReadAhead) (from end : ℕ) → from ≤ length (unread a) → NoLineFeed from (length (unread a)) (unread a) → (is_at_end a ≡ true) ⊎ (16777216 < length (unread a)) → end ≡ length (unread a) → end ≤ 16777216 → IsLineAt from end a
last_within a from end inside none (inl ended) is most = grind (arith, take_all, length-drop, lines_none, lines_last (drop from (unread a)), first_none (unread a) from none)
last_within a from end inside none (inr long) is most = absurd (omega (arith, long, is, most))

-- a whole line is one line
pub one_line : (line : List ℕ) → IsWhole line → raw_lines line ≡ line ∷ []
one_line line whole = ap raw_lines (sym (append-nil line)) ∙ whole [] ∙ ap (λ (t : List (List ℕ)). line ∷ t) lines_none

-- two texts that end with a line, one after the other
pub ends_more : (a b : List ℕ) → EndsWithLine a → EndsWithLine b → EndsWithLine (a ++ b)
ends_more a b first next = grind (arith, append_assoc)

-- a text up to a place
pub front_is : (end : ℕ) (text : List ℕ) → between 0 end text ≡ take end text
front_is end text = grind arith

-- what was read before stands in front still
pub same_front : (a b : Option (List ℕ)) (x y : ReadAhead) (end : ℕ) → ReadBehind a b x y → end ≤ length (unread x) → take end (unread y) ≡ take end (unread x)
same_front a b x y end read inside = ap (take end) read.behind ∙ take-append-le end (unread x) read.bytes inside

-- a text up to a place and on to another
pub front_more : (stop end : ℕ) (text : List ℕ) → stop ≤ end → take end text ≡ take stop text ++ between stop end text
front_more stop end text inside = grind (arith, take-add stop (end - stop) text)

-- what stands at a line: one line, which is whole or the last
pub line_at : (a : ReadAhead) (from end : ℕ) → IsLineAt from end a → from < end → (raw_lines (between from end (unread a)) ≡ between from end (unread a) ∷ []) × (EndsWithLine (between from end (unread a)) ⊎ (is_at_end a ≡ true) × (end ≡ length (unread a)))
line_at a from end at inside = grind (arith, one_line)

-- what was read behind what was there
pub some_behind : (a b : Option (List ℕ)) (x y : ReadAhead) (from : ℕ) → ReadBehind a b x y → (IsLittle from (unread x) → IsLittle from (unread y)) → ReadSome a b from x
some_behind a b x y from read little =
    record { bytes = read.bytes; consumed = read.consumed; no_more = λ e. ((read.no_more e).0, λ end. read.at_end (λ _. end) (read.no_more e).1); little = λ few. subst (IsLittle from) read.behind (little few) }

-- nothing was read
pub some_none : (a : Option (List ℕ)) (x : ReadAhead) (from : ℕ) → ReadSome a a from x
some_none a x from = record { bytes = []; consumed = Consumes-nil a; no_more = λ e. (refl, λ end. end); little = λ few. subst (IsLittle from) (sym (append-nil (unread x))) few }
