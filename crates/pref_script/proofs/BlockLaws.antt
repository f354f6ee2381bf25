-- The table block, line by line.
use Rattle.pref_script.proofs.Common.{◌≡◌, ◌∙◌, ℕ, zero, suc, ◌+◌, ◌-◌, ◌<◌, ◌≤◌, true, false, List, [], ◌∷◌, ◌++◌, length, take, drop, get_or, ap, refl, sym, subst, arith, append_assoc, Option, Ok}
use Rattle.pref_script.proofs.Common.{Err, inl, inr, ◌⊎◌, append-nil, drop_all, get_or_append_left, length-append, length-drop, length-take, take-append-drop}
use Rattle.pref_script.proofs.Common.{take-append-le, take_all, take_at, fails_before_first, passes_at_first, position_or_len_is, get_or-append_seam, true≢false, is_byte, Consumes-trans, Consumes, concat}
use Rattle.pref_script.proofs.Common.{position_or_len, HearsNone, IsBlock, LacksBlock, ReadsBlock, EndsWithLine, HeardNone, IsTooLong, IsLineAt, IsLittle, IsLong, LineFault, NoLineFeed, ReadBehind}
use Rattle.pref_script.proofs.Common.{ReadSome, between, is_at_end, unread, Source, block_lines, is_end_line, is_table_line, sections_of, raw_lines, RunFault, ReadAhead}
use Rattle.pref_script.proofs.LineLaws.{behind_more, ends_more, front_is, front_more, line_at, little_left, none_behind, none_in_front, same_front}
use Rattle.pref_script.proofs.ScriptLaws.{concat-push, lines_at, lines_last, lines_none, script-none}
use Rattle.pref_script.specs.declared.fault.RunFault.TheVariants as fault

-- a text is the line `table`, and lines that are no line `end`
pub record BlockLines (text : List ℕ) : Type 0 where
  pub first : List ℕ
  pub rest : List (List ℕ)
  pub lines : raw_lines text ≡ first ∷ rest
  pub is_first : is_table_line first ≡ true
  pub others : (k : ℕ) → k < length rest → is_end_line (get_or rest k []) ≡ false
  pub text_is : text ≡ first ++ concat rest

block_more : (text line : List ℕ) → BlockLines text → EndsWithLine text → raw_lines line ≡ line ∷ [] → is_end_line line ≡ false → BlockLines (text ++ line)
block_more text line block ends one other = record {
  first = block.first;
  rest = block.rest ++ line ∷ [];
  lines = grind (arith, ends line, block.lines, one);
  is_first = block.is_first;
  others = λ k h. grind (arith, h, length-append block.rest (line ∷ []), get_or_append_left block.rest (line ∷ []) [] k, block.others k, get_or-append_seam block.rest line [] []);
  text_is = grind (arith, block.text_is, append_assoc block.first (concat block.rest) line, concat-push block.rest line);
}

-- the sections of a block, whose line `end` comes now
block_found : (text line : List ℕ) (block : BlockLines text) → EndsWithLine text → raw_lines line ≡ line ∷ [] → is_end_line line ≡ true
    → sections_of (raw_lines (text ++ line)) ≡ Ok (record { table = concat block.rest; commands = []; first = length block.rest + 3 })
block_found text line block ends one is_last =
    let rest = block.rest ++ line ∷ [] in
    let place = position_or_len_is is_end_line rest (length block.rest) [] (omega (arith, length-append block.rest (line ∷ []))) (λ k h. grind (arith, get_or_append_left block.rest (line ∷ []) [] k h, block.others k h)) (λ h. grind (arith, get_or-append_seam block.rest line [] [])) in
    grind (arith, ends line, block.lines, block.is_first, one, length-append block.rest (line ∷ []), place, take-append-le (length block.rest) block.rest (line ∷ []), take_all (length block.rest) block.rest, drop_all)

-- a text without a line `end`
block_none : (text : List ℕ) → BlockLines text → sections_of (raw_lines text) ≡ Err fault.NoEnd
block_none text block = grind (arith, position_or_len_is is_end_line block.rest (length block.rest) [] (omega arith) block.others (λ h. absurd (omega (arith, h))))

-- a text without a line `table`
no_table : (text line : List ℕ) (more : List (List ℕ)) → raw_lines text ≡ line ∷ more → is_table_line line ≡ false → sections_of (raw_lines text) ≡ Err fault.NoTable
no_table text line more first other = ap sections_of first ∙ rw other refl

-- up to a place of what was read stands the beginning of a table block
pub record BlockAt (ahead : ReadAhead) (stop : ℕ) : Type 0 where
  pub inside : stop ≤ length (unread ahead)
  pub most : stop ≤ 16777216
  pub block : BlockLines (take stop (unread ahead))
  pub lines : EndsWithLine (take stop (unread ahead)) ⊎ (is_at_end ahead ≡ true) × (stop ≡ length (unread ahead))

-- the line `table` is not empty
table_some : (start : ℕ) (text : List ℕ) → is_table_line (take start text) ≡ true → 0 < start
table_some zero text is = absurd (true≢false (sym is))
table_some (suc start) text is = omega arith

pub block_open : (ahead : ReadAhead) (start : ℕ) → start ≤ length (unread ahead) → start ≤ 16777216 → IsLineAt 0 start ahead → is_table_line (take start (unread ahead)) ≡ true → BlockAt ahead start
block_open ahead start inside most line is = grind (arith, line_at ahead 0 start line (table_some start (unread ahead) is), append-nil, length-take start (unread ahead))

-- the input has no line `table`
pub table_missing : (ahead : ReadAhead) (start : ℕ) → start ≤ length (unread ahead) → IsLineAt 0 start ahead → is_table_line (take start (unread ahead)) ≡ false → LacksBlock ahead fault.NoTable
table_missing ahead start inside (inl (some, whole)) other =
    inl (λ more. grind (arith, take-append-drop start (unread ahead), append_assoc (take start (unread ahead)) (drop start (unread ahead)) more, whole (drop start (unread ahead) ++ more), front_is start (unread ahead)))
table_missing ahead start inside (inr (ended, all, last)) other = grind (arith, take_all, script-none)

-- A beginning of a table block stands there, and more was read behind it.
module _ (had left : Option (List ℕ)) (old new : ReadAhead) (stop : ℕ) (so_far : BlockAt old stop) (read : ReadBehind had left old new) where
  block_still : BlockLines (take stop (unread new))
  block_still = subst BlockLines (sym (same_front had left old new stop read so_far.inside)) so_far.block

  -- before a line more the text ends with a line
  ends_before : (end : ℕ) → stop < end → end ≤ length (unread new) → EndsWithLine (take stop (unread new))
  ends_before end some inside = grind (arith, same_front had left old new stop read so_far.inside, length-append (unread old) read.bytes)

  -- the text with the line, and how it ends
  with_line : (end : ℕ) → IsLineAt stop end new → stop < end → end ≤ length (unread new)
      → (take stop (unread new) ++ between stop end (unread new) ≡ take end (unread new)) × (EndsWithLine (take end (unread new)) ⊎ (is_at_end new ≡ true) × (end ≡ length (unread new)))
  with_line end line some inside =
      let all = front_more stop end (unread new) (omega (arith, some)) in
      (sym all, elim ((line_at new stop end line some).1) [ inl ends ↦ inl (subst EndsWithLine (sym all) (ends_more (take stop (unread new)) (between stop end (unread new)) (ends_before end some inside) ends)) | inr last ↦ inr last ])

  pub block_next : (end : ℕ) → IsLineAt stop end new → stop < end → end ≤ length (unread new) → end ≤ 16777216 → is_end_line (between stop end (unread new)) ≡ false → BlockAt new end
  block_next end line some inside most other =
      let (all, lines) = with_line end line some inside in
      let more = block_more (take stop (unread new)) (between stop end (unread new)) block_still (ends_before end some inside) (line_at new stop end line some).0 other in
      record { inside = inside; most = most; block = subst BlockLines all more; lines = lines }

  -- the line `end` is met
  pub block_end : (end : ℕ) → IsLineAt stop end new → stop < end → end ≤ length (unread new) → end ≤ 16777216 → is_end_line (between stop end (unread new)) ≡ true → (table : List ℕ) × (first : ℕ) × IsBlock end table first new
  block_end end line some inside most is_last =
      let (all, lines) = with_line end line some inside in
      let cut = block_found (take stop (unread new)) (between stop end (unread new)) block_still (ends_before end some inside) (line_at new stop end line some).0 is_last in
      (concat block_still.rest, length block_still.rest + 3, record { inside = inside; few = most; cut = rw all at cut; lines = lines })

  -- the input ends before a line `end`
  pub end_missing : IsLineAt stop stop new → LacksBlock new fault.NoEnd
  end_missing (inl (some, whole)) = absurd (omega arith)
  end_missing (inr (ended, all, last)) = inr (ended, block_none (unread new) (subst BlockLines (take_all stop (unread new) (omega (arith, all))) block_still))

-- ---- lines that are too long

-- the first line of a text is longer than this
long_first : (size : ℕ) (text : List ℕ) → NoLineFeed 0 size text → size < length text → (line : List ℕ) × (rest : List (List ℕ)) × (raw_lines text ≡ line ∷ rest) × (size < length line)
long_first size text none more = grind (arith, passes_at_first, fails_before_first, lines_at, length-take ((position_or_len (is_byte 10) text) + 1) text, lines_last)

-- the line that stands behind a place, whatever follows
long_rest : (stop : ℕ) (text more : List ℕ) → IsLong stop text → stop ≤ 16777216 → (line : List ℕ) × (rest : List (List ℕ)) × (raw_lines (drop stop text ++ more) ≡ line ∷ rest) × (16777216 - stop < length line)
long_rest stop text more (none, long) inside =
    let size = length-drop stop text in
    long_first (16777216 - stop) (drop stop text ++ more) (none_in_front 0 (16777216 - stop) (drop stop text) more (none_behind stop 16777216 text none) (omega (arith, long, size))) (omega (arith, long, inside, size, length-append (drop stop text) more))

-- a long line among others
pub long_among : (text : List ℕ) (before rest : List (List ℕ)) (line : List ℕ) → raw_lines text ≡ before ++ line ∷ rest → 16777216 < length line → IsTooLong text
long_among text before rest line is long = grind (arith, length-append before (line ∷ rest), get_or-append_seam before line rest line)

-- the first line is too long, whatever follows
pub first_too_long : (text more : List ℕ) → IsLong 0 text → (line : List ℕ) × (rest : List (List ℕ)) × (raw_lines (text ++ more) ≡ line ∷ rest) × (16777216 < length line)
first_too_long text more long = long_rest 0 text more long (omega arith)

-- more of some lists are together no shorter
concat_longer : (m n : ℕ) (lists : List (List ℕ)) → m ≤ n → length (concat (take m lists)) ≤ length (concat (take n lists))
concat_longer zero n lists h = omega arith
concat_longer (suc m) (suc n) (list ∷ lists) h = grind (arith, concat_longer m n lists, length-append list (concat (take m lists)), length-append list (concat (take n lists)))
concat_longer m n lists h = grind (arith)

-- a table block with this line is as long as the lines so far are together
long_block : (first : List ℕ) (rest more : List (List ℕ)) (line : List ℕ) → is_table_line first ≡ true → ((k : ℕ) → k < length rest → is_end_line (get_or rest k []) ≡ false)
    → length first + length (concat rest) + length line ≤ length (concat (block_lines (first ∷ (rest ++ line ∷ more))))
long_block first rest more line is others =
    let all = rest ++ line ∷ more in
    let place = position_or_len is_end_line all in
    grind (arith, is, others place, length-append first (concat (take (place + 1) all)), length-append rest (line ∷ more), length-append rest (line ∷ []), length-append (concat rest) line, get_or_append_left rest (line ∷ more) [] place, passes_at_first is_end_line all [], append_assoc rest (line ∷ []) more, take_at (rest ++ line ∷ []) more (length rest + 1), concat_longer (length rest + 1) (place + 1) all, concat-push rest line)

-- a line of the table block ends too far away
block_too_long : (had left : Option (List ℕ)) (old new : ReadAhead) (stop : ℕ) → BlockAt old stop → ReadBehind had left old new → IsLong stop (unread new) → (more : List ℕ) → IsTooLong (unread new ++ more)
block_too_long had left old new stop so_far read long more =
    let ends = ends_before had left old new stop so_far read (length (unread new)) (omega (arith, so_far.most, long.1)) (omega arith) in
    let block = block_still had left old new stop so_far read in
    let (line, rest, cut, size) = long_rest stop (unread new) more long so_far.most in
    let lines : raw_lines (unread new ++ more) ≡ block.first ∷ (block.rest ++ line ∷ rest) = grind (arith, take-append-drop stop (unread new), append_assoc (take stop (unread new)) (drop stop (unread new)) more, ends (drop stop (unread new) ++ more), block.lines, cut) in
    inl (rw lines (omega (arith, size, so_far.most, long.1, length-take stop (unread new), ap length block.text_is, length-append block.first (concat block.rest), long_block block.first block.rest rest line block.is_first block.others)))

-- ---- no line of the block was read

-- the lines of a table block so far are all of its block
block_lines_so_far : (text : List ℕ) → BlockLines text → block_lines (raw_lines text) ≡ raw_lines text
block_lines_so_far text block = grind (arith, position_or_len_is is_end_line block.rest (length block.rest) [] (omega arith) block.others (λ h. absurd (omega (arith, h))), take_all (length block.rest + 1) block.rest)

pub lines_so_far : (had left : Option (List ℕ)) (old new : ReadAhead) (stop : ℕ) → BlockAt old stop → ReadBehind had left old new → block_lines (raw_lines (take stop (unread new))) ≡ raw_lines (take stop (unread new))
lines_so_far had left old new stop so_far read = block_lines_so_far (take stop (unread new)) (block_still had left old new stop so_far read)

-- what was read is all that stands there
pub all_read : (had left : Option (List ℕ)) (old new : ReadAhead) → unread old ≡ [] → ReadBehind had left old new → Consumes had left (unread new)
all_read had left old new none read = subst (Consumes had left) (sym (read.behind ∙ ap (λ (t : List ℕ). t ++ read.bytes) none)) read.consumed

-- little is there where nothing is
pub little_at_first : (old : ReadAhead) → unread old ≡ [] → IsLittle 0 (unread old)
little_at_first old none = subst (IsLittle 0) (sym none) (record { no_line = λ place low high. absurd (omega (arith, high)); most = omega arith })

-- what was read is lines of a table block up to a place, and little behind it
pub heard_none : (source : Source) (text : List ℕ) (stop : ℕ) → Consumes source.had source.left text → block_lines (raw_lines (take stop text)) ≡ raw_lines (take stop text) → IsLittle stop text → HeardNone source
heard_none source text stop consumed lines little = grind (arith, take-append-drop stop text, little_left stop text little)

no_lines : (text : List ℕ) → block_lines (raw_lines (take 0 text)) ≡ raw_lines (take 0 text)
no_lines text = ap block_lines lines_none ∙ sym lines_none

-- lines of the block were read up to a place
pub hears_lines : (source : Source) (old new : ReadAhead) (stop : ℕ) → ReadBehind source.had source.left old new → (IsLittle 0 (unread old) → IsLittle stop (unread new)) → block_lines (raw_lines (take stop (unread new))) ≡ raw_lines (take stop (unread new))
    → HearsNone source old
hears_lines source old new stop read little lines none = heard_none source (unread new) stop (all_read source.had source.left old new none read) lines (little (little_at_first old none))

-- the first line was read, and it is not `table`
pub hears_first : (source : Source) (old new : ReadAhead) → ReadBehind source.had source.left old new → (IsLittle 0 (unread old) → IsLittle 0 (unread new)) → HearsNone source old
hears_first source old new read little = hears_lines source old new 0 read little (no_lines (unread new))

-- the next line was not read
hears_no_more : (source : Source) (mid : Option (List ℕ)) (old now : ReadAhead) (stop : ℕ) → ReadBehind source.had mid old now → (IsLittle 0 (unread old) → IsLittle stop (unread now)) → BlockAt now stop → ReadSome mid source.left stop now
    → HearsNone source old
hears_no_more source mid old now stop first little so_far next none =
    let consumed = Consumes-trans source.had mid source.left (unread now) next.bytes (all_read source.had mid old now none first) next.consumed in
    grind (arith, consumed, take-append-le stop (unread now) next.bytes so_far.inside, heard_none, block_lines_so_far (take stop (unread now)) so_far.block, little_at_first old none)

-- a line was not read
line_missing : (source : Source) (mid : Option (List ℕ)) (old now new : ReadAhead) (stop : ℕ) (why : RunFault) → LineFault (record { had = mid; left = source.left; failed = source.failed }) stop now new why → HearsNone source old
    → (ReadBehind mid source.left now new → IsLong stop (unread new) → ReadBehind source.had source.left old new × ((more : List ℕ) → IsTooLong (unread new ++ more))) → ReadsBlock source old new (Err why)
line_missing source mid old now new stop why never none over = grind (arith)

-- the line `table` was not read
pub first_missing : (source : Source) (old new : ReadAhead) (why : RunFault) → LineFault source 0 old new why → ReadSome source.had source.left 0 old → ReadsBlock source old new (Err why)
first_missing source old new why is some =
    line_missing source source.had old old new 0 why is none (λ read long. (read, λ more. let (line, rest, cut, size) = first_too_long (unread new) more long in long_among (unread new ++ more) [] rest line cut size))
  where
    none : HearsNone source old
    none empty = heard_none source some.bytes 0 some.consumed (no_lines some.bytes) (grind (arith, some.little (little_at_first old empty), empty))

-- a line behind it was not read
pub next_missing : (source : Source) (mid : Option (List ℕ)) (old now new : ReadAhead) (stop : ℕ) (why : RunFault) → ReadBehind source.had mid old now → (IsLittle 0 (unread old) → IsLittle stop (unread now)) → BlockAt now stop
    → LineFault (record { had = mid; left = source.left; failed = source.failed }) stop now new why → ReadSome mid source.left stop now → ReadsBlock source old new (Err why)
next_missing source mid old now new stop why first little so_far is some =
    line_missing source mid old now new stop why is (hears_no_more source mid old now stop first little so_far some)
    (λ read long. (behind_more source.had mid source.left old now new first read, block_too_long mid source.left now new stop so_far read long))
