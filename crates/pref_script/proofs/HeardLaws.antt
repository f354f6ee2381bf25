-- A script that is heard line by line.
use Rattle.pref_script.proofs.Common.{◌≡◌, ◌∙◌, ℕ, ◌+◌, ◌^◌, ◌<◌, List, [], ◌∷◌, ◌++◌, length, take, drop, ap, refl, sym, subst, arith, append_assoc, add-zero, Option, Ok, inl, inr, Appends-trans}
use Rattle.pref_script.proofs.Common.{Consumes-trans, Consumes-whole, append-nil, drop-append-le, drop_all, get_or_append_left, length-append, length-drop, take-append-drop, take-append-le}
use Rattle.pref_script.proofs.Common.{take-append-add, fails_before_first, passes_at_first, position_or_len_is, Appends, Consumes, position_or_len, IfSome, IsOk, Limits, accepted_events, commands_in}
use Rattle.pref_script.proofs.Common.{commands_of, HeardScript, Hears, EndsWithLine, IsHeard, IsTooLong, NoneLeft, RanLive, StopsEarly, StopsInLine, PrintsNext, PrintsLine, names_of, next_number}
use Rattle.pref_script.proofs.Common.{command_lines, output, script_of, IsLittle, IsLong, ReadBehind, ReadSome, unread, Sink, Source, WroteAll, WroteBeginning, Sections, is_end_line, sections_of, raw_lines}
use Rattle.pref_script.proofs.Common.{without_line_end, LiveTable, ReadAhead}
use Rattle.pref_script.proofs.BlockLaws.{first_too_long, long_among}
use Rattle.pref_script.proofs.LineLaws.{ends_more, front_is, line_at, little_later, little_left, some_none}
use Rattle.pref_script.proofs.OutputLaws.{cut_of, script-ok}

-- the sections of a script, some command lines more
pub sections_more : (lines more : List (List ℕ)) (sections : Sections) → sections_of lines ≡ Ok sections → sections_of (lines ++ more) ≡ Ok (record { table = sections.table; commands = sections.commands ++ more; first = sections.first })
sections_more lines more sections h =
    let cut = cut_of lines sections h in
    let place = position_or_len is_end_line cut.rest in
    let same = position_or_len_is is_end_line (cut.rest ++ more) place [] (omega (arith, cut.inside, length-append cut.rest more))
    (λ k before. grind (arith, cut.inside, get_or_append_left cut.rest more [] k, fails_before_first is_end_line cut.rest k [] before)) (λ there. grind (arith, get_or_append_left cut.rest more [] place cut.inside, passes_at_first is_end_line cut.rest [] cut.inside)) in
    grind (arith, cut.lines_are, cut.sections_are, cut.table, same, cut.inside, length-append cut.rest more, take-append-le place cut.rest more, drop-append-le (place + 1) cut.rest more)

-- the commands of some lines, and of one line more
pub commands_more : (names : List (List ℕ)) (number : ℕ) (lines : List (List ℕ)) (line : List ℕ) → commands_of names number (lines ++ line ∷ []) ≡ commands_of names number lines ++ commands_in names (number + length lines) (without_line_end line)
unfolding commands_of
commands_more names number [] line = append-nil (commands_in names number (without_line_end line)) ∙ ap (λ (n : ℕ). commands_in names n (without_line_end line)) (sym (add-zero number))
commands_more names number (x ∷ xs) line = grind (arith, commands_more names (number + 1) xs line)

-- one line more was replied to
pub heard_more : (limits : Limits) (heard line : List ℕ) (live after : LiveTable) (text new : List ℕ) → HeardScript limits heard live text → raw_lines (heard ++ line) ≡ raw_lines heard ++ line ∷ []
    → PrintsLine live (without_line_end line) [] new after → HeardScript limits (heard ++ line) after (text ++ new)
heard_more limits heard line live after text new so_far lines prints =
    let commands = commands_of (names_of live) so_far.sections.first so_far.sections.commands in
    let said = commands_in (names_of live) (next_number live) (without_line_end line) in
    let one = prints.plays.plays so_far.next so_far.stands in
    record {
      sections = record { table = so_far.sections.table; commands = so_far.sections.commands ++ line ∷ []; first = so_far.sections.first };
      rows = so_far.rows;
      cut = ap sections_of lines ∙ sections_more (raw_lines heard) (line ∷ []) so_far.sections so_far.cut;
      table = grind (arith, so_far.table, prints.names);
      room = so_far.room;
      number = omega (arith, prints.number, so_far.number, length-append so_far.sections.commands (line ∷ []));
      bounds = prints.plays.limits ∙ so_far.bounds;
      next = one.next;
      stands = one.stands;
      goes_on = λ more. grind (arith, commands_more (names_of live) so_far.sections.first so_far.sections.commands line, one.goes_on more, so_far.goes_on (said ++ more), append_assoc text new, append_assoc commands said more, so_far.number, so_far.bounds, prints.names);
    }

-- what was printed is the output of what was heard
pub heard_output : (limits : Limits) (heard : List ℕ) (live : LiveTable) (text : List ℕ) → HeardScript limits heard live text → IsOk (script_of limits heard) × (output limits heard ≡ text)
unfolding command_lines accepted_events
heard_output limits heard live text so_far = grind (arith, script-ok limits heard so_far.sections (names_of live, so_far.rows) so_far.cut so_far.table so_far.room, append-nil, so_far.goes_on [])

-- where something is ahead, the lines so far end with a line
heard_ends : (limits : Limits) (had left : Option (List ℕ)) (mid : Option (List ℕ)) (old new : ReadAhead) (live : LiveTable) (text : List ℕ) (so_far : Hears limits had mid old live text) → ReadBehind mid left old new → 0 < length (unread new) → EndsWithLine so_far.heard
heard_ends limits had left mid old new live text so_far read some = grind (arith)

-- one line more was heard
pub record HearsNext (limits : Limits) (had left : Option (List ℕ)) (heard : List ℕ) (ahead : ReadAhead) (live : LiveTable) (text : List ℕ) : Type 0 where
  pub line : List ℕ
  pub is_line : raw_lines (heard ++ line) ≡ raw_lines heard ++ line ∷ []
  pub hears : Hears limits had left ahead live text
  pub same : hears.heard ≡ heard ++ line

-- one turn more
pub hears_next : (limits : Limits) (had : Option (List ℕ)) (source : Source) (old new : ReadAhead) (before after : LiveTable) (text more : List ℕ) (so_far : Hears limits had source.had old before text) → PrintsNext source old new before after more
    → HearsNext limits had source.left so_far.heard new after (text ++ more)
hears_next limits had source old new before after text more so_far next =
    let all = unread next.mid in
    let line = take next.end all in
    let at = rw (front_is next.end all) at (line_at next.mid 0 next.end next.line next.some) in
    let consumed = Consumes-trans had source.had source.left (so_far.heard ++ unread old) next.read.bytes so_far.consumed next.read.consumed in
    let ends = heard_ends limits had source.left source.had old next.mid before text so_far next.read (omega (arith, next.some, next.inside)) in
    let is_line : raw_lines (so_far.heard ++ line) ≡ raw_lines so_far.heard ++ line ∷ [] = ends line ∙ ap (λ (t : List (List ℕ)). raw_lines so_far.heard ++ t) at.0 in
    record {
      line = line;
      is_line = is_line;
      hears = record {
        heard = so_far.heard ++ line;
        consumed = grind (arith, consumed, append_assoc so_far.heard (unread old) next.read.bytes, next.read.behind, take-append-drop next.end all, append_assoc so_far.heard line (drop next.end all), next.taken);
        lines = elim at.1 [ inl e ↦ inl (ends_more so_far.heard line ends e) | inr last ↦ inr (next.ended ∙ last.0, next.taken ∙ drop_all next.end all (omega (arith, last.1))) ];
        at_end = λ e. next.read.at_end so_far.at_end (sym next.ended ∙ e);
        little = subst (IsLittle 0) (sym next.taken) (little_left next.end all (little_later 0 next.end all (omega arith) (next.little so_far.little)));
        script = heard_more limits so_far.heard line before after text more so_far.script is_line next.prints;
      };
      same = refl;
    }

-- the reader of a run, from where it began
abbrev pub since : Option (List ℕ) → Source → Source
since had source = record { had = had; left = source.left; failed = source.failed }

-- all lines were replied to
pub ran_whole : (limits : Limits) (had : Option (List ℕ)) (source : Source) (sink : Sink) (old new : ReadAhead) (live : LiveTable) (text : List ℕ) → Hears limits had source.had old live text → NoneLeft source old new → WroteAll sink text
    → RanLive limits (since had source) sink (Ok tt)
ran_whole limits had source sink old new live text so_far end = λ wrote.
    let consumed = Consumes-trans had source.had source.left (so_far.heard ++ unread old) end.read.bytes so_far.consumed end.read.consumed in
    grind (arith, consumed, append_assoc so_far.heard (unread old) end.read.bytes, append-nil so_far.heard, heard_output limits so_far.heard live text so_far.script, wrote, end.read.at_end so_far.at_end)

-- the lines so far were heard, and no more
is_heard : (limits : Limits) (had : Option (List ℕ)) (source : Source) (ahead : ReadAhead) (live : LiveTable) (text : List ℕ) (so_far : Hears limits had source.had ahead live text) → ReadSome source.had source.left 0 ahead
    → IsHeard limits (since had source) so_far.heard
is_heard limits had source ahead live text so_far some =
    grind (arith, Consumes-trans had source.had source.left (so_far.heard ++ unread ahead) some.bytes so_far.consumed some.consumed, append_assoc so_far.heard (unread ahead) some.bytes, heard_output limits so_far.heard live text so_far.script)

-- and they were replied to
pub stops_early : (limits : Limits) (had : Option (List ℕ)) (source : Source) (sink : Sink) (ahead : ReadAhead) (live : LiveTable) (text : List ℕ) → Hears limits had source.had ahead live text → ReadSome source.had source.left 0 ahead → WroteAll sink text
    → StopsEarly limits (since had source) sink
stops_early limits had source sink ahead live text so_far some wrote = grind (arith, heard_output limits so_far.heard live text so_far.script, is_heard limits had source ahead live text so_far some)

-- of the replies to the last line a beginning was written
pub stops_writing : (limits : Limits) (had : Option (List ℕ)) (source : Source) (held : Option (List ℕ)) (sink : Sink) (old new : ReadAhead) (before after : LiveTable) (text more : List ℕ) → Hears limits had source.had old before text
    → PrintsNext source old new before after more → Appends held sink.held text → WroteBeginning sink more → StopsInLine limits (since had source) (record { held = held; holds = sink.holds; failed = sink.failed })
stops_writing limits had source held sink old new before after text more so_far next first (count, wrote) =
    let now = hears_next limits had source old new before after text more so_far next in
    let here = is_heard limits had (record { had = source.left; left = source.left; failed = source.failed }) new after (text ++ more) now.hears (some_none source.left new 0) in
    let (ok, is) = heard_output limits so_far.heard before text so_far.script in
    let both = Appends-trans held sink.held sink.holds text (take count more) first wrote in
    record {
      heard = so_far.heard;
      line = now.line;
      is_line = now.is_line;
      before = ok;
      after = subst (IsHeard limits (since had source)) now.same here;
      count = length text + count;
      wrote = grind (arith, both, now.same, heard_output limits now.hears.heard after (text ++ more) now.hears.script, take-append-add text more count);
      all_before = omega (arith, ap length is);
    }

-- what holds of what was read, whatever follows, holds of what the reader had
pub had_all : (had left : Option (List ℕ)) (bytes : List ℕ) (P : List ℕ → Type 0) → Consumes had left bytes → ((more : List ℕ) → P (bytes ++ more)) → IfSome had P
had_all had left bytes P consumed all = grind (arith)

-- the line behind those that were heard is too long
pub heard_too_long : (limits : Limits) (had : Option (List ℕ)) (source : Source) (old new : ReadAhead) (live : LiveTable) (text : List ℕ) → Hears limits had source.had old live text → ReadBehind source.had source.left old new → IsLong 0 (unread new)
    → IfSome had IsTooLong
heard_too_long limits had source old new live text so_far read long =
    let ends = heard_ends limits had source.left source.had old new live text so_far read (omega (arith, long.1)) in
    let consumed : Consumes had source.left (so_far.heard ++ unread new) = grind (arith, Consumes-trans had source.had source.left (so_far.heard ++ unread old) read.bytes so_far.consumed read.consumed, append_assoc so_far.heard (unread old) read.bytes, read.behind) in
    had_all had source.left (so_far.heard ++ unread new) IsTooLong consumed (λ more.
    let (line, rest, cut, size) = first_too_long (unread new) more long in
    long_among ((so_far.heard ++ unread new) ++ more) (raw_lines so_far.heard) rest line (grind (arith, append_assoc so_far.heard (unread new) more, ends (unread new ++ more), cut)) size)

-- the number of the next line is by one more than the lines that were heard
pub heard_number : (limits : Limits) (heard : List ℕ) (live : LiveTable) (text : List ℕ) → HeardScript limits heard live text → next_number live ≡ length (raw_lines heard) + 1
heard_number limits heard live text so_far = grind (arith, length-drop)

-- so many lines were heard that no run hears more
pub heard_too_many : (limits : Limits) (had left : Option (List ℕ)) (ahead : ReadAhead) (live : LiveTable) (text : List ℕ) → Hears limits had left ahead live text → 2 ^ 63 < next_number live → IfSome had IsTooLong
heard_too_many limits had left ahead live text so_far many =
    let number = heard_number limits so_far.heard live text so_far.script in elim so_far.lines [
      | inl ends ↦ had_all had left (so_far.heard ++ unread ahead) IsTooLong so_far.consumed (λ more. inr (inr (grind (arith, number, many, append_assoc so_far.heard (unread ahead) more, ends (unread ahead ++ more), length-append (raw_lines so_far.heard) (raw_lines (unread ahead ++ more))))))
      | inr last ↦ Consumes-whole had left so_far.heard IsTooLong (grind (arith, so_far.consumed, last, append-nil so_far.heard)) (so_far.at_end last.0) (inr (inr (omega (arith, number, many))))
    ]
