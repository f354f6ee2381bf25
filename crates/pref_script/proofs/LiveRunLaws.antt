-- A run that replies to each line as it comes: how it begins, goes on and ends.
use Rattle.pref_script.proofs.Common.{◌≡◌, ◌⊎◌, ℕ, ◌+◌, ◌≤◌, true, false, List, [], ◌++◌, length, take, drop, refl, subst, arith, append-nil, append_assoc, Option, Result, Ok, Err, inl, inr}
use Rattle.pref_script.proofs.Common.{Appends-kept, Appends-trans, drop_all, length-drop, take-append-drop, take_all, Appends, Consumes, IsAtEnd, position_or_len, Limits, commands_of, Hears}
use Rattle.pref_script.proofs.Common.{IsBlock, LacksBlock, OpensLive, ReadsBlock, EndsWithLine, HeardNone, RanLive, ShowsFault, StopsEarly, PrintsNext, Turns, IsOpened, OpeningFault}
use Rattle.pref_script.proofs.Common.{next_number, ScriptFault, script_of, IsLittle, ReadBehind, ReadSome, is_at_end, unread, Keeps, NothingWritten, Sink, Source, WroteAll}
use Rattle.pref_script.proofs.Common.{WroteBeginning, Wrote, Sections, block_lines, is_end_line, sections_of, raw_lines, RunFault, LiveTable, ReadAhead}
use Rattle.pref_script.proofs.BlockLaws.{all_read, hears_lines}
use Rattle.pref_script.proofs.HeardLaws.{heard_too_long, hears_next, sections_more, since, stops_early, stops_writing}
use Rattle.pref_script.proofs.LineLaws.{little_left}
use Rattle.pref_script.proofs.OutputLaws.{cut_of, script-sections}
use Rattle.pref_script.specs.declared.fault.RunFault.TheVariants as fault

-- the reader has come to its end
at_end : (had left : Option (List ℕ)) (old new : ReadAhead) → is_at_end old ≡ false → ReadBehind had left old new → is_at_end new ≡ true → IsAtEnd left
at_end had left old new fresh read ended = grind (arith, read.at_end)

-- what was read has no table block
lacks_block : (limits : Limits) (source : Source) (old new : ReadAhead) (why : RunFault) → unread old ≡ [] → is_at_end old ≡ false → ReadBehind source.had source.left old new → HeardNone source → LacksBlock new why → ShowsFault limits source why
lacks_block limits source old new why none fresh read heard (inl all) = (heard, unread new, all_read source.had source.left old new none read, inl (λ more. script-sections limits (unread new ++ more) why (all more)))
lacks_block limits source old new why none fresh read heard (inr last) = (heard, unread new, all_read source.had source.left old new none read, inr (at_end source.had source.left old new fresh read last.0, script-sections limits (unread new) why last.1))

-- no table block was read
pub refused_block : (limits : Limits) (source : Source) (old new : ReadAhead) (why : RunFault) → unread old ≡ [] → is_at_end old ≡ false → ReadsBlock source old new (Err why) → OpensLive limits source new (Err why)
refused_block limits source old new why none fresh reads = grind (arith, lacks_block limits source old new why none fresh)

-- lines have one cut into sections, and where they have one, they have no fault
pub same_sections : (lines : List (List ℕ)) (cut block : Sections) → sections_of lines ≡ Ok cut → sections_of lines ≡ Ok block → cut ≡ block
same_sections lines cut block one other = grind (arith, one, other)

pub no_fault : {P : Type 0} (lines : List (List ℕ)) (block : Sections) (why : RunFault) → sections_of lines ≡ Ok block → sections_of lines ≡ Err why → P
no_fault lines block why one other = absurd (cc)

-- the sections of what was read, where lines of their own follow the block
block_with : (end : ℕ) (table : List ℕ) (first : ℕ) (ahead : ReadAhead) (more : List ℕ) → IsBlock end table first ahead → EndsWithLine (take end (unread ahead))
    → sections_of (raw_lines (unread ahead ++ more)) ≡ Ok (record { table = table; commands = raw_lines (drop end (unread ahead) ++ more); first = first })
block_with end table first ahead more is ends =
    grind (arith, take-append-drop end (unread ahead), append_assoc (take end (unread ahead)) (drop end (unread ahead)) more, sections_more (raw_lines (take end (unread ahead))) (raw_lines (drop end (unread ahead) ++ more)) _ is.cut)

-- the sections of what was read, where the block is all of it
block_alone : (end : ℕ) (table : List ℕ) (first : ℕ) (ahead : ReadAhead) → IsBlock end table first ahead → end ≡ length (unread ahead) → sections_of (raw_lines (unread ahead)) ≡ Ok (record { table = table; commands = []; first = first })
block_alone end table first ahead is all = grind (arith, take_all end (unread ahead), is.cut)

-- the fault of a script that was read, whatever follows
opening_refused : (limits : Limits) (source : Source) (new : ReadAhead) (why : RunFault) (bytes : List ℕ) → HeardNone source → Consumes source.had source.left bytes
    → ((more : List ℕ) → ScriptFault why (script_of limits (bytes ++ more))) ⊎ IsAtEnd source.left × ScriptFault why (script_of limits bytes) → OpensLive limits source new (Err why)
opening_refused limits source new why bytes heard consumed (inl all) = grind (arith, all [])
opening_refused limits source new why bytes heard consumed (inr last) = grind (arith)

-- the lines of a script that has no command lines are those of its block
block_whole : (lines : List (List ℕ)) (sections : Sections) → sections_of lines ≡ Ok sections → sections.commands ≡ [] → block_lines lines ≡ lines
block_whole lines sections h none =
    let cut = cut_of lines sections h in
    grind (arith, cut.lines_are, cut.table, cut.sections_are, take_all (position_or_len is_end_line cut.rest + 1) cut.rest, length-drop (position_or_len is_end_line cut.rest + 1) cut.rest)

-- the table of the block was refused
pub refused_table : (limits : Limits) (source : Source) (old new : ReadAhead) (end : ℕ) (table : List ℕ) (first : ℕ) (why : RunFault) → unread old ≡ [] → is_at_end old ≡ false → ReadBehind source.had source.left old new
    → (IsLittle 0 (unread old) → IsLittle end (unread new)) → IsBlock end table first new → OpeningFault limits table why → OpensLive limits source new (Err why)
refused_table limits source old new end table first why none fresh read little is refused =
    let heard = hears_lines source old new end read little (block_whole (raw_lines (take end (unread new))) _ is.cut refl) none in
    opening_refused limits source new why (unread new) heard (all_read source.had source.left old new none read)
    (elim is.lines [ inl ends ↦ inl (λ more. refused (unread new ++ more) _ (block_with end table first new more is ends) refl) | inr last ↦ inr (at_end source.had source.left old new fresh read last.0, refused (unread new) _ (block_alone end table first new is last.1) refl) ])

-- the table of the block was opened
pub opened_live : (limits : Limits) (had left : Option (List ℕ)) (old mid new : ReadAhead) (end : ℕ) (table : List ℕ) (first : ℕ) (live : LiveTable) → unread old ≡ [] → is_at_end old ≡ false → ReadBehind had left old mid → (IsLittle 0 (unread old) → IsLittle end (unread mid))
    → IsBlock end table first mid → IsOpened limits table first live → first ≤ 16777219 → unread new ≡ drop end (unread mid) → is_at_end new ≡ is_at_end mid → Hears limits had left new live [] × (next_number live ≤ 16777219)
unfolding commands_of
opened_live limits had left old mid new end table first live none fresh read little is opens small taken ended = grind (arith, take-append-drop end (unread mid), drop_all, little_left end (unread mid))

-- a run so far: what it printed was written
pub record Replying (limits : Limits) (had left held holds : Option (List ℕ)) (ahead : ReadAhead) (live : LiveTable) : Type 0 where
  pub text : List ℕ
  pub hears : Hears limits had left ahead live text
  pub wrote : Appends held holds text

-- a turn more
pub replying_more : (limits : Limits) (had held : Option (List ℕ)) (source : Source) (sink : Sink) (old new : ReadAhead) (before after : LiveTable) (text : List ℕ) → Replying limits had source.had held sink.held old before → PrintsNext source old new before after text
    → WroteAll sink text → Replying limits had source.left held sink.holds new after
replying_more limits had held source sink old new before after text so_far next wrote =
    grind (arith, hears_next limits had source old new before after so_far.text text so_far.hears next, Appends-trans held sink.held sink.holds so_far.text text so_far.wrote wrote)

stopped : (limits : Limits) (had held : Option (List ℕ)) (source : Source) (sink : Sink) (ahead : ReadAhead) (live : LiveTable) → Replying limits had source.had held sink.held ahead live → ReadSome source.had source.left 0 ahead → NothingWritten sink
    → StopsEarly limits (since had source) (record { held = held; holds = sink.holds; failed = sink.failed })
stopped limits had held source sink ahead live so_far some kept =
    stops_early limits had source (record { held = held; holds = sink.holds; failed = sink.failed }) ahead live so_far.text so_far.hears some (Appends-kept held sink.held sink.holds so_far.text so_far.wrote kept)

-- a turn that failed
pub turn_failed : (limits : Limits) (had held : Option (List ℕ)) (source : Source) (sink : Sink) (old new : ReadAhead) (before after : LiveTable) (why : RunFault) → Replying limits had source.had held sink.held old before
    → Turns source sink old new before after (Err why) → RanLive limits (since had source) (record { held = held; holds = sink.holds; failed = sink.failed }) (Err why)
turn_failed limits had held source sink old new before after fault.Write so_far (failed, text, next, part) =
    (failed, inl (stops_writing limits had source held sink old new before after so_far.text text so_far.hears next so_far.wrote part))
turn_failed limits had held source sink old new before after fault.Read so_far (failed, some, kept) = (failed, stopped limits had held source sink old before so_far some kept)
turn_failed limits had held source sink old new before after fault.TooLarge so_far (line, some, kept) =
    (heard_too_long limits had source old new before so_far.text so_far.hears line.0 line.1, stopped limits had held source sink old before so_far some kept)
turn_failed limits had held source sink old new before after fault.Memory so_far (some, kept) = stopped limits had held source sink old before so_far some kept
turn_failed limits had held source sink old new before after why so_far never = absurd never

-- no byte was written
nothing-written : (held holds : Option (List ℕ)) → Appends held holds [] → Keeps held holds
nothing-written held holds h = grind (arith, append-nil)

-- of a refusal's line a beginning was written
none_begun : (limits : Limits) (source : Source) (sink : Sink) → HeardNone source → sink.failed ≡ true → WroteBeginning sink [] → RanLive limits source sink (Err fault.Write)
none_begun limits source sink heard failed (count, part) = (failed, inr (inl (heard, nothing-written sink.held sink.holds (subst (Appends sink.held sink.holds) (take_all count [] (omega arith)) part))))

-- a refused table, by what was written of its line
pub refused_live : (limits : Limits) (source : Source) (sink : Sink) (ahead : ReadAhead) (why : RunFault) (result : Result (Unit {0}) RunFault) → OpensLive limits source ahead (Err why) → Wrote sink (Err why) result → RanLive limits source sink result
refused_live limits source sink ahead why result opens wrote = grind (arith, nothing-written sink.held sink.holds, none_begun limits source sink)
