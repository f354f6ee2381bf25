-- The first record of a text, whose bytes are gone through one by one.
use Rattle.pref_table.proofs.Common.{◌≡◌, ◌∙◌, ℕ, suc, ◌+◌, ◌<◌, ◌≤◌, Bool, true, false, List, [], ◌∷◌, ◌++◌, length, drop, get_or, Some, sym, ap, refl, arith, ◌⊎◌, inl, inr, drop_more}
use Rattle.pref_table.proofs.Common.{length-append, drop_of_length-le, Read, ends_at_end, fields_after, field_after, is_end, next_record, step, default_config, records}
use Rattle.pref_table.proofs.Common.{records_from, State, BytesReader, HasLeft, IsNarrow, IsNext, IsWide, ReadsFirst, ReadsNext, state_at}
use Rattle.std.specs.Borrow.{Bor}
use Rattle.csv.specs.declared.parser.Action.{Action}
use Rattle.pref_table.specs.declared.records.Next.{Next}
use Rattle.pref_table.specs.declared.records.Next.TheVariants.{Nothing, Narrow}
use Rattle.pref_table.specs.declared.records.Place.{Place}
use Rattle.pref_table.specs.declared.records.Place.TheVariants.{BetweenRecords}
use Rattle.pref_table.proofs.LinesFacts.{records-after_return, records-first, records-of}
use Rattle.pref_table.proofs.RecordsFacts.{records-none, records-some}
use Rattle.csv.specs.declared.parser.Action.TheVariants as act
use Rattle.csv.specs.declared.parser.State.TheVariants as st

-- before the byte at this place csv's machine is in this state, and so many fields have ended
pub record Stands (text : List ℕ) (at : ℕ) (s : State) (count : ℕ) : Type 0 where
  pub fields : List (List ℕ)
  pub field : List ℕ
  pub same : next_record default_config st.StartRecord [] [] text ≡ next_record default_config s fields field (drop at text)
  pub counted : length fields ≡ count

-- one byte further
stepped : (text : List ℕ) (at : ℕ) (s next : State) (count total : ℕ) (action : Action) → at < length text → step default_config s (get_or text at 0) ≡ (next, action) → is_end action ≡ false
    → ((fields : List (List ℕ)) (field : List ℕ) → length fields ≡ count → length (fields_after action fields field) ≡ total) → Stands text at s count → Stands text (at + 1) next total
unfolding next_record
stepped text at s next count total action inside does goes counts h = grind (arith, drop_more)

pub stands-goes : (text : List ℕ) (at : ℕ) (s next : State) (count : ℕ) → at < length text → Stands text at s count
    → (step default_config s (get_or text at 0) ≡ (next, act.Skip)) ⊎ (step default_config s (get_or text at 0) ≡ (next, act.Copy)) → Stands text (at + 1) next count
stands-goes text at s next count inside h (inl skips) = stepped text at s next count count act.Skip inside skips refl (λ fields field same. same) h
stands-goes text at s next count inside h (inr copies) = stepped text at s next count count act.Copy inside copies refl (λ fields field same. same) h

pub stands-comma : (text : List ℕ) (at : ℕ) (s : State) (count : ℕ) → at < length text → Stands text at s count → step default_config s (get_or text at 0) ≡ (st.StartField, act.EndField)
    → Stands text (at + 1) st.StartField (count + 1)
stands-comma text at s count inside h ends =
    stepped text at s st.StartField count (count + 1) act.EndField inside ends refl (λ fields field same. length-append fields (field ∷ []) ∙ ap (λ (n : ℕ). n + 1) same) h

-- the record ends with a byte
ended : (text : List ℕ) (at : ℕ) (s next : State) (count : ℕ) → at < length text → count < 16 → Stands text at s count → step default_config s (get_or text at 0) ≡ (next, act.EndRecord)
    → ((n : ℕ) → length (drop (at + 1) text) < n → records_from default_config n next (drop (at + 1) text) ≡ records default_config (drop (at + 1) text))
    → (fields : List (List ℕ)) × IsNarrow text fields (drop (at + 1) text)
unfolding next_record
ended text at s next count inside few h ends more =
    let all = h.fields ++ h.field ∷ [] in
    let read : next_record default_config st.StartRecord [] [] text ≡ Some (all, next, drop (at + 1) text) = h.same ∙ rw (drop_more text at 0 inside, ends) refl in
    (all, (records-first text all next (drop (at + 1) text) (records default_config (drop (at + 1) text)) read more, omega (arith, few, length-append h.fields (h.field ∷ []), h.counted)))

pub narrow-ended : (text : List ℕ) (at : ℕ) (s : State) (count : ℕ) → at < length text → count < 16 → Stands text at s count
    → (step default_config s (get_or text at 0) ≡ (st.StartRecord, act.EndRecord)) ⊎ (step default_config s (get_or text at 0) ≡ (st.AfterCr, act.EndRecord))
    → (fields : List (List ℕ)) × IsNarrow text fields (drop (at + 1) text)
narrow-ended text at s count inside few h (inl feed) = ended text at s st.StartRecord count inside few h feed (λ n enough. records-of n (drop (at + 1) text) enough)
narrow-ended text at s count inside few h (inr return) = ended text at s st.AfterCr count inside few h return (λ n enough. records-after_return n (drop (at + 1) text) enough)

-- or with the text
pub narrow-last : (text : List ℕ) (s : State) (count : ℕ) → count < 16 → Stands text (length text) s count → ends_at_end s ≡ true → (fields : List (List ℕ)) × IsNarrow text fields []
unfolding next_record
narrow-last text s count few h ends =
    let all = h.fields ++ h.field ∷ [] in
    let read : next_record default_config st.StartRecord [] [] text ≡ Some (all, st.StartRecord, []) = h.same ∙ rw (drop_of_length-le text {i = length text} (omega arith), ends) refl in
    (all, (records-first text all st.StartRecord [] (records default_config []) read (λ n enough. records-of n [] enough), omega (arith, few, length-append h.fields (h.field ∷ []), h.counted)))

pub nothing-left : (text : List ℕ) (count : ℕ) → Stands text (length text) st.StartRecord count → records default_config text ≡ []
unfolding next_record
nothing-left text count h = records-none (length text + 1) st.StartRecord text (h.same ∙ rw (drop_of_length-le text {i = length text} (omega arith)) refl)

-- inside a record
abbrev is_inside : State → Bool
is_inside st.StartField = true
is_inside st.InField = true
is_inside st.InQuoted = true
is_inside st.AfterQuote = true
is_inside _ = false

-- a byte inside a record ends it or stays inside
abbrev Stays : State × Action → Type 0
Stays does = is_end does.1 ≡ false → is_inside does.0 ≡ true

stays : (s : State) (byte : ℕ) → is_inside s ≡ true → Stays (step default_config s byte)
stays s byte inside = grind (arith)

ends-at_end : (s : State) → is_inside s ≡ true → ends_at_end s ≡ true
ends-at_end s inside = grind (arith)

-- an action ends the record with a field more, or ends no more fields than there are
more-ended : (action : Action) (fields : List (List ℕ)) (field : List ℕ) → is_end action ≡ true → length fields < length (fields_after action fields field)
more-ended action fields field ends = grind (arith, length-append)

no-fewer : (action : Action) (fields : List (List ℕ)) (field : List ℕ) → length fields ≤ length (fields_after action fields field)
no-fewer action fields field = grind (arith, length-append)

-- so a record that was begun ends, with one field more at least
ends-later : (xs : List ℕ) (s : State) (fields : List (List ℕ)) (field : List ℕ) → is_inside s ≡ true → (p : Read) × (next_record default_config s fields field xs ≡ Some p) × (length fields < length p.0)
unfolding next_record
ends-later [] s fields field inside =
    ((fields ++ field ∷ [], st.StartRecord, []), rw (ends-at_end s inside) refl, omega (arith, length-append fields (field ∷ [])))
ends-later (byte ∷ rest) s fields field inside = by (is_end action) refl (ends-later rest next)
  where
    next : State
    next = (step default_config s byte).0

    action : Action
    action = (step default_config s byte).1

    by : (ends : Bool) → is_end action ≡ ends
        → ((fields : List (List ℕ)) (field : List ℕ) → is_inside next ≡ true → (p : Read) × (next_record default_config next fields field rest ≡ Some p) × (length fields < length p.0))
        → (p : Read) × (next_record default_config s fields field (byte ∷ rest) ≡ Some p) × (length fields < length p.0)
    by true e later = ((fields_after action fields field, next, rest), rw e refl, more-ended action fields field e)
    by false e later =
        let (p, read, more) = later (fields_after action fields field) (field_after action byte field) (stays s byte inside e) in
        (p, rw e read, omega (arith, more, no-fewer action fields field))

pub wide : (text : List ℕ) (at : ℕ) → Stands text at st.StartField 16 → IsWide text
wide text at h =
    let (p, read, more) = ends-later (drop at text) st.StartField h.fields h.field refl in
    (p.0, records_from default_config (length text) p.1 p.2, sym (records-of (suc (length text)) text (omega arith)) ∙ records-some (length text) st.StartRecord text p (h.same ∙ read), omega (arith, h.counted, more))

-- a place that is not between records is inside one
pub outside-none : (place : Place) → (place ≡ BetweenRecords → ⊥) → ends_at_end (state_at place) ≡ true
outside-none place apart = grind (arith)

-- a reader that has the records of a text left reads the first of them, where it is narrow
pub reads-narrow : (old new : BytesReader) (found : Bool) (fields : List (List ℕ)) (text after : List ℕ) → HasLeft old (records default_config text) → ReadsFirst old new found fields → (first : List (List ℕ)) × IsNarrow text first after
    → IsNarrow text fields after × HasLeft new (records default_config after)
reads-narrow old new found fields text after has reads (first, (is, few)) = grind (arith, reads (records default_config text) has)

pub reads-other : (new : BytesReader) (text : List ℕ) (fields : List (List ℕ)) (next : Next) → ((rest : Bor (List ℕ)) → next ≡ Narrow rest → ⊥) → IsNext text next → ReadsNext new text fields next
reads-other new text fields next other is = grind (arith)

-- a text of whose records one is next
pub some-left : (text : List ℕ) (next : Next) → (next ≡ Nothing → ⊥) → IsNext text next → (fields : List (List ℕ)) × (more : List (List (List ℕ))) × (records default_config text ≡ fields ∷ more)
some-left text next apart is = grind (arith)
