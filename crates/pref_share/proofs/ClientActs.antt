-- The parts of all clients in a history, and the last act of each.
use Rattle.pref_share.proofs.Common.{◌≡◌, ◌==◌, ℕ, ◌<◌, cond, List, [], ◌∷◌, ◌++◌, length, Some, refl, sym, ap, ◌∙◌, subst, arith, ◌⊎◌, inl, inr, eq-eqb, ne_eqb}
use Rattle.pref_share.proofs.Common.{append-nil, length-append, same_Some, IsPrefix, Op, Act, Reply, Opening, IsLegalFrom, calls_at, Standing, newcomer, StepsTo, Looks, Adds, Runs, none, then, RunsTo, StandsWithin}
use Rattle.std.proofs.lemmas.List.{same_from_push}
use Rattle.pref_share.proofs.PrefixLaws.{prefix_shorter}
use Rattle.pref_share.proofs.CallCounts.{count_last, count_own, count_prefix}
use Rattle.pref_share.proofs.LastCalls.{counted_at, last_other, last_one_of, IsOneOf, Counts, counts}

-- what a client did, the replies to it, and how it stands after
pub record Part : Type 0 where
  pub acts : List Act
  pub returned : List Reply
  pub last : Standing

abbrev pub nothing_done : ℕ → Part
nothing_done number = record { acts = []; returned = []; last = newcomer number }

-- one act more
abbrev pub longer : Part → Act → Reply → Standing → Part
longer p act reply u = record { acts = p.acts ++ act ∷ []; returned = p.returned ++ reply ∷ []; last = u }

-- it is the part of the history that is this client's
pub record IsPartAt (o : Opening) (history : List Op) (number : ℕ) (p : Part) : Type 0 where
  pub runs : RunsTo o (newcomer number) p.acts p.returned p.last
  pub is_in : StandsWithin o history p.last

-- the parts of all clients
abbrev pub ArePartsAt : Opening → List Op → (ℕ → Part) → Type 0
ArePartsAt o history parts = (number : ℕ) → IsOneOf o number → IsPartAt o history number (parts number)

-- the parts with another for this client
abbrev pub with_part : ℕ → Part → (ℕ → Part) → ℕ → Part
with_part number p parts client = cond (client == number) p (parts client)

pub with_part-own : (number : ℕ) (p : Part) (parts : ℕ → Part) → with_part number p parts number ≡ p
with_part-own number p parts = ap (λ b. cond b p (parts number)) (eq-eqb number number refl)

pub with_part-other : (number : ℕ) (p : Part) (parts : ℕ → Part) (client : ℕ) → (client ≡ number → ⊥) → with_part number p parts client ≡ parts client
with_part-other number p parts client apart = ap (λ b. cond b p (parts client)) (ne_eqb client number apart)

-- what holds of this client's new part, and of the parts of all others
pub with_part-each : (Q : ℕ → Part → Type 0) (number : ℕ) (p : Part) (parts : ℕ → Part) → Q number p → ((client : ℕ) → (client ≡ number → ⊥) → Q client (parts client)) → (client : ℕ) → Q client (with_part number p parts client)
with_part-each Q number p parts own others client = grind (arith)

pub with_part-same : (number : ℕ) (p : Part) (parts : ℕ → Part) → parts number ≡ p → with_part number p parts ≡ parts
with_part-same number p parts e = λ i client. with_part-each (λ n x. x ≡ parts n) number p parts (sym e) (λ n apart. refl) client i

-- The client's last act is a call that joined the history last.
pub record IsLast (o : Opening) (history : List Op) (number : ℕ) (p : Part) : Type 0 where
  pub before : Part
  pub act : Act
  pub reply : Reply
  pub now : Standing
  pub is : p ≡ longer before act reply now
  pub runs : RunsTo o (newcomer number) before.acts before.returned before.last
  pub step : StepsTo o before.last act reply now
  pub adds : Adds o before.last act now step.at
  pub whole : now.seen ≡ history

-- Why a client's last act isn't one that looked at the whole history: it has not seen all of it, it did nothing in an empty one,
-- or its last act joined it last.
pub data LooksNoMore (o : Opening) (history : List Op) (number : ℕ) (p : Part) : Type 0 where
  behind : length p.last.seen < length history → LooksNoMore o history number p
  idle : p ≡ nothing_done number → history ≡ [] → LooksNoMore o history number p
  joined : IsLast o history number p → LooksNoMore o history number p

-- no client's last act is one that looked at the whole history
abbrev pub NoneLooks : Opening → List Op → (ℕ → Part) → Type 0
NoneLooks o history parts = (number : ℕ) → IsOneOf o number → LooksNoMore o history number (parts number)

-- whether a beginning of the history is all of it
seen_all : (seen history : List Op) → IsPrefix seen history → (seen ≡ history) ⊎ (length seen < length history)
seen_all seen history ([], is) = inl (sym (append-nil seen) ∙ is)
seen_all seen history (op ∷ rest, is) = inr (omega (arith, ap length is, length-append seen (op ∷ rest)))

-- the act, put behind the part, looks at the whole history
abbrev pub LooksAt : Opening → List Op → Part → Act → Reply → Standing → Type 0
LooksAt o history p act reply u = (step : StepsTo o p.last act reply u) × (step.at ≡ history) × (u.seen ≡ history)

-- What holds of each part that looks no more, and stays when an act that looks at the whole history is put behind it, holds of each part.
pub without_looks : (o : Opening) (history : List Op) (number : ℕ) (Holds : Part → Type 0)
    → ((p : Part) → IsPartAt o history number p → LooksNoMore o history number p → Holds p)
    → ((p : Part) (act : Act) (reply : Reply) (u : Standing) → IsPartAt o history number p → LooksAt o history p act reply u → Holds p → Holds (longer p act reply u))
    → (acts : List Act) (returned : List Reply) (stands : List Standing) (s : Standing) → Runs o (newcomer number) acts returned stands s → StandsWithin o history s → Holds (record { acts = acts; returned = returned; last = s })
without_looks o history number Holds rest more _ _ _ _ none h =
    rest (nothing_done number) (record { runs = record { stands = []; runs = none }; is_in = h }) (go (seen_all [] history h.inside))
  where
    go : ([] ≡ history) ⊎ (length {A = Op} [] < length history) → LooksNoMore o history number (nothing_done number)
    go whole = grind (arith)
without_looks o history number Holds rest more _ _ _ _ (then acts returned stands t act reply u runs step) h = go (seen_all u.seen history h.inside) step.joins (without_looks o history number Holds rest more acts returned stands t runs)
  where
    before : Part
    before = record { acts = acts; returned = returned; last = t }

    here : IsPartAt o history number (longer before act reply u)
    here = record { runs = record { stands = stands ++ u ∷ []; runs = then acts returned stands t act reply u runs step }; is_in = h }

    looked : u.seen ≡ history → Looks t u step.at → (StandsWithin o history t → Holds before) → Holds (longer before act reply u)
    looked whole looks shorter =
        let at_is : step.at ≡ history = sym looks.seen ∙ whole in
        let is_in : StandsWithin o history t = record { inside = subst (IsPrefix t.seen) at_is step.further; alone = ap (calls_at o history) (sym step.same) ∙ h.alone ∙ ap Some looks.counted } in
        more before act reply u (record { runs = record { stands = stands; runs = runs }; is_in = is_in }) (step, at_is, whole) (shorter is_in)

    go : (u.seen ≡ history) ⊎ (length u.seen < length history) → Looks t u step.at ⊎ Adds o t act u step.at → (StandsWithin o history t → Holds before) → Holds (longer before act reply u)
    go (inr l) joins shorter = rest (longer before act reply u) here (behind l)
    go (inl whole) (inl looks) shorter = looked whole looks shorter
    go (inl whole) (inr adds) shorter = rest (longer before act reply u) here (joined (record {
      before = before;
      act = act;
      reply = reply;
      now = u;
      is = refl;
      runs = record { stands = stands; runs = runs };
      step = step;
      adds = adds;
      whole = whole;
    }))

-- the client whose call the last one is has seen the whole history
not_behind : (o : Opening) (before : List Op) (op : Op) (s : Standing) → IsLegalFrom o (before ++ op ∷ []) → StandsWithin o (before ++ op ∷ []) s → Counts op.client s → IsPrefix s.seen before → ⊥
not_behind o before op s legal h c inside = grind (arith, count_last, count_own, count_prefix, counted_at, eq-eqb, last_one_of, same_Some)

shorter_before : (o : Opening) (before : List Op) (op : Op) (s : Standing) → StandsWithin o (before ++ op ∷ []) s → length s.seen < length (before ++ op ∷ []) → IsPrefix s.seen before
shorter_before o before op s h l = prefix_shorter s.seen before (before ++ op ∷ []) h.inside (op ∷ [], refl) (omega (arith, l, length-append before (op ∷ [])))

pub never_empty : (before : List Op) (op : Op) → before ++ op ∷ [] ≡ [] → ⊥
never_empty before op e = omega (arith, ap length e, length-append before (op ∷ []))

-- that call is its last act, ..
pub made_last : (o : Opening) (before : List Op) (op : Op) (p : Part) → IsLegalFrom o (before ++ op ∷ []) → IsPartAt o (before ++ op ∷ []) op.client p → LooksNoMore o (before ++ op ∷ []) op.client p → IsLast o (before ++ op ∷ []) op.client p
made_last o before op p legal h looks = grind (arith, counts, last_one_of, not_behind, shorter_before, never_empty)

-- .. answered where the history stood before it
pub last_at : (o : Opening) (before : List Op) (op : Op) (number : ℕ) (p : Part) (last : IsLast o (before ++ op ∷ []) number p) → (last.step.at ≡ before) × (last.adds.op ≡ op)
last_at o before op number p last = same_from_push last.step.at before last.adds.op op (sym last.adds.seen ∙ last.whole)

-- the parts of all others are in the history before it
others_before : (o : Opening) (before : List Op) (op : Op) (number : ℕ) (p : Part) → (number ≡ op.client → ⊥) → Counts number p.last → StandsWithin o (before ++ op ∷ []) p.last → LooksNoMore o (before ++ op ∷ []) number p → StandsWithin o before p.last
others_before o before op number p apart c h looks = record { inside = go looks; alone = sym (last_other o before op p.last.number (λ e. apart (sym c.same ∙ e))) ∙ h.alone }
  where
    go : LooksNoMore o (before ++ op ∷ []) number p → IsPrefix p.last.seen before
    go (behind l) = shorter_before o before op p.last h l
    go (idle same empty) = absurd (never_empty before op empty)
    go (joined last) =
        let by : op.client ≡ last.before.last.number = ap (λ (x : Op). x.client) (sym (last_at o before op number p last).1) ∙ last.adds.by in
        let same : last.before.last.number ≡ number = sym last.step.same ∙ ap (λ (x : Part). x.last.number) (sym last.is) ∙ c.same in
        absurd (apart (sym (by ∙ same)))

-- the parts before the last call
pub parts_before : (o : Opening) (before : List Op) (op : Op) (parts : ℕ → Part) → IsLegalFrom o (before ++ op ∷ []) → ArePartsAt o (before ++ op ∷ []) parts
    → NoneLooks o (before ++ op ∷ []) parts → (last : IsLast o (before ++ op ∷ []) op.client (parts op.client))
    → ArePartsAt o before (with_part op.client last.before parts)
parts_before o before op parts legal h looks last = with_part-each (λ n x. IsOneOf o n → IsPartAt o before n x) op.client last.before parts
    (λ one_of. let at_is = (last_at o before op op.client (parts op.client) last).0 in record {
      runs = last.runs;
      is_in = record { inside = subst (IsPrefix last.before.last.seen) at_is last.step.further; alone = ap (λ l. calls_at o l last.before.last.number) (sym at_is) ∙ last.adds.alone };
    })
    (λ number apart one_of.
    let part = h number one_of in
    let p = parts number in
    record { runs = part.runs; is_in = others_before o before op number p apart (counts o number p.acts p.returned part.runs.stands p.last part.runs.runs) part.is_in (looks number one_of) })
