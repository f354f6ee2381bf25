-- After a commit the slots stand for the state after it: first as if there were always an empty slot, then in slots that are used again.
use Rattle.pref_core.proofs.Common.{◌≡◌, ℕ, suc, ◌+◌, ◌<◌, true, false, eqb, List, [], ◌∷◌, ◌++◌, map, Option, None, refl, ap, ◌∙◌, subst, arith, AllByRecursion}
use Rattle.pref_core.proofs.Common.{AllZip, IsPermutation, list_any-IsPermutation, IsPermutation-trans, IsPermutation-sym, IsPermutation-cons, IsPermutation-middle, Version, Call}
use Rattle.pref_core.proofs.Common.{Caller, Line, among, put, without, with_rows, has, holds_key, IsOrdered, Entry, State, Client, committed, is_change, is_formed, changes_of, ended, begun, added}
use Rattle.pref_core.proofs.Common.{missing, Contents, StandsFor, StandsForClient, Shows, AreDifferent, IsWithin, visible, new_version, close, grown, AreFresh}
use Rattle.pref_core.proofs.TableLaws.{has-without, has_below, has_visible-new, IsOrdered-put}
use Rattle.pref_core.proofs.StandsForLaws.{put_permutes, Shows-close, clients-close, clients-later, AllZip-weaker}
use Rattle.pref_core.proofs.ChangesLaws.{ids_of, begun_fresh, found_all, formed_apart}
use Rattle.pref_core.proofs.SlotKeys.{slot_keys, slot_keys-close, holds_key-new, within-close, within-more}

-- the same table as the slots show
pub has_visible : (slots : List (Option Version)) (stamp : ℕ) (table : List Line) → Shows slots stamp table → (id : ℕ) → has (visible stamp slots) id ≡ has table id
has_visible slots stamp table shows id = list_any-IsPermutation (λ line. eqb line.id id) _ _ shows.lines

-- versions end, none begins
ended_stands : (contents : Contents) (state : State) (ids : List ℕ) (more : ℕ) → StandsFor contents state → StandsFor
    (record { slots = map (close ids (suc contents.stamp)) contents.slots; stamp = suc contents.stamp; next_id = contents.next_id + more; callers = contents.callers })
    (record { table = without ids state.table; next_id = state.next_id + more; commits = suc state.commits; clients = state.clients })
ended_stands contents state ids more h = record {
  stamp = ap suc h.stamp;
  next_id = ap (λ n. n + more) h.next_id;
  table = Shows-close ids contents.next_id contents.stamp contents.slots state.table h.within h.table;
  clients = clients-later contents.stamp _ _ _ (clients-close ids contents.stamp contents.slots _ _ h.clients);
  separate = rw (slot_keys-close ids (suc contents.stamp) contents.slots) h.separate;
  within = within-more contents.next_id _ _ _ (omega arith) (within-close ids contents.next_id contents.stamp contents.slots h.within);
}

-- the lines of the rows that begin
abbrev lines_of : ℕ → List Entry → List Line
lines_of made begun = map (λ fresh. record { id = fresh.id; made = made; row = fresh.row }) begun

-- new versions show their lines before the others
visible_born : (made : ℕ) (begun : List Entry) (slots : List (Option Version)) → visible made (map (new_version made) begun ++ slots) ≡ lines_of made begun ++ visible made slots
visible_born made [] slots = refl
visible_born made (fresh ∷ rest) slots = grind (arith, visible_born made rest slots)

-- a table with rows is, in some order, the rows and the table
rows_permute : (made : ℕ) (begun : List Entry) (lines table : List Line) → IsPermutation lines table → IsPermutation (lines_of made begun ++ lines) (with_rows made begun table)
rows_permute made [] lines table p = p
rows_permute made (fresh ∷ rest) lines table p =
    let first : Line = record { id = fresh.id; made = made; row = fresh.row } in
    IsPermutation-trans _ _ _ (IsPermutation-sym _ _ (IsPermutation-middle (lines_of made rest) first lines))
    (rows_permute made rest (first ∷ lines) (put first table) (IsPermutation-trans _ _ _ (IsPermutation-cons first lines table p) (put_permutes first table)))

-- what stays fresh once another row is there
fresh_put : (limit : ℕ) (shown : Line) (table : List Line) (begun : List Entry) → among (ids_of begun) shown.id ≡ false → AreFresh limit table begun → AreFresh limit (put shown table) begun
fresh_put limit shown table [] a h = grind (arith)
fresh_put limit shown table (fresh ∷ rest) a h = grind (arith, fresh_put limit shown table rest, list_any-IsPermutation (λ line. eqb line.id fresh.id) (shown ∷ table) (put shown table) (put_permutes shown table))

rows_ordered : (limit made : ℕ) (begun : List Entry) (table : List Line) → AreFresh limit table begun → IsOrdered table → IsOrdered (with_rows made begun table)
rows_ordered limit made [] table f h = h
rows_ordered limit made (fresh ∷ rest) table f h = grind (arith, rows_ordered limit made rest (put (record { id = fresh.id; made = made; row = fresh.row }) table) (fresh_put limit _ table rest f.2 f.3) (IsOrdered-put _ table h f.1))

clients_rows : (now : ℕ) (begun : List Entry) (slots : List (Option Version)) (callers : List Caller) (clients : List Client) → AllZip (StandsForClient slots now) callers clients → AllZip (StandsForClient (map (new_version (suc now)) begun ++ slots) now) callers clients
clients_rows now [] slots callers clients h = h
clients_rows now (fresh ∷ rest) slots callers clients h = grind (arith, clients_rows now rest slots callers clients h, AllZip-weaker)

-- the keys of the new versions are new, and different
key_born : (made id : ℕ) (begun : List Entry) (slots : List (Option Version)) → among (ids_of begun) id ≡ false → holds_key (slot_keys slots) (record { id = id; made = made }) ≡ false → holds_key (slot_keys (map (new_version made) begun ++ slots)) (record { id = id; made = made }) ≡ false
key_born made id [] slots a h = grind (arith)
key_born made id (fresh ∷ rest) slots a h = grind (arith, key_born made id rest slots)

separate_rows : (limit next now : ℕ) (begun : List Entry) (table : List Line) (slots : List (Option Version)) → AreFresh limit table begun → ((id : ℕ) → holds_key (slot_keys slots) (record { id = id; made = suc now }) ≡ false) → AreDifferent (slot_keys slots) → AreDifferent (slot_keys (map (new_version (suc now)) begun ++ slots))
separate_rows limit next now [] table slots f new h = h
separate_rows limit next now (fresh ∷ rest) table slots f new h = (key_born (suc now) fresh.id rest slots f.2 (new fresh.id), separate_rows limit next now rest table slots f.3 new h)

within_rows : (limit now : ℕ) (begun : List Entry) (table : List Line) (slots : List (Option Version)) → AreFresh limit table begun → AllByRecursion (IsWithin limit (suc now)) slots → AllByRecursion (IsWithin limit (suc now)) (map (new_version (suc now)) begun ++ slots)
within_rows limit now [] table slots f h = h
within_rows limit now (fresh ∷ rest) table slots f h = ((f.0, omega arith, tt), within_rows limit now rest table slots f.3 h)

-- versions end, and others begin
begun_stands : (contents : Contents) (state : State) (ids : List ℕ) (more : ℕ) (begun : List Entry) → StandsFor contents state → AreFresh (contents.next_id + more) (without ids state.table) begun → StandsFor
    (record { slots = map (new_version (suc contents.stamp)) begun ++ map (close ids (suc contents.stamp)) contents.slots; stamp = suc contents.stamp; next_id = contents.next_id + more; callers = contents.callers })
    (record { table = with_rows (suc state.commits) begun (without ids state.table); next_id = state.next_id + more; commits = suc state.commits; clients = state.clients })
begun_stands contents state ids more begun h fresh =
    let base = ended_stands contents state ids more h in
    let closed : List (Option Version) = map (close ids (suc contents.stamp)) contents.slots in
    record {
      stamp = base.stamp;
      next_id = base.next_id;
      table = record {
        lines = subst (λ n. IsPermutation (visible (suc contents.stamp) (map (new_version (suc contents.stamp)) begun ++ closed)) (with_rows n begun (without ids state.table))) (ap suc h.stamp)
            (rw (visible_born (suc contents.stamp) begun closed) (rows_permute (suc contents.stamp) begun (visible (suc contents.stamp) closed) (without ids state.table) base.table.lines));
        ordered = rows_ordered (contents.next_id + more) (suc state.commits) begun (without ids state.table) fresh base.table.ordered;
      };
      clients = clients-later contents.stamp _ _ _ (clients_rows contents.stamp begun closed _ _ (clients-close ids contents.stamp contents.slots _ _ h.clients));
      separate = separate_rows (contents.next_id + more) contents.next_id contents.stamp begun (without ids state.table) closed fresh
          (λ id. rw (slot_keys-close ids (suc contents.stamp) contents.slots) (holds_key-new contents.next_id contents.stamp id contents.slots h.within)) base.separate;
      within = within_rows (contents.next_id + more) contents.stamp begun (without ids state.table) closed fresh base.within;
    }

-- the ids of the table are below the next one
pub id_below : (contents : Contents) (state : State) (id : ℕ) → StandsFor contents state → has state.table id ≡ true → id < contents.next_id
id_below contents state id h is = has_below contents.next_id contents.stamp contents.stamp contents.slots id h.within (has_visible contents.slots contents.stamp state.table h.table id ∙ is)

-- as if there were always empty slots
pub grown_stands : (contents : Contents) (state : State) (call : Call) → is_change call ≡ true → is_formed call ≡ true → missing (ended call) state.table ≡ None → StandsFor contents state → StandsFor (grown call contents) (committed call state)
grown_stands contents state call c formed m h =
    subst (λ n. StandsFor (grown call contents) (record { table = with_rows (suc state.commits) (begun n call) (without (ended call) state.table); next_id = state.next_id + added call; commits = suc state.commits; clients = state.clients })) h.next_id
    (begun_stands contents state (ended call) (added call) (begun contents.next_id call) h
    (begun_fresh contents.next_id contents.next_id (contents.next_id + added call) (without (ended call) state.table) (changes_of call) (omega arith) (omega arith)
    (λ id there. (id_below contents state id h (found_all (ended call) state.table m id there), grind (arith, has-without)))
    (λ id l. grind (arith, has-without, has_visible contents.slots contents.stamp state.table h.table id, has_visible-new contents.next_id contents.stamp contents.stamp contents.slots id h.within l))
    (formed_apart call formed)))
