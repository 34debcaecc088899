-- What an access to the bytes of a part leaves: what is in hand, what is spent, and what is counted.
use Rattle.std.proofs.Common.{◌≡◌, ℕ, ◌+◌, ◌<◌, ◌≤◌, List, [], ◌∷◌, ◌++◌, refl, sym, ap, ◌∙◌, subst, arith}
use Rattle.std.specs.Prelude.{false, map}
use Rattle.std.proofs.lemmas.List.{map-append}
use Rattle.std.proofs.lemmas.List.Sums.{sum_by-cons}
use Rattle.pool_law.specs.declared.id.RootId.{RootId}
use Rattle.pool_law.specs.declared.note.Did.{Did}
use Rattle.pool_law.specs.declared.note.Held.{Held}
use Rattle.pool_law.specs.declared.note.Object.{Object}
use Rattle.pool_law.specs.declared.note.Object.TheVariants.{Root}
use Rattle.pool_law.specs.Readers.{ToldNotes}
use Rattle.pool_law.proofs.SameLemmas.{same_root-is}
use Rattle.shared_pool.specs.declared.seat.PoolSeat.{PoolSeat}
use Rattle.pool_table.specs.declared.views.Entry.{Entry}
use Rattle.pool_table.specs.declared.views.SeatView.{SeatView}
use Rattle.pool_table.specs.Capacities.{knows_of}
use Rattle.pool_table.specs.Counts.{HasCount}
use Rattle.shared_pool.specs.SeatViews.{view_of}
use Rattle.shared_pool.specs.Closing.{entry_of}
use Rattle.shared_pool.specs.declared.pool.SharedPool.{SharedPool}
use Rattle.shared_pool.specs.RootNotes.{access}
use Rattle.shared_pool.specs.Seats.{IsPoolSeat, IsNoted, FoundBusy}
use Rattle.seat_work.specs.Changes.{no_change}
use Rattle.seat_work.specs.Hands.{lane_in, empty_hand, IsHeld}
use Rattle.seat_work.proofs.Accesses.{IsQuiet}
use Rattle.seat_work.proofs.Counting.{changes_by, still_counts}
use Rattle.seat_work.proofs.Grown.{Grows, note_at, grows_noted, grows_held}
use Rattle.seat_work.proofs.HandLaws.{held_on}
use Rattle.lane_stages.specs.declared.counts.Counted.{Counted}
use Rattle.lane_stages.specs.Budgets.{Left, notes_alone, Spends, takes}
use Rattle.lane_stages.specs.Counting.{counted, CountsAre}
use Rattle.lane_stages.proofs.AccessEntries.{IsAccessDid}
use Rattle.lane_stages.proofs.EntryCounts.{recounted, still}
use Rattle.lane_stages.proofs.SeatCounts.{is_counted}
use Rattle.lane_stages.proofs.Grown.{spends}
use Rattle.lane_stages.proofs.Knowing.{knows_more}

module _ (pool : SharedPool) (old new : PoolSeat) (was : IsPoolSeat pool old)
    (is : IsPoolSeat pool new) where
  abbrev v : SeatView
  v = view_of old

  abbrev w : SeatView
  w = view_of new

  -- an access to a root, which was noted there
  module _ (r : RootId) (number : ℕ) (did : Did) (noted : IsNoted pool old new (Root r.place) number (access r did))
    where
      abbrev pub part_entry : Entry
      part_entry = note_at pool old new was is (Root r.place) number (access r did)

      grows : Grows v w (part_entry ∷ []) 0
      grows = grows_noted pool old new was is (Root r.place) number (access r did) noted

      pub hand_on : IsQuiet r number v.own.number did → IsHeld empty_hand v → IsHeld empty_hand w
      hand_on quiet held =
          held_on v w (part_entry ∷ []) 0 empty_hand empty_hand grows (quiet.carries (lane_in v)) held

      -- a root that the seat counted is counted still
      pub counts_on : IsQuiet r number v.own.number did → (q : RootId) → HasCount q v → HasCount q w
      counts_on quiet q has =
          still_counts no_change v w q refl (changes_by no_change v w (part_entry ∷ []) 0 grows quiet.tells) has

      -- and no less of it is known
      pub knows_on : (q : RootId) → knows_of q v ≤ knows_of q w
      knows_on = knows_more v w (part_entry ∷ []) grows.more

      -- one note is spent
      pub one_spent : IsAccessDid r number v.own.number did → (before after : ℕ) → after + 1 ≤ before
          → Spends v w (notes_alone before) (notes_alone after)
      one_spent did_is before after le =
          let taken = sum_by-cons takes part_entry [] in let none = did_is.none_taken in
          spends v w (part_entry ∷ []) 0 grows (notes_alone before) (notes_alone after) (omega (arith, le))
          (omega (arith, taken, none)) (omega arith)
          (λ to. (let a = did_is.none_sent (lane_in v) to in omega (arith, a)))

      -- the list of counts is right still
      pub same_counts : IsAccessDid r number v.own.number did → HasCount r v → (cs : List Counted)
          → CountsAre cs (map entry_of v.own.notes) → CountsAre cs (map entry_of w.own.notes)
      same_counts did_is has cs are =
          let es : ToldNotes = map entry_of v.own.notes in
          let some : 0 < counted cs r = is_counted cs v was.alone are r has in
          let more : map entry_of w.own.notes ≡ es ++ entry_of part_entry ∷ [] = ap (map entry_of) grows.more.notes
          ∙ map-append entry_of v.own.notes (part_entry ∷ []) in
          subst (CountsAre cs) (sym more)
          (recounted cs cs es (entry_of part_entry ∷ []) are
          (still cs (entry_of part_entry) did_is.is_still
          (λ root uses. subst (λ (q : RootId). 0 < counted cs q) (same_root-is r root uses) some)))

  -- another seat was there, and all is as it was
  module _ (o : Object) (held : Held) (found : FoundBusy pool o false old new held) where
    pub same_view : view_of new ≡ view_of old
    same_view = ap (λ m. m.0) found.marked

    pub none_spent : (left : Left) → Spends v w left left
    none_spent left =
        let grows : Grows v w [] 0 = grows_held pool old new was is o held found in
        spends v w [] 0 grows left left (omega arith) (omega arith) (omega arith) (λ to. omega arith)
