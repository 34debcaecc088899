-- Accesses to the root's bytes.
use Rattle.std.proofs.Common.{◌≡◌, ◌≢◌, ℕ, ◌+◌, ◌-◌, ◌*◌, ◌^◌, ◌<◌, ◌≤◌, ◌⊎◌, ◌&&◌, ◌||◌, List, [], ◌∷◌, ◌++◌, length, refl, sym, ap, ◌∙◌, subst, ⊎_elim, arith, Some, None}
use Rattle.std.specs.Prelude.{Option, IfSome, ◌==◌, if◌then◌else◌, min}
use Rattle.pool_law.specs.declared.id.RootId.{RootId}
use Rattle.pool_law.specs.declared.note.Did.{Did}
use Rattle.pool_law.specs.declared.note.Note.{Note}
use Rattle.pool_law.specs.declared.note.Note.TheVariants.{At}
use Rattle.pool_law.specs.declared.note.Object.{Object}
use Rattle.pool_law.specs.declared.note.RefDid.TheVariants as steps
use Rattle.pool_law.specs.Roots.{laid_over, bytes_at}
use Rattle.pool_law.specs.Views.{root_index}
use Rattle.pool_table.specs.Counts.{HasCount}
use Rattle.shared_pool.specs.SeatViews.{view_of}
use Rattle.shared_pool.specs.declared.pool.SharedPool.{SharedPool}
use Rattle.shared_pool.specs.RootNotes.{access}
use Rattle.shared_pool.specs.Seats.{IsNoted}
use Rattle.seat_work.specs.Changes.{no_change}
use Rattle.seat_work.specs.Hands.{empty_hand}
use Rattle.seat_work.specs.Works.{Works, Proceeds}
use Rattle.seat_work.proofs.Proceeding.{proceeds_more}
use Rattle.counted_view.specs.declared.calls.NestCall.TheVariants as accepted
use Rattle.counted_view.specs.Nests.{NestedView, NestState, held_view, root_counts, range_no}
use Rattle.counted_view.specs.NestSeats.{CountsRoot}
use Rattle.nest_run.specs.declared.calls.Call.{Call}
use Rattle.nest_run.specs.declared.calls.Call.TheVariants.{Set, Get}
use Rattle.nest_run.specs.declared.replies.Reply.{Reply}
use Rattle.nest_run.specs.declared.replies.Reply.TheVariants as replies
use Rattle.nest_run.specs.declared.views.Playing.{Playing}
use Rattle.nest_run.specs.Plays.{step}
use Rattle.nest_run.specs.Standing.{log_of, Leave, IsWhole, HasBytes, stage_of, Stands, IsPlayed}
use Rattle.nest_run.proofs.LogLaws.{whole_before, bytes_set, bytes_got, bytes_read, leave_same}
use Rattle.nest_run.proofs.StepLaws.{range_done}
use Rattle.nest_run.proofs.SeatLogs.{log_noted}
use Rattle.nest_run.proofs.PlayLaws.{stands_still}
use Rattle.nest_run.proofs.OpenLaws.{works_less}

-- ---- An access to the root's bytes.

module _ (pool : SharedPool) (old new : Playing) (st : Stands pool 1 old) (same : new.root ≡ old.root)
    (still : new.nest ≡ old.nest) (on : Proceeds pool empty_hand 1 0 no_change old.seat new.seat) (did : Did)
    (noted : (number : ℕ) × IsNoted pool old.seat new.seat (Object.Root old.root.place) number (access old.root did))
  where
    accessed_log : log_of new.seat ≡ log_of old.seat ++ At (Object.Root 0) noted.0 did ∷ []
    accessed_log =
        log_noted old.seat new.seat pool (Object.Root old.root.place) noted.0 (access old.root did) noted.1
        ∙ ap (λ (p : ℕ). log_of old.seat ++ At (Object.Root p) noted.0 did ∷ [])
        (ap (λ (r : RootId). r.place) st.root ∙ st.place)

    accessed_counts : CountsRoot new.nest new.seat
    accessed_counts =
        subst (λ (s : NestState). CountsRoot s new.seat) (sym still)
        (let a = on.changes.counts old.nest.root in let b = st.counts in omega (arith, a, b))

    accessed_next : (calls : ℕ) → Stands pool (calls + 1) old → Stands pool calls new
    accessed_next calls from =
        stands_still pool old new calls from
        (proceeds_more pool no_change empty_hand 1 0 4 1 old.seat new.seat on (omega arith) (omega arith)).goes
        accessed_counts same
        (λ left. subst (λ (s : NestState). Leave (log_of new.seat) old.nest.root (root_counts s)) (sym still)
        (subst (λ (ns : List Note). Leave ns old.nest.root (root_counts old.nest)) (sym accessed_log)
        (leave_same (log_of old.seat) (At (Object.Root 0) noted.0 did ∷ []) old.nest.root (root_counts old.nest)
        refl refl refl left))) still

    accessed_whole : IsWhole (log_of new.seat) → IsWhole (log_of old.seat ++ At (Object.Root 0) noted.0 did ∷ [])
    accessed_whole w = subst IsWhole accessed_log w

    -- with these bytes from then on
    accessed_played : (call : Call) (reply : Reply) (bytes_then : List ℕ → List ℕ)
        → (IsWhole (log_of old.seat ++ At (Object.Root 0) noted.0 did ∷ []) → (bytes : List ℕ)
        → HasBytes (log_of old.seat) bytes
        → (step (stage_of old.nest bytes) call ≡ (reply, stage_of old.nest (bytes_then bytes)))
        × HasBytes (log_of old.seat ++ At (Object.Root 0) noted.0 did ∷ []) (bytes_then bytes))
        → IsPlayed pool call old reply new
    accessed_played call reply bytes_then right = record {
      next = accessed_next;
      whole = λ w. whole_before (log_of old.seat) (At (Object.Root 0) noted.0 did ∷ []) (accessed_whole w);
      right = λ w bytes has.
          (let r = right (accessed_whole w) bytes has in
          record {
            then_bytes = bytes_then bytes;
            step_is = r.0 ∙ ap (λ (s : NestState). (reply, stage_of s (bytes_then bytes))) (sym still);
            has = subst (λ (ns : List Note). HasBytes ns (bytes_then bytes)) (sym accessed_log) r.1;
          });
    }

-- where a range of a view lies
abbrev pub FoundAt : Option NestedView → ℕ → ℕ → ℕ → ℕ → Type 0
FoundAt o at n offset k = IfSome o (λ y. ◌≡◌ {A = ℕ × ℕ} (offset, k) (root_index y.at at, n))

found_at : (o : Option NestedView) (x : NestedView) (at n offset k : ℕ) → o ≡ Some x → FoundAt o at n offset k
    → (offset ≡ root_index x.at at) × (k ≡ n)
found_at o x at n offset k e found =
    let is : ◌≡◌ {A = ℕ × ℕ} (offset, k) (root_index x.at at, n) =
    subst (λ (p : Option NestedView). FoundAt p at n offset k) e found in
    (ap (λ (r : ℕ × ℕ). r.0) is, ap (λ (r : ℕ × ℕ). r.1) is)

-- the seat counts the root
pub may_access : (pool : SharedPool) (old : Playing) → Stands pool 1 old → 0 < root_counts old.nest
    → HasCount old.root (view_of old.seat)
may_access pool old st some =
    subst (λ (r : RootId). HasCount r (view_of old.seat)) (sym st.root)
    (let a = st.counts in omega (arith, a, some))

-- and has a turn
pub may_work : (pool : SharedPool) (old : Playing) → Stands pool 1 old → Works pool empty_hand 1 0 old.seat
may_work pool old st = works_less pool empty_hand 4 1 1 0 old.seat st.works (omega arith) (omega arith)

-- a range that was found lies in the root, and is as long as it was asked for
pub found_inside : (pool : SharedPool) (old : Playing) → Stands pool 1 old → (of at n offset k long : ℕ)
    → range_no (held_view old.nest of) at n ≡ None → FoundAt (held_view old.nest of) at n offset k
    → offset + k ≤ old.nest.root.capacity → n ≡ min long (2 ^ 32 - 1)
    → (n ≡ long) × (offset + long ≤ old.root.capacity)
found_inside pool old st of at n offset k long range found inside short =
    let d = range_done (stage_of old.nest []) (held_view old.nest of) at n (λ x. (replies.Gone, stage_of old.nest []))
    range in
    let is = found_at (held_view old.nest of) d.0 at n offset k d.1 found in let size = is.1 in
    let small = st.capacity in let same = ap (λ (r : RootId). r.capacity) st.root in
    let whole : n ≡ long = omega (arith, short, inside, size, small) in
    (whole, omega (arith, inside, size, whole, same))

module _ (pool : SharedPool) (old new : Playing) (st : Stands pool 1 old) (same : new.root ≡ old.root)
    (still : new.nest ≡ old.nest) (on : Proceeds pool empty_hand 1 0 no_change old.seat new.seat) where
  pub set_played : (of at n offset k : ℕ) (bytes : List ℕ)
      → (number : ℕ) × IsNoted pool old.seat new.seat (Object.Root old.root.place) number
      (access old.root (Did.Set offset bytes))
      → range_no (held_view old.nest of) at n ≡ None → FoundAt (held_view old.nest of) at n offset k
      → n ≡ length bytes → IsPlayed pool (Set of at bytes) old replies.Done new
  set_played of at n offset k bytes noted none found long =
      let range : range_no (held_view old.nest of) at (length bytes) ≡ None =
      ap (range_no (held_view old.nest of) at) (sym long) ∙ none in
      accessed_played pool old new st same still on (Did.Set offset bytes) noted (Set of at bytes) replies.Done
      (λ (there : List ℕ). laid_over there offset bytes)
      (λ w there has.
      (let d = range_done (stage_of old.nest there) (held_view old.nest of) at (length bytes)
      (λ x. (replies.Done, stage_of old.nest (laid_over there (root_index x.at at) bytes))) range in
      let is = (found_at (held_view old.nest of) d.0 at n offset k d.1 found).0 in (
        d.2 ∙ ap (λ (i : ℕ). (replies.Done, stage_of old.nest (laid_over there i bytes))) (sym is),
        bytes_set (log_of old.seat) noted.0 offset bytes there has,
      )))

  pub get_played : (of at offset k len : ℕ) (out : List ℕ)
      → (number : ℕ) × IsNoted pool old.seat new.seat (Object.Root old.root.place) number
      (access old.root (Did.Get offset out))
      → length out ≡ len → range_no (held_view old.nest of) at len ≡ None
      → FoundAt (held_view old.nest of) at len offset k
      → IsPlayed pool (Get of at len) old (replies.Read out) new
  get_played of at offset k len out noted long range found =
      accessed_played pool old new st same still on (Did.Get offset out) noted (Get of at len) (replies.Read out)
      (λ (there : List ℕ). there)
      (λ w there has.
      (let d = range_done (stage_of old.nest there) (held_view old.nest of) at len
      (λ x. (replies.Read (bytes_at there (root_index x.at at) len), stage_of old.nest there)) range in
      let is = (found_at (held_view old.nest of) d.0 at len offset k d.1 found).0 in
      let read : out ≡ bytes_at there offset len =
      bytes_got (log_of old.seat) noted.0 offset out there w has
      ∙ ap (λ (n : ℕ). bytes_at there offset n) long in (
        d.2 ∙ ap (λ (i : ℕ). (replies.Read (bytes_at there i len), stage_of old.nest there)) (sym is)
            ∙ ap (λ (xs : List ℕ). (replies.Read xs, stage_of old.nest there)) (sym read),
        bytes_read (log_of old.seat) noted.0 offset out there has,
      )))
