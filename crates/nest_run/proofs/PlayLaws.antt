-- A call that was played: what it leaves, and that its reply is right if the notes turn out to be whole.
use Rattle.std.proofs.Common.{◌≡◌, ◌≢◌, ℕ, ◌+◌, ◌-◌, ◌*◌, ◌^◌, ◌<◌, ◌≤◌, ◌⊎◌, Bool, true, false, ◌&&◌, ◌||◌, List, [], ◌∷◌, ◌++◌, length, refl, sym, ap, ◌∙◌, subst, ⊎_elim, arith, None, eqb-true, ne_eqb}
use Rattle.std.specs.Prelude.{IsSome, ◌==◌, if◌then◌else◌}
use Rattle.pool_law.specs.declared.id.RootId.{RootId}
use Rattle.pool_law.specs.declared.note.Note.{Note}
use Rattle.pool_law.specs.declared.note.RefDid.TheVariants as steps
use Rattle.pool_table.specs.Counts.{HasCount}
use Rattle.shared_pool.specs.SeatViews.{view_of}
use Rattle.shared_pool.specs.declared.pool.SharedPool.{SharedPool}
use Rattle.shared_pool.specs.Seats.{IsPoolSeat}
use Rattle.seat_work.specs.Hands.{empty_hand}
use Rattle.seat_work.specs.Works.{Goes}
use Rattle.seat_work.proofs.Proceeding.{works_after}
use Rattle.counted_view.specs.declared.calls.NestCall.{NestCall}
use Rattle.counted_view.specs.declared.calls.NestCall.TheVariants as accepted
use Rattle.counted_view.specs.Nests.{NestState, after_call, held_view, root_counts, live_slices, has_all, range_no, slice_no, retain_no, release_no}
use Rattle.counted_view.specs.NestSeats.{CountsRoot, IsCountedIn, IsReleasedIf}
use Rattle.counted_view.proofs.SeatLaws.{HasCount-held, some_if_sliced, some_if_retained}
use Rattle.nest_run.specs.declared.calls.Call.{Call}
use Rattle.nest_run.specs.declared.calls.Call.TheVariants.{Slice, Retain, Release}
use Rattle.nest_run.specs.declared.replies.Reply.{Reply}
use Rattle.nest_run.specs.declared.replies.Reply.TheVariants as replies
use Rattle.nest_run.specs.declared.views.Playing.{Playing}
use Rattle.nest_run.specs.Plays.{step, let_go, released}
use Rattle.nest_run.specs.Standing.{log_of, Leave, IsWhole, HasBytes, stage_of, AreHeld, Stands, IsPlayed}
use Rattle.nest_run.proofs.LogLaws.{whole_before, bytes_kept}
use Rattle.nest_run.proofs.StepLaws.{view_done, range_done, slice_is_range, retain_is_release, after_held, after_long}
use Rattle.nest_run.proofs.SeatLogs.{Took, took, kept, ended}

-- ---- What holds between two calls.

module _ (pool : SharedPool) (old new : Playing) (calls : ℕ) (st : Stands pool (calls + 1) old)
    (goes : Goes pool empty_hand 4 1 old.seat new.seat) (counts : CountsRoot new.nest new.seat)
    (same : new.root ≡ old.root)
    (leave : Leave (log_of old.seat) old.nest.root (root_counts old.nest)
    → Leave (log_of new.seat) old.nest.root (root_counts new.nest)) where
  -- with another nest of the root
  stands_by : (root : new.nest.root ≡ old.nest.root) → new.nest.bound ≡ old.nest.bound
      → length new.nest.views ≤ length old.nest.views + 1 → AreHeld (st.most + 1) new.nest.views
      → Stands pool calls new
  stands_by root bound long held = record {
    works =
        works_after pool empty_hand empty_hand (4 * (calls + 1)) (calls + 1) 4 1 (4 * calls) calls old.seat new.seat
        st.works goes (omega arith) (omega arith);
    counts = counts;
    root = same ∙ st.root ∙ sym root;
    place = ap (λ (r : RootId). r.place) root ∙ st.place;
    capacity = (let a = ap (λ (r : RootId). r.capacity) root in let b = st.capacity in omega (arith, a, b));
    bound = bound ∙ st.bound;
    few = (let a = st.few in omega (arith, a, long));
    most = st.most + 1;
    held = held;
    enough = (let a = st.enough in omega (arith, a));
    leave = subst (λ (r : RootId). Leave (log_of new.seat) r (root_counts new.nest)) (sym root) (leave st.leave);
  }

  -- once a call was accepted
  pub stands_after : (call : NestCall) → new.nest ≡ after_call old.nest call → Stands pool calls new
  stands_after call is =
      stands_by (ap (λ (s : NestState). s.root) is) (ap (λ (s : NestState). s.bound) is)
      (let a = after_long old.nest call in let b = ap (λ (s : NestState). length s.views) is in omega (arith, a, b))
      (subst (λ (s : NestState). AreHeld (st.most + 1) s.views) (sym is)
      (after_held old.nest call st.most st.held))

  -- once nothing became of the nest
  pub stands_still : new.nest ≡ old.nest → Stands pool calls new
  stands_still is =
      stands_by (ap (λ (s : NestState). s.root) is) (ap (λ (s : NestState). s.bound) is)
      (let b = ap (λ (s : NestState). length s.views) is in omega (arith, b))
      (subst (λ (s : NestState). AreHeld (st.most + 1) s.views) (sym is)
      (λ v x e. (let a = st.held v x e in omega (arith, a))))

-- ---- A call that took a count or left all.

pub took_played : (pool : SharedPool) (call : Call) (old new : Playing) (reply : Reply) (nested : NestCall)
    → Took pool old.nest new.nest old.seat new.seat → CountsRoot new.nest new.seat → new.root ≡ old.root
    → new.nest ≡ after_call old.nest nested
    → (IsWhole (log_of new.seat) → (bytes : List ℕ)
    → step (stage_of old.nest bytes) call ≡ (reply, stage_of new.nest bytes))
    → IsPlayed pool call old reply new
took_played pool call old new reply nested t counts same is right = record {
  next = λ calls st. stands_after pool old new calls st t.goes counts same t.leave nested is;
  whole = λ w. whole_before (log_of old.seat) t.more (subst IsWhole t.log w);
  right = λ w bytes has. record {
    then_bytes = bytes;
    step_is = right w bytes;
    has = subst (λ (ns : List Note). HasBytes ns bytes) (sym t.log)
        (bytes_kept (log_of old.seat) t.more bytes t.quiet has);
  };
}

-- the root is counted where its own view is
counted_at_zero : (old : Playing) (of : ℕ) → CountsRoot old.nest old.seat → IsSome (held_view old.nest of)
    → (of == 0) ≡ true → HasCount old.nest.root (view_of old.seat)
counted_at_zero old of counts held zero =
    HasCount-held old.nest old.nest.root old.seat of refl (eqb-true of 0 zero) held counts

module _ (pool : SharedPool) (old new : Playing) (st : Stands pool 1 old) (seat : IsPoolSeat pool new.seat)
    (counts : CountsRoot new.nest new.seat) (same : new.root ≡ old.root) where
  pub slice_played : (of at len number : ℕ) → slice_no (has_all old.nest) (held_view old.nest of) at len ≡ None
      → number ≡ length old.nest.views → new.nest ≡ after_call old.nest (accepted.Slice of at len)
      → IsCountedIn of old.nest.root old.seat new.seat
      → IsPlayed pool (Slice of at len) old (replies.Sliced number) new
  slice_played of at len number why is after did =
      let root = ap (λ (s : NestState). s.root) after in
      let held = some_if_sliced (has_all old.nest) (held_view old.nest of) at len why in
      let t = took pool old.nest new.nest old.seat new.seat st.works seat root st.counts counts (of == 0)
      (counted_at_zero old of st.counts held) did in
      let range : range_no (held_view old.nest of) at len ≡ None =
      sym (slice_is_range old.nest of at len
      (let a = st.few in let b = st.bound in omega (arith, a, b))) ∙ why in
      took_played pool (Slice of at len) old new (replies.Sliced number) (accepted.Slice of at len) t counts same after
      (λ w bytes.
      (let d = range_done (stage_of old.nest bytes) (held_view old.nest of) at len
      (λ x. (replies.Sliced (length old.nest.views), stage_of (after_call old.nest (accepted.Slice of at len)) bytes))
      range in
      d.2 ∙ (λ i. (replies.Sliced (sym is i), stage_of (sym after i) bytes))))

  pub retain_played : (of : ℕ) → retain_no (held_view old.nest of) ≡ None
      → new.nest ≡ after_call old.nest (accepted.Retain of) → IsCountedIn of old.nest.root old.seat new.seat
      → IsPlayed pool (Retain of) old replies.Done new
  retain_played of why after did =
      let root = ap (λ (s : NestState). s.root) after in
      let held = some_if_retained (held_view old.nest of) why in
      let t = took pool old.nest new.nest old.seat new.seat st.works seat root st.counts counts (of == 0)
      (counted_at_zero old of st.counts held) did in
      let lets : release_no (held_view old.nest of) ≡ None =
      sym (retain_is_release old.nest of st.most st.held (let a = st.enough in omega (arith, a))) ∙ why in
      took_played pool (Retain of) old new replies.Done (accepted.Retain of) t counts same after
      (λ w bytes.
      (let d = view_done (stage_of old.nest bytes) (held_view old.nest of)
      (λ x. (replies.Done, stage_of (after_call old.nest (accepted.Retain of)) bytes)) lets in
      d.2 ∙ (λ i. (replies.Done, stage_of (sym after i) bytes))))

-- ---- A release.

-- what it is answered, by how many views ended and how often the root is counted then
pub release_step : (n m : NestState) (of count : ℕ) (root : Bool) (bytes : List ℕ)
    → release_no (held_view n of) ≡ None → m ≡ after_call n (accepted.Release of)
    → count + live_slices m ≡ live_slices n → (root_counts m == 0) ≡ root
    → step (stage_of n bytes) (Release of) ≡ (let_go count root, stage_of m bytes)
release_step n m of count root bytes why after sum zero =
    let d = view_done (stage_of n bytes) (held_view n of) (λ x. (
      released n (after_call n (accepted.Release of)),
      stage_of (after_call n (accepted.Release of)) bytes,
    )) why in
    let many : live_slices n - live_slices m ≡ count = omega (arith, sum) in
    d.2 ∙ (λ i. (released n (sym after i), stage_of (sym after i) bytes))
    ∙ (λ i. (let_go (many i) (zero i), stage_of m bytes))

module _ (pool : SharedPool) (old new : Playing) (of count : ℕ) (st : Stands pool 1 old) (same : new.root ≡ old.root)
    (why : release_no (held_view old.nest of) ≡ None) (after : new.nest ≡ after_call old.nest (accepted.Release of))
    (some : 0 < root_counts old.nest) (sum : count + live_slices new.nest ≡ live_slices old.nest) where
  pub kept_played : (lost : Bool) → IsPoolSeat pool new.seat → CountsRoot new.nest new.seat
      → IsReleasedIf lost old.nest.root None old.seat new.seat
      → IsPlayed pool (Release of) old (let_go count false) new
  kept_played lost seat counts did =
      let root = ap (λ (s : NestState). s.root) after in
      let k = kept pool old.nest new.nest old.seat new.seat st.works seat root st.counts counts some lost did in
      took_played pool (Release of) old new (let_go count false) (accepted.Release of) k.took counts same after
      (λ w bytes. release_step old.nest new.nest of count false bytes why after sum
      (ne_eqb (root_counts new.nest) 0 (λ e. (let a = k.counted st.leave w in omega (arith, a, e)))))
