-- Calls that are refused.
use Rattle.std.proofs.Common.{◌≡◌, ◌≢◌, ℕ, ◌+◌, ◌-◌, ◌*◌, ◌^◌, ◌<◌, ◌≤◌, ◌⊎◌, Bool, true, false, ◌&&◌, ◌||◌, List, [], ◌∷◌, ◌++◌, length, refl, sym, ◌∙◌, subst, ⊎_elim, arith, Some, None}
use Rattle.std.specs.Prelude.{Option, ◌==◌, if◌then◌else◌, nat_le}
use Rattle.std.proofs.lemmas.Bool.Decides.{nat_tests}
use Rattle.pool_law.specs.declared.note.RefDid.TheVariants as steps
use Rattle.pool_law.specs.Roots.{laid_over, bytes_at}
use Rattle.pool_law.specs.Views.{root_index}
use Rattle.shared_pool.specs.declared.pool.SharedPool.{SharedPool}
use Rattle.counted_view.specs.declared.calls.NestCall.TheVariants as accepted
use Rattle.counted_view.specs.declared.calls.NestNo.{NestNo}
use Rattle.counted_view.specs.declared.calls.NestNo.TheVariants.{Full, Range}
use Rattle.counted_view.specs.Nests.{NestedView, after_call, held_view, has_all, range_no, slice_no, retain_no, release_no}
use Rattle.nest_run.specs.declared.calls.Call.{Call}
use Rattle.nest_run.specs.declared.calls.Call.TheVariants.{Slice, Retain, Release, Set, Get}
use Rattle.nest_run.specs.declared.replies.Reply.TheVariants as replies
use Rattle.nest_run.specs.declared.views.Playing.{Playing}
use Rattle.nest_run.specs.Plays.{step, released}
use Rattle.nest_run.specs.Standing.{stage_of, Stands, IsPlayed, refusal}
use Rattle.nest_run.proofs.StepLaws.{view_refused, range_refused, release_not_full, range_not_full, slice_is_range, retain_is_release}

-- with fewer calls to come
pub stands_fewer : (pool : SharedPool) (p : Playing) (n m : ℕ) → m ≤ n → Stands pool n p → Stands pool m p
stands_fewer pool p n m le st = record {
  works = record {
    seat = st.works.seat;
    held = st.works.held;
    paid = st.works.paid;
    turns_left = (let a = st.works.turns_left in omega (arith, a, le));
    moves_left = (let a = st.works.moves_left in omega (arith, a, le));
  };
  counts = st.counts;
  root = st.root;
  place = st.place;
  capacity = st.capacity;
  bound = st.bound;
  few = (let a = st.few in omega (arith, a, le));
  most = st.most;
  held = st.held;
  enough = (let a = st.enough in omega (arith, a, le));
  leave = st.leave;
}

-- ---- A call that is refused.

pub refused_played : (pool : SharedPool) (call : Call) (old new : Playing) (why : NestNo) → new ≡ old
    → ((bytes : List ℕ) → step (stage_of old.nest bytes) call ≡ (refusal why, stage_of old.nest bytes))
    → IsPlayed pool call old (refusal why) new
refused_played pool call old new why same is =
    subst (λ (p : Playing). IsPlayed pool call old (refusal why) p) (sym same) (record {
      next = λ calls st. stands_fewer pool old (calls + 1) calls (omega arith) st;
      whole = λ w. w;
      right = λ w bytes has. record { then_bytes = bytes; step_is = is bytes; has = has };
    })

-- ---- Refusals, by what the nest answers.

module _ (pool : SharedPool) (old : Playing) (st : Stands pool 1 old) where
  slice_as : (of at len : ℕ) (why : NestNo) → slice_no (has_all old.nest) (held_view old.nest of) at len ≡ Some why
      → range_no (held_view old.nest of) at len ≡ Some why
  slice_as of at len why e =
      sym (slice_is_range old.nest of at len (let a = st.few in let b = st.bound in omega (arith, a, b))) ∙ e

  retain_as : (of : ℕ) (why : NestNo) → retain_no (held_view old.nest of) ≡ Some why
      → release_no (held_view old.nest of) ≡ Some why
  retain_as of why e =
      sym (retain_is_release old.nest of st.most st.held (let a = st.enough in omega (arith, a))) ∙ e

  pub slice_may : (of at len : ℕ) (why : NestNo) → slice_no (has_all old.nest) (held_view old.nest of) at len ≡ Some why
      → why ≢ Full
  slice_may of at len why e = range_not_full (held_view old.nest of) at len why (slice_as of at len why e)

  pub retain_may : (of : ℕ) (why : NestNo) → retain_no (held_view old.nest of) ≡ Some why → why ≢ Full
  retain_may of why e = release_not_full (held_view old.nest of) why (retain_as of why e)

  pub slice_refused : (new : Playing) (of at len : ℕ) (why : NestNo) → new ≡ old
      → slice_no (has_all old.nest) (held_view old.nest of) at len ≡ Some why
      → IsPlayed pool (Slice of at len) old (refusal why) new
  slice_refused new of at len why same e =
      refused_played pool (Slice of at len) old new why same (λ bytes.
      range_refused (stage_of old.nest bytes) (held_view old.nest of) at len
      (λ x. (replies.Sliced (length old.nest.views), stage_of (after_call old.nest (accepted.Slice of at len)) bytes))
      why (slice_as of at len why e))

  pub retain_refused : (new : Playing) (of : ℕ) (why : NestNo) → new ≡ old
      → retain_no (held_view old.nest of) ≡ Some why → IsPlayed pool (Retain of) old (refusal why) new
  retain_refused new of why same e =
      refused_played pool (Retain of) old new why same (λ bytes.
      view_refused (stage_of old.nest bytes) (held_view old.nest of)
      (λ x. (replies.Done, stage_of (after_call old.nest (accepted.Retain of)) bytes)) why (retain_as of why e))

pub release_refused : (pool : SharedPool) (old new : Playing) (of : ℕ) (why : NestNo) → new ≡ old
    → release_no (held_view old.nest of) ≡ Some why → IsPlayed pool (Release of) old (refusal why) new
release_refused pool old new of why same e =
    refused_played pool (Release of) old new why same (λ bytes.
    view_refused (stage_of old.nest bytes) (held_view old.nest of) (λ x. (
      released old.nest (after_call old.nest (accepted.Release of)),
      stage_of (after_call old.nest (accepted.Release of)) bytes,
    )) why e)

pub set_refused : (pool : SharedPool) (old new : Playing) (of at : ℕ) (bytes : List ℕ) (why : NestNo) → new ≡ old
    → range_no (held_view old.nest of) at (length bytes) ≡ Some why
    → IsPlayed pool (Set of at bytes) old (refusal why) new
set_refused pool old new of at bytes why same e =
    refused_played pool (Set of at bytes) old new why same (λ there.
    range_refused (stage_of old.nest there) (held_view old.nest of) at (length bytes)
    (λ x. (replies.Done, stage_of old.nest (laid_over there (root_index x.at at) bytes))) why e)

pub get_refused : (pool : SharedPool) (old new : Playing) (of at len : ℕ) (why : NestNo) → new ≡ old
    → range_no (held_view old.nest of) at len ≡ Some why → IsPlayed pool (Get of at len) old (refusal why) new
get_refused pool old new of at len why same e =
    refused_played pool (Get of at len) old new why same (λ there.
    range_refused (stage_of old.nest there) (held_view old.nest of) at len
    (λ x. (replies.Read (bytes_at there (root_index x.at at) len), stage_of old.nest there)) why e)

-- what leaves a view with a shorter range, leaves it with a longer
pub longer_refused : (o : Option NestedView) (at len more : ℕ) (why : NestNo) → len ≤ more
    → range_no o at len ≡ Some why → range_no o at more ≡ Some why
longer_refused None at len more why le e = e
longer_refused (Some x) at len more why le e =
    by (nat_le (at + len) x.at.len) (nat_le (at + more) x.at.len) refl refl e
  where
    by : (a b : Bool) → nat_le (at + len) x.at.len ≡ a → nat_le (at + more) x.at.len ≡ b
        → ◌≡◌ {A = Option NestNo} (if a then None else Some Range) (Some why)
        → ◌≡◌ {A = Option NestNo} (if b then None else Some Range) (Some why)
    by true b s m e = absurd (cc e)
    by false false s m e = e
    by false true s m e = absurd (grind (arith, nat_tests))
