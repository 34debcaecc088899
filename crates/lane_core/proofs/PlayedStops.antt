-- A reply in a run is `stopped` exactly where its lane's gate stops it at its line or at an earlier one.
use Rattle.std.proofs.Common.{⊎_elim, ◌≡◌, ℕ, zero, suc, ◌-◌, ◌<◌, ◌≤◌, Bool, true, false, List, [], ◌∷◌, length, take, drop, sym, ap, ◌∙◌, subst, arith, Some}
use Rattle.std.specs.Prelude.{All, slice_get}
use Rattle.std.proofs.lemmas.Bool.{cases_lt}
use Rattle.std.proofs.lemmas.Option.{option_and_then_some, get_or_from_slice_get, slice_get_within}
use Rattle.circular_buffer.proofs.Places.{slice_get-drop}
use Rattle.pool_law.specs.declared.command.Command.{Command}
use Rattle.pool_law.specs.declared.run.Answered.{Answered}
use Rattle.pool_law.specs.declared.run.Reply.{Reply}
use Rattle.pool_law.specs.declared.run.Reply.TheVariants.{Stopped}
use Rattle.pool_law.specs.declared.run.Run.{Run}
use Rattle.pool_law.specs.declared.run.Shape.{Shape}
use Rattle.pool_law.specs.LaneLaw.{before_stop, note_counts, pieces, replies_in, stopped_run}
use Rattle.pool_law.specs.Lanes.{not_carried_out}
use Rattle.pool_law.specs.LaneStates.{log_at, new_lane}
use Rattle.pool_law.specs.Readers.{ToldNotes, read_all}
use Rattle.shared_pool.specs.declared.pool.SharedPool.{SharedPool}
use Rattle.lane_core.specs.declared.lane.Lane.{Lane}
use Rattle.lane_core.specs.Lanes.{Heeds, answered_entries, number_of}
use Rattle.lane_core.specs.Played.{AreFinished, IsFinishedLane, IsHeeded, IsRunOf, StopsAsAsked}
use Rattle.lane_core.proofs.PlayedAnswers.{passed-over}
use Rattle.lane_core.proofs.PlayedLists.{length-map}
use Rattle.lane_core.proofs.PlayedLogs.{replies-at}
use Rattle.lane_core.proofs.PlayedSeats.{lane-at}

-- no reply says so before the first that does
before-stop : (rs : List Reply) (k : ℕ) (r : Reply) → slice_get rs k ≡ Some r → k < before_stop rs → r ≡ Stopped → ⊥
before-stop [] k r e lt is = omega (arith, lt)
before-stop (Reply.Stopped ∷ rs) k r e lt is = omega (arith, lt)
before-stop (x ∷ rs) zero r e lt is = (cc)
before-stop (x ∷ rs) (suc k) r e lt is = before-stop rs k r e (omega (arith, lt)) is

-- each reply of a stopped lane does
behind-stop : (lane : ℕ) (cs : List Command) (gs : List ToldNotes) (rs : List Reply) (k : ℕ) (r : Reply)
    → stopped_run lane cs gs ≡ Some rs → slice_get rs k ≡ Some r → r ≡ Stopped
behind-stop lane [] [] rs k r run e =
    let same : ◌≡◌ {A = List Reply} [] rs = cc run in
    let none : slice_get {X = Reply} [] k ≡ Some r = ap (λ (xs : List Reply). slice_get xs k) same ∙ e in cc
behind-stop lane [] (g ∷ gs) rs k r run e = cc
behind-stop lane (c ∷ cs) [] rs k r run e = cc
behind-stop lane (c ∷ cs) (g ∷ gs) rs k r run e =
    option_and_then_some _ (read_all (not_carried_out lane c) (log_at new_lane g)) rs run
    (λ x had later. option_and_then_some _ (stopped_run lane cs gs) rs later
    (λ ys is last. go ys k (λ j at. behind-stop lane cs gs ys j r is at)
    (ap (λ (xs : List Reply). slice_get xs k) (first ys last) ∙ e)))
  where
    first : (ys : List Reply) → Some (Reply.Stopped ∷ ys) ≡ Some rs → Reply.Stopped ∷ ys ≡ rs
    first ys is = cc

    go : (ys : List Reply) (k : ℕ) → ((j : ℕ) → slice_get ys j ≡ Some r → r ≡ Stopped)
        → slice_get (Reply.Stopped ∷ ys) k ≡ Some r → r ≡ Stopped
    go ys zero is at = cc
    go ys (suc k) is at = is k at

-- a lane that its gate let pass up to the first such reply, and stopped there
as-asked : (stops : ℕ → Bool) (rs : List Reply) (lane : ℕ) (cs : List Command) (gs : List ToldNotes)
    → ((line : ℕ) → line < before_stop rs → stops line ≡ false)
    → (before_stop rs < length rs → stops (before_stop rs) ≡ true)
    → stopped_run lane cs gs ≡ Some (drop (before_stop rs) rs) → StopsAsAsked stops rs
as-asked stops rs lane cs gs passed cause run line reply at = (
  (λ is. either (λ (early : line < before_stop rs). absurd (before-stop rs line reply at early is))
      (λ (late : before_stop rs ≤ line).
      (before_stop rs, late, cause (omega (arith, late, slice_get_within rs line reply at))))),
  (λ asked. either
      (λ (early : line < before_stop rs).
      let no = passed asked.0 (omega (arith, asked.1, early)) in let yes = asked.2 in absurd (cc))
      (λ (late : before_stop rs ≤ line).
      behind-stop lane cs gs (drop (before_stop rs) rs) (line - before_stop rs) reply run
      (slice_get-drop (before_stop rs) rs (line - before_stop rs) line (omega (arith, late)) ∙ at))),
)
  where
    either : {P : Type 0} → (line < before_stop rs → P) → (before_stop rs ≤ line → P) → P
    either f g = ⊎_elim f g (cases_lt line (before_stop rs))

-- a lane that has finished
lane-heeded : (pool : SharedPool) (k : ℕ) (l : Lane) (stops : ℕ → Bool) → IsFinishedLane pool k l → Heeds stops l
    → StopsAsAsked stops (replies_in l.context.replies.items)
lane-heeded pool k l stops f h =
    let rs = l.context.replies.items in let n = before_stop (replies_in rs) in
    let long = length-map (λ (a : Answered). a.reply) rs in
    as-asked stops (replies_in rs) (number_of l) (drop n (take (length rs) l.commands))
    (drop n (pieces (note_counts rs) (answered_entries l))) h.passed (λ lt. h.cause (omega (arith, lt, long)))
    (passed-over pool k l f).stopped

-- each lane of the run
pub are-heeded : (pool : SharedPool) (lanes : List Lane) (shape : Shape) (run : Run)
    → shape ≡ pool.table.layout.shape → AreFinished pool lanes → IsRunOf shape lanes run → (stops : ℕ → ℕ → Bool)
    → All (λ l. Heeds (stops (number_of l)) l) lanes → IsHeeded stops run
are-heeded pool lanes shape run same fin of stops all k lt =
    let a = lane-at pool lanes fin k (omega (arith, lt, ap (λ s. s.lanes) of.shape_is, ap (λ s. s.lanes) same)) in
    let l = a.0 in let f = a.2 in
    let at = get_or_from_slice_get lanes k l l a.1 in
    let h : Heeds (stops (number_of l)) l =
    subst (λ (x : Lane). Heeds (stops (number_of x)) x) at
    (all k l (omega (arith, slice_get_within lanes k l a.1))) in
    subst (λ (rs : List Answered). StopsAsAsked (stops k) (replies_in rs)) (sym (replies-at shape lanes run of k l a.1))
    (lane-heeded pool k l (stops k) f (subst (λ (n : ℕ). Heeds (stops n) l) f.number_is h))
