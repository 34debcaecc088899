-- A run is typed where each number of each list of it is.
use Rattle.std.proofs.Common.{◌≡◌, ℕ, zero, suc, ◌<◌, ◌^◌, List, [], ◌∷◌, Some, subst}
use Rattle.std.specs.Prelude.{map, slice_get}
use Rattle.std.specs.List.{All}
use Rattle.std.proofs.lemmas.List.Elements.{All-cons, All-nil}
use Rattle.pool_law.specs.declared.note.Note.{Note}
use Rattle.pool_law.specs.declared.run.LaneLog.{LaneLog}
use Rattle.pool_law.specs.declared.run.Run.{Run}
use Rattle.pool_law.specs.LaneLaw.{replies_in}
use Rattle.pool_law.specs.Logs.{of_lane}
use Rattle.arena_laws.specs.Slots.{EachOf}
use Rattle.run_text.specs.Derived.{AreFew}
use Rattle.run_text.specs.Ending.{FitsChunk, FitsLeak}
use Rattle.text_laws.specs.Typed.{IsNoteTyped, IsReplyTyped, IsTyped}

each-at : {X : Type 0} (P : X → Type 0) (xs : List X) (i : ℕ) (x : X) → EachOf P xs → slice_get xs i ≡ Some x → P x
each-at P [] i x all e = absurd (cc e)
each-at P (y ∷ xs) zero x all e = let same : y ≡ x = cc e in subst P same all.0
each-at P (y ∷ xs) (suc i) x all e = each-at P xs i x all.1 e

each-all : {X : Type 0} (P : X → Type 0) (xs : List X) → EachOf P xs → All P xs
each-all P [] all = All-nil P
each-all P (x ∷ xs) all = All-cons P x xs all.0 (each-all P xs all.1)

each-list : {X Y : Type 0} (P : X → Type 0) (list : Y → List X) (ys : List Y) → EachOf (λ y. EachOf P (list y)) ys
    → All (λ y. All P (list y)) ys
each-list P list [] all = All-nil (λ y. All P (list y))
each-list P list (y ∷ ys) all =
    All-cons (λ y. All P (list y)) y ys (each-all P (list y) all.0) (each-list P list ys all.1)

counts-few : (logs : List LaneLog) → EachOf (λ log. EachOf (λ a. a.notes < 2 ^ 32) log.replies) logs
    → All AreFew (map (λ log. log.replies) logs)
counts-few [] all = All-nil AreFew
counts-few (log ∷ logs) all =
    All-cons AreFew log.replies (map (λ l. l.replies) logs) (each-all (λ a. a.notes < 2 ^ 32) log.replies all.0)
    (counts-few logs all.1)

lane-note : (logs : List LaneLog) (lane at : ℕ) (note : Note) → EachOf (λ log. EachOf IsNoteTyped log.notes) logs
    → slice_get (of_lane (map (λ l. l.notes) logs) lane) at ≡ Some note → IsNoteTyped note
lane-note [] lane at note all e = absurd (cc e)
lane-note (log ∷ logs) zero at note all e = each-at IsNoteTyped log.notes at note all.0 e
lane-note (log ∷ logs) (suc lane) at note all e = lane-note logs lane at note all.1 e

pub typed : (run : Run) → EachOf (λ log. EachOf IsNoteTyped log.notes) run.logs
    → EachOf (λ log. EachOf IsReplyTyped (replies_in log.replies)) run.logs
    → EachOf (λ log. EachOf (λ a. a.notes < 2 ^ 32) log.replies) run.logs → EachOf FitsChunk run.chunks
    → EachOf FitsLeak run.leaks → IsTyped run
typed run notes replies counts chunks leaks =
    record {
      notes = λ lane at note e. lane-note run.logs lane at note notes e;
      replies = each-list IsReplyTyped (λ log. replies_in log.replies) run.logs replies;
      counts = counts-few run.logs counts;
      chunks = each-all FitsChunk run.chunks chunks;
      leaks = each-all FitsLeak run.leaks leaks;
    }
