-- What the replies of a run tell, added up lane by lane.
use Rattle.std.proofs.Common.{◌≡◌, ℕ, ◌+◌, if◌then◌else◌, List, [], ◌∷◌, length, filter, sum, refl, sym, ap, ◌∙◌}
use Rattle.std.specs.List.{flat_map, sum_by}
use Rattle.std.proofs.lemmas.List.Concat.{length-flat_map}
use Rattle.std.proofs.lemmas.List.Sums.{sum_by-cons, sum_by-append, length-filter}
use Rattle.pool_law.specs.declared.run.Answered.{Answered}
use Rattle.pool_law.specs.declared.run.LaneLog.{LaneLog}
use Rattle.pool_law.specs.declared.run.Reply.{Reply}
use Rattle.pool_law.specs.declared.run.Run.{Run}
use Rattle.pool_law.specs.LaneLaw.{replies_in}
use Rattle.pool_law.specs.Summary.{is_refusal, bytes_in, replies_given, all_bytes}
use Rattle.run_report.specs.ReplyTotals.{refusals_by, read_by, total_by}

-- a sum over a list of lists is that of their sums
sum_by-flat_map : {X Y : Type 0} (f : Y → ℕ) (g : X → List Y) (xs : List X)
    → sum_by f (flat_map g xs) ≡ sum_by (λ x. sum_by f (g x)) xs
sum_by-flat_map f g [] = refl
sum_by-flat_map f g (x ∷ xs) =
    sum_by-append f (g x) (flat_map g xs)
    ∙ ap (λ (k : ℕ). sum_by f (g x) + k) (sum_by-flat_map f g xs)
    ∙ sym (sum_by-cons (λ y. sum_by f (g y)) x xs)

-- a sum over the replies is one over what was answered
sum_by-replies : (f : Reply → ℕ) (answers : List Answered)
    → sum_by f (replies_in answers) ≡ sum_by (λ a. f a.reply) answers
sum_by-replies f [] = refl
sum_by-replies f (a ∷ answers) =
    sum_by-cons f a.reply (replies_in answers)
    ∙ ap (λ (k : ℕ). f a.reply + k) (sum_by-replies f answers)
    ∙ sym (sum_by-cons (λ (b : Answered). f b.reply) a answers)

-- a sum over all replies is that of the lanes' sums
over_all : (f : Reply → ℕ) (logs : List LaneLog)
    → sum_by f (flat_map (λ log. replies_in log.replies) logs)
    ≡ sum_by (λ log. sum_by (λ a. f a.reply) log.replies) logs
over_all f [] = refl
over_all f (log ∷ logs) =
    sum_by-append f (replies_in log.replies) (flat_map (λ (l : LaneLog). replies_in l.replies) logs)
    ∙ ap (λ (k : ℕ). k + sum_by f (flat_map (λ (l : LaneLog). replies_in l.replies) logs))
    (sum_by-replies f log.replies)
    ∙ ap (λ (k : ℕ). sum_by (λ (a : Answered). f a.reply) log.replies + k) (over_all f logs)
    ∙ sym (sum_by-cons (λ (l : LaneLog). sum_by (λ (a : Answered). f a.reply) l.replies) log logs)

pub refused_is : (run : Run) → length (filter is_refusal (replies_given run)) ≡ sum_by refusals_by run.logs
refused_is run =
    length-filter is_refusal (replies_given run) ∙ over_all (λ r. if is_refusal r then 1 else 0) run.logs

pub read_is : (run : Run) → length (all_bytes run) ≡ sum_by read_by run.logs
read_is run =
    length-flat_map bytes_in (replies_given run) ∙ over_all (λ r. length (bytes_in r)) run.logs

pub total_is : (run : Run) → sum (all_bytes run) ≡ sum_by total_by run.logs
total_is run =
    sum_by-flat_map (λ (b : ℕ). b) bytes_in (replies_given run) ∙ over_all (λ r. sum (bytes_in r)) run.logs
