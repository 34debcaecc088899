-- What is so of a run that its text determines.
use Rattle.std.proofs.Common.{◌≡◌, ◌≢◌, ℕ, zero, suc, ◌<◌, List, [], ◌∷◌, length, map, get_or, drop, Some, refl, sym, ap, arith, ◌∙◌}
use Rattle.std.proofs.lemmas.List.{get_or-map}
use Rattle.pool_law.specs.declared.command.Command.{Command}
use Rattle.pool_law.specs.declared.run.Answered.{Answered}
use Rattle.pool_law.specs.declared.run.LaneLog.{LaneLog}
use Rattle.pool_law.specs.declared.run.Shape.{Shape}
use Rattle.pool_law.specs.LaneLaw.{IsLaneLog, behind, closes, note_counts}
use Rattle.pool_law.specs.Logs.{Logs, entry_of, entries_of, of_lane}
use Rattle.pool_law.specs.Readers.{ToldNotes}
use Rattle.run_check.specs.Cutting.{AreLaneLogs}

-- ---- Each lane has notes.

-- a lane closes its caches
closes-some : (lane : ℕ) (es : ToldNotes) → closes lane es ≡ Some tt → es ≢ []
closes-some lane [] e none = absurd (cc e)
closes-some lane (x ∷ es) e none = absurd (cc none)

behind-none : (ns : List ℕ) (es : ToldNotes) → es ≡ [] → behind ns es ≡ []
behind-none [] es none = none
behind-none (n ∷ ns) es none = behind-none ns (drop n es) (ap (drop n) none ∙ drop-none n)
  where
    drop-none : (k : ℕ) → ◌≡◌ {A = ToldNotes} (drop k []) []
    drop-none zero = refl
    drop-none (suc k) = refl

log-some : (shape : Shape) (lane : ℕ) (cs : List Command) (rs : List Answered) (es : ToldNotes)
    → IsLaneLog shape lane cs rs es → es ≢ []
log-some shape lane cs rs es log none =
    closes-some lane (behind (note_counts rs) es) log.closed (behind-none (note_counts rs) es none)

-- what is told of a lane's notes
lane-entries : (logs all : Logs) (k : ℕ)
    → of_lane (map (map (entry_of all)) logs) k ≡ map (entry_of all) (of_lane logs k)
lane-entries [] all k = refl
lane-entries (log ∷ logs) all zero = refl
lane-entries (log ∷ logs) all (suc k) = lane-entries logs all k

pub lanes-some : (shape : Shape) (lanes : List (List Command)) (answered : List (List Answered)) (logs : Logs)
    → AreLaneLogs shape lanes answered logs → (k : ℕ) → k < length logs → of_lane logs k ≢ []
lanes-some shape lanes answered logs law k there none =
    log-some shape k (of_lane lanes k) (of_lane answered k) (of_lane (entries_of logs) k)
    (law.answers k (omega (arith, there, law.logged)))
    (lane-entries logs logs k ∙ ap (map (entry_of logs)) none)

-- ---- Each command has a reply.

pub reply-count : (logs : List LaneLog) (lanes : List (List Command)) (i : ℕ) (log : LaneLog) (cs : List Command)
    → map (λ l. length l.replies) logs ≡ map length lanes → i < length lanes → i < length logs
    → cs ≡ get_or lanes i cs → log ≡ get_or logs i log → length cs ≡ length log.replies
reply-count logs lanes i log cs same low below asked is =
    ap (λ (l : List Command). length l) asked
    ∙ sym (get_or-map (λ (l : List Command). length l) lanes i cs 0 low)
    ∙ sym (ap (λ (l : List ℕ). get_or l i 0) same)
    ∙ get_or-map (λ (l : LaneLog). length l.replies) logs i log 0 below
    ∙ sym (ap (λ (l : LaneLog). length l.replies) is)

-- ---- A run is what it tells.

-- logs are the same whose replies and notes are
pub logs-same : (xs ys : List LaneLog) → map (λ l. l.replies) xs ≡ map (λ l. l.replies) ys
    → map (λ l. l.notes) xs ≡ map (λ l. l.notes) ys → xs ≡ ys
logs-same [] [] replies notes = refl
logs-same [] (y ∷ ys) replies notes = absurd (cc notes)
logs-same (x ∷ xs) [] replies notes = absurd (cc notes)
logs-same (x ∷ xs) (y ∷ ys) replies notes =
    let said : x.replies ≡ y.replies = cc replies in
    let noted : x.notes ≡ y.notes = cc notes in
    let more : map (λ l. l.replies) xs ≡ map (λ l. l.replies) ys = cc replies in
    let others : map (λ l. l.notes) xs ≡ map (λ l. l.notes) ys = cc notes in
    let rest : xs ≡ ys = logs-same xs ys more others in
    λ i. record { replies = said i; notes = noted i } ∷ rest i
