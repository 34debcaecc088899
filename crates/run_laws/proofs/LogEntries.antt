-- The entries of a lane's log are made of its notes.
use Rattle.std.proofs.Common.{◌≡◌, ℕ, zero, suc, ◌≤◌, List, [], ◌∷◌, length, refl, ap, arith, Some}
use Rattle.std.specs.Prelude.{◌<◌, map, slice_get}
use Rattle.pool_law.specs.declared.note.Note.{Note}
use Rattle.pool_law.specs.Logs.{Logs, of_lane, entry_of}
use Rattle.pool_law.proofs.LogLemmas.{entry-note}
use Rattle.run_laws.proofs.Sums.{sum_by, sum_over}
use Rattle.run_laws.proofs.Acts.{sum_notes, Acts, Less, less-acts}
use Rattle.run_laws.proofs.LaneActs.{AnyNote}

-- the entries of a lane are made of its notes
pub entries-at : (logs rest : Logs) (lane : ℕ) → of_lane (map (map (entry_of logs)) rest) lane
    ≡ map (entry_of logs) (of_lane rest lane)
entries-at logs [] lane = refl
entries-at logs (log ∷ rest) zero = refl
entries-at logs (log ∷ rest) (suc lane) = entries-at logs rest lane

pub log-most : {X : Type 0} (f : X → ℕ) (logs : List (List X)) (lane : ℕ)
    → sum_by f (of_lane logs lane) ≤ sum_over f logs
log-most f [] lane = omega arith
log-most f (xs ∷ logs) zero = omega arith
log-most f (xs ∷ logs) (suc lane) = omega (arith, log-most f logs lane)

pub lane-there : {X : Type 0} (logs : List (List X)) (lane i : ℕ) (x : X) → slice_get (of_lane logs lane) i ≡ Some x
    → lane < length logs
lane-there [] lane i x e = absurd (cc e)
lane-there (xs ∷ logs) zero i x e = omega arith
lane-there (xs ∷ logs) (suc lane) i x e = let ih : lane < length logs = lane-there logs lane i x e in omega (arith, ih)

pub sum-entries : (logs : Logs) (f : Note → ℕ) (log : List Note) → sum_notes f (map (entry_of logs) log) ≡ sum_by f log
sum-entries logs f [] = refl
sum-entries logs f (n ∷ log) = omega (arith, ap f (entry-note logs n), sum-entries logs f log)

-- each lane's log is acts
abbrev pub LanesAct : Logs → Type 0
LanesAct logs = (lane : ℕ) → Acts AnyNote (map (entry_of logs) (of_lane logs lane)) []

pub logs-less : {X : Type 0} (f g : X → ℕ) (logs : List (List X))
    → ((lane : ℕ) → sum_by f (of_lane logs lane) ≤ sum_by g (of_lane logs lane)) → sum_over f logs ≤ sum_over g logs
logs-less f g [] h = omega arith
logs-less f g (xs ∷ logs) h = omega (arith, h 0, logs-less f g logs (λ lane. h (suc lane)))

-- what is at most another sum over each act is so over all logs
pub sums-less : (logs : Logs) → LanesAct logs → (f g : Note → ℕ) → Less AnyNote f g → sum_over f logs ≤ sum_over g logs
sums-less logs acts f g less =
    logs-less f g logs
    (λ lane.
    let a : sum_notes f (map (entry_of logs) (of_lane logs lane)) ≤ sum_notes g
    (map (entry_of logs) (of_lane logs lane)) =
    less-acts AnyNote f g less (map (entry_of logs) (of_lane logs lane)) [] (acts lane) (omega arith) in
    omega (arith, a, sum-entries logs f (of_lane logs lane), sum-entries logs g (of_lane logs lane)))
