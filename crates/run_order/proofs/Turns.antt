-- What is left of the logs behind the turns of their lanes, and what the turns made of them.
use Rattle.std.proofs.Common.{◌≡◌, ◌≢◌, ℕ, zero, suc, Bool, true, false, List, [], ◌∷◌, ◌++◌, take, drop, refl, sym, ap, subst, ◌∙◌, eqb-true, eq-eqb, append-nil}
use Rattle.std.specs.Prelude.{◌==◌, ◌&&◌, if◌then◌else◌}
use Rattle.std.proofs.lemmas.List.{take-append-drop}
use Rattle.pool_law.specs.declared.note.Note.{Note}
use Rattle.pool_law.specs.Logs.{Logs, of_lane}
use Rattle.pool_law.proofs.SameLemmas.{and-first, and-second}
use Rattle.pool_law.proofs.HistoryLemmas.{append-assoc}
use Rattle.run_order.specs.Order.{Step, notes_by}
use Rattle.run_order.specs.Turns.{Turn, steps_by, without, steps_of, InTurns}
use Rattle.run_order.proofs.Fronts.{by-test}
use Rattle.run_order.proofs.Tests.{all_fit, all_fit-is}

-- no note is left
abbrev pub is_done : Logs → Bool
is_done [] = true
is_done ([] ∷ logs) = is_done logs
is_done ((n ∷ ns) ∷ logs) = false

-- the logs behind these turns
abbrev pub left_after : List Turn → Logs → Logs
left_after [] logs = logs
left_after (t ∷ ts) logs = left_after ts (without t.notes t.lane logs)

-- each step of these turns fits those before it, and they leave no note
abbrev pub in_turns : List Turn → Logs → Bool
in_turns turns logs = all_fit [] (steps_of turns logs) && is_done (left_after turns logs)

pub done-all : (logs : Logs) → ((lane : ℕ) → [] ≡ of_lane logs lane) → is_done logs ≡ true
done-all [] none = refl
done-all ([] ∷ logs) none = done-all logs (λ lane. none (suc lane))
done-all ((n ∷ ns) ∷ logs) none = absurd (let both : [] ≡ n ∷ ns = none 0 in cc both)

pub done-none : (logs : Logs) → is_done logs ≡ true → (lane : ℕ) → of_lane logs lane ≡ []
done-none [] e lane = refl
done-none ([] ∷ logs) e zero = refl
done-none ([] ∷ logs) e (suc lane) = done-none logs e lane
done-none ((n ∷ ns) ∷ logs) e lane = absurd (let both : false ≡ true = e in cc both)

pub without-own : (n lane : ℕ) (logs : Logs) → of_lane (without n lane logs) lane ≡ drop n (of_lane logs lane)
without-own zero lane [] = refl
without-own (suc n) lane [] = refl
without-own n zero (log ∷ logs) = refl
without-own n (suc lane) (log ∷ logs) = without-own n lane logs

pub without-other : (n lane other : ℕ) (logs : Logs) → other ≢ lane → of_lane (without n lane logs) other
    ≡ of_lane logs other
without-other n lane other [] differ = refl
without-other n zero zero (log ∷ logs) differ = absurd (differ refl)
without-other n zero (suc other) (log ∷ logs) differ = refl
without-other n (suc lane) zero (log ∷ logs) differ = refl
without-other n (suc lane) (suc other) (log ∷ logs) differ =
    without-other n lane other logs (λ e. differ (ap suc e))

pub notes-append : (lane : ℕ) (xs ys : List Step) → notes_by lane (xs ++ ys) ≡ notes_by lane xs ++ notes_by lane ys
notes-append lane [] ys = refl
notes-append lane (x ∷ xs) ys =
    by-test
    (λ z. (if z then x.note ∷ notes_by lane (xs ++ ys) else notes_by lane (xs ++ ys))
    ≡ (if z then x.note ∷ notes_by lane xs else notes_by lane xs) ++ notes_by lane ys)
    (x.lane == lane)
    (λ _. ap (λ ns. x.note ∷ ns) (notes-append lane xs ys))
    (λ _. notes-append lane xs ys)

-- the notes that a lane made in a turn, and those of another lane
notes-own : (lane : ℕ) (notes : List Note) → notes_by lane (steps_by lane notes) ≡ notes
notes-own lane [] = refl
notes-own lane (n ∷ notes) =
    ap (λ z. if z then n ∷ notes_by lane (steps_by lane notes) else notes_by lane (steps_by lane notes))
    (eq-eqb lane lane refl)
    ∙ ap (λ ns. n ∷ ns) (notes-own lane notes)

notes-other : (lane other : ℕ) (notes : List Note) → (lane == other) ≡ false
    → notes_by other (steps_by lane notes) ≡ []
notes-other lane other [] differ = refl
notes-other lane other (n ∷ notes) differ =
    ap (λ z. if z then n ∷ notes_by other (steps_by lane notes) else notes_by other (steps_by lane notes)) differ
    ∙ notes-other lane other notes differ

-- a lane's notes are those of a turn, and what it leaves
turn-whole : (t : Turn) (logs : Logs) (lane : ℕ)
    → notes_by lane (steps_by t.lane (take t.notes (of_lane logs t.lane))) ++ of_lane (without t.notes t.lane logs) lane
    ≡ of_lane logs lane
turn-whole t logs lane = by-test
    (λ z. (t.lane == lane) ≡ z → made_in lane ++ of_lane (without t.notes t.lane logs) lane ≡ of_lane logs lane)
    (t.lane == lane)
    (λ _ same. subst (λ l. made_in l ++ of_lane (without t.notes t.lane logs) l ≡ of_lane logs l)
    (eqb-true t.lane lane same) own)
    (λ _ differ. ap (λ ns. ns ++ of_lane (without t.notes t.lane logs) lane)
    (notes-other t.lane lane (take t.notes (of_lane logs t.lane)) differ)
    ∙ without-other t.notes t.lane lane logs
    (λ e. let both : true ≡ false = sym (eq-eqb t.lane lane (sym e)) ∙ differ in cc both))
    refl
  where
    made_in : ℕ → List Note
    made_in l = notes_by l (steps_by t.lane (take t.notes (of_lane logs t.lane)))

    own : made_in t.lane ++ of_lane (without t.notes t.lane logs) t.lane ≡ of_lane logs t.lane
    own =
        ap (λ ns. ns ++ of_lane (without t.notes t.lane logs) t.lane)
        (notes-own t.lane (take t.notes (of_lane logs t.lane)))
        ∙ ap (λ ns. take t.notes (of_lane logs t.lane) ++ ns) (without-own t.notes t.lane logs)
        ∙ take-append-drop t.notes (of_lane logs t.lane)

-- a lane's notes are those of the turns, and what they leave
turns-whole : (turns : List Turn) (logs : Logs) (lane : ℕ)
    → notes_by lane (steps_of turns logs) ++ of_lane (left_after turns logs) lane ≡ of_lane logs lane
turns-whole [] logs lane = refl
turns-whole (t ∷ ts) logs lane =
    let first : List Step = steps_by t.lane (take t.notes (of_lane logs t.lane)) in
    let next : Logs = without t.notes t.lane logs in
    ap (λ ns. ns ++ of_lane (left_after ts next) lane) (notes-append lane first (steps_of ts next))
    ∙ append-assoc (notes_by lane first) (notes_by lane (steps_of ts next)) (of_lane (left_after ts next) lane)
    ∙ ap (λ ns. notes_by lane first ++ ns) (turns-whole ts next lane)
    ∙ turn-whole t logs lane

-- logs whose turns pass the test are in one order
pub in-turns : (turns : List Turn) (logs : Logs) → in_turns turns logs ≡ true → InTurns turns logs
in-turns turns logs e = (record { steps = steps; whole = whole; fits = all_fit-is [] steps fit }, refl)
  where
    steps : List Step
    steps = steps_of turns logs

    fit : all_fit [] steps ≡ true
    fit = and-first (all_fit [] steps) (is_done (left_after turns logs)) e

    left : (lane : ℕ) → of_lane (left_after turns logs) lane ≡ []
    left = done-none (left_after turns logs) (and-second (all_fit [] steps) (is_done (left_after turns logs)) e)

    whole : (lane : ℕ) → notes_by lane steps ≡ of_lane logs lane
    whole lane =
        sym (append-nil (notes_by lane steps))
        ∙ ap (λ ns. notes_by lane steps ++ ns) (sym (left lane))
        ∙ turns-whole turns logs lane
