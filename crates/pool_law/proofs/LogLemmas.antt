-- Logs: the notes of their entries, the log of a lane, and what histories and ends of chunks tell.
use Rattle.std.proofs.Common.{◌≡◌, ℕ, zero, suc, ◌<◌, List, [], ◌∷◌, ◌++◌, length, get_or, true, refl, sym, ap, ◌∙◌, arith, append_assoc, append-nil, Some}
use Rattle.std.specs.Prelude.{slice_get}
use Rattle.pool_law.specs.declared.note.Object.{Object}
use Rattle.pool_law.specs.declared.note.Did.{Did}
use Rattle.pool_law.specs.declared.note.Note.{Note}
use Rattle.pool_law.specs.declared.note.Note.TheVariants.{At, Ref, Busy}
use Rattle.pool_law.specs.declared.run.Shape.{Shape}
use Rattle.pool_law.specs.Histories.{accepts}
use Rattle.pool_law.specs.Legal.{arena_ends, ends_from}
use Rattle.pool_law.specs.Logs.{Logs, History, of_lane, entry_of, has_history, dids}

-- an entry of a log is of its note
pub entry-note : (logs : Logs) (n : Note) → (entry_of logs n).note ≡ n
entry-note logs (At (Object.Root p) k d) = refl
entry-note logs (At _ k d) = refl
entry-note logs (Ref root did) = refl
entry-note logs (Busy held) = refl

-- an object with a history accepts that nothing was noted
pub accepts-nothing : (shape : Shape) (object : Object) → has_history object ≡ true → accepts shape object [] ≡ true
accepts-nothing shape (Object.Arena number) has = refl
accepts-nothing shape (Object.Cache lane class) has = refl
accepts-nothing shape (Object.Bin lane) has = refl
accepts-nothing shape (Object.Mail from to) has = absurd (cc has)
accepts-nothing shape (Object.Root place) has = refl

-- the log of a lane is that which is read at its place
pub lane-at : {X : Type 0} (logs : List (List X)) (k : ℕ) (log : List X) → k < length logs →
    log ≡ get_or logs k log → of_lane logs k ≡ log
lane-at [] k log there is = absurd (omega (arith, there))
lane-at (x ∷ logs) zero log there is = sym is
lane-at (x ∷ logs) (suc k) log there is = lane-at logs k log (omega (arith, there)) is

-- what a history tells at a place
pub dids-at : (h : History) (j lane : ℕ) (d : Did) → slice_get h j ≡ Some (lane, d) → slice_get (dids h) j ≡ Some d
dids-at [] j lane d e = absurd (cc e)
dids-at (x ∷ h) zero lane d e = let same : ◌≡◌ {A = ℕ × Did} x (lane, d) = cc e in ap (λ p. Some p.1) same
dids-at (x ∷ h) (suc j) lane d e = dids-at h j lane d e

-- the chunks of one arena more end behind those of the others
pub ends-push : (shape : Shape) (logs : Logs) (ks : List ℕ) (k : ℕ)
    → ends_from shape logs (ks ++ k ∷ []) ≡ ends_from shape logs ks ++ arena_ends shape logs k
ends-push shape logs [] k = append-nil (arena_ends shape logs k)
ends-push shape logs (j ∷ ks) k =
    ap (λ es. arena_ends shape logs j ++ es) (ends-push shape logs ks k)
    ∙ sym (append_assoc (arena_ends shape logs j) (ends_from shape logs ks) (arena_ends shape logs k))
