-- Lanes that are taken out of a list, one by one.
use Rattle.std.proofs.Common.{◌≡◌, zero, suc, List, [], ◌∷◌, ◌++◌, length, sym, ap, subst, arith, ◌∙◌}
use Rattle.std.specs.Prelude.{All, map}
use Rattle.pool_law.specs.declared.note.Note.{Note}
use Rattle.pool_law.specs.declared.run.Answered.{Answered}
use Rattle.pool_law.specs.declared.run.LaneLog.{LaneLog}
use Rattle.pool_law.proofs.HistoryLemmas.{append-nil}

pub log-is : (log : LaneLog) (replies : List Answered) (notes : List Note) → log.replies ≡ replies → log.notes ≡ notes →
    log ≡ record { replies = replies; notes = notes }
log-is log replies notes r n =
    ap (λ (a : List Answered). fields a log.notes) r ∙ ap (λ (b : List Note). fields replies b) n
  where
    fields : List Answered → List Note → LaneLog
    fields a b = record { replies = a; notes = b }

-- what holds of each that is moved holds of all that is done, once none is left
All-map : {X Y : Type 0} (P : Y → Type 0) (f : X → Y) (xs : List X) → All (λ x. P (f x)) xs → All P (map f xs)
All-map P f [] h = λ k d lt. absurd (omega arith)
All-map {Y = Y} P f (x ∷ xs) h = more (h 0 x (omega arith)) (All-map P f xs (λ j e less. h (suc j) e (omega arith)))
  where
    more : P (f x) → All P (map f xs) → All P (f x ∷ map f xs)
    more here rest zero d lt = here
    more here rest (suc k) d lt = rest k d (omega arith)

pub All-moved : {X Y : Type 0} (P : Y → Type 0) (f : X → Y) (all left : List X) (done : List Y) → length left ≡ 0
    → done ++ map f left ≡ map f all → All (λ x. P (f x)) all → All P done
All-moved P f all [] done none e h = subst (All P) (sym (sym (append-nil done) ∙ e)) (All-map P f all h)
All-moved P f all (x ∷ left) done none e h = absurd (omega arith)
