-- How plays follow on one another.
use Rattle.std.proofs.Common.{⊎_elim, ◌≡◌, ◌≤◌, ℕ, Bool, true, false, [], length, Some, get_or, sym, ap, subst, arith, ◌∙◌}
use Rattle.std.specs.Prelude.{◌||◌, slice_get}
use Rattle.std.proofs.lemmas.Bool.{cases_lt}
use Rattle.pool_law.specs.Logs.{Logs}
use Rattle.pool_law.proofs.HistoryLemmas.{log-past}
use Rattle.log_order.specs.Playing.{steps_at, AreHeld, IsHeld, IsHeldBack, MovesOn, left_in}
use Rattle.log_order.specs.declared.playing.Playing.{Playing}

-- one that stays so behind one that did or did not
pub stays-on : (logs : Logs) (old mid new : Playing) (moved : Bool) (H K L : Type 0) → MovesOn logs old mid moved H
    → MovesOn logs mid new false K → L → MovesOn logs old new moved L
stays-on logs old mid new true H K L m n l = (n.0, omega (arith, m.1, ap (left_in logs) n.1.next))
stays-on logs old mid new false H K L m n l =
    (n.0, record { next = n.1.next ∙ m.1.next; order = n.1.order ∙ m.1.order; holds = l })

-- a lane that could not go on still cannot
pub held-stays : (logs : Logs) (old new : Playing) (lane : ℕ) → new.next.items ≡ old.next.items
    → new.order.items ≡ old.order.items → IsHeld logs old lane → IsHeld logs new lane
held-stays logs old new lane next order held =
    subst (λ z. IsHeldBack logs new.next.items (steps_at logs z) lane) (sym order)
    (subst (λ z. IsHeldBack logs z (steps_at logs old.order.items) lane) (sym next) held)

-- where there is no lane no note is left
pub all-held : (logs : Logs) (play : Playing) → AreHeld logs play → (lane : ℕ) → IsHeld logs play lane
all-held logs play held lane n at =
    ⊎_elim (λ low. held lane low n at)
    (λ high.
    let none : slice_get [] (get_or play.next.items lane 0) ≡ Some n =
    ap (λ xs. slice_get xs (get_or play.next.items lane 0)) (sym (log-past logs lane high)) ∙ at in
    absurd (cc none))
    (cases_lt lane (length logs))
