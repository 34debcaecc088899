-- A report as it is read, leak by leak.
use Rattle.std.proofs.Common.{◌≡◌, ℕ, ◌+◌, ◌<◌, ◌≤◌, List, [], ◌∷◌, ◌++◌, length, get_or, take, Some, None, append_assoc, sym, ap, subst, arith, ◌∙◌, append-nil}
use Rattle.std.proofs.lemmas.List.{take_all, take_more}
use Rattle.std.proofs.lemmas.Option.{same_Some}
use Rattle.pool_law.specs.declared.report.Leak.{Leak}
use Rattle.pool_law.proofs.ListLemmas.{slice_get-past}
use Rattle.run_check.specs.Placing.{DifferAt}
use Rattle.run_check.specs.Reporting.{GoesOn, Strays}
use Rattle.run_check.proofs.DifferLemmas.{get-there, differ-here, differ-longer}

none-some : (leak : Leak) → None ≡ Some leak → ⊥
none-some leak e = absurd (cc e)

-- the next leak is this, or it is not
pub goes-by-one : (report : List Leak) (at : ℕ) (d leak : Leak) → at < length report → get_or report at d ≡ leak →
    GoesOn report at (leak ∷ []) (at + 1)
goes-by-one report at d leak inside is = (
  take_more report at d inside ∙ ap (λ (l : Leak). take at report ++ l ∷ []) is,
  omega (arith, inside),
)

pub strays-past : (report : List Leak) (at : ℕ) (leak : Leak) → at ≤ length report → length report ≤ at →
    Strays report at (leak ∷ []) at
strays-past report at leak inside past more =
    differ-here report at leak more inside (λ e. none-some leak (sym (slice_get-past report at past) ∙ e))

pub strays-here : (report : List Leak) (at : ℕ) (d leak : Leak) → at < length report →
    (get_or report at d ≡ leak → ⊥) → Strays report at (leak ∷ []) at
strays-here report at d leak inside unlike more =
    differ-here report at leak more (omega (arith, inside))
    (λ e. unlike (same_Some (get_or report at d) leak (sym (get-there report at d inside) ∙ e)))

-- what is expected behind these, where a report goes on with them or strays
pub goes-behind : (report these rest all : List Leak) (at next : ℕ) → GoesOn report at these next →
    all ≡ take at report ++ (these ++ rest) → all ≡ take next report ++ rest
goes-behind report these rest all at next goes is =
    is ∙ sym (append_assoc (take at report) these rest) ∙ ap (λ (ws : List Leak). ws ++ rest) (sym goes.0)

pub strays-within : (report these rest all : List Leak) (at other : ℕ) → Strays report at these other →
    all ≡ take at report ++ (these ++ rest) → DifferAt report all other
strays-within report these rest all at other strays is =
    subst (λ (ws : List Leak). DifferAt report ws other) (sym is) (strays rest)

-- a report that is read to what is expected
pub report-ends : (report all : List Leak) (at : ℕ) → length report ≤ at → all ≡ take at report ++ [] → report ≡ all
report-ends report all at past is = sym (is ∙ append-nil (take at report) ∙ take_all at report past)

pub report-goes-on : (report all : List Leak) (at : ℕ) → at < length report → all ≡ take at report ++ [] →
    DifferAt report all at
report-goes-on report all at inside is =
    subst (λ (ws : List Leak). DifferAt report ws at) (sym (is ∙ append-nil (take at report)))
    (differ-longer report at inside)
