-- A run that can be played is one that its text determines.
use Rattle.std.proofs.Common.{◌≡◌, refl}
use Rattle.std.specs.Prelude.{Ok, Err, Some}
use Rattle.pool_law.specs.declared.run.Run.{Run}
use Rattle.pool_law.specs.Limits.{IsShape}
use Rattle.pool_law.specs.Text.{Text}
use Rattle.run_text.specs.Derived.{IsDerived}
use Rattle.run_text.specs.Reads.{Reads}
use Rattle.text_laws.proofs.DeterminedLaw.{determined}
use Rattle.run_input.specs.declared.asked.Asked.{Asked}
use Rattle.run_input.specs.declared.fault.Fault.{Fault}
use Rattle.run_input.specs.declared.fault.InputNo.TheVariants.{Unread}
use Rattle.run_input.specs.Cases.{Case}
use Rattle.run_input.specs.Found.{IsDetermined, IsPlayed, IsTold}

played-determined : (case : Case) (run : Run) → IsPlayed case run → IsDetermined case run
played-determined case run p =
    record { reads = p.reads; derived = determined run p.legal p.order p.typed }

-- what is told of a run that is found as the one that is determined
pub told-found : (asked : Asked) (text : Text) (run : Run) → Reads asked.trace asked.shape text run
    → IsShape run.shape
    → ((other : Run) → Reads asked.trace asked.shape text other → IsDerived other → run ≡ other)
    → IsTold (Ok run) (Some (asked, text))
told-found asked text run reads within same = (
  (asked, text),
  (
    refl,
    record {
      reads = reads;
      within = within;
      same = λ other d. same other d.reads d.derived;
      played =
          λ other p. same other p.reads (played-determined (asked, text) other p).derived;
    },
  ),
)

-- and where none is determined
pub told-none : (asked : Asked) (text : Text) (fault : Fault)
    → ((other : Run) → Reads asked.trace asked.shape text other → IsDerived other → ⊥)
    → IsTold (Err (Unread fault)) (Some (asked, text))
told-none asked text fault none = (
  (asked, text),
  (
    refl,
    record {
      undetermined = λ other d. none other d.reads d.derived;
      unplayed = λ other p. none other p.reads (played-determined (asked, text) other p).derived;
    },
  ),
)
