-- The runs of a table stand in the orders of their turns, from a test which computes.
use Rattle.std.proofs.Common.{◌≡◌, true, List, [], ◌∷◌}
use Rattle.std.specs.List.{list_all, All}
use Rattle.std.proofs.lemmas.List.Elements.{All-cons, All-nil}
use Rattle.pool_law.specs.Legal.{logs_of}
use Rattle.pool_law.proofs.SameLemmas.{and-first, and-second}
use Rattle.run_order.proofs.Turns.{in_turns, in-turns}
use Rattle.definition_rows.specs.OrderedRuns.{OrderedRun, IsOrdered}

pub all-ordered : (rows : List OrderedRun) → list_all (λ r. in_turns r.turns (logs_of r.run)) rows ≡ true
    → All IsOrdered rows
all-ordered [] e = All-nil IsOrdered
all-ordered (r ∷ rows) e =
    All-cons IsOrdered r rows (in-turns r.turns (logs_of r.run) (and-first _ _ e)) (all-ordered rows (and-second _ _ e))
