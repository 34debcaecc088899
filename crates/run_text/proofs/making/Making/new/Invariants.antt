use Rattle.std.proofs.Common.{◌≡◌, ℕ, ◌<◌, [], length, Some}
use Rattle.std.specs.Prelude.{slice_get}
use Rattle.run_text.specs.Knowing.{notes_in}
use Rattle.run_text.proofs.making.Making.new.Given as goal

abbrev pub invariant-loop : goal.invariant-loop
invariant-loop l =
    (length l.logs.items ≡ l.counter)
    × ((k : ℕ) → k < length l.logs.items → slice_get (notes_in l.logs.items) k ≡ Some [])
