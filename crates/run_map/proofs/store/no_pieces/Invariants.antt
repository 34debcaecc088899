use Rattle.std.proofs.Common.{◌≡◌, ℕ, ◌≤◌, None, length}
use Rattle.std.specs.Prelude.{slice_index_or}
use Rattle.run_map.proofs.store.no_pieces.Given as goal

abbrev pub invariant-loop : goal.invariant-loop
invariant-loop l =
    record {
      none : (i : ℕ) → slice_index_or l.pieces.items i None ≡ None;
      long : length l.pieces.items ≡ l.counter;
      len : l.pieces.len ≡ l.counter;
      room : l.pages ≤ l.pieces.cap;
    }
