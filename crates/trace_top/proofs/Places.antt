-- Lists of lanes by their places.
use Rattle.std.proofs.Common.{◌≡◌, ℕ, List, [], Some, ap}
use Rattle.std.specs.Prelude.{slice_get, unwrap_or}
use Rattle.pool_law.specs.Logs.{of_lane}

pub log_found : {X : Type 0} (xs : List (List X)) (i : ℕ) (x : List X) → slice_get xs i ≡ Some x → of_lane xs i ≡ x
log_found xs i x e = ap (λ o. unwrap_or o []) e
