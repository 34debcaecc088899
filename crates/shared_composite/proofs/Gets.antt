-- Gets one after another: those of one list of parts and then those of another.
use Rattle.std.proofs.Common.{◌≡◌, ℕ, List, [], ◌∷◌, ◌++◌, length, Bool, true, false, refl, sym, ap, ◌∙◌, subst, append_assoc, append-nil, ne_eqb}
use Rattle.std.specs.Prelude.{◌==◌, not, if◌then◌else◌}
use Rattle.pool_law.specs.declared.id.Part.{Part}
use Rattle.pool_law.specs.declared.note.Did.{Did}
use Rattle.pool_law.specs.declared.note.Object.TheVariants.{Root}
use Rattle.pool_law.specs.Composites.{filled}
use Rattle.shared_pool.specs.declared.pool.SharedPool.{SharedPool}
use Rattle.shared_pool.specs.declared.seat.PoolSeat.{PoolSeat}
use Rattle.shared_pool.specs.RootNotes.{access}
use Rattle.shared_pool.specs.Seats.{IsNoted}
use Rattle.shared_composite.specs.Reading.{Gets}

-- a part that is empty is left out, and any other stays
pub filled_none : (q : Part) → (q.len == 0) ≡ true → filled (q ∷ []) ≡ []
filled_none q is = ap (λ (b : Bool). if not b then q ∷ [] else []) is

pub filled_one : (q : Part) → (q.len == 0) ≡ false → filled (q ∷ []) ≡ q ∷ []
filled_one q is = ap (λ (b : Bool). if not b then q ∷ [] else []) is

module _ (pool : SharedPool) where
  pub gets_on : (ps qs : List Part) (old mid new : PoolSeat) (xs ys : List ℕ) → Gets pool ps old mid xs
      → Gets pool qs mid new ys → Gets pool (ps ++ qs) old new (xs ++ ys)
  gets_on [] qs old mid new xs ys first later =
      subst (λ (x : PoolSeat × List ℕ). Gets pool qs x.0 new (x.1 ++ ys)) (λ i. (first.0 i, sym first.1 i)) later
  gets_on (p ∷ ps) qs old mid new xs ys first later = (
    first.0,
    first.1,
    first.2,
    first.3 ++ ys,
    first.4,
    first.5,
    gets_on ps qs first.0 mid new first.3 ys first.6 later,
    ap (λ (bytes : List ℕ). bytes ++ ys) first.7 ∙ append_assoc first.2 first.3 ys,
  )

  pub got_part : (old new : PoolSeat) (q : Part) (number : ℕ) (bytes : List ℕ) → (q.len ≡ 0 → ⊥)
      → length bytes ≡ q.len
      → IsNoted pool old new (Root q.root.place) number (access q.root (Did.Get q.offset bytes))
      → Gets pool (filled (q ∷ [])) old new bytes
  got_part old new q number bytes some long noted =
      subst (λ (ps : List Part). Gets pool ps old new bytes) (sym (filled_one q (ne_eqb q.len 0 some)))
      (new, number, bytes, [], long, noted, (refl, refl), sym (append-nil bytes))
