-- What a thread did that had a call to make, from what the work on its pool told.
use Rattle.std.proofs.Common.{◌≡◌, ℕ, ℤ, pos, to_z, of_z, w32, ◌<◌, ◌≤◌, Bool, true, false, Some, None, refl, ap, ◌∙◌, subst}
use Rattle.std.specs.Prelude.{Ok, Err, if◌then◌else◌, ltb}
use Rattle.std.specs.Int.{from_bool}
use Rattle.std.proofs.lemmas.Bool.{le-ltb, ltb-true}
use Rattle.size_classes.specs.Sizes.{Geometry, chunk_bytes}
use Rattle.pool_law.specs.declared.id.RootId.{RootId}
use Rattle.seat_work.specs.Changes.{once_less}
use Rattle.seat_tries.specs.Leaving.{MeetsOther}
use Rattle.pool_member.specs.declared.account.Account.{Account}
use Rattle.pool_member.specs.declared.member.Member.{Member}
use Rattle.pool_member.specs.Threads.{Does, moves_after, Settles}
use Rattle.pool_c.specs.declared.buffer.PoolBuffer.{PoolBuffer}
use Rattle.pool_c.specs.declared.codes.Refusal.TheVariants.{Busy, Spent, TooLarge}
use Rattle.pool_c.specs.declared.held.Common.{Common}
use Rattle.pool_c.specs.Answers.{HasReleased, Releases, StaysUnsettled}
use Rattle.pool_c.specs.Refusals.{buffer_refusal, root_of, size_refusal}
use Rattle.pool_c.proofs.CallLaws.{begun_call}

shown : (last : Bool) → pos (from_bool last) ≡ (if last then pos 1 else pos 0)
shown true = refl
shown false = refl

-- it is the same in the machine's words
same_shown : (last : Bool) → to_z w32 (of_z w32 (pos (from_bool last))) ≡ pos (from_bool last)
same_shown true = refl
same_shown false = refl

pub told_shown : (last : Bool) (n : ℤ) → n ≡ pos (from_bool last) → to_z w32 (of_z w32 n) ≡ pos (from_bool last)
told_shown last n is = ap (λ m. to_z w32 (of_z w32 m)) is ∙ same_shown last

module _ (b : PoolBuffer) (c : Common) (old new : Member)
    (may : buffer_refusal c old.account b true 4 0 ≡ None) where
  pub released : (root : RootId) (last : Bool) (ended : ℤ) → root ≡ root_of b → ended ≡ pos (from_bool last)
      → Does c.shared 4 (once_less root last) None old new → new.account.moves ≡ moves_after last old.account.moves
      → Releases b c old new (Ok ended)
  released root last ended is told does moves =
      begun_call (buffer_refusal c old.account b true 4 0) (Ok ended) old new (HasReleased (root_of b) c old new)
      (λ why. (why ≡ Busy) × StaysUnsettled c old new) may
      (record {
        last = last;
        ended_is = told ∙ shown last;
        does = subst (λ (r : RootId). Does c.shared 4 (once_less r last) None old new) is does;
        moves = moves;
      })

  pub unreleased : Settles c.shared old new → MeetsOther c.shared old.seat new.seat
      → Releases b c old new (Err Busy)
  unreleased settles cause =
      begun_call (buffer_refusal c old.account b true 4 0) (Err Busy) old new (HasReleased (root_of b) c old new)
      (λ why. (why ≡ Busy) × StaysUnsettled c old new) may (refl, record { settles = settles; cause = cause })

-- an allocation that may begin
not_less : (x y : ℕ) → (x < y → ⊥) → ltb x y ≡ false
not_less x y past = go (ltb x y) refl
  where
    go : (b : Bool) → ltb x y ≡ b → b ≡ false
    go true e = absurd (past (ltb-true x y e))
    go false e = refl

neither : (p q : Bool) → p ≡ false → q ≡ false
    → (if p then Some TooLarge else (if q then Some Spent else None)) ≡ None
neither true q e f = absurd (cc e)
neither false true e f = absurd (cc f)
neither false false e f = refl

pub may_allocate : (g : Geometry) (a : Account) (size : ℕ) → (chunk_bytes g < size → ⊥) → 6 ≤ a.turns
    → size_refusal g a size ≡ None
may_allocate g a size within turns =
    neither (ltb (chunk_bytes g) size) (ltb a.turns 6) (not_less (chunk_bytes g) size within) (le-ltb a.turns 6 turns)
