-- How a parcel is put behind its handle, or accepted from there.
use Rattle.std.proofs.Common.{◌≡◌, ℕ, ℤ, Bool, true, false, Option, Some, None, refl, sym, ap, ◌∙◌, subst}
use Rattle.std.proofs.lemmas.Bool.{false≢true}
use Rattle.std.specs.Prelude.{Box, box_value, Result, Ok, Err, is_ok, MatchBool, MatchResult}
use Rattle.pool_member.specs.declared.member.Member.{Member}
use Rattle.pool_c.specs.declared.buffer.PoolBuffer.{PoolBuffer}
use Rattle.pool_c.specs.declared.carried.Carried.{Carried}
use Rattle.pool_c.specs.declared.codes.Refusal.{Refusal}
use Rattle.pool_c.specs.declared.handle.PoolThread.{PoolThread}
use Rattle.pool_c.specs.declared.held.Common.{Common}
use Rattle.pool_c.specs.declared.parcel_handle.PoolParcel.{PoolParcel}
use Rattle.pool_c.specs.Answers.{Answers}
use Rattle.pool_c.specs.Codes.{answer_code}
use Rattle.pool_c.specs.Handles.{Acts}
use Rattle.pool_c.specs.ParcelHandles.{done, HasNone, HasParcel, IsPut, IsSpent, PartsIf, PartsInto, room_refusal}
use Rattle.pool_c.specs.Parcels.{HasParted, LacksMemory, part_refusal}

-- the parcel in its box
abbrev pub unboxed : {Z : Type 0} → Result (Box Carried Z) Refusal → Result Carried Refusal
unboxed (Ok b) = Ok (box_value b)
unboxed (Err why) = Err why

module _ {Z : Type 0} where
  pub parts_unboxed : (o : Option Refusal) (made : Result (Box Carried Z) Refusal) (old new : Member)
      (has : Carried → Type 0) (lacks : Refusal → Type 0)
      → Answers o made old new (λ b. has (box_value b)) lacks → Answers o (unboxed made) old new has lacks
  parts_unboxed (Some why) made old new has lacks h = (ap unboxed h.0, h.1)
  parts_unboxed None (Ok b) old new has lacks h = h
  parts_unboxed None (Err why) old new has lacks h = h

  pub same_told : (made : Result (Box Carried Z) Refusal) → answer_code made ≡ answer_code (done (unboxed made))
  same_told (Ok b) = refl
  same_told (Err why) = refl

  pub is_put : (was is : PoolParcel) (made : Result (Box Carried Z) Refusal)
      → MatchResult made (λ b. HasParcel is (box_value b)) (λ why. is ≡ was) → IsPut was is (unboxed made)
  is_put was is (Ok b) has = has
  is_put was is (Err why) same = same

  pub parts_into : (b : PoolBuffer) (to : ℕ) (was is : PoolParcel) (c : Common) (old new : Member)
      (made : Result (Box Carried Z) Refusal)
      → MatchResult made (λ p. HasParcel is (box_value p)) (λ why. is ≡ was)
      → Answers (part_refusal c old.account b to) made old new (λ p. HasParted b to c old new (box_value p))
      (LacksMemory old new) → PartsInto b to was is c old new (done (unboxed made))
  parts_into b to was is c old new made put parts = record {
    made = unboxed made;
    told = refl;
    put = is_put was is made put;
    parts =
        parts_unboxed (part_refusal c old.account b to) made old new (HasParted b to c old new) (LacksMemory old new)
        parts;
  }

-- a handle that is empty gets the parcel
pub parts_if : (b : PoolBuffer) (to : ℕ) (old new : PoolThread) (was is : PoolParcel) (code : ℤ) → was.state ≡ 0
    → Acts old new code (PartsInto b to was is) → PartsIf (room_refusal was.state) b to old new was is code
parts_if b to old new was is code empty acts =
    subst (λ n. PartsIf (room_refusal n) b to old new was is code) (sym empty) acts

-- a handle is empty after its parcel was accepted, and has it still where it wasn't
pub is_spent : {A : Type 0} (was is : PoolParcel) (p q : Carried) (accepted : Bool) (answer : Result A Refusal)
    → HasParcel was p → accepted ≡ is_ok answer → MatchBool accepted (HasNone is) (HasParcel is q)
    → MatchResult answer (λ _. q.pool ≡ p.pool) (λ _. q ≡ p) → IsSpent was is answer
is_spent was is p q true (Ok value) had told out kept = out
is_spent was is p q false (Ok value) had told out kept = absurd (false≢true told)
is_spent was is p q true (Err why) had told out kept = absurd (false≢true (sym told))
is_spent was is p q false (Err why) had told out kept =
    (out.ready ∙ sym had.ready, out.held ∙ ap (λ x. Some x) kept ∙ sym had.held)
