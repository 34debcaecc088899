-- What entries weigh for a root is what their notes count of it.
use Rattle.std.proofs.Common.{◌≡◌, ℕ, ◌+◌, Bool, true, false, List, [], ◌∷◌, map, refl, arith, cond}
use Rattle.std.specs.Prelude.{◌&&◌, if◌then◌else◌, sum_by}
use Rattle.std.proofs.lemmas.List.Sums.{sum_by-cons}
use Rattle.pool_law.specs.declared.id.RootId.{RootId}
use Rattle.pool_law.specs.declared.note.Note.{Note}
use Rattle.pool_law.specs.declared.note.RefDid.TheVariants.{Born, Retain, Kept, Ended, Vacated, Look}
use Rattle.pool_law.specs.Counts.{count_in, is_born, is_release, is_retain}
use Rattle.pool_law.specs.Same.{same_root}
use Rattle.pool_table.specs.declared.views.Entry.{Entry}
use Rattle.pool_table.specs.declared.views.Entry.TheVariants.{At, Ref, Busy}
use Rattle.pool_table.specs.Counts.{on_this, ref_gain, ref_loss}
use Rattle.shared_pool.specs.Closing.{entry_of}

abbrev pub one : Bool → ℕ
one b = if b then 1 else 0

pub same_one : (b : Bool) → one b ≡ cond {A = ℕ} b 1 0
same_one true = refl
same_one false = refl

first_one : (b : Bool) → one b + 0 ≡ cond {A = ℕ} b 1 0
first_one true = refl
first_one false = refl

second_one : (b : Bool) → 0 + one b ≡ cond {A = ℕ} b 1 0
second_one true = refl
second_one false = refl

no_one : (b : Bool) → ◌≡◌ {A = ℕ} 0 (cond {A = ℕ} b 0 0)
no_one true = refl
no_one false = refl

and_true : (b : Bool) → one (b && true) ≡ cond {A = ℕ} b 1 0
and_true true = refl
and_true false = refl

and_false : (b : Bool) → one (b && false) ≡ cond {A = ℕ} b 0 0
and_false true = refl
and_false false = refl

gain_entry : (r : RootId) (e : Entry)
    → one (is_born r (entry_of e).note) + one (is_retain r (entry_of e).note) ≡ on_this ref_gain r e
gain_entry r (At o k n) = refl
gain_entry r (Busy b) = refl
gain_entry r (Ref q Born) = first_one (same_root q r)
gain_entry r (Ref q Retain) = second_one (same_root q r)
gain_entry r (Ref q Kept) = no_one (same_root q r)
gain_entry r (Ref q Ended) = no_one (same_root q r)
gain_entry r (Ref q Vacated) = no_one (same_root q r)
gain_entry r (Ref q (Look found)) = no_one (same_root q r)

loss_entry : (r : RootId) (e : Entry) → one (is_release r (entry_of e).note) ≡ on_this ref_loss r e
loss_entry r (At o k n) = refl
loss_entry r (Busy b) = refl
loss_entry r (Ref q Born) = and_false (same_root q r)
loss_entry r (Ref q Retain) = and_false (same_root q r)
loss_entry r (Ref q Kept) = and_true (same_root q r)
loss_entry r (Ref q Ended) = and_true (same_root q r)
loss_entry r (Ref q Vacated) = and_false (same_root q r)
loss_entry r (Ref q (Look found)) = and_false (same_root q r)

-- a root is born and retained as often as the entries gain a count of it
pub gains : (r : RootId) (es : List Entry)
    → count_in (is_born r) (map entry_of es) + count_in (is_retain r) (map entry_of es)
    ≡ sum_by (on_this ref_gain r) es
gains r [] = refl
gains r (e ∷ es) =
    let a = sum_by-cons (on_this ref_gain r) e es in let b = gain_entry r e in let c = gains r es in
    omega (arith, a, b, c)

-- a test of notes, where it is 1 for just what weighs 1
pub counted : (test : Note → Bool) (f : Entry → ℕ) → ((e : Entry) → one (test (entry_of e).note) ≡ f e)
    → (es : List Entry) → count_in test (map entry_of es) ≡ sum_by f es
counted test f each [] = refl
counted test f each (e ∷ es) =
    let a = sum_by-cons f e es in let b = each e in let c = counted test f each es in omega (arith, a, b, c)

-- and it is released as often as they lose one
pub losses : (r : RootId) (es : List Entry)
    → count_in (is_release r) (map entry_of es) ≡ sum_by (on_this ref_loss r) es
losses r es = counted (is_release r) (on_this ref_loss r) (loss_entry r) es
