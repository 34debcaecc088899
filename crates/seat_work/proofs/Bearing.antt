-- Entries that bear no root, and the birth of a root that was named nowhere before.
use Rattle.std.proofs.Common.{◌≡◌, ⊎_elim, ℕ, ◌<◌, Bool, true, false, List, [], ◌∷◌, ◌++◌, refl, sym, ap, ◌∙◌, subst, arith}
use Rattle.std.specs.Prelude.{◌-◌, ◌&&◌, ◌==◌, if◌then◌else◌, replicate, sum_by, Option}
use Rattle.std.proofs.lemmas.List.Sums.{fold_push, sum_by-append, sum_by-cons, sum_by-le-sum_by}
use Rattle.pool_law.specs.declared.id.RegionId.{RegionId}
use Rattle.pool_law.specs.declared.id.RootId.{RootId}
use Rattle.pool_law.specs.declared.note.Did.{Did}
use Rattle.pool_law.specs.declared.note.Did.TheVariants.{Birth}
use Rattle.pool_law.specs.declared.note.Noted.{Noted}
use Rattle.pool_law.specs.declared.note.Object.{Object}
use Rattle.pool_law.specs.declared.note.Object.TheVariants.{Root}
use Rattle.pool_law.specs.declared.note.RefDid.{RefDid}
use Rattle.pool_law.specs.declared.note.RefDid.TheVariants.{Born}
use Rattle.pool_law.specs.declared.report.Watch.{Watch}
use Rattle.pool_law.specs.Naming.{noted_by}
use Rattle.pool_law.specs.Same.{same_root}
use Rattle.pool_law.proofs.PatternLemmas.{same_root-refl}
use Rattle.history_laws.specs.NoteCounts.{did_birth_as, one_if_so}
use Rattle.history_laws.proofs.Names.{same_root-or}
use Rattle.pool_table.specs.declared.views.Entry.{Entry}
use Rattle.pool_table.specs.declared.views.Entry.TheVariants.{At, Ref}
use Rattle.pool_table.specs.declared.views.SeatView.{SeatView}
use Rattle.pool_table.specs.Lone.{births, laid_in, names, own_bytes}
use Rattle.pool_table.specs.Views.{with_entry}
use Rattle.pool_table.proofs.Lone.{birth_names}
use Rattle.shared_pool.specs.declared.pool.SharedPool.{SharedPool}
use Rattle.shared_pool.specs.declared.seat.PoolSeat.{PoolSeat}
use Rattle.shared_pool.specs.RootNotes.{birth, IsNotedWith}
use Rattle.shared_pool.specs.SeatViews.{view_of}
use Rattle.seat_work.specs.Growth.{BearsNew, is_ask, is_quiet}

-- ---- What was done, and bore no root.

-- it is quiet, and no birth
abbrev pub is_still : Did → Bool
is_still (Birth root region) = false
is_still did = is_quiet did

pub still_quiet : (did : Did) → is_still did ≡ true → is_quiet did ≡ true
still_quiet (Birth root region) still = refl
still_quiet did still = still

pub still_bears : (r : RootId) (did : Did) → is_still did ≡ true
    → did_birth_as r.place r.generation r.capacity did ≡ 0
still_bears r (Birth root region) still = absurd (cc still)
still_bears r did still = refl

pub ask_bears : (r : RootId) (did : Did) (b : Bool) → (is_ask did && b) ≡ true
    → did_birth_as r.place r.generation r.capacity did ≡ 0
ask_bears r (Birth root region) b asks = absurd (cc asks)
ask_bears r did b asks = refl

-- a birth of a root is one of this root if the two are the same
and_turned : (a b c : Bool) → ((a && b) && c) ≡ (a && (b && c))
and_turned true b c = refl
and_turned false b c = refl

pub birth_is : (r q : RootId) (region : RegionId)
    → did_birth_as r.place r.generation r.capacity (Birth q region) ≡ one_if_so (same_root q r)
birth_is r q region =
    ap one_if_so (and_turned (q.place == r.place) (q.generation == r.generation) (q.capacity == r.capacity))

-- ---- Entries behind others.

module _ (es : List Entry) where
  pub bears_one : (e : Entry) → ((r : RootId) → births r e ≡ 0) → BearsNew es (e ∷ [])
  bears_one e none =
      λ r some. (let a = sum_by-cons (births r) e [] in let b = none r in let z : sum_by (births r) [] ≡ 0 = refl in
      omega (arith, a, b, z))

  -- with a step on the word of a root behind it
  pub bears_two : (e : Entry) (q : RootId) (d : RefDid) → BearsNew es (e ∷ []) → BearsNew es (e ∷ Ref q d ∷ [])
  bears_two e q d one =
      λ r some. (let a = sum_by-cons (births r) e (Ref q d ∷ []) in let b = sum_by-cons (births r) e [] in
      let c = sum_by-cons (births r) (Ref q d) [] in let x : births r (Ref q d) ≡ 0 = refl in
      let z : sum_by (births r) [] ≡ 0 = refl in let y = one r some in omega (arith, a, b, c, x, y, z))

  -- a birth of a root that they name nowhere
  pub bears_born : (root : RootId) (region : RegionId) (o : Object) (number : ℕ) (n : Noted) → n.did ≡ Birth root region
      → sum_by (names root) es ≡ 0 → BearsNew es (At o number n ∷ [])
  bears_born root region o number n did unnamed =
      λ r some. (let a = sum_by-cons (births r) (At o number n) [] in let z : sum_by (births r) [] ≡ 0 = refl in
      let none : births r (At o number n) ≡ 0 = ⊎_elim
      (λ (t : (same_root root r ≡ true) × (root ≡ r)). absurd (named r t.1 some))
      (λ (e : same_root root r ≡ false). ap (did_birth_as r.place r.generation r.capacity) did ∙ birth_is r root region
      ∙ ap one_if_so e) (same_root-or root r) in
      omega (arith, a, none, z))
    where
      named : (r : RootId) → root ≡ r → 0 < sum_by (births r) es → ⊥
      named r same some =
          let le = sum_by-le-sum_by (births root) (names root) es (birth_names root) in
          let is : 0 < sum_by (births root) es = subst (λ (q : RootId). 0 < sum_by (births q) es) (sym same) some in
          omega (arith, le, is, unnamed)

-- ones behind the others
pub bears_on : (es xs ys : List Entry) → BearsNew es xs → BearsNew (es ++ xs) ys → BearsNew es (xs ++ ys)
bears_on es xs ys x y =
    λ r some. (let a = sum_by-append (births r) xs ys in let b = x r some in
    let c = sum_by-append (births r) es xs in let d = y r (omega (arith, c, some)) in omega (arith, a, b, d))

-- what all name nowhere, the first name nowhere
pub unnamed_first : (r : RootId) (all es xs : List Entry) → all ≡ es ++ xs → sum_by (names r) all ≡ 0
    → sum_by (names r) es ≡ 0
unnamed_first r all es xs is none =
    let a = ap (λ (l : List Entry). sum_by (names r) l) is in let b = sum_by-append (names r) es xs in
    omega (arith, a, b, none)

-- ---- The bytes of a root that was born.

pub born_zeros : (pool : SharedPool) (old new : PoolSeat) (root : RootId) (number : ℕ) (region : RegionId)
    (watch : Option Watch) (moves : ℕ) → IsNotedWith pool old new root number (birth root region watch) Born moves
    → own_bytes root (view_of new) ≡ replicate root.capacity 0
born_zeros pool old new root number region watch moves noted =
    let v = view_of old in let n : Noted = noted_by v.own.number (birth root region watch) in
    let e : Entry = At (Root root.place) number n in
    let was : List ℕ = own_bytes root v in
    ap (λ (w : SeatView). own_bytes root w) (λ i. (noted.seat i).0)
    ∙ fold_push (laid_in root) [] (with_entry v e (v.turns - 1)).own.notes (Ref root Born)
    ∙ fold_push (laid_in root) [] v.own.notes e
    ∙ ap (λ (b : Bool). if b then replicate root.capacity 0 else was) (same_root-refl root)
