-- Where a lane's own counts hold, looks that are right are in the bounds of the law.
use Rattle.std.proofs.Common.{◌≡◌, ℕ, ◌+◌, ◌-◌, ◌<◌, List, [], ◌∷◌, ◌++◌, Bool, true, false, sym, refl, ap, subst, arith, append_assoc}
use Rattle.std.specs.Prelude.{◌&&◌, ◌||◌, if◌then◌else◌, Option, IsTrue}
use Rattle.pool_law.specs.declared.id.RootId.{RootId}
use Rattle.pool_law.specs.declared.note.Did.{Did}
use Rattle.pool_law.specs.declared.note.Did.TheVariants.{Post, Fetch}
use Rattle.pool_law.specs.declared.note.RefDid.{RefDid}
use Rattle.pool_law.specs.declared.note.RefDid.TheVariants.{Born, Retain, Kept, Ended, Vacated, Look}
use Rattle.pool_law.specs.declared.note.Note.{Note}
use Rattle.pool_law.specs.declared.note.Note.TheVariants.{At, Ref, Busy}
use Rattle.pool_law.specs.Same.{same_root}
use Rattle.pool_law.specs.Logs.{ToldNote}
use Rattle.pool_law.specs.Counts.{view_is_of, root_is, note_gains, note_loses, note_needs, ref_gains, ref_loses, ref_needs, count_step, CountsHold, is_retain, is_release, count_in}
use Rattle.pool_law.specs.Legal.{LooksHold, LookAt, one_if}
use Rattle.pool_law.proofs.SameLemmas.{same_root-is}
use Rattle.shared_pool.specs.Looks.{LookRight, LooksRight}

-- a note adds what it gains and takes what it loses, where the lane counts the root
module _ (r : RootId) (k : ℕ) where
  ref_by : (b c : Bool) (d : RefDid) → (((b && ref_needs d) || c) ≡ true → 0 < k) →
      (if b && ref_gains d then k + 1 else if b && ref_loses d then k - 1 else k) + one_if (b && ref_loses d)
      ≡ k + one_if (b && ref_gains d)
  ref_by false c d needs = refl
  ref_by true c Born needs = omega arith
  ref_by true c Retain needs = omega arith
  ref_by true c Kept needs = let a = needs refl in omega (arith, a)
  ref_by true c Ended needs = let a = needs refl in omega (arith, a)
  ref_by true c Vacated needs = refl
  ref_by true c (Look j) needs = refl

  fetch_by : (b : Bool) → (if b then k + 1 else k) + 0 ≡ k + one_if b
  fetch_by true = omega arith
  fetch_by false = refl

  post_by : (b c : Bool) → ((b || c) ≡ true → 0 < k) → (if b then k - 1 else k) + one_if b ≡ k + 0
  post_by true c needs = let a = needs refl in omega (arith, a)
  post_by false c needs = refl

  step_by : (n : Note) (of : Option RootId) → ((note_needs r n || root_is r of) ≡ true → 0 < k) →
      (if note_gains r n then k + 1 else if note_loses r n then k - 1 else k) + one_if (note_loses r n)
      ≡ k + one_if (note_gains r n)
  step_by (At o j d) of needs = by d needs
    where
      by : (d : Did) → ((note_needs r (At o j d) || root_is r of) ≡ true → 0 < k) →
          (if note_gains r (At o j d) then k + 1 else if note_loses r (At o j d) then k - 1 else k) + one_if
          (note_loses r (At o j d)) ≡ k + one_if (note_gains r (At o j d))
      by (Fetch x) needs = fetch_by (view_is_of r x.view)
      by (Post x) needs = post_by (view_is_of r x.view) (root_is r of) needs
      by d needs = refl
  step_by (Ref q d) of needs = ref_by (same_root q r) (root_is r of) d needs
  step_by (Busy b) of needs = refl

count_push : (test : Note → Bool) (es : List ToldNote) (e : ToldNote)
    → count_in test (es ++ e ∷ []) ≡ count_in test es + one_if (test e.note)
count_push test [] e = omega arith
count_push test (x ∷ es) e = let a = count_push test es e in omega (arith, a)

-- what a lane knows after these entries
record Reached (r : RootId) (before : List ToldNote) (retains releases count : ℕ) : Type 0 where
  pub retained : retains ≡ count_in (is_retain r) before
  pub released : releases ≡ count_in (is_release r) before
  pub counted : count + count_in (note_loses r) before ≡ count_in (note_gains r) before

module _ (r : RootId) (others : ℕ) where
  look_at : (before : List ToldNote) (retains releases count : ℕ) (n : Note) → Reached r before retains releases count →
      ((found : ℕ) → n ≡ Ref r (Look found) → LookRight r others before found)
      → LookAt r retains releases count others n
  look_at before retains releases count (At o k d) reached right = tt
  look_at before retains releases count (Busy b) reached right = tt
  look_at before retains releases count (Ref q Born) reached right = tt
  look_at before retains releases count (Ref q Retain) reached right = tt
  look_at before retains releases count (Ref q Kept) reached right = tt
  look_at before retains releases count (Ref q Ended) reached right = tt
  look_at before retains releases count (Ref q Vacated) reached right = tt
  look_at before retains releases count (Ref q (Look found)) reached right = λ (same : IsTrue (same_root q r)).
      let b = right found (ap (λ (x : RootId). Ref x (Look found)) (same_root-is q r same)) in
      let x = reached.retained in let y = reached.released in let z = reached.counted in let s = b.least in let t =
      b.most in
      record { least = omega (arith, z, s); most = omega (arith, x, y, t) }

  looks_from : (before rest : List ToldNote) (retains releases count : ℕ) → Reached r before retains releases count →
      CountsHold r count rest → LooksRight r others (before ++ rest) → LooksHold r others retains releases count rest
  looks_from before [] retains releases count reached holds right = tt
  looks_from before (e ∷ rest) retains releases count reached holds right = (
    look_at before retains releases count e.note reached (λ found is. right before rest e found refl is),
    looks_from (before ++ e ∷ []) rest (retains + one_if (is_retain r e.note)) (releases + one_if (is_release r e.note))
        (count_step r count e)
        (record {
          retained = (let a = count_push (is_retain r) before e in let b = reached.retained in omega (arith, a, b));
          released = (let a = count_push (is_release r) before e in let b = reached.released in omega (arith, a, b));
          counted =
              (let a = count_push (note_loses r) before e in let b = count_push (note_gains r) before e in let c =
              reached.counted in let d = step_by r count e.note e.root holds.0 in omega (arith, a, b, c, d));
        })
        holds.1.1 (subst (LooksRight r others) (sym (append_assoc before (e ∷ []) rest)) right),
  )

  pub looks-held : (es : List ToldNote) → CountsHold r 0 es → LooksRight r others es → LooksHold r others 0 0 0 es
  looks-held es holds right =
      looks_from [] es 0 0 0 (record { retained = refl; released = refl; counted = refl }) holds right
