-- The sums of roots are what the law counts.
use Rattle.std.proofs.Common.{◌≡◌, ℕ, ◌+◌, ◌<◌, ◌≤◌, Bool, true, false, List, [], ◌∷◌, length, get_or, drop, map, Option, Some, refl, sym, ap, subst, arith, ◌∙◌}
use Rattle.std.proofs.lemmas.List.{drop_more}
use Rattle.std.specs.Prelude.{◌==◌, if◌then◌else◌, unwrap_or}
use Rattle.std.specs.List.{AllZip}
use Rattle.pool_law.specs.declared.id.RootId.{RootId}
use Rattle.pool_law.specs.declared.id.RegionId.{RegionId}
use Rattle.pool_law.specs.declared.note.Object.{Object}
use Rattle.pool_law.specs.declared.note.Note.{Note}
use Rattle.pool_law.specs.declared.note.Note.TheVariants.{At, Ref}
use Rattle.pool_law.specs.declared.note.Did.{Did}
use Rattle.pool_law.specs.declared.note.RefDid.{RefDid}
use Rattle.pool_law.specs.declared.note.RefDid.TheVariants.{Born, Retain, Kept, Ended, Vacated, Look}
use Rattle.pool_law.specs.declared.run.LaneLog.{LaneLog}
use Rattle.pool_law.specs.Same.{same_root}
use Rattle.pool_law.specs.Logs.{ToldNote}
use Rattle.pool_law.specs.Counts.{count_in, count_over, is_birth, is_born, is_retain, is_release, ends_root}
use Rattle.pool_law.specs.Legal.{one_if, others_retains}
use Rattle.pool_law.proofs.SameLemmas.{same_root-is}
use Rattle.run_check.specs.declared.tally.Sums.{Sums}
use Rattle.run_check.specs.declared.tally.Tally.{Tally}
use Rattle.run_check.specs.declared.tally.Totals.{Totals}
use Rattle.run_check.specs.ByObject.{notes_in}
use Rattle.run_check.specs.Tallying.{no_sums, more_births, sums_step, no_totals, plus, sums_in, sums_after, sums_from, total_sums, others_sum, AreAtMost, TotalsAtMost, IsTally}

pub same-sums : {a b : Sums} → a.births ≡ b.births → a.borns ≡ b.borns → a.retains ≡ b.retains →
    a.releases ≡ b.releases → a.ends ≡ b.ends → a ≡ b
same-sums p q r s t = λ i. record { births = p i; borns = q i; retains = r i; releases = s i; ends = t i }

ref-other : (root other : RootId) (s : Sums) (did : RefDid) → same_root root other ≡ false →
    sums_after other s (Ref root did) ≡ s
ref-other root other s Born e = rw e (same-sums (omega arith) (omega arith) (omega arith) (omega arith) (omega arith))
ref-other root other s Retain e = rw e (same-sums (omega arith) (omega arith) (omega arith) (omega arith) (omega arith))
ref-other root other s Kept e = rw e (same-sums (omega arith) (omega arith) (omega arith) (omega arith) (omega arith))
ref-other root other s Ended e = rw e (same-sums (omega arith) (omega arith) (omega arith) (omega arith) (omega arith))
ref-other root other s Vacated e =
    rw e (same-sums (omega arith) (omega arith) (omega arith) (omega arith) (omega arith))
ref-other root other s (Look found) e =
    rw e (same-sums (omega arith) (omega arith) (omega arith) (omega arith) (omega arith))

ref-same : (root other : RootId) (s : Sums) (did : RefDid) → same_root root other ≡ true →
    sums_after other s (Ref root did) ≡ sums_step s did
ref-same root other s Born e = rw e (same-sums (omega arith) (omega arith) (omega arith) (omega arith) (omega arith))
ref-same root other s Retain e = rw e (same-sums (omega arith) (omega arith) (omega arith) (omega arith) (omega arith))
ref-same root other s Kept e = rw e (same-sums (omega arith) (omega arith) (omega arith) (omega arith) (omega arith))
ref-same root other s Ended e = rw e (same-sums (omega arith) (omega arith) (omega arith) (omega arith) (omega arith))
ref-same root other s Vacated e = rw e (same-sums (omega arith) (omega arith) (omega arith) (omega arith) (omega arith))
ref-same root other s (Look found) e =
    rw e (same-sums (omega arith) (omega arith) (omega arith) (omega arith) (omega arith))

pub sums-put : (b : Bool) (s : Sums) (o : Option Sums) →
    unwrap_or (if b then Some s else o) no_sums ≡ (if b then s else unwrap_or o no_sums)
sums-put true s o = refl
sums-put false s o = refl

-- what a root's sums become, at it and at another
pub pass-ref : (root other : RootId) (old : RootId → Sums) (did : RefDid) (sums : Sums)
    → sums ≡ sums_step (old root) did →
    (if same_root root other then sums else old other) ≡ sums_after other (old other) (Ref root did)
pass-ref root other old did sums is = go (same_root root other) refl
  where
    go : (b : Bool) → same_root root other ≡ b → (if b then sums else old other)
        ≡ sums_after other (old other) (Ref root did)
    go true e =
        is
        ∙ ap (λ (r : RootId). sums_step (old r) did) (same_root-is root other e)
        ∙ sym (ref-same root other (old other) did e)
    go false e = sym (ref-other root other (old other) did e)

pub pass-birth : (root other : RootId) (old : RootId → Sums) (object : Object) (number : ℕ) (region : RegionId)
    (sums : Sums) → sums ≡ more_births (old root) →
    (if same_root root other then sums else old other)
    ≡ sums_after other (old other) (At object number (Did.Birth root region))
pass-birth root other old object number region sums is = go (same_root root other) refl
  where
    go : (b : Bool) → same_root root other ≡ b →
        (if b then sums else old other) ≡ sums_after other (old other) (At object number (Did.Birth root region))
    go true e =
        is
        ∙ ap (λ (r : RootId). more_births (old r)) (same_root-is root other e)
        ∙ rw e (same-sums (omega arith) (omega arith) (omega arith) (omega arith) (omega arith))
    go false e = rw e (same-sums (omega arith) (omega arith) (omega arith) (omega arith) (omega arith))

-- the sums of a log in two parts
abbrev both : Sums → Sums → Sums
both a b = record {
  births = a.births + b.births;
  borns = a.borns + b.borns;
  retains = a.retains + b.retains;
  releases = a.releases + b.releases;
  ends = a.ends + b.ends;
}

none-both : (a : Sums) → both no_sums a ≡ a
none-both a = same-sums (omega arith) (omega arith) (omega arith) (omega arith) (omega arith)

-- ---- How great they are.

one-most : (b : Bool) → one_if b ≤ 1
one-most true = omega arith
one-most false = omega arith

pub none-at-most : (s : Sums) → s ≡ no_sums → AreAtMost 0 s
none-at-most s is = subst (AreAtMost 0) (sym is) (record {
  births = omega arith;
  borns = omega arith;
  retains = omega arith;
  releases = omega arith;
  ends = omega arith;
})

-- a note adds one at the most
pub at-most-after : (root : RootId) (n : ℕ) (old new : Sums) (note : Note) → new ≡ sums_after root old note
    → AreAtMost n old → AreAtMost (n + 1) new
at-most-after root n old new note is w = subst (AreAtMost (n + 1)) (sym is) (record {
  births = omega (arith, w.births, one-most (is_birth root note));
  borns = omega (arith, w.borns, one-most (is_born root note));
  retains = omega (arith, w.retains, one-most (is_retain root note));
  releases = omega (arith, w.releases, one-most (is_release root note));
  ends = omega (arith, w.ends, one-most (ends_root root note));
})

pub at-most-more : (n m : ℕ) (s : Sums) → n ≤ m → AreAtMost n s → AreAtMost m s
at-most-more n m s le w = record {
  births = omega (arith, le, w.births);
  borns = omega (arith, le, w.borns);
  retains = omega (arith, le, w.retains);
  releases = omega (arith, le, w.releases);
  ends = omega (arith, le, w.ends);
}

-- ---- Totals in two parts.

same-totals : {a b : Totals} → a.births ≡ b.births → a.borns ≡ b.borns → a.retains ≡ b.retains →
    a.releases ≡ b.releases → a.ends ≡ b.ends → a ≡ b
same-totals p q r s t = λ i. record { births = p i; borns = q i; retains = r i; releases = s i; ends = t i }

pub no-totals-at-most : (t : Totals) → t ≡ no_totals → TotalsAtMost 0 t
no-totals-at-most t is = subst (TotalsAtMost 0) (sym is) (record {
  births = omega arith;
  borns = omega arith;
  retains = omega arith;
  releases = omega arith;
  ends = omega arith;
})

pub totals-at-most-more : (n m : ℕ) (t : Totals) → n ≤ m → TotalsAtMost n t → TotalsAtMost m t
totals-at-most-more n m t le w = record {
  births = omega (arith, le, w.births);
  borns = omega (arith, le, w.borns);
  retains = omega (arith, le, w.retains);
  releases = omega (arith, le, w.releases);
  ends = omega (arith, le, w.ends);
}

abbrev pub joined : Totals → Totals → Totals
joined a b = record {
  births = a.births + b.births;
  borns = a.borns + b.borns;
  retains = a.retains + b.retains;
  releases = a.releases + b.releases;
  ends = a.ends + b.ends;
}

pub joined-none : (a : Totals) → joined no_totals a ≡ a
joined-none a = same-totals (omega arith) (omega arith) (omega arith) (omega arith) (omega arith)

pub none-joined : (a : Totals) → joined a no_totals ≡ a
none-joined a = same-totals (omega arith) (omega arith) (omega arith) (omega arith) (omega arith)

pub joined-plus : (s : Sums) (a b : Totals) → joined (plus s a) b ≡ joined a (plus s b)
joined-plus s a b = same-totals (omega arith) (omega arith) (omega arith) (omega arith) (omega arith)

-- what the law counts of a root, in a log and in all
abbrev pub counted : RootId → List ToldNote → Sums
counted root es = record {
  births = count_in (is_birth root) es;
  borns = count_in (is_born root) es;
  retains = count_in (is_retain root) es;
  releases = count_in (is_release root) es;
  ends = count_in (ends_root root) es;
}

abbrev pub counted_over : RootId → List (List ToldNote) → Totals
counted_over root logs = record {
  births = count_over (is_birth root) logs;
  borns = count_over (is_born root) logs;
  retains = count_over (is_retain root) logs;
  releases = count_over (is_release root) logs;
  ends = count_over (ends_root root) logs;
}

module _ (g : Note → ToldNote) (bare : (n : Note) → (g n).note ≡ n) (root : RootId) where
  counted-step : (test : Note → Bool) (k : ℕ) (n : Note) (es : List ToldNote) →
      k + one_if (test n) + count_in test es ≡ k + count_in test (g n ∷ es)
  counted-step test k n es =
      let same : (if test (g n).note then 1 else 0) ≡ one_if (test n) = ap (λ (m : Note). one_if (test m)) (bare n) in
      omega (arith, same)

  pub sums-counted : (s : Sums) (ns : List Note) → sums_from root s ns ≡ both s (counted root (map g ns))
  sums-counted s [] = same-sums (omega arith) (omega arith) (omega arith) (omega arith) (omega arith)
  sums-counted s (n ∷ ns) =
      sums-counted (sums_after root s n) ns
      ∙ same-sums
      (counted-step (is_birth root) s.births n (map g ns))
      (counted-step (is_born root) s.borns n (map g ns))
      (counted-step (is_retain root) s.retains n (map g ns))
      (counted-step (is_release root) s.releases n (map g ns))
      (counted-step (ends_root root) s.ends n (map g ns))

  pub tally-counted : (t : Tally) (l : LaneLog) → IsTally t l → sums_in t root ≡ counted root (map g l.notes)
  tally-counted t l is = is root ∙ sums-counted no_sums l.notes ∙ none-both (counted root (map g l.notes))

  pub totals-counted : (tallies : List Tally) (logs : List LaneLog) → AllZip IsTally tallies logs →
      total_sums tallies root ≡ counted_over root (map (map g) (notes_in logs))
  totals-counted [] [] are = refl
  totals-counted [] (l ∷ logs) are = absurd are
  totals-counted (t ∷ tallies) [] are = absurd are
  totals-counted (t ∷ tallies) (l ∷ logs) are =
      λ i. plus (tally-counted t l are.0 i) (totals-counted tallies logs are.1 i)

  pub others-counted : (lane at : ℕ) (tallies : List Tally) (logs : List LaneLog) → AllZip IsTally tallies logs →
      others_sum root lane at tallies ≡ others_retains root lane at (map (map g) (notes_in logs))
  others-counted lane at [] [] are = refl
  others-counted lane at [] (l ∷ logs) are = absurd are
  others-counted lane at (t ∷ tallies) [] are = absurd are
  others-counted lane at (t ∷ tallies) (l ∷ logs) are =
      λ i. (if at == lane then 0 else (tally-counted t l are.0 i).retains) + others-counted lane (at + 1) tallies logs
      are.1 i

-- the others' retains, one lane further
pub others-step : (root : RootId) (lane at k : ℕ) (tallies : List Tally) (t : Tally) → k < length tallies →
    t ≡ get_or tallies k t →
    others_sum root lane at (drop k tallies)
    ≡ (if at == lane then 0 else (sums_in t root).retains) + others_sum root lane (at + 1) (drop (k + 1) tallies)
others-step root lane at k tallies t there is =
    ap (others_sum root lane at)
    (drop_more tallies k t there ∙ ap (λ (s : Tally). s ∷ drop (k + 1) tallies) (sym is))

-- the totals, one lane further
pub totals-step : (root : RootId) (k : ℕ) (tallies : List Tally) (t : Tally) → k < length tallies →
    t ≡ get_or tallies k t →
    total_sums (drop k tallies) root ≡ plus (sums_in t root) (total_sums (drop (k + 1) tallies) root)
totals-step root k tallies t there is =
    ap (λ (ts : List Tally). total_sums ts root)
    (drop_more tallies k t there ∙ ap (λ (s : Tally). s ∷ drop (k + 1) tallies) (sym is))
