-- What the entries of the parts add up to for a root, by the law's tests and by the table's weights.
use Rattle.std.proofs.Common.{◌≡◌, ℕ, zero, suc, ◌+◌, ◌<◌, List, [], ◌∷◌, map, Bool, true, false, cond, sym, refl, ap, ◌∙◌, subst, arith, eq-eqb, eqb-true, Some, None}
use Rattle.std.specs.Prelude.{◌==◌, ◌&&◌, if◌then◌else◌, Option, option_map, All, sum_by, slice_get}
use Rattle.std.proofs.lemmas.List.Elements.{All-head, All-tail}
use Rattle.std.proofs.lemmas.List.Sums.{sum_by-cons}
use mathlib.Core.Logic.{dite}
use native.Mathlib.Decide.{ℕ_discrete}
use Rattle.pool_law.specs.declared.id.RootId.{RootId}
use Rattle.pool_law.specs.declared.id.ViewData.{ViewData}
use Rattle.pool_law.specs.declared.note.Did.{Did}
use Rattle.pool_law.specs.declared.note.Did.TheVariants.{Post, Fetch, Birth}
use Rattle.pool_law.specs.declared.note.RefDid.{RefDid}
use Rattle.pool_law.specs.declared.note.RefDid.TheVariants.{Born, Retain, Kept, Ended, Vacated, Look}
use Rattle.pool_law.specs.declared.note.Note.{Note}
use Rattle.pool_law.specs.Same.{same_root}
use Rattle.pool_law.specs.Counts.{view_is_of, note_gains, note_loses, count_in, count_over, is_retain, is_release, is_born, is_birth, ends_root, ref_gains, ref_loses}
use Rattle.pool_law.proofs.SameLemmas.{same_root-is, and-first, and-second}
use Rattle.pool_law.proofs.PatternLemmas.{same_root-refl}
use Rattle.history_laws.specs.NoteCounts.{is_root, view_weight, did_fetch, did_post, did_birth_as}
use Rattle.pool_table.specs.declared.views.Entry.{Entry}
use Rattle.pool_table.specs.declared.views.Entry.TheVariants.{At, Ref, Busy}
use Rattle.pool_table.specs.declared.views.Part.{Part}
use Rattle.pool_table.specs.Counts.{on_root, at_gain, at_loss, weigh_in, ref_gain, ref_loss, ref_retain, ref_born, ref_ended}
use Rattle.pool_table.specs.Births.{carried}
use Rattle.pool_table.specs.Hands.{at_birth_as}
use Rattle.pool_table.proofs.RootEntries.{Alone}
use Rattle.shared_pool.specs.Closing.{note_of, entry_of, entries_in}

-- 1 for an entry whose note passes the test
abbrev pub law : (Note → Bool) → Entry → ℕ
law test e = if test (note_of e) then 1 else 0

pub note_is : (e : Entry) → (entry_of e).note ≡ note_of e
note_is (At o k n) = refl
note_is (Ref r d) = refl
note_is (Busy b) = refl

-- ---- Sums.

pub count_in-is : (test : Note → Bool) (es : List Entry) → count_in test (map entry_of es) ≡ sum_by (law test) es
count_in-is test [] = refl
count_in-is test (e ∷ es) =
    let a = sum_by-cons (law test) e es in let b = count_in-is test es in let c =
    ap {B = ℕ} (λ (n : Note). if test n then 1 else 0) (note_is e) in
    omega (arith, a, b, c)

pub count_over-is : (test : Note → Bool) (ps : List Part) → count_over test (entries_in ps) ≡ weigh_in (law test) ps
count_over-is test [] = refl
count_over-is test (p ∷ ps) =
    let a = sum_by-cons (λ (q : Part). sum_by (law test) q.notes) p ps in let b = count_in-is test p.notes in let c =
    count_over-is test ps in
    omega (arith, a, b, c)

pub sums_same : {X : Type 0} (f g : X → ℕ) (xs : List X) → All (λ (x : X). f x ≡ g x) xs → sum_by f xs ≡ sum_by g xs
sums_same f g [] all = refl
sums_same {X = X} f g (x ∷ xs) all =
    let P : X → Type 0 = λ (y : X). f y ≡ g y in
    let a = sum_by-cons f x xs in let b = sum_by-cons g x xs in let c = All-head P x xs all in let d =
    sums_same f g xs (All-tail P x xs all) in
    omega (arith, a, b, c, d)

pub weigh_same : (f g : Entry → ℕ) (ps : List Part) → All (λ (p : Part). All (λ (e : Entry). f e ≡ g e) p.notes) ps
    → weigh_in f ps ≡ weigh_in g ps
weigh_same f g [] all = refl
weigh_same f g (p ∷ ps) all =
    let P : Part → Type 0 = λ (q : Part). All (λ (e : Entry). f e ≡ g e) q.notes in
    let a = sum_by-cons (λ (q : Part). sum_by f q.notes) p ps in let b =
    sum_by-cons (λ (q : Part). sum_by g q.notes) p ps in
    let c = sums_same f g p.notes (All-head P p ps all) in let d = weigh_same f g ps (All-tail P p ps all) in
    omega (arith, a, b, c, d)

-- where a sum isn't nothing, something weighs
pub some_weighs : {X : Type 0} (f : X → ℕ) (xs : List X) → 0 < sum_by f xs
    → (i : ℕ) × (x : X) × (slice_get xs i ≡ Some x) × (0 < f x)
some_weighs f [] lt = absurd (omega (arith, lt))
some_weighs f (x ∷ xs) lt = dite (ℕ_discrete (f x) 0)
    (λ z. let a = sum_by-cons f x xs in let r = some_weighs f xs (omega (arith, a, z, lt)) in (suc r.0, r.1, r.2, r.3))
    (λ ne. (zero, x, refl, omega (arith, ne)))

-- ---- One entry.

-- tests that pass together are the same
pub tests_same : (a b : Bool) → (a ≡ true → b ≡ true) → (b ≡ true → a ≡ true) → a ≡ b
tests_same true b f g = sym (f refl)
tests_same false true f g = g refl
tests_same false false f g = refl

pub root_test : (q r : RootId) → (q.place ≡ r.place → q.generation ≡ r.generation → q ≡ r)
    → same_root q r ≡ is_root r.place r.generation q
root_test q r one = tests_same (same_root q r) (is_root r.place r.generation q)
    (λ t. subst (λ (x : RootId). is_root x.place x.generation q ≡ true) (same_root-is q r t)
    (λ i. eq-eqb q.place q.place refl i && eq-eqb q.generation q.generation refl i))
    (λ t. let e = one (eqb-true q.place r.place (and-first (q.place == r.place) (q.generation == r.generation) t))
    (eqb-true q.generation r.generation (and-second (q.place == r.place) (q.generation == r.generation) t)) in
    subst (λ (x : RootId). same_root q x ≡ true) e (same_root-refl q))

pub nothing : (b : Bool) → 0 ≡ cond {A = ℕ} b 0 0
nothing true = refl
nothing false = refl

module _ (r : RootId) where
  pub same_cond : (q : RootId) (w : ℕ) → (q.place ≡ r.place → q.generation ≡ r.generation → q ≡ r)
      → cond {A = ℕ} (same_root q r) w 0 ≡ cond {A = ℕ} (is_root r.place r.generation q) w 0
  same_cond q w one = ap (λ (b : Bool). cond {A = ℕ} b w 0) (root_test q r one)

  pub retains_alike : (e : Entry) → Alone r e → law (is_retain r) e ≡ on_root ref_retain r.place r.generation e
  retains_alike (At o k n) one = refl
  retains_alike (Busy b) one = refl
  retains_alike (Ref q Retain) one = same_cond q 1 (one q refl)
  retains_alike (Ref q Born) one = nothing (is_root r.place r.generation q)
  retains_alike (Ref q Kept) one = nothing (is_root r.place r.generation q)
  retains_alike (Ref q Ended) one = nothing (is_root r.place r.generation q)
  retains_alike (Ref q Vacated) one = nothing (is_root r.place r.generation q)
  retains_alike (Ref q (Look k)) one = nothing (is_root r.place r.generation q)

  pub borns_alike : (e : Entry) → Alone r e → law (is_born r) e ≡ on_root ref_born r.place r.generation e
  borns_alike (At o k n) one = refl
  borns_alike (Busy b) one = refl
  borns_alike (Ref q Born) one = same_cond q 1 (one q refl)
  borns_alike (Ref q Retain) one = nothing (is_root r.place r.generation q)
  borns_alike (Ref q Kept) one = nothing (is_root r.place r.generation q)
  borns_alike (Ref q Ended) one = nothing (is_root r.place r.generation q)
  borns_alike (Ref q Vacated) one = nothing (is_root r.place r.generation q)
  borns_alike (Ref q (Look k)) one = nothing (is_root r.place r.generation q)

  pub ends_alike : (e : Entry) → Alone r e → law (ends_root r) e ≡ on_root ref_ended r.place r.generation e
  ends_alike (At o k n) one = refl
  ends_alike (Busy b) one = refl
  ends_alike (Ref q Ended) one = same_cond q 1 (one q refl)
  ends_alike (Ref q Born) one = nothing (is_root r.place r.generation q)
  ends_alike (Ref q Retain) one = nothing (is_root r.place r.generation q)
  ends_alike (Ref q Kept) one = nothing (is_root r.place r.generation q)
  ends_alike (Ref q Vacated) one = nothing (is_root r.place r.generation q)
  ends_alike (Ref q (Look k)) one = nothing (is_root r.place r.generation q)

  step_alike : (test : RefDid → Bool) (w : RefDid → ℕ) (q : RootId) (d : RefDid) → (if test d then 1 else 0) ≡ w d
      → (q.place ≡ r.place → q.generation ≡ r.generation → q ≡ r) →
      (if same_root q r && test d then 1 else 0) ≡ cond {A = ℕ} (is_root r.place r.generation q) (w d) 0
  step_alike test w q d same one =
      by (same_root q r) ∙ (same_cond q (if test d then 1 else 0) one
      ∙ ap (λ (n : ℕ). cond {A = ℕ} (is_root r.place r.generation q) n 0) same)
    where
      by : (b : Bool) → (if b && test d then 1 else 0) ≡ cond {A = ℕ} b (if test d then 1 else 0) 0
      by true = refl
      by false = refl

  loss_is : (d : RefDid) → (if ref_loses d then 1 else 0) ≡ ref_loss d
  loss_is Born = refl
  loss_is Retain = refl
  loss_is Kept = refl
  loss_is Ended = refl
  loss_is Vacated = refl
  loss_is (Look k) = refl

  gain_is : (d : RefDid) → (if ref_gains d then 1 else 0) ≡ ref_gain d
  gain_is Born = refl
  gain_is Retain = refl
  gain_is Kept = refl
  gain_is Ended = refl
  gain_is Vacated = refl
  gain_is (Look k) = refl

  pub releases_alike : (e : Entry) → Alone r e → law (is_release r) e ≡ on_root ref_loss r.place r.generation e
  releases_alike (At o k n) one = refl
  releases_alike (Busy b) one = refl
  releases_alike (Ref q d) one = step_alike ref_loses ref_loss q d (loss_is d) (one q refl)

  view_alike : (x : Option ViewData)
      → ((q : RootId) → option_map (λ (w : ViewData). w.root) x ≡ Some q → q.place ≡ r.place
      → q.generation ≡ r.generation → q ≡ r) →
      (if view_is_of r x then 1 else 0) ≡ view_weight r.place r.generation x
  view_alike None one = refl
  view_alike (Some w) one = same_cond w.root 1 (one w.root refl)

  pub gains_alike : (e : Entry) → Alone r e → law (note_gains r) e
      ≡ on_root ref_gain r.place r.generation e + at_gain r.place r.generation e
  gains_alike (Busy b) one = refl
  gains_alike (Ref q d) one = let a = step_alike ref_gains ref_gain q d (gain_is d) (one q refl) in omega (arith, a)
  gains_alike (At o k n) one = by n.did one
    where
      by : (d : Did) → ((q : RootId) → carried d ≡ Some q → q.place ≡ r.place → q.generation ≡ r.generation → q ≡ r) →
          (if note_gains r (Note.At o k d) then 1 else 0) ≡ 0 + did_fetch r.place r.generation d
      by (Fetch x) one = let a = view_alike x.view one in omega (arith, a)
      by d one = refl

  pub losses_alike : (e : Entry) → Alone r e → law (note_loses r) e
      ≡ on_root ref_loss r.place r.generation e + at_loss r.place r.generation e
  losses_alike (Busy b) one = refl
  losses_alike (Ref q d) one = let a = step_alike ref_loses ref_loss q d (loss_is d) (one q refl) in omega (arith, a)
  losses_alike (At o k n) one = by n.did one
    where
      by : (d : Did) → ((q : RootId) → carried d ≡ Some q → q.place ≡ r.place → q.generation ≡ r.generation → q ≡ r) →
          (if note_loses r (Note.At o k d) then 1 else 0) ≡ 0 + did_post r.place r.generation d
      by (Post x) one = let a = view_alike x.view one in omega (arith, a)
      by d one = refl

  pub births_alike : (e : Entry) → law (is_birth r) e ≡ at_birth_as r.place r.generation r.capacity e
  births_alike (Ref q d) = refl
  births_alike (Busy b) = refl
  births_alike (At o k n) = by n.did
    where
      moved : (a b c : Bool) → (a && (b && c)) ≡ ((a && b) && c)
      moved true b c = refl
      moved false b c = refl

      by : (d : Did) → (if is_birth r (Note.At o k d) then 1 else 0) ≡ did_birth_as r.place r.generation r.capacity d
      by (Birth q x) =
          ap (λ (b : Bool). cond {A = ℕ} b 1 0)
          (moved (q.place == r.place) (q.generation == r.generation) (q.capacity == r.capacity))
      by d = refl
