-- Runs of pages: what stays where it is when a run is taken, given back or changed, and that runs do not overlap.
use Rattle.std.proofs.lemmas.Bool.{cond_both}
use Rattle.std.proofs.Common.{leb-true, ◌∙◌, subst, eqb-true, ltb-false, lt-ltb, le-ltb, eq-eqb, ne_eqb, ◌≡◌, ℕ, zero, suc, ◌+◌, ◌-◌, ◌<◌, ◌≤◌, List, [], ◌∷◌, ◌++◌, refl, arith, sym}
use Rattle.std.specs.Prelude.{◌≢◌, true, false, nat_lt, nat_le, ◌==◌, ◌&&◌, Bool, find, if◌then◌else◌, Option, Some, None}
use Rattle.size_classes.specs.Sizes.{Geometry, page_class_under}
use Rattle.size_classes.specs.Pages.{Run, Free, Used, pages_in, total_pages, Span, free_runs, least_class, chosen, replaced, run_at, run_start, rest_of, front_used, joined, merged, taken_at, NoneEmpty, NoneSideBySide}
use Rattle.size_classes.specs.Runs.{Begins, EachRun}
pub use Rattle.size_classes.proofs.Subpages.{subpage_pages-least}
use mathlib.Core.Logic.{inl, inr}

-- a run that begins before another ends before it
pub Begins-apart : {U : Type 0} (rs : List (Run U)) (p q : ℕ) (r s : Run U) → Begins p r rs → Begins q s rs → p < q →
    p + pages_in r ≤ q
Begins-apart [] p q r s b c h = absurd b
Begins-apart (t ∷ ts) p q r s (inl b) (inl c) h = omega (arith, b.0, c.0)
Begins-apart (t ∷ ts) p q r s (inl b) (inr c) h = rw b.1 (omega (arith, b.0, c.1))
Begins-apart (t ∷ ts) p q r s (inr b) (inl c) h = omega (arith, b.1, c.0)
Begins-apart (t ∷ ts) p q r s (inr b) (inr c) h =
    let lt : b.0 < c.0 = omega (arith, b.1, c.1) in
    let ih : b.0 + pages_in r ≤ c.0 = Begins-apart ts b.0 c.0 r s b.2 c.2 lt in
    omega (arith, b.1, c.1)

-- a run lies in the pages of them all
pub Begins-inside : {U : Type 0} (rs : List (Run U)) (p : ℕ) (r : Run U) → Begins p r rs →
    p + pages_in r ≤ total_pages rs
Begins-inside [] p r b = absurd b
Begins-inside (t ∷ ts) p r (inl b) = rw b.1 (omega (arith, b.0))
Begins-inside (t ∷ ts) p r (inr b) =
    let ih : b.0 + pages_in r ≤ total_pages ts = Begins-inside ts b.0 r b.2 in omega (arith, b.1)

-- the run that a search finds begins there
pub Begins-run_at : {U : Type 0} (rs : List (Run U)) (p : ℕ) (r : Run U) → run_at p rs ≡ Some r → Begins p r rs
Begins-run_at [] p r = λ e. absurd (cc e)
Begins-run_at (t ∷ ts) p r =
    cond_both (p == 0) (Some t) (if nat_lt p (pages_in t) then None else run_at (p - pages_in t) ts)
    (λ z. z ≡ Some r → Begins p r (t ∷ ts))
    (λ zero_is e. inl (eqb-true p 0 zero_is, grind arith))
    (λ more. cond_both (nat_lt p (pages_in t)) None (run_at (p - pages_in t) ts) (λ z. z ≡ Some r → Begins p r (t ∷ ts))
    (λ _ e. absurd (cc e))
    (λ ge e.
    let le : pages_in t ≤ p = ltb-false p (pages_in t) ge in
    inr (p - pages_in t, omega arith, Begins-run_at ts (p - pages_in t) r e)))

-- and the other way round, where no run is empty
pub run_at-Begins : {U : Type 0} (rs : List (Run U)) (p : ℕ) (r : Run U) → NoneEmpty rs → Begins p r rs →
    run_at p rs ≡ Some r
run_at-Begins [] p r ne b = absurd b
run_at-Begins (t ∷ ts) p r ne (inl b) = rw (b.0, b.1) refl
run_at-Begins (t ∷ ts) p r ne (inr b) =
    let ih : run_at b.0 ts ≡ Some r = run_at-Begins ts b.0 r ne.1 b.2 in
    let not_zero : (p == 0) ≡ false = ne_eqb p 0 (λ e. omega (arith, ne.0, b.1)) in
    let not_below : nat_lt p (pages_in t) ≡ false = le-ltb p (pages_in t) (omega (arith, b.1)) in
    let rest : p - pages_in t ≡ b.0 = omega (arith, b.1) in
    rw (not_zero, not_below, rest) ih

-- the page's run, where no run is empty
pub run_start-Begins : {U : Type 0} (rs : List (Run U)) (p q : ℕ) (r : Run U) → Begins p r rs → p ≤ q →
    q < p + pages_in r → run_start q rs ≡ p
run_start-Begins [] p q r b h k = absurd b
run_start-Begins (t ∷ ts) p q r (inl b) h k =
    let here : nat_lt q (pages_in t) ≡ true = lt-ltb q (pages_in t) (rw (← b.1) (omega (arith, b.0))) in
    rw (here, b.0) refl
run_start-Begins (t ∷ ts) p q r (inr b) h k =
    let not_here : nat_lt q (pages_in t) ≡ false = le-ltb q (pages_in t) (omega (arith, b.1)) in
    let ih : run_start (q - pages_in t) ts ≡ b.0 =
    run_start-Begins ts b.0 (q - pages_in t) r b.2 (omega (arith, b.1)) (omega (arith, b.1)) in
    rw (not_here, ih) (sym b.1)

-- one run begins at a page, where no run is empty
pub Begins-one : {U : Type 0} (rs : List (Run U)) (p : ℕ) (r s : Run U) → NoneEmpty rs → Begins p r rs →
    Begins p s rs → r ≡ s
Begins-one [] p r s ne b c = absurd b
Begins-one (t ∷ ts) p r s ne (inl b) (inl c) = b.1 ∙ sym c.1
Begins-one (t ∷ ts) p r s ne (inl b) (inr c) = absurd (omega (arith, b.0, c.1, ne.0))
Begins-one (t ∷ ts) p r s ne (inr b) (inl c) = absurd (omega (arith, b.1, c.0, ne.0))
Begins-one (t ∷ ts) p r s ne (inr b) (inr c) =
    let same : b.0 ≡ c.0 = omega (arith, b.1, c.1) in
    Begins-one ts c.0 r s ne.1 (subst (λ n. Begins n r ts) same b.2) c.2

-- what is said of two lists of runs is said of both together
pub total-append : {U : Type 0} (xs ys : List (Run U)) → total_pages (xs ++ ys) ≡ total_pages xs + total_pages ys
total-append [] ys = omega arith
total-append (x ∷ xs) ys = omega (arith, total-append xs ys)

pub NoneEmpty-append : {U : Type 0} (xs ys : List (Run U)) → NoneEmpty xs → NoneEmpty ys → NoneEmpty (xs ++ ys)
NoneEmpty-append [] ys h k = k
NoneEmpty-append (x ∷ xs) ys h k = (h.0, NoneEmpty-append xs ys h.1 k)

pub EachRun-append : {U : Type 0} (P : Run U → Type 0) (xs ys : List (Run U)) → EachRun P xs → EachRun P ys →
    EachRun P (xs ++ ys)
EachRun-append P [] ys h k = k
EachRun-append P (x ∷ xs) ys h k = (h.0, EachRun-append P xs ys h.1 k)

-- what is said of each run is said of one that begins somewhere
pub EachRun-Begins : {U : Type 0} (P : Run U → Type 0) (rs : List (Run U)) (p : ℕ) (r : Run U) → EachRun P rs →
    Begins p r rs → P r
EachRun-Begins P [] p r h b = absurd b
EachRun-Begins P (t ∷ ts) p r h (inl b) = subst P (sym b.1) h.0
EachRun-Begins P (t ∷ ts) p r h (inr b) = EachRun-Begins P ts b.0 r h.1 b.2

-- a run begins where it did, in front of others and behind others
pub Begins-front : {U : Type 0} (xs ys : List (Run U)) (p : ℕ) (r : Run U) → Begins p r xs → Begins p r (xs ++ ys)
Begins-front [] ys p r b = absurd b
Begins-front (x ∷ xs) ys p r (inl b) = inl b
Begins-front (x ∷ xs) ys p r (inr b) = inr (b.0, b.1, Begins-front xs ys b.0 r b.2)

-- behind others it begins by their pages later
pub Begins-behind : {U : Type 0} (xs ys : List (Run U)) (p : ℕ) (r : Run U) → Begins p r ys →
    Begins (total_pages xs + p) r (xs ++ ys)
Begins-behind [] ys p r b = subst (λ n. Begins n r ys) (omega arith) b
Begins-behind (x ∷ xs) ys p r b = inr (total_pages xs + p, omega arith, Begins-behind xs ys p r b)

-- where a run is replaced by others of as many pages, the other runs stay
pub replaced-keeps : {U : Type 0} (rs : List (Run U)) (at p : ℕ) (by : Run U → List (Run U)) (s r : Run U) →
    NoneEmpty rs → Begins at s rs → total_pages (by s) ≡ pages_in s → Begins p r rs → p ≢ at → Begins p r
    (replaced at by rs)
replaced-keeps [] at p by s r ne b t c other = absurd b
replaced-keeps (u ∷ us) at p by s r ne (inl b) t (inl c) other = absurd (other (c.0 ∙ sym b.0))
replaced-keeps (u ∷ us) at p by s r ne (inl b) t (inr c) other =
    let is_zero : (at == 0) ≡ true = eq-eqb at 0 b.0 in
    let pages : total_pages (by u) ≡ pages_in u = subst (λ x. total_pages (by x) ≡ pages_in x) b.1 t in
    let moved : Begins (total_pages (by u) + c.0) r (by u ++ us) = Begins-behind (by u) us c.0 r c.2 in
    let same : total_pages (by u) + c.0 ≡ p = omega (arith, pages, c.1) in
    rw is_zero (subst (λ n. Begins n r (by u ++ us)) same moved)
replaced-keeps (u ∷ us) at p by s r ne (inr b) t (inl c) other =
    let not_zero : (at == 0) ≡ false = ne_eqb at 0 (λ e. omega (arith, ne.0, b.1)) in
    rw not_zero (inl c)
replaced-keeps (u ∷ us) at p by s r ne (inr b) t (inr c) other =
    let not_zero : (at == 0) ≡ false = ne_eqb at 0 (λ e. omega (arith, ne.0, b.1)) in
    let rest : at - pages_in u ≡ b.0 = omega (arith, b.1) in
    let ih : Begins c.0 r (replaced b.0 by us) =
    replaced-keeps us b.0 c.0 by s r ne.1 b.2 t c.2 (λ e. other (omega (arith, b.1, c.1, e))) in
    rw (not_zero, rest) (inr (c.0, c.1, ih))

-- and the new ones stand in its place
pub replaced-new : {U : Type 0} (rs : List (Run U)) (at k : ℕ) (by : Run U → List (Run U)) (s r : Run U) →
    NoneEmpty rs → Begins at s rs → Begins k r (by s) → Begins (at + k) r (replaced at by rs)
replaced-new [] at k by s r ne b c = absurd b
replaced-new (u ∷ us) at k by s r ne (inl b) c =
    let is_zero : (at == 0) ≡ true = eq-eqb at 0 b.0 in
    let new : Begins k r (by u ++ us) = Begins-front (by u) us k r (subst (λ x. Begins k r (by x)) b.1 c) in
    rw is_zero (subst (λ n. Begins n r (by u ++ us)) (omega (arith, b.0)) new)
replaced-new (u ∷ us) at k by s r ne (inr b) c =
    let not_zero : (at == 0) ≡ false = ne_eqb at 0 (λ e. omega (arith, ne.0, b.1)) in
    let rest : at - pages_in u ≡ b.0 = omega (arith, b.1) in
    let ih : Begins (b.0 + k) r (replaced b.0 by us) = replaced-new us b.0 k by s r ne.1 b.2 c in
    rw (not_zero, rest) (inr (b.0 + k, omega (arith, b.1), ih))

-- what each run keeps, where the new ones keep it
pub replaced-EachRun : {U : Type 0} (P : Run U → Type 0)
    (rs : List (Run U)) (at : ℕ) (by : Run U → List (Run U)) (s : Run U) →
    NoneEmpty rs → Begins at s rs → EachRun P (by s) → EachRun P rs → EachRun P (replaced at by rs)
replaced-EachRun P [] at by s ne b n h = absurd b
replaced-EachRun P (u ∷ us) at by s ne (inl b) n h =
    let is_zero : (at == 0) ≡ true = eq-eqb at 0 b.0 in
    rw is_zero (EachRun-append P (by u) us (subst (λ x. EachRun P (by x)) b.1 n) h.1)
replaced-EachRun P (u ∷ us) at by s ne (inr b) n h =
    let not_zero : (at == 0) ≡ false = ne_eqb at 0 (λ e. omega (arith, ne.0, b.1)) in
    let rest : at - pages_in u ≡ b.0 = omega (arith, b.1) in
    rw (not_zero, rest) (h.0, replaced-EachRun P us b.0 by s ne.1 b.2 n h.1)

-- and all runs have as many pages as before
pub replaced-total : {U : Type 0} (rs : List (Run U)) (at : ℕ) (by : Run U → List (Run U)) (s : Run U) →
    NoneEmpty rs → Begins at s rs → total_pages (by s) ≡ pages_in s → total_pages (replaced at by rs) ≡ total_pages rs
replaced-total [] at by s ne b t = absurd b
replaced-total (u ∷ us) at by s ne (inl b) t =
    let is_zero : (at == 0) ≡ true = eq-eqb at 0 b.0 in
    let pages : total_pages (by u) ≡ pages_in u = subst (λ x. total_pages (by x) ≡ pages_in x) b.1 t in
    rw (is_zero, total-append) (omega (arith, pages))
replaced-total (u ∷ us) at by s ne (inr b) t =
    let not_zero : (at == 0) ≡ false = ne_eqb at 0 (λ e. omega (arith, ne.0, b.1)) in
    let rest : at - pages_in u ≡ b.0 = omega (arith, b.1) in
    rw (not_zero, rest) (omega (arith, replaced-total us b.0 by s ne.1 b.2 t))

-- a run in use stays where it is when free runs become one
pub joined-keeps : {U : Type 0} (t : Run U) (rs : List (Run U)) (p m : ℕ) (w : U) → Begins p (Used m w) (t ∷ rs) →
    Begins p (Used m w) (joined t rs)
joined-keeps (Free n) (Free k ∷ rs) p m w (inl b) = absurd (cc b.1)
joined-keeps (Free n) (Free k ∷ rs) p m w (inr b) = go b.2
  where
    go : Begins b.0 (Used m w) (Free k ∷ rs) → Begins p (Used m w) (Free (n + k) ∷ rs)
    go (inl c) = absurd (cc c.1)
    go (inr c) = inr (c.0, omega (arith, b.1, c.1), c.2)
joined-keeps (Free n) (Used k v ∷ rs) p m w b = b
joined-keeps (Free n) [] p m w b = b
joined-keeps (Used n v) rs p m w b = b

-- so it does when all of them are merged
pub merged-keeps : {U : Type 0} (rs : List (Run U)) (p m : ℕ) (w : U) → Begins p (Used m w) rs →
    Begins p (Used m w) (merged rs)
merged-keeps [] p m w b = b
merged-keeps (t ∷ ts) p m w (inl b) = joined-keeps t (merged ts) p m w (inl b)
merged-keeps (t ∷ ts) p m w (inr b) = joined-keeps t (merged ts) p m w (inr (b.0, b.1, merged-keeps ts b.0 m w b.2))

-- no page is lost or made when free runs become one
pub joined-total : {U : Type 0} (t : Run U) (rs : List (Run U)) →
    total_pages (joined t rs) ≡ pages_in t + total_pages rs
joined-total (Free n) (Free k ∷ rs) = omega arith
joined-total (Free n) (Used k v ∷ rs) = refl
joined-total (Free n) [] = refl
joined-total (Used n v) rs = refl

pub merged-total : {U : Type 0} (rs : List (Run U)) → total_pages (merged rs) ≡ total_pages rs
merged-total [] = refl
merged-total (t ∷ ts) = omega (arith, joined-total t (merged ts), merged-total ts)

-- and no run becomes empty
pub joined-NoneEmpty : {U : Type 0} (t : Run U) (rs : List (Run U)) → 0 < pages_in t → NoneEmpty rs →
    NoneEmpty (joined t rs)
joined-NoneEmpty (Free n) (Free k ∷ rs) h ne = (omega (arith, h), ne.1)
joined-NoneEmpty (Free n) (Used k v ∷ rs) h ne = (h, ne)
joined-NoneEmpty (Free n) [] h ne = (h, ne)
joined-NoneEmpty (Used n v) rs h ne = (h, ne)

pub merged-NoneEmpty : {U : Type 0} (rs : List (Run U)) → NoneEmpty rs → NoneEmpty (merged rs)
merged-NoneEmpty [] ne = ne
merged-NoneEmpty (t ∷ ts) ne = joined-NoneEmpty t (merged ts) ne.0 (merged-NoneEmpty ts ne.1)

-- what each run keeps, where it holds of every free run
pub joined-EachRun : {U : Type 0} (P : Run U → Type 0) (t : Run U) (rs : List (Run U)) → ((n : ℕ) → P (Free n)) →
    P t → EachRun P rs → EachRun P (joined t rs)
joined-EachRun P (Free n) (Free k ∷ rs) f h e = (f (n + k), e.1)
joined-EachRun P (Free n) (Used k v ∷ rs) f h e = (h, e)
joined-EachRun P (Free n) [] f h e = (h, e)
joined-EachRun P (Used n v) rs f h e = (h, e)

-- so it is when all of them are merged
pub merged-EachRun : {U : Type 0} (P : Run U → Type 0) (rs : List (Run U)) → ((n : ℕ) → P (Free n)) → EachRun P rs →
    EachRun P (merged rs)
merged-EachRun P [] f e = e
merged-EachRun P (t ∷ ts) f e = joined-EachRun P t (merged ts) f e.0 (merged-EachRun P ts f e.1)

-- no two free runs are side by side after the merge, whatever stood before
pub joined-apart : {U : Type 0} (t : Run U) (rs : List (Run U)) → NoneSideBySide rs → NoneSideBySide (joined t rs)
joined-apart (Free n) (Free k ∷ rs) h = h
joined-apart (Free n) (Used k v ∷ rs) h = (refl, h)
joined-apart (Free n) [] h = (refl, h)
joined-apart (Used n v) rs h = h

-- so it is when all of them are merged
pub merged-apart : {U : Type 0} (rs : List (Run U)) → NoneSideBySide (merged rs)
merged-apart [] = tt
merged-apart (t ∷ ts) = joined-apart t (merged ts) (merged-apart ts)

-- the rest of a run
pub rest_of-total : (U : Type 0) (n : ℕ) → total_pages (rest_of {U = U} n) ≡ n
rest_of-total U zero = refl
rest_of-total U (suc n) = omega arith

-- is not empty where there is one
pub rest_of-NoneEmpty : (U : Type 0) (n : ℕ) → NoneEmpty (rest_of {U = U} n)
rest_of-NoneEmpty U zero = tt
rest_of-NoneEmpty U (suc n) = (omega arith, tt)

pub rest_of-EachRun : {U : Type 0} (P : Run U → Type 0) (n : ℕ) → ((k : ℕ) → P (Free k)) → EachRun P (rest_of n)
rest_of-EachRun P zero f = tt
rest_of-EachRun P (suc n) f = (f (suc n), tt)

module _ {U : Type 0} (rs : List (Run U)) (at n : ℕ) (ne : NoneEmpty rs) (here : Begins at (Free n) rs) where
  -- pages of a free run come into use
  pub taken_at-new : (pages : ℕ) (what : U) → Begins at (Used pages what) (taken_at at pages what rs)
  taken_at-new pages what =
      subst (λ k. Begins k (Used pages what) (taken_at at pages what rs)) (omega arith)
      (replaced-new rs at 0 (front_used pages what) (Free n) (Used pages what) ne here (inl (refl, refl)))

  pub taken_at-keeps : (pages : ℕ) (what : U) (p m : ℕ) (w : U) → pages ≤ n → Begins p (Used m w) rs →
      Begins p (Used m w) (taken_at at pages what rs)
  taken_at-keeps pages what p m w fits b =
      replaced-keeps rs at p (front_used pages what) (Free n) (Used m w) ne here
      (omega (arith, rest_of-total U (n - pages), fits)) b
      (λ same. cc (Begins-one rs at (Free n) (Used m w) ne here (subst (λ k. Begins k (Used m w) rs) same b)))

  -- nothing in use began there
  pub free-unused : (m : ℕ) (w : U) → Begins at (Used m w) rs → ⊥
  free-unused m w b = cc (Begins-one rs at (Free n) (Used m w) ne here b)

-- a span is a free run of the chunk whose first run begins at a page
abbrev pub IsFree : {U : Type 0} → ℕ → List (Run U) → ℕ × ℕ → Type 0
IsFree from rs run = (k : ℕ) × (run.0 ≡ from + k) × Begins k (Free run.1) rs

-- a fact of each span
abbrev pub EachPair : {X : Type 0} → (X → Type 0) → List X → Type 0
EachPair P [] = Unit {0}
EachPair P (x ∷ xs) = P x × EachPair P xs

-- which follows from another
pub EachPair-map : (P Q : ℕ × ℕ → Type 0) → ((x : ℕ × ℕ) → P x → Q x) → (xs : List (ℕ × ℕ)) → EachPair P xs →
    EachPair Q xs
EachPair-map P Q f [] h = tt
EachPair-map P Q f (x ∷ xs) h = (f x h.0, EachPair-map P Q f xs h.1)

-- the free runs of a chunk are free runs of it
pub free_runs-free : {U : Type 0} (rs : List (Run U)) (from : ℕ) → EachPair (IsFree from rs) (free_runs from rs)
free_runs-free [] from = tt
free_runs-free (Free n ∷ rs) from = (
  (0, omega arith, inl (refl, refl)),
  EachPair-map (IsFree (from + n) rs) (IsFree from (Free n ∷ rs))
      (λ x h. (n + h.0, omega (arith, h.1), inr (h.0, refl, h.2))) (free_runs (from + n) rs)
      (free_runs-free rs (from + n)),
)
free_runs-free (Used n w ∷ rs) from =
    EachPair-map (IsFree (from + n) rs) (IsFree from (Used n w ∷ rs))
    (λ x h. (n + h.0, omega (arith, h.1), inr (h.0, refl, h.2))) (free_runs (from + n) rs)
    (free_runs-free rs (from + n))

-- a fact of what was found, if anything was
abbrev pub IfThere : {X : Type 0} → (X → Type 0) → Option X → Type 0
IfThere P None = Unit {0}
IfThere P (Some x) = P x

-- which follows from another
pub IfThere-map : {X : Type 0} (P Q : X → Type 0) → ((x : X) → P x → Q x) → (o : Option X) → IfThere P o → IfThere Q o
IfThere-map P Q f None h = tt
IfThere-map P Q f (Some x) h = f x h

-- what a search finds passes the test, and has what all have
pub find-one : {X : Type 0} (P : X → Type 0) (test : X → Bool) (xs : List X) → EachPair P xs →
    IfThere (λ x. P x × (test x ≡ true)) (find test xs)
find-one P test [] h = tt
find-one P test (x ∷ xs) h =
    cond_both (test x) (Some x) (find test xs) (IfThere (λ y. P y × (test y ≡ true))) (λ passes. (h.0, passes))
    (λ _. find-one P test xs h.1)

and_first : (a b : Bool) → (a && b) ≡ true → a ≡ true
and_first true b e = refl
and_first false b e = e

-- what is said of all spans is said of the chosen one, which holds the pages
pub chosen-one : (g : Geometry) (P : Span → Type 0) (pages : ℕ) (xs : List Span) → EachPair P xs →
    IfThere (λ x. P x × (pages ≤ x.1)) (chosen g pages xs)
chosen-one g P pages xs h =
    let test : Span → Bool = λ x. nat_le pages x.1 && (page_class_under g x.1 == least_class g pages xs) in
    IfThere-map (λ x. P x × (test x ≡ true)) (λ x. P x × (pages ≤ x.1))
    (λ x h.
    let holds = and_first (nat_le pages x.1) (page_class_under g x.1 == least_class g pages xs) h.1 in
    (h.0, leb-true pages x.1 holds))
    (chosen g pages xs) (find-one P test xs h)

-- the run that an allocation takes is free, and holds its pages
pub chosen-free : {U : Type 0} (g : Geometry) (pages : ℕ) (rs : List (Run U)) →
    IfThere (λ x. Begins x.0 (Free x.1) rs × (pages ≤ x.1)) (chosen g pages (free_runs 0 rs))
chosen-free g pages rs =
    chosen-one g (λ x. Begins x.0 (Free x.1) rs) pages (free_runs 0 rs)
    (EachPair-map (IsFree 0 rs) (λ x. Begins x.0 (Free x.1) rs)
    (λ x h. subst (λ k. Begins k (Free x.1) rs) (omega (arith, h.1)) h.2) (free_runs 0 rs) (free_runs-free rs 0))
