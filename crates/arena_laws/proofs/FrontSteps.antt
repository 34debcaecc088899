-- The subpages of a class that stand in its list, after one of them entered or left.
use Rattle.std.proofs.Common.{ne_eqb, eq-eqb, ⊎_elim, ◌≡◌, ◌≢◌, inl, inr, ℕ, ◌<◌, List, [], ◌∷◌, length, refl, sym, ap, subst, Bool, true, false, ◌∙◌}
use Rattle.std.specs.Prelude.{◌⊎◌, ◌==◌, ◌&&◌, ◌||◌, not, if◌then◌else◌, unwrap_or}
use Rattle.std.proofs.lemmas.Bool.{cond_both, or_parts}
use Rattle.pool_law.specs.Arenas.{Arena, with_front, front_of, without_subpage}
use Rattle.arena_laws.specs.Orderly.{has_subpage, SubpagesDiffer}
use Rattle.pool_law.proofs.ListLemmas.{slice_get-set_same, slice_get-set_other}
use Rattle.arena_laws.proofs.ChunkSteps.{same_or-not}

-- the chunk and the page are these
abbrev pub Here : ℕ → ℕ → ℕ → ℕ → Type 0
Here c page d p = (d ≡ c) × (p ≡ page)

pub here-or_not : (c page d p : ℕ) → Here c page d p ⊎ (Here c page d p → ⊥)
here-or_not c page d p =
    ⊎_elim
    (λ e. ⊎_elim (λ f. inl (e, f)) (λ other. inr (λ h. other h.1)) (same_or-not p page))
    (λ other. inr (λ h. other h.0))
    (same_or-not d c)

pub test-here : (c page : ℕ) → ((c == c) && (page == page)) ≡ true
test-here c page = rw (eq-eqb c c refl, eq-eqb page page refl) refl

pub test-apart : (c page d p : ℕ) → (Here c page d p → ⊥) → ((c == d) && (page == p)) ≡ false
test-apart c page d p apart =
    ⊎_elim
    (λ e. ⊎_elim (λ f. absurd (apart (e, f)))
    (λ other. ap (λ b. (c == d) && b) (ne_eqb page p (λ f. other (sym f))) ∙ both (c == d)) (same_or-not p page))
    (λ other. ap (λ b. b && (page == p)) (ne_eqb c d (λ e. other (sym e))))
    (same_or-not d c)
  where
    both : (b : Bool) → (b && false) ≡ false
    both true = refl
    both false = refl

-- where the test passes, they are the same
pub test-is : (c page d p : ℕ) → ((c == d) && (page == p)) ≡ true → Here d p c page
test-is c page d p e =
    ⊎_elim (λ h. h) (λ apart. absurd
    (let both : true ≡ false = sym e ∙ test-apart c page d p (λ h. apart (sym h.0, sym h.1)) in cc both))
    (here-or_not d p c page)

-- ---- one list

pub spot-first : (c page : ℕ) (subpages : List (ℕ × ℕ)) → has_subpage c page ((c, page) ∷ subpages) ≡ true
spot-first c page subpages = ap (λ b. b || has_subpage c page subpages) (test-here c page)

pub spot-later : (c page d p : ℕ) (subpages : List (ℕ × ℕ)) → (Here c page d p → ⊥)
    → has_subpage d p ((c, page) ∷ subpages) ≡ has_subpage d p subpages
spot-later c page d p subpages apart = ap (λ b. b || has_subpage d p subpages) (test-apart c page d p apart)

pub without-same : (c page : ℕ) (subpages : List (ℕ × ℕ)) → has_subpage c page (without_subpage c page subpages) ≡ false
without-same c page [] = refl
without-same c page (s ∷ subpages) = go ((s.0 == c) && (s.1 == page)) refl (without-same c page subpages)
  where
    go : (b : Bool) → ((s.0 == c) && (s.1 == page)) ≡ b → has_subpage c page (without_subpage c page subpages) ≡ false
        → has_subpage c page (without_subpage c page (s ∷ subpages)) ≡ false
    go true is rest =
        ap (λ b. has_subpage c page
        (if not b then s ∷ without_subpage c page subpages else without_subpage c page subpages)) is ∙ rest
    go false is rest =
        ap (λ b. has_subpage c page
        (if not b then s ∷ without_subpage c page subpages else without_subpage c page subpages)) is
        ∙ ap (λ b. b || has_subpage c page (without_subpage c page subpages)) is
        ∙ rest

pub without-other : (c page d p : ℕ) (subpages : List (ℕ × ℕ)) → (Here c page d p → ⊥)
    → has_subpage d p (without_subpage c page subpages) ≡ has_subpage d p subpages
without-other c page d p [] apart = refl
without-other c page d p (s ∷ subpages) apart =
    go ((s.0 == c) && (s.1 == page)) refl (without-other c page d p subpages apart)
  where
    go : (b : Bool) → ((s.0 == c) && (s.1 == page)) ≡ b
        → has_subpage d p (without_subpage c page subpages) ≡ has_subpage d p subpages
        → has_subpage d p (without_subpage c page (s ∷ subpages)) ≡ has_subpage d p (s ∷ subpages)
    go true is rest =
        let here : Here c page s.0 s.1 = test-is s.0 s.1 c page is in
        ap (λ b. has_subpage d p
        (if not b then s ∷ without_subpage c page subpages else without_subpage c page subpages)) is
        ∙ rest
        ∙ sym (ap (λ b. b || has_subpage d p subpages) (test-apart s.0 s.1 d p (λ h. apart (
          h.0 ∙ here.0,
          h.1
              ∙ here.1,
        ))))
    go false is rest =
        ap (λ b. has_subpage d p
        (if not b then s ∷ without_subpage c page subpages else without_subpage c page subpages)) is
        ∙ ap (λ b. ((s.0 == d) && (s.1 == p)) || b) rest

pub without-none : (c page d p : ℕ) (subpages : List (ℕ × ℕ)) → has_subpage d p subpages ≡ false
    → has_subpage d p (without_subpage c page subpages) ≡ false
without-none c page d p [] none = refl
without-none c page d p (s ∷ subpages) none =
    let rest : has_subpage d p (without_subpage c page subpages)
    ≡ false = without-none c page d p subpages (or_parts ((s.0 == d) && (s.1 == p))
    (has_subpage d p subpages) none).1 in
    cond_both (not ((s.0 == c) && (s.1 == page))) (s ∷ without_subpage c page subpages)
    (without_subpage c page subpages)
    (λ z. has_subpage d p z ≡ false)
    (λ _. ap (λ b. b || has_subpage d p (without_subpage c page subpages))
    (or_parts ((s.0 == d) && (s.1 == p)) (has_subpage d p subpages) none).0 ∙ rest)
    (λ _. rest)

pub without-differ : (c page : ℕ) (subpages : List (ℕ × ℕ)) → SubpagesDiffer subpages
    → SubpagesDiffer (without_subpage c page subpages)
without-differ c page [] d = tt
without-differ c page (s ∷ subpages) d =
    cond_both (not ((s.0 == c) && (s.1 == page))) (s ∷ without_subpage c page subpages)
    (without_subpage c page subpages)
    SubpagesDiffer
    (λ _. (without-none c page s.0 s.1 subpages d.0, without-differ c page subpages d.1))
    (λ _. without-differ c page subpages d.1)

-- ---- the lists of an arena

pub front-same : (a : Arena) (class : ℕ) (subpages : List (ℕ × ℕ)) → class < length a.fronts
    → front_of (with_front a class subpages) class ≡ subpages
front-same a class subpages below = ap (λ o. unwrap_or o []) (slice_get-set_same a.fronts class subpages below)

pub front-other : (a : Arena) (class k : ℕ) (subpages : List (ℕ × ℕ)) → k ≢ class
    → front_of (with_front a class subpages) k ≡ front_of a k
front-other a class k subpages other = ap (λ o. unwrap_or o []) (slice_get-set_other a.fronts class k subpages other)

-- each list has a subpage once, after one is written
pub once-with : (a : Arena) (class : ℕ) (subpages : List (ℕ × ℕ)) → class < length a.fronts
    → ((k : ℕ) → SubpagesDiffer (front_of a k)) → SubpagesDiffer subpages →
    (k : ℕ) → SubpagesDiffer (front_of (with_front a class subpages) k)
once-with a class subpages below once new k =
    ⊎_elim
    (λ e. subst (λ j. SubpagesDiffer (front_of (with_front a class subpages) j)) (sym e)
    (subst SubpagesDiffer (sym (front-same a class subpages below)) new))
    (λ other. subst SubpagesDiffer (sym (front-other a class k subpages other)) (once k))
    (same_or-not k class)

-- the lists of the other subpages, after one enters or leaves
pub others-with : (a : Arena) (class c page : ℕ) → class < length a.fronts → (k d p : ℕ)
    → ((k ≡ class) × Here c page d p → ⊥) →
    has_subpage d p (front_of (with_front a class ((c, page) ∷ front_of a class)) k) ≡ has_subpage d p (front_of a k)
others-with a class c page below k d p apart =
    ⊎_elim
    (λ e. subst (λ j. has_subpage d p (front_of (with_front a class ((c, page) ∷ front_of a class)) j)
    ≡ has_subpage d p (front_of a j)) (sym e)
    (ap (has_subpage d p) (front-same a class ((c, page) ∷ front_of a class) below)
    ∙ spot-later c page d p (front_of a class) (λ h. apart (e, h))))
    (λ other. ap (has_subpage d p) (front-other a class k ((c, page) ∷ front_of a class) other))
    (same_or-not k class)

pub others-without : (a : Arena) (class c page : ℕ) → class < length a.fronts → (k d p : ℕ)
    → ((k ≡ class) × Here c page d p → ⊥) →
    has_subpage d p (front_of (with_front a class (without_subpage c page (front_of a class))) k)
    ≡ has_subpage d p (front_of a k)
others-without a class c page below k d p apart =
    ⊎_elim
    (λ e. subst (λ j. has_subpage d p (front_of (with_front a class (without_subpage c page (front_of a class))) j)
    ≡ has_subpage d p (front_of a j)) (sym e)
    (ap (has_subpage d p) (front-same a class (without_subpage c page (front_of a class)) below)
    ∙ without-other c page d p (front_of a class) (λ h. apart (e, h))))
    (λ other. ap (has_subpage d p) (front-other a class k (without_subpage c page (front_of a class)) other))
    (same_or-not k class)
