-- Home values are added one after another.
use Rattle.std.proofs.Common.{◌≡◌, ℕ, zero, suc, ◌+◌, ◌<◌, List, [], ◌∷◌, ◌++◌, length, map, sym, ap, ◌∙◌, subst, refl, append_assoc, append-nil}
use Rattle.std.specs.Prelude.{Option, Some, None, slice_get, filter_map}
use Rattle.std.specs.List.{cons_option}
use Rattle.pool_law.proofs.ListLemmas.{slice_get-below, get-front, get-further, item-at}
pub use Rattle.pool_law.proofs.ListLemmas.{item-at as there_at, get-map as map_at}
use Rattle.std.proofs.lemmas.List.{length_push, length-append}
use Rattle.std.proofs.lemmas.List.Elements.{filter_map-append}
use Rattle.shared_pool.specs.declared.home.Home.{Home}
use Rattle.shared_pool.specs.Opening.{Adds}

-- what a list with one item more has at a place
pushed_at : {X : Type 0} (xs : List X) (y x : X) (k : ℕ) (P : ℕ → X → Type 0) → slice_get (xs ++ y ∷ []) k ≡ Some x
    → ((j : ℕ) (z : X) → slice_get xs j ≡ Some z → P j z) → P (length xs) y → P k x
pushed_at [] y x zero P e all last = let same : y ≡ x = cc e in subst (P 0) same last
pushed_at [] y x (suc k) P e all last = absurd (cc e)
pushed_at (z ∷ zs) y x zero P e all last = all 0 x e
pushed_at (z ∷ zs) y x (suc k) P e all last = pushed_at zs y x k (λ j. P (suc j)) e (λ j. all (suc j)) last

pub adds_push : (P : ℕ → Home → Type 0) (n : ℕ) (old mid new : List Home) (x : Home) → Adds P n old mid → P n x
    → new ≡ mid ++ x ∷ [] → Adds P (n + 1) old new
adds_push P n old mid new x a here is =
    record {
      more = a.more ++ x ∷ [];
      is = is ∙ (ap (λ xs. xs ++ x ∷ []) a.is ∙ append_assoc old a.more (x ∷ []));
      many = length_push a.more x ∙ ap (λ m. m + 1) a.many;
      each = λ k y e. pushed_at a.more x y k P e a.each (subst (λ m. P m x) (sym a.many) here);
    }

-- ---- Where what was added stands.

-- each of them is there, behind what was there before
pub added : (P : ℕ → Home → Type 0) (n : ℕ) (old new : List Home) → Adds P n old new → (k : ℕ) → k < n
    → (x : Home) × (slice_get new (length old + k) ≡ Some x) × P k x
added P n old new a k lt =
    let t = item-at a.more k (subst (λ m. k < m) (sym a.many) lt) in (
      t.0,
      subst (λ xs. slice_get xs (length old + k) ≡ Some t.0) (sym a.is) (get-further old a.more k ∙ t.1),
      a.each k t.0
          t.1,
    )

pub kept : (P : ℕ → Home → Type 0) (n : ℕ) (old new : List Home) → Adds P n old new → (k : ℕ) (x : Home)
    → slice_get old k ≡ Some x → slice_get new k ≡ Some x
kept P n old new a k x e = subst (λ xs. slice_get xs k ≡ Some x) (sym a.is) (get-front old a.more k x e)

pub longer_by : (P : ℕ → Home → Type 0) (n : ℕ) (old new : List Home) → Adds P n old new → length new ≡ length old + n
longer_by P n old new a = ap length a.is ∙ (length-append old a.more ∙ ap (λ m. length old + m) a.many)

-- ---- What is read off the home values.

module _ {Y : Type 0} (f : Home → Option Y) where
  none_of : (xs : List Home) → ((k : ℕ) (x : Home) → slice_get xs k ≡ Some x → f x ≡ None) → filter_map f xs ≡ []
  none_of [] all = refl
  none_of (x ∷ xs) all = ap (λ o. cons_option o (filter_map f xs)) (all 0 x refl) ∙ none_of xs (λ k. all (suc k))

  -- what tells nothing adds nothing
  pub silent : (P : ℕ → Home → Type 0) (n : ℕ) (old new : List Home) → Adds P n old new
      → ((k : ℕ) (x : Home) → k < n → P k x → f x ≡ None) → filter_map f new ≡ filter_map f old
  silent P n old new a quiet =
      ap (filter_map f) a.is ∙ (filter_map-append f old a.more
      ∙ (ap (λ ys. filter_map f old ++ ys)
      (none_of a.more (λ k x e. quiet k x (subst (λ m. k < m) a.many (slice_get-below a.more k x e))
      (a.each k x e))) ∙ append-nil (filter_map f old)))

  -- where each tells something, it tells it in its place
  pub told_at : (xs : List Home) (g : Home → Y) → ((k : ℕ) (x : Home) → slice_get xs k ≡ Some x → f x ≡ Some (g x))
      → filter_map f xs ≡ map g xs
  told_at [] g all = refl
  told_at (x ∷ xs) g all =
      ap (λ o. cons_option o (filter_map f xs)) (all 0 x refl) ∙ ap (λ ys. g x ∷ ys) (told_at xs g (λ k. all (suc k)))
