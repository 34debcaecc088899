-- No run, element or subpage that is taken or given back changes how many takings there were.
use Rattle.std.proofs.Common.{◌≡◌, ℕ, ◌-◌, ◌*◌, ◌/◌, List, [], ◌∷◌, refl, sym, ap, Some, None, ◌∙◌}
use Rattle.std.specs.Prelude.{if◌then◌else◌, Option, option_map, option_and_then, unwrap_or}
use Rattle.size_classes.specs.Sizes.{Geometry, page_of, is_small, size_at, pages_of, subpage_pages, element_count}
use Rattle.size_classes.specs.Elements.{Elements, new_elements, next_element, with_out, with_back, is_full, is_idle}
use Rattle.size_classes.specs.Pages.{run_start}
use Rattle.pool_law.specs.Chunks.{Use, Whole, Sub}
use Rattle.pool_law.specs.ChunkLists.{walk}
use Rattle.pool_law.specs.Arenas.{Arena, Yielded, chunk_at, front_of, with_front, without_subpage, elements_at, with_elements, first_holding, first_unused, opened, run_from, run_from_new, run_taken, take_run, element_taken, take_element, with_subpage, take_small, take_class, is_alone, run_given, idle_given, element_given, small_given, given_place}
use Rattle.std.proofs.lemmas.Bool.{cond_both}

-- ---- what is taken

module _ (g : Geometry) (a : Arena) (pages : ℕ) (what : Use) where
  run_from_new-takings : (o : Option ℕ) (t : Yielded) → run_from_new g a pages what o ≡ Some t → t.2.takings ≡ a.takings
  run_from_new-takings None t e = absurd (cc e)
  run_from_new-takings (Some c) t e = go (first_holding g (opened g a c) pages (c ∷ [])) e
    where
      go : (o : Option (ℕ × ℕ)) → option_map (run_from g (opened g a c) pages what) o ≡ Some t → t.2.takings ≡ a.takings
      go None is = absurd (cc is)
      go (Some spot) is =
          let same : run_from g (opened g a c) pages what spot ≡ t = cc is in
          sym (ap (λ (x : Yielded). x.2.takings) same)

  run_taken-takings : (o : Option (ℕ × ℕ)) (t : Yielded) → run_taken g a pages what o ≡ Some t → t.2.takings ≡ a.takings
  run_taken-takings None t e = run_from_new-takings (first_unused a.chunks) t e
  run_taken-takings (Some spot) t e =
      let same : run_from g a pages what spot ≡ t = cc e in
      sym (ap (λ (x : Yielded). x.2.takings) same)

  take_run-takings : (t : Yielded) → take_run g a pages what ≡ Some t → t.2.takings ≡ a.takings
  take_run-takings = run_taken-takings (first_holding g a pages (walk a.lists))

module _ (g : Geometry) (class : ℕ) where
  element_taken-takings : (a : Arena) (spot : ℕ × ℕ) (e : Elements) (k : ℕ)
      → (element_taken g a class spot e k).2.takings ≡ a.takings
  element_taken-takings a spot e k =
      let b : Arena = with_elements a spot.0 spot.1 class (with_out e k) in
      cond_both (is_full (with_out e k)) (with_front b class (without_subpage spot.0 spot.1 (front_of b class))) b
      (λ (x : Arena). x.takings ≡ a.takings) (λ _. refl) (λ _. refl)

  take_element-takings : (a : Arena) (spot : ℕ × ℕ) (t : Yielded) → take_element g a class spot ≡ Some t
      → t.2.takings ≡ a.takings
  take_element-takings a spot t is = outer (elements_at a class spot.0 spot.1) is
    where
      inner : (e : Elements) (o : Option ℕ) → option_map (λ k. element_taken g a class spot e k) o ≡ Some t
          → t.2.takings ≡ a.takings
      inner e None is = absurd (cc is)
      inner e (Some k) is =
          let same : element_taken g a class spot e k ≡ t = cc is in
          sym (ap (λ (x : Yielded). x.2.takings) same) ∙ element_taken-takings a spot e k

      outer : (o : Option Elements) → option_and_then
          (λ e. option_map (λ k. element_taken g a class spot e k) (next_element e)) o ≡ Some t →
          t.2.takings ≡ a.takings
      outer None is = absurd (cc is)
      outer (Some e) is = inner e (next_element e) is

  take_small-takings : (a : Arena) (subpages : List (ℕ × ℕ)) (t : Yielded) → take_small g a class subpages ≡ Some t
      → t.2.takings ≡ a.takings
  take_small-takings a (spot ∷ subpages) t e = take_element-takings a spot t e
  take_small-takings a [] t e =
      go (take_run g a (subpage_pages g class) what) (take_run-takings g a (subpage_pages g class) what) e
    where
      what : Use
      what = Sub class (new_elements (element_count g class))

      go : (o : Option Yielded) → ((u : Yielded) → o ≡ Some u → u.2.takings ≡ a.takings) →
          option_and_then (λ u. take_element g (with_subpage class u) class (u.0, u.1)) o ≡ Some t
          → t.2.takings ≡ a.takings
      go None found is = absurd (cc is)
      go (Some u) found is = take_element-takings (with_subpage class u) (u.0, u.1) t is ∙ found u refl

  pub take_class-takings : (a : Arena) (t : Yielded) → take_class g a class ≡ Some t → t.2.takings ≡ a.takings
  take_class-takings a t e =
      cond_both (is_small g class) (take_small g a class (front_of a class))
      (option_map (λ u. (u.0, page_of g * u.1, u.2)) (take_run g a (pages_of g class) Whole))
      (λ (z : Option Yielded). z ≡ Some t → t.2.takings ≡ a.takings)
      (λ _ is. take_small-takings a (front_of a class) t is)
      (λ _ is. go (take_run g a (pages_of g class) Whole) (take_run-takings g a (pages_of g class) Whole) is)
      e
    where
      go : (o : Option Yielded) → ((u : Yielded) → o ≡ Some u → u.2.takings ≡ a.takings) →
          option_map (λ u. (u.0, page_of g * u.1, u.2)) o ≡ Some t → t.2.takings ≡ a.takings
      go None found is = absurd (cc is)
      go (Some u) found is =
          let same : (u.0, page_of g * u.1, u.2) ≡ t = cc is in
          sym (ap (λ (x : Yielded). x.2.takings) same) ∙ found u refl

-- ---- what is given back

module _ (g : Geometry) (class c : ℕ) where
  idle_given-takings : (a : Arena) (page : ℕ) → (idle_given g a class c page).takings ≡ a.takings
  idle_given-takings a page =
      cond_both (is_alone (front_of a class)) a
      (run_given g (with_front a class (without_subpage c page (front_of a class))) c page)
      (λ (x : Arena). x.takings ≡ a.takings) (λ _. refl) (λ _. refl)

  element_given-takings : (a : Arena) (page k : ℕ) (e : Elements)
      → (element_given g a class c page k e).takings ≡ a.takings
  element_given-takings a page k e =
      cond_both (is_idle (with_back e k)) (idle_given g d class c page) d (λ (x : Arena). x.takings ≡ a.takings)
      (λ _. idle_given-takings d page ∙ same) (λ _. same)
    where
      b : Arena
      b = with_elements a c page class (with_back e k)

      d : Arena
      d = (if is_full e then with_front b class ((c, page) ∷ front_of b class) else b)

      same : d.takings ≡ a.takings
      same =
          cond_both (is_full e) (with_front b class ((c, page) ∷ front_of b class)) b
          (λ (x : Arena). x.takings ≡ a.takings) (λ _. refl) (λ _. refl)

  small_given-takings : (a : Arena) (offset : ℕ) → (small_given g a class c offset).takings ≡ a.takings
  small_given-takings a offset = go (elements_at a class c page)
    where
      page : ℕ
      page = run_start (offset / page_of g) (chunk_at a c)

      at : ℕ
      at = (offset - page_of g * page) / size_at class

      go : (o : Option Elements) → (unwrap_or (option_map (element_given g a class c page at) o) a).takings ≡ a.takings
      go None = refl
      go (Some e) = element_given-takings a page at e

  pub given_place-takings : (a : Arena) (offset : ℕ) → (given_place g a class c offset).takings ≡ a.takings
  given_place-takings a offset =
      cond_both (is_small g class) (small_given g a class c offset) (run_given g a c (offset / page_of g))
      (λ (x : Arena). x.takings ≡ a.takings) (λ _. small_given-takings a offset) (λ _. refl)
