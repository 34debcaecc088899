-- An arena keeps the number of its chunk places.
use Rattle.std.proofs.Common.{◌≡◌, ℕ, ◌-◌, ◌*◌, ◌/◌, List, [], ◌∷◌, length, ◌∙◌, refl}
use Rattle.std.specs.Prelude.{Option, Some, None, IfSome, option_map, option_and_then, unwrap_or, if◌then◌else◌}
use Rattle.std.proofs.lemmas.Bool.{cond_both}
use Rattle.std.proofs.lemmas.List.{length-set}
use Rattle.size_classes.specs.Sizes.{Geometry, page_of, is_small, pages_of, size_at, subpage_pages, element_count}
use Rattle.size_classes.specs.Pages.{Used, pages_in, replaced, run_start, taken_at, given_at}
use Rattle.size_classes.specs.Elements.{Elements, new_elements, next_element, with_out, with_back, is_full, is_idle}
use Rattle.pool_law.specs.Chunks.{Use, Whole, Sub, usage, new_chunk}
use Rattle.pool_law.specs.ChunkLists.{walk, list_of, down_to}
use Rattle.pool_law.specs.Arenas.{Arena, Yielded, chunk_at, front_of, with_front, with_elements, opened, first_holding, first_unused, run_from, run_from_new, run_taken, take_run, element_taken, take_element, elements_at, with_subpage, take_small, take_class, unless_gone, without_subpage, run_given, is_alone, idle_given, element_given, small_given, given_place}

mapped : {X Y : Type 0} (o : Option X) (f : X → Y) (Q : Y → Type 0) → ((x : X) → Q (f x)) → IfSome (option_map f o) Q
mapped None f Q h = tt
mapped (Some x) f Q h = h x

chained : {X Y : Type 0} (o : Option X) (P : X → Type 0) (f : X → Option Y) (Q : Y → Type 0) → IfSome o P
    → ((x : X) → P x → IfSome (f x) Q) → IfSome (option_and_then f o) Q
chained None P f Q if_some h = tt
chained (Some x) P f Q if_some h = h x if_some

weaker : {X : Type 0} (o : Option X) (P Q : X → Type 0) → ((x : X) → P x → Q x) → IfSome o P → IfSome o Q
weaker None P Q f h = tt
weaker (Some x) P Q f h = f x h

-- how many chunk places an arena has
abbrev pub places : Arena → ℕ
places a = length a.chunks

-- a taking leaves as many
abbrev pub Keeps : ℕ → Yielded → Type 0
Keeps n t = places t.2 ≡ n

module _ (g : Geometry) where
  run-keeps : (a : Arena) (pages : ℕ) (what : Use) (spot : ℕ × ℕ) → Keeps (places a) (run_from g a pages what spot)
  run-keeps a pages what spot = length-set a.chunks spot.0 (Some (taken_at spot.1 pages what (chunk_at a spot.0)))

  new-keeps : (a : Arena) (pages : ℕ) (what : Use) (o : Option ℕ)
      → IfSome (run_from_new g a pages what o) (Keeps (places a))
  new-keeps a pages what None = tt
  new-keeps a pages what (Some c) =
      mapped (first_holding g (opened g a c) pages (c ∷ [])) (run_from g (opened g a c) pages what) (Keeps (places a))
      (λ spot. run-keeps (opened g a c) pages what spot ∙ length-set a.chunks c (Some (new_chunk g)))

  taken-keeps : (a : Arena) (pages : ℕ) (what : Use) (o : Option (ℕ × ℕ))
      → IfSome (run_taken g a pages what o) (Keeps (places a))
  taken-keeps a pages what (Some spot) = run-keeps a pages what spot
  taken-keeps a pages what None = new-keeps a pages what (first_unused a.chunks)

  -- a run that is taken keeps them
  take_run-keeps : (a : Arena) (pages : ℕ) (what : Use) → IfSome (take_run g a pages what) (Keeps (places a))
  take_run-keeps a pages what = taken-keeps a pages what (first_holding g a pages (walk a.lists))

  -- so does an element
  element-keeps : (a : Arena) (class : ℕ) (spot : ℕ × ℕ) → IfSome (take_element g a class spot) (Keeps (places a))
  element-keeps a class spot =
      chained (elements_at a class spot.0 spot.1) (λ e. Unit {0})
      (λ e. option_map (λ k. element_taken g a class spot e k) (next_element e)) (Keeps (places a))
      (any (elements_at a class spot.0 spot.1))
      (λ e _. mapped (next_element e) (λ k. element_taken g a class spot e k) (Keeps (places a)) (λ k. one e k))
    where
      any : (o : Option Elements) → IfSome o (λ e. Unit {0})
      any None = tt
      any (Some e) = tt

      one : (e : Elements) (k : ℕ) → Keeps (places a) (element_taken g a class spot e k)
      one e k =
          let b : Arena = with_elements a spot.0 spot.1 class (with_out e k) in
          let same : places b ≡ places a = length-set a.chunks spot.0
          (Some (replaced spot.1 (λ r. Used (pages_in r) (Sub class (with_out e k)) ∷ []) (chunk_at a spot.0))) in
          cond_both (is_full (with_out e k)) (with_front b class (without_subpage spot.0 spot.1 (front_of b class))) b
          (λ z. places z ≡ places a) (λ _. same) (λ _. same)

  small-keeps : (a : Arena) (class : ℕ) (subpages : List (ℕ × ℕ))
      → IfSome (take_small g a class subpages) (Keeps (places a))
  small-keeps a class (spot ∷ subpages) = element-keeps a class spot
  small-keeps a class [] =
      chained (take_run g a (subpage_pages g class) (Sub class (new_elements (element_count g class))))
      (Keeps (places a))
      (λ t. take_element g (with_subpage class t) class (t.0, t.1)) (Keeps (places a))
      (take_run-keeps a (subpage_pages g class) (Sub class (new_elements (element_count g class))))
      (λ t same. weaker (take_element g (with_subpage class t) class (t.0, t.1)) (Keeps (places t.2)) (Keeps (places a))
      (λ x e. e ∙ same)
      (element-keeps (with_subpage class t) class (t.0, t.1)))

  -- a taking keeps them
  pub class-keeps : (a : Arena) (class : ℕ) → IfSome (take_class g a class) (Keeps (places a))
  class-keeps a class =
      cond_both (is_small g class) (take_small g a class (front_of a class))
      (option_map (λ t. (t.0, page_of g * t.1, t.2)) (take_run g a (pages_of g class) Whole))
      (λ o. IfSome o (Keeps (places a)))
      (λ _. small-keeps a class (front_of a class))
      (λ _. by (take_run g a (pages_of g class) Whole) (take_run-keeps a (pages_of g class) Whole))
    where
      by : (o : Option Yielded) → IfSome o (Keeps (places a))
          → IfSome (option_map (λ t. (t.0, page_of g * t.1, t.2)) o) (Keeps (places a))
      by None same = tt
      by (Some t) same = same

  given-keeps : (a : Arena) (c page : ℕ) → places (run_given g a c page) ≡ places a
  given-keeps a c page =
      length-set a.chunks c (unless_gone (list_of a.lists c)
      (down_to (usage g (given_at page (chunk_at a c))) (list_of a.lists c)) (given_at page (chunk_at a c)))

  idle-keeps : (a : Arena) (class c page : ℕ) → places (idle_given g a class c page) ≡ places a
  idle-keeps a class c page =
      cond_both (is_alone (front_of a class)) a
      (run_given g (with_front a class (without_subpage c page (front_of a class))) c page) (λ z. places z ≡ places a)
      (λ _. refl) (λ _. given-keeps (with_front a class (without_subpage c page (front_of a class))) c page)

  element_given-keeps : (a : Arena) (class c page k : ℕ) (e : Elements)
      → places (element_given g a class c page k e) ≡ places a
  element_given-keeps a class c page k e =
      let b : Arena = with_elements a c page class (with_back e k) in
      let same : places b ≡ places a = length-set a.chunks c
      (Some (replaced page (λ r. Used (pages_in r) (Sub class (with_back e k)) ∷ []) (chunk_at a c))) in
      let d : Arena = (if is_full e then with_front b class ((c, page) ∷ front_of b class) else b) in
      let front : places d ≡ places a = cond_both (is_full e) (with_front b class ((c, page) ∷ front_of b class)) b
      (λ z. places z ≡ places a) (λ _. same) (λ _. same) in
      cond_both (is_idle (with_back e k)) (idle_given g d class c page) d (λ z. places z ≡ places a)
      (λ _. idle-keeps d class c page ∙ front) (λ _. front)

  -- a place that comes back keeps them
  pub place-keeps : (a : Arena) (class c offset : ℕ) → places (given_place g a class c offset) ≡ places a
  place-keeps a class c offset =
      cond_both (is_small g class) (small_given g a class c offset) (run_given g a c (offset / page_of g))
      (λ z. places z ≡ places a)
      (λ _. by (elements_at a class c page)) (λ _. given-keeps a c (offset / page_of g))
    where
      page : ℕ
      page = run_start (offset / page_of g) (chunk_at a c)

      by : (o : Option Elements) → places
          (unwrap_or (option_map (element_given g a class c page ((offset - page_of g * page) / size_at class)) o) a)
          ≡ places a
      by None = refl
      by (Some e) = element_given-keeps a class c page ((offset - page_of g * page) / size_at class) e
