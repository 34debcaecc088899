-- Finding a place in an arena, and giving one back, leaves the number of takings and the list of those that are out.
use Rattle.std.proofs.Common.{◌≡◌, ℕ, ◌-◌, ◌*◌, ◌/◌, List, [], ◌∷◌, Bool, true, false, refl, Some, None}
use Rattle.std.specs.Prelude.{⊤, Option, if◌then◌else◌, option_map, option_and_then, unwrap_or}
use Rattle.size_classes.specs.Sizes.{Geometry, page_of, is_small, pages_of, size_at, subpage_pages, element_count}
use Rattle.size_classes.specs.Pages.{run_start}
use Rattle.size_classes.specs.Elements.{Elements, new_elements, next_element, with_out, with_back, is_full, is_idle}
use Rattle.pool_law.specs.Chunks.{Use, Whole, Sub}
use Rattle.pool_law.specs.ChunkLists.{walk}
use Rattle.pool_law.specs.Arenas.{Arena, chunk_at, front_of, with_front, with_elements, elements_at, without_subpage, run_from, opened, run_from_new, first_holding, first_unused, run_taken, take_run, element_taken, take_element, with_subpage, take_small, take_class, run_given, is_alone, idle_given, element_given, small_given, given_place}

pub record SameOut (a b : Arena) : Type 0 where
  pub takings : b.takings ≡ a.takings
  pub out : b.out ≡ a.out

same : (a : Arena) → SameOut a a
same a = record { takings = refl; out = refl }

abbrev pub Leaves : Arena → Option (ℕ × ℕ × Arena) → Type 0
Leaves a None = ⊤
Leaves a (Some t) = SameOut a t.2

from_one : (g : Geometry) (a b : Arena) (pages : ℕ) (what : Use) (o : Option (ℕ × ℕ)) → SameOut a b →
    Leaves a (option_map (run_from g b pages what) o)
from_one g a b pages what None s = tt
from_one g a b pages what (Some spot) s = record { takings = s.takings; out = s.out }

from_new : (g : Geometry) (a : Arena) (pages : ℕ) (what : Use) (o : Option ℕ) → Leaves a (run_from_new g a pages what o)
from_new g a pages what None = tt
from_new g a pages what (Some c) =
    from_one g a (opened g a c) pages what (first_holding g (opened g a c) pages (c ∷ []))
    (record { takings = refl; out = refl })

run_leaves : (g : Geometry) (a : Arena) (pages : ℕ) (what : Use) (o : Option (ℕ × ℕ))
    → Leaves a (run_taken g a pages what o)
run_leaves g a pages what (Some spot) = record { takings = refl; out = refl }
run_leaves g a pages what None = from_new g a pages what (first_unused a.chunks)

-- either of two arenas
either : (a x y : Arena) (b : Bool) → SameOut a x → SameOut a y → SameOut a (if b then x else y)
either a x y true s t = s
either a x y false s t = t

element_leaves : (g : Geometry) (a b : Arena) (class : ℕ) (spot : ℕ × ℕ) (e : Elements) (o : Option ℕ) → SameOut a b →
    Leaves a (option_map (λ k. element_taken g b class spot e k) o)
element_leaves g a b class spot e None s = tt
element_leaves g a b class spot e (Some k) s =
    let c : Arena = with_elements b spot.0 spot.1 class (with_out e k) in
    either a (with_front c class (without_subpage spot.0 spot.1 (front_of c class))) c (is_full (with_out e k))
    (record { takings = s.takings; out = s.out }) (record { takings = s.takings; out = s.out })

elements_leave : (g : Geometry) (a b : Arena) (class : ℕ) (spot : ℕ × ℕ) (o : Option Elements) → SameOut a b →
    Leaves a (option_and_then (λ e. option_map (λ k. element_taken g b class spot e k) (next_element e)) o)
elements_leave g a b class spot None s = tt
elements_leave g a b class spot (Some e) s = element_leaves g a b class spot e (next_element e) s

subpage_leaves : (g : Geometry) (a : Arena) (class : ℕ) (o : Option (ℕ × ℕ × Arena)) → Leaves a o →
    Leaves a (option_and_then (λ t. take_element g (with_subpage class t) class (t.0, t.1)) o)
subpage_leaves g a class None s = tt
subpage_leaves g a class (Some t) s =
    let b : Arena = with_subpage class t in
    elements_leave g a b class (t.0, t.1) (elements_at b class t.0 t.1) (record { takings = s.takings; out = s.out })

small_leaves : (g : Geometry) (a : Arena) (class : ℕ) (subpages : List (ℕ × ℕ))
    → Leaves a (take_small g a class subpages)
small_leaves g a class (spot ∷ subpages) = elements_leave g a a class spot (elements_at a class spot.0 spot.1) (same a)
small_leaves g a class [] =
    let what : Use = Sub class (new_elements (element_count g class)) in
    subpage_leaves g a class (take_run g a (subpage_pages g class) what)
    (run_leaves g a (subpage_pages g class) what (first_holding g a (subpage_pages g class) (walk a.lists)))

whole_leaves : (g : Geometry) (a : Arena) (o : Option (ℕ × ℕ × Arena)) → Leaves a o
    → Leaves a (option_map (λ t. (t.0, page_of g * t.1, t.2)) o)
whole_leaves g a None s = tt
whole_leaves g a (Some t) s = s

pub take_leaves : (g : Geometry) (a : Arena) (class : ℕ) → Leaves a (take_class g a class)
take_leaves g a class = by (is_small g class)
  where
    by : (b : Bool) → Leaves a (if b then take_small g a class (front_of a class) else option_map
        (λ t. (t.0, page_of g * t.1, t.2)) (take_run g a (pages_of g class) Whole))
    by true = small_leaves g a class (front_of a class)
    by false =
        whole_leaves g a (take_run g a (pages_of g class) Whole)
        (run_leaves g a (pages_of g class) Whole (first_holding g a (pages_of g class) (walk a.lists)))

idle_leaves : (g : Geometry) (a b : Arena) (class c page : ℕ) → SameOut a b → SameOut a (idle_given g b class c page)
idle_leaves g a b class c page s =
    either a b (run_given g (with_front b class (without_subpage c page (front_of b class))) c page)
    (is_alone (front_of b class)) s
    (record { takings = s.takings; out = s.out })

back_leaves : (g : Geometry) (a : Arena) (class c page k : ℕ) (e : Elements)
    → SameOut a (element_given g a class c page k e)
back_leaves g a class c page k e =
    let b : Arena = with_elements a c page class (with_back e k) in
    let d : Arena = (if is_full e then with_front b class ((c, page) ∷ front_of b class) else b) in
    let s : SameOut a d = either a (with_front b class ((c, page) ∷ front_of b class)) b (is_full e)
    (record { takings = refl; out = refl }) (record { takings = refl; out = refl }) in
    either a (idle_given g d class c page) d (is_idle (with_back e k)) (idle_leaves g a d class c page s) s

some_leaves : (g : Geometry) (a : Arena) (class c page k : ℕ) (o : Option Elements) →
    SameOut a (unwrap_or (option_map (element_given g a class c page k) o) a)
some_leaves g a class c page k None = same a
some_leaves g a class c page k (Some e) = back_leaves g a class c page k e

pub given_leaves : (g : Geometry) (a : Arena) (class c offset : ℕ) → SameOut a (given_place g a class c offset)
given_leaves g a class c offset =
    let page : ℕ = run_start (offset / page_of g) (chunk_at a c) in
    either a (small_given g a class c offset) (run_given g a c (offset / page_of g)) (is_small g class)
    (some_leaves g a class c page ((offset - page_of g * page) / size_at class) (elements_at a class c page))
    (record { takings = refl; out = refl })
