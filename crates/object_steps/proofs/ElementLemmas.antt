-- An arena that gives an element.
use Rattle.std.proofs.Common.{◌≡◌, ℕ, zero, suc, ◌-◌, ◌*◌, ◌<◌, List, [], ◌∷◌, ◌++◌, length, lt-ltb, Option, Some, None, Bool, true, false, replicate, refl, sym, ap, subst, arith, eqb-true, eq-eqb, ◌∙◌}
use Rattle.std.specs.Prelude.{slice_get, option_map, option_and_then, ◌==◌, nat_lt}
use Rattle.size_classes.specs.Sizes.{Geometry, page_of, is_small, pages_of}
use Rattle.size_classes.specs.Pages.{Run, Free, Used, pages_in, replaced, run_at}
use Rattle.size_classes.specs.Elements.{Elements, new_elements, next_element}
use Rattle.pool_law.specs.Chunks.{Chunk, Use, Whole, Sub}
use Rattle.pool_law.specs.Arenas.{Arena, Yielded, chunk_at, elements_in, elements_at, with_front, front_of, take_run, take_element, take_class}
use Rattle.object_steps.specs.Moves.{GivesYielded}
use Rattle.object_steps.proofs.ArenaLemmas.{run_at-replaced}

-- a spot, if there is one
abbrev spot_in : Option (ℕ × ℕ) → ℕ × ℕ
spot_in None = (0, 0)
spot_in (Some s) = s

-- ---- The elements of a subpage.

pub subpage-is : (class : ℕ) (o : Option (Run Use)) (e : Elements) → elements_in class o ≡ Some e →
    (n : ℕ) × (o ≡ Some (Used n (Sub class e)))
subpage-is class None e h = absurd (cc h)
subpage-is class (Some (Free n)) e h = absurd (cc h)
subpage-is class (Some (Used n Whole)) e h = absurd (cc h)
subpage-is class (Some (Used n (Sub other f))) e h = go (class == other) refl
  where
    go : (b : Bool) → (class == other) ≡ b →
        (m : ℕ) × (◌≡◌ {A = Option (Run Use)} (Some (Used n (Sub other f))) (Some (Used m (Sub class e))))
    go true same =
        let inside : f ≡ e = cc (rw same at h) in
        let is : class ≡ other = eqb-true class other same in
        (n, λ i. Some (Used n (Sub (sym is i) (inside i))))
    go false same = absurd (cc (rw same at h))

replaced-same : (at : ℕ) (f h : Run Use → Chunk) (rs : Chunk) (r : Run Use) → run_at at rs ≡ Some r → f r ≡ h r →
    replaced at f rs ≡ replaced at h rs
replaced-same at f h [] r found same = refl
replaced-same at f h (x ∷ xs) r found same =
    go (at == 0) (nat_lt at (pages_in x)) refl refl (λ e. replaced-same (at - pages_in x) f h xs r e same)
  where
    go : (b c : Bool) → (at == 0) ≡ b → nat_lt at (pages_in x) ≡ c →
        (run_at (at - pages_in x) xs ≡ Some r → replaced (at - pages_in x) f xs ≡ replaced (at - pages_in x) h xs) →
        replaced at f (x ∷ xs) ≡ replaced at h (x ∷ xs)
    go true c here inside later =
        let first : x ≡ r = cc (rw here at found) in
        rw here (ap (λ ys. ys ++ xs) (ap f first ∙ same ∙ sym (ap h first)))
    go false true here inside later = absurd (cc (rw (here, inside) at found))
    go false false here inside later = rw here (ap (λ ys. x ∷ ys) (later (rw (here, inside) at found)))

-- the chunk once a subpage has other elements
pub moved : (class page : ℕ) (rs new : Chunk) (f : Run Use → Run Use) (e next : Elements) →
    elements_in class (run_at page rs) ≡ Some e →
    ((n : ℕ) → f (Used n (Sub class e)) ≡ Used n (Sub class next)) →
    new ≡ replaced page (λ r. f r ∷ []) rs →
    (new ≡ replaced page (λ r. Used (pages_in r) (Sub class next) ∷ []) rs)
    × (elements_in class (run_at page new) ≡ Some next)
moved class page rs new f e next there turns is =
    let found : (n : ℕ) × (run_at page rs ≡ Some (Used n (Sub class e))) = subpage-is class (run_at page rs) e there in
    let n : ℕ = found.0 in
    let one : f (Used n (Sub class e)) ∷ [] ≡ Used n (Sub class next) ∷ [] = ap (λ r. r ∷ []) (turns n) in
    let after : run_at page new ≡ Some (Used n (Sub class next)) =
    ap (run_at page) is
    ∙ run_at-replaced page (λ r. f r ∷ []) rs (Used n (Sub class e)) (Used n (Sub class next)) [] found.1 one in
    let same : (class == class) ≡ true = eq-eqb class class refl in (
      is
          ∙ replaced-same page (λ r. f r ∷ []) (λ r. Used (pages_in r) (Sub class next) ∷ []) rs (Used n (Sub class e))
          found.1 one,
      rw (after, same) refl,
    )

-- ---- A small class.

new-next : (count : ℕ) → 0 < count → next_element (new_elements count) ≡ Some 0
new-next zero some = absurd (omega (arith, some))
new-next (suc n) some =
    let there : nat_lt 0 (length (false ∷ replicate n false))
    ≡ true = lt-ltb 0 (length (false ∷ replicate n false)) (omega arith) in
    rw there refl

module _ (g : Geometry) (a : Arena) (class : ℕ) where
  pub gives-new : (pages count place page : ℕ) (next mid new : Arena) (r : Option (ℕ × ℕ)) →
      front_of a class ≡ [] → 0 < count →
      GivesYielded (take_run g a pages (Sub class (new_elements count))) a next (Some (place, page)) →
      run_at page (chunk_at next place) ≡ Some (Used pages (Sub class (new_elements count))) →
      mid ≡ with_front next class ((place, page) ∷ front_of next class) →
      GivesYielded (take_element g mid class (place, page)) mid new r →
      GivesYielded
      (option_and_then (λ t. take_element g (with_front t.2 class ((t.0, t.1) ∷ front_of t.2 class)) class (t.0, t.1))
      (take_run g a pages (Sub class (new_elements count)))) a new r
  gives-new pages count place page next mid new r empty some run begins made element =
      go (take_run g a pages (Sub class (new_elements count))) run
    where
      here : elements_at mid class place page ≡ Some (new_elements count)
      here = rw (made, begins, eq-eqb class class refl) refl

      there : (o : Option Yielded) → take_element g mid class (place, page) ≡ o → GivesYielded o mid new r
          → GivesYielded o a new r
      there None e h = absurd (cc (rw (here, new-next count some) at e))
      there (Some u) e h = h

      go : (o : Option Yielded) → GivesYielded o a next (Some (place, page)) →
          GivesYielded
          (option_and_then (λ t. take_element g (with_front t.2 class ((t.0, t.1) ∷ front_of t.2 class)) class
          (t.0, t.1)) o)
          a new r
      go None h = absurd (cc h.0)
      go (Some t) h =
          let place_is : place ≡ t.0 = ap (λ o. (spot_in o).0) h.0 in
          let page_is : page ≡ t.1 = ap (λ o. (spot_in o).1) h.0 in
          let mid_is : mid ≡ with_front t.2 class ((t.0, t.1) ∷ front_of t.2 class) =
          made ∙ (λ i. with_front (h.1 i) class ((place_is i, page_is i) ∷ front_of (h.1 i) class)) in
          subst (λ o. GivesYielded o a new r) (λ i. take_element g (mid_is i) class (place_is i, page_is i))
          (there (take_element g mid class (place, page)) refl element)

-- ---- A normal class.

module _ (g : Geometry) (a b : Arena) (class : ℕ) (normal : is_small g class ≡ false) where
  pub gives-normal : (place page : ℕ) → GivesYielded (take_run g a (pages_of g class) Whole) a b (Some (place, page)) →
      GivesYielded (take_class g a class) a b (Some (place, page_of g * page))
  gives-normal place page h = rw normal (go (take_run g a (pages_of g class) Whole) h)
    where
      go : (o : Option Yielded) → GivesYielded o a b (Some (place, page)) →
          GivesYielded (option_map (λ (t : Yielded). (t.0, page_of g * t.1, t.2)) o) a b (Some
          (place, page_of g * page))
      go None h = absurd (cc h.0)
      go (Some t) h = (ap (option_map (λ (s : ℕ × ℕ). (s.0, page_of g * s.1))) h.0, h.1)

  pub gives-no_normal : GivesYielded (take_run g a (pages_of g class) Whole) a b None
      → GivesYielded (take_class g a class) a b None
  gives-no_normal h = rw normal (go (take_run g a (pages_of g class) Whole) h)
    where
      go : (o : Option Yielded) → GivesYielded o a b None →
          GivesYielded (option_map (λ (t : Yielded). (t.0, page_of g * t.1, t.2)) o) a b None
      go None h = h
      go (Some t) h = absurd (cc h.0)

pub front-empty : (a : Arena) (class : ℕ) → slice_get (front_of a class) 0 ≡ None → front_of a class ≡ []
front-empty a class = go (front_of a class)
  where
    go : (xs : List (ℕ × ℕ)) → slice_get xs 0 ≡ None → xs ≡ []
    go [] e = refl
    go (x ∷ xs) e = absurd (cc e)
