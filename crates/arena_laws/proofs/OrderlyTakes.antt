-- An arena is in order at first, and after each taking.
use Rattle.std.proofs.Common.{◌≡◌, ℕ, zero, suc, ◌*◌, ◌<◌, ◌≤◌, List, [], ◌∷◌, length, refl, sym, ap, subst, true, false, Some, None, ◌∙◌}
use Rattle.std.specs.Prelude.{slice_get, Option, option_map, option_and_then, replicate, unwrap_or}
use Rattle.std.proofs.lemmas.Bool.{cond_both}
use Rattle.std.proofs.lemmas.List.{length-replicate}
use Rattle.size_classes.specs.Sizes.{Geometry, page_of, class_count, is_small, pages_of, subpage_pages, element_count, IsPage}
use Rattle.size_classes.specs.Pages.{Free, Used}
use Rattle.size_classes.specs.Runs.{Begins}
use Rattle.size_classes.specs.Elements.{Elements, new_elements, next_element}
use Rattle.size_classes.proofs.Runs.{subpage_pages-least}
use Rattle.pool_law.specs.Chunks.{Chunk, Use, Whole, Sub}
use Rattle.pool_law.specs.Arenas.{Arena, Yielded, new_arena, chunk_at, run_from, take_run, elements_at, element_taken, take_element, front_of, with_subpage, take_small, take_class}
use Rattle.arena_laws.specs.Slots.{ArenaHolds}
use Rattle.arena_laws.specs.Orderly.{has_subpage, SubpagesDiffer, IsOrderly}
use Rattle.arena_laws.proofs.ElementSteps.{new-has_room}
use Rattle.arena_laws.proofs.ElementTakes.{elements_at-is, new-subpage, pages_of-pos}
use Rattle.arena_laws.proofs.ArenaLaw.{new-holds}
use Rattle.arena_laws.proofs.OrderlyParts.{orderly-from}
use Rattle.arena_laws.proofs.UsedSteps.{take_run-by}
use Rattle.arena_laws.proofs.OrderlySteps.{opened-orderly, with_run-orderly, with_subpage-orderly, element_taken-orderly}

-- ---- at first

no_place : (n c : ℕ) → unwrap_or (slice_get (replicate {A = Option Chunk} n None) c) None ≡ None
no_place zero c = refl
no_place (suc n) zero = refl
no_place (suc n) (suc c) = no_place n c

no_front : (n class : ℕ) → unwrap_or (slice_get (replicate {A = List (ℕ × ℕ)} n []) class) [] ≡ []
no_front zero class = refl
no_front (suc n) zero = refl
no_front (suc n) (suc class) = no_front n class

pub new-orderly : (g : Geometry) (chunks : ℕ) → IsPage g.page → 3 ≤ g.order → IsOrderly g (new_arena g chunks)
new-orderly g chunks page order =
    orderly-from g (new_arena g chunks) order holds.sound holds.whole
    (λ c. ((λ _. no_place chunks c), λ _. refl))
    (length-replicate (class_count g) [])
    (λ class c page small. (
      (λ h. absurd (let both : true ≡ false = sym h
          ∙ ap (has_subpage c page) (no_front (class_count g) class) in cc both)),
      λ r. absurd (subst (λ x. Begins page (Used r.pages (Sub class r.elements)) x)
          (ap (λ o. unwrap_or o []) (no_place chunks c)) r.begins),
    ))
    (λ class. subst SubpagesDiffer (sym (no_front (class_count g) class)) tt)
  where
    holds : ArenaHolds g 0 (new_arena g chunks)
    holds = new-holds g 0 page chunks

-- ---- a subpage that stands in a list

-- an element that is taken leaves the arena in order
pub take_element-orderly : (g : Geometry) (a : Arena) (class : ℕ) (spot : ℕ × ℕ) (t : Yielded) → IsOrderly g a
    → is_small g class ≡ true → take_element g a class spot ≡ Some t → IsOrderly g t.2
take_element-orderly g a class spot t o small e =
    outer (elements_at a class spot.0 spot.1) (λ f. elements_at-is a class spot.0 spot.1 f) e
  where
    inner : (f : Elements) (m : ℕ) → Begins spot.1 (Used m (Sub class f)) (chunk_at a spot.0) → (x : Option ℕ)
        → next_element f ≡ x →
        option_map (λ k. element_taken g a class spot f k) x ≡ Some t → IsOrderly g t.2
    inner f m here None next is = absurd (cc is)
    inner f m here (Some k) next is =
        let same : element_taken g a class spot f k ≡ t = cc is in
        subst (λ u. IsOrderly g u.2) same (element_taken-orderly g a o class spot.0 spot.1 m k f small here next)

    outer : (x : Option Elements) → ((f : Elements) → x ≡ Some f
        → (m : ℕ) × Begins spot.1 (Used m (Sub class f)) (chunk_at a spot.0)) →
        option_and_then (λ f. option_map (λ k. element_taken g a class spot f k) (next_element f)) x ≡ Some t
        → IsOrderly g t.2
    outer None found is = absurd (cc is)
    outer (Some f) found is =
        let h : (m : ℕ) × Begins spot.1 (Used m (Sub class f)) (chunk_at a spot.0) = found f refl in
        inner f h.0 h.1 (next_element f) refl is

-- ---- runs

-- a run that is taken as a whole leaves the arena in order
pub take_run-orderly : (g : Geometry) (a : Arena) (pages : ℕ) → IsOrderly g a → 0 < pages → (t : Yielded)
    → take_run g a pages Whole ≡ Some t → IsOrderly g t.2
take_run-orderly g a pages o some t e =
    take_run-by g pages Whole (IsOrderly g) (opened-orderly g) (λ u. IsOrderly g u.2)
    (λ x spot n order here fits. with_run-orderly g x order spot.0 spot.1 n pages here fits some)
    a o t e

-- what a new subpage of a class is used for
abbrev pub new_use : Geometry → ℕ → Use
new_use g class = Sub class (new_elements (element_count g class))

-- so does one that becomes the front subpage of its class
pub run_from-subpage : (g : Geometry) (a : Arena) (class : ℕ) (spot : ℕ × ℕ) (n : ℕ) → IsOrderly g a
    → is_small g class ≡ true → Begins spot.1 (Free n) (chunk_at a spot.0) → subpage_pages g class ≤ n →
    IsOrderly g (with_subpage class (run_from g a (subpage_pages g class) (new_use g class) spot))
run_from-subpage g a class spot n o small here fits =
    with_subpage-orderly g a o class spot.0 spot.1 n (subpage_pages g class) (new_elements (element_count g class))
    small here fits
    (subpage_pages-least g class) (new-subpage g class) (new-has_room g (o.sound 0).page class small)

pub take_subpage-orderly : (g : Geometry) (a : Arena) (class : ℕ) → IsOrderly g a → is_small g class ≡ true
    → (t : Yielded) → take_run g a (subpage_pages g class) (new_use g class) ≡ Some t →
    IsOrderly g (with_subpage class t)
take_subpage-orderly g a class o small t e =
    take_run-by g (subpage_pages g class) (new_use g class) (IsOrderly g) (opened-orderly g)
    (λ u. IsOrderly g (with_subpage class u))
    (λ x spot n order here fits. run_from-subpage g x class spot n order small here fits)
    a o t e

-- the lists of an arena that gave a run are as many as before
pub take_run-fronts : (g : Geometry) (a : Arena) (pages : ℕ) (what : Use) → IsOrderly g a → (t : Yielded)
    → take_run g a pages what ≡ Some t → length t.2.fronts ≡ class_count g
take_run-fronts g a pages what o t e =
    take_run-by g pages what (IsOrderly g) (opened-orderly g) (λ u. length u.2.fronts ≡ class_count g)
    (λ x spot n order here fits. order.fronts) a o t e

-- ---- a class, and a taking

pub take_small-orderly : (g : Geometry) (a : Arena) (class : ℕ) → IsOrderly g a → is_small g class ≡ true
    → (subpages : List (ℕ × ℕ)) (t : Yielded) → take_small g a class subpages ≡ Some t → IsOrderly g t.2
take_small-orderly g a class o small (spot ∷ subpages) t e = take_element-orderly g a class spot t o small e
take_small-orderly g a class o small [] t e =
    go (take_run g a (subpage_pages g class) (new_use g class)) (λ u. take_subpage-orderly g a class o small u) e
  where
    go : (x : Option Yielded) → ((u : Yielded) → x ≡ Some u → IsOrderly g (with_subpage class u))
        → option_and_then (λ u. take_element g (with_subpage class u) class (u.0, u.1)) x ≡ Some t → IsOrderly g t.2
    go None order is = absurd (cc is)
    go (Some u) order is = take_element-orderly g (with_subpage class u) class (u.0, u.1) t (order u refl) small is

pub take_class-orderly : (g : Geometry) (a : Arena) (class : ℕ) → IsOrderly g a → (t : Yielded)
    → take_class g a class ≡ Some t → IsOrderly g t.2
take_class-orderly g a class o t e =
    cond_both (is_small g class) (take_small g a class (front_of a class))
    (option_map (λ u. (u.0, page_of g * u.1, u.2)) (take_run g a (pages_of g class) Whole))
    (λ x. x ≡ Some t → IsOrderly g t.2)
    (λ small is. take_small-orderly g a class o small (front_of a class) t is)
    (λ _ is. go (take_run g a (pages_of g class) Whole)
    (λ u. take_run-orderly g a (pages_of g class) o (pages_of-pos g 0 class (o.sound 0).page) u) is)
    e
  where
    go : (x : Option Yielded) → ((u : Yielded) → x ≡ Some u → IsOrderly g u.2)
        → option_map (λ u. (u.0, page_of g * u.1, u.2)) x ≡ Some t → IsOrderly g t.2
    go None order is = absurd (cc is)
    go (Some u) order is =
        let same : (u.0, page_of g * u.1, u.2) ≡ t = cc is in
        subst (λ x. IsOrderly g x.2) same (order u refl)
