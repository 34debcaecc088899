-- What an arena keeps when an element is taken.
use Rattle.std.proofs.Common.{div-add-mod', eqb-true, ⊎_elim, ◌≡◌, ◌≢◌, inl, inr, ℕ, zero, suc, ◌+◌, ◌*◌, ◌/◌, ◌<◌, ◌≤◌, List, [], ◌∷◌, length, refl, sym, ap, subst, arith, true, false, Some, None, ◌∙◌}
use Rattle.std.specs.Prelude.{◌⊎◌, slice_get, slice_set, Option, option_map, option_and_then, replicate, ◌==◌}
use Rattle.size_classes.specs.Sizes.{Geometry, IsPage, page_of, size_at, is_small, pages_of, subpage_pages, element_count}
use Rattle.size_classes.specs.Pages.{Run, Free, Used, replaced, run_at}
use Rattle.size_classes.specs.Runs.{Begins}
use Rattle.size_classes.specs.Elements.{Elements, new_elements, next_element, with_out, is_full}
use Rattle.size_classes.proofs.SmallClasses.{page-some, pages_of-whole}
use Rattle.std.proofs.Math.Nat.{le-div_iff_mul-le, mul_comm}
use Rattle.size_classes.proofs.Runs.{Begins-run_at, Begins-one, EachRun-Begins, subpage_pages-least}
use Rattle.pool_law.specs.declared.id.RegionId.{RegionId}
use Rattle.pool_law.specs.Chunks.{Chunk, Use, Whole, Sub, RemembersFree}
use Rattle.pool_law.specs.Arenas.{Arena, chunk_at, take_run, elements_in, elements_at, with_elements, element_taken, take_element, with_front, front_of, without_subpage, with_subpage, take_small, take_class, noted_taking, region_of, take}
use Rattle.arena_laws.specs.Slots.{IsSlot, ElementsFit, IsSound, EachOf, IsLocated, BeginElsewhere, ArenaHolds}
use Rattle.pool_law.proofs.ListLemmas.{slice_get-set_same, slice_get-set_other, slice_get-below, slice_set-length}
use Rattle.arena_laws.proofs.ChunkSteps.{Keeps, same_or-not, size_at-pos}
use Rattle.arena_laws.proofs.ElementChanges.{elements-keeps, elements-here, elements_to, element-fresh, next_element-is, StillOut}
use Rattle.std.proofs.lemmas.Bool.{cond_both}
use Rattle.arena_laws.proofs.ArenaSteps.{EachOf-map, EachOf-push, EachTwo-push, chunk_at-same, chunk_at-below, chunk-changed, IsUnused, RunTaken, take_run-is}

-- the elements that a search finds are those of a subpage of the class
pub elements_at-is : (a : Arena) (class c page : ℕ) (e : Elements) → elements_at a class c page ≡ Some e
    → (m : ℕ) × Begins page (Used m (Sub class e)) (chunk_at a c)
elements_at-is a class c page e is = go (run_at page (chunk_at a c)) is (λ r. Begins-run_at (chunk_at a c) page r)
  where
    go : (o : Option (Run Use)) → elements_in class o ≡ Some e
        → ((r : Run Use) → o ≡ Some r → Begins page r (chunk_at a c))
        → (m : ℕ) × Begins page (Used m (Sub class e)) (chunk_at a c)
    go None found begins = absurd (cc found)
    go (Some (Free n)) found begins = absurd (cc found)
    go (Some (Used n Whole)) found begins = absurd (cc found)
    go (Some (Used n (Sub other f))) found begins =
        cond_both (class == other) (Some f) None
        (λ z. z ≡ Some e → (m : ℕ) × Begins page (Used m (Sub class e)) (chunk_at a c))
        (λ yes found'. let classes : class ≡ other = eqb-true class other yes in
        let same : f ≡ e = cc found' in (
          n,
          subst (λ k. Begins page (Used n (Sub k e)) (chunk_at a c)) (sym classes)
              (subst (λ x. Begins page (Used n (Sub other x)) (chunk_at a c)) same
              (begins (Used n (Sub other f)) refl)),
        ))
        (λ no_class found'. absurd (cc found'))
        found

-- after bytes were taken for a class: they are a slot, and nothing that is out begins there
pub record ClassTaken (g : Geometry) (number : ℕ) (a b : Arena) (c offset class : ℕ) : Type 0 where
  pub holds : ArenaHolds g number b
  pub out : b.out ≡ a.out
  pub takings : b.takings ≡ a.takings
  pub slot : (r : RegionId) → r.place.chunk ≡ c → r.place.offset ≡ offset → r.place.len ≡ size_at class
      → r.class ≡ class → IsSlot g (chunk_at b r.place.chunk) r
  pub unused : IsUnused a c offset

module _ (g : Geometry) (number class : ℕ) (small : is_small g class ≡ true) where
  -- one element of a subpage is handed out
  pub with_elements-is : (a : Arena) → ArenaHolds g number a → (c page m k : ℕ) (e : Elements)
      → Begins page (Used m (Sub class e)) (chunk_at a c) → next_element e ≡ Some k →
      ClassTaken g number a (with_elements a c page class (with_out e k)) c (page_of g * page + k * size_at class) class
  with_elements-is a holds c page m k e here next =
      record {
        holds = chunk-changed g number a holds b c page (Used m (Sub class e)) new still here refl refl keeps
            (EachOf-map (IsLocated g number a) (λ s. s.place.chunk ≡ c → still s) a.out (λ s _ _. all_still s)
            holds.located);
        out = refl;
        takings = refl;
        slot =
            λ r in_chunk starts ends classes. subst (λ d. IsSlot g (chunk_at b d) r) (sym in_chunk)
            (slot r starts ends classes);
        unused =
            EachOf-map (IsLocated g number a)
            (λ s. s.place.chunk ≡ c → s.place.offset ≢ page_of g * page + k * size_at class) a.out
            (λ s x in_chunk. element-fresh g (chunk_at a c) sound page m class e here k free s
            (subst (λ d. IsSlot g (chunk_at a d) s) in_chunk x.1)) holds.located;
      }
    where
      b : Arena
      b = with_elements a c page class (with_out e k)

      new : Chunk
      new = replaced page (elements_to class (with_out e k)) (chunk_at a c)

      sound : IsSound g (chunk_at a c)
      sound = holds.sound c

      good : RemembersFree e e.remembered
      good = (EachRun-Begins (ElementsFit g) (chunk_at a c) page (Used m (Sub class e)) sound.elements_fit here).1

      free : slice_get e.out k ≡ Some false
      free = next_element-is e k good next

      below : k < length e.out
      below = slice_get-below e.out k false free

      as_many : length (with_out e k).out ≡ length e.out
      as_many = slice_set-length e.out k true

      still : RegionId → Type 0
      still = StillOut g (chunk_at a c) sound page m class e (with_out e k) here as_many tt

      keeps : Keeps g (chunk_at a c) new still
      keeps = elements-keeps g (chunk_at a c) sound page m class e (with_out e k) here as_many tt

      all_still : (s : RegionId) → still s
      all_still s = λ x same.
          let run : Used x.pages (Sub s.class x.elements)
          ≡ Used m (Sub class e) =
          Begins-one (chunk_at a c) page (Used x.pages (Sub s.class x.elements)) (Used m (Sub class e))
          sound.none_empty (subst (λ p. Begins p (Used x.pages (Sub s.class x.elements)) (chunk_at a c))
          same x.begins) here in
          let elements : x.elements ≡ e = cc run in
          let out : slice_get e.out x.at ≡ Some true = subst (λ f. slice_get f.out x.at ≡ Some true) elements x.out in
          ⊎_elim
          (λ same_k. subst (λ j. slice_get (slice_set e.out k true) j ≡ Some true) (sym same_k)
          (slice_get-set_same e.out k true below))
          (λ other. slice_get-set_other e.out k x.at true other ∙ out)
          (same_or-not x.at k)

      is_new : chunk_at b c ≡ new
      is_new = chunk_at-same a b c new refl (chunk_at-below a c page (Used m (Sub class e)) here)

      slot : (r : RegionId) → r.place.offset ≡ page_of g * page + k * size_at class → r.place.len ≡ size_at class
          → r.class ≡ class → IsSlot g (chunk_at b c) r
      slot r starts ends classes =
          inr (record {
            page = page;
            pages = m;
            elements = with_out e k;
            at = k;
            starts = starts ∙ ap (λ d. page_of g * page + k * size_at d) (sym classes);
            ends = ends ∙ ap size_at (sym classes);
            begins =
                subst (λ d. Begins page (Used m (Sub d (with_out e k))) (chunk_at b c)) (sym classes)
                (subst (λ x. Begins page (Used m (Sub class (with_out e k))) x) (sym is_new)
                (elements-here g (chunk_at a c) sound page m class e (with_out e k) here as_many tt));
            out = slice_get-set_same e.out k true below;
            kind = subst (λ d. is_small g d ≡ true) (sym classes) small;
          })

  -- the lists of subpages say nothing of where things lie
  pub same-but_fronts : (a b : Arena) (c offset : ℕ) (subpages : List (ℕ × ℕ)) → ClassTaken g number a b c offset class
      → ClassTaken g number a (with_front b class subpages) c offset class
  same-but_fronts a b c offset subpages t =
      record {
        holds = record {
          sound = t.holds.sound;
          whole = t.holds.whole;
          located = t.holds.located;
          elsewhere =
              t.holds.elsewhere;
        };
        out = t.out;
        takings = t.takings;
        slot = t.slot;
        unused = t.unused;
      }

  pub take_element-is : (a : Arena) → ArenaHolds g number a → (spot : ℕ × ℕ) (t : ℕ × ℕ × Arena)
      → take_element g a class spot ≡ Some t → ClassTaken g number a t.2 t.0 t.1 class
  take_element-is a holds spot t e =
      outer (elements_at a class spot.0 spot.1) (λ f. elements_at-is a class spot.0 spot.1 f) e
    where
      taken : (f : Elements) (m k : ℕ) → Begins spot.1 (Used m (Sub class f)) (chunk_at a spot.0)
          → next_element f ≡ Some k →
          ClassTaken g number a (element_taken g a class spot f k).2 spot.0 (page_of g * spot.1 + k * size_at class)
          class
      taken f m k here next =
          let b : Arena = with_elements a spot.0 spot.1 class (with_out f k) in
          let base : ClassTaken g number a b spot.0 (page_of g * spot.1 + k * size_at class) class =
          with_elements-is a holds spot.0 spot.1 m k f here next in
          cond_both (is_full (with_out f k)) (with_front b class (without_subpage spot.0 spot.1 (front_of b class))) b
          (λ x. ClassTaken g number a x spot.0 (page_of g * spot.1 + k * size_at class) class)
          (λ _. same-but_fronts a b spot.0 (page_of g * spot.1 + k * size_at class)
          (without_subpage spot.0 spot.1 (front_of b class)) base)
          (λ _. base)

      inner : (f : Elements) (m : ℕ) → Begins spot.1 (Used m (Sub class f)) (chunk_at a spot.0) → (o : Option ℕ)
          → next_element f ≡ o →
          option_map (λ k. element_taken g a class spot f k) o ≡ Some t → ClassTaken g number a t.2 t.0 t.1 class
      inner f m here None next is = absurd (cc is)
      inner f m here (Some k) next is =
          let same : element_taken g a class spot f k ≡ t = cc is in
          subst (λ u. ClassTaken g number a u.2 u.0 u.1 class) same (taken f m k here next)

      outer : (o : Option Elements) → ((f : Elements) → o ≡ Some f
          → (m : ℕ) × Begins spot.1 (Used m (Sub class f)) (chunk_at a spot.0)) →
          option_and_then (λ f. option_map (λ k. element_taken g a class spot f k) (next_element f)) o ≡ Some t
          → ClassTaken g number a t.2 t.0 t.1 class
      outer None found is = absurd (cc is)
      outer (Some f) found is =
          let h : (m : ℕ) × Begins spot.1 (Used m (Sub class f)) (chunk_at a spot.0) = found f refl in
          inner f h.0 h.1 (next_element f) refl is

pub length-replicate_false : (n : ℕ) → length (replicate n false) ≡ n
length-replicate_false zero = refl
length-replicate_false (suc n) = ap suc (length-replicate_false n)

pub whole-elements : (n size : ℕ) → n / size * size ≤ n
whole-elements n size = omega (arith, div-add-mod' n size)

-- a new subpage of a class fits
pub new-subpage : (g : Geometry) (class : ℕ) → ElementsFit g
    (Used (subpage_pages g class) (Sub class (new_elements (element_count g class))))
new-subpage g class =
    (rw length-replicate_false (whole-elements (page_of g * subpage_pages g class) (size_at class)), tt)

module _ (g : Geometry) (number class : ℕ) where
  pub take_small-is : is_small g class ≡ true → (a : Arena) → ArenaHolds g number a
      → (subpages : List (ℕ × ℕ)) (t : ℕ × ℕ × Arena) → take_small g a class subpages ≡ Some t
      → ClassTaken g number a t.2 t.0 t.1 class
  take_small-is small a holds (spot ∷ subpages) t e = take_element-is g number class small a holds spot t e
  take_small-is small a holds [] t e =
      outer (take_run g a (subpage_pages g class) (Sub class (new_elements (element_count g class))))
      (λ u. take_run-is g number (subpage_pages g class) (Sub class (new_elements (element_count g class)))
      (subpage_pages-least g class) (new-subpage g class) a holds u) e
    where
      outer : (o : Option (ℕ × ℕ × Arena))
          → ((u : ℕ × ℕ × Arena) → o ≡ Some u → RunTaken g number a u.2 u.0 u.1 (subpage_pages g class)
          (Sub class (new_elements (element_count g class)))) →
          option_and_then (λ u. take_element g (with_subpage class u) class (u.0, u.1)) o ≡ Some t
          → ClassTaken g number a t.2 t.0 t.1 class
      outer None found is = absurd (cc is)
      outer (Some u) found is =
          let run : RunTaken g number a u.2 u.0 u.1 (subpage_pages g class)
          (Sub class (new_elements (element_count g class))) = found u refl in
          let mid : ArenaHolds g number (with_subpage class u) =
          record {
            sound = run.holds.sound;
            whole = run.holds.whole;
            located = run.holds.located;
            elsewhere =
                run.holds.elsewhere;
          } in
          let last : ClassTaken g number (with_subpage class u) t.2 t.0 t.1 class =
          take_element-is g number class small (with_subpage class u) mid (u.0, u.1) t is in
          record {
            holds = last.holds;
            out = last.out ∙ run.out;
            takings = last.takings
                ∙ run.takings;
            slot = last.slot;
            unused =
                subst (λ xs. EachOf (λ s. s.place.chunk ≡ t.0 → s.place.offset ≢ t.1) xs) run.out last.unused;
          }

  pub pages_of-pos : IsPage g.page → 0 < pages_of g class
  pages_of-pos page =
      let some : 0 < page_of g = page-some g page in
      (le-div_iff_mul-le some).1 (omega (arith, some, size_at-pos class))

  -- a class that is not small fills its pages
  pub pages_of-fills : IsPage g.page → is_small g class ≡ false → size_at class ≡ page_of g * pages_of g class
  pages_of-fills page large = sym (pages_of-whole g page class large) ∙ mul_comm (pages_of g class) (page_of g)

  pub take_whole-is : is_small g class ≡ false → (a : Arena) → ArenaHolds g number a → (t : ℕ × ℕ × Arena) →
      option_map (λ u. (u.0, page_of g * u.1, u.2)) (take_run g a (pages_of g class) Whole) ≡ Some t
      → ClassTaken g number a t.2 t.0 t.1 class
  take_whole-is large a holds t e =
      go (take_run g a (pages_of g class) Whole)
      (λ u. take_run-is g number (pages_of g class) Whole (pages_of-pos (holds.sound 0).page) tt a holds u) e
    where
      made : (u : ℕ × ℕ × Arena) → RunTaken g number a u.2 u.0 u.1 (pages_of g class) Whole
          → ClassTaken g number a u.2 u.0 (page_of g * u.1) class
      made u run =
          record {
            holds = run.holds;
            out = run.out;
            takings = run.takings;
            unused = run.unused;
            slot = λ r in_chunk starts ends classes.
                inl (record {
                  page = u.1;
                  pages = pages_of g class;
                  starts = starts;
                  ends = ends ∙ pages_of-fills (holds.sound 0).page large;
                  kind = subst (λ d. is_small g d ≡ false) (sym classes) large;
                  begins =
                      subst (λ d. Begins u.1 (Used (pages_of g class) Whole) (chunk_at u.2 d)) (sym in_chunk)
                      run.begins;
                });
          }

      go : (o : Option (ℕ × ℕ × Arena))
          → ((u : ℕ × ℕ × Arena) → o ≡ Some u → RunTaken g number a u.2 u.0 u.1 (pages_of g class) Whole) →
          option_map (λ u. (u.0, page_of g * u.1, u.2)) o ≡ Some t → ClassTaken g number a t.2 t.0 t.1 class
      go None found is = absurd (cc is)
      go (Some u) found is =
          let same : (u.0, page_of g * u.1, u.2) ≡ t = cc is in
          subst (λ x. ClassTaken g number a x.2 x.0 x.1 class) same (made u (found u refl))

  pub take_class-is : (a : Arena) → ArenaHolds g number a → (t : ℕ × ℕ × Arena) → take_class g a class ≡ Some t
      → ClassTaken g number a t.2 t.0 t.1 class
  take_class-is a holds t =
      cond_both (is_small g class) (take_small g a class (front_of a class))
      (option_map (λ u. (u.0, page_of g * u.1, u.2)) (take_run g a (pages_of g class) Whole))
      (λ o. o ≡ Some t → ClassTaken g number a t.2 t.0 t.1 class)
      (λ small e. take_small-is small a holds (front_of a class) t e)
      (λ large e. take_whole-is large a holds t e)

  -- a taking keeps the arena, and adds its region to those that are out
  pub take-holds : (a : Arena) (owner : ℕ) → ArenaHolds g number a → (t : RegionId × Arena)
      → take g number a class owner ≡ Some t → ArenaHolds g number t.1
  take-holds a owner holds t e = go (take_class g a class) (λ u. take_class-is a holds u) e
    where
      made : (u : ℕ × ℕ × Arena) → ClassTaken g number a u.2 u.0 u.1 class
          → ArenaHolds g number (noted_taking number class owner u).1
      made u taken =
          let region : RegionId = region_of number class owner (u.2.takings + 1) u.0 u.1 in
          record {
            sound = taken.holds.sound;
            whole = taken.holds.whole;
            located =
                EachOf-push (IsLocated g number u.2) u.2.out region taken.holds.located
                (refl, taken.slot region refl refl refl refl);
            elsewhere = EachTwo-push BeginElsewhere u.2.out region taken.holds.elsewhere
                (subst (λ xs. EachOf (λ s. s.place.chunk ≡ u.0 → s.place.offset ≢ u.1) xs) (sym taken.out)
                taken.unused);
          }

      go : (o : Option (ℕ × ℕ × Arena)) → ((u : ℕ × ℕ × Arena) → o ≡ Some u → ClassTaken g number a u.2 u.0 u.1 class) →
          option_map (noted_taking number class owner) o ≡ Some t → ArenaHolds g number t.1
      go None found is = absurd (cc is)
      go (Some u) found is =
          let same : noted_taking number class owner u ≡ t = cc is in
          subst (λ x. ArenaHolds g number x.1) same (made u (found u refl))
