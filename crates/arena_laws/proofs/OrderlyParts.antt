-- The parts of what an arena keeps in order: chunks in lists, and subpages in the lists of their classes.
use Rattle.std.proofs.Common.{⊎_elim, ◌≡◌, ◌≢◌, ℕ, ◌<◌, ◌≤◌, [], length, refl, sym, ap, subst, arith, true, false, Some, None, ◌∙◌, eq-eqb}
use Rattle.std.specs.Prelude.{◌⊎◌, ◌↔◌, slice_set, Option, unwrap_or, if◌then◌else◌}
use Rattle.size_classes.specs.Sizes.{Geometry, chunk_pages, class_count, is_small, IsPage}
use Rattle.size_classes.specs.Pages.{Run, Used, total_pages, NoneEmpty}
use Rattle.size_classes.specs.Runs.{Begins}
use Rattle.size_classes.specs.Elements.{Elements, is_full}
use Rattle.size_classes.proofs.Runs.{run_at-Begins}
use Rattle.size_classes.proofs.SmallClasses.{small_below}
use Rattle.size_classes.proofs.Geometries.{page_shift-is}
use Rattle.pool_law.specs.Chunks.{Chunk, Use, Sub}
use Rattle.pool_law.specs.ChunkLists.{list_of}
use Rattle.pool_law.specs.Arenas.{Arena, chunk_at, front_of, elements_in, elements_at}
use Rattle.arena_laws.specs.Slots.{IsSound}
use Rattle.arena_laws.specs.Orderly.{has_subpage, SubpagesDiffer, HasRoom, chunk_of, IsOrderly}
use Rattle.pool_law.proofs.ListLemmas.{slice_get-set_same, slice_get-set_other}
use Rattle.arena_laws.proofs.ChunkSteps.{same_or-not}
use Rattle.arena_laws.proofs.FrontSteps.{Here, here-or_not}
use Rattle.arena_laws.proofs.ArenaSteps.{not_empty}
use Rattle.arena_laws.proofs.ElementTakes.{elements_at-is}
use Rattle.arena_laws.proofs.UsedSteps.{UsedAt, SameBut}

-- ---- chunks in lists

abbrev pub Sounds : Geometry → Arena → Type 0
Sounds g a = (c : ℕ) → IsSound g (chunk_at a c)

abbrev pub Wholes : Geometry → Arena → Type 0
Wholes g a = (c : ℕ) → (chunk_at a c ≡ []) ⊎ (total_pages (chunk_at a c) ≡ chunk_pages g)

abbrev pub Listed : Arena → Type 0
Listed a = (c : ℕ) → (list_of a.lists c ≡ None) ↔ (chunk_of a c ≡ None)

-- a chunk of which a run begins is in a list
pub begins-listed : (a : Arena) (c p : ℕ) (r : Run Use) → Listed a → Begins p r (chunk_at a c)
    → list_of a.lists c ≡ None → ⊥
begins-listed a c p r listed b e = not_empty (chunk_at a c) p r b (ap (λ o. unwrap_or o []) ((listed c).0 e))

pub chunk_of-other : (a b : Arena) (c d : ℕ) (o : Option Chunk) → b.chunks ≡ slice_set a.chunks c o → d ≢ c
    → chunk_of b d ≡ chunk_of a d
chunk_of-other a b c d o is other = rw is (ap (λ x. unwrap_or x None) (slice_get-set_other a.chunks c d o other))

pub chunk_of-same : (a b : Arena) (c : ℕ) (o : Option Chunk) → b.chunks ≡ slice_set a.chunks c o → c < length a.chunks
    → chunk_of b c ≡ o
chunk_of-same a b c o is below = rw is (ap (λ x. unwrap_or x None) (slice_get-set_same a.chunks c o below))

-- after one chunk place is written
pub listed-with : (a b : Arena) (c : ℕ) (o : Option Chunk) → b.chunks ≡ slice_set a.chunks c o → c < length a.chunks →
    ((d : ℕ) → d ≢ c → list_of b.lists d ≡ list_of a.lists d) → ((list_of b.lists c ≡ None) ↔ (o ≡ None)) → Listed a
    → Listed b
listed-with a b c o is below others now listed d =
    ⊎_elim
    (λ e. subst (λ k. (list_of b.lists k ≡ None) ↔ (chunk_of b k ≡ None)) (sym e) (
      (λ x. chunk_of-same a b c o is below ∙ now.0 x),
      λ x. now.1 (sym (chunk_of-same a b c o is below) ∙ x),
    ))
    (λ other. (
      (λ x. chunk_of-other a b c d o is other ∙ (listed d).0 (sym (others d other) ∙ x)),
      λ x. others d other ∙ (listed d).1 (sym (chunk_of-other a b c d o is other) ∙ x),
    ))
    (same_or-not d c)

-- ---- subpages in the lists of their classes

-- a subpage of the class is in use there, and has a free element
pub record Roomy (a : Arena) (class c page : ℕ) : Type 0 where
  pub pages : ℕ
  pub elements : Elements
  pub begins : UsedAt a c page pages (Sub class elements)
  pub room : is_full elements ≡ false

pub roomy-of : (a : Arena) (class c page : ℕ) → HasRoom a class c page → Roomy a class c page
roomy-of a class c page h =
    let found : (m : ℕ) × Begins page (Used m (Sub class h.elements)) (chunk_at a c) =
    elements_at-is a class c page h.elements h.here in
    record { pages = found.0; elements = h.elements; begins = found.1; room = h.room }

-- what a search for the elements of a class finds at a subpage
pub elements-found : (a : Arena) (class c page m : ℕ) (e : Elements) → NoneEmpty (chunk_at a c)
    → UsedAt a c page m (Sub class e) → elements_at a class c page ≡ Some e
elements-found a class c page m e ne b =
    ap (elements_in class) (run_at-Begins (chunk_at a c) page (Used m (Sub class e)) ne b)
    ∙ ap (λ t. if t then Some e else None) (eq-eqb class class refl)

pub has-room : (a : Arena) (class c page : ℕ) → NoneEmpty (chunk_at a c) → Roomy a class c page → HasRoom a class c page
has-room a class c page ne r =
    record { elements = r.elements; here = elements-found a class c page r.pages r.elements ne r.begins; room = r.room }

abbrev pub Yielded : Geometry → Arena → Type 0
Yielded g a =
    (class c page : ℕ) → is_small g class ≡ true → (has_subpage c page (front_of a class) ≡ true) ↔ Roomy a class c page

-- a small class has a list
pub small-below : (g : Geometry) (a : Arena) (class : ℕ) → IsOrderly g a → is_small g class ≡ true
    → class < length a.fronts
small-below g a class o small =
    let page : IsPage g.page = (o.sound 0).page in
    let shift = page_shift-is g.page page in
    omega (arith, small_below g page class small, shift.least, o.fronts, o.order)

-- only a subpage of this class may be in use there
abbrev pub OnlyOf : Arena → ℕ → ℕ → ℕ → Type 0
OnlyOf a c page class = (k n : ℕ) (e : Elements) → UsedAt a c page n (Sub k e) → k ≡ class

module _ (g : Geometry) (a b : Arena) (class c page : ℕ) (in_list : Yielded g a) (same : SameBut a b c page)
    (only_before : OnlyOf a c page class) (only_after : OnlyOf b c page class)
    (fronts : (k d p : ℕ) → ((k ≡ class) × Here c page d p → ⊥)
    → has_subpage d p (front_of b k) ≡ has_subpage d p (front_of a k))
    (now : is_small g class ≡ true → (has_subpage c page (front_of b class) ≡ true) ↔ Roomy b class c page) where
  at-here : (k d p : ℕ) → k ≡ class → d ≡ c → p ≡ page → is_small g k ≡ true
      → (has_subpage d p (front_of b k) ≡ true) ↔ Roomy b k d p
  at-here k d p ek ed ep small =
      subst (λ j. (has_subpage d p (front_of b j) ≡ true) ↔ Roomy b j d p) (sym ek)
      (subst (λ j. (has_subpage j p (front_of b class) ≡ true) ↔ Roomy b class j p) (sym ed)
      (subst (λ j. (has_subpage c j (front_of b class) ≡ true) ↔ Roomy b class c j) (sym ep)
      (now (subst (λ j. is_small g j ≡ true) ek small))))

  only-here : (x : Arena) → OnlyOf x c page class → (k d p n : ℕ) (e : Elements) → Here c page d p
      → UsedAt x d p n (Sub k e) → k ≡ class
  only-here x only k d p n e h u =
      only k n e (subst (λ j. UsedAt x j page n (Sub k e)) h.0 (subst (λ j. UsedAt x d j n (Sub k e)) h.1 u))

  roomy-keeps : (k d p : ℕ) → ((k ≡ class) × Here c page d p → ⊥) → Roomy a k d p → Roomy b k d p
  roomy-keeps k d p apart r =
      record {
        pages = r.pages;
        elements = r.elements;
        begins =
            same.keeps d p r.pages (Sub k r.elements)
            (λ h. apart (only-here a only_before k d p r.pages r.elements h r.begins, h)) r.begins;
        room = r.room;
      }

  roomy-back : (k d p : ℕ) → ((k ≡ class) × Here c page d p → ⊥) → Roomy b k d p → Roomy a k d p
  roomy-back k d p apart r =
      record {
        pages = r.pages;
        elements = r.elements;
        begins =
            same.back d p r.pages (Sub k r.elements)
            (λ h. apart (only-here b only_after k d p r.pages r.elements h r.begins, h)) r.begins;
        room = r.room;
      }

  elsewhere : (k d p : ℕ) → ((k ≡ class) × Here c page d p → ⊥) → is_small g k ≡ true
      → (has_subpage d p (front_of b k) ≡ true) ↔ Roomy b k d p
  elsewhere k d p apart small = (
    (λ h. roomy-keeps k d p apart ((in_list k d p small).0 (sym (fronts k d p apart) ∙ h))),
    λ r. fronts k d p apart ∙ (in_list k d p small).1 (roomy-back k d p apart r),
  )

  -- a step that changes one run, and the list of one class at most at that run
  pub in_list-step : Yielded g b
  in_list-step k d p small =
      ⊎_elim
      (λ ek. ⊎_elim (λ h. at-here k d p ek h.0 h.1 small) (λ apart. elsewhere k d p (λ x. apart x.1) small)
      (here-or_not c page d p))
      (λ other. elsewhere k d p (λ x. other x.0) small)
      (same_or-not k class)

-- ---- the whole

pub in_list-of : (g : Geometry) (a : Arena) → IsOrderly g a → Yielded g a
in_list-of g a o class c page small = (
  (λ h. roomy-of a class c page ((o.in_list class c page small).0 h)),
  λ r. (o.in_list class c page small).1 (has-room a class c page (o.sound c).none_empty r),
)

pub orderly-from : (g : Geometry) (a : Arena) → 3 ≤ g.order → Sounds g a → Wholes g a → Listed a
    → length a.fronts ≡ class_count g → Yielded g a →
    ((class : ℕ) → SubpagesDiffer (front_of a class)) → IsOrderly g a
orderly-from g a order sound whole listed fronts in_list once =
    record {
      order = order;
      sound = sound;
      whole = whole;
      listed = listed;
      fronts = fronts;
      in_list = λ class c page small. (
        (λ h. has-room a class c page (sound c).none_empty ((in_list class c page small).0 h)),
        λ r. (in_list class c page small).1 (roomy-of a class c page r),
      );
      once = once;
    }
