-- What an arena keeps in order under takings.
use Rattle.std.proofs.Common.{⊎_elim, ◌≡◌, ℕ, ◌<◌, ◌≤◌, [], ◌∷◌, length, refl, sym, ap, true, false, Some, ◌∙◌}
use Rattle.std.specs.Prelude.{slice_get}
use Rattle.std.proofs.lemmas.Bool.{cond_both, cases_Bool}
use Rattle.size_classes.specs.Sizes.{Geometry, is_small}
use Rattle.size_classes.specs.Pages.{Free, Used, taken_at, replaced}
use Rattle.size_classes.specs.Runs.{Begins}
use Rattle.size_classes.specs.Elements.{Elements, next_element, with_out, is_full}
use Rattle.size_classes.proofs.Runs.{Begins-one, EachRun-Begins}
use Rattle.pool_law.specs.declared.report.ListName.TheVariants.{QInit}
use Rattle.pool_law.specs.Chunks.{Use, Whole, Sub, new_chunk, usage, RemembersFree}
use Rattle.pool_law.specs.ChunkLists.{list_of}
use Rattle.pool_law.specs.Arenas.{Arena, chunk_at, with_run, opened, first_unused, with_elements, element_taken, with_front, front_of, without_subpage, with_subpage}
use Rattle.arena_laws.specs.Slots.{ElementsFit, ArenaHolds}
use Rattle.arena_laws.specs.Orderly.{has_subpage, IsOrderly}
use Rattle.pool_law.proofs.ListLemmas.{slice_set-length}
use Rattle.arena_laws.proofs.ChunkSteps.{Always, run_taken-keeps}
use Rattle.arena_laws.proofs.ElementChanges.{elements-keeps, elements_to, StillOut, next_element-is}
use Rattle.arena_laws.proofs.ListSteps.{up-in, up-other, entered-in, entered-other}
use Rattle.arena_laws.proofs.FrontSteps.{spot-first, without-same, without-differ, front-same, once-with, others-with, others-without}
use Rattle.arena_laws.proofs.ElementSteps.{not-full}
use Rattle.arena_laws.proofs.ArenaSteps.{chunk_at-below, opened-holds}
use Rattle.arena_laws.proofs.GiveSteps.{Kept, written}
use Rattle.arena_laws.proofs.UsedSteps.{UsedAt, SameBut, with_run-same, with_run-unused, with_run-new, with_elements-same, with_elements-new, opened-same, opened-before, opened-after, opened-below}
use Rattle.arena_laws.proofs.OrderlyParts.{Listed, begins-listed, listed-with, Roomy, small-below, OnlyOf, in_list-step, in_list-of, orderly-from}

-- a chunk place gets a new chunk
pub opened-orderly : (g : Geometry) (a : Arena) (c : ℕ) → IsOrderly g a → first_unused a.chunks ≡ Some c
    → IsOrderly g (opened g a c)
opened-orderly g a c o unused =
    orderly-from g (opened g a c) o.order holds.sound holds.whole
    (listed-with a (opened g a c) c (Some (new_chunk g)) refl (opened-below g a c unused)
    (λ d other. entered-other a.lists c d QInit other)
    ((λ e. absurd (entered-in a.lists c QInit e)), λ e. absurd (cc e)) o.listed)
    o.fronts
    (in_list-step g a (opened g a c) 0 c 0 (in_list-of g a o) (opened-same g a c unused)
    (λ k n e u. absurd (opened-before g a c unused 0 n (Sub k e) u))
    (λ k n e u. absurd (opened-after g a c unused 0 n (Sub k e) u))
    (λ k d p _. refl)
    (λ small. (
      (λ h. let r : Roomy a 0 c 0 = (in_list-of g a o 0 c 0 small).0 h in
          absurd (opened-before g a c unused 0 r.pages (Sub 0 r.elements) r.begins)),
      λ r. absurd (opened-after g a c unused 0 r.pages (Sub 0 r.elements) r.begins),
    )))
    o.once
  where
    holds : ArenaHolds g 0 (opened g (record a { out = [] }) c)
    holds =
        opened-holds g 0 (record a { out = [] }) c
        (record { sound = o.sound; whole = o.whole; located = tt; elsewhere = tt }) unused

-- pages of a free run come into use
module _ (g : Geometry) (a : Arena) (o : IsOrderly g a) (c at n pages : ℕ) (what : Use)
    (here : Begins at (Free n) (chunk_at a c)) (fits : pages ≤ n) (some_pages : 0 < pages)
    (good : ElementsFit g (Used pages what)) where
  pub with_run-kept : Kept g a (with_run g a c at pages what) (λ s. s.place.chunk ≡ c → Always s)
  with_run-kept =
      written g a o.sound o.whole (with_run g a c at pages what) c at (Free n) (taken_at at pages what (chunk_at a c))
      Always here refl
      (run_taken-keeps g (chunk_at a c) (o.sound c) at n pages what here fits some_pages good) refl

  pub with_run-listed : Listed (with_run g a c at pages what)
  with_run-listed =
      listed-with a (with_run g a c at pages what) c (Some (taken_at at pages what (chunk_at a c))) refl
      (chunk_at-below a c at (Free n) here)
      (λ d other. up-other a.lists c d (usage g (taken_at at pages what (chunk_at a c))) (list_of a.lists c) other) (
        (λ e. absurd (up-in a.lists c (usage g (taken_at at pages what (chunk_at a c))) (list_of a.lists c)
            (begins-listed a c at (Free n) o.listed here) e)),
        λ e. absurd (cc e),
      )
      o.listed

  -- nothing else is in use there
  pub with_run-only : (m : ℕ) (w : Use) → UsedAt (with_run g a c at pages what) c at m w → Used m w ≡ Used pages what
  with_run-only m w u =
      Begins-one (chunk_at (with_run g a c at pages what) c) at (Used m w) (Used pages what)
      (with_run-kept.sound c).none_empty u
      (with_run-new g a c at n pages what (o.sound c).none_empty here)

-- a run is taken as a whole
pub with_run-orderly : (g : Geometry) (a : Arena) → IsOrderly g a → (c at n pages : ℕ)
    → Begins at (Free n) (chunk_at a c) → pages ≤ n → 0 < pages →
    IsOrderly g (with_run g a c at pages Whole)
with_run-orderly g a o c at n pages here fits some_pages =
    orderly-from g b o.order (with_run-kept g a o c at n pages Whole here fits some_pages tt).sound
    (with_run-kept g a o c at n pages Whole here fits some_pages tt).whole
    (with_run-listed g a o c at n pages Whole here fits some_pages tt) o.fronts
    (in_list-step g a b 0 c at (in_list-of g a o)
    (with_run-same g a c at n pages Whole (o.sound c).none_empty here fits)
    (λ k m e u. absurd (with_run-unused g a c at n pages Whole (o.sound c).none_empty here m (Sub k e) u))
    (λ k m e u. absurd (cc (with_run-only g a o c at n pages Whole here fits some_pages tt m (Sub k e) u)))
    (λ k d p _. refl)
    (λ small. (
      (λ h. let r : Roomy a 0 c at = (in_list-of g a o 0 c at small).0 h in
          absurd (with_run-unused g a c at n pages Whole (o.sound c).none_empty here r.pages (Sub 0 r.elements)
          r.begins)),
      λ r. absurd (cc (with_run-only g a o c at n pages Whole here fits some_pages tt r.pages (Sub 0 r.elements)
          r.begins)),
    )))
    o.once
  where
    b : Arena
    b = with_run g a c at pages Whole

-- a run is taken for a subpage, which enters the list of its class
pub with_subpage-orderly : (g : Geometry) (a : Arena) → IsOrderly g a → (class c at n pages : ℕ) (e : Elements)
    → is_small g class ≡ true →
    Begins at (Free n) (chunk_at a c) → pages ≤ n → 0 < pages → ElementsFit g (Used pages (Sub class e))
    → is_full e ≡ false →
    IsOrderly g (with_subpage class (c, at, with_run g a c at pages (Sub class e)))
with_subpage-orderly g a o class c at n pages e small here fits some_pages good room =
    orderly-from g b o.order kept.sound kept.whole
    (with_run-listed g a o c at n pages (Sub class e) here fits some_pages good)
    (slice_set-length a.fronts class ((c, at) ∷ front_of a class) ∙ o.fronts)
    (in_list-step g a b class c at (in_list-of g a o) (record { back = same.back; keeps = same.keeps })
    (λ k m f w. absurd (unused m (Sub k f) w))
    (λ k m f w. cc (with_run-only g a o c at n pages (Sub class e) here fits some_pages good m (Sub k f) w))
    (others-with u class c at below)
    (λ _. (
      (λ _. record {
        pages = pages;
        elements = e;
        begins =
            with_run-new g a c at n pages (Sub class e) (o.sound c).none_empty here;
        room = room;
      }),
      λ _. ap (has_subpage c at) (front-same u class ((c, at) ∷ front_of a class) below)
          ∙ spot-first c at (front_of a class),
    )))
    (once-with u class ((c, at) ∷ front_of a class) below o.once (absent, o.once class))
  where
    u : Arena
    u = with_run g a c at pages (Sub class e)

    b : Arena
    b = with_subpage class (c, at, u)

    kept : Kept g a u (λ s. s.place.chunk ≡ c → Always s)
    kept = with_run-kept g a o c at n pages (Sub class e) here fits some_pages good

    same : SameBut a u c at
    same = with_run-same g a c at n pages (Sub class e) (o.sound c).none_empty here fits

    unused : (m : ℕ) (w : Use) → UsedAt a c at m w → ⊥
    unused = with_run-unused g a c at n pages (Sub class e) (o.sound c).none_empty here

    below : class < length a.fronts
    below = small-below g a class o small

    absent : has_subpage c at (front_of a class) ≡ false
    absent =
        ⊎_elim
        (λ yes. let r : Roomy a class c at = (in_list-of g a o class c at small).0 yes in
        absurd (unused r.pages (Sub class r.elements) r.begins))
        (λ no. no)
        (cases_Bool (has_subpage c at (front_of a class)))

-- a subpage gets other elements
module _ (g : Geometry) (a : Arena) (o : IsOrderly g a) (class c page m : ℕ) (e f : Elements)
    (here : UsedAt a c page m (Sub class e)) (as_many : length f.out ≡ length e.out)
    (good : RemembersFree f f.remembered) where
  pub with_elements-kept : Kept g a (with_elements a c page class f)
      (λ s. s.place.chunk ≡ c → StillOut g (chunk_at a c) (o.sound c) page m class e f here as_many good s)
  with_elements-kept =
      written g a o.sound o.whole (with_elements a c page class f) c page (Used m (Sub class e))
      (replaced page (elements_to class f) (chunk_at a c))
      (StillOut g (chunk_at a c) (o.sound c) page m class e f here as_many good) here refl
      (elements-keeps g (chunk_at a c) (o.sound c) page m class e f here as_many good) refl

  pub with_elements-listed : Listed (with_elements a c page class f)
  with_elements-listed =
      listed-with a (with_elements a c page class f) c (Some (replaced page (elements_to class f) (chunk_at a c))) refl
      (chunk_at-below a c page (Used m (Sub class e)) here)
      (λ d other. refl)
      ((λ x. absurd (begins-listed a c page (Used m (Sub class e)) o.listed here x)), λ x. absurd (cc x))
      o.listed

  -- nothing else is in use there
  pub with_elements-only : (n : ℕ) (w : Use) → UsedAt (with_elements a c page class f) c page n w
      → Used n w ≡ Used m (Sub class f)
  with_elements-only n w u =
      Begins-one (chunk_at (with_elements a c page class f) c) page (Used n w) (Used m (Sub class f))
      (with_elements-kept.sound c).none_empty u
      (with_elements-new a c page m class e f (o.sound c).none_empty here)

  pub with_elements-before : (n : ℕ) (w : Use) → UsedAt a c page n w → Used n w ≡ Used m (Sub class e)
  with_elements-before n w u =
      Begins-one (chunk_at a c) page (Used n w) (Used m (Sub class e)) (o.sound c).none_empty u here

-- an element is handed out, and its subpage leaves its list where it is then full
pub element_taken-orderly : (g : Geometry) (a : Arena) → IsOrderly g a → (class c page m k : ℕ) (e : Elements)
    → is_small g class ≡ true →
    UsedAt a c page m (Sub class e) → next_element e ≡ Some k → IsOrderly g (element_taken g a class (c, page) e k).2
element_taken-orderly g a o class c page m k e small here next =
    cond_both (is_full f) (with_front b class (without_subpage c page (front_of a class))) b (IsOrderly g) full_case
    room_case
  where
    f : Elements
    f = with_out e k

    b : Arena
    b = with_elements a c page class f

    as_many : length f.out ≡ length e.out
    as_many = slice_set-length e.out k true

    free : slice_get e.out k ≡ Some false
    free =
        next_element-is e k (EachRun-Begins (ElementsFit g) (chunk_at a c) page (Used m (Sub class e))
        (o.sound c).elements_fit here).1 next

    kept : Kept g a b (λ s. s.place.chunk ≡ c → StillOut g (chunk_at a c) (o.sound c) page m class e f here as_many tt
        s)
    kept = with_elements-kept g a o class c page m e f here as_many tt

    same : SameBut a b c page
    same = with_elements-same a c page m class e f (o.sound c).none_empty here

    before : OnlyOf a c page class
    before = λ j n x u. cc (with_elements-before g a o class c page m e f here as_many tt n (Sub j x) u)

    after : OnlyOf b c page class
    after = λ j n x u. cc (with_elements-only g a o class c page m e f here as_many tt n (Sub j x) u)

    below : class < length a.fronts
    below = small-below g a class o small

    full_case : is_full f ≡ true → IsOrderly g (with_front b class (without_subpage c page (front_of a class)))
    full_case full =
        orderly-from g (with_front b class (without_subpage c page (front_of a class))) o.order kept.sound kept.whole
        (with_elements-listed g a o class c page m e f here as_many tt)
        (slice_set-length a.fronts class (without_subpage c page (front_of a class)) ∙ o.fronts)
        (in_list-step g a (with_front b class (without_subpage c page (front_of a class))) class c page
        (in_list-of g a o)
        (record { back = same.back; keeps = same.keeps }) before after
        (others-without b class c page below)
        (λ _. (
          (λ h. absurd (let both : true ≡ false = sym h
              ∙ ap (has_subpage c page) (front-same b class (without_subpage c page (front_of a class)) below)
              ∙ without-same c page (front_of a class) in cc both)),
          λ r. absurd (let elements : r.elements ≡ f =
              cc (with_elements-only g a o class c page m e f here as_many tt r.pages (Sub class r.elements)
              r.begins) in
              let both : true ≡ false = sym full ∙ ap is_full (sym elements) ∙ r.room in cc both),
        )))
        (once-with b class (without_subpage c page (front_of a class)) below o.once
        (without-differ c page (front_of a class) (o.once class)))

    room_case : is_full f ≡ false → IsOrderly g b
    room_case room =
        orderly-from g b o.order kept.sound kept.whole (with_elements-listed g a o class c page m e f here as_many tt)
        o.fronts
        (in_list-step g a b class c page (in_list-of g a o) same before after (λ j d p _. refl)
        (λ _. (
          (λ _. record {
            pages = m;
            elements = f;
            begins =
                with_elements-new a c page m class e f (o.sound c).none_empty here;
            room = room;
          }),
          λ _. (in_list-of g a o class c page small).1
              (record { pages = m; elements = e; begins = here; room = not-full e.out k free }),
        )))
        o.once
