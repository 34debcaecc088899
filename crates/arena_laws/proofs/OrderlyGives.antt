-- What an arena keeps in order when a taking comes back.
use Rattle.std.proofs.Common.{⊎_elim, ◌≡◌, inl, inr, ℕ, ◌/◌, ◌<◌, ◌∷◌, length, refl, sym, ap, subst, true, false, Some, None, ◌∙◌}
use Rattle.std.specs.Prelude.{slice_set, Option, if◌then◌else◌}
use Rattle.std.proofs.lemmas.Bool.{cond_both, cases_Bool}
use Rattle.size_classes.specs.Sizes.{Geometry, page_of, chunk_pages, is_small}
use Rattle.size_classes.specs.Pages.{Used, total_pages, given_at, NoneEmpty}
use Rattle.size_classes.specs.Elements.{Elements, with_back, is_full, is_idle}
use Rattle.size_classes.proofs.Runs.{Begins-one}
use Rattle.pool_law.specs.declared.id.RegionId.{RegionId}
use Rattle.pool_law.specs.declared.report.ListName.{ListName}
use Rattle.pool_law.specs.Chunks.{Chunk, Use, Whole, Sub, usage, RemembersFree}
use Rattle.pool_law.specs.ChunkLists.{list_of, lists_below, sunk, down_to, settled_down}
use Rattle.pool_law.specs.Arenas.{Arena, chunk_at, with_elements, with_front, front_of, without_subpage, unless_gone, run_given, is_alone, idle_given, element_given, small_given, given_place, give}
use Rattle.arena_laws.specs.Slots.{IsSlot}
use Rattle.arena_laws.specs.Orderly.{has_subpage, IsOrderly}
use Rattle.pool_law.proofs.ListLemmas.{slice_get-set_same, slice_get-below, slice_set-length}
use Rattle.arena_laws.proofs.ChunkSteps.{Elsewhere}
use Rattle.arena_laws.proofs.ElementChanges.{StillOut}
use Rattle.arena_laws.proofs.ListSteps.{left-in, moved-in, down-other}
use Rattle.arena_laws.proofs.FrontSteps.{spot-first, without-same, without-differ, front-same, once-with, others-with, others-without}
use Rattle.arena_laws.proofs.ElementSteps.{not-full}
use Rattle.arena_laws.proofs.ArenaSteps.{chunk_at-below}
use Rattle.arena_laws.proofs.GiveSteps.{Kept, total-here, run_given-is}
use Rattle.arena_laws.proofs.ElementGives.{with_back-good, small_given-element, whole-page}
use Rattle.arena_laws.proofs.UsedSteps.{UsedAt, SameBut, with_elements-same, with_elements-new, run_given-same, run_given-unused}
use Rattle.arena_laws.proofs.OrderlyParts.{Listed, begins-listed, listed-with, Roomy, small-below, OnlyOf, in_list-step, in_list-of, orderly-from}
use Rattle.arena_laws.proofs.OrderlySteps.{with_elements-kept, with_elements-listed, with_elements-only, with_elements-before}

-- the lists of chunks once a run came back
pub given-listed : (g : Geometry) (a b : Arena) (c : ℕ) (new : Chunk) (l : Option ListName) → c < length a.chunks
    → list_of a.lists c ≡ l → (l ≡ None → ⊥) →
    b.chunks ≡ slice_set a.chunks c (unless_gone l (down_to (usage g new) l) new)
    → b.lists ≡ settled_down a.lists c l (down_to (usage g new) l) → Listed a → Listed b
given-listed g a b c new None below was there chunks lists listed = absurd (there refl)
given-listed g a b c new (Some here) below was there chunks lists listed =
    go (sunk (usage g new) here (lists_below here)) chunks lists
  where
    go : (o : Option ListName) → b.chunks ≡ slice_set a.chunks c (unless_gone (Some here) o new)
        → b.lists ≡ settled_down a.lists c (Some here) o → Listed b
    go None chunks lists =
        listed-with a b c None chunks below
        (λ d other. ap (λ k. list_of k d) lists ∙ down-other a.lists c d (Some here) None other)
        ((λ _. refl), λ _. ap (λ k. list_of k c) lists ∙ left-in a.lists c) listed
    go (Some to) chunks lists =
        listed-with a b c (Some new) chunks below
        (λ d other. ap (λ k. list_of k d) lists ∙ down-other a.lists c d (Some here) (Some to) other) (
          (λ e. absurd (moved-in a.lists c here to (λ none. there (sym was ∙ none))
              (sym (ap (λ k. list_of k c) lists) ∙ e))),
          λ e. absurd (cc e),
        )
        listed

-- a whole run comes back
pub run_given-orderly : (g : Geometry) (a : Arena) → IsOrderly g a → (c page m : ℕ) → UsedAt a c page m Whole
    → IsOrderly g (run_given g a c page)
run_given-orderly g a o c page m here =
    orderly-from g (run_given g a c page) o.order kept.sound kept.whole
    (given-listed g a (run_given g a c page) c (given_at page (chunk_at a c)) (list_of a.lists c)
    (chunk_at-below a c page (Used m Whole) here) refl (begins-listed a c page (Used m Whole) o.listed here) refl
    refl o.listed)
    o.fronts
    (in_list-step g a (run_given g a c page) 0 c page (in_list-of g a o)
    (run_given-same g a o.sound c page m Whole total here)
    (λ k n e u. absurd (cc (same-use n (Sub k e) u)))
    (λ k n e u. absurd (run_given-unused g a o.sound c page m Whole total here n (Sub k e) u))
    (λ k d p _. refl)
    (λ small. (
      (λ h. let r : Roomy a 0 c page = (in_list-of g a o 0 c page small).0 h in
          absurd (cc (same-use r.pages (Sub 0 r.elements) r.begins))),
      λ r. absurd (run_given-unused g a o.sound c page m Whole total here r.pages (Sub 0 r.elements) r.begins),
    )))
    o.once
  where
    kept : Kept g a (run_given g a c page)
        (λ s. s.place.chunk ≡ c → Elsewhere g (chunk_at a c) (o.sound c) page m Whole here s)
    kept = run_given-is g a o.sound o.whole c page m Whole here

    total : total_pages (chunk_at a c) ≡ chunk_pages g
    total = total-here g a o.sound o.whole c page (Used m Whole) here

    same-use : (n : ℕ) (w : Use) → UsedAt a c page n w → Used n w ≡ Used m Whole
    same-use n w u = Begins-one (chunk_at a c) page (Used n w) (Used m Whole) (o.sound c).none_empty u here

-- a subpage leaves its list, and its run comes back
pub subpage_given-orderly : (g : Geometry) (a : Arena) → IsOrderly g a → (class c page m : ℕ) (f : Elements)
    → is_small g class ≡ true → UsedAt a c page m (Sub class f) →
    IsOrderly g (run_given g (with_front a class (without_subpage c page (front_of a class))) c page)
subpage_given-orderly g a o class c page m f small here =
    orderly-from g b o.order kept.sound kept.whole
    (given-listed g x b c (given_at page (chunk_at a c)) (list_of a.lists c)
    (chunk_at-below a c page (Used m (Sub class f)) here) refl
    (begins-listed a c page (Used m (Sub class f)) o.listed here) refl refl o.listed)
    (slice_set-length a.fronts class (without_subpage c page (front_of a class)) ∙ o.fronts)
    (in_list-step g a b class c page (in_list-of g a o) (record { back = same.back; keeps = same.keeps })
    (λ k n e u. cc (Begins-one (chunk_at a c) page (Used n (Sub k e)) (Used m (Sub class f)) (o.sound c).none_empty u
    here))
    (λ k n e u. absurd (unused n (Sub k e) u))
    (others-without a class c page below)
    (λ _. (
      (λ h. absurd (let both : true ≡ false = sym h
          ∙ ap (has_subpage c page) (front-same a class (without_subpage c page (front_of a class)) below)
          ∙ without-same c page (front_of a class) in cc both)),
      λ r. absurd (unused r.pages (Sub class r.elements) r.begins),
    )))
    (once-with a class (without_subpage c page (front_of a class)) below o.once
    (without-differ c page (front_of a class) (o.once class)))
  where
    x : Arena
    x = with_front a class (without_subpage c page (front_of a class))

    b : Arena
    b = run_given g x c page

    total : total_pages (chunk_at a c) ≡ chunk_pages g
    total = total-here g a o.sound o.whole c page (Used m (Sub class f)) here

    kept : Kept g x b (λ s. s.place.chunk ≡ c → Elsewhere g (chunk_at a c) (o.sound c) page m (Sub class f) here s)
    kept = run_given-is g x o.sound o.whole c page m (Sub class f) here

    same : SameBut x b c page
    same = run_given-same g x o.sound c page m (Sub class f) total here

    unused : (n : ℕ) (w : Use) → UsedAt b c page n w → ⊥
    unused = run_given-unused g x o.sound c page m (Sub class f) total here

    below : class < length a.fronts
    below = small-below g a class o small

-- a subpage that is not alone may give its run back
pub idle_given-orderly : (g : Geometry) (a : Arena) → IsOrderly g a → (class c page m : ℕ) (f : Elements)
    → is_small g class ≡ true → UsedAt a c page m (Sub class f) →
    IsOrderly g (idle_given g a class c page)
idle_given-orderly g a o class c page m f small here =
    cond_both (is_alone (front_of a class)) a
    (run_given g (with_front a class (without_subpage c page (front_of a class))) c page) (IsOrderly g)
    (λ _. o)
    (λ _. subpage_given-orderly g a o class c page m f small here)

-- an element comes back, and its subpage enters its list where it was full
abbrev pub back_in : Arena → ℕ → ℕ → ℕ → ℕ → Elements → Arena
back_in a class c page k e =
    let b = with_elements a c page class (with_back e k) in
    if is_full e then with_front b class ((c, page) ∷ front_of b class) else b

pub back_in-here : (a : Arena) (class c page m k : ℕ) (e : Elements) (ne : NoneEmpty (chunk_at a c))
    → UsedAt a c page m (Sub class e) → UsedAt (back_in a class c page k e) c page m (Sub class (with_back e k))
back_in-here a class c page m k e ne here =
    let b : Arena = with_elements a c page class (with_back e k) in
    let new : UsedAt b c page m (Sub class (with_back e k)) =
    with_elements-new a c page m class e (with_back e k) ne here in
    cond_both (is_full e) (with_front b class ((c, page) ∷ front_of a class)) b
    (λ x. UsedAt x c page m (Sub class (with_back e k))) (λ _. new) (λ _. new)

pub back_in-orderly : (g : Geometry) (a : Arena) → IsOrderly g a → (class c page m k : ℕ) (e : Elements)
    → is_small g class ≡ true →
    UsedAt a c page m (Sub class e) → k < length e.out → IsOrderly g (back_in a class c page k e)
back_in-orderly g a o class c page m k e small here inside =
    cond_both (is_full e) (with_front b class ((c, page) ∷ front_of a class)) b (IsOrderly g) full_case room_case
  where
    f : Elements
    f = with_back e k

    b : Arena
    b = with_elements a c page class f

    as_many : length f.out ≡ length e.out
    as_many = slice_set-length e.out k false

    good : RemembersFree f f.remembered
    good = with_back-good e k inside

    room : is_full f ≡ false
    room = not-full f.out k (slice_get-set_same e.out k false inside)

    kept : Kept g a b (λ s. s.place.chunk ≡ c → StillOut g (chunk_at a c) (o.sound c) page m class e f here as_many good
        s)
    kept = with_elements-kept g a o class c page m e f here as_many good

    same : SameBut a b c page
    same = with_elements-same a c page m class e f (o.sound c).none_empty here

    before : OnlyOf a c page class
    before = λ j n x u. cc (with_elements-before g a o class c page m e f here as_many good n (Sub j x) u)

    after : OnlyOf b c page class
    after = λ j n x u. cc (with_elements-only g a o class c page m e f here as_many good n (Sub j x) u)

    below : class < length a.fronts
    below = small-below g a class o small

    new : UsedAt b c page m (Sub class f)
    new = with_elements-new a c page m class e f (o.sound c).none_empty here

    full_case : is_full e ≡ true → IsOrderly g (with_front b class ((c, page) ∷ front_of a class))
    full_case full =
        orderly-from g (with_front b class ((c, page) ∷ front_of a class)) o.order kept.sound kept.whole
        (with_elements-listed g a o class c page m e f here as_many good)
        (slice_set-length a.fronts class ((c, page) ∷ front_of a class) ∙ o.fronts)
        (in_list-step g a (with_front b class ((c, page) ∷ front_of a class)) class c page (in_list-of g a o)
        (record { back = same.back; keeps = same.keeps }) before after
        (others-with b class c page below)
        (λ _. (
          (λ _. record { pages = m; elements = f; begins = new; room = room }),
          λ _. ap (has_subpage c page) (front-same b class ((c, page) ∷ front_of a class) below)
              ∙ spot-first c page (front_of a class),
        )))
        (once-with b class ((c, page) ∷ front_of a class) below o.once (absent, o.once class))
      where
        absent : has_subpage c page (front_of a class) ≡ false
        absent =
            ⊎_elim
            (λ yes. let r : Roomy a class c page = (in_list-of g a o class c page small).0 yes in
            let elements : r.elements ≡ e = cc
            (with_elements-before g a o class c page m e f here as_many good r.pages (Sub class r.elements)
            r.begins) in
            absurd (let both : true ≡ false = sym full ∙ ap is_full (sym elements) ∙ r.room in cc both))
            (λ no. no)
            (cases_Bool (has_subpage c page (front_of a class)))

    room_case : is_full e ≡ false → IsOrderly g b
    room_case was =
        orderly-from g b o.order kept.sound kept.whole (with_elements-listed g a o class c page m e f here as_many good)
        o.fronts
        (in_list-step g a b class c page (in_list-of g a o) same before after (λ j d p _. refl)
        (λ _. (
          (λ _. record { pages = m; elements = f; begins = new; room = room }),
          λ _. (in_list-of g a o class c page small).1 (record { pages = m; elements = e; begins = here; room = was }),
        )))
        o.once

-- an element comes back, and its subpage gives its run back where it is idle and not alone
pub element_given-orderly : (g : Geometry) (a : Arena) → IsOrderly g a → (class c page m k : ℕ) (e : Elements)
    → is_small g class ≡ true →
    UsedAt a c page m (Sub class e) → k < length e.out → IsOrderly g (element_given g a class c page k e)
element_given-orderly g a o class c page m k e small here inside =
    let d : IsOrderly g (back_in a class c page k e) = back_in-orderly g a o class c page m k e small here inside in
    cond_both (is_idle (with_back e k)) (idle_given g (back_in a class c page k e) class c page)
    (back_in a class c page k e) (IsOrderly g)
    (λ _. idle_given-orderly g (back_in a class c page k e) d class c page m (with_back e k) small
    (back_in-here a class c page m k e (o.sound c).none_empty here))
    (λ _. d)

-- what a region that is at a slot leaves
pub given_place-orderly : (g : Geometry) (a : Arena) (r : RegionId) → IsOrderly g a
    → IsSlot g (chunk_at a r.place.chunk) r → IsOrderly g (given_place g a r.class r.place.chunk r.place.offset)
given_place-orderly g a r o (inl x) =
    subst (λ t. IsOrderly g (if t then small_given g a r.class r.place.chunk r.place.offset else run_given g a
    r.place.chunk (r.place.offset / page_of g))) (sym x.kind)
    (subst (λ p. IsOrderly g (run_given g a r.place.chunk p)) (sym (whole-page g a o.sound o.whole r x))
    (run_given-orderly g a o r.place.chunk x.page x.pages x.begins))
given_place-orderly g a r o (inr x) =
    subst (λ t. IsOrderly g (if t then small_given g a r.class r.place.chunk r.place.offset else run_given g a
    r.place.chunk (r.place.offset / page_of g))) (sym x.kind)
    (subst (IsOrderly g) (sym (small_given-element g a o.sound o.whole r x))
    (element_given-orderly g a o r.class r.place.chunk x.page x.pages x.at x.elements x.kind x.begins
    (slice_get-below x.elements.out x.at true x.out)))
