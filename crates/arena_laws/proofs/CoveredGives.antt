-- What is in use once a taking comes back lies elsewhere than it.
use Rattle.std.proofs.Common.{⊎_elim, ◌≡◌, ◌≢◌, inl, inr, ℕ, ◌+◌, ◌*◌, ◌/◌, ◌<◌, ◌≤◌, List, ◌∷◌, length, refl, sym, ap, subst, arith, true, false, Some, ◌∙◌}
use Rattle.std.specs.Prelude.{not, filter, slice_get, if◌then◌else◌}
use Rattle.std.proofs.lemmas.Bool.{cond_both, cases_Bool}
use Rattle.size_classes.specs.Sizes.{Geometry, page_of, chunk_pages, size_at}
use Rattle.size_classes.specs.Pages.{Used, total_pages}
use Rattle.size_classes.specs.Elements.{Elements, with_back, is_full, is_idle}
use Rattle.size_classes.proofs.Runs.{EachRun-Begins}
use Rattle.std.proofs.Math.Nat.{eq_of_mul-eq-mul_left, mul-pos}
use Rattle.size_classes.proofs.SmallClasses.{page-some}
use Rattle.pool_law.specs.declared.id.RegionId.{RegionId}
use Rattle.pool_law.specs.Same.{same_taking}
use Rattle.pool_law.specs.Chunks.{Use, Whole, Sub}
use Rattle.pool_law.specs.Arenas.{Arena, chunk_at, with_elements, with_front, front_of, without_subpage, run_given, is_alone, idle_given, element_given, small_given, given_place, give}
use Rattle.arena_laws.specs.Slots.{IsElement, IsSlot, ElementsFit}
use Rattle.arena_laws.specs.Covered.{EachUsed, IsTakenAt, IsCovered}
use Rattle.pool_law.proofs.ListLemmas.{slice_get-set_same, slice_get-set_other, slice_get-below}
use Rattle.arena_laws.proofs.SlotLemmas.{times-next}
use Rattle.arena_laws.proofs.ChunkSteps.{size_at-pos, pages-pos, one-page}
use Rattle.arena_laws.proofs.ElementChanges.{times-one}
use Rattle.arena_laws.proofs.FrontSteps.{Here}
use Rattle.arena_laws.proofs.GiveSteps.{Kept, total-here}
use Rattle.arena_laws.proofs.ElementGives.{NotAt, element_back-is, small_given-element, whole-page}
use Rattle.arena_laws.proofs.ArenaLaw.{same_taking-place}
use Rattle.arena_laws.proofs.ReturnLaw.{IsOne-filter}
use Rattle.arena_laws.proofs.UsedSteps.{UsedAt, with_elements-same, with_elements-now, with_elements-new, run_given-same, run_given-unused}
use Rattle.arena_laws.proofs.OrderlyParts.{Sounds, Wholes}
use Rattle.arena_laws.proofs.CoveredSteps.{used-map, used-step}

-- what is in use elsewhere than there
abbrev pub But : (ℕ → ℕ → Type 0) → ℕ → ℕ → ℕ → ℕ → Type 0
But P c offset d at = P d at × ((d ≡ c) × (at ≡ offset) → ⊥)

module _ (g : Geometry) (a : Arena) (sound : Sounds g a) (whole : Wholes g a) where
  -- an element begins in the pages of its subpage
  pub begins-inside : (d p n class at : ℕ) (e : Elements) → UsedAt a d p n (Sub class e)
      → slice_get e.out at ≡ Some true → at * size_at class < page_of g * n
  begins-inside d p n class at e b out =
      let fits : length e.out * size_at class ≤ page_of g * n =
      (EachRun-Begins (ElementsFit g) (chunk_at a d) p (Used n (Sub class e)) (sound d).elements_fit b).0 in
      omega (
        arith,
        fits,
        times-next at (length e.out) (size_at class) (slice_get-below e.out at true out),
        size_at-pos
            class,
      )

  -- bytes of different runs in use are different
  pub runs-differ : (c q m d p n x y : ℕ) (v w : Use) → UsedAt a c q m v → UsedAt a d p n w → x < page_of g * m
      → y < page_of g * n → (Here c q d p → ⊥) →
      (d ≡ c) × (page_of g * p + y ≡ page_of g * q + x) → ⊥
  runs-differ c q m d p n x y v w b e hx hy apart h =
      apart (
        h.0,
        one-page g (chunk_at a c) p n q m y x (Used n w) (Used m v) (subst (λ k. UsedAt a k p n w) h.0 e) b
            refl refl h.1 hy hx,
      )

  -- a run comes back: what is in use elsewhere stays
  pub run_given-used : (P : ℕ → ℕ → Type 0) → EachUsed g a P → (c page m : ℕ) (what : Use) → UsedAt a c page m what
      → EachUsed g (run_given g a c page) P
  run_given-used P used c page m what here =
      used-step g a (run_given g a c page) c page (run_given-same g a sound c page m what total here) P P used
      (λ d p n _ _ x. x) (λ d p n class at e _ _ _ x. x)
      (λ n u. absurd (run_given-unused g a sound c page m what total here n Whole u))
      (λ n class at e u _. absurd (run_given-unused g a sound c page m what total here n (Sub class e) u))
    where
      total : total_pages (chunk_at a c) ≡ chunk_pages g
      total = total-here g a sound whole c page (Used m what) here

  pub whole_given-used : (P : ℕ → ℕ → Type 0) → EachUsed g a P → (c page m : ℕ) → UsedAt a c page m Whole
      → EachUsed g (run_given g a c page) (But P c (page_of g * page))
  whole_given-used P used c page m here =
      used-step g a (run_given g a c page) c page (run_given-same g a sound c page m Whole total here) P
      (But P c (page_of g * page)) used
      (λ d p n apart u x. (
        x,
        λ h. apart
            (h.0, eq_of_mul-eq-mul_left (page_of g) (page-some g (sound c).page) p page h.1),
      ))
      (λ d p n class at e apart u out x. (
        x,
        λ h. runs-differ c page m d p n 0 (at * size_at class) Whole (Sub class e) here u
            (mul-pos (page-some g (sound c).page) (pages-pos g (chunk_at a c) (sound c) page (Used m Whole) here))
            (begins-inside d p n class at e u out) apart (h.0, omega (arith, h.1)),
      ))
      (λ n u. absurd (run_given-unused g a sound c page m Whole total here n Whole u))
      (λ n class at e u _. absurd (run_given-unused g a sound c page m Whole total here n (Sub class e) u))
    where
      total : total_pages (chunk_at a c) ≡ chunk_pages g
      total = total-here g a sound whole c page (Used m Whole) here

  -- an element comes back
  pub with_back-used : (P : ℕ → ℕ → Type 0) → EachUsed g a P → (c page m class k : ℕ) (e : Elements)
      → UsedAt a c page m (Sub class e) → slice_get e.out k ≡ Some true →
      EachUsed g (with_elements a c page class (with_back e k)) (But P c (page_of g * page + k * size_at class))
  with_back-used P used c page m class k e here was =
      used-step g a (with_elements a c page class (with_back e k)) c page
      (with_elements-same a c page m class e (with_back e k) (sound c).none_empty here) P
      (But P c (page_of g * page + k * size_at class)) used
      (λ d p n apart u x. (
        x,
        λ h. runs-differ c page m d p n (k * size_at class) 0 (Sub class e) Whole here u
            (begins-inside c page m class k e here was)
            (mul-pos (page-some g (sound d).page) (pages-pos g (chunk_at a d) (sound d) p (Used n Whole) u)) apart
            (h.0, omega (arith, h.1)),
      ))
      (λ d p n other at f apart u out x. (
        x,
        λ h. runs-differ c page m d p n (k * size_at class) (at * size_at other) (Sub class e) (Sub other f) here
            u (begins-inside c page m class k e here was) (begins-inside d p n other at f u out) apart (h.0, h.1),
      ))
      (λ n u. absurd (cc (now n Whole u)))
      (λ n other at f u out.
      let elements : f ≡ with_back e k = cc (now n (Sub other f) u) in
      let classes : other ≡ class = cc (now n (Sub other f) u) in
      let is : slice_get (with_back e k).out at ≡ Some true = sym (ap (λ y. slice_get y.out at) elements) ∙ out in
      let different : at ≢ k = (λ same. let both : Some true ≡ Some false = sym is
      ∙ ap (λ j. slice_get (with_back e k).out j) same
      ∙ slice_get-set_same e.out k false (slice_get-below e.out k true was) in cc both) in
      let still : slice_get e.out at ≡ Some true = sym (slice_get-set_other e.out k at false different) ∙ is in
      subst (λ j. But P c (page_of g * page + k * size_at class) c (page_of g * page + at * size_at j)) (sym classes) (
        used.elements c page m class at e here still,
        λ h. different (times-one at k (size_at class) (size_at-pos class)
            (let eq : page_of g * page + at * size_at class
            ≡ page_of g * page + k * size_at class = h.1 in omega (arith, eq))),
      ))
    where
      now : (n : ℕ) (w : Use) → UsedAt (with_elements a c page class (with_back e k)) c page n w
          → Used n w ≡ Used m (Sub class (with_back e k))
      now n w u = with_elements-now a c page m class e (with_back e k) (sound c).none_empty here n w u

-- an idle subpage may give its run back
pub idle_given-used : (g : Geometry) (a : Arena) → Sounds g a → Wholes g a → (P : ℕ → ℕ → Type 0) → EachUsed g a P
    → (class c page m : ℕ) (f : Elements) → UsedAt a c page m (Sub class f) →
    EachUsed g (idle_given g a class c page) P
idle_given-used g a sound whole P used class c page m f here =
    let b : Arena = with_front a class (without_subpage c page (front_of a class)) in
    cond_both (is_alone (front_of a class)) a (run_given g b c page) (λ x. EachUsed g x P)
    (λ _. used)
    (λ _. run_given-used g b sound whole P (record { runs = used.runs; elements = used.elements }) c page m
    (Sub class f) here)

module _ (g : Geometry) (a : Arena) (sound : Sounds g a) (whole : Wholes g a) where
  pub element_given-used : (P : ℕ → ℕ → Type 0) → EachUsed g a P → (r : RegionId)
      → (x : IsElement g (chunk_at a r.place.chunk) r) →
      EachUsed g (element_given g a r.class r.place.chunk x.page x.at x.elements) (But P r.place.chunk r.place.offset)
  element_given-used P used r x =
      cond_both (is_full x.elements) (with_front b r.class ((c, x.page) ∷ front_of b r.class)) b
      (λ y. EachUsed g (if is_idle f then idle_given g y r.class c x.page else y) (But P c r.place.offset))
      (λ _. finish (with_front b r.class ((c, x.page) ∷ front_of b r.class)) kept.sound kept.whole new
      (record { runs = left.runs; elements = left.elements }))
      (λ _. finish b kept.sound kept.whole new left)
    where
      c : ℕ
      c = r.place.chunk

      f : Elements
      f = with_back x.elements x.at

      b : Arena
      b = with_elements a c x.page r.class f

      kept : Kept g a b (NotAt r)
      kept = element_back-is g a sound whole r x

      new : UsedAt b c x.page x.pages (Sub r.class f)
      new = with_elements-new a c x.page x.pages r.class x.elements f (sound c).none_empty x.begins

      left : EachUsed g b (But P c r.place.offset)
      left =
          subst (λ k. EachUsed g b (But P c k)) (sym x.starts)
          (with_back-used g a sound whole P used c x.page x.pages r.class x.at x.elements x.begins x.out)

      finish : (y : Arena) → Sounds g y → Wholes g y → UsedAt y c x.page x.pages (Sub r.class f)
          → EachUsed g y (But P c r.place.offset) →
          EachUsed g (if is_idle f then idle_given g y r.class c x.page else y) (But P c r.place.offset)
      finish y sounds wholes here u =
          cond_both (is_idle f) (idle_given g y r.class c x.page) y (λ z. EachUsed g z (But P c r.place.offset))
          (λ _. idle_given-used g y sounds wholes (But P c r.place.offset) u r.class c x.page x.pages f here)
          (λ _. u)

  -- what a region that is at a slot leaves
  pub given_place-used : (P : ℕ → ℕ → Type 0) → EachUsed g a P → (r : RegionId) → IsSlot g (chunk_at a r.place.chunk) r
      →
      EachUsed g (given_place g a r.class r.place.chunk r.place.offset) (But P r.place.chunk r.place.offset)
  given_place-used P used r (inl x) =
      subst (λ t. EachUsed g (if t then small_given g a r.class r.place.chunk r.place.offset else run_given g a
      r.place.chunk (r.place.offset / page_of g)) (But P r.place.chunk r.place.offset)) (sym x.kind)
      (subst (λ p. EachUsed g (run_given g a r.place.chunk p) (But P r.place.chunk r.place.offset))
      (sym (whole-page g a sound whole r x))
      (subst (λ k. EachUsed g (run_given g a r.place.chunk x.page) (But P r.place.chunk k)) (sym x.starts)
      (whole_given-used g a sound whole P used r.place.chunk x.page x.pages x.begins)))
  given_place-used P used r (inr x) =
      subst (λ t. EachUsed g (if t then small_given g a r.class r.place.chunk r.place.offset else run_given g a
      r.place.chunk (r.place.offset / page_of g)) (But P r.place.chunk r.place.offset)) (sym x.kind)
      (subst (λ b. EachUsed g b (But P r.place.chunk r.place.offset)) (sym (small_given-element g a sound whole r x))
      (element_given-used P used r x))

  -- a taking that comes back keeps the arena covered
  pub give-covered : IsCovered g a → (r : RegionId) → IsSlot g (chunk_at a r.place.chunk) r → IsCovered g (give g a r)
  give-covered covered r x =
      let b : Arena = given_place g a r.class r.place.chunk r.place.offset in
      let left : List RegionId = filter (λ other. not (same_taking r other)) a.out in
      let all : EachUsed g b (IsTakenAt left) =
      used-map g b (But (IsTakenAt a.out) r.place.chunk r.place.offset) (IsTakenAt left)
      (λ c offset y.
      record {
        region = y.0.region;
        there =
            IsOne-filter (λ other. not (same_taking r other)) y.0.region a.out y.0.there (ap not (other c offset y));
        chunk = y.0.chunk;
        starts = y.0.starts;
      })
      (given_place-used (IsTakenAt a.out) covered r x) in
      record { runs = all.runs; elements = all.elements }
    where
      other : (c offset : ℕ) → (y : But (IsTakenAt a.out) r.place.chunk r.place.offset c offset)
          → same_taking r y.0.region ≡ false
      other c offset y =
          ⊎_elim
          (λ yes. let same : (r.place.chunk ≡ y.0.region.place.chunk) × (r.place.offset ≡ y.0.region.place.offset)
          × (r.class ≡ y.0.region.class) = same_taking-place r y.0.region yes in
          absurd (y.1 (sym y.0.chunk ∙ sym same.0, sym y.0.starts ∙ sym same.1)))
          (λ no. no)
          (cases_Bool (same_taking r y.0.region))
