-- What is in use in an arena after each step, and that a taking adds its own place alone.
use Rattle.std.proofs.Common.{⊎_elim, ◌≡◌, inl, inr, ℕ, ◌+◌, ◌*◌, List, [], ◌∷◌, ◌++◌, refl, sym, ap, subst, true, Some, None, ◌∙◌}
use Rattle.std.specs.Prelude.{◌⊎◌, slice_get, slice_set, Option, option_map, option_and_then}
use Rattle.std.proofs.lemmas.Bool.{cond_both}
use Rattle.size_classes.specs.Sizes.{Geometry, page_of, is_small, pages_of, size_at, subpage_pages, element_count}
use Rattle.size_classes.specs.Pages.{Used}
use Rattle.size_classes.specs.Runs.{Begins}
use Rattle.size_classes.specs.Elements.{Elements, new_elements, next_element, with_out, is_full}
use Rattle.size_classes.proofs.Runs.{subpage_pages-least}
use Rattle.pool_law.specs.declared.id.RegionId.{RegionId}
use Rattle.pool_law.specs.Chunks.{Whole, Sub}
use Rattle.pool_law.specs.Arenas.{Arena, Yielded, new_arena, chunk_at, with_run, opened, first_unused, take_run, elements_at, with_elements, element_taken, take_element, with_front, front_of, without_subpage, with_subpage, take_small, take_class, noted_taking, region_of, take}
use Rattle.arena_laws.specs.Slots.{ArenaHolds, IsOne}
use Rattle.arena_laws.specs.Covered.{EachUsed, IsTakenAt, IsCovered}
use Rattle.pool_law.proofs.ListLemmas.{slice_get-set_other}
use Rattle.arena_laws.proofs.ChunkSteps.{same_or-not}
use Rattle.arena_laws.proofs.FrontSteps.{Here, here-or_not}
use Rattle.arena_laws.proofs.ElementSteps.{none-out}
use Rattle.arena_laws.proofs.ArenaSteps.{opened-holds, RunTaken, take_run-is}
use Rattle.arena_laws.proofs.ElementTakes.{elements_at-is, take_class-is, new-subpage}
use Rattle.arena_laws.proofs.ArenaLaw.{no_chunk}
use Rattle.arena_laws.proofs.ReturnLaw.{IsOne-front, IsOne-last}
use Rattle.arena_laws.proofs.UsedSteps.{UsedAt, SameBut, with_run-same, with_run-now, with_elements-same, with_elements-now, opened-same, opened-after, take_run-by}

-- a fact of what is in use that follows from another
pub used-map : (g : Geometry) (a : Arena) (P Q : ℕ → ℕ → Type 0) → ((c offset : ℕ) → P c offset → Q c offset)
    → EachUsed g a P → EachUsed g a Q
used-map g a P Q f u =
    record {
      runs = λ c page pages b. f c (page_of g * page) (u.runs c page pages b);
      elements =
          λ c page pages class at e b out. f c (page_of g * page + at * size_at class)
          (u.elements c page pages class at e b out);
    }

-- a step that changes one run
module _ (g : Geometry) (a b : Arena) (c page : ℕ) (same : SameBut a b c page) (P Q : ℕ → ℕ → Type 0)
    (used : EachUsed g a P)
    (other_run : (d p n : ℕ) → (Here c page d p → ⊥) → UsedAt a d p n Whole → P d (page_of g * p) → Q d (page_of g * p))
    (other_element : (d p n class at : ℕ) (e : Elements) → (Here c page d p → ⊥) → UsedAt a d p n (Sub class e)
    → slice_get e.out at ≡ Some true →
    P d (page_of g * p + at * size_at class) → Q d (page_of g * p + at * size_at class))
    (this_run : (n : ℕ) → UsedAt b c page n Whole → Q c (page_of g * page))
    (this_element : (n class at : ℕ) (e : Elements) → UsedAt b c page n (Sub class e) → slice_get e.out at ≡ Some true
    → Q c (page_of g * page + at * size_at class)) where
  pub used-step : EachUsed g b Q
  used-step =
      record {
        runs = λ d p n x.
            ⊎_elim
            (λ h. subst (λ k. Q k (page_of g * p)) (sym h.0) (subst (λ q. Q c (page_of g * q)) (sym h.1)
            (this_run n (subst (λ k. UsedAt b k page n Whole) h.0 (subst (λ q. UsedAt b d q n Whole) h.1 x)))))
            (λ apart. let y : UsedAt a d p n Whole = same.back d p n Whole apart x in
            other_run d p n apart y (used.runs d p n y))
            (here-or_not c page d p);
        elements = λ d p n class at e x out.
            ⊎_elim
            (λ h. subst (λ k. Q k (page_of g * p + at * size_at class)) (sym h.0)
            (subst (λ q. Q c (page_of g * q + at * size_at class)) (sym h.1)
            (this_element n class at e (subst (λ k. UsedAt b k page n (Sub class e)) h.0
            (subst (λ q. UsedAt b d q n (Sub class e)) h.1 x)) out)))
            (λ apart. let y : UsedAt a d p n (Sub class e) = same.back d p n (Sub class e) apart x in
            other_element d p n class at e apart y out (used.elements d p n class at e y out))
            (here-or_not c page d p);
      }

-- what was in use, or this place
abbrev pub OrAt : (ℕ → ℕ → Type 0) → ℕ → ℕ → ℕ → ℕ → Type 0
OrAt P c offset d at = P d at ⊎ ((d ≡ c) × (at ≡ offset))

-- a new chunk has nothing in use
pub opened-used : (g : Geometry) (a : Arena) (c : ℕ) (P : ℕ → ℕ → Type 0) → EachUsed g a P
    → first_unused a.chunks ≡ Some c → EachUsed g (opened g a c) P
opened-used g a c P used unused =
    used-step g a (opened g a c) c 0 (opened-same g a c unused) P P used (λ d p n _ _ x. x)
    (λ d p n class at e _ _ _ x. x)
    (λ n u. absurd (opened-after g a c unused 0 n Whole u))
    (λ n class at e u _. absurd (opened-after g a c unused 0 n (Sub class e) u))

module _ (g : Geometry) (number : ℕ) (P : ℕ → ℕ → Type 0) where
  -- an arena that holds what it should, with a fact of what is in use
  abbrev pub HoldsUsed : Arena → Type 0
  HoldsUsed a = ArenaHolds g number a × EachUsed g a P

  opened-both : (a : Arena) (c : ℕ) → HoldsUsed a → first_unused a.chunks ≡ Some c → HoldsUsed (opened g a c)
  opened-both a c h unused = (opened-holds g number a c h.0 unused, opened-used g a c P h.1 unused)

  -- a run that is taken as a whole
  pub take_run-used : (a : Arena) (pages : ℕ) → HoldsUsed a → (t : Yielded) → take_run g a pages Whole ≡ Some t
      → EachUsed g t.2 (OrAt P t.0 (page_of g * t.1))
  take_run-used a pages h t e =
      take_run-by g pages Whole HoldsUsed opened-both (λ u. EachUsed g u.2 (OrAt P u.0 (page_of g * u.1)))
      (λ x spot n k here fits.
      used-step g x (with_run g x spot.0 spot.1 pages Whole) spot.0 spot.1
      (with_run-same g x spot.0 spot.1 n pages Whole (k.0.sound spot.0).none_empty here fits)
      P (OrAt P spot.0 (page_of g * spot.1)) k.1 (λ d p n _ _ y. inl y) (λ d p n class at e _ _ _ y. inl y)
      (λ m u. inr (refl, refl))
      (λ m class at f u out. absurd (cc
      (with_run-now g x spot.0 spot.1 n pages Whole (k.0.sound spot.0).none_empty here fits m (Sub class f) u))))
      a h t e

  -- a run that is taken for a new subpage, of which nothing is out
  pub take_subpage-used : (a : Arena) (pages class count : ℕ) → HoldsUsed a → (t : Yielded)
      → take_run g a pages (Sub class (new_elements count)) ≡ Some t → EachUsed g t.2 P
  take_subpage-used a pages class count h t e =
      take_run-by g pages (Sub class (new_elements count)) HoldsUsed opened-both (λ u. EachUsed g u.2 P)
      (λ x spot n k here fits.
      used-step g x (with_run g x spot.0 spot.1 pages (Sub class (new_elements count))) spot.0 spot.1
      (with_run-same g x spot.0 spot.1 n pages (Sub class (new_elements count)) (k.0.sound spot.0).none_empty here fits)
      P P k.1 (λ d p n _ _ y. y) (λ d p n class at e _ _ _ y. y)
      (λ m u. absurd (cc (with_run-now g x spot.0 spot.1 n pages (Sub class (new_elements count))
      (k.0.sound spot.0).none_empty here fits m Whole u)))
      (λ m other at f u out.
      let now : Used m (Sub other f) ≡ Used pages (Sub class (new_elements count)) =
      with_run-now g x spot.0 spot.1 n pages (Sub class (new_elements count)) (k.0.sound spot.0).none_empty here
      fits m (Sub other f) u in
      let elements : f ≡ new_elements count = cc now in
      absurd (none-out count at (sym (ap (λ y. slice_get y.out at) elements) ∙ out))))
      a h t e

  -- an element that is handed out
  pub with_elements-used : (a : Arena) → HoldsUsed a → (class c page m k : ℕ) (e : Elements)
      → UsedAt a c page m (Sub class e) →
      EachUsed g (with_elements a c page class (with_out e k)) (OrAt P c (page_of g * page + k * size_at class))
  with_elements-used a h class c page m k e here =
      used-step g a (with_elements a c page class (with_out e k)) c page
      (with_elements-same a c page m class e (with_out e k) (h.0.sound c).none_empty here)
      P (OrAt P c (page_of g * page + k * size_at class)) h.1 (λ d p n _ _ y. inl y) (λ d p n class at e _ _ _ y. inl y)
      (λ n u. absurd (cc (with_elements-now a c page m class e (with_out e k) (h.0.sound c).none_empty here n Whole u)))
      (λ n other at f u out.
      let now : Used n (Sub other f) ≡ Used m (Sub class (with_out e k)) =
      with_elements-now a c page m class e (with_out e k) (h.0.sound c).none_empty here n (Sub other f) u in
      let elements : f ≡ with_out e k = cc now in
      let classes : other ≡ class = cc now in
      let is : slice_get (slice_set e.out k true) at ≡ Some true = sym (ap (λ y. slice_get y.out at) elements) ∙ out in
      subst (λ j. OrAt P c (page_of g * page + k * size_at class) c (page_of g * page + at * size_at j)) (sym classes)
      (⊎_elim
      (λ same. inr (refl, ap (λ j. page_of g * page + j * size_at class) same))
      (λ different. inl (h.1.elements c page m class at e here
      (sym (slice_get-set_other e.out k at true different) ∙ is)))
      (same_or-not at k)))

  pub element_taken-used : (a : Arena) → HoldsUsed a → (class c page m k : ℕ) (e : Elements)
      → UsedAt a c page m (Sub class e) →
      EachUsed g (element_taken g a class (c, page) e k).2 (OrAt P c (page_of g * page + k * size_at class))
  element_taken-used a h class c page m k e here =
      let b : Arena = with_elements a c page class (with_out e k) in
      let used : EachUsed g b (OrAt P c (page_of g * page + k * size_at class)) =
      with_elements-used a h class c page m k e here in
      cond_both (is_full (with_out e k)) (with_front b class (without_subpage c page (front_of b class))) b
      (λ x. EachUsed g x (OrAt P c (page_of g * page + k * size_at class)))
      (λ _. record { runs = used.runs; elements = used.elements })
      (λ _. used)

  pub take_element-used : (a : Arena) → HoldsUsed a → (class : ℕ) (spot : ℕ × ℕ) (t : Yielded)
      → take_element g a class spot ≡ Some t → EachUsed g t.2 (OrAt P t.0 t.1)
  take_element-used a h class spot t e =
      outer (elements_at a class spot.0 spot.1) (λ f. elements_at-is a class spot.0 spot.1 f) e
    where
      inner : (f : Elements) (m : ℕ) → Begins spot.1 (Used m (Sub class f)) (chunk_at a spot.0) → (x : Option ℕ) →
          option_map (λ k. element_taken g a class spot f k) x ≡ Some t → EachUsed g t.2 (OrAt P t.0 t.1)
      inner f m here None is = absurd (cc is)
      inner f m here (Some k) is =
          let same : element_taken g a class spot f k ≡ t = cc is in
          subst (λ u. EachUsed g u.2 (OrAt P u.0 u.1)) same (element_taken-used a h class spot.0 spot.1 m k f here)

      outer : (x : Option Elements) → ((f : Elements) → x ≡ Some f
          → (m : ℕ) × Begins spot.1 (Used m (Sub class f)) (chunk_at a spot.0)) →
          option_and_then (λ f. option_map (λ k. element_taken g a class spot f k) (next_element f)) x ≡ Some t
          → EachUsed g t.2 (OrAt P t.0 t.1)
      outer None found is = absurd (cc is)
      outer (Some f) found is =
          let u : (m : ℕ) × Begins spot.1 (Used m (Sub class f)) (chunk_at a spot.0) = found f refl in
          inner f u.0 u.1 (next_element f) is

  pub take_small-used : (a : Arena) → HoldsUsed a → (class : ℕ) (subpages : List (ℕ × ℕ)) (t : Yielded)
      → take_small g a class subpages ≡ Some t → EachUsed g t.2 (OrAt P t.0 t.1)
  take_small-used a h class (spot ∷ subpages) t e = take_element-used a h class spot t e
  take_small-used a h class [] t e =
      go (take_run g a (subpage_pages g class) (Sub class (new_elements (element_count g class)))) (λ u is. both u is) e
    where
      both : (u : Yielded) → take_run g a (subpage_pages g class) (Sub class (new_elements (element_count g class)))
          ≡ Some u → HoldsUsed (with_subpage class u)
      both u is =
          let run : RunTaken g number a u.2 u.0 u.1 (subpage_pages g class)
          (Sub class (new_elements (element_count g class))) =
          take_run-is g number (subpage_pages g class) (Sub class (new_elements (element_count g class)))
          (subpage_pages-least g class) (new-subpage g class) a h.0 u is in
          let used : EachUsed g u.2 P = take_subpage-used a (subpage_pages g class) class (element_count g class) h u
          is in (
            record {
              sound = run.holds.sound;
              whole = run.holds.whole;
              located = run.holds.located;
              elsewhere =
                  run.holds.elsewhere;
            },
            record { runs = used.runs; elements = used.elements },
          )

      go : (x : Option Yielded) → ((u : Yielded) → x ≡ Some u → HoldsUsed (with_subpage class u))
          → option_and_then (λ u. take_element g (with_subpage class u) class (u.0, u.1)) x ≡ Some t
          → EachUsed g t.2 (OrAt P t.0 t.1)
      go None found is = absurd (cc is)
      go (Some u) found is = take_element-used (with_subpage class u) (found u refl) class (u.0, u.1) t is

  pub take_class-used : (a : Arena) → HoldsUsed a → (class : ℕ) (t : Yielded) → take_class g a class ≡ Some t
      → EachUsed g t.2 (OrAt P t.0 t.1)
  take_class-used a h class t e =
      cond_both (is_small g class) (take_small g a class (front_of a class))
      (option_map (λ u. (u.0, page_of g * u.1, u.2)) (take_run g a (pages_of g class) Whole))
      (λ x. x ≡ Some t → EachUsed g t.2 (OrAt P t.0 t.1))
      (λ _ is. take_small-used a h class (front_of a class) t is)
      (λ _ is. go (take_run g a (pages_of g class) Whole) (λ u. take_run-used a (pages_of g class) h u) is)
      e
    where
      go : (x : Option Yielded) → ((u : Yielded) → x ≡ Some u → EachUsed g u.2 (OrAt P u.0 (page_of g * u.1)))
          → option_map (λ u. (u.0, page_of g * u.1, u.2)) x ≡ Some t → EachUsed g t.2 (OrAt P t.0 t.1)
      go None found is = absurd (cc is)
      go (Some u) found is =
          let same : (u.0, page_of g * u.1, u.2) ≡ t = cc is in
          subst (λ x. EachUsed g x.2 (OrAt P x.0 x.1)) same (found u refl)

-- a taking keeps an arena covered
pub take-covered : (g : Geometry) (number : ℕ) (a : Arena) (class owner : ℕ) → ArenaHolds g number a → IsCovered g a
    → (t : RegionId × Arena) → take g number a class owner ≡ Some t → IsCovered g t.1
take-covered g number a class owner holds covered t e =
    go (take_class g a class) (λ u is. (
      (take_class-is g number class a holds u is).out,
      take_class-used g number (IsTakenAt a.out) a (holds, covered)
          class u is,
    )) e
  where
    made : (u : Yielded) → u.2.out ≡ a.out → EachUsed g u.2 (OrAt (IsTakenAt a.out) u.0 u.1)
        → IsCovered g (noted_taking number class owner u).1
    made u same used =
        let region : RegionId = region_of number class owner (u.2.takings + 1) u.0 u.1 in
        let all : EachUsed g u.2 (IsTakenAt (u.2.out ++ region ∷ [])) =
        used-map g u.2 (OrAt (IsTakenAt a.out) u.0 u.1) (IsTakenAt (u.2.out ++ region ∷ []))
        (λ c offset x. ⊎_elim
        (λ y. record {
          region = y.region;
          there = IsOne-front y.region u.2.out (region ∷ [])
              (subst (IsOne y.region) (sym same) y.there);
          chunk = y.chunk;
          starts = y.starts;
        })
        (λ y. record { region = region; there = IsOne-last region u.2.out; chunk = sym y.0; starts = sym y.1 })
        x)
        used in
        record { runs = all.runs; elements = all.elements }

    go : (x : Option Yielded) → ((u : Yielded) → x ≡ Some u
        → (u.2.out ≡ a.out) × EachUsed g u.2 (OrAt (IsTakenAt a.out) u.0 u.1))
        → option_map (noted_taking number class owner) x ≡ Some t → IsCovered g t.1
    go None found is = absurd (cc is)
    go (Some u) found is =
        let same : noted_taking number class owner u ≡ t = cc is in
        subst (λ x. IsCovered g x.1) same (made u (found u refl).0 (found u refl).1)

-- a new arena has nothing in use
pub new-covered : (g : Geometry) (chunks : ℕ) → IsCovered g (new_arena g chunks)
new-covered g chunks =
    record {
      runs = λ c page pages b. absurd (subst (λ x. Begins page (Used pages Whole) x) (no_chunk g 0 chunks c) b);
      elements =
          λ c page pages class at e b _. absurd
          (subst (λ x. Begins page (Used pages (Sub class e)) x) (no_chunk g 0 chunks c) b);
    }
