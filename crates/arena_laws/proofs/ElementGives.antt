-- What an arena keeps when an element comes back.
use Rattle.std.proofs.lemmas.Nat.{div-mul-add}
use Rattle.std.proofs.Common.{eq-eqb, ◌≡◌, ◌≢◌, inl, inr, ℕ, zero, suc, ◌+◌, ◌-◌, ◌*◌, ◌/◌, ◌<◌, ◌≤◌, List, [], ◌∷◌, length, refl, sym, ap, subst, arith, Bool, true, false, Some, None, ◌∙◌}
use Rattle.std.specs.Prelude.{not, ◌⊎◌, ◌||◌, slice_get, filter, unwrap_or, option_map, if◌then◌else◌, ◌==◌}
use Rattle.std.specs.List.{list_any}
use Rattle.size_classes.specs.Sizes.{Geometry, page_of, chunk_pages, size_at}
use Rattle.size_classes.specs.Pages.{Used, total_pages, replaced, run_at, run_start}
use Rattle.size_classes.specs.Runs.{Begins}
use Rattle.size_classes.specs.Elements.{Elements, with_back, is_idle, is_full}
use Rattle.std.specs.List.{list_all}
use Rattle.size_classes.proofs.Runs.{Begins-one, run_at-Begins, run_start-Begins}
use Rattle.std.proofs.Math.Nat.{div-lt_iff_lt-mul, mul-add-div, mul-div_cancel_left, mul_comm}
use Rattle.size_classes.proofs.SmallClasses.{page-some}
use Rattle.pool_law.specs.declared.id.RegionId.{RegionId}
use Rattle.pool_law.specs.Chunks.{Chunk, Whole, Sub, RemembersFree}
use Rattle.pool_law.specs.Arenas.{Arena, chunk_at, elements_in, elements_at, with_elements, with_front, front_of, without_subpage, run_given, is_alone, idle_given, element_given, small_given, given_place}
use Rattle.arena_laws.specs.Slots.{IsOne}
use Rattle.arena_laws.specs.Slots.{IsWholeRun, IsElement, IsSlot, IsSound, EachOf, EachTwo, BeginElsewhere}
use Rattle.pool_law.proofs.ListLemmas.{slice_get-set_same, slice_get-set_other, slice_get-below, slice_set-length}
use Rattle.arena_laws.proofs.SlotLemmas.{element-inside}
use Rattle.arena_laws.proofs.ChunkSteps.{Keeps, starts, Elsewhere, size_at-pos}
use Rattle.arena_laws.proofs.ElementChanges.{elements-keeps, elements-here, elements_to, StillOut}
use Rattle.arena_laws.proofs.ArenaSteps.{EachOf-map, chunk_at-same, chunk_at-below}
use Rattle.std.proofs.lemmas.Bool.{cond_both}
use Rattle.arena_laws.proofs.GiveSteps.{Kept, written, run_given-is}

-- a slot does not begin where another does
abbrev pub NotAt : RegionId → RegionId → Type 0
NotAt r s = s.place.chunk ≡ r.place.chunk → s.place.offset ≢ r.place.offset

pub with_back-good : (e : Elements) (k : ℕ) → k < length e.out
    → RemembersFree (with_back e k) (with_back e k).remembered
with_back-good e k below =
    (rw (slice_set-length e.out k false) below, ap (λ o. unwrap_or o false) (slice_get-set_same e.out k false below))

pub none_true-is : (bs : List Bool) (k : ℕ) → list_all not bs ≡ true → slice_get bs k ≡ Some true → ⊥
none_true-is [] k h e = cc e
none_true-is (true ∷ bs) k h e = cc h
none_true-is (false ∷ bs) zero h e = cc e
none_true-is (false ∷ bs) (suc k) h e = none_true-is bs k h e

module _ (g : Geometry) (a : Arena) (sound : (c : ℕ) → IsSound g (chunk_at a c))
    (whole : (c : ℕ) → (chunk_at a c ≡ []) ⊎ (total_pages (chunk_at a c) ≡ chunk_pages g)) where
  -- the subpage of an element that comes back remembers it
  pub element_back-is : (r : RegionId) → (x : IsElement g (chunk_at a r.place.chunk) r) →
      Kept g a (with_elements a r.place.chunk x.page r.class (with_back x.elements x.at)) (NotAt r)
  element_back-is r x =
      let k : Kept g a b (λ s. s.place.chunk ≡ c → still s) =
      written g a sound whole b c x.page (Used x.pages (Sub r.class x.elements))
      (replaced x.page (elements_to r.class f) (chunk_at a c)) still x.begins refl keeps refl in
      record {
        sound = k.sound;
        whole = k.whole;
        takings = k.takings;
        slots =
            λ s apart. k.slots s (λ in_chunk. stays s (apart in_chunk));
      }
    where
      c : ℕ
      c = r.place.chunk

      f : Elements
      f = with_back x.elements x.at

      b : Arena
      b = with_elements a c x.page r.class f

      below : x.at < length x.elements.out
      below = slice_get-below x.elements.out x.at true x.out

      as_many : length f.out ≡ length x.elements.out
      as_many = slice_set-length x.elements.out x.at false

      still : RegionId → Type 0
      still =
          StillOut g (chunk_at a c) (sound c) x.page x.pages r.class x.elements f x.begins as_many
          (with_back-good x.elements x.at below)

      keeps : Keeps g (chunk_at a c) (replaced x.page (elements_to r.class f) (chunk_at a c)) still
      keeps =
          elements-keeps g (chunk_at a c) (sound c) x.page x.pages r.class x.elements f x.begins as_many
          (with_back-good x.elements x.at below)

      stays : (s : RegionId) → s.place.offset ≢ r.place.offset → still s
      stays s apart = λ y same.
          let run : Used y.pages (Sub s.class y.elements)
          ≡ Used x.pages (Sub r.class x.elements) =
          Begins-one (chunk_at a c) x.page (Used y.pages (Sub s.class y.elements))
          (Used x.pages (Sub r.class x.elements)) (sound c).none_empty
          (subst (λ p. Begins p (Used y.pages (Sub s.class y.elements)) (chunk_at a c)) same y.begins)
          x.begins in
          let classes : s.class ≡ r.class = cc run in
          let elements : y.elements ≡ x.elements = cc run in
          let out : slice_get x.elements.out y.at ≡ Some true =
          subst (λ h. slice_get h.out y.at ≡ Some true) elements y.out in
          slice_get-set_other x.elements.out x.at y.at false
          (λ same_at. apart (y.starts ∙ ap (λ p. page_of g * p + y.at * size_at s.class) same
          ∙ ap (λ j. page_of g * x.page + j * size_at s.class) same_at
          ∙ ap (λ d. page_of g * x.page + x.at * size_at d) classes ∙ sym x.starts))
          ∙ out

-- an idle subpage holds no slot
pub idle-elsewhere : (g : Geometry) (chunk : Chunk) (sound : IsSound g chunk) (page m class : ℕ) (f : Elements)
    (here : Begins page (Used m (Sub class f)) chunk) → is_idle f ≡ true →
    (s : RegionId) → Elsewhere g chunk sound page m (Sub class f) here s
idle-elsewhere g chunk sound page m class f here idle s (inl y) same =
    cc (Begins-one chunk page (Used y.pages Whole) (Used m (Sub class f)) sound.none_empty
    (subst (λ p. Begins p (Used y.pages Whole) chunk) same y.begins) here)
idle-elsewhere g chunk sound page m class f here idle s (inr y) same =
    let run : Used y.pages (Sub s.class y.elements)
    ≡ Used m (Sub class f) =
    Begins-one chunk page (Used y.pages (Sub s.class y.elements)) (Used m (Sub class f)) sound.none_empty
    (subst (λ p. Begins p (Used y.pages (Sub s.class y.elements)) chunk) same y.begins) here in
    let elements : y.elements ≡ f = cc run in
    none_true-is f.out y.at idle (subst (λ h. slice_get h.out y.at ≡ Some true) elements y.out)

pub Kept-fronts : (g : Geometry) (a b : Arena) (class : ℕ) (subpages : List (ℕ × ℕ)) (P : RegionId → Type 0)
    → Kept g a b P
    → Kept g a (with_front b class subpages) P
Kept-fronts g a b class subpages P k = record { sound = k.sound; whole = k.whole; takings = k.takings; slots = k.slots }

-- an idle subpage may give its run back
pub idle_given-is : (g : Geometry) (a b : Arena) (class c page m : ℕ) (f : Elements) (P : RegionId → Type 0)
    → Kept g a b P → Begins page (Used m (Sub class f)) (chunk_at b c) → is_idle f ≡ true
    → Kept g a (idle_given g b class c page) P
idle_given-is g a b class c page m f P k here idle =
    cond_both (is_alone (front_of b class)) b (run_given g d c page) (λ x. Kept g a x P) (λ _. k)
    (λ _. record {
      sound = last.sound;
      whole = last.whole;
      takings = last.takings
          ∙ k.takings;
      slots = λ s p x. last.slots s
          (λ _. idle-elsewhere g (chunk_at b c) (k.sound c) page m class f here idle s) (k.slots s p x);
    })
  where
    d : Arena
    d = with_front b class (without_subpage c page (front_of b class))

    last : Kept g d (run_given g d c page)
        (λ s. s.place.chunk ≡ c → Elsewhere g (chunk_at b c) (k.sound c) page m (Sub class f) here s)
    last = run_given-is g d k.sound k.whole c page m (Sub class f) here

module _ (g : Geometry) (a : Arena) (sound : (c : ℕ) → IsSound g (chunk_at a c))
    (whole : (c : ℕ) → (chunk_at a c ≡ []) ⊎ (total_pages (chunk_at a c) ≡ chunk_pages g)) where
  pub element_given-is : (r : RegionId) → (x : IsElement g (chunk_at a r.place.chunk) r)
      → Kept g a (element_given g a r.class r.place.chunk x.page x.at x.elements) (NotAt r)
  element_given-is r x =
      cond_both (is_idle f) (idle_given g d r.class r.place.chunk x.page) d (λ y. Kept g a y (NotAt r))
      (λ idle. idle_given-is g a d r.class r.place.chunk x.page x.pages f (NotAt r) d_kept d_here idle)
      (λ _. d_kept)
    where
      f : Elements
      f = with_back x.elements x.at

      b : Arena
      b = with_elements a r.place.chunk x.page r.class f

      base : Kept g a b (NotAt r)
      base = element_back-is g a sound whole r x

      below : x.at < length x.elements.out
      below = slice_get-below x.elements.out x.at true x.out

      here : Begins x.page (Used x.pages (Sub r.class f)) (chunk_at b r.place.chunk)
      here = subst (λ y. Begins x.page (Used x.pages (Sub r.class f)) y)
          (sym (chunk_at-same a b r.place.chunk (replaced x.page (elements_to r.class f) (chunk_at a r.place.chunk))
          refl (chunk_at-below a r.place.chunk x.page (Used x.pages (Sub r.class x.elements)) x.begins)))
          (elements-here g (chunk_at a r.place.chunk) (sound r.place.chunk) x.page x.pages r.class x.elements f x.begins
          (slice_set-length x.elements.out x.at false) (with_back-good x.elements x.at below))

      d : Arena
      d = (if is_full x.elements then with_front b r.class ((r.place.chunk, x.page) ∷ front_of b r.class) else b)

      d_kept : Kept g a d (NotAt r)
      d_kept =
          cond_both (is_full x.elements) (with_front b r.class ((r.place.chunk, x.page) ∷ front_of b r.class)) b
          (λ y. Kept g a y (NotAt r)) (λ _. Kept-fronts g a b r.class ((r.place.chunk, x.page) ∷ front_of b r.class)
          (NotAt r) base) (λ _. base)

      d_here : Begins x.page (Used x.pages (Sub r.class f)) (chunk_at d r.place.chunk)
      d_here =
          cond_both (is_full x.elements) (with_front b r.class ((r.place.chunk, x.page) ∷ front_of b r.class)) b
          (λ y. Begins x.page (Used x.pages (Sub r.class f)) (chunk_at y r.place.chunk)) (λ _. here) (λ _. here)

-- the page in which an element lies, and its number there
pub page-of : (size page pages x : ℕ) → 0 < size → x < size * pages
    → (page ≤ (size * page + x) / size) × ((size * page + x) / size < page + pages)
page-of size page pages x some h =
    let at : (size * page + x) / size ≡ page + x / size = mul-add-div some page x in
    let less : x / size < pages = (div-lt_iff_lt-mul some).1 (subst (λ (n : ℕ). x < n) (mul_comm size pages) h) in
    (omega (arith, at), omega (arith, at, less))

pub number-of : (base at size : ℕ) → 0 < size → ((base + at * size) - base) / size ≡ at
number-of base at size pos =
    let rest : (base + at * size) - base ≡ at * size + 0 = omega arith in
    rw rest (div-mul-add at size 0 pos)

module _ (g : Geometry) (a : Arena) (sound : (c : ℕ) → IsSound g (chunk_at a c))
    (whole : (c : ℕ) → (chunk_at a c ≡ []) ⊎ (total_pages (chunk_at a c) ≡ chunk_pages g)) where
  -- the subpage and the element of a place are found again
  pub small_given-element : (r : RegionId) → (x : IsElement g (chunk_at a r.place.chunk) r) →
      small_given g a r.class r.place.chunk r.place.offset
      ≡ element_given g a r.class r.place.chunk x.page x.at x.elements
  small_given-element r x = same
    where
      chunk : Chunk
      chunk = chunk_at a r.place.chunk

      lies : (x.page ≤ r.place.offset / page_of g) × (r.place.offset / page_of g < x.page + x.pages)
      lies =
          rw x.starts (page-of (page_of g) x.page x.pages (x.at * size_at r.class) (page-some g (sound 0).page)
          (omega (arith, element-inside g chunk (sound r.place.chunk) r x, size_at-pos r.class)))

      page : run_start (r.place.offset / page_of g) chunk ≡ x.page
      page =
          run_start-Begins chunk x.page (r.place.offset / page_of g) (Used x.pages (Sub r.class x.elements)) x.begins
          lies.0 lies.1

      run : run_at x.page chunk ≡ Some (Used x.pages (Sub r.class x.elements))
      run = run_at-Begins chunk x.page (Used x.pages (Sub r.class x.elements)) (sound r.place.chunk).none_empty x.begins

      class_is : (r.class == r.class) ≡ true
      class_is = eq-eqb r.class r.class refl

      found : elements_at a r.class r.place.chunk x.page ≡ Some x.elements
      found = ap (elements_in r.class) run ∙ ap (λ t. if t then Some x.elements else None) class_is

      number : (r.place.offset - page_of g * x.page) / size_at r.class ≡ x.at
      number = rw x.starts (number-of (page_of g * x.page) x.at (size_at r.class) (size_at-pos r.class))

      same : small_given g a r.class r.place.chunk r.place.offset
          ≡ element_given g a r.class r.place.chunk x.page x.at x.elements
      same =
          ap (λ p. unwrap_or (option_map
          (element_given g a r.class r.place.chunk p ((r.place.offset - page_of g * p) / size_at r.class))
          (elements_at a r.class r.place.chunk p)) a) page
          ∙ ap (λ k. unwrap_or (option_map (element_given g a r.class r.place.chunk x.page k)
          (elements_at a r.class r.place.chunk x.page)) a) number
          ∙ ap (λ o. unwrap_or (option_map (element_given g a r.class r.place.chunk x.page x.at) o) a) found

  pub small_given-is : (r : RegionId) → (x : IsElement g (chunk_at a r.place.chunk) r)
      → Kept g a (small_given g a r.class r.place.chunk r.place.offset) (NotAt r)
  small_given-is r x =
      subst (λ b. Kept g a b (NotAt r)) (sym (small_given-element r x)) (element_given-is g a sound whole r x)

  -- a slot in the run of another, where that is a whole run, begins where it does
  pub whole-elsewhere : (r : RegionId) → (x : IsWholeRun g (chunk_at a r.place.chunk) r) → (s : RegionId)
      → s.place.offset ≢ r.place.offset →
      Elsewhere g (chunk_at a r.place.chunk) (sound r.place.chunk) x.page x.pages Whole x.begins s
  whole-elsewhere r x s apart (inl y) same = apart (y.starts ∙ ap (λ p. page_of g * p) same ∙ sym x.starts)
  whole-elsewhere r x s apart (inr y) same =
      cc (Begins-one (chunk_at a r.place.chunk) x.page (Used y.pages (Sub s.class y.elements)) (Used x.pages Whole)
      (sound r.place.chunk).none_empty
      (subst (λ p. Begins p (Used y.pages (Sub s.class y.elements)) (chunk_at a r.place.chunk)) same y.begins)
      x.begins)

  -- the first page of a whole run is found again
  pub whole-page : (r : RegionId) → (x : IsWholeRun g (chunk_at a r.place.chunk) r)
      → r.place.offset / page_of g ≡ x.page
  whole-page r x = ap (λ (n : ℕ). n / page_of g) x.starts ∙ mul-div_cancel_left x.page (page-some g (sound 0).page)

  pub whole_given-is : (r : RegionId) → (x : IsWholeRun g (chunk_at a r.place.chunk) r)
      → Kept g a (run_given g a r.place.chunk (r.place.offset / page_of g)) (NotAt r)
  whole_given-is r x =
      let page : r.place.offset / page_of g ≡ x.page = whole-page r x in
      let k : Kept g a (run_given g a r.place.chunk x.page)
      (λ s. s.place.chunk ≡ r.place.chunk → Elsewhere g (chunk_at a r.place.chunk) (sound r.place.chunk) x.page
      x.pages Whole x.begins s) = run_given-is g a sound whole r.place.chunk x.page x.pages Whole x.begins in
      subst (λ p. Kept g a (run_given g a r.place.chunk p) (NotAt r)) (sym page)
      (record {
        sound = k.sound;
        whole = k.whole;
        takings = k.takings;
        slots =
            λ s apart. k.slots s (λ in_chunk. whole-elsewhere r x s (apart in_chunk));
      })

  pub given_place-is : (r : RegionId) → IsSlot g (chunk_at a r.place.chunk) r
      → Kept g a (given_place g a r.class r.place.chunk r.place.offset) (NotAt r)
  given_place-is r (inl x) =
      subst (λ t. Kept g a (if t then small_given g a r.class r.place.chunk r.place.offset else run_given g a
      r.place.chunk (r.place.offset / page_of g)) (NotAt r)) (sym x.kind)
      (whole_given-is r x)
  given_place-is r (inr x) =
      subst (λ t. Kept g a (if t then small_given g a r.class r.place.chunk r.place.offset else run_given g a
      r.place.chunk (r.place.offset / page_of g)) (NotAt r)) (sym x.kind)
      (small_given-is r x)

pub any-one : {X : Type 0} (test : X → Bool) (xs : List X) → list_any test xs ≡ true
    → (x : X) × IsOne x xs × (test x ≡ true)
any-one {X = X} test [] e = absurd (cc e)
any-one {X = X} test (y ∷ ys) e = go (test y) refl e (any-one test ys)
  where
    go : (b : Bool) → test y ≡ b → (b || list_any test ys) ≡ true
        → (list_any test ys ≡ true → (x : X) × IsOne x ys × (test x ≡ true))
        → (x : X) × IsOne x (y ∷ ys) × (test x ≡ true)
    go true is h rest = (y, inl refl, is)
    go false is h rest = let r : (x : X) × IsOne x ys × (test x ≡ true) = rest h in (r.0, inr r.1, r.2)

pub EachOf-one : {X : Type 0} (P : X → Type 0) (xs : List X) (x : X) → EachOf P xs → IsOne x xs → P x
EachOf-one P [] x h o = absurd o
EachOf-one P (y ∷ ys) x h (inl o) = subst P (sym o) h.0
EachOf-one P (y ∷ ys) x h (inr o) = EachOf-one P ys x h.1 o

pub EachOf-filter : {X : Type 0} (P : X → Type 0) (test : X → Bool) (xs : List X) → EachOf (λ x. test x ≡ true → P x) xs
    → EachOf P (filter test xs)
EachOf-filter P test [] h = tt
EachOf-filter P test (x ∷ xs) h =
    cond_both (test x) (x ∷ filter test xs) (filter test xs) (EachOf P) (λ yes. (h.0 yes, EachOf-filter P test xs h.1))
    (λ _. EachOf-filter P test xs h.1)

pub EachTwo-filter : {X : Type 0} (R : X → X → Type 0) (test : X → Bool) (xs : List X) → EachTwo R xs
    → EachTwo R (filter test xs)
EachTwo-filter R test [] h = tt
EachTwo-filter R test (x ∷ xs) h =
    cond_both (test x) (x ∷ filter test xs) (filter test xs) (EachTwo R)
    (λ yes. (
      EachOf-filter (R x) test xs (EachOf-map (R x) (λ y. test y ≡ true → R x y) xs (λ y r _. r) h.0),
      EachTwo-filter R test xs h.1,
    ))
    (λ _. EachTwo-filter R test xs h.1)

-- the takings other than one do not begin where it does
pub others-elsewhere : (test : RegionId → Bool) (xs : List RegionId) (r : RegionId) → EachTwo BeginElsewhere xs
    → IsOne r xs → test r ≡ false → EachOf (λ s. test s ≡ true → NotAt r s) xs
others-elsewhere test [] r h o no_test = tt
others-elsewhere test (y ∷ ys) r h (inl o) no_test = (
  (λ yes. absurd (let both : true ≡ false = sym yes ∙ ap test (sym o) ∙ no_test in cc both)),
  EachOf-map (BeginElsewhere y) (λ s. test s ≡ true → NotAt r s) ys
      (λ s apart _ in_chunk same. subst (λ z. BeginElsewhere z s) (sym o) apart (sym in_chunk) (sym same)) h.0,
)
others-elsewhere test (y ∷ ys) r h (inr o) no_test =
    ((λ _. EachOf-one (BeginElsewhere y) ys r h.0 o), others-elsewhere test ys r h.1 o no_test)
