-- A birth stands at its root's place.
use Rattle.std.proofs.Common.{eqb-true, ◌≡◌, ℕ, zero, suc, ◌+◌, List, [], ◌∷◌, ◌++◌, refl, sym, ap, Bool, true, false, Some, None, ◌∙◌, subst}
use Rattle.std.specs.Prelude.{◌==◌, ◌&&◌, if◌then◌else◌, Option, is_some, option_and_then, nat_le, slice_get}
use Rattle.std.proofs.lemmas.List.Sums.{AllPass-from_list_all}
use Rattle.std.proofs.lemmas.Option.{slice_get_within, get_or_from_slice_get}
use Rattle.pool_law.specs.declared.id.RootId.{RootId}
use Rattle.pool_law.specs.declared.id.RegionId.{RegionId}
use Rattle.pool_law.specs.declared.note.Did.{Did}
use Rattle.pool_law.specs.declared.note.Did.TheVariants.{Birth}
use Rattle.pool_law.specs.declared.note.Note.{Note}
use Rattle.pool_law.specs.declared.note.Note.TheVariants.{At}
use Rattle.pool_law.specs.declared.note.Object.{Object}
use Rattle.pool_law.specs.declared.run.Shape.{Shape}
use Rattle.pool_law.specs.Arenas.{arena_step, new_arena}
use Rattle.pool_law.specs.Caches.{Cache, cache_step, lane_cache_step, new_cache, new_bin, bin_step}
use Rattle.pool_law.specs.Histories.{after, IsAccepted}
use Rattle.pool_law.specs.Legal.{HistoriesHold}
use Rattle.pool_law.specs.Limits.{cache_capacity, geometry_of}
use Rattle.pool_law.specs.Logs.{Logs, History, dids, of_lane, own, numbered, has_history, note_stands, history_of}
use Rattle.pool_law.specs.Roots.{born, RootPlace, Present, new_place, place_step, place_step_by}
use Rattle.pool_law.proofs.HistoryLemmas.{own-append}
use Rattle.pool_law.proofs.PatternLemmas.{same_object-refl}

-- ---- Where an entry of a lane stands in a history.

record Stands (lane : ℕ) (h : History) (d : Did) : Type 0 where
  first : History
  last : History
  whole : h ≡ first ++ (lane, d) ∷ last

numbered-own : (lane n : ℕ) (e : ℕ × Did) (h : History) → (e.0 == lane) ≡ true
    → numbered lane n (e ∷ h) ≡ (n, e.1) ∷ numbered lane (n + 1) h
numbered-own lane n e h same = rw same refl

numbered-other : (lane n : ℕ) (e : ℕ × Did) (h : History) → (e.0 == lane) ≡ false
    → numbered lane n (e ∷ h) ≡ numbered lane (n + 1) h
numbered-other lane n e h other = rw other refl

stands-more : (lane : ℕ) (e : ℕ × Did) (h : History) (d : Did) → Stands lane h d → Stands lane (e ∷ h) d
stands-more lane e h d s = record { first = e ∷ s.first; last = s.last; whole = ap (λ t. e ∷ t) s.whole }

stands : (lane n : ℕ) (h : History) (xs : List (ℕ × Did)) (k : ℕ) (d : Did) (ys : List (ℕ × Did))
    → xs ++ (k, d) ∷ ys ≡ numbered lane n h → Stands lane h d
stands lane n [] [] k d ys e = absurd (cc e)
stands lane n [] (x ∷ xs) k d ys e = absurd (cc e)
stands lane n (e ∷ h) [] k d ys is = go (e.0 == lane) refl (stands lane (n + 1) h [] k d ys)
  where
    go : (b : Bool) → (e.0 == lane) ≡ b → ((k, d) ∷ ys ≡ numbered lane (n + 1) h → Stands lane h d)
        → Stands lane (e ∷ h) d
    go true same f =
        let both : ◌≡◌ {A = List (ℕ × Did)} ((k, d) ∷ ys) ((n, e.1) ∷ numbered lane (n + 1) h) = is
        ∙ numbered-own lane n e h same in
        let pair : ◌≡◌ {A = ℕ × Did} (k, d) (n, e.1) = cc both in
        let did : e.1 ≡ d = sym (ap (λ (x : ℕ × Did). x.1) pair) in
        let who : e.0 ≡ lane = eqb-true e.0 lane same in
        let entry : ◌≡◌ {A = ℕ × Did} e (lane, d) = ap (λ l. (l, e.1)) who ∙ ap (λ c. (lane, c)) did in
        record { first = []; last = h; whole = ap (λ z. z ∷ h) entry }
    go false other f = stands-more lane e h d (f (is ∙ numbered-other lane n e h other))
stands lane n (e ∷ h) (x ∷ xs) k d ys is =
    go (e.0 == lane) refl (stands lane (n + 1) h xs k d ys) (stands lane (n + 1) h (x ∷ xs) k d ys)
  where
    go : (b : Bool) → (e.0 == lane) ≡ b → (xs ++ (k, d) ∷ ys ≡ numbered lane (n + 1) h → Stands lane h d) →
        (x ∷ (xs ++ (k, d) ∷ ys) ≡ numbered lane (n + 1) h → Stands lane h d) → Stands lane (e ∷ h) d
    go true same f whole =
        let both : ◌≡◌ {A = List (ℕ × Did)} (x ∷ (xs ++ (k, d) ∷ ys)) ((n, e.1) ∷ numbered lane (n + 1) h) = is
        ∙ numbered-own lane n e h same in
        let tail : xs ++ (k, d) ∷ ys ≡ numbered lane (n + 1) h = cc both in
        stands-more lane e h d (f tail)
    go false other f whole = stands-more lane e h d (whole (is ∙ numbered-other lane n e h other))

-- the part of a list before a place, and the part behind it
cut-at : {X : Type 0} (xs : List X) (i : ℕ) (x : X) → slice_get xs i ≡ Some x
    → (us : List X) × (vs : List X) × (xs ≡ us ++ x ∷ vs)
cut-at [] i x e = absurd (cc e)
cut-at (y ∷ ys) zero x e = let same : y ≡ x = cc e in ([], ys, ap (λ z. z ∷ ys) same)
cut-at (y ∷ ys) (suc i) x e = let c = cut-at ys i x e in (y ∷ c.0, c.1, ap (λ t. y ∷ t) c.2)

-- a note at an object with a history stands in it
own-split : (object : Object) (logs : Logs) (lane : ℕ) (early late : List Note) (k : ℕ) (d : Did) (shape : Shape)
    → HistoriesHold shape logs → has_history object ≡ true →
    of_lane logs lane ≡ early ++ At object k d ∷ late → Stands lane (history_of object logs) d
own-split object logs lane early late k d shape hold has is =
    stands lane 1 (history_of object logs) (own object early) k d (own object late)
    (sym split ∙ hold.whole object has lane)
  where
    here : own object (At object k d ∷ late) ≡ (k, d) ∷ own object late
    here = rw (same_object-refl object) refl

    split : own object (of_lane logs lane) ≡ own object early ++ (k, d) ∷ own object late
    split = ap (own object) is ∙ own-append object early (At object k d ∷ late) ∙ ap (λ t. own object early ++ t) here

-- ---- A history with a birth is that of its root's place.

step-some : {S : Type 0} (step : S → Did → Option S) (s : S) (first last : History) (lane : ℕ) (d : Did)
    → is_some (after step s (dids (first ++ (lane, d) ∷ last))) ≡ true →
    (m : S) × (is_some (step m d) ≡ true)
step-some {S = S} step s [] last lane d ok = (s, go (step s d) ok)
  where
    go : (o : Option S) → is_some (option_and_then (λ t. after step t (dids last)) o) ≡ true → is_some o ≡ true
    go None x = x
    go (Some t) x = refl
step-some {S = S} step s (e ∷ first) last lane d ok = go (step s e.1) (λ t. step-some step t first last lane d) ok
  where
    go : (o : Option S) → ((t : S) → is_some (after step t (dids (first ++ (lane, d) ∷ last))) ≡ true
        → (m : S) × (is_some (step m d) ≡ true)) →
        is_some (option_and_then (λ t. after step t (dids (first ++ (lane, d) ∷ last))) o) ≡ true
        → (m : S) × (is_some (step m d) ≡ true)
    go None f x = absurd (cc x)
    go (Some t) f x = f t x

born-there : (place : ℕ) (s : RootPlace) (o : Option Present) (root : RootId) (region : RegionId)
    → is_some (place_step_by place s o (Birth root region)) ≡ true → root.place ≡ place
born-there place s None root region ok =
    go (root.place == place) ((root.generation == s.generation + 1) && nat_le root.capacity region.place.len) refl ok
  where
    go : (b c : Bool) → (root.place == place) ≡ b → is_some (if b && c then Some (born root region) else None) ≡ true
        → root.place ≡ place
    go true c e x = eqb-true root.place place e
    go false c e x = absurd (cc x)
born-there place s (Some p) root region ok = absurd (cc ok)

no-cache_birth : (capacity : ℕ) (c : Cache) (root : RootId) (region : RegionId)
    → is_some (cache_step capacity c (Birth root region)) ≡ true → ⊥
no-cache_birth capacity c root region ok = cc ok

accepted-birth : (shape : Shape) (o : Object) (first last : History) (lane : ℕ) (root : RootId) (region : RegionId) →
    IsAccepted shape o (dids (first ++ (lane, Birth root region) ∷ last)) → o ≡ Object.Root root.place
accepted-birth shape (Object.Arena number) first last lane root region ok =
    let g = geometry_of shape in
    let m = step-some (arena_step g number) (new_arena g shape.chunks) first last lane (Birth root region) ok in
    let none : false ≡ true = m.1 in absurd (cc none)
accepted-birth shape (Object.Cache owner class) first last lane root region ok =
    let m = step-some (lane_cache_step owner class) new_cache first last lane (Birth root region) ok in
    absurd (no-cache_birth (cache_capacity class) m.0 root region m.1)
accepted-birth shape (Object.Bin owner) first last lane root region ok =
    let m = step-some (bin_step owner shape.handles) (new_bin owner shape.handles) first last lane (Birth root region)
    ok in
    let none : false ≡ true = m.1 in absurd (cc none)
accepted-birth shape (Object.Mail from to) first last lane root region ok =
    let none : false ≡ true = ok in absurd (cc none)
accepted-birth shape (Object.Root place) first last lane root region ok =
    let m = step-some (place_step place) new_place first last lane (Birth root region) ok in
    ap Object.Root (sym (born-there place m.0 m.0.present root region m.1))

-- a birth is noted at an object with a history
birth-has : (shape : Shape) (logs : Logs) → HistoriesHold shape logs → (lane at k : ℕ) (o : Object) (root : RootId)
    (region : RegionId) → slice_get (of_lane logs lane) at ≡ Some (At o k (Birth root region)) → has_history o ≡ true
birth-has shape logs hold lane at k o root region e =
    let x : Note = At o k (Birth root region) in
    ap (note_stands shape lane) (sym (get_or_from_slice_get (of_lane logs lane) at x x e))
    ∙ AllPass-from_list_all (note_stands shape lane) (of_lane logs lane) (hold.stand lane) at x
    (slice_get_within (of_lane logs lane) at x e)

pub birth-placed : (shape : Shape) (logs : Logs) → HistoriesHold shape logs
    → (lane at k : ℕ) (o : Object) (root : RootId) (region : RegionId) →
    slice_get (of_lane logs lane) at ≡ Some (At o k (Birth root region)) → o ≡ Object.Root root.place
birth-placed shape logs hold lane at k o root region e =
    let has = birth-has shape logs hold lane at k o root region e in
    let c = cut-at (of_lane logs lane) at (At o k (Birth root region)) e in
    let s = own-split o logs lane c.0 c.1 k (Birth root region) shape hold has c.2 in
    accepted-birth shape o s.first s.last lane root region
    (subst (λ h. IsAccepted shape o (dids h)) s.whole (hold.accepted o has))
