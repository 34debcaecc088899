-- What a seat's own notes of a cache of its lane say of the cache: its quota, and whether it is closed.
use Rattle.std.proofs.Common.{◌≡◌, ℕ, ◌+◌, List, [], ◌∷◌, ◌++◌, Bool, true, false, cond, eqb, sym, refl, ap, ◌∙◌, eqb-true, eq-eqb}
use Rattle.std.specs.Prelude.{Option, Some, None, All, filter, filter_map, option_and_then, if◌then◌else◌, ◌&&◌, ◌||◌, ◌==◌, not, nat_lt, min, length}
use Rattle.std.proofs.lemmas.List.Elements.{All-head, All-tail, All-weaker}
use Rattle.pool_law.specs.declared.run.Shape.{Shape}
use Rattle.pool_law.specs.declared.id.RegionId.{RegionId}
use Rattle.pool_law.specs.declared.note.Did.{Did}
use Rattle.pool_law.specs.declared.note.Did.TheVariants.{Hit, Miss, Kept, Back, Trim, Close, Shed}
use Rattle.pool_law.specs.declared.note.Noted.{Noted}
use Rattle.pool_law.specs.declared.note.Object.{Object}
use Rattle.pool_law.specs.declared.note.Object.TheVariants.{Cache}
use Rattle.pool_law.specs.Caches.{Cache as CacheState, new_cache, cache_step, lane_cache_step, is_own, front_taken, if_so, is_empty, after_hit, after_shed, refusal_is, trim_quota}
use Rattle.pool_law.specs.Homes.{home_of, IsObjectOf}
use Rattle.pool_law.specs.Histories.{after}
use Rattle.pool_law.specs.Limits.{cache_capacity}
use Rattle.pool_law.specs.NotedHistories.{noted_dids, MayNote}
use Rattle.pool_law.specs.Same.{same_object, same_region}
use Rattle.pool_law.proofs.SameLemmas.{same_object-is}
use Rattle.history_laws.specs.Histories.{IsCacheAfter}
use Rattle.pool_table.proofs.Known.{one_known}
use Rattle.history_laws.proofs.BinSteps.{so}
use Rattle.pool_table.specs.declared.views.Entry.{Entry}
use Rattle.pool_table.specs.declared.views.Entry.TheVariants.{At, Ref, Busy}
use Rattle.pool_table.specs.declared.views.Layout.{Layout}
use Rattle.pool_table.specs.declared.views.SeatView.{SeatView}
use Rattle.pool_table.specs.Views.{noted_of, is_about, is_lane}
use Rattle.pool_table.specs.Sound.{IsKnown, Stands}
use Rattle.pool_table.specs.Learned.{Enters}
use Rattle.pool_table.specs.declared.views.Part.{Part}
use Rattle.shared_pool.specs.declared.home.Home.{Home}
use Rattle.shared_pool.specs.Standing.{HomeStands}
use Rattle.shared_pool.specs.Quotas.{quota_after, quota_from, quota_left, is_close, has_closed}

-- ---- A fold over notes.

run : {A : Type 0} → (A → Did → A) → A → List Noted → A
run f a [] = a
run f a (n ∷ ns) = run f (f a n.did) ns

-- what the cache after its history shows, a fold over the history shows
module _ {A : Type 0} (f : A → Did → A) (shows : CacheState → A) (lane class : ℕ) where
  run_shows : ((x y : CacheState) (d : Did) → lane_cache_step lane class x d ≡ Some y → shows y ≡ f (shows x) d) →
      (h : List Noted) (x c : CacheState) → after (lane_cache_step lane class) x (noted_dids h) ≡ Some c
      → shows c ≡ run f (shows x) h
  unfolding run
  run_shows each [] x c is = ap shows (sym (cc is))
  run_shows each (n ∷ ns) x c is = go (lane_cache_step lane class x n.did) refl is (λ y. run_shows each ns y c)
    where
      go : (o : Option CacheState) → lane_cache_step lane class x n.did ≡ o
          → option_and_then (λ t. after (lane_cache_step lane class) t (noted_dids ns)) o ≡ Some c →
          ((y : CacheState) → after (lane_cache_step lane class) y (noted_dids ns) ≡ Some c
          → shows c ≡ run f (shows y) ns) →
          shows c ≡ run f (f (shows x) n.did) ns
      go None step is rest = absurd (cc is)
      go (Some y) step is rest = rest y is ∙ ap (λ a. run f a ns) (each x y n.did step)

-- notes that change nothing may be left out
module _ {A : Type 0} (f : A → Did → A) (lane : ℕ) where
  run_own : (h : List Noted) → All (λ (n : Noted). is_lane lane n.lane ≡ false → (a : A) → f a n.did ≡ a) h → (a : A)
      → run f a h ≡ run f a (filter (λ (n : Noted). is_lane lane n.lane) h)
  unfolding run
  run_own [] all a = refl
  run_own (n ∷ ns) all a =
      let P : Noted → Type 0 = λ (n : Noted). is_lane lane n.lane ≡ false → (a : A) → f a n.did ≡ a in
      one (is_lane lane n.lane) refl (All-head P n ns all) (run_own ns (All-tail P n ns all))
    where
      one : (b : Bool) → is_lane lane n.lane ≡ b → (is_lane lane n.lane ≡ false → (a : A) → f a n.did ≡ a) →
          ((a : A) → run f a ns ≡ run f a (filter (λ (n : Noted). is_lane lane n.lane) ns)) →
          run f (f a n.did) ns ≡ run f a
          (cond b (n ∷ filter (λ (n : Noted). is_lane lane n.lane) ns)
          (filter (λ (n : Noted). is_lane lane n.lane) ns))
      one true is same rest = rest (f a n.did)
      one false is same rest = ap (λ x. run f x ns) (same is a) ∙ rest a

-- ---- A seat's own entries at the cache.

same_pair : (a b : ℕ) → (eqb a a && eqb b b) ≡ true
same_pair a b = both (eqb a a) (eqb b b) (eq-eqb a a refl) (eq-eqb b b refl)
  where
    both : (m n : Bool) → m ≡ true → n ≡ true → (m && n) ≡ true
    both true n x y = y
    both false n x y = x

module _ (s : Shape) (lane class : ℕ) (fits : IsObjectOf s (Cache lane class)) where
  abbrev at : ℕ
  at = home_of s (Cache lane class)

  -- two tests for the cache say the same of an object of the shape
  test_is : (o : Object) → IsKnown s o → same_object o (Cache lane class) ≡ eqb (home_of s o) at
  test_is o of = go (same_object o (Cache lane class)) (eqb (home_of s o) at) refl refl
    where
      go : (a b : Bool) → same_object o (Cache lane class) ≡ a → eqb (home_of s o) at ≡ b → a ≡ b
      go true true x y = refl
      go true false x y = sym (eq-eqb (home_of s o) at (ap (home_of s) (same_object-is o (Cache lane class) x))) ∙ y
      go false true x y =
          let is : o ≡ Cache lane class = one_known s o (Cache lane class) of fits (eqb-true (home_of s o) at y) in
          sym x ∙ ap (λ z. same_object z (Cache lane class)) is ∙ same_pair lane class
      go false false x y = refl

  -- a fold over all entries that skips those elsewhere is one over the notes at the cache
  module _ {A : Type 0} (f : A → Did → A) (over : A → List Entry → A)
      (none : (a : A) → over a [] ≡ a)
      (note : (a : A) (o : Object) (k : ℕ) (n : Noted) (es : List Entry)
      → over a (At o k n ∷ es) ≡ over (cond (same_object o (Cache lane class)) (f a n.did) a) es)
      (step : (a : A) (r : _) (d : _) (es : List Entry) → over a (Ref r d ∷ es) ≡ over a es)
      (mark : (a : A) (b : _) (es : List Entry) → over a (Busy b ∷ es) ≡ over a es) where
    abbrev here : List Entry → List Noted
    here es = filter_map noted_of (filter (is_about s at) es)

    over_own : (number : Option ℕ) (es : List Entry) → All (Stands s number) es → (a : A)
        → over a es ≡ run f a (here es)
    unfolding run
    over_own number [] all a = none a
    over_own number (e ∷ es) all a =
        by e (All-head (Stands s number) e es all) (over_own number es (All-tail (Stands s number) e es all))
      where
        by : (e : Entry) → Stands s number e → ((a : A) → over a es ≡ run f a (here es))
            → over a (e ∷ es) ≡ run f a (here (e ∷ es))
        by (At o k n) st rest =
            note a o k n es ∙ one (same_object o (Cache lane class)) (eqb (home_of s o) at) (test_is o st.object)
          where
            one : (b c : Bool) → b ≡ c → over (cond b (f a n.did) a) es
                ≡ run f a (filter_map noted_of
                (cond c (At o k n ∷ filter (is_about s at) es) (filter (is_about s at) es)))
            one true true x = rest (f a n.did)
            one true false x = absurd (cc x)
            one false true x = absurd (cc x)
            one false false x = rest a
        by (Ref r d) st rest = step a r d es ∙ rest a
        by (Busy b) st rest = mark a b es ∙ two (eqb (home_of s b.object) at)
          where
            two : (c : Bool) → over a es ≡ run f a
                (filter_map noted_of (cond c (Busy b ∷ filter (is_about s at) es) (filter (is_about s at) es)))
            two true = rest a
            two false = rest a

-- ---- The quota.

module _ (s : Shape) (lane class : ℕ) where
  -- only the lane itself gives a quota and uses it up
  others_shed_not : (number : Option ℕ) (d : Did) → MayNote s number (Cache lane class) d → is_lane lane number ≡ false
      → (q : ℕ) → quota_after q d ≡ q
  others_shed_not None (Trim n) may off q = absurd (cc may)
  others_shed_not None (Close n) may off q = absurd (cc may)
  others_shed_not None (Shed r) may off q = absurd (cc may)
  others_shed_not (Some k) (Trim n) may off q = absurd (cc (may, off))
  others_shed_not (Some k) (Close n) may off q = absurd (cc (may, off))
  others_shed_not (Some k) (Shed r) may off q = absurd (cc (may, off))
  others_shed_not number d may off q = refl

  others_close_not : (number : Option ℕ) (d : Did) → MayNote s number (Cache lane class) d → is_lane lane number ≡ false
      → (b : Bool) → (b || is_close d) ≡ b
  others_close_not None (Close n) may off b = absurd (cc may)
  others_close_not (Some k) (Close n) may off b = absurd (cc (may, off))
  others_close_not number d may off true = refl
  others_close_not number d may off false = refl

-- ---- What one step of the law's cache does to its quota, and whether it is closed.

record Shows (x : CacheState) (d : Did) (y : CacheState) : Type 0 where
  quota : y.quota ≡ quota_after x.quota d
  closed : y.closed ≡ (x.closed || is_close d)

or_false : (b : Bool) → b ≡ (b || false)
or_false true = refl
or_false false = refl

or_true : (b : Bool) → true ≡ (b || true)
or_true true = refl
or_true false = refl

-- a step that leaves both as they were
stays : (x z y : CacheState) (d : Did) (b : Bool) → z.quota ≡ quota_after x.quota d
    → z.closed ≡ (x.closed || is_close d) → if_so b z ≡ Some y → Shows x d y
stays x z y d b quota closed is =
    let e = (so b z y is).1 in
    record {
      quota = ap (λ (v : CacheState). v.quota) (sym e)
          ∙ quota;
      closed = ap (λ (v : CacheState). v.closed) (sym e) ∙ closed;
    }

hit_shows : (n : ℕ) (x y : CacheState) (r : RegionId) (b : Bool) (o : Option (List RegionId))
    → (if b then after_hit n x o else None) ≡ Some y → Shows x (Hit r) y
hit_shows n x y r true None is = absurd (cc is)
hit_shows n x y r true (Some rest) is =
    let e : record x { regions = rest; served = min (x.served + 1) n } ≡ y = cc is in
    record {
      quota = ap (λ (v : CacheState). v.quota) (sym e);
      closed = ap (λ (v : CacheState). v.closed) (sym e)
          ∙ or_false x.closed;
    }
hit_shows n x y r false o is = absurd (cc is)

shed_shows : (x y : CacheState) (r : RegionId) (b : Bool) (o : Option (List RegionId))
    → (if b then None else after_shed x o) ≡ Some y → Shows x (Shed r) y
shed_shows x y r true o is = absurd (cc is)
shed_shows x y r false None is = absurd (cc is)
shed_shows x y r false (Some rest) is =
    record { quota = ap quota_or (sym is); closed = ap closed_or (sym is) ∙ or_false x.closed }
  where
    quota_or : Option CacheState → ℕ
    quota_or (Some v) = v.quota
    quota_or None = 0

    closed_or : Option CacheState → Bool
    closed_or (Some v) = v.closed
    closed_or None = false

class_shows : (n : ℕ) (x y : CacheState) (d : Did) → cache_step n x d ≡ Some y → Shows x d y
class_shows n x y (Hit r) is = hit_shows n x y r (x.quota == 0) (front_taken (λ o. same_region r o) x.regions) is
class_shows n x y Miss is = stays x x y Miss ((x.quota == 0) && is_empty x.regions) refl (or_false x.closed) is
class_shows n x y (Kept r) is =
    stays x (record x { regions = x.regions ++ r ∷ [] }) y (Kept r) (not x.closed && nat_lt (length x.regions) n) refl
    (or_false x.closed) is
class_shows n x y (Back r why) is = stays x x y (Back r why) (refusal_is x n why) refl (or_false x.closed) is
class_shows n x y (Trim k) is =
    stays x (record x { quota = k; served = 0 }) y (Trim k) ((x.quota == 0) && (k == trim_quota x n)) refl
    (or_false x.closed) is
class_shows n x y (Close k) is =
    stays x (record x { quota = k; closed = true }) y (Close k)
    ((x.quota == 0) && (not x.closed && (k == length x.regions))) refl (or_true x.closed) is
class_shows n x y (Shed r) is = shed_shows x y r (x.quota == 0) (front_taken (λ o. same_region r o) x.regions) is
class_shows n x y d is = absurd (cc is)

lane_shows : (lane class : ℕ) (x y : CacheState) (d : Did) → lane_cache_step lane class x d ≡ Some y → Shows x d y
lane_shows lane class x y d is = one (is_own lane class d) is
  where
    one : (b : Bool) → (if b then cache_step (cache_capacity class) x d else None) ≡ Some y → Shows x d y
    one true is = class_shows (cache_capacity class) x y d is
    one false is = absurd (cc is)

-- ---- The law's cache by the seat's own notes.

abbrev close_more : Bool → Did → Bool
close_more b d = b || is_close d

module _ (l : Layout) (lane class : ℕ) (fits : IsObjectOf l.shape (Cache lane class)) (v : SeatView) (h : List Noted)
    (home : Home) (e : Enters HomeStands l (Cache lane class) v h home)
    (number : v.own.number ≡ Some lane) (c : CacheState) (told : IsCacheAfter lane class h c) where
  own_notes : All (Stands l.shape v.own.number) v.own.notes
  own_notes = All-head (λ (p : Part). All (Stands l.shape p.number) p.notes) v.own v.others e.view.notes

  -- the quota of the cache is what its lane's notes left of it
  pub quota_is : c.quota ≡ quota_left lane class v.own.notes
  quota_is =
      run_shows quota_after (λ (x : CacheState). x.quota) lane class
      (λ x y d is. (lane_shows lane class x y d is).quota) h new_cache c told
      ∙ run_own quota_after lane h (All-weaker (λ (n : Noted). MayNote l.shape n.lane (Cache lane class) n.did)
      (λ (n : Noted). is_lane lane n.lane ≡ false → (q : ℕ) → quota_after q n.did ≡ q)
      (λ n may off. others_shed_not l.shape lane class n.lane n.did may off) h e.lanes) 0
      ∙ ap (run quota_after 0) (sym (e.own lane number))
      ∙ sym (over_own l.shape lane class fits quota_after (quota_from lane class) (λ a. refl) (λ a o k n es. refl)
      (λ a r d es. refl) (λ a b es. refl) v.own.number v.own.notes own_notes 0)

  -- and it is closed where they closed it
  pub closed_is : c.closed ≡ has_closed lane class v.own.notes
  closed_is =
      run_shows close_more (λ (x : CacheState). x.closed) lane class
      (λ x y d is. (lane_shows lane class x y d is).closed) h new_cache c told
      ∙ run_own close_more lane h (All-weaker (λ (n : Noted). MayNote l.shape n.lane (Cache lane class) n.did)
      (λ (n : Noted). is_lane lane n.lane ≡ false → (b : Bool) → close_more b n.did ≡ b)
      (λ n may off. others_close_not l.shape lane class n.lane n.did may off) h e.lanes) false
      ∙ ap (run close_more false) (sym (e.own lane number))
      ∙ sym (over_own l.shape lane class fits close_more (λ b es. b || has_closed lane class es) (λ b. sym (or_false b))
      (λ b o k n es. at_note b (same_object o (Cache lane class)) (is_close n.did) (has_closed lane class es))
      (λ a r d es. refl) (λ a b es. refl) v.own.number v.own.notes own_notes false)
    where
      at_note : (b same close rest : Bool) → (b || (if same && close then true else rest))
          ≡ (cond same (b || close) b || rest)
      at_note true true true rest = refl
      at_note true true false rest = refl
      at_note true false close rest = refl
      at_note false true true rest = refl
      at_note false true false rest = refl
      at_note false false close rest = refl

-- a quota over two lists of entries
pub quota_append : (lane class quota : ℕ) (xs ys : List Entry)
    → quota_from lane class quota (xs ++ ys) ≡ quota_from lane class (quota_from lane class quota xs) ys
quota_append lane class quota [] ys = refl
quota_append lane class quota (At o k n ∷ xs) ys =
    quota_append lane class (if same_object o (Cache lane class) then quota_after quota n.did else quota) xs ys
quota_append lane class quota (Ref r d ∷ xs) ys = quota_append lane class quota xs ys
quota_append lane class quota (Busy b ∷ xs) ys = quota_append lane class quota xs ys
