-- What a root place's history tells of its present root: its accesses, and its watch.
use Rattle.std.proofs.Common.{◌≡◌, ◌≢◌, ℕ, ◌+◌, ◌<◌, ◌≤◌, Bool, true, false, List, [], ◌∷◌, ◌++◌, length, refl, sym, ap, ◌∙◌, arith, append_assoc, length-append, eqb-true, ne_eqb}
use Rattle.std.specs.Prelude.{Option, Some, None, unwrap_or, option_and_then, ◌==◌, ◌&&◌, ◌||◌, nat_le, nat_lt}
use Rattle.std.proofs.lemmas.List.{map-append}
use Rattle.pool_law.specs.declared.id.RootId.{RootId}
use Rattle.pool_law.specs.declared.id.RegionId.{RegionId}
use Rattle.pool_law.specs.declared.note.Did.{Did}
use Rattle.pool_law.specs.declared.note.Did.TheVariants.{Birth, Set, Get, Touch, Room, Extend, Grow, End}
use Rattle.pool_law.specs.declared.note.Noted.{Noted}
use Rattle.pool_law.specs.declared.report.Access.{Access}
use Rattle.pool_law.specs.declared.report.Watch.{Watch}
use Rattle.pool_law.specs.Same.{same_root, same_bytes}
use Rattle.pool_law.specs.Roots.{RootPlace, Present, new_place, laid_over, bytes_at, zeros_to, born, may_be_born, with_bytes, place_step, place_step_by}
use Rattle.pool_law.specs.Histories.{after}
use Rattle.pool_law.specs.Leaks.{accesses}
use Rattle.pool_law.specs.Logs.{History}
use Rattle.pool_law.specs.NotedHistories.{noted_dids}
use Rattle.pool_law.proofs.SameLemmas.{and-first, and-second}
use Rattle.history_laws.proofs.BinSteps.{so}
use Rattle.shared_pool.specs.RootPlaces.{watch_after, lane_dids}

-- whether the root is present after a note, and the access that a note is to it while it is present
abbrev pub live_next : RootId → Bool → Did → Bool
live_next root live (Birth b region) = same_root b root
live_next root live (End e) = false
live_next root live _ = live

abbrev pub access_in : Bool → ℕ → Did → List Access
access_in true lane (Set offset bytes) = Access.Set lane offset (length bytes) ∷ []
access_in true lane (Get offset bytes) = Access.Get lane offset (length bytes) ∷ []
access_in true lane Touch = Access.Touch lane ∷ []
access_in _ lane _ = []

abbrev pub live_after : RootId → Bool → History → Bool
live_after root live [] = live
live_after root live (e ∷ h) = live_after root (live_next root live e.1) h

first_access : (root : RootId) (live : Bool) (lane : ℕ) (d : Did) (h : History)
    → accesses root live ((lane, d) ∷ h) ≡ access_in live lane d ++ accesses root (live_next root live d) h
first_access root true lane (Birth b region) h = refl
first_access root true lane (End e) h = refl
first_access root true lane (Set offset bytes) h = refl
first_access root true lane (Get offset bytes) h = refl
first_access root true lane Touch h = refl
first_access root true lane d h = refl
first_access root false lane (Birth b region) h = refl
first_access root false lane (End e) h = refl
first_access root false lane (Set offset bytes) h = refl
first_access root false lane (Get offset bytes) h = refl
first_access root false lane Touch h = refl
first_access root false lane d h = refl

-- one note more is at most one access more
last_access : (root : RootId) (live : Bool) (h : History) (lane : ℕ) (d : Did)
    → accesses root live (h ++ (lane, d) ∷ []) ≡ accesses root live h ++ access_in (live_after root live h) lane d
last_access root live [] lane d = first_access root live lane d [] ∙ nil (access_in live lane d)
  where
    nil : (xs : List Access) → xs ++ [] ≡ xs
    nil [] = refl
    nil (x ∷ xs) = ap (λ (ys : List Access). x ∷ ys) (nil xs)
last_access root live (e ∷ h) lane d =
    first_access root live e.0 e.1 (h ++ (lane, d) ∷ [])
    ∙ ap (λ (xs : List Access). access_in live e.0 e.1 ++ xs) (last_access root (live_next root live e.1) h lane d)
    ∙ sym (append_assoc (access_in live e.0 e.1) (accesses root (live_next root live e.1) h)
    (access_in (live_after root (live_next root live e.1) h) lane d))
    ∙ ap (λ (xs : List Access). xs ++ access_in (live_after root (live_next root live e.1) h) lane d)
    (sym (first_access root live e.0 e.1 h))

one_at_most : (live : Bool) (lane : ℕ) (d : Did) → length (access_in live lane d) ≤ 1
one_at_most true lane (Set offset bytes) = omega arith
one_at_most true lane (Get offset bytes) = omega arith
one_at_most true lane Touch = omega arith
one_at_most true lane d = omega arith
one_at_most false lane d = omega arith

short_in : (root : RootId) (live : Bool) (h : List Noted) → length (accesses root live (lane_dids h)) ≤ length h
short_in root live [] = omega arith
short_in root live (n ∷ h) =
    let lane : ℕ = unwrap_or n.lane 0 in let next : Bool = live_next root live n.did in
    let e = ap length (first_access root live lane n.did (lane_dids h)) in let a =
    length-append (access_in live lane n.did) (accesses root next (lane_dids h)) in
    let b = one_at_most live lane n.did in let c = short_in root next h in omega (arith, e, a, b, c)

-- no more accesses than notes
pub short : (root : RootId) (h : List Noted) → length (accesses root false (lane_dids h)) ≤ length h
short root h = short_in root false h

-- whether the root is the one that is present
abbrev pub is_at : RootId → Option Present → Bool
is_at root None = false
is_at root (Some q) = same_root q.root root

live_step : (p : ℕ) (root : RootId) (x y : RootPlace) (live : Bool) (d : Did) → live ≡ is_at root x.present
    → place_step p x d ≡ Some y → live_next root live d ≡ is_at root y.present
live_step p root x y live d is e = by d x.present refl is e
  where
    by : (d : Did) (o : Option Present) → x.present ≡ o → live ≡ is_at root o → place_step_by p x o d ≡ Some y
        → live_next root live d ≡ is_at root y.present
    by (Birth b region) None here is e =
        let made = so (may_be_born p x b region) (born b region) y e in
        ap (λ (z : RootPlace). is_at root z.present) made.1
    by (Set offset bytes) (Some q) here is e =
        let made = so (nat_le (offset + length bytes) (length q.bytes))
        (with_bytes x q (laid_over q.bytes offset bytes)) y e in
        is ∙ ap (λ (z : RootPlace). is_at root z.present) made.1
    by (Get offset bytes) (Some q) here is e =
        let made = so (nat_le (offset + length bytes) (length q.bytes) && same_bytes bytes
        (bytes_at q.bytes offset (length bytes))) x y e in
        is ∙ ap (is_at root) (sym here) ∙ ap (λ (z : RootPlace). is_at root z.present) made.1
    by Touch (Some q) here is e =
        let same : x ≡ y = cc e in is ∙ ap (is_at root) (sym here) ∙ ap (λ (z : RootPlace). is_at root z.present) same
    by (Room asked capacity) (Some q) here is e =
        let made = so ((capacity == length q.bytes) && (nat_le asked capacity || nat_lt q.region.place.len asked)) x y
        e in
        is ∙ ap (is_at root) (sym here) ∙ ap (λ (z : RootPlace). is_at root z.present) made.1
    by (Extend size) (Some q) here is e =
        let made = so (nat_lt (length q.bytes) size && nat_le size q.region.place.len)
        (with_bytes x q (zeros_to size q.bytes)) y e in
        is ∙ ap (λ (z : RootPlace). is_at root z.present) made.1
    by (Grow capacity region) (Some q) here is e =
        let made = so (nat_lt q.region.place.len capacity && nat_le capacity region.place.len)
        (with_bytes x (record q { region = region }) (zeros_to capacity q.bytes)) y e in
        is ∙ ap (λ (z : RootPlace). is_at root z.present) made.1
    by (End r) (Some q) here is e =
        let made = so (same_root r q.root) (record x { present = None }) y e in
        ap (λ (z : RootPlace). is_at root z.present) made.1
    by d None here is e = absurd (cc e)
    by d (Some q) here is e = absurd (cc e)

live_run : (p : ℕ) (root : RootId) (h : List Noted) (x y : RootPlace) (live : Bool) → live ≡ is_at root x.present
    → after (place_step p) x (noted_dids h) ≡ Some y → live_after root live (lane_dids h) ≡ is_at root y.present
live_run p root [] x y live is e = let same : x ≡ y = cc e in is ∙ ap (λ (z : RootPlace). is_at root z.present) same
live_run p root (n ∷ h) x y live is e =
    go (place_step p x n.did) refl e (λ z. live_run p root h z y (live_next root live n.did))
  where
    go : (o : Option RootPlace) → place_step p x n.did ≡ o
        → option_and_then (λ t. after (place_step p) t (noted_dids h)) o ≡ Some y →
        ((z : RootPlace) → live_next root live n.did ≡ is_at root z.present
        → after (place_step p) z (noted_dids h) ≡ Some y
        → live_after root (live_next root live n.did) (lane_dids h) ≡ is_at root y.present) →
        live_after root (live_next root live n.did) (lane_dids h) ≡ is_at root y.present
    go None step e rest = absurd (cc e)
    go (Some z) step e rest = rest z (live_step p root x z live n.did is step) e

lane_dids-push : (h : List Noted) (n : Noted) → lane_dids (h ++ n ∷ [])
    ≡ lane_dids h ++ (unwrap_or n.lane 0, n.did) ∷ []
lane_dids-push h n = map-append (λ (m : Noted). (unwrap_or m.lane 0, m.did)) h (n ∷ [])

-- an access more to the root that is present
pub accesses_more : (p : ℕ) (root : RootId) (h : List Noted) (x : RootPlace) (n : Noted) (access : Access)
    → after (place_step p) new_place (noted_dids h) ≡ Some x → is_at root x.present ≡ true →
    access_in true (unwrap_or n.lane 0) n.did ≡ access ∷ []
    → accesses root false (lane_dids (h ++ n ∷ [])) ≡ accesses root false (lane_dids h) ++ access ∷ []
accesses_more p root h x n access e here is =
    let lane : ℕ = unwrap_or n.lane 0 in
    let live : live_after root false (lane_dids h) ≡ true = live_run p root h new_place x false refl e ∙ here in
    ap (accesses root false) (lane_dids-push h n) ∙ last_access root false (lane_dids h) lane n.did
    ∙ (λ i. accesses root false (lane_dids h) ++ access_in (live i) lane n.did)
    ∙ ap (λ (xs : List Access). accesses root false (lane_dids h) ++ xs) is

-- ---- Asks for capacity, and growths.

-- the root is asked for capacity, or grows
abbrev pub is_regrow : Did → Bool
is_regrow (Room asked capacity) = true
is_regrow (Extend size) = true
is_regrow (Grow capacity region) = true
is_regrow _ = false

quiet_access : (d : Did) → is_regrow d ≡ true → (live : Bool) (lane : ℕ) → access_in live lane d ≡ []
quiet_access (Room asked capacity) is true lane = refl
quiet_access (Room asked capacity) is false lane = refl
quiet_access (Extend size) is true lane = refl
quiet_access (Extend size) is false lane = refl
quiet_access (Grow capacity region) is true lane = refl
quiet_access (Grow capacity region) is false lane = refl
quiet_access d is live lane = absurd (cc is)

-- they are no access
pub accesses_same : (root : RootId) (h : List Noted) (n : Noted) → is_regrow n.did ≡ true
    → accesses root false (lane_dids (h ++ n ∷ [])) ≡ accesses root false (lane_dids h)
accesses_same root h n is =
    let lane : ℕ = unwrap_or n.lane 0 in
    ap (accesses root false) (lane_dids-push h n) ∙ last_access root false (lane_dids h) lane n.did
    ∙ ap (λ (xs : List Access). accesses root false (lane_dids h) ++ xs)
    (quiet_access n.did is (live_after root false (lane_dids h)) lane)
    ∙ nil (accesses root false (lane_dids h))
  where
    nil : (xs : List Access) → xs ++ [] ≡ xs
    nil [] = refl
    nil (x ∷ xs) = ap (λ (ys : List Access). x ∷ ys) (nil xs)

-- and leave the watch
pub watch_quiet : (w : Option Watch) (h : List Noted) (n : Noted) → is_regrow n.did ≡ true
    → watch_after w (h ++ n ∷ []) ≡ watch_after w h
watch_quiet w [] n is = by n.did n.lane n.watch n.root n.region is
  where
    by : (d : Did) (lane : Option ℕ) (watch : Option Watch) (root : Option RootId) (region : Option RegionId)
        → is_regrow d ≡ true →
        watch_after w (record { did = d; lane = lane; watch = watch; root = root; region = region } ∷ []) ≡ w
    by (Room asked capacity) lane watch root region is = refl
    by (Extend size) lane watch root region is = refl
    by (Grow capacity x) lane watch root region is = refl
    by d lane watch root region is = absurd (cc is)
watch_quiet w (m ∷ h) n is = watch_quiet _ h n is

-- ---- Births.

other_root : (a b : RootId) → a.generation ≢ b.generation → same_root a b ≡ false
other_root a b ne =
    ap (λ (t : Bool). (a.place == b.place) && (t && (a.capacity == b.capacity))) (ne_eqb a.generation b.generation ne)
    ∙ both (a.place == b.place)
  where
    both : (t : Bool) → (t && false) ≡ false
    both true = refl
    both false = refl

no_access : (lane : ℕ) (d : Did) → access_in false lane d ≡ []
no_access lane (Set offset bytes) = refl
no_access lane (Get offset bytes) = refl
no_access lane Touch = refl
no_access lane d = refl

older_step : (p : ℕ) (x y : RootPlace) (d : Did) → place_step p x d ≡ Some y
    → (x.generation ≤ y.generation)
    × ((root : RootId) → y.generation < root.generation → live_next root false d ≡ false)
older_step p x y d e = by d x.present e
  where
    by : (d : Did) (o : Option Present) → place_step_by p x o d ≡ Some y
        → (x.generation ≤ y.generation)
        × ((root : RootId) → y.generation < root.generation → live_next root false d ≡ false)
    by (Birth b region) None e =
        let made = so (may_be_born p x b region) (born b region) y e in
        let next : b.generation ≡ x.generation + 1 =
        eqb-true b.generation (x.generation + 1)
        (and-first (b.generation == x.generation + 1) (nat_le b.capacity region.place.len)
        (and-second (b.place == p) ((b.generation == x.generation + 1) && nat_le b.capacity
        region.place.len) made.0)) in
        let same : b.generation ≡ y.generation = ap (λ (z : RootPlace). z.generation) made.1 in
        (omega (arith, next, same), λ root lt. other_root b root (λ eq. omega (arith, eq, same, lt)))
    by (Set offset bytes) (Some q) e =
        let made = so (nat_le (offset + length bytes) (length q.bytes))
        (with_bytes x q (laid_over q.bytes offset bytes)) y e in let same : x.generation
        ≡ y.generation = ap (λ (z : RootPlace). z.generation) made.1 in
        (omega (arith, same), λ root lt. refl)
    by (Get offset bytes) (Some q) e =
        let made = so (nat_le (offset + length bytes) (length q.bytes) && same_bytes bytes
        (bytes_at q.bytes offset (length bytes))) x y e in let same : x.generation
        ≡ y.generation = ap (λ (z : RootPlace). z.generation) made.1 in
        (omega (arith, same), λ root lt. refl)
    by Touch (Some q) e =
        let is : x ≡ y = cc e in let same : x.generation ≡ y.generation = ap (λ (z : RootPlace). z.generation) is in
        (omega (arith, same), λ root lt. refl)
    by (Room asked capacity) (Some q) e =
        let made = so ((capacity == length q.bytes) && (nat_le asked capacity || nat_lt q.region.place.len asked)) x y
        e in let same : x.generation ≡ y.generation = ap (λ (z : RootPlace). z.generation) made.1 in
        (omega (arith, same), λ root lt. refl)
    by (Extend size) (Some q) e =
        let made = so (nat_lt (length q.bytes) size && nat_le size q.region.place.len)
        (with_bytes x q (zeros_to size q.bytes)) y e in let same : x.generation
        ≡ y.generation = ap (λ (z : RootPlace). z.generation) made.1 in
        (omega (arith, same), λ root lt. refl)
    by (Grow capacity region) (Some q) e =
        let made = so (nat_lt q.region.place.len capacity && nat_le capacity region.place.len)
        (with_bytes x (record q { region = region }) (zeros_to capacity q.bytes)) y e in let same : x.generation
        ≡ y.generation = ap (λ (z : RootPlace). z.generation) made.1 in
        (omega (arith, same), λ root lt. refl)
    by (End r) (Some q) e =
        let made = so (same_root r q.root) (record x { present = None }) y e in let same : x.generation
        ≡ y.generation = ap (λ (z : RootPlace). z.generation) made.1 in
        (omega (arith, same), λ root lt. refl)
    by d None e = absurd (cc e)
    by d (Some q) e = absurd (cc e)

older_run : (p : ℕ) (h : List Noted) (x y : RootPlace) → after (place_step p) x (noted_dids h) ≡ Some y →
    (x.generation ≤ y.generation) × ((root : RootId) → y.generation < root.generation
    → accesses root false (lane_dids h) ≡ [])
older_run p [] x y e =
    let is : x ≡ y = cc e in let same : x.generation ≡ y.generation = ap (λ (z : RootPlace). z.generation) is in
    (omega (arith, same), λ root lt. refl)
older_run p (n ∷ h) x y e = go (place_step p x n.did) refl e (λ z. older_run p h z y)
  where
    go : (o : Option RootPlace) → place_step p x n.did ≡ o
        → option_and_then (λ t. after (place_step p) t (noted_dids h)) o ≡ Some y →
        ((z : RootPlace) → after (place_step p) z (noted_dids h) ≡ Some y
        → (z.generation ≤ y.generation)
        × ((root : RootId) → y.generation < root.generation → accesses root false (lane_dids h) ≡ [])) →
        (x.generation ≤ y.generation) × ((root : RootId) → y.generation < root.generation
        → accesses root false (lane_dids (n ∷ h)) ≡ [])
    go None step e more = absurd (cc e)
    go (Some z) step e more =
        let one = older_step p x z n.did step in let rest = more z e in let lane : ℕ = unwrap_or n.lane 0 in (
          omega (arith, one.0, rest.0),
          λ root lt. first_access root false lane n.did (lane_dids h)
              ∙ (λ i. no_access lane n.did i ++ accesses root (one.1 root (omega (arith, rest.0, lt)) i) (lane_dids h))
              ∙ rest.1 root lt,
        )

-- a root that is born has had no access
pub unborn : (p : ℕ) (root : RootId) (region : RegionId) (h : List Noted) (x : RootPlace) (n : Noted)
    → after (place_step p) new_place (noted_dids h) ≡ Some x → x.generation < root.generation →
    n.did ≡ Birth root region → accesses root false (lane_dids (h ++ n ∷ [])) ≡ []
unborn p root region h x n e lt is =
    let lane : ℕ = unwrap_or n.lane 0 in
    ap (accesses root false) (lane_dids-push h n) ∙ last_access root false (lane_dids h) lane n.did
    ∙ (λ i. (older_run p h new_place x e).1 root lt i ++ access_in (live_after root false (lane_dids h)) lane (is i))
    ∙ none (live_after root false (lane_dids h)) lane
  where
    none : (live : Bool) (lane : ℕ) → access_in live lane (Birth root region) ≡ []
    none true lane = refl
    none false lane = refl

-- ---- Watches.

-- an access leaves the watch
pub watch_same : (w : Option Watch) (h : List Noted) (n : Noted) (access : Access)
    → access_in true (unwrap_or n.lane 0) n.did ≡ access ∷ [] → watch_after w (h ++ n ∷ []) ≡ watch_after w h
watch_same w [] n access is = by n.did n.lane n.watch n.root n.region is
  where
    by : (d : Did) (lane : Option ℕ) (watch : Option Watch) (root : Option RootId) (region : Option RegionId)
        → access_in true (unwrap_or lane 0) d ≡ access ∷ [] →
        watch_after w (record { did = d; lane = lane; watch = watch; root = root; region = region } ∷ []) ≡ w
    by (Set offset bytes) lane watch root region is = refl
    by (Get offset bytes) lane watch root region is = refl
    by Touch lane watch root region is = refl
    by d lane watch root region is = absurd (cc is)
watch_same w (m ∷ h) n access is = watch_same _ h n access is

-- a birth gives the watch
pub watch_born : (w : Option Watch) (h : List Noted) (n : Noted) (root : RootId) (region : RegionId)
    → n.did ≡ Birth root region → watch_after w (h ++ n ∷ []) ≡ n.watch
watch_born w [] n root region is = λ i. watch_after w (record n { did = is i } ∷ [])
watch_born w (m ∷ h) n root region is = watch_born _ h n root region is
