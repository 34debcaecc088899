-- What a note does to a root place, as far as the capacity of its root goes.
use Rattle.std.proofs.Common.{◌≡◌, ◌⊎◌, ℕ, ◌+◌, ◌-◌, ◌≤◌, false, List, [], ◌∷◌, ◌++◌, length, take, drop, replicate, sym, refl, ap, ◌∙◌, subst, inl, inr, ⊎_elim, arith, eqb-true, length-append, Some, None}
use Rattle.std.specs.Prelude.{◌==◌, ◌&&◌, ◌||◌, nat_lt, nat_le, Option}
use Rattle.std.proofs.lemmas.List.{length-take-le, length-drop, length-replicate}
use Rattle.std.proofs.lemmas.Bool.{leb-true, ltb-true}
use Rattle.pool_law.specs.declared.run.Shape.{Shape}
use Rattle.pool_law.specs.declared.id.RootId.{RootId}
use Rattle.pool_law.specs.declared.id.RegionId.{RegionId}
use Rattle.pool_law.specs.declared.note.Did.{Did}
use Rattle.pool_law.specs.declared.note.Did.TheVariants.{Birth, Set, Get, Touch, Room, Extend, Grow, End}
use Rattle.pool_law.specs.declared.note.Noted.{Noted}
use Rattle.pool_law.specs.declared.note.Object.TheVariants.{Root}
use Rattle.pool_law.specs.Same.{same_root, same_bytes}
use Rattle.pool_law.specs.Roots.{RootPlace, Present, new_place, laid_over, bytes_at, zeros_to, born, may_be_born, with_bytes, place_step, place_step_by}
use Rattle.pool_law.specs.Histories.{place_after}
use Rattle.pool_law.specs.NotedHistories.{noted_dids, IsRightAt}
use Rattle.pool_law.specs.Logs.{present_in, root_for}
use Rattle.pool_law.specs.Counts.{root_is}
use Rattle.pool_law.proofs.SameLemmas.{and-first, and-second}
use Rattle.history_laws.specs.Histories.{IsLawful, IsPlaceAfter}
use Rattle.history_laws.proofs.BinSteps.{so}
use Rattle.history_laws.proofs.Runs.{Runs, told, next_note}
use Rattle.history_laws.proofs.PlaceSteps.{FitsPlace}
use Rattle.history_laws.proofs.Told.{place_fits}
use Rattle.pool_table.specs.Capacities.{gives}

-- bytes that are laid over others are as many in all, and zeros go up to a size that is no smaller
pub laid-length : (xs ys : List ℕ) (a : ℕ) → a + length ys ≤ length xs → length (laid_over xs a ys) ≡ length xs
laid-length xs ys a within =
    let before : length (take a xs) ≡ a = length-take-le a xs (omega (arith, within)) in
    let behind : length (drop (a + length ys) xs) ≡ length xs - (a + length ys) = length-drop (a + length ys) xs in
    let p = length-append (take a xs) (ys ++ drop (a + length ys) xs) in let q =
    length-append ys (drop (a + length ys) xs) in
    omega (arith, p, q, before, behind, within)

zeros-length : (xs : List ℕ) (n : ℕ) → length (zeros_to n xs) ≡ length xs + (n - length xs)
zeros-length xs n =
    let p = length-append xs (replicate (n - length xs) 0) in let q : length {A = ℕ} (replicate (n - length xs) 0)
    ≡ n - length xs = length-replicate (n - length xs) 0 in
    omega (arith, p, q)

-- the bytes of what is present lie in its region
abbrev pub LiesIn : RootPlace → Type 0
LiesIn x = (q : Present) → x.present ≡ Some q → length q.bytes ≤ q.region.place.len

-- ---- What a note does to a root place.

-- the note gives no capacity, or this size
pub record GivesNone (d : Did) (old new : Present) : Type 0 where
  pub none : (r : RootId) (c : ℕ) (o : Option RootId) → gives r c o d ≡ false
  pub bytes : length new.bytes ≡ length old.bytes
  pub region : new.region ≡ old.region

pub record GivesSome (d : Did) (old new : Present) : Type 0 where
  pub size : ℕ
  pub some : (r : RootId) (c : ℕ) (o : Option RootId) → gives r c o d ≡ (root_is r o && nat_le c size)
  pub bytes : length old.bytes ≤ old.region.place.len → length new.bytes ≡ size
  pub region : size ≤ new.region.place.len
  pub more : length old.bytes ≤ length new.bytes
  pub no_less : size ≤ length new.bytes

-- a root is born, stays or ends
pub record Bears (x y : RootPlace) (d : Did) : Type 0 where
  pub root : RootId
  pub region : RegionId
  pub did : d ≡ Birth root region
  pub vacant : x.present ≡ None
  pub is : y ≡ born root region
  pub next : root.generation ≡ x.generation + 1
  pub fits : root.capacity ≤ region.place.len

pub record Stays (x y : RootPlace) (d : Did) : Type 0 where
  pub old : Present
  pub new : Present
  pub was : x.present ≡ Some old
  pub is : y.present ≡ Some new
  pub same : new.root ≡ old.root
  pub generation : y.generation ≡ x.generation
  pub carries : root_for d (Some old) ≡ Some old.root
  pub gift : GivesNone d old new ⊎ GivesSome d old new

pub record Ends (x y : RootPlace) (d : Did) : Type 0 where
  pub old : Present
  pub was : x.present ≡ Some old
  pub gone : y.present ≡ None
  pub generation : y.generation ≡ x.generation
  pub none : (r : RootId) (c : ℕ) (o : Option RootId) → gives r c o d ≡ false

pub data Stepped (x y : RootPlace) (d : Did) : Type 0 where
  Born : Bears x y d → Stepped x y d
  Stayed : Stays x y d → Stepped x y d
  Ended : Ends x y d → Stepped x y d

-- a place where what is present has other bytes, or goes on in another region
module _ (x y : RootPlace) (q : Present) (here : x.present ≡ Some q) where
  -- the place is as it was
  same_stays : (d : Did) → x ≡ y → root_for d (Some q) ≡ Some q.root
      → ((r : RootId) (c : ℕ) (o : Option RootId) → gives r c o d ≡ false) → Stepped x y d
  same_stays d is carries none =
      Stayed (record {
        old = q;
        new = q;
        was = here;
        is = ap (λ (z : RootPlace). z.present) (sym is)
            ∙ here;
        same = refl;
        generation = ap (λ (z : RootPlace). z.generation) (sym is);
        carries = carries;
        gift =
            inl (record { none = none; bytes = refl; region = refl });
      })

  new_stays : (d : Did) (w : Present) → record x { present = Some w } ≡ y → w.root ≡ q.root
      → root_for d (Some q) ≡ Some q.root → GivesNone d q w ⊎ GivesSome d q w → Stepped x y d
  new_stays d w is same carries gift =
      Stayed (record {
        old = q;
        new = w;
        was = here;
        is = ap (λ (z : RootPlace). z.present) (sym is);
        same = same;
        generation =
            ap (λ (z : RootPlace). z.generation) (sym is);
        carries = carries;
        gift = gift;
      })

stepped : (p : ℕ) (x y : RootPlace) (d : Did) → place_step p x d ≡ Some y → Stepped x y d
stepped p x y d e = by d x.present refl e
  where
    by : (d : Did) (o : Option Present) → x.present ≡ o → place_step_by p x o d ≡ Some y → Stepped x y d
    by (Birth r z) None here e =
        let made = so (may_be_born p x r z) (born r z) y e in
        let rest = and-second (r.place == p) ((r.generation == x.generation + 1) && nat_le r.capacity z.place.len)
        made.0 in
        Born (record {
          root = r;
          region = z;
          did = refl;
          vacant = here;
          is = sym made.1;
          next =
              eqb-true r.generation (x.generation + 1)
              (and-first (r.generation == x.generation + 1) (nat_le r.capacity z.place.len) rest);
          fits =
              leb-true r.capacity z.place.len
              (and-second (r.generation == x.generation + 1) (nat_le r.capacity z.place.len) rest);
        })
    by (Set i bs) (Some q) here e =
        let made = so (nat_le (i + length bs) (length q.bytes)) (with_bytes x q (laid_over q.bytes i bs)) y e in
        let size = laid-length q.bytes bs i (leb-true (i + length bs) (length q.bytes) made.0) in
        new_stays x y q here (Set i bs) (record q { bytes = laid_over q.bytes i bs }) made.1 refl refl
        (inl (record { none = λ r c o. refl; bytes = size; region = refl }))
    by (Get i bs) (Some q) here e =
        let made = so (nat_le (i + length bs) (length q.bytes) && same_bytes bs (bytes_at q.bytes i (length bs))) x y e
        in
        same_stays x y q here (Get i bs) made.1 refl (λ r c o. refl)
    by Touch (Some q) here e = same_stays x y q here Touch (cc e) refl (λ r c o. refl)
    by (Room asked capacity) (Some q) here e =
        let made = so ((capacity == length q.bytes) && (nat_le asked capacity || nat_lt q.region.place.len asked)) x y
        e in
        same_stays x y q here (Room asked capacity) made.1 refl (λ r c o. refl)
    by (Extend size) (Some q) here e =
        let made = so (nat_lt (length q.bytes) size && nat_le size q.region.place.len)
        (with_bytes x q (zeros_to size q.bytes)) y e in
        let low = ltb-true (length q.bytes) size
        (and-first (nat_lt (length q.bytes) size) (nat_le size q.region.place.len) made.0) in
        let high = leb-true size q.region.place.len
        (and-second (nat_lt (length q.bytes) size) (nat_le size q.region.place.len) made.0) in
        let long = zeros-length q.bytes size in
        new_stays x y q here (Extend size) (record q { bytes = zeros_to size q.bytes }) made.1 refl refl
        (inr (record {
          size = size;
          some = λ r c o. refl;
          bytes = λ _. omega (arith, low, long);
          region = high;
          more =
              omega (arith, low, long);
          no_less = omega (arith, low, long);
        }))
    by (Grow size z) (Some q) here e =
        let made = so (nat_lt q.region.place.len size && nat_le size z.place.len)
        (with_bytes x (record q { region = z }) (zeros_to size q.bytes)) y e in
        let low = ltb-true q.region.place.len size
        (and-first (nat_lt q.region.place.len size) (nat_le size z.place.len) made.0) in
        let high = leb-true size z.place.len
        (and-second (nat_lt q.region.place.len size) (nat_le size z.place.len) made.0) in
        let long = zeros-length q.bytes size in
        new_stays x y q here (Grow size z) (record q { region = z; bytes = zeros_to size q.bytes }) made.1 refl refl
        (inr (record {
          size = size;
          some = λ r c o. refl;
          bytes = λ lies. omega (arith, low, long, lies);
          region = high;
          more = omega (arith, long);
          no_less =
              omega (arith, long);
        }))
    by (End r) (Some q) here e =
        let made = so (same_root r q.root) (record x { present = None }) y e in
        Ended (record {
          old = q;
          was = here;
          gone = ap (λ (z : RootPlace). z.present) (sym made.1);
          generation =
              ap (λ (z : RootPlace). z.generation) (sym made.1);
          none = λ r c o. refl;
        })
    by d None here e = absurd (cc e)
    by d (Some q) here e = absurd (cc e)

pub one_present : {o : Option Present} (a b : Present) → o ≡ Some a → o ≡ Some b → a ≡ b
one_present {o} a b e f = let both : Some a ≡ Some b = sym e ∙ f in cc both

-- ---- A run of notes, each of which carries the root that is present.

module _ (p : ℕ) where
  pub record Step (x : RootPlace) (n : Noted) (y : RootPlace) : Type 0 where
    pub did : Stepped x y n.did
    pub root : n.root ≡ root_for n.did x.present
    pub lies : LiesIn x
    pub fits : FitsPlace p x
    pub next : FitsPlace p y

  lies_on : (x y : RootPlace) (d : Did) → LiesIn x → Stepped x y d → LiesIn y
  lies_on x y d lies (Born b) q is =
      let here : Some q ≡ (born b.root b.region).present = sym is ∙ ap (λ (z : RootPlace). z.present) b.is in
      let same : q ≡ record { root = b.root; region = b.region; bytes = replicate b.root.capacity 0 } = cc here in
      let size : length {A = ℕ} (replicate b.root.capacity 0) ≡ b.root.capacity = length-replicate b.root.capacity 0 in
      let fits = b.fits in
      subst (λ (w : Present). length w.bytes ≤ w.region.place.len) (sym same) (omega (arith, size, fits))
  lies_on x y d lies (Stayed s) q is =
      let same : s.new ≡ q = one_present {o = y.present} s.new q s.is is in let old = lies s.old s.was in
      subst (λ (w : Present). length w.bytes ≤ w.region.place.len) same
      (⊎_elim
      (λ (g : GivesNone d s.old s.new). let b = g.bytes in
      let l : s.new.region.place.len ≡ s.old.region.place.len = ap (λ (z : RegionId). z.place.len) g.region in
      omega (arith, b, l, old))
      (λ (g : GivesSome d s.old s.new). let b = g.bytes old in let l = g.region in omega (arith, b, l))
      s.gift)
  lies_on x y d lies (Ended t) q is = let both : Some q ≡ None = sym is ∙ t.gone in absurd (cc both)

  -- a history of the place is such a run
  abbrev Inv : List Noted → RootPlace → Type 0
  Inv before x = IsPlaceAfter p before x × LiesIn x

  pub run : (s : Shape) (h : List Noted) (x : RootPlace) → IsLawful s (Root p) h → IsPlaceAfter p h x
      → Runs Step new_place h x
  run s h x t e = told (place_step p) (Root p) Inv Step one h [] new_place x (refl, λ q is. absurd (cc is)) t.right e
    where
      carried : (before : List Noted) (x : RootPlace) (n : Noted) → IsPlaceAfter p before x
          → n.root ≡ root_for n.did (present_in (place_after p (noted_dids before))) → n.root ≡ root_for n.did x.present
      carried before x n e r = r ∙ ap (λ (o : Option RootPlace). root_for n.did (present_in o)) e

      one : (before : List Noted) (x y : RootPlace) (n : Noted) → Inv before x → IsRightAt (Root p) before n
          → place_step p x n.did ≡ Some y → Step x n y × Inv (before ++ n ∷ []) y
      one before x y n inv right is =
          let did = stepped p x y n.did is in let more = next_note (place_step p) before n new_place x y inv.0 is in (
            record {
              did = did;
              root = carried before x n inv.0 right.0;
              lies = inv.1;
              fits = place_fits p before x inv.0;
              next =
                  place_fits p (before ++ n ∷ []) y more;
            },
            (more, lies_on x y n.did inv.1 did),
          )
