-- What is told of the live roots is what the law reports.
use Rattle.std.proofs.Common.{⊎_elim, eqb-true, eq-eqb, ◌≡◌, ℕ, zero, suc, ◌+◌, ◌<◌, ◌≤◌, List, [], ◌∷◌, refl, sym, ap, subst, arith, Bool, true, false, Some, None, ◌∙◌}
use Rattle.std.specs.Prelude.{◌==◌, ◌&&◌, if◌then◌else◌, map, sum_by, Contains, IsPermutation, Option, slice_get}
use Rattle.std.proofs.lemmas.List.Sums.{sum_by-cons}
use Rattle.std.proofs.lemmas.List.Sorted.{IsPermutation-sym, Contains-permutation, sum_by-IsPermutation}
use Rattle.std.proofs.lemmas.Bool.{cases_lt}
use Rattle.pool_law.specs.declared.id.RootId.{RootId}
use Rattle.pool_law.specs.declared.note.Did.TheVariants.{Birth}
use Rattle.pool_law.specs.declared.note.Note.{Note}
use Rattle.pool_law.specs.declared.note.Object.{Object}
use Rattle.pool_law.specs.declared.report.Leak.{Leak}
use Rattle.pool_law.specs.declared.report.Watch.{Watch}
use Rattle.pool_law.specs.declared.run.Shape.{Shape}
use Rattle.pool_law.specs.Counts.{total_of}
use Rattle.pool_law.specs.Leaks.{births, is_sampled, keeps_records, accesses_to, kept_of, dropped_of, capacity_at_end, leak_of, lane_leaks, leaks_of}
use Rattle.pool_law.specs.Legal.{HistoriesHold}
use Rattle.pool_law.specs.Logs.{Logs, ToldNote, of_lane, entries_of}
use Rattle.pool_law.proofs.SameLemmas.{and-first, and-second}
use Rattle.leak_records.specs.declared.live.LiveRoot.{LiveRoot}
use Rattle.leak_records.specs.Records.{Sampling, new_sampler, watch_of}
use Rattle.leak_records.specs.Reports.{IsReport, leak_of as leak_for}
use Rattle.pool_table.specs.declared.views.Entry.{Entry}
use Rattle.pool_table.specs.declared.views.Entry.TheVariants.{At}
use Rattle.pool_table.specs.declared.views.Part.{Part}
use Rattle.shared_pool.specs.Closing.{logs_in, entries_in, note_of}
use Rattle.shared_pool.specs.Live.{WasWatched, IsLive, live_of, AreLiveRoots}
use Rattle.shared_pool.proofs.Openings.{map_at, there_at}
use Rattle.shared_pool.proofs.ClosingWhole.{in_map}
use Rattle.lane_stages.specs.Sampled.{AreSampled}
use Rattle.lane_core.proofs.PlayedLists.{map-map, log-at}
use Rattle.lane_core.proofs.PlayedReport.{In, same-leaks, index-of, pair-of, OnceEach, ascends}
use Rattle.lane_core.proofs.PlayedBirths.{sampler_at, index-of_birth, birth-of_index}
use Rattle.lane_core.proofs.PlacedBirths.{birth-placed}
use Rattle.lane_core.proofs.PlayedLeaks.{lane-has, lanes-have, in-lanes, lanes-ascend}

-- ---- No two leaks of one lane and serial, in another order too.

abbrev is_key : ℕ → ℕ → Leak → Bool
is_key lane serial l = (l.lane == lane) && (l.serial == serial)

abbrev key_one : ℕ → ℕ → Leak → ℕ
key_one lane serial l = if is_key lane serial l then 1 else 0

key-is : (lane serial : ℕ) (l : Leak) → is_key lane serial l ≡ true → (l.lane ≡ lane) × (l.serial ≡ serial)
key-is lane serial l e = (
  eqb-true l.lane lane (and-first (l.lane == lane) (l.serial == serial) e),
  eqb-true l.serial serial
      (and-second (l.lane == lane) (l.serial == serial) e),
)

key-of : (lane serial : ℕ) (l : Leak) → l.lane ≡ lane → l.serial ≡ serial → key_one lane serial l ≡ 1
key-of lane serial l a b =
    let x : (l.lane == lane) ≡ true = eq-eqb l.lane lane a in let y : (l.serial == serial)
    ≡ true = eq-eqb l.serial serial b in
    rw (x, y) refl

sum-none : (f : Leak → ℕ) (xs : List Leak) → ((y : Leak) → In y xs → f y ≡ 0) → sum_by f xs ≡ 0
sum-none f [] h = refl
sum-none f (x ∷ xs) h = omega (arith, sum_by-cons f x xs, h x (0, refl), sum-none f xs (λ y i. h y (suc i.0, i.1)))

sum-here : (f : Leak → ℕ) (xs : List Leak) (i : ℕ) (x : Leak) → slice_get xs i ≡ Some x → f x ≡ 1 → 1 ≤ sum_by f xs
sum-here f [] i x e one = absurd (cc e)
sum-here f (y ∷ xs) zero x e one = let same : y ≡ x = cc e in omega (arith, sum_by-cons f y xs, ap f same, one)
sum-here f (y ∷ xs) (suc i) x e one = omega (arith, sum_by-cons f y xs, sum-here f xs i x e one)

sum-two : (f : Leak → ℕ) (xs : List Leak) (i j : ℕ) (x y : Leak) → slice_get xs i ≡ Some x → slice_get xs j ≡ Some y
    → f x ≡ 1 → f y ≡ 1 → i < j → 2 ≤ sum_by f xs
sum-two f [] i j x y a b p q lt = absurd (cc a)
sum-two f (z ∷ xs) zero zero x y a b p q lt = absurd (omega arith)
sum-two f (z ∷ xs) zero (suc j) x y a b p q lt =
    let same : z ≡ x = cc a in omega (arith, sum_by-cons f z xs, ap f same, p, sum-here f xs j y b q)
sum-two f (z ∷ xs) (suc i) zero x y a b p q lt = absurd (omega arith)
sum-two f (z ∷ xs) (suc i) (suc j) x y a b p q lt =
    omega (arith, sum_by-cons f z xs, sum-two f xs i j x y a b p q (omega arith))

sum-one : (lane serial : ℕ) (xs : List Leak) → OnceEach xs → sum_by (key_one lane serial) xs ≤ 1
sum-one lane serial [] once = omega arith
sum-one lane serial (x ∷ xs) once =
    go (is_key lane serial x) refl
    (sum-one lane serial xs (λ i j y z a b l s. omega (arith, once (suc i) (suc j) y z a b l s)))
  where
    others : is_key lane serial x ≡ true → (y : Leak) → In y xs → (b : Bool) → is_key lane serial y ≡ b
        → key_one lane serial y ≡ 0
    others e y i true f =
        let k = key-is lane serial x e in let m = key-is lane serial y f in
        absurd (omega (arith, once 0 (suc i.0) x y refl i.1 (k.0 ∙ sym m.0) (k.1 ∙ sym m.1)))
    others e y i false f = rw f refl

    go : (b : Bool) → is_key lane serial x ≡ b → sum_by (key_one lane serial) xs ≤ 1
        → sum_by (key_one lane serial) (x ∷ xs) ≤ 1
    go true e rest =
        let one : key_one lane serial x ≡ 1 = rw e refl in
        omega (
          arith,
          one,
          sum_by-cons (key_one lane serial) x xs,
          sum-none (key_one lane serial) xs
              (λ y i. others e y i (is_key lane serial y) refl),
        )
    go false e rest =
        let none : key_one lane serial x ≡ 0 = rw e refl in
        omega (arith, none, rest, sum_by-cons (key_one lane serial) x xs)

once-permuted : (xs ys : List Leak) → IsPermutation xs ys → OnceEach xs → OnceEach ys
once-permuted xs ys same once i j x y a b l s =
    ⊎_elim (λ (lt : i < j). absurd (twice i j x y a b lt l s))
    (λ (ge : j ≤ i). ⊎_elim (λ (lt : j < i). absurd (twice j i y x b a lt (sym l) (sym s)))
    (λ (le : i ≤ j). omega (arith, ge, le)) (cases_lt j i))
    (cases_lt i j)
  where
    twice : (i j : ℕ) (x y : Leak) → slice_get ys i ≡ Some x → slice_get ys j ≡ Some y → i < j → x.lane ≡ y.lane
        → x.serial ≡ y.serial → ⊥
    twice i j x y a b lt l s =
        omega (
          arith,
          sum-two (key_one y.lane y.serial) ys i j x y a b (key-of y.lane y.serial x l s)
              (key-of y.lane y.serial y refl refl) lt,
          sum-one y.lane y.serial xs once,
          sum_by-IsPermutation (key_one y.lane y.serial) xs ys same,
        )

contains-in : {X : Type 0} (xs : List X) (x : X) → Contains xs x → In x xs
contains-in xs x c =
    let g = there_at xs c.0 c.1 in
    let same : g.0 ≡ x = sym (index-of xs c.0 g.0 x g.1).0 ∙ c.2 in
    (c.0, g.1 ∙ ap Some same)

in-contains : {X : Type 0} (xs : List X) (x : X) → In x xs → Contains xs x
in-contains xs x i = let d = index-of xs i.0 x x i.1 in (i.0, d.1, d.0)

-- ---- Births that were given a watch.

part-there : (parts : List Part) (lane at : ℕ) (e : Entry)
    → slice_get (of_lane (map (λ p. p.notes) parts) lane) at ≡ Some e →
    (p : Part) × (slice_get parts lane ≡ Some p) × (slice_get p.notes at ≡ Some e)
part-there [] lane at e is = absurd (cc is)
part-there (p ∷ ps) zero at e is = (p, refl, is)
part-there (p ∷ ps) (suc lane) at e is = part-there ps lane at e is

part-born : (parts : List Part) (lane nth : ℕ) (root : RootId)
    → slice_get (births (of_lane (logs_in parts) lane)) nth ≡ Some root → (p : Part) × (slice_get parts lane ≡ Some p)
part-born [] lane nth root e = absurd (cc e)
part-born (p ∷ ps) zero nth root e = (p, refl)
part-born (p ∷ ps) (suc lane) nth root e = part-born ps lane nth root e

watch-cases : (b : Bool) (v w : Watch) → ◌≡◌ {A = Option Watch} (Some v) (if b then Some w else None)
    → (b ≡ true) × (v ≡ w)
watch-cases true v w e = (refl, cc e)
watch-cases false v w e = absurd (cc e)

module _ (shape : Shape) (parts : List Part) (hold : HistoriesHold shape (logs_in parts))
    (entries : entries_of (logs_in parts) ≡ entries_in parts)
    (sampled : (lane : ℕ) (p : Part) → slice_get parts lane ≡ Some p
    → (last : Sampling) × AreSampled (new_sampler lane shape.level shape.interval) p.notes last) where
  abbrev logs : Logs
  logs = logs_in parts

  -- the watch of a lane's birth with an index
  abbrev watch_at : ℕ → ℕ → Watch
  watch_at lane nth = record { lane = lane; serial = 1 + nth; keeps = keeps_records shape.level }

  abbrev sampler_of : ℕ → Sampling
  sampler_of lane = new_sampler lane shape.level shape.interval

  watch-is : (lane nth : ℕ) → watch_of (sampler_at (sampler_of lane) nth)
      ≡ (if is_sampled shape.level shape.interval (1 + nth) then Some (watch_at lane nth) else None)
  watch-is lane nth =
      let same : 0 + nth + 1 ≡ 1 + nth = omega arith in
      ap (λ n. watch_of (record { lane = lane; level = shape.level; interval = shape.interval; births = n })) same

  -- a root that was born in a lane, sampled, with this watch
  record IsBorn (x : RootId × Watch) : Type 0 where
    lane : ℕ
    nth : ℕ
    born : slice_get (births (of_lane logs lane)) nth ≡ Some x.0
    was_sampled : is_sampled shape.level shape.interval (1 + nth) ≡ true
    watch : x.1 ≡ watch_at lane nth

  log-is : (lane : ℕ) (p : Part) → slice_get parts lane ≡ Some p → of_lane logs lane ≡ map note_of p.notes
  log-is lane p e = log-at (λ (q : Part). map note_of q.notes) parts lane p e

  was-born : (x : RootId × Watch) → WasWatched parts x.0 x.1 → IsBorn x
  was-born x w =
      let p = part-there parts w.lane w.at (At (Object.Root x.0.place) w.number w.noted) w.stands in
      let s = sampled w.lane p.0 p.1 in
      let i = index-of_birth (sampler_of w.lane) s.0 p.0.notes s.1 w.at (Object.Root x.0.place) w.number w.noted x.0
      w.region p.2 w.birth in
      let c = watch-cases (is_sampled shape.level shape.interval (1 + i.0)) x.1 (watch_at w.lane i.0)
      (sym w.given ∙ i.2 ∙ watch-is w.lane i.0) in
      record {
        lane = w.lane;
        nth = i.0;
        born = ap (λ ns. slice_get (births ns) i.0) (log-is w.lane p.0 p.1) ∙ i.1;
        was_sampled = c.0;
        watch = c.1;
      }

  watched : (lane nth : ℕ) (root : RootId) → slice_get (births (of_lane logs lane)) nth ≡ Some root
      → is_sampled shape.level shape.interval (1 + nth) ≡ true → WasWatched parts root (watch_at lane nth)
  watched lane nth root e by =
      let p = part-born parts lane nth root e in
      let s = sampled lane p.0 p.1 in
      let b = birth-of_index (sampler_of lane) s.0 p.0.notes s.1 nth root
      (sym (ap (λ ns. slice_get (births ns) nth) (log-is lane p.0 p.1)) ∙ e) in
      let noted : slice_get (of_lane logs lane) b.at ≡ Some (Note.At b.object b.number (Birth root b.region)) =
      ap (λ ns. slice_get ns b.at) (log-is lane p.0 p.1)
      ∙ map_at note_of p.0.notes b.at (At b.object b.number b.noted) b.stands
      ∙ ap (λ d. Some (Note.At b.object b.number d)) b.birth in
      let place : b.object ≡ Object.Root root.place =
      birth-placed shape logs hold lane b.at b.number b.object root b.region noted in
      record {
        lane = lane;
        at = b.at;
        number = b.number;
        region = b.region;
        noted = b.noted;
        stands =
            ap (λ es. slice_get es b.at) (log-at (λ (q : Part). q.notes) parts lane p.0 p.1) ∙ b.stands
            ∙ ap (λ o. Some (At o b.number b.noted)) place;
        birth = b.birth;
        given = b.watch ∙ watch-is lane nth ∙ ap (λ c. if c then Some (watch_at lane nth) else None) by;
      }

  -- ---- The report.

  abbrev told_leak : RootId × Watch → Leak
  told_leak x = leak_for (live_of parts x.0 x.1)

  abbrev leak_with : (lane nth : ℕ) (root : RootId) → List (List ToldNote) → Leak
  leak_with lane nth root es = record {
    lane = lane;
    serial = 1 + nth;
    capacity = capacity_at_end root logs;
    count = total_of root es;
    records = (if keeps_records shape.level then kept_of (accesses_to root logs) else []);
    dropped = (if keeps_records shape.level then dropped_of (accesses_to root logs) else 0);
  }

  reported : (x : RootId × Watch) (b : IsBorn x) → told_leak x ≡ leak_of shape.level logs b.lane (1 + b.nth) x.0
  reported x b = ap (λ w. told_leak (x.0, w)) b.watch ∙ ap (leak_with b.lane b.nth x.0) (sym entries)

  module _ (live : List LiveRoot) (leaks : List Leak) (told : AreLiveRoots parts live) (report : IsReport live leaks)
    where
      all-leaks : map leak_for live ≡ map told_leak told.roots
      all-leaks =
          ap (map leak_for) told.told ∙ map-map leak_for (λ (x : RootId × Watch). live_of parts x.0 x.1) told.roots

      root-live : (k : ℕ) (x : RootId × Watch) → slice_get told.roots k ≡ Some x → IsLive parts x
      root-live k x e = let i = index-of told.roots k x x e in subst (IsLive parts) i.0 (told.each k x i.1)

      -- roots of one lane and serial are one
      one-root : (x y : RootId × Watch) → IsLive parts x → IsLive parts y → (told_leak x).lane ≡ (told_leak y).lane
          → (told_leak x).serial ≡ (told_leak y).serial → x.0 ≡ y.0
      one-root x y lx ly lanes serials =
          let a = was-born x lx.watched in let b = was-born y ly.watched in
          let same_lane : a.lane ≡ b.lane = sym (ap (λ w. w.lane) a.watch) ∙ lanes ∙ ap (λ w. w.lane) b.watch in
          let same_nth : a.nth ≡ b.nth = omega
          (arith, ap (λ w. w.serial) a.watch, ap (λ w. w.serial) b.watch, serials) in
          let both : Some x.0 ≡ Some y.0 = sym a.born ∙ ap (λ l. slice_get (births (of_lane logs l)) a.nth) same_lane
          ∙ ap (λ n. slice_get (births (of_lane logs b.lane)) n) same_nth ∙ b.born in
          cc both

      once : OnceEach (map told_leak told.roots)
      once i j x y a b lanes serials =
          let p = in_map told_leak told.roots i x a in let q = in_map told_leak told.roots j y b in
          let same : p.0.0 ≡ q.0.0 =
          one-root p.0 q.0 (root-live i p.0 p.1) (root-live j q.0 q.1)
          (ap (λ l. l.lane) p.2 ∙ lanes ∙ sym (ap (λ l. l.lane) q.2))
          (ap (λ l. l.serial) p.2 ∙ serials ∙ sym (ap (λ l. l.serial) q.2)) in
          let place : p.0.0.place ≡ q.0.0.place = ap (λ r. r.place) same in
          ⊎_elim (λ (lt : i < j). absurd
          (omega (
            arith,
            place,
            pair-of (λ u v. u.0.place < v.0.place) told.roots i j p.0 q.0 told.by_place p.1 q.1
                lt,
          )))
          (λ (ge : j ≤ i).
          ⊎_elim (λ (lt : j < i). absurd
          (omega (
            arith,
            place,
            pair-of (λ u v. u.0.place < v.0.place) told.roots j i q.0 p.0 told.by_place q.1 p.1
                lt,
          )))
          (λ (le : i ≤ j). omega (arith, ge, le)) (cases_lt j i))
          (cases_lt i j)

      in-report : (x : RootId × Watch) (k : ℕ) → slice_get told.roots k ≡ Some x → In (told_leak x) leaks
      in-report x k e =
          contains-in leaks (told_leak x)
          (Contains-permutation (map leak_for live) leaks (told_leak x) report.same
          (in-contains (map leak_for live) (told_leak x)
          (subst (λ ls. In (told_leak x) ls) (sym all-leaks) (k, map_at told_leak told.roots k x e))))

      of-report : (l : Leak) → In l leaks → (x : RootId × Watch) × (k : ℕ) × (slice_get told.roots k ≡ Some x)
          × (told_leak x ≡ l)
      of-report l i =
          let c = contains-in (map leak_for live) l
          (Contains-permutation leaks (map leak_for live) l (IsPermutation-sym (map leak_for live) leaks report.same)
          (in-contains leaks l i)) in
          let at : slice_get (map told_leak told.roots) c.0 ≡ Some l = ap (λ ls. slice_get ls c.0) (sym all-leaks)
          ∙ c.1 in
          let m = in_map told_leak told.roots c.0 l at in
          (m.0, c.0, m.1, m.2)

      pub leaks-are : leaks ≡ leaks_of shape logs
      leaks-are =
          same-leaks leaks (leaks_of shape logs) (ascends leaks report.sorted rising) (lanes-ascend shape logs 0 logs)
          down up
        where
          rising : OnceEach leaks
          rising = once-permuted (map leak_for live) leaks report.same (subst OnceEach (sym all-leaks) once)

          down : (l : Leak) → In l leaks → In l (leaks_of shape logs)
          down l i =
              let r = of-report l i in
              let lv = root-live r.1 r.0 r.2 in
              let b = was-born r.0 lv.watched in
              let lane : b.lane ≡ 0 + b.lane = omega arith in
              subst (λ z. In z (leaks_of shape logs)) (sym (reported r.0 b) ∙ r.3)
              (lanes-have shape logs 0 logs b.lane (leak_of shape.level logs b.lane (1 + b.nth) r.0.0)
              (subst (λ n. In (leak_of shape.level logs b.lane (1 + b.nth) r.0.0)
              (lane_leaks shape logs n 1 (births (of_lane logs b.lane)))) lane
              (lane-has shape logs b.lane 1 (births (of_lane logs b.lane)) b.nth r.0.0 b.born lv.live b.was_sampled)))

          up : (l : Leak) → In l (leaks_of shape logs) → In l leaks
          up l i =
              let m = in-lanes shape logs 0 logs l i in
              let x : RootId × Watch = (m.of.root, watch_at m.place m.of.nth) in
              let w = watched m.place m.of.nth m.of.root m.of.born m.of.sampled in
              let at = told.all x (record { watched = w; live = m.of.live }) in
              let b : IsBorn x = record {
                lane = m.place;
                nth = m.of.nth;
                born = m.of.born;
                was_sampled =
                    m.of.sampled;
                watch = refl;
              } in
              let lane : m.place ≡ 0 + m.place = omega arith in
              subst (λ z. In z leaks) (reported x b ∙ ap (λ n. leak_of shape.level logs n (1 + m.of.nth) m.of.root) lane
              ∙ sym m.of.is) (in-report x at.0 at.1)
