-- The report lists exactly the sampled roots that were never freed, by lane and serial.
use Rattle.std.proofs.Common.{⊎_elim, inl, inr, ◌≡◌, ℕ, zero, suc, ◌+◌, List, [], ◌∷◌, ◌++◌, length, refl, sym, ap, arith, Bool, true, false, Some, ◌∙◌}
use Rattle.std.specs.Prelude.{◌⊎◌, ◌<◌, ◌&&◌, if◌then◌else◌, slice_get}
use Rattle.pool_law.specs.declared.id.RootId.{RootId}
use Rattle.pool_law.specs.declared.id.RegionId.{RegionId}
use Rattle.pool_law.specs.declared.note.Object.{Object}
use Rattle.pool_law.specs.declared.note.Did.TheVariants.{Birth}
use Rattle.pool_law.specs.declared.note.Note.{Note}
use Rattle.pool_law.specs.declared.note.Note.TheVariants.{At}
use Rattle.pool_law.specs.declared.report.Leak.{Leak}
use Rattle.pool_law.specs.declared.run.Shape.{Shape}
use Rattle.pool_law.specs.Logs.{Logs}
use Rattle.pool_law.specs.Leaks.{births, is_sampled, is_live, leak_of, lane_leaks, leaks_from}
use Rattle.pool_law.proofs.SameLemmas.{and-first, and-second}
use Rattle.pool_law.proofs.ListLemmas.{slice_get-below, get-front, get-split}
use Rattle.pool_law.proofs.PatternLemmas.{both_true}
use Rattle.run_laws.specs.Reported.{ComesBefore}
use Rattle.run_laws.proofs.ActPlaces.{get-behind}

-- what is born in a log stands there
pub birth-there : (log : List Note) (n : ℕ) (root : RootId) → slice_get (births log) n ≡ Some root
    → (i : ℕ) × (o : Object) × (k : ℕ) × (r : RegionId) × (slice_get log i ≡ Some (At o k (Birth root r)))
birth-there [] n root e = absurd (cc e)
birth-there (At o k (Birth born r) ∷ ns) zero root e =
    let same : born ≡ root = cc e in (0, o, k, r, ap (λ x. Some (At o k (Birth x r))) same)
birth-there (At o k (Birth born r) ∷ ns) (suc n) root e =
    let f = birth-there ns n root e in (suc f.0, f.1, f.2, f.3, f.4)
birth-there (_ ∷ ns) n root e = let f = birth-there ns n root e in (suc f.0, f.1, f.2, f.3, f.4)

-- the roots of a lane, of which the first has this serial: what is reported of one of them
pub record Reported (shape : Shape) (logs : Logs) (lane from : ℕ) (roots : List RootId) (leak : Leak) : Type 0 where
  pub root : RootId
  pub order : ℕ
  pub there : slice_get roots order ≡ Some root
  pub serial : ℕ
  pub serial_is : serial ≡ from + order
  pub live : is_live logs root ≡ true
  pub sampled : is_sampled shape.level shape.interval serial ≡ true
  pub told : leak ≡ leak_of shape.level logs lane serial root

pub record Listed (shape : Shape) (logs : Logs) (from : ℕ) (rest : Logs) (leak : Leak) : Type 0 where
  pub order : ℕ
  pub log : List Note
  pub there : slice_get rest order ≡ Some log
  pub lane : ℕ
  pub lane_is : lane ≡ from + order
  pub reported : Reported shape logs lane 1 (births log) leak

module _ (shape : Shape) (logs : Logs) where
  pub lane-only : (lane from : ℕ) (roots : List RootId) (i : ℕ) (leak : Leak)
      → slice_get (lane_leaks shape logs lane from roots) i ≡ Some leak → Reported shape logs lane from roots leak
  lane-only lane from [] i leak e = absurd (cc e)
  lane-only lane from (root ∷ roots) i leak e =
      go (is_live logs root && is_sampled shape.level shape.interval from) refl i e
      (λ m is. later (lane-only lane (from + 1) roots m leak is))
    where
      later : Reported shape logs lane (from + 1) roots leak → Reported shape logs lane from (root ∷ roots) leak
      later r =
          record {
            root = r.root;
            order = suc r.order;
            there = r.there;
            serial = r.serial;
            serial_is =
                omega (arith, r.serial_is);
            live = r.live;
            sampled = r.sampled;
            told = r.told;
          }

      go : (b : Bool) → (is_live logs root && is_sampled shape.level shape.interval from) ≡ b → (i : ℕ) →
          slice_get ((if b then leak_of shape.level logs lane from root ∷ [] else []) ++ lane_leaks shape logs lane
          (from + 1) roots) i ≡ Some leak →
          ((m : ℕ) → slice_get (lane_leaks shape logs lane (from + 1) roots) m ≡ Some leak
          → Reported shape logs lane from (root ∷ roots) leak) → Reported shape logs lane from (root ∷ roots) leak
      go true test zero is rest =
          record {
            root = root;
            order = 0;
            there = refl;
            serial = from;
            serial_is = omega arith;
            live = and-first (is_live logs root) (is_sampled shape.level shape.interval from) test;
            sampled = and-second (is_live logs root) (is_sampled shape.level shape.interval from) test;
            told = sym (cc is);
          }
      go true test (suc i) is rest = rest i is
      go false test i is rest = rest i is

  pub leaks-only : (from : ℕ) (rest : Logs) (i : ℕ) (leak : Leak)
      → slice_get (leaks_from shape logs from rest) i ≡ Some leak → Listed shape logs from rest leak
  leaks-only from [] i leak e = absurd (cc e)
  leaks-only from (log ∷ rest) i leak e =
      ⊎_elim
      (λ here. record {
        order = 0;
        log = log;
        there = refl;
        lane = from;
        lane_is = omega arith;
        reported =
            lane-only from 1 (births log) i leak here;
      })
      (λ m. later (leaks-only (from + 1) rest m.0 leak m.2))
      (get-split (lane_leaks shape logs from 1 (births log)) (leaks_from shape logs (from + 1) rest) i leak e)
    where
      later : Listed shape logs (from + 1) rest leak → Listed shape logs from (log ∷ rest) leak
      later l =
          record {
            order = suc l.order;
            log = l.log;
            there = l.there;
            lane = l.lane;
            lane_is =
                omega (arith, l.lane_is);
            reported = l.reported;
          }

  pub lane-all : (lane from : ℕ) (roots : List RootId) (leak : Leak) → Reported shape logs lane from roots leak
      → (i : ℕ) × (slice_get (lane_leaks shape logs lane from roots) i ≡ Some leak)
  lane-all lane from roots leak r = go from roots r.order r.there r.serial_is
    where
      go : (from : ℕ) (roots : List RootId) (order : ℕ) → slice_get roots order ≡ Some r.root → r.serial ≡ from + order
          → (i : ℕ) × (slice_get (lane_leaks shape logs lane from roots) i ≡ Some leak)
      go from [] order there serial = absurd (cc there)
      go from (root ∷ roots) zero there serial =
          let same : root ≡ r.root = cc there in
          let number : r.serial ≡ from = omega (arith, serial) in
          let test : (is_live logs root && is_sampled shape.level shape.interval from) ≡ true =
          both_true (is_live logs root) (is_sampled shape.level shape.interval from) (ap (is_live logs) same ∙ r.live)
          (ap (is_sampled shape.level shape.interval) (sym number) ∙ r.sampled) in
          let told : leak_of shape.level logs lane from root
          ≡ leak = (λ k. leak_of shape.level logs lane (sym number k) (same k)) ∙ sym r.told in (
            0,
            ap (λ b. slice_get ((if b then leak_of shape.level logs lane from root ∷ [] else []) ++ lane_leaks shape
                logs lane (from + 1) roots) 0) test ∙ ap (λ x. Some x) told,
          )
      go from (root ∷ roots) (suc order) there serial =
          let m = go (from + 1) roots order there (omega (arith, serial)) in
          get-behind (if is_live logs root && is_sampled shape.level shape.interval from then leak_of shape.level logs
          lane from root ∷ [] else []) (lane_leaks shape logs lane (from + 1) roots) m.0 leak m.1

  pub leaks-all : (from : ℕ) (rest : Logs) (leak : Leak) → Listed shape logs from rest leak
      → (i : ℕ) × (slice_get (leaks_from shape logs from rest) i ≡ Some leak)
  leaks-all from rest leak l = go from rest l.order l.there l.lane_is
    where
      go : (from : ℕ) (rest : Logs) (order : ℕ) → slice_get rest order ≡ Some l.log → l.lane ≡ from + order
          → (i : ℕ) × (slice_get (leaks_from shape logs from rest) i ≡ Some leak)
      go from [] order there lane = absurd (cc there)
      go from (log ∷ rest) zero there lane =
          let same : l.log ≡ log = sym (cc there) in
          let number : l.lane ≡ from = omega (arith, lane) in
          let m = lane-all l.lane 1 (births l.log) leak l.reported in (
            m.0,
            get-front (lane_leaks shape logs from 1 (births log)) (leaks_from shape logs (from + 1) rest) m.0 leak
                (ap (λ xs. slice_get xs m.0) (λ k. lane_leaks shape logs (sym number k) 1 (births (sym same k))) ∙ m.1),
          )
      go from (log ∷ rest) (suc order) there lane =
          let m = go (from + 1) rest order there (omega (arith, lane)) in
          get-behind (lane_leaks shape logs from 1 (births log)) (leaks_from shape logs (from + 1) rest) m.0 leak m.1

  -- what is reported of a lane comes by serial, and the lanes come in order
  pub lane-order : (lane from : ℕ) (roots : List RootId) (i j : ℕ) (a b : Leak)
      → slice_get (lane_leaks shape logs lane from roots) i ≡ Some a
      → slice_get (lane_leaks shape logs lane from roots) j ≡ Some b → i < j → a.serial < b.serial
  lane-order lane from [] i j a b e d less = absurd (cc e)
  lane-order lane from (root ∷ roots) i j a b e d less =
      go (is_live logs root && is_sampled shape.level shape.interval from) i j e d less
      (λ m n x y. lane-order lane (from + 1) roots m n a b x y)
    where
      past : (m : ℕ) (x : Leak) → slice_get (lane_leaks shape logs lane (from + 1) roots) m ≡ Some x → from < x.serial
      past m x is =
          let r = lane-only lane (from + 1) roots m x is in omega (arith, ap (λ y. y.serial) r.told, r.serial_is)

      go : (test : Bool) (i j : ℕ) → slice_get
          ((if test then leak_of shape.level logs lane from root ∷ [] else []) ++ lane_leaks shape logs lane (from + 1)
          roots) i ≡ Some a →
          slice_get ((if test then leak_of shape.level logs lane from root ∷ [] else []) ++ lane_leaks shape logs lane
          (from + 1) roots) j ≡ Some b → i < j →
          ((m n : ℕ) → slice_get (lane_leaks shape logs lane (from + 1) roots) m ≡ Some a
          → slice_get (lane_leaks shape logs lane (from + 1) roots) n ≡ Some b → m < n → a.serial < b.serial)
          → a.serial < b.serial
      go true i zero e d less rest = absurd (omega (arith, less))
      go true zero (suc j) e d less rest =
          let first : leak_of shape.level logs lane from root ≡ a = cc e in
          omega (arith, past j b d, ap (λ y. y.serial) first)
      go true (suc i) (suc j) e d less rest = rest i j e d (omega (arith, less))
      go false i j e d less rest = rest i j e d less

  pub leaks-order : (from : ℕ) (rest : Logs) (i j : ℕ) (a b : Leak)
      → slice_get (leaks_from shape logs from rest) i ≡ Some a → slice_get (leaks_from shape logs from rest) j ≡ Some b
      → i < j → ComesBefore a b
  leaks-order from [] i j a b e d less = absurd (cc e)
  leaks-order from (log ∷ rest) i j a b e d less =
      ⊎_elim
      (λ x. ⊎_elim (λ y. inr (here i a x ∙ sym (here j b y), lane-order from 1 (births log) i j a b x y less))
      (λ y. inl (omega (arith, here i a x, past y.0 b y.2))) second)
      (λ x. ⊎_elim (λ y. absurd (omega (arith, inside j b y, x.1, less)))
      (λ y. leaks-order (from + 1) rest x.0 y.0 a b x.2 y.2 (omega (arith, less, x.1, y.1))) second)
      (get-split (lane_leaks shape logs from 1 (births log)) (leaks_from shape logs (from + 1) rest) i a e)
    where
      second : (slice_get (lane_leaks shape logs from 1 (births log)) j ≡ Some b)
          ⊎ ((m : ℕ) × (j ≡ length (lane_leaks shape logs from 1 (births log)) + m)
          × (slice_get (leaks_from shape logs (from + 1) rest) m ≡ Some b))
      second = get-split (lane_leaks shape logs from 1 (births log)) (leaks_from shape logs (from + 1) rest) j b d

      here : (m : ℕ) (x : Leak) → slice_get (lane_leaks shape logs from 1 (births log)) m ≡ Some x → x.lane ≡ from
      here m x is = let r = lane-only from 1 (births log) m x is in ap (λ y. y.lane) r.told

      past : (m : ℕ) (x : Leak) → slice_get (leaks_from shape logs (from + 1) rest) m ≡ Some x → from < x.lane
      past m x is =
          let l = leaks-only (from + 1) rest m x is in omega (arith, ap (λ y. y.lane) l.reported.told, l.lane_is)

      inside : (m : ℕ) (x : Leak) → slice_get (lane_leaks shape logs from 1 (births log)) m ≡ Some x
          → m < length (lane_leaks shape logs from 1 (births log))
      inside m x is = slice_get-below (lane_leaks shape logs from 1 (births log)) m x is
