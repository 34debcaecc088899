-- What the law reports: by lane and serial, and none twice.
use Rattle.std.proofs.Common.{⊎_elim, inl, inr, ◌≡◌, ℕ, zero, suc, ◌+◌, List, [], ◌∷◌, ◌++◌, refl, sym, ap, subst, arith, Bool, true, false, Some, ◌∙◌}
use Rattle.std.specs.Prelude.{◌&&◌, if◌then◌else◌, slice_get}
use Rattle.std.proofs.lemmas.Bool.{cond_both}
use Rattle.pool_law.specs.declared.id.RootId.{RootId}
use Rattle.pool_law.specs.declared.report.Leak.{Leak}
use Rattle.pool_law.specs.declared.run.Shape.{Shape}
use Rattle.pool_law.specs.Leaks.{births, is_sampled, leak_of, is_live, lane_leaks, leaks_from}
use Rattle.pool_law.specs.Logs.{Logs, of_lane}
use Rattle.pool_law.proofs.PatternLemmas.{both_true}
use Rattle.pool_law.proofs.SameLemmas.{and-first, and-second}
use Rattle.lane_core.proofs.PlayedReport.{In, in-append, in-left, in-right, IsBefore, Ascends}

-- ---- What the law reports.

-- a leak of the roots born in a lane from a serial on
pub record IsLeakOf (shape : Shape) (logs : Logs) (lane serial : ℕ) (roots : List RootId) (leak : Leak) : Type 0 where
  pub nth : ℕ
  pub root : RootId
  pub born : slice_get roots nth ≡ Some root
  pub live : is_live logs root ≡ true
  pub sampled : is_sampled shape.level shape.interval (serial + nth) ≡ true
  pub is : leak ≡ leak_of shape.level logs lane (serial + nth) root

abbrev first_leak : Shape → Logs → ℕ → ℕ → RootId → List Leak
first_leak shape logs lane serial root =
    if is_live logs root && is_sampled shape.level shape.interval serial then leak_of shape.level logs lane serial root
    ∷ [] else []

in-lane : (shape : Shape) (logs : Logs) (lane serial : ℕ) (roots : List RootId) (leak : Leak)
    → In leak (lane_leaks shape logs lane serial roots) → IsLeakOf shape logs lane serial roots leak
in-lane shape logs lane serial [] leak (k, e) = absurd (cc e)
in-lane shape logs lane serial (root ∷ roots) leak i =
    ⊎_elim (λ (here : In leak (first_leak shape logs lane serial root)). first (cases here))
    (λ (more : In leak (lane_leaks shape logs lane (serial + 1) roots)). later
    (in-lane shape logs lane (serial + 1) roots leak more))
    (in-append leak (first_leak shape logs lane serial root) (lane_leaks shape logs lane (serial + 1) roots) i)
  where
    cases : In leak (first_leak shape logs lane serial root)
        → ((is_live logs root && is_sampled shape.level shape.interval serial) ≡ true)
        × (leak_of shape.level logs lane serial root ≡ leak)
    cases here = go (is_live logs root && is_sampled shape.level shape.interval serial) refl here
      where
        go : (b : Bool) → (is_live logs root && is_sampled shape.level shape.interval serial) ≡ b
            → In leak (if b then leak_of shape.level logs lane serial root ∷ [] else []) →
            ((is_live logs root && is_sampled shape.level shape.interval serial) ≡ true)
            × (leak_of shape.level logs lane serial root ≡ leak)
        go true e (zero, x) = (e, cc x)
        go true e (suc k, x) = absurd (cc x)
        go false e (k, x) = absurd (cc x)

    first : ((is_live logs root && is_sampled shape.level shape.interval serial) ≡ true)
        × (leak_of shape.level logs lane serial root ≡ leak) → IsLeakOf shape logs lane serial (root ∷ roots) leak
    first c =
        let same : serial ≡ serial + 0 = omega arith in
        record {
          nth = 0;
          root = root;
          born = refl;
          live = and-first (is_live logs root) (is_sampled shape.level shape.interval serial) c.0;
          sampled =
              subst (λ n. is_sampled shape.level shape.interval n ≡ true) same
              (and-second (is_live logs root) (is_sampled shape.level shape.interval serial) c.0);
          is = sym c.1 ∙ ap (λ n. leak_of shape.level logs lane n root) same;
        }

    later : IsLeakOf shape logs lane (serial + 1) roots leak → IsLeakOf shape logs lane serial (root ∷ roots) leak
    later l =
        let same : serial + 1 + l.nth ≡ serial + suc l.nth = omega arith in
        record {
          nth = suc l.nth;
          root = l.root;
          born = l.born;
          live = l.live;
          sampled = subst (λ n. is_sampled shape.level shape.interval n ≡ true) same l.sampled;
          is = l.is ∙ ap (λ n. leak_of shape.level logs lane n l.root) same;
        }

has-one : (b : Bool) (l : Leak) → b ≡ true → In l (if b then l ∷ [] else [])
has-one true l e = (0, refl)
has-one false l e = absurd (cc e)

pub lane-has : (shape : Shape) (logs : Logs) (lane serial : ℕ) (roots : List RootId) (nth : ℕ) (root : RootId)
    → slice_get roots nth ≡ Some root → is_live logs root ≡ true →
    is_sampled shape.level shape.interval (serial + nth) ≡ true
    → In (leak_of shape.level logs lane (serial + nth) root) (lane_leaks shape logs lane serial roots)
lane-has shape logs lane serial [] nth root e live sampled = absurd (cc e)
lane-has shape logs lane serial (r ∷ roots) zero root e live sampled =
    let here : r ≡ root = cc e in
    let same : serial + 0 ≡ serial = omega arith in
    let sampled_is : is_sampled shape.level shape.interval serial
    ≡ true = subst (λ n. is_sampled shape.level shape.interval n ≡ true) same sampled in
    let live_is : is_live logs r ≡ true = subst (λ x. is_live logs x ≡ true) (sym here) live in
    let one : In (leak_of shape.level logs lane serial r) (first_leak shape logs lane serial r) =
    has-one (is_live logs r && is_sampled shape.level shape.interval serial) (leak_of shape.level logs lane serial r)
    (both_true (is_live logs r) (is_sampled shape.level shape.interval serial) live_is sampled_is) in
    subst (λ x. In x (lane_leaks shape logs lane serial (r ∷ roots)))
    (ap (λ x. leak_of shape.level logs lane serial x) here
    ∙ ap (λ n. leak_of shape.level logs lane n root) (sym same))
    (in-left (leak_of shape.level logs lane serial r) (first_leak shape logs lane serial r)
    (lane_leaks shape logs lane (serial + 1) roots) one)
lane-has shape logs lane serial (r ∷ roots) (suc nth) root e live sampled =
    let same : serial + suc nth ≡ serial + 1 + nth = omega arith in
    in-right (leak_of shape.level logs lane (serial + suc nth) root) (first_leak shape logs lane serial r)
    (lane_leaks shape logs lane (serial + 1) roots)
    (subst (λ n. In (leak_of shape.level logs lane n root) (lane_leaks shape logs lane (serial + 1) roots)) (sym same)
    (lane-has shape logs lane (serial + 1) roots nth root e live
    (subst (λ n. is_sampled shape.level shape.interval n ≡ true) same sampled)))

-- a leak of the lanes from one on
pub record IsLeakFrom (shape : Shape) (logs : Logs) (lane : ℕ) (rest : Logs) (leak : Leak) : Type 0 where
  pub place : ℕ
  pub of : IsLeakOf shape logs (lane + place) 1 (births (of_lane rest place)) leak

pub in-lanes : (shape : Shape) (logs : Logs) (lane : ℕ) (rest : Logs) (leak : Leak)
    → In leak (leaks_from shape logs lane rest) → IsLeakFrom shape logs lane rest leak
in-lanes shape logs lane [] leak (k, e) = absurd (cc e)
in-lanes shape logs lane (log ∷ rest) leak i =
    ⊎_elim
    (λ (here : In leak (lane_leaks shape logs lane 1 (births log))).
    let same : lane ≡ lane + 0 = omega arith in
    record {
      place = 0;
      of = subst (λ n. IsLeakOf shape logs n 1 (births log) leak) same
          (in-lane shape logs lane 1 (births log) leak here);
    })
    (λ (more : In leak (leaks_from shape logs (lane + 1) rest)).
    let l = in-lanes shape logs (lane + 1) rest leak more in
    let same : lane + 1 + l.place ≡ lane + suc l.place = omega arith in
    record {
      place = suc l.place;
      of = subst (λ n. IsLeakOf shape logs n 1 (births (of_lane rest l.place)) leak) same
          l.of;
    })
    (in-append leak (lane_leaks shape logs lane 1 (births log)) (leaks_from shape logs (lane + 1) rest) i)

pub lanes-have : (shape : Shape) (logs : Logs) (lane : ℕ) (rest : Logs) (place : ℕ) (leak : Leak)
    → In leak (lane_leaks shape logs (lane + place) 1 (births (of_lane rest place)))
    → In leak (leaks_from shape logs lane rest)
lanes-have shape logs lane [] place (leak) (k, e) = absurd (cc e)
lanes-have shape logs lane (log ∷ rest) zero leak i =
    let same : lane + 0 ≡ lane = omega arith in
    in-left leak (lane_leaks shape logs lane 1 (births log)) (leaks_from shape logs (lane + 1) rest)
    (subst (λ n. In leak (lane_leaks shape logs n 1 (births log))) same i)
lanes-have shape logs lane (log ∷ rest) (suc place) leak i =
    let same : lane + suc place ≡ lane + 1 + place = omega arith in
    in-right leak (lane_leaks shape logs lane 1 (births log)) (leaks_from shape logs (lane + 1) rest)
    (lanes-have shape logs (lane + 1) rest place leak
    (subst (λ n. In leak (lane_leaks shape logs n 1 (births (of_lane rest place)))) same i))

-- they ascend
ascends-append : (xs ys : List Leak) → Ascends xs → Ascends ys → ((x y : Leak) → In x xs → In y ys → IsBefore x y)
    → Ascends (xs ++ ys)
ascends-append [] ys a b f = b
ascends-append (x ∷ xs) ys a b f = (
  λ y i. ⊎_elim (λ (j : In y xs). a.0 y j) (λ (j : In y ys). f x y (0, refl) j) (in-append y xs ys i),
  ascends-append xs ys a.1 b (λ z y i j. f z y (suc i.0, i.1) j),
)

lane-ascends : (shape : Shape) (logs : Logs) (lane serial : ℕ) (roots : List RootId)
    → Ascends (lane_leaks shape logs lane serial roots)
lane-ascends shape logs lane serial [] = tt
lane-ascends shape logs lane serial (root ∷ roots) =
    cond_both (is_live logs root && is_sampled shape.level shape.interval serial)
    (leak_of shape.level logs lane serial root ∷ []) []
    (λ z. Ascends (z ++ lane_leaks shape logs lane (serial + 1) roots))
    (λ _. (
      λ y i. let l = in-lane shape logs lane (serial + 1) roots y i in
          inr (sym (ap (λ x. x.lane) l.is), omega (arith, ap (λ x. x.serial) l.is)),
      lane-ascends shape logs lane
          (serial + 1) roots,
    ))
    (λ _. lane-ascends shape logs lane (serial + 1) roots)

pub lanes-ascend : (shape : Shape) (logs : Logs) (lane : ℕ) (rest : Logs) → Ascends (leaks_from shape logs lane rest)
lanes-ascend shape logs lane [] = tt
lanes-ascend shape logs lane (log ∷ rest) =
    ascends-append (lane_leaks shape logs lane 1 (births log)) (leaks_from shape logs (lane + 1) rest)
    (lane-ascends shape logs lane 1 (births log)) (lanes-ascend shape logs (lane + 1) rest)
    (λ x y i j.
    let l = in-lane shape logs lane 1 (births log) x i in let m = in-lanes shape logs (lane + 1) rest y j in
    inl (omega (arith, ap (λ z. z.lane) l.is, ap (λ z. z.lane) m.of.is)))
