-- What ends at a root place was born there.
use Rattle.std.proofs.Common.{length-append, ◌≡◌, ℕ, suc, ◌+◌, ◌-◌, ◌≤◌, List, [], ◌∷◌, ◌++◌, length, take, refl, sym, ap, subst, arith, Some, None, ◌∙◌}
use Rattle.std.specs.Prelude.{Option, option_and_then, slice_get}
use Rattle.pool_law.specs.declared.id.RegionId.{RegionId}
use Rattle.pool_law.specs.declared.note.Object.{Object}
use Rattle.pool_law.specs.declared.note.Did.{Did}
use Rattle.pool_law.specs.declared.note.Did.TheVariants.{Birth, Grow, End}
use Rattle.pool_law.specs.declared.note.Note.{Note}
use Rattle.pool_law.specs.declared.note.Note.TheVariants.{At}
use Rattle.pool_law.specs.Same.{same_region, same_root}
use Rattle.pool_law.specs.Roots.{RootPlace, Present, new_place, place_step, place_step_by}
use Rattle.pool_law.specs.Histories.{after, place_after}
use Rattle.pool_law.specs.Logs.{Logs, dids, of_lane, history_of, present_in, present_before, region_for}
use Rattle.run_laws.specs.CacheCounts.{one_of}
use Rattle.run_laws.specs.HandCounts.{one_same, ended_by}
use Rattle.run_laws.proofs.PlaceLaw.{place_step-does, Births, Grows, Stays}
use Rattle.pool_law.proofs.HistoryLemmas.{append-assoc, after-push}
use Rattle.pool_law.proofs.ListLemmas.{front-is}
use Rattle.run_laws.proofs.Sums.{sum_by, sum_over}
use Rattle.run_laws.proofs.Numbered.{plain, Weight, total_from}
use Rattle.std.proofs.lemmas.Bool.{cond_both}
use Rattle.run_laws.proofs.Totals.{born_by}

-- the region that is present at a place
abbrev pub here_is : RegionId → Option Present → ℕ
here_is r None = 0
here_is r (Some p) = one_of (same_region r p.region)

abbrev pub births_of : RegionId → Did → ℕ
births_of r d = born_by r None d

module _ (logs : Logs) (place : ℕ) (r : RegionId) where
  -- what ends at a place, with the region that is present
  abbrev pub ends_of : Weight
  ends_of k d = ended_by r (region_for d (present_before logs place k)) d

  pub step-ends : (s t : RootPlace) (d : Did) → place_step place s d ≡ Some t
      → ended_by r (region_for d s.present) d + here_is r t.present ≤ here_is r s.present + births_of r d
  step-ends s t (Birth root x) e =
      let does : Births place s t root x = place_step-does place s t (Birth root x) e in
      go t.present does.present
    where
      go : (o : Option Present) → ((p : Present) → o ≡ Some p → (p.root ≡ root) × (p.region ≡ x))
          → 0 + here_is r o ≤ here_is r s.present + one_of (same_region r x)
      go None f = omega arith
      go (Some p) f = omega (arith, ap (λ y. one_of (same_region r y)) (f p refl).1)
  step-ends s t (End root) e = go s.present refl e
    where
      go : (o : Option Present) → s.present ≡ o → place_step_by place s o (End root) ≡ Some t
          → ended_by r (region_for (End root) o) (End root) + here_is r t.present ≤ here_is r o + 0
      go None here is = absurd (cc is)
      go (Some p) here is =
          cond_both (same_root root p.root) (Some (record s { present = None })) None
          (λ z. z ≡ Some t → one_same r (Some p.region) + here_is r t.present ≤ here_is r (Some p) + 0)
          (λ _ e. let same : record s { present = None }
          ≡ t =
          cc e in subst (λ y. one_same r (Some p.region) + here_is r y.present ≤ here_is r (Some p) + 0) same
          (omega arith))
          (λ _ e. absurd (cc e))
          is
  step-ends s t (Grow c x) e =
      let does : Grows s t x = place_step-does place s t (Grow c x) e in
      go s.present does.there_is t.present does.present
    where
      go : (b : Option Present) → {there : Present} → b ≡ Some there → (o : Option Present)
          → ((p : Present) → o ≡ Some p → (p.root ≡ there.root) × (p.region ≡ x))
          → ended_by r (region_for (Grow c x) b) (Grow c x) + here_is r o ≤ here_is r b + one_of (same_region r x)
      go None here o f = absurd (cc here)
      go (Some q) here None f = omega arith
      go (Some q) here (Some p) f = omega (arith, ap (λ y. one_of (same_region r y)) (f p refl).1)
  step-ends s t _ e =
      let does : Stays s t = place_step-does place s t _ e in
      go t.present does.present
    where
      go : (o : Option Present) → ((p : Present) → o ≡ Some p
          → (q : Present) × (s.present ≡ Some q) × (p.root ≡ q.root) × (p.region ≡ q.region))
          → 0 + here_is r o ≤ here_is r s.present + 0
      go None f = omega arith
      go (Some p) f =
          let q : (q : Present) × (s.present ≡ Some q) × (p.root ≡ q.root) × (p.region ≡ q.region) = f p refl in
          omega (arith, ap (here_is r) q.1, ap (λ y. one_of (same_region r y)) q.3)

  pub ends-below : (pre rest : List Did) (s t : RootPlace) → pre ++ rest ≡ dids (history_of (Object.Root place) logs)
      → place_after place pre ≡ Some s → after (place_step place) s rest ≡ Some t →
      total_from ends_of (1 + length pre) rest + here_is r t.present ≤ here_is r s.present + total_from
      (plain (births_of r)) (1 + length pre) rest
  ends-below pre [] s t split before e = let same : s ≡ t = cc e in omega (arith, ap (λ y. here_is r y.present) same)
  ends-below pre (d ∷ rest) s t split before e =
      go (place_step place s d) refl e (λ m same longer more. ends-below (pre ++ d ∷ []) rest m t same longer more)
    where
      go : (o : Option RootPlace) → place_step place s d ≡ o
          → option_and_then (λ m. after (place_step place) m rest) o ≡ Some t →
          ((m : RootPlace) → (pre ++ d ∷ []) ++ rest ≡ dids (history_of (Object.Root place) logs)
          → place_after place (pre ++ d ∷ []) ≡ Some m → after (place_step place) m rest ≡ Some t →
          total_from ends_of (1 + length (pre ++ d ∷ [])) rest + here_is r t.present ≤ here_is r m.present + total_from
          (plain (births_of r)) (1 + length (pre ++ d ∷ [])) rest) →
          total_from ends_of (1 + length pre) (d ∷ rest) + here_is r t.present ≤ here_is r s.present + total_from
          (plain (births_of r)) (1 + length pre) (d ∷ rest)
      go None here more again = absurd (cc more)
      go (Some m) here more again =
          let number : (1 + length pre) - 1 ≡ length pre = omega arith in
          let now : present_before logs place (1 + length pre) ≡ s.present =
          ap (λ n. present_in (place_after place (take n (dids (history_of (Object.Root place) logs))))) number
          ∙ ap (λ xs. present_in (place_after place (take (length pre) xs))) (sym split)
          ∙ ap (λ xs. present_in (place_after place xs)) (front-is pre (d ∷ rest))
          ∙ ap present_in before in
          let step : ended_by r (region_for d s.present) d + here_is r m.present ≤ here_is r s.present + births_of r d =
          step-ends s m d here in
          let longer : place_after place (pre ++ d ∷ []) ≡ Some m = after-push (place_step place) new_place pre d
          ∙ ap (option_and_then (λ t. place_step place t d)) before ∙ here in
          let ih : total_from ends_of (1 + length (pre ++ d ∷ [])) rest + here_is r t.present ≤ here_is r m.present
          + total_from (plain (births_of r)) (1 + length (pre ++ d ∷ [])) rest =
          again m (append-assoc pre (d ∷ []) rest ∙ split) longer more in
          let count : 1 + length (pre ++ d ∷ []) ≡ 1 + length pre + 1 = omega (arith, length-append pre (d ∷ [])) in
          let moved : total_from ends_of (1 + length pre + 1) rest + here_is r t.present ≤ here_is r m.present
          + total_from (plain (births_of r)) (1 + length pre + 1) rest =
          subst (λ n. total_from ends_of n rest + here_is r t.present ≤ here_is r m.present + total_from
          (plain (births_of r)) n rest) count ih in
          omega (arith, moved, step, ap (λ o. ended_by r (region_for d o) d) now)

abbrev pub place_number : Note → ℕ
place_number (At (Object.Root p) n d) = p
place_number _ = 0

pub born-alike : (r : RegionId) (d : Did) (t : Option RegionId) → births_of r d ≡ born_by r t d
born-alike r (Birth root x) t = refl
born-alike r _ t = refl

pub none-ended : (r : RegionId) (d : Did) → ended_by r None d ≡ 0
none-ended r (End root) = refl
none-ended r _ = refl

pub over-less-at : {X : Type 0} (f g : X → ℕ) (logs : List (List X))
    → ((lane i : ℕ) (x : X) → slice_get (of_lane logs lane) i ≡ Some x → f x ≤ g x) → sum_over f logs ≤ sum_over g logs
over-less-at f g [] h = omega arith
over-less-at {X = X} f g (xs ∷ logs) h =
    omega (arith, one xs (λ i x is. h 0 i x is), over-less-at f g logs (λ lane i x is. h (suc lane) i x is))
  where
    one : (xs : List X) → ((i : ℕ) (x : X) → slice_get xs i ≡ Some x → f x ≤ g x) → sum_by f xs ≤ sum_by g xs
    one [] h = omega arith
    one (x ∷ xs) h = omega (arith, h 0 x refl, one xs (λ i y is. h (suc i) y is))
