-- At a root place each use that began has ended, or its root is present at the end.
use Rattle.std.proofs.Common.{length-append, ◌≡◌, ℕ, zero, suc, ◌+◌, ◌≤◌, List, [], ◌∷◌, ◌++◌, length, take, refl, sym, ap, subst, arith, Some, None, ◌∙◌}
use Rattle.std.specs.Prelude.{◌-◌, ◌==◌, ◌&&◌, ◌||◌, nat_lt, nat_le, Option, option_and_then, slice_get}
use Rattle.pool_law.specs.declared.id.RegionId.{RegionId}
use Rattle.pool_law.specs.declared.note.Object.{Object}
use Rattle.pool_law.specs.declared.note.Did.{Did}
use Rattle.pool_law.specs.declared.note.Did.TheVariants.{Birth, Set, Get, Touch, Room, Extend, Grow, End}
use Rattle.pool_law.specs.Same.{same_region, same_root, same_bytes}
use Rattle.pool_law.specs.Roots.{RootPlace, Present, new_place, born, may_be_born, with_bytes, zeros_to, laid_over, bytes_at, place_step, place_step_by}
use Rattle.pool_law.specs.Histories.{after, place_after}
use Rattle.pool_law.specs.Logs.{Logs, dids, history_of, present_in, present_before, region_for}
use Rattle.pool_law.proofs.HistoryLemmas.{append-assoc, after-push}
use Rattle.pool_law.proofs.ListLemmas.{front-is}
use Rattle.run_laws.specs.CacheCounts.{one_of}
use Rattle.run_laws.specs.HandCounts.{ended_by}
use Rattle.run_laws.proofs.CacheLaw.{if_so-is}
use Rattle.run_laws.proofs.Numbered.{plain, Weight, total_from}
use Rattle.run_laws.proofs.PlaceTotals.{here_is, births_of, ends_of}

-- where a sum with numbers is not nothing, something counts
pub from-found : (f : Weight) (n : ℕ) (ds : List Did) → 1 ≤ total_from f n ds
    → (i : ℕ) × (d : Did) × (slice_get ds i ≡ Some d) × (1 ≤ f (n + i) d)
from-found f n [] h = absurd (omega (arith, h))
from-found f n (d ∷ ds) h = go (f n d) refl (λ more. from-found f (n + 1) ds more)
  where
    go : (m : ℕ) → f n d ≡ m
        → (1 ≤ total_from f (n + 1) ds → (i : ℕ) × (x : Did) × (slice_get ds i ≡ Some x) × (1 ≤ f (n + 1 + i) x))
        → (i : ℕ) × (x : Did) × (slice_get (d ∷ ds) i ≡ Some x) × (1 ≤ f (n + i) x)
    go zero e rest =
        let r = rest (omega (arith, h, e)) in
        let number : n + 1 + r.0 ≡ n + suc r.0 = omega arith in
        (suc r.0, r.1, r.2, subst (λ k. 1 ≤ f k r.1) number r.3)
    go (suc m) e rest =
        let number : n ≡ n + 0 = omega arith in
        (0, d, refl, subst (λ k. 1 ≤ f k d) number (omega (arith, e)))

module _ (logs : Logs) (place : ℕ) (r : RegionId) where
  -- the region's root is there as before
  abbrev Even : RootPlace → Option Present → Did → RootPlace → Type 0
  Even s o d t = ended_by r (region_for d o) d + here_is r t.present ≡ here_is r o + births_of r d

  same-even : (s t : RootPlace) (p : Present) → s.present ≡ Some p → s ≡ t
      → 0 + here_is r t.present ≡ here_is r (Some p) + 0
  same-even s t p here same =
      subst (λ y. 0 + here_is r y.present ≡ here_is r (Some p) + 0) same (omega (arith, ap (here_is r) here))

  -- a note ends as many uses of the region as it takes away, and begins as many as it adds
  pub step-even : (s t : RootPlace) (d : Did) → place_step place s d ≡ Some t
      → ended_by r (region_for d s.present) d + here_is r t.present ≡ here_is r s.present + births_of r d
  step-even s t d e = go d s.present refl e
    where
      go : (d : Did) (o : Option Present) → s.present ≡ o → place_step_by place s o d ≡ Some t → Even s o d t
      go (Birth root x) None here is =
          let same : born root x ≡ t = if_so-is (may_be_born place s root x) (born root x) t is in
          subst (λ y. 0 + here_is r y.present ≡ 0 + one_of (same_region r x)) same (omega arith)
      go (Birth root x) (Some p) here is = absurd (cc is)
      go (Set offset bytes) (Some p) here is =
          let same : with_bytes s p (laid_over p.bytes offset bytes) ≡ t =
          if_so-is (nat_le (offset + length bytes) (length p.bytes)) (with_bytes s p (laid_over p.bytes offset bytes))
          t is in
          subst (λ y. 0 + here_is r y.present ≡ here_is r (Some p) + 0) same (omega arith)
      go (Get offset bytes) (Some p) here is =
          same-even s t p here
          (if_so-is (nat_le (offset + length bytes) (length p.bytes) && same_bytes bytes
          (bytes_at p.bytes offset (length bytes))) s t is)
      go Touch (Some p) here is = same-even s t p here (cc is)
      go (Room asked capacity) (Some p) here is =
          same-even s t p here
          (if_so-is ((capacity == length p.bytes) && (nat_le asked capacity || nat_lt p.region.place.len asked)) s t is)
      go (Extend size) (Some p) here is =
          let same : with_bytes s p (zeros_to size p.bytes) ≡ t =
          if_so-is (nat_lt (length p.bytes) size && nat_le size p.region.place.len)
          (with_bytes s p (zeros_to size p.bytes)) t is in
          subst (λ y. 0 + here_is r y.present ≡ here_is r (Some p) + 0) same (omega arith)
      go (Grow c x) (Some p) here is =
          let same : with_bytes s (record p { region = x }) (zeros_to c p.bytes) ≡ t =
          if_so-is (nat_lt p.region.place.len c && nat_le c x.place.len)
          (with_bytes s (record p { region = x }) (zeros_to c p.bytes)) t is in
          subst (λ y. one_of (same_region r p.region) + here_is r y.present
          ≡ one_of (same_region r p.region) + one_of (same_region r x)) same (omega arith)
      go (End root) (Some p) here is =
          let same : record s { present = None } ≡ t =
          if_so-is (same_root root p.root) (record s { present = None }) t is in
          subst (λ y. one_of (same_region r p.region) + here_is r y.present
          ≡ one_of (same_region r p.region) + 0) same (omega arith)
      go _ None here is = absurd (cc is)
      go _ (Some p) here is = absurd (cc is)

  pub history-even : (pre rest : List Did) (s t : RootPlace) → pre ++ rest ≡ dids (history_of (Object.Root place) logs)
      → place_after place pre ≡ Some s → after (place_step place) s rest ≡ Some t →
      total_from (ends_of logs place r) (1 + length pre) rest + here_is r t.present
      ≡ here_is r s.present + total_from (plain (births_of r)) (1 + length pre) rest
  history-even pre [] s t split before e =
      let same : s ≡ t = cc e in omega (arith, ap (λ y. here_is r y.present) same)
  history-even pre (d ∷ rest) s t split before e =
      go (place_step place s d) refl e (λ m same longer more. history-even (pre ++ d ∷ []) rest m t same longer more)
    where
      go : (o : Option RootPlace) → place_step place s d ≡ o
          → option_and_then (λ m. after (place_step place) m rest) o ≡ Some t →
          ((m : RootPlace) → (pre ++ d ∷ []) ++ rest ≡ dids (history_of (Object.Root place) logs)
          → place_after place (pre ++ d ∷ []) ≡ Some m → after (place_step place) m rest ≡ Some t →
          total_from (ends_of logs place r) (1 + length (pre ++ d ∷ [])) rest + here_is r t.present
          ≡ here_is r m.present + total_from (plain (births_of r)) (1 + length (pre ++ d ∷ [])) rest) →
          total_from (ends_of logs place r) (1 + length pre) (d ∷ rest) + here_is r t.present
          ≡ here_is r s.present + total_from (plain (births_of r)) (1 + length pre) (d ∷ rest)
      go None here more again = absurd (cc more)
      go (Some m) here more again =
          let number : (1 + length pre) - 1 ≡ length pre = omega arith in
          let now : present_before logs place (1 + length pre) ≡ s.present =
          ap (λ n. present_in (place_after place (take n (dids (history_of (Object.Root place) logs))))) number
          ∙ ap (λ xs. present_in (place_after place (take (length pre) xs))) (sym split)
          ∙ ap (λ xs. present_in (place_after place xs)) (front-is pre (d ∷ rest))
          ∙ ap present_in before in
          let step : ended_by r (region_for d s.present) d + here_is r m.present
          ≡ here_is r s.present + births_of r d = step-even s m d here in
          let longer : place_after place (pre ++ d ∷ []) ≡ Some m = after-push (place_step place) new_place pre d
          ∙ ap (option_and_then (λ t. place_step place t d)) before ∙ here in
          let ih = again m (append-assoc pre (d ∷ []) rest ∙ split) longer more in
          let count : 1 + length (pre ++ d ∷ []) ≡ 1 + length pre + 1 = omega (arith, length-append pre (d ∷ [])) in
          let moved : total_from (ends_of logs place r) (1 + length pre + 1) rest + here_is r t.present
          ≡ here_is r m.present + total_from (plain (births_of r)) (1 + length pre + 1) rest =
          subst (λ n. total_from (ends_of logs place r) n rest + here_is r t.present
          ≡ here_is r m.present + total_from (plain (births_of r)) n rest) count ih in
          omega (arith, moved, step, ap (λ o. ended_by r (region_for d o) d) now)
