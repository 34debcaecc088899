-- The watched roots that are present at the close are the live ones, each with its count and its records.
use Rattle.std.proofs.Common.{◌≡◌, ℕ, zero, suc, ◌+◌, ◌-◌, ◌<◌, ◌≤◌, List, [], ◌∷◌, ◌++◌, length, map, get_or, Bool, true, false, sym, refl, ap, ◌∙◌, subst, arith, append-nil, append_assoc, Some, None}
use Rattle.std.specs.Prelude.{if◌then◌else◌, Option, unwrap_or, All, AllPairs, slice_get, slice_set, slice_index}
use Rattle.std.proofs.lemmas.List.{map-append, length-drop}
use Rattle.std.proofs.lemmas.List.Elements.{All-append, All-weaker, All-head}
use Rattle.std.proofs.lemmas.List.Quantifiers.{all_pairs_push}
use Rattle.std.proofs.lemmas.Option.{slice_get-get_or}
use mathlib.Core.Logic.{dite}
use native.Mathlib.Decide.{ℕ_discrete}
use Rattle.pool_law.specs.declared.id.RootId.{RootId}
use Rattle.pool_law.specs.declared.report.Access.{Access}
use Rattle.pool_law.specs.declared.report.Watch.{Watch}
use Rattle.pool_law.specs.declared.run.Shape.{Shape}
use Rattle.pool_law.specs.Homes.{objects_of}
use Rattle.pool_law.specs.Leaks.{kept_of}
use Rattle.pool_law.specs.Logs.{of_lane}
use Rattle.pool_law.proofs.ListLemmas.{get-front, get-further}
use Rattle.pool_table.specs.declared.views.Entry.{Entry}
use Rattle.pool_table.specs.declared.views.Part.{Part}
use Rattle.leak_records.specs.declared.live.LiveRoot.{LiveRoot}
use Rattle.leak_records.specs.Records.{Tracked, HasRecords, is_keeping}
use Rattle.shared_pool.specs.Ends.{count_in, told_here, told_from, first_place}
use Rattle.shared_pool.specs.Live.{IsLive, live_of}
use Rattle.shared_pool.specs.declared.home.Home.{Home}

-- ---- What is told of places, one after another.

abbrev pub Named : Type 0
Named = RootId × Watch

-- what is told of one place, and the roots there
pub record ToldAt (parts : List Part) (p : ℕ) (xs : List LiveRoot) (roots : List Named) : Type 0 where
  pub told : xs ≡ map (λ x. live_of parts x.0 x.1) roots
  pub each : All (IsLive parts) roots
  pub all : (x : Named) → IsLive parts x → x.0.place ≡ p → (k : ℕ) × (slice_get roots k ≡ Some x)
  pub there : All (λ (x : Named). x.0.place ≡ p) roots
  pub few : length roots ≤ 1

-- and of the places below one
pub record ToldBelow (parts : List Part) (n : ℕ) (xs : List LiveRoot) : Type 0 where
  pub roots : List Named
  pub told : xs ≡ map (λ x. live_of parts x.0 x.1) roots
  pub each : All (IsLive parts) roots
  pub all : (x : Named) → IsLive parts x → x.0.place < n → (k : ℕ) × (slice_get roots k ≡ Some x)
  pub there : All (λ (x : Named). x.0.place < n) roots
  pub by_place : AllPairs (λ (x y : Named). x.0.place < y.0.place) roots

module _ (parts : List Part) where
  pub told_none : ToldBelow parts 0 []
  told_none = record {
    roots = [];
    told = refl;
    each = λ k d lt. absurd (omega (arith, lt));
    all = λ x live lt. absurd (omega (arith, lt));
    there = λ k d lt. absurd (omega (arith, lt));
    by_place = λ i j d lt within. absurd (omega (arith, within));
  }

  in_order : (n : ℕ) (rs qs : List Named) → AllPairs (λ (x y : Named). x.0.place < y.0.place) rs
      → All (λ (x : Named). x.0.place < n) rs → All (λ (x : Named). x.0.place ≡ n) qs → length qs ≤ 1 →
      AllPairs (λ (x y : Named). x.0.place < y.0.place) (rs ++ qs)
  in_order n rs [] pairs low there few =
      subst (AllPairs (λ (x y : Named). x.0.place < y.0.place)) (sym (append-nil rs)) pairs
  in_order n rs (q ∷ []) pairs low there few =
      all_pairs_push (λ (x y : Named). x.0.place < y.0.place) rs q pairs
      (λ k d lt. let a = low k d lt in let b = All-head (λ (x : Named). x.0.place ≡ n) q [] there in
      omega (arith, a, b))
  in_order n rs (q ∷ (z ∷ qs)) pairs low there few =
      absurd (let m : ℕ = length qs in let few' : suc (suc m) ≤ 1 = few in let g : ⊥ = omega (arith, few') in g)

  pub told_more : (n : ℕ) (xs ys : List LiveRoot) (qs : List Named) → ToldBelow parts n xs → ToldAt parts n ys qs
      → ToldBelow parts (suc n) (xs ++ ys)
  told_more n xs ys qs b a = record {
    roots = b.roots ++ qs;
    told = (λ i. b.told i ++ a.told i) ∙ sym (map-append (λ (x : Named). live_of parts x.0 x.1) b.roots qs);
    each = All-append (IsLive parts) b.roots qs b.each a.each;
    all = λ x live lt. dite (ℕ_discrete x.0.place n)
        (λ e. let r = a.all x live e in (length b.roots + r.0, get-further b.roots qs r.0 ∙ r.1))
        (λ ne. let r = b.all x live (omega (arith, lt, ne)) in (r.0, get-front b.roots qs r.0 x r.1));
    there = All-append (λ (x : Named). x.0.place < suc n) b.roots qs
        (All-weaker (λ (x : Named). x.0.place < n) (λ (x : Named). x.0.place < suc n) (λ x lt. omega (arith, lt))
        b.roots b.there)
        (All-weaker (λ (x : Named). x.0.place ≡ n) (λ (x : Named). x.0.place < suc n) (λ x e. omega (arith, e)) qs
        a.there);
    by_place = in_order n b.roots qs b.by_place b.there a.there a.few;
  }

-- what is told of one place more
pub told_push : (s : Shape) (homes : List (Option Home)) (words : List ℕ) (ks : List ℕ) (k : ℕ)
    → told_from s homes words (ks ++ k ∷ []) ≡
    told_from s homes words ks ++ told_here (unwrap_or (slice_get homes (first_place s + k)) None)
    (count_in (slice_index words (objects_of s + k)))
told_push s homes words [] k = append-nil _
told_push s homes words (j ∷ ks) k =
    ap (λ xs. told_here (unwrap_or (slice_get homes (first_place s + j)) None)
    (count_in (slice_index words (objects_of s + j))) ++ xs) (told_push s homes words ks k)
    ∙ sym (append_assoc (told_here (unwrap_or (slice_get homes (first_place s + j)) None)
    (count_in (slice_index words (objects_of s + j)))) (told_from s homes words ks) _)

-- a list with what it has at a place
pub set_same : {X : Type 0} (xs : List X) (i : ℕ) (x : X) → x ≡ get_or xs i x → slice_set xs i x ≡ xs
set_same [] i x e = refl
set_same (y ∷ xs) zero x e = ap (λ z. z ∷ xs) e
set_same (y ∷ xs) (suc i) x e = ap (λ zs. y ∷ zs) (set_same xs i x e)

pub home_at : (homes : List (Option Home)) (i : ℕ) (d : Option Home) → i < length homes
    → get_or homes i d ≡ unwrap_or (slice_get homes i) None
home_at homes i d lt = ap (λ (o : Option (Option Home)). unwrap_or o None) (sym (slice_get-get_or homes i d lt))

-- an entry of a log is one of a part
pub in_log : (ps : List Part) (lane at : ℕ) (e : Entry)
    → slice_get (of_lane (map (λ (p : Part). p.notes) ps) lane) at ≡ Some e
    → (p : Part) × (slice_get ps lane ≡ Some p) × (slice_get p.notes at ≡ Some e)
in_log [] lane at e is = absurd (cc is)
in_log (p ∷ ps) zero at e is = (p, refl, is)
in_log (p ∷ ps) (suc lane) at e is = in_log ps lane at e is

-- no more than four accesses are kept
four : (all : List Access) → length (kept_of all) ≤ 4
four all = let a = length-drop (length all - 4) all in omega (arith, a)

pub few_kept : (all : List Access) (t : Tracked) → HasRecords all t → length t.kept ≤ 4
few_kept all t has = let e = ap length has.kept in let f = by (is_keeping t.watch) in omega (arith, e, f)
  where
    by : (b : Bool) → length (if b then kept_of all else []) ≤ 4
    by true = four all
    by false = omega arith
