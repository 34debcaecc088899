-- What entries that a seat adds tell of its counts, and of what it found.
use Rattle.std.proofs.Common.{◌≡◌, ◌≢◌, ℕ, ◌+◌, ◌≤◌, List, [], ◌∷◌, Bool, true, false, cond, refl, sym, ap, subst, arith, ne_eqb}
use Rattle.std.specs.Prelude.{◌==◌, sum_by, if◌then◌else◌}
use Rattle.std.proofs.lemmas.Bool.{and_left, both_ways}
use Rattle.std.proofs.lemmas.List.Sums.{sum_by-cons}
use Rattle.pool_law.specs.declared.id.RootId.{RootId}
use Rattle.pool_law.specs.Same.{same_root}
use Rattle.pool_law.proofs.PatternLemmas.{same_root-refl}
use Rattle.pool_law.proofs.SameLemmas.{same_root-is}
use Rattle.pool_table.specs.declared.views.Entry.{Entry}
use Rattle.pool_table.specs.declared.views.SeatView.{SeatView}
use Rattle.pool_table.specs.Counts.{weigh, on_this, ref_gain, ref_loss, ref_ended, fetches, posts, gained_of, lost_of, HasCount}
use Rattle.seat_work.specs.Changes.{Holds, IsPaid, Change, Changes, times, one_for, finds_empty, finds_full}
use Rattle.seat_work.proofs.Grown.{Grows, weigh_more}

-- what these entries gain and lose of a root
abbrev pub gain_in : RootId → List Entry → ℕ
gain_in root es = sum_by (on_this ref_gain root) es + sum_by (fetches root) es

abbrev pub loss_in : RootId → List Entry → ℕ
loss_in root es = sum_by (on_this ref_loss root) es + sum_by (posts root) es

-- the entries tell just this
pub record Tells (c : Change) (es : List Entry) : Type 0 where
  pub counts : (root : RootId) → times root c.gone + gain_in root es ≡ times root c.got + loss_in root es
  pub ended : (root : RootId) → sum_by (on_this ref_ended root) es ≡ times root c.over
  pub empty : sum_by finds_empty es ≡ c.empty
  pub full : sum_by finds_full es ≡ c.full

pub changes_by : (c : Change) (v w : SeatView) (es : List Entry) (spent : ℕ) → Grows v w es spent → Tells c es
    → Changes c v w
changes_by c v w es spent grows tells =
    record {
      counts =
          λ root. (let a = more (on_this ref_gain root) in let b = more (fetches root) in let d =
          more (on_this ref_loss root) in let e = more (posts root) in let t = tells.counts root in
          omega (arith, a, b, d, e, t));
      ended = λ root. (let a = more (on_this ref_ended root) in let t = tells.ended root in omega (arith, a, t));
      empty = (let a = more finds_empty in let t = tells.empty in omega (arith, a, t));
      full = (let a = more finds_full in let t = tells.full in omega (arith, a, t));
    }
  where
    more : (f : Entry → ℕ) → weigh f w ≡ weigh f v + sum_by f es
    more f = weigh_more v w es spent grows f

-- ---- What is counted behind a change.

module _ (c : Change) (v w : SeatView) (changes : Changes c v w) where
  -- what goes was counted, so what comes is
  holds_after : Holds c.gone v → Holds c.got w
  holds_after holds root = let a = changes.counts root in let b = holds root in omega (arith, a, b)

  pub paid_after : Holds c.gone v → IsPaid w
  paid_after holds root = let a = holds_after holds root in omega (arith, a)

-- a list with one more root counts it once more
pub times-cons : (root first : RootId) (rs : List RootId) → times root (first ∷ rs) ≡ one_for first root + times root rs
times-cons root first rs = sum_by-cons (λ (r : RootId). one_for r root) first rs

pub one_self : (root : RootId) → one_for root root ≡ 1
one_self root = ap (λ (b : Bool). if b then 1 else 0) (same_root-refl root)

pub zero_if : (b : Bool) (n : ℕ) → n ≡ 0 → (if b then n else 0) ≡ 0
zero_if true n e = e
zero_if false n e = refl

-- of two roots at different places at most one is this one
pub other_place : (root other : RootId) → other.place ≢ root.place → same_root root other ≡ false
other_place root other ne = and_left (root.place == other.place) _ (ne_eqb root.place other.place (λ e. ne (sym e)))

pub other_root : (root other : RootId) → same_root root other ≡ false → other ≢ root
other_root root other differs e =
    both_ways (same_root root other) differs (subst (λ r. same_root root r ≡ true) (sym e) (same_root-refl root))

-- a root that is counted is one that the view holds
pub holds_one : (v : SeatView) (r : RootId) → IsPaid v → HasCount r v → Holds (r ∷ []) v
holds_one v r paid has root = go (same_root r root) refl
  where
    go : (b : Bool) → same_root r root ≡ b → times root (r ∷ []) + lost_of root v ≤ gained_of root v
    go true same =
        let one : one_for r root ≡ 1 = ap (λ (b : Bool). if b then 1 else 0) same in
        let counted : HasCount root v = subst (λ (x : RootId). HasCount x v) (same_root-is r root same) has in
        omega (arith, one, counted)
    go false other =
        let none : one_for r root ≡ 0 = ap (λ (b : Bool). if b then 1 else 0) other in let a = paid root in
        omega (arith, none, a)

-- a change that takes no count away
pub still_counts : (c : Change) (v w : SeatView) (r : RootId) → c.gone ≡ [] → Changes c v w → HasCount r v
    → HasCount r w
still_counts c v w r none changes has =
    let a = changes.counts r in let b = ap (λ (rs : List RootId). times r rs) none in omega (arith, a, b, has)

-- 1 where it is this root
pub one_as : (b : Bool) → cond {A = ℕ} b 1 0 ≡ (if b then 1 else 0)
one_as true = refl
one_as false = refl
