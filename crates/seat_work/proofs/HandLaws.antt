-- What a seat has in hand behind its next entries.
use Rattle.std.proofs.Common.{◌≡◌, ℕ, ◌+◌, List, [], ◌∷◌, ◌++◌, Bool, true, false, refl, ap, ◌∙◌, arith}
use Rattle.std.specs.Prelude.{sum_by, unwrap_or, ◌==◌, ◌&&◌, if◌then◌else◌, nat_lt}
use Rattle.pool_law.specs.declared.id.RootId.{RootId}
use Rattle.pool_law.specs.declared.id.RegionId.{RegionId}
use Rattle.pool_law.specs.declared.note.Object.TheVariants.{Cache}
use Rattle.pool_law.specs.Same.{same_object}
use Rattle.history_laws.specs.NoteCounts.{is_taking, uses_in}
use Rattle.pool_table.specs.declared.views.Entry.{Entry}
use Rattle.pool_table.specs.declared.views.Entry.TheVariants.{At, Ref, Busy}
use Rattle.pool_table.specs.declared.views.SeatView.{SeatView}
use Rattle.pool_table.specs.Counts.{weigh, on_this, on_place, ref_born, ref_ended, ref_vacated}
use Rattle.pool_table.specs.Hands.{at_in, at_out, at_birth, ends, from_arena, to_arena, from_cache, to_cache, from_place, to_place}
use Rattle.shared_pool.specs.Quotas.{quota_from, quota_left, has_closed, is_close}
use Rattle.shared_pool.proofs.CacheQuotas.{quota_append}
use Rattle.seat_work.specs.Hands.{lane_in, Hand, IsHeld, is_place, is_token, held_weight}
use Rattle.seat_work.proofs.Grown.{Grows, weigh_more}

-- how many regions of the class are still to be shed
abbrev pub quota_of : Hand → ℕ → ℕ
quota_of hand class = if class + 1 == hand.drained then hand.quota else 0

-- what these entries take up of regions, and lay down
abbrev up_in : (RegionId → ℕ) → List Entry → ℕ
up_in f es = sum_by (from_arena f) es + (sum_by (from_cache f) es + sum_by (from_place f) es)

abbrev down_in : (RegionId → ℕ) → List Entry → ℕ
down_in f es = sum_by (to_arena f) es + (sum_by (to_cache f) es + sum_by (to_place f) es)

-- these entries of a seat of the lane make the one hand of the other
pub record Carries (lane : ℕ) (before after : Hand) (es : List Entry) : Type 0 where
  pub places : (p : ℕ) →
      sum_by (at_in p) es + sum_by (on_place ref_vacated p) es + is_place p before.place
      ≡ sum_by (at_out p) es + sum_by (on_place ref_born p) es + is_place p after.place
  pub births : (p : ℕ) → sum_by (at_birth p) es ≡ sum_by (on_place ref_born p) es
  pub regions : (q : RegionId) → up_in (is_taking q) es + held_weight (is_taking q) before.region
      ≡ down_in (is_taking q) es + held_weight (is_taking q) after.region
  pub uses : (q : RegionId) →
      up_in (uses_in q) es + sum_by (to_place (is_taking q)) es + held_weight (uses_in q) before.region
      ≡ down_in (uses_in q) es + held_weight (uses_in q) after.region
  pub tokens : (root : RootId) → sum_by (on_this ref_ended root) es + is_token root before.token
      ≡ sum_by (on_this ref_vacated root) es + is_token root after.token
  pub ended : (root : RootId) → sum_by (ends root) es ≡ sum_by (on_this ref_vacated root) es
  pub quotas : (class : ℕ) → quota_from lane class (quota_of before class) es ≡ quota_of after class
  pub closes : (class : ℕ) → (if has_closed lane class es then true else nat_lt class before.closed)
      ≡ nat_lt class after.closed

either : (b : Bool) → b ≡ (if b then true else false)
either true = refl
either false = refl

always : (b : Bool) → true ≡ (if b then true else true)
always true = refl
always false = refl

-- a cache that is closed in one of two lists
closed_append : (lane class : ℕ) (xs ys : List Entry)
    → has_closed lane class (xs ++ ys) ≡ (if has_closed lane class ys then true else has_closed lane class xs)
closed_append lane class [] ys = either (has_closed lane class ys)
closed_append lane class (At o k n ∷ xs) ys =
    go (same_object o (Cache lane class) && is_close n.did) (closed_append lane class xs ys)
  where
    go : (b : Bool) → has_closed lane class (xs ++ ys)
        ≡ (if has_closed lane class ys then true else has_closed lane class xs) →
        (if b then true else has_closed lane class (xs ++ ys))
        ≡ (if has_closed lane class ys then true else (if b then true else has_closed lane class xs))
    go true rest = always (has_closed lane class ys)
    go false rest = rest
closed_append lane class (Ref r d ∷ xs) ys = closed_append lane class xs ys
closed_append lane class (Busy b ∷ xs) ys = closed_append lane class xs ys

-- the hand behind the entries
pub held_on : (v w : SeatView) (es : List Entry) (spent : ℕ) (before after : Hand) → Grows v w es spent
    → Carries (lane_in v) before after es → IsHeld before v → IsHeld after w
held_on v w es spent before after grows carries held =
    record {
      places =
          λ p. (let a = more (at_in p) in let b = more (on_place ref_vacated p) in let c = more (at_out p) in let d =
          more (on_place ref_born p) in
          let x = held.places p in let y = carries.places p in omega (arith, a, b, c, d, x, y));
      births =
          λ p. (let a = more (at_birth p) in let b = more (on_place ref_born p) in let x = held.births p in let y =
          carries.births p in omega (arith, a, b, x, y));
      regions =
          λ q. (let f = is_taking q in let a = more (from_arena f) in let b = more (from_cache f) in let c =
          more (from_place f) in let d =
          more (to_arena f) in let e = more (to_cache f) in let g = more (to_place f) in
          let x = held.regions q in let y = carries.regions q in omega (arith, a, b, c, d, e, g, x, y));
      uses =
          λ q. (let f = uses_in q in let a = more (from_arena f) in let b = more (from_cache f) in let c =
          more (from_place f) in let d =
          more (to_arena f) in let e = more (to_cache f) in let g = more (to_place f) in
          let h = more (to_place (is_taking q)) in let x = held.uses q in let y = carries.uses q in
          omega (arith, a, b, c, d, e, g, h, x, y));
      tokens =
          λ root. (let a = more (on_this ref_ended root) in let b = more (on_this ref_vacated root) in let x =
          held.tokens root in let y = carries.tokens root in omega (arith, a, b, x, y));
      ended =
          λ root. (let a = more (ends root) in let b = more (on_this ref_vacated root) in let x = held.ended root in
          let y = carries.ended root in omega (arith, a, b, x, y));
      quotas = λ class.
          (λ i. quota_left (unwrap_or (grows.more.number i) 0) class (grows.more.notes i))
          ∙ quota_append (lane_in v) class 0 v.own.notes es
          ∙ ap (λ (q : ℕ). quota_from (lane_in v) class q es) (held.quotas class) ∙ carries.quotas class;
      closes = λ class.
          (λ i. has_closed (unwrap_or (grows.more.number i) 0) class (grows.more.notes i))
          ∙ closed_append (lane_in v) class v.own.notes es
          ∙ ap (λ (b : Bool). if has_closed (lane_in v) class es then true else b) (held.closes class)
          ∙ carries.closes class;
    }
  where
    more : (f : Entry → ℕ) → weigh f w ≡ weigh f v + sum_by f es
    more f = weigh_more v w es spent grows f
