-- A seat that has noted nothing has nothing in hand, and one with nothing in hand is done.
use Rattle.std.proofs.Common.{◌≡◌, ℕ, ◌+◌, ◌≤◌, Bool, true, false, [], refl, sym, subst, arith, le-ltb}
use Rattle.std.specs.Prelude.{◌==◌, if◌then◌else◌}
use Rattle.shared_pool.specs.declared.seat.PoolSeat.{PoolSeat}
use Rattle.pool_law.specs.declared.id.RootId.{RootId}
use Rattle.pool_table.specs.declared.views.Layout.{Layout}
use Rattle.pool_table.specs.declared.views.SeatView.{SeatView}
use Rattle.pool_table.specs.Counts.{gained_of, lost_of}
use Rattle.shared_pool.specs.SeatViews.{view_of}
use Rattle.shared_pool.specs.declared.pool.SharedPool.{SharedPool}
use Rattle.shared_pool.specs.Opening.{IsOpened}
use Rattle.shared_pool.specs.Seated.{HasNothing}
use Rattle.seat_work.specs.Hands.{empty_hand, IsHeld}
use Rattle.seat_work.specs.Changes.{IsPaid}
use Rattle.seat_work.specs.Works.{Works}

zero_either : (b : Bool) → ◌≡◌ {A = ℕ} 0 (if b then 0 else 0)
zero_either true = refl
zero_either false = refl

module _ (v : SeatView) (own : v.own.notes ≡ []) (alone : v.others ≡ []) where
  abbrev bare : SeatView
  bare = record v { own = record { number = v.own.number; notes = [] }; others = [] }

  bare_is : bare ≡ v
  bare_is = λ i. record v { own = record { number = v.own.number; notes = sym own i }; others = sym alone i }

  nothing_held : IsHeld empty_hand bare
  nothing_held = record {
    places = λ p. refl;
    births = λ p. refl;
    regions = λ q. refl;
    uses = λ q. refl;
    tokens = λ root. refl;
    ended = λ root. refl;
    quotas = λ class. zero_either (class + 1 == 0);
    closes = λ class. sym (le-ltb class 0 (omega arith));
  }

  pub IsHeld-empty : IsHeld empty_hand v
  IsHeld-empty = subst (IsHeld empty_hand) bare_is nothing_held

  bare_paid : IsPaid bare
  bare_paid = λ root. omega arith

  new_paid : IsPaid v
  new_paid = subst IsPaid bare_is bare_paid

-- a view without notes counts no root
pub fresh_counts : (v : SeatView) (root : RootId) → v.own.notes ≡ [] → v.others ≡ []
    → (gained_of root v ≡ 0) × (lost_of root v ≡ 0)
fresh_counts v root notes others =
    subst (λ (u : SeatView). (gained_of root u ≡ 0) × (lost_of root u ≡ 0))
    (λ i. record v { own = record { number = v.own.number; notes = sym notes i }; others = sym others i })
    (refl, refl)

pub has_nothing : (v : SeatView) → IsHeld empty_hand v → HasNothing v
has_nothing v held = record {
  region = λ q has. (let a = held.regions q in omega (arith, a, has));
  place = λ p has. (let a = held.places p in omega (arith, a, has));
  token = λ root has. (let a = held.tokens root in omega (arith, a, has));
}

-- a seat that was opened may spend what it got
pub opened_works : (pool : SharedPool) (l : Layout) (lane turns moves : ℕ)
    (s : PoolSeat) → IsOpened l pool lane s → turns ≤ l.turns → moves ≤ l.moves
    → Works pool empty_hand turns moves s
opened_works pool l lane turns moves s opened enough few = record {
  seat = opened.seat;
  held = IsHeld-empty (view_of s) opened.notes opened.seat.alone;
  paid = new_paid (view_of s) opened.notes opened.seat.alone;
  turns_left = (let a = opened.turns in omega (arith, a, enough));
  moves_left = (let a = opened.moves in omega (arith, a, few));
}
