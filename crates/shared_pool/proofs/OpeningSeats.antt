-- The first seats of a pool.
use Rattle.std.proofs.Common.{◌≡◌, ℕ, ◌<◌, List, [], length, map, sym, refl, ap, ◌∙◌, subst}
use Rattle.std.specs.Prelude.{Some, slice_index_or}
use Rattle.std.proofs.lemmas.List.{length-map}
use Rattle.std.proofs.lemmas.List.Elements.{All-cons, All-nil}
use Rattle.step_law.specs.Settings.{Setting}
use Rattle.pool_table.specs.declared.views.Layout.{Layout}
use Rattle.pool_table.specs.declared.views.Part.{Part}
use Rattle.pool_table.specs.Counts.{CountsOne}
use Rattle.pool_table.specs.Views.{empty_part}
use Rattle.pool_table.specs.Steps.{lane_view}
use Rattle.pool_table.specs.Opened.{IsFirstSeat, AreFirstSeats}
use Rattle.pool_table.proofs.OneRoot.{empty_one}
use Rattle.shared_pool.specs.declared.pool.SharedPool.{SharedPool}
use Rattle.shared_pool.specs.declared.seat.PoolSeat.{PoolSeat}
use Rattle.shared_pool.specs.Dealing.{AreDealt}
use Rattle.shared_pool.specs.Mails.{ArePosts, AreFetches}
use Rattle.shared_pool.specs.Opening.{HasRooms, IsOpened, AreOpened}
use Rattle.shared_pool.proofs.Dealings.{holds_map}

module _ (l : Layout) (mail : List ℕ) (pool : SharedPool) (g : Setting)
    (layout : pool.table.layout ≡ l) (grounds : length g.grounds ≡ l.shape.arenas) (rooms : HasRooms pool mail) where
  -- the first seat of a lane, with its ends of the mails
  one : (k : ℕ) → k < l.shape.lanes → (s : PoolSeat) → IsFirstSeat l g k pool.table s.seat
      → ArePosts pool k [] s.posts.items → AreFetches pool k [] s.fetches.items → IsOpened l pool k s
  one k lt s is posts fetches =
      record {
        seat = record {
          own = is.0;
          outside = (ap (λ m. m.0.inside) is.1, ap (λ m. m.1) is.1);
          alone = ap (λ m. m.0.others) is.1;
          lane = k;
          number = ap (λ m. m.0.own.number) is.1;
          below = subst (λ (y : Layout). k < y.shape.lanes) (sym layout) lt;
          setting = g;
          settled = ap (λ m. m.0.setting) is.1;
          arenas = grounds ∙ ap (λ (y : Layout). y.shape.arenas) (sym layout);
          counts =
              subst CountsOne (sym (ap (λ m. m.0) is.1))
              (empty_one (lane_view l k g) (All-cons (λ (p : Part). p.notes ≡ []) (empty_part (Some k)) [] refl
              (All-nil (λ (p : Part). p.notes ≡ []))));
          posts = subst (λ ns. ArePosts pool k ns s.posts.items) (sym (ap (λ m. m.0.own.notes) is.1)) posts;
          fetches = subst (λ ns. AreFetches pool k ns s.fetches.items) (sym (ap (λ m. m.0.own.notes) is.1)) fetches;
        };
        number = ap (λ m. m.0.own.number) is.1;
        notes = ap (λ m. m.0.own.notes) is.1;
        moves = ap (λ m. m.0.moves) is.1;
        turns = ap (λ m. m.0.turns) is.1;
      }

  -- the first seats of the table, with their ends of the mails, are those of a new pool
  pub opened : (seats : List PoolSeat) → AreFirstSeats l g pool.table (map (λ s. s.seat) seats) → AreDealt pool seats
      → AreOpened l mail pool seats
  opened seats first dealt =
      record {
        rooms = rooms;
        many = many;
        each = λ k lt d.
            one k lt (slice_index_or seats k d)
            (holds_map (λ (s : PoolSeat). s.seat) (IsFirstSeat l g k pool.table) seats (map (λ s. s.seat) seats) k refl
            (subst (λ n. k < n) (sym many) lt) (first.each k lt) d)
            (dealt.posts k (within k lt) d) (dealt.fetches k (within k lt) d);
      }
    where
      many : length seats ≡ l.shape.lanes
      many = sym (length-map seats (λ (s : PoolSeat). s.seat)) ∙ first.many

      within : (k : ℕ) → k < l.shape.lanes → k < pool.table.layout.shape.lanes
      within k lt = subst (λ (y : Layout). k < y.shape.lanes) (sym layout) lt
