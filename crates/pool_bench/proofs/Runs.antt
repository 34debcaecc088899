-- The seats of all lanes, before and after they worked.
use Rattle.std.proofs.Common.{◌≡◌, ℕ, ◌+◌, ◌*◌, ◌<◌, List, [], ◌∷◌, Option, Some, length, map, get_or, sym, ap, ◌∙◌, subst, arith}
use Rattle.std.specs.Prelude.{All, slice_get, unwrap_or}
use Rattle.std.proofs.lemmas.List.{get_or-map, length-map}
use Rattle.shared_pool.specs.declared.seat.PoolSeat.{PoolSeat}
use Rattle.pool_table.specs.declared.views.Entry.{Entry}
use Rattle.pool_table.specs.declared.views.Layout.{Layout}
use Rattle.shared_pool.specs.SeatViews.{view_of}
use Rattle.shared_pool.specs.declared.pool.SharedPool.{SharedPool}
use Rattle.shared_pool.specs.Opening.{IsOpened, AreOpened, HasRooms}
use Rattle.pool_table.specs.Letters.{sent_on}
use Rattle.shared_pool.specs.SeatLanes.{lane_of}
use Rattle.shared_pool.specs.Seated.{IsDone, AreDone}
use Rattle.seat_work.proofs.FirstSeats.{IsHeld-empty, has_nothing, opened_works}
use Rattle.seat_work.proofs.MailRooms.{room_at}
use Rattle.pool_bench.specs.declared.runner.Runner.{Runner}
use Rattle.pool_bench.specs.declared.words.Plan.{Plan}
use Rattle.pool_bench.specs.Mails.{HasMail, IsMailFor, next_lane}
use Rattle.pool_bench.specs.Runs.{MayRun, HaveRun, block_turns, block_moves}

module _ (pool : SharedPool) (l : Layout) (mail : List ℕ) where
  -- a seat that was opened may work
  pub may_run : (blocks lane : ℕ) (s : PoolSeat) → l.moves ≡ block_moves * blocks
      → l.turns ≡ block_turns * blocks → IsOpened l pool lane s → MayRun pool blocks s
  may_run blocks lane s moves turns opened =
      opened_works pool l lane (block_turns * blocks) (block_moves * blocks) s opened (omega (arith, turns))
      (omega (arith, moves))

  -- and post what the plan says
  pub has_mail : (p : Plan) (lane : ℕ) (s : PoolSeat) → lane < p.threads → IsMailFor p mail
      → pool.table.layout.shape.lanes ≡ p.threads → HasRooms pool mail → IsOpened l pool lane s
      → HasMail pool p.mail s
  has_mail p lane s lt sized lanes_are rooms opened d =
      let lane_is : lane_of s ≡ lane = ap (λ (n : Option ℕ). unwrap_or n 0) opened.number in
      let next : ℕ = next_lane pool.table.layout.shape.lanes (lane_of s) in
      let at = room_at pool mail (lane_of s) next p.mail rooms
      (subst (λ (x : ℕ × ℕ). slice_get mail (x.0 * x.1 + next_lane x.1 x.0) ≡ Some p.mail)
      (λ i. (sym lane_is i, sym lanes_are i)) (sized.each lane lt)) d in
      let none = ap (λ (es : List Entry). sent_on (lane_of s) next es) opened.notes in omega (arith, at, none)

  -- the seats that were opened have nothing in hand
  pub opened_done : (seats : List PoolSeat) → AreOpened l mail pool seats → pool.table.layout ≡ l
      → AreDone pool seats
  opened_done seats opened is = record {
    many = opened.many ∙ ap (λ (x : Layout). x.shape.lanes) (sym is);
    each = λ lane lt d.
        let one = opened.each lane (subst (λ (x : Layout). lane < x.shape.lanes) is lt) d in
        record {
          seat = one.seat;
          number = one.number;
          nothing =
              has_nothing (view_of (get_or seats lane d))
              (IsHeld-empty (view_of (get_or seats lane d)) one.notes one.seat.alone);
        };
  }

-- ---- The runners with these seats.

some_runner : (runners : List Runner) (k : ℕ) → k < length runners → Runner
some_runner [] k lt = absurd (omega (arith, lt))
some_runner (runner ∷ runners) k lt = runner

module _ (pool : SharedPool) (l : Layout) (mail : List ℕ) (runners : List Runner) where
  seat_at : (k : ℕ) (d : Runner) → k < length runners
      → (get_or runners k d).seat ≡ get_or (map (λ (q : Runner). q.seat) runners) k d.seat
  seat_at k d lt = sym (get_or-map (λ (q : Runner). q.seat) runners k d d.seat lt)

  module _ (opened : AreOpened l mail pool (map (λ (q : Runner). q.seat) runners)) where
    many : length runners ≡ l.shape.lanes
    many = sym (length-map runners (λ (q : Runner). q.seat)) ∙ opened.many

    opened_at : (k : ℕ) (d : Runner) → k < length runners → IsOpened l pool k (get_or runners k d).seat
    opened_at k d lt =
        subst (λ s. IsOpened l pool k s) (sym (seat_at k d lt))
        (opened.each k (subst (λ (n : ℕ). k < n) many lt) d.seat)

    pub all_may_run : (blocks : ℕ) → l.moves ≡ block_moves * blocks
        → l.turns ≡ block_turns * blocks → All (λ (q : Runner). MayRun pool blocks q.seat) runners
    all_may_run blocks moves turns =
        λ k d lt. may_run pool l mail blocks k (get_or runners k d).seat moves turns (opened_at k d lt)

    pub all_have_mail : (p : Plan) → IsMailFor p mail → l.shape.lanes ≡ p.threads
        → pool.table.layout.shape.lanes ≡ p.threads → All (λ (q : Runner). HasMail pool p.mail q.seat) runners
    all_have_mail p sized lanes_are of_pool =
        λ k d lt. has_mail pool l mail p k (get_or runners k d).seat (let a = many in omega (arith, a, lanes_are, lt))
        sized of_pool opened.rooms (opened_at k d lt)

    -- behind their work they have nothing in hand
    pub done : (after : List Runner) → pool.table.layout ≡ l → HaveRun pool runners after
        → AreDone pool (map (λ (q : Runner). q.seat) after)
    done after is ran = record {
      many = length-map after (λ (q : Runner). q.seat) ∙ ran.many ∙ many ∙ ap (λ (x : Layout). x.shape.lanes) (sym is);
      each = λ lane lt d.
          let below : lane < length runners = subst (λ (n : ℕ). lane < n) (sym many)
          (subst (λ (x : Layout). lane < x.shape.lanes) is lt) in
          let e = some_runner runners lane below in
          let run = ran.each lane e below in
          let at : get_or (map (λ (q : Runner). q.seat) after) lane d
          ≡ (get_or after lane e).seat =
          get_or-map (λ (q : Runner). q.seat) after lane e d
          (subst (λ (n : ℕ). lane < n) (sym ran.many) below) in
          subst (λ s. IsDone pool lane s) (sym at)
          (record {
            seat = run.seat;
            number = run.number
                ∙ (opened_at lane e below).number;
            nothing =
                has_nothing (view_of (get_or after lane e).seat) run.held;
          });
    }
