-- A root that is born in a new pool, and the first moment of a play.
use Rattle.std.proofs.Common.{◌≡◌, ℕ, ◌+◌, ◌-◌, ◌*◌, ◌≤◌, Bool, false, ◌&&◌, List, [], ◌∷◌, ◌++◌, map, replicate, zero, suc, refl, sym, ap, ◌∙◌, subst, arith, Some, None}
use Rattle.std.specs.Prelude.{IfSome, if◌then◌else◌}
use Rattle.std.proofs.lemmas.Option.{same_Some}
use Rattle.handle_bin.specs.Bins.{HandleValue}
use Rattle.pool_law.specs.declared.id.Region.{Region}
use Rattle.pool_law.specs.declared.id.RootId.{RootId}
use Rattle.pool_law.specs.declared.note.Did.{Did}
use Rattle.pool_law.specs.declared.note.Note.{Note}
use Rattle.pool_law.specs.declared.note.Note.TheVariants.{At, Ref}
use Rattle.pool_law.specs.declared.note.Object.{Object}
use Rattle.pool_law.specs.declared.note.RefDid.TheVariants as steps
use Rattle.pool_law.specs.Same.{same_root}
use Rattle.pool_law.proofs.PatternLemmas.{same_root-refl}
use Rattle.shared_pool.specs.declared.seat.PoolSeat.{PoolSeat}
use Rattle.pool_table.specs.declared.views.Layout.{Layout}
use Rattle.shared_pool.specs.SeatViews.{view_of}
use Rattle.shared_pool.specs.declared.pool.SharedPool.{SharedPool}
use Rattle.shared_pool.specs.Closing.{note_of}
use Rattle.shared_pool.specs.Holding.{HoldsHandle}
use Rattle.shared_pool.specs.Notes.{plain}
use Rattle.shared_pool.specs.Opening.{IsOpened}
use Rattle.shared_pool.specs.RootNotes.{birth, IsNotedWith}
use Rattle.shared_pool.specs.SeatLanes.{lane_of}
use Rattle.shared_pool.specs.Seats.{IsPoolSeat, IsNoted}
use Rattle.seat_work.specs.Answers.{with_place, with_both}
use Rattle.seat_work.specs.Changes.{no_change, once_more}
use Rattle.seat_work.specs.Hands.{Hand, empty_hand}
use Rattle.seat_work.specs.Works.{Works, Proceeds}
use Rattle.seat_work.proofs.Calls.{popped_handle, took_region, born_root}
use Rattle.seat_work.proofs.Counting.{one_self}
use Rattle.seat_work.proofs.FirstSeats.{fresh_counts, opened_works}
use Rattle.seat_work.proofs.Holds.{holds_handle, is_handle}
use Rattle.seat_work.proofs.Proceeding.{works_after}
use Rattle.counted_view.specs.Nests.{NestedView, NestState, new_nest}
use Rattle.nest_run.specs.declared.openings.TheConstants.{LAYOUT}
use Rattle.nest_run.specs.declared.views.Playing.{Playing}
use Rattle.nest_run.specs.Inputs.{capacity_limit, call_limit}
use Rattle.nest_run.specs.Plays.{first_root}
use Rattle.nest_run.specs.Standing.{log_of, dids_of, Leave, IsBorn, Stands, AreHeld}
use Rattle.nest_run.proofs.LogLaws.{born_first}
use Rattle.nest_run.proofs.SeatLogs.{log_noted, log_with}

-- the notes of the opening
abbrev opening : ℕ → ℕ → Did → ℕ → ℕ → Did → RootId → ℕ → Did → List Note
opening lane j popped' arena k taken root n born =
    At (Object.Bin lane) j popped' ∷ At (Object.Arena arena) k taken
    ∷ At (Object.Root root.place) n born ∷ Ref root steps.Born ∷ []

-- with less to spend
pub works_less : (pool : SharedPool) (hand : Hand) (t m a b : ℕ) (s : PoolSeat)
    → Works pool hand t m s → a ≤ t → b ≤ m → Works pool hand a b s
works_less pool hand t m a b s w le lf = record {
  seat = w.seat;
  held = w.held;
  paid = w.paid;
  turns_left = (let x = w.turns_left in omega (arith, x, le));
  moves_left = (let x = w.moves_left in omega (arith, x, lf));
}

born_leaves : (root : RootId) (lane j arena k n : ℕ) (p t b : Did) → Leave (opening lane j p arena k t root n b) root 1
born_leaves root lane j arena k n p t b =
    let one : ◌≡◌ {A = ℕ} (if same_root root root then 1 else 0) 1 =
    ap (λ (x : Bool). if x then 1 else 0) (same_root-refl root) in
    let none : ◌≡◌ {A = ℕ} (if same_root root root && false then 1 else 0) 0 =
    ap (λ (x : Bool). if x && false then 1 else 0) (same_root-refl root) in
    omega (arith, one, none)

module _ (pool : SharedPool) (layout : pool.layout ≡ LAYOUT)
    (s0 s1 s2 s3 : PoolSeat) (opened : IsOpened LAYOUT pool 0 s0) where
  abbrev works0 : Works pool empty_hand 16387 4096 s0
  works0 = opened_works pool LAYOUT 0 16387 4096 s0 opened (omega arith) (omega arith)

  module _ (h : HandleValue) (j : ℕ) (seat1 : IsPoolSeat pool s1)
      (noted1 : IsNoted pool s0 s1 (Object.Bin (lane_of s0)) j (plain (Did.Handle h.place)))
      (holds1 : HoldsHandle pool s1 h) where
    proceeds1 : Proceeds pool (with_place h.place) 1 0 no_change s0 s1
    proceeds1 =
        popped_handle pool s0 s1 seat1 j (Some h)
        (works_less pool empty_hand 16387 4096 1 0 s0 works0 (omega arith) (omega arith)) noted1

    works1 : Works pool (with_place h.place) 16386 4096 s1
    works1 =
        works_after pool empty_hand (with_place h.place) 16387 4096 1 0 16386 4096 s0 s1 works0 proceeds1.goes
        (omega arith) (omega arith)

    module _ (r : Region) (class arena k : ℕ) (seat2 : IsPoolSeat pool s2)
        (noted2 : IsNoted pool s1 s2 (Object.Arena arena) k (plain (Did.Take class r.id))) where
      proceeds2 : Proceeds pool (with_both h.place r.id) 1 0 no_change s1 s2
      proceeds2 =
          took_region pool s1 s2 seat2 k (Some h.place) arena class (Some r)
          (works_less pool (with_place h.place) 16386 4096 1 0 s1 works1 (omega arith) (omega arith)) noted2

      works2 : Works pool (with_both h.place r.id) 16385 4096 s2
      works2 =
          works_after pool (with_place h.place) (with_both h.place r.id) 16386 4096 1 0 16385 4096 s1 s2 works1
          proceeds2.goes (omega arith) (omega arith)

      -- the handle is in hand still
      pub still_held : HoldsHandle pool s2 h
      still_held = holds_handle pool s2 (with_both h.place r.id) h works2.held (is_handle pool s1 h holds1)

      module _ (root : RootId) (capacity n : ℕ) (seat3 : IsPoolSeat pool s3) (at : root.place ≡ h.place)
          (long : root.capacity ≡ capacity)
          (noted3 : IsNotedWith pool s2 s3 root n (birth root r.id None) steps.Born (view_of s2).moves) where
        proceeds3 : Proceeds pool empty_hand 1 0 (once_more root) s2 s3
        proceeds3 =
            born_root pool s2 s3 seat3 root h.place n r.id None
            (works_less pool (with_both h.place r.id) 16385 4096 1 0 s2 works2 (omega arith) (omega arith)) noted3 at

        first_place : root.place ≡ 0
        first_place =
            (let a = holds1.place in let b = ap (λ (l : Layout). l.shape.lanes * l.shape.handles)
            (pool.same_layout ∙ layout) in omega (arith, a, b, at))

        abbrev used : Did
        used = Did.Birth root (record r.id { uses = r.id.uses + 1 })

        log_is : log_of s3
            ≡ opening (lane_of s0) j (Did.Handle h.place) arena k (Did.Take class r.id) root n (used)
        log_is =
            log_with s2 s3 pool root n (birth root r.id None) steps.Born (view_of s2).moves noted3
            ∙ ap (λ (ns : List Note). ns ++ At (Object.Root root.place) n used ∷ Ref root steps.Born ∷ [])
            (log_noted s1 s2 pool (Object.Arena arena) k (plain (Did.Take class r.id)) noted2
            ∙ ap (λ (ns : List Note). ns ++ At (Object.Arena arena) k (Did.Take class r.id) ∷ [])
            (log_noted s0 s1 pool (Object.Bin (lane_of s0)) j (plain (Did.Handle h.place)) noted1
            ∙ ap (λ es. map note_of es ++ At (Object.Bin (lane_of s0)) j (Did.Handle h.place) ∷ []) opened.notes))

        dids_are : dids_of (log_of s3) ≡ used ∷ []
        dids_are =
            ap dids_of log_is
            ∙ ap (λ (p : ℕ). dids_of (At (Object.Bin (lane_of s0)) j (Did.Handle h.place)
            ∷ At (Object.Arena arena) k (Did.Take class r.id) ∷ At (Object.Root p) n used ∷ Ref root steps.Born ∷ []))
            first_place

        pub is_born : IsBorn pool capacity root s3
        is_born = record {
          works =
              works_after pool (with_both h.place r.id) empty_hand 16385 4096 1 0 16384 4096 s2 s3 works2 proceeds3.goes
              (omega arith) (omega arith);
          counts =
              (let zero' = fresh_counts (view_of s0) root opened.notes opened.seat.alone in
              let a = proceeds1.changes.counts root in let b = proceeds2.changes.counts root in
              let c = proceeds3.changes.counts root in let one = one_self root in
              omega (arith, zero', a, b, c, one));
          place = first_place;
          capacity_is = long;
          leave = subst (λ (ns : List Note). Leave ns root 1) (sym log_is)
              (born_leaves root (lane_of s0) j arena k n (Did.Handle h.place) (Did.Take class r.id) used);
          first = λ w.
              (born_first (log_of s3) root _ dids_are w.state w.place).0
              ∙ ap first_root long;
          zeros = λ state e.
              subst (λ (c : ℕ). IfSome state.present (λ p. p.bytes ≡ replicate c 0)) long
              (born_first (log_of s3) root _ dids_are state e).1;
        }

-- the first moment of a play
pub stands_first : (pool : SharedPool) (capacity calls : ℕ) (p : Playing) → IsBorn pool capacity p.root p.seat
    → p.nest ≡ new_nest p.root call_limit → capacity ≤ capacity_limit → calls ≤ call_limit → Stands pool calls p
stands_first pool capacity calls p born is small few =
    subst (λ (n : NestState). Stands pool calls (record { seat = p.seat; nest = n; root = p.root })) (sym is) (record {
      works = works_less pool empty_hand 16384 4096 (4 * calls) calls p.seat born.works (omega (arith, few)) few;
      counts = born.counts;
      root = refl;
      place = born.place;
      capacity = (let a = born.capacity_is in omega (arith, a, small));
      bound = refl;
      few = omega (arith, few);
      most = 1;
      held = one_hold;
      enough = omega (arith, few);
      leave = born.leave;
    })
  where
    one_hold : AreHeld 1 (new_nest p.root call_limit).views
    one_hold zero x e = (let a = ap (λ (y : NestedView). y.holds) (same_Some _ x e) in omega (arith, a))
    one_hold (suc v) x e = absurd (cc e)
