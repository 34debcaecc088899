-- The three notes with which a root ends, and what the seat has in hand between them.
use Rattle.std.proofs.Common.{◌≡◌, ℕ, ◌+◌, ◌≤◌, List, [], ◌∷◌, ◌++◌, refl, ap, ◌∙◌, arith, Some}
use Rattle.handle_bin.specs.Bins.{HandleValue}
use Rattle.pool_law.specs.declared.id.Region.{Region}
use Rattle.pool_law.specs.declared.id.RootId.{RootId}
use Rattle.pool_law.specs.declared.note.Did.{Did}
use Rattle.pool_law.specs.declared.note.Note.{Note}
use Rattle.pool_law.specs.declared.note.Note.TheVariants.{At, Ref}
use Rattle.pool_law.specs.declared.note.Object.{Object}
use Rattle.pool_law.specs.declared.note.RefDid.TheVariants as steps
use Rattle.pool_law.proofs.HistoryLemmas.{append-assoc}
use Rattle.shared_pool.specs.declared.seat.PoolSeat.{PoolSeat}
use Rattle.shared_pool.specs.SeatViews.{view_of}
use Rattle.shared_pool.specs.declared.home.Home.{Home}
use Rattle.shared_pool.specs.declared.pool.SharedPool.{SharedPool}
use Rattle.shared_pool.specs.Holding.{HoldsHandle}
use Rattle.shared_pool.specs.Notes.{plain}
use Rattle.shared_pool.specs.RootNotes.{end_of, IsNotedWith}
use Rattle.shared_pool.specs.Seats.{IsPoolSeat, IsNoted}
use Rattle.seat_work.specs.Answers.{with_place, with_both, with_token}
use Rattle.seat_work.specs.Changes.{no_change}
use Rattle.seat_work.specs.Hands.{empty_hand}
use Rattle.seat_work.specs.Works.{Works, Proceeds}
use Rattle.seat_work.proofs.Calls.{ended_root, gave_region, handle_home}
use Rattle.seat_work.proofs.Holds.{holds_handle, is_handle}
use Rattle.seat_work.proofs.Proceeding.{proceeds_on, works_after}
use Rattle.nest_run.specs.Standing.{log_of, HasEnded}
use Rattle.nest_run.proofs.OpenLaws.{works_less}
use Rattle.nest_run.proofs.SeatLogs.{log_noted, log_with}

module _ (pool : SharedPool) (root : RootId) (s0 s1 s2 s3 : PoolSeat)
    (works0 : Works pool (with_token root) 4 0 s0) (h : HandleValue) (r : Region) (j : ℕ) (seat1 : IsPoolSeat pool s1)
    (noted1 : IsNotedWith pool s0 s1 root j (end_of root r.id) steps.Vacated (view_of s0).moves)
    (at : h.place ≡ root.place) (holds1 : HoldsHandle pool s1 h) where
  proceeds1 : Proceeds pool (with_both h.place r.id) 1 0 no_change s0 s1
  proceeds1 =
      ended_root pool s0 s1 seat1 root h.place j r.id
      (works_less pool (with_token root) 4 0 1 0 s0 works0 (omega arith) (omega arith)) noted1 at

  works1 : Works pool (with_both h.place r.id) 3 0 s1
  works1 =
      works_after pool (with_token root) (with_both h.place r.id) 4 0 1 0 3 0 s0 s1 works0 proceeds1.goes
      (omega arith) (omega arith)

  module _ (k : ℕ) (seat2 : IsPoolSeat pool s2)
      (noted2 : IsNoted pool s1 s2 (Object.Arena r.id.place.arena) k (plain (Did.Give r.id))) where
    proceeds2 : Proceeds pool (with_place h.place) 1 0 no_change s1 s2
    proceeds2 =
        gave_region pool s1 s2 seat2 k (Some h.place) r
        (works_less pool (with_both h.place r.id) 3 0 1 0 s1 works1 (omega arith) (omega arith)) noted2

    works2 : Works pool (with_place h.place) 2 0 s2
    works2 =
        works_after pool (with_both h.place r.id) (with_place h.place) 3 0 1 0 2 0 s1 s2 works1 proceeds2.goes
        (omega arith) (omega arith)

    -- the handle is in hand still
    pub handle_left : HoldsHandle pool s2 h
    handle_left = holds_handle pool s2 (with_place h.place) h works2.held (is_handle pool s1 h holds1)

    module _ (n : ℕ) (seat3 : IsPoolSeat pool s3)
        (noted3 : IsNoted pool s2 s3 (Object.Bin h.lane) n (plain (Did.Home h.place))) where
      proceeds3 : Proceeds pool empty_hand 1 0 no_change s2 s3
      proceeds3 =
          handle_home pool s2 s3 seat3 n h
          (works_less pool (with_place h.place) 2 0 1 0 s2 works2 (omega arith) (omega arith)) noted3

      pub end_proceeds : Proceeds pool empty_hand 4 0 no_change s0 s3
      end_proceeds =
          proceeds_on pool no_change (with_both h.place r.id) empty_hand 1 0 3 0 4 0 s0 s1 s3 proceeds1
          (proceeds_on pool no_change (with_place h.place) empty_hand 1 0 1 0 3 0 s1 s2 s3 proceeds2 proceeds3
          (omega arith) (omega arith)) (omega arith) (omega arith)

      pub end_notes : HasEnded root s0 s3
      end_notes =
          let end : List Note = At (Object.Root root.place) j (Did.End root) ∷ Ref root steps.Vacated ∷ [] in
          let give : Note = At (Object.Arena r.id.place.arena) k (Did.Give r.id) in
          let home : Note = At (Object.Bin h.lane) n (Did.Home h.place) in
          record {
            number = j;
            first = give;
            second = home;
            notes =
                log_noted s2 s3 pool (Object.Bin h.lane) n (plain (Did.Home h.place)) noted3
                ∙ ap (λ (ns : List Note). ns ++ home ∷ [])
                (log_noted s1 s2 pool (Object.Arena r.id.place.arena) k (plain (Did.Give r.id)) noted2
                ∙ ap (λ (ns : List Note). ns ++ give ∷ [])
                (log_with s0 s1 pool root j (end_of root r.id) steps.Vacated (view_of s0).moves noted1))
                ∙ append-assoc (log_of s0 ++ end) (give ∷ []) (home ∷ [])
                ∙ append-assoc (log_of s0) end (give ∷ home ∷ []);
            first_is = refl;
            second_is = refl;
          }
