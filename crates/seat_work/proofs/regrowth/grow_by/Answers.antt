use Rattle.std.proofs.Common.{None, Some, ℕ, ◌≤◌, refl, sym, ap, subst, arith}
use Rattle.pool_law.specs.declared.id.Region.{Region}
use Rattle.shared_pool.specs.Regrowing.{back_of, grown_capacity}
use Rattle.shared_pool.specs.SeatViews.{view_of}
use Rattle.seat_work.specs.Answers.{hand_with}
use Rattle.seat_work.specs.Capacities.{IsLearned}
use Rattle.seat_work.specs.Changes.{no_change}
use Rattle.seat_work.specs.Growth.{is_quiet_but}
use Rattle.seat_work.specs.Hands.{empty_hand, IsRegion}
use Rattle.seat_work.specs.Regrowths.{IsTold, as_grown}
use Rattle.seat_work.specs.Works.{Works}
use Rattle.seat_work.proofs.Counting.{still_counts}
use Rattle.seat_work.proofs.Knowing.{learned_then}
use Rattle.seat_work.proofs.Later.{follows_on, later_but}
use Rattle.seat_work.proofs.Proceeding.{proceeds_on, works_after}
use Rattle.seat_work.proofs.Regrowing.{grown_enough, told_then}
use Rattle.std.specs.Prelude.{Ok}
use Rattle.pool_law.specs.Patterns.{grow_with, put_away}
use Rattle.seat_work.specs.Readings.{NotesAs}
use Rattle.seat_work.proofs.GrowthNotes.{left_noted}
use Rattle.seat_work.proofs.regrowth.grow_by.Goals as goal

pub put_back-requires-clause-works : goal.put_back-requires-clause-works
put_back-requires-clause-works g c =
    let pool = c.args.pool.now in let old = c.args.seat.now in let call = c.move_into-grown in
    let back = back_of call.result in
    subst (λ (r : Region). Works pool (hand_with None (Some r)) 2 0 call.new.seat)
    (sym (ap (λ p. p.1) c.parts_of-capacity.ensures))
    (works_after pool (hand_with None (Some c.args.region)) (hand_with None (Some back)) 3 0 1 0 2 0 old call.new.seat
    c.requires.works call.ensures.proceeds.goes (omega arith) (omega arith))

pub put_back-requires-clause-region : goal.put_back-requires-clause-region
put_back-requires-clause-region g c =
    subst (λ (r : Region). IsRegion c.args.pool.now c.move_into-grown.new.seat r)
    (sym (ap (λ p. p.1) c.parts_of-capacity.ensures)) c.move_into-grown.ensures.region

pub returns : goal.returns
returns g c =
    let a = c.args in let pool = a.pool.now in let old = a.seat.now in let call = c.move_into-grown in
    let mid = call.new.seat in let last = c.put_back in let new = last.new.seat in
    let told = grown_capacity a.size call.result in let e = sym (ap (λ p. p.0) c.parts_of-capacity.ensures) in
    let left = hand_with None (Some (back_of call.result)) in
    let all = proceeds_on pool no_change left empty_hand 1 0 2 0 3 0 old mid new
    call.ensures.proceeds last.ensures.proceeds (omega arith) (omega arith) in
    let rest = later_but pool a.root mid new last.ensures.later in
    record {
      proceeds = all;
      counts = still_counts no_change (view_of old) (view_of new) a.root refl all.changes c.requires.counts;
      enough = subst (λ (n : ℕ). a.size ≤ n) e (grown_enough a.size a.region call.result call.ensures.answer);
      capacity = subst (λ (n : ℕ). IsLearned a.root n (view_of old) (view_of new)) e
          (learned_then a.root told (view_of old) (view_of mid) (view_of new) call.ensures.capacity
          last.ensures.proceeds.goes.knows);
      told = subst (λ (n : ℕ). IsTold pool a.root n old new) e
          (told_then pool a.root told old mid new call.ensures.told rest);
      later = follows_on pool (is_quiet_but a.root) old mid new call.ensures.later rest;
      reads =
          subst (λ (n : ℕ). NotesAs (grow_with a.root a.size (Some a.region.id)) (Ok n) (view_of old) (view_of new)) e
          (left_noted a.root a.size a.region.id (as_grown a.size call.result) (view_of old) (view_of mid) (view_of new)
          (grown_enough a.size a.region call.result call.ensures.answer) call.ensures.reads
          (subst (λ (r : Region). NotesAs (put_away r.id) tt (view_of mid) (view_of new))
          (ap (λ p. p.1) c.parts_of-capacity.ensures) last.ensures.reads));
    }
