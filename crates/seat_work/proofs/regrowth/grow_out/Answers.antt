use Rattle.std.proofs.Common.{None, Some, ℕ, ◌≤◌, refl, sym, subst, arith}
use Rattle.pool_law.specs.Limits.{geometry_of}
use Rattle.size_classes.specs.Sizes.{size_at}
use Rattle.shared_pool.specs.SeatViews.{view_of}
use Rattle.seat_work.specs.Answers.{hand_with, region_told}
use Rattle.seat_work.specs.Changes.{no_change}
use Rattle.seat_work.specs.Growth.{is_quiet_but}
use Rattle.seat_work.specs.Hands.{empty_hand}
use Rattle.seat_work.proofs.ClassLaws.{class_holds, class_inside}
use Rattle.seat_work.proofs.Counting.{still_counts}
use Rattle.seat_work.proofs.Knowing.{learned_on}
use Rattle.seat_work.proofs.Later.{follows_on, later_but}
use Rattle.seat_work.proofs.Proceeding.{proceeds_more, proceeds_on}
use Rattle.seat_work.proofs.Regrowing.{told_on}
use Rattle.std.specs.Prelude.{Ok}
use Rattle.pool_law.specs.Patterns.{grow_with, obtain}
use Rattle.pool_law.specs.Readers.{◌>>=◌, give}
use Rattle.shared_pool.specs.SeatLanes.{lane_of}
use Rattle.seat_work.proofs.Noting.{notes_given, notes_on}
use Rattle.seat_work.proofs.regrowth.grow_out.Goals as goal

pub obtain-requires-clause-class : goal.obtain-requires-clause-class
obtain-requires-clause-class g c =
    class_inside (geometry_of c.args.pool.now.table.layout.shape) c.args.size c.args.class c.requires.class

pub grow_by-requires-clause-counts : goal.grow_by-requires-clause-counts
grow_by-requires-clause-counts g c =
    still_counts no_change (view_of c.args.seat.now) (view_of c.obtain.new.seat) c.args.root refl
    c.in-Some.ensures.proceeds.changes c.requires.counts

pub grow_by-requires-clause-long : goal.grow_by-requires-clause-long
grow_by-requires-clause-long g c =
    subst (λ (class : ℕ). c.args.size ≤ size_at class) (sym c.in-Some.ensures.region.1)
    (class_holds (geometry_of c.args.pool.now.table.layout.shape) c.args.size c.args.class c.requires.class)

pub returns-in-Some : goal.returns-in-Some
returns-in-Some g c =
    let pool = c.args.pool.now in let old = c.args.seat.now in let mid = c.obtain.new.seat in let next = c.grow_by in
    let new = next.new.seat in let root = c.args.root in let first = c.in-Some.ensures in
    let before = later_but pool root old mid first.later in
    let shape = pool.table.layout.shape in let lane = lane_of old in let id = c.in-Some.region.id in
    let grows = grow_with root c.args.size in
    record {
      proceeds =
          proceeds_on pool no_change (hand_with None (Some c.in-Some.region)) empty_hand 2 0 3 0 5 0 old mid new
          first.proceeds next.ensures.proceeds (omega arith) (omega arith);
      counts = next.ensures.counts;
      enough = next.ensures.enough;
      capacity =
          learned_on root next.result (view_of old) (view_of mid) (view_of new) first.proceeds.goes.knows
          next.ensures.capacity;
      told = told_on pool root next.result old mid new before next.ensures.told;
      later = follows_on pool (is_quiet_but root) old mid new before next.ensures.later;
      reads =
          notes_on (obtain shape lane c.args.class >>= grows) (grows (Some id)) (view_of old) (view_of mid)
          (give (Ok next.result)) (view_of new)
          (notes_given (obtain shape lane c.args.class) (Some id) grows (view_of old) (view_of mid) first.reads)
          next.ensures.reads;
    }

pub returns-in-None : goal.returns-in-None
returns-in-None g c =
    let pool = c.args.pool.now in let old = c.args.seat.now in let new = c.obtain.new.seat in
    let first = c.in-None.ensures in
    record {
      proceeds =
          proceeds_more pool (region_told None) empty_hand 2 0 5 0 old new first.proceeds (omega arith) (omega arith);
      counts =
          still_counts (region_told None) (view_of old) (view_of new) c.args.root refl first.proceeds.changes
          c.requires.counts;
      enough = tt;
      capacity = tt;
      told = tt;
      later = later_but pool c.args.root old new first.later;
      reads =
          notes_given (obtain pool.table.layout.shape (lane_of old) c.args.class) None
          (grow_with c.args.root c.args.size) (view_of old) (view_of new) first.reads;
    }
