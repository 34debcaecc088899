use Rattle.std.proofs.Common.{ℕ, List, ◌+◌, ◌≤◌, ◌∙◌, length, refl, sym, subst, ap}
use Rattle.pool_law.specs.declared.note.Did.{Did}
use Rattle.pool_law.specs.declared.note.Object.TheVariants.{Root}
use Rattle.pool_table.specs.declared.views.SeatView.{SeatView}
use Rattle.pool_table.specs.Capacities.{knows_of}
use Rattle.pool_table.specs.Counts.{HasCount}
use Rattle.pool_table.specs.Lone.{IsLone, own_bytes}
use Rattle.pool_law.specs.Roots.{bytes_at}
use Rattle.shared_pool.specs.SeatViews.{view_of}
use Rattle.shared_pool.specs.RootNotes.{access}
use Rattle.seat_work.specs.Changes.{no_change}
use Rattle.seat_work.specs.Hands.{empty_hand}
use Rattle.seat_work.proofs.Accesses.{accessed, noted_same, get_quiet}
use Rattle.seat_work.proofs.Proceeding.{works_same, proceeds_same}
use Rattle.seat_work.proofs.access.get.Goals as goal

pub returns-in-Did : goal.returns-in-Did
returns-in-Did g c =
    let did = c.in-Did in let a = c.args in let old = a.seat.now in let out = c.read.new.out in
    let it = accessed a.pool.now old old c.read.new.seat a.root did._number (Did.Get a.offset out)
    c.requires.works.seat refl did.ensures.seat c.requires.works c.requires.counts
    (get_quiet a.root did._number (view_of old).own.number a.offset out) did.ensures.did in
    record {
      proceeds = it.proceeds;
      counts = it.counts;
      len = did.ensures.len;
      noted = (did._number, it.noted);
      lone = did.ensures.lone;
    }

pub wait_to_get-requires-clause-works : goal.wait_to_get-requires-clause-works
wait_to_get-requires-clause-works g c =
    works_same c.args.pool.now empty_hand 1 0 c.args.seat.now c.read.new.seat c.in-Held.ensures.seat
    (ap (λ m. m.0) c.in-Held.ensures.held.1.marked) c.requires.works

pub wait_to_get-requires-clause-counts : goal.wait_to_get-requires-clause-counts
wait_to_get-requires-clause-counts g c =
    subst (λ (v : SeatView). HasCount c.args.root v) (sym (ap (λ m. m.0) c.in-Held.ensures.held.1.marked))
    c.requires.counts

pub wait_to_get-requires-clause-range : goal.wait_to_get-requires-clause-range
wait_to_get-requires-clause-range g c =
    let a = c.args in
    subst (λ (v : SeatView). a.offset + length c.read.new.out ≤ knows_of a.root v)
    (sym (ap (λ m. m.0) c.in-Held.ensures.held.1.marked))
    (subst (λ (xs : List ℕ). a.offset + length xs ≤ knows_of a.root (view_of a.seat.now))
    (sym c.in-Held.ensures.held.0) c.requires.range)

pub returns-in-Held : goal.returns-in-Held
returns-in-Held g c =
    let a = c.args in let mid = c.read.new.seat in let next = c.wait_to_get in let noted = next.ensures.noted in
    let same = ap (λ m. m.0) c.in-Held.ensures.held.1.marked in
    record {
      proceeds =
          proceeds_same a.pool.now no_change empty_hand 1 0 a.seat.now mid next.new.seat same next.ensures.proceeds;
      counts = next.ensures.counts;
      len = next.ensures.len ∙ ap length c.in-Held.ensures.held.0;
      noted = (
        noted.0,
        noted_same a.pool.now a.seat.now mid next.new.seat noted.0 (λ v. Root a.root.place)
            (access a.root (Did.Get a.offset next.new.out)) same noted.1,
      );
      lone =
          λ lone. next.ensures.lone (subst (λ (v : SeatView). IsLone a.root v) (sym same) lone)
          ∙ ap (λ (v : SeatView). bytes_at (own_bytes a.root v) a.offset (length next.new.out)) same;
    }
