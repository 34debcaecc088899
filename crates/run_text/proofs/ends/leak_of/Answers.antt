use Rattle.std.proofs.Common.{◌∷◌, [], length, codes, decimal, refl}
use Rattle.run_text.proofs.EndLemmas.{from_capacity, from_count, from_dropped, from_records, is_word-decimal}
use Rattle.run_text.proofs.LineLemmas.{refused_on}
use Rattle.run_text.proofs.ends.leak_of.Goals as goal

pub returns-in_err-lane : goal.returns-in_err-lane
returns-in_err-lane c leak front back fits e is long ends =
    let r0 = rw c.in_err-lane.was
    at (c.pair.ensures leak.lane leak.serial (from_capacity leak) fits.0 fits.1 e) in
    refused_on _ _ _ c.from_residual.ensures.1 r0

pub returns-in_err-capacity : goal.returns-in_err-capacity
returns-in_err-capacity c leak front back fits e is long ends =
    let r0 = rw c.in_ok-lane.was
    at (c.pair.ensures leak.lane leak.serial (from_capacity leak) fits.0 fits.1 e) in
    let a = c.next-capacity.ensures (codes "capacity") (decimal leak.capacity ∷ from_count leak) refl r0.1 in
    let r1 = rw c.in_err-capacity.was
    at (c.small.ensures leak.capacity (from_count leak) fits.2 a.1) in
    refused_on _ _ _ c.from_residual-in_err-capacity.ensures.1 r1

pub returns-in_err-count : goal.returns-in_err-count
returns-in_err-count c leak front back fits e is long ends =
    let r0 = rw c.in_ok-lane.was
    at (c.pair.ensures leak.lane leak.serial (from_capacity leak) fits.0 fits.1 e) in
    let a = c.next-capacity.ensures (codes "capacity") (decimal leak.capacity ∷ from_count leak) refl r0.1 in
    let r1 = rw c.in_ok-capacity.was
    at (c.small.ensures leak.capacity (from_count leak) fits.2 a.1) in
    let b = c.next-count.ensures (codes "count") (decimal leak.count ∷ from_records leak) refl r1.1 in
    let r2 = rw c.in_err-count.was
    at (c.small-2.ensures leak.count (from_records leak) fits.3 b.1) in
    refused_on _ _ _ c.from_residual-in_err-count.ensures.1 r2

pub returns-in_err-dropped : goal.returns-in_err-dropped
returns-in_err-dropped c leak front back fits e is long ends =
    let r0 = rw c.in_ok-lane.was
    at (c.pair.ensures leak.lane leak.serial (from_capacity leak) fits.0 fits.1 e) in
    let a = c.next-capacity.ensures (codes "capacity") (decimal leak.capacity ∷ from_count leak) refl r0.1 in
    let r1 = rw c.in_ok-capacity.was
    at (c.small.ensures leak.capacity (from_count leak) fits.2 a.1) in
    let b = c.next-count.ensures (codes "count") (decimal leak.count ∷ from_records leak) refl r1.1 in
    let r2 = rw c.in_ok-count.was
    at (c.small-2.ensures leak.count (from_records leak) fits.3 b.1) in
    let d = c.next-records.ensures (codes "records") (decimal (length leak.records) ∷ from_dropped leak) refl r2.1 in
    let f = c.next-number.ensures (decimal (length leak.records)) (from_dropped leak)
    (is_word-decimal (length leak.records) fits.4) d.1 in
    let g = c.next-dropped.ensures (codes "dropped") (decimal leak.dropped ∷ []) refl f.1 in
    let r3 = rw c.in_err-dropped.was
    at (c.number.ensures leak.dropped [] fits.5 g.1) in
    refused_on _ _ _ c.from_residual-in_err-dropped.ensures.1 r3

pub returns-in_err-records : goal.returns-in_err-records
returns-in_err-records c leak front back fits e is long ends =
    let r0 = rw c.in_ok-lane.was
    at (c.pair.ensures leak.lane leak.serial (from_capacity leak) fits.0 fits.1 e) in
    let a = c.next-capacity.ensures (codes "capacity") (decimal leak.capacity ∷ from_count leak) refl r0.1 in
    let r1 = rw c.in_ok-capacity.was
    at (c.small.ensures leak.capacity (from_count leak) fits.2 a.1) in
    let b = c.next-count.ensures (codes "count") (decimal leak.count ∷ from_records leak) refl r1.1 in
    let r2 = rw c.in_ok-count.was
    at (c.small-2.ensures leak.count (from_records leak) fits.3 b.1) in
    let d = c.next-records.ensures (codes "records") (decimal (length leak.records) ∷ from_dropped leak) refl r2.1 in
    let f = c.next-number.ensures (decimal (length leak.records)) (from_dropped leak)
    (is_word-decimal (length leak.records) fits.4) d.1 in
    let g = c.next-dropped.ensures (codes "dropped") (decimal leak.dropped ∷ []) refl f.1 in
    let r3 = rw c.in_ok-dropped.was
    at (c.number.ensures leak.dropped [] fits.5 g.1) in
    let r4 = rw c.in_err-records.was
    at (c.records_of.ensures front back leak.records is long ends fits.6) in
    refused_on _ _ _ c.from_residual-in_err-records.ensures.1 r4

pub returns : goal.returns
returns c leak front back fits e is long ends =
    let r0 = rw c.in_ok-lane.was
    at (c.pair.ensures leak.lane leak.serial (from_capacity leak) fits.0 fits.1 e) in
    let a = c.next-capacity.ensures (codes "capacity") (decimal leak.capacity ∷ from_count leak) refl r0.1 in
    let r1 = rw c.in_ok-capacity.was
    at (c.small.ensures leak.capacity (from_count leak) fits.2 a.1) in
    let b = c.next-count.ensures (codes "count") (decimal leak.count ∷ from_records leak) refl r1.1 in
    let r2 = rw c.in_ok-count.was
    at (c.small-2.ensures leak.count (from_records leak) fits.3 b.1) in
    let d = c.next-records.ensures (codes "records") (decimal (length leak.records) ∷ from_dropped leak) refl r2.1 in
    let f = c.next-number.ensures (decimal (length leak.records)) (from_dropped leak)
    (is_word-decimal (length leak.records) fits.4) d.1 in
    let g = c.next-dropped.ensures (codes "dropped") (decimal leak.dropped ∷ []) refl f.1 in
    let r3 = rw c.in_ok-dropped.was
    at (c.number.ensures leak.dropped [] fits.5 g.1) in
    let r4 = rw c.in_ok-records.was
    at (c.records_of.ensures front back leak.records is long ends fits.6) in
    λ k. record {
      lane = (r0.0 k).0;
      serial = (r0.0 k).1;
      capacity = r1.0 k;
      count = r2.0 k;
      records = r4 k;
      dropped = r3.0 k;
    }
