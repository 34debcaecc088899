use Rattle.std.proofs.Common.{◌≡◌, ap, sym, subst}
use Rattle.pool_law.specs.declared.id.Region.{Region}
use Rattle.pool_law.specs.declared.note.Object.TheVariants.{Cache}
use Rattle.shared_pool.specs.declared.went.Put.{Put}
use Rattle.shared_pool.specs.CacheAnswers.{was_put, IfBack}
use Rattle.shared_pool.specs.Notes.{plain}
use Rattle.shared_pool.specs.Seats.{IsNoted}
use Rattle.std.specs.Prelude.{Some}
use Rattle.seat_work.specs.Answers.{with_both}
use Rattle.seat_work.specs.Changes.{no_change}
use Rattle.seat_work.specs.Works.{Proceeds}
use Rattle.seat_work.proofs.Calls.{back_region, marked}
use Rattle.seat_work.proofs.Holds.{holds_region}
use Rattle.lane_cases.proofs.sweeps.staying.put.Goals as goal

pub put_cached-requires-clause-region : goal.put_cached-requires-clause-region
put_cached-requires-clause-region c =
    let region = c.args.region in
    holds_region c.args.pool.now c.args.seat.now (with_both c.args.beside.now.place region.id) region
    c.requires.works.held c.requires.region

pub returns-in-Did-default-Back-clause-proceeds : goal.returns-in-Did-default-Back-clause-proceeds
returns-in-Did-default-Back-clause-proceeds c =
    let pool = c.args.pool.now in let old = c.args.seat.now in let new = c.put_cached.new.seat in
    let did = c.in-Did-default-Back in let region = c.args.region in let place = c.args.beside.now.place in
    let same : did.region ≡ region = subst (λ (x : Put). IfBack x (λ r. r ≡ region)) did.field-1-is
    did.ensures.back in
    subst (λ (r : Region). Proceeds pool (with_both place r.id) 1 0 no_change old new) (sym same)
    (back_region pool old new did.ensures.seat did._number (Some place) region c.requires.works did._no
    (subst (λ (x : Put).
    IsNoted pool old new (Cache region.id.owner region.id.class) did._number (plain (was_put region.id x)))
    did.field-1-is did.ensures.did))

pub returns-in-Did-default-Back-clause-same : goal.returns-in-Did-default-Back-clause-same
returns-in-Did-default-Back-clause-same c =
    let did = c.in-Did-default-Back in let region = c.args.region in
    let same : did.region ≡ region = subst (λ (x : Put). IfBack x (λ r. r ≡ region)) did.field-1-is
    did.ensures.back in
    ap (λ (r : Region). r.id) same

pub returns-in-Held-clause-proceeds : goal.returns-in-Held-clause-proceeds
returns-in-Held-clause-proceeds c =
    let pool = c.args.pool.now in let old = c.args.seat.now in let new = c.put_cached.new.seat in
    let held = c.in-Held in let region = c.args.region in let place = c.args.beside.now.place in
    subst (λ (r : Region). Proceeds pool (with_both place r.id) 1 0 no_change old new) (sym held.ensures.held.0)
    (marked pool old new held.ensures.seat (with_both place region.id) (Cache region.id.owner region.id.class)
    held._held c.requires.works held.ensures.held.1)
