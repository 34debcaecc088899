use Rattle.std.proofs.Common.{◌≡◌, sym, subst}
use Rattle.pool_law.specs.declared.id.Region.{Region}
use Rattle.pool_law.specs.declared.note.Object.TheVariants.{Cache}
use Rattle.shared_pool.specs.CacheAnswers.{was_put, IfBack}
use Rattle.shared_pool.specs.Notes.{plain}
use Rattle.shared_pool.specs.Seats.{IsNoted}
use Rattle.shared_pool.specs.declared.went.Put.{Put}
use Rattle.lane_stages.specs.declared.retirement.Ending.TheVariants.{Cache as AskCache, Arena as AskArena, Home}
use Rattle.lane_stages.specs.declared.stage_step.StageStep.TheVariants.{More}
use Rattle.lane_stages.specs.Endings.{HasEnded, hand_of}
use Rattle.lane_stages.proofs.EndSteps.{kept_there, came_back, away_busy}
use Rattle.seat_work.proofs.Holds.{holds_region}
use Rattle.lane_stages.proofs.retirement.put_away.Goals as goal

pub put_cached-requires-clause-region : goal.put_cached-requires-clause-region
put_cached-requires-clause-region c =
    let may = c.requires.may in
    holds_region c.args.pool.now c.args.seat.now (hand_of (Home c.args.handle)) c.args.region may.hand may.fits.1

pub returns-in-Did-default-Kept : goal.returns-in-Did-default-Kept
returns-in-Did-default-Kept c =
    let pool = c.args.pool.now in let old = c.args.seat.now in let new = c.put_cached.new.seat in let did =
    c.in-Did-default-Kept in let id = c.args.region.id in
    let noted = subst (λ (x : Put). IsNoted pool old new (Cache id.owner id.class) did.number (plain (was_put id x)))
    did.field-1-is did.ensures.did in
    kept_there pool old new did.ensures.seat did.ensures.same did.number c.note_at.result c.args.log.now
    c.write_note.new.log
    c.write_note.ensures c.args.handle c.args.region c.requires.may noted c.note_at.ensures

pub returns-in-Did-default-Back : goal.returns-in-Did-default-Back
returns-in-Did-default-Back c =
    let pool = c.args.pool.now in let old = c.args.seat.now in let new = c.put_cached.new.seat in let did =
    c.in-Did-default-Back in let region = c.args.region in let handle = c.args.handle in
    let note = c.note_at-in-Did-default-Back in let wrote = c.write_note-in-Did-default-Back in
    let noted = subst (λ (x : Put). IsNoted pool old new (Cache region.id.owner region.id.class) did.number
    (plain (was_put region.id x))) did.field-1-is did.ensures.did in
    let back = subst (λ (x : Put). IfBack x (λ r. r ≡ region)) did.field-1-is did.ensures.back in
    subst (λ (r : Region). HasEnded pool old new c.args.log.now wrote.new.log (AskCache region handle)
    (More (AskArena r handle))) (sym back)
    (came_back pool old new did.ensures.seat did.ensures.same did.number note.result c.args.log.now wrote.new.log
    wrote.ensures handle region did.no c.requires.may noted note.ensures)

pub returns-in-Held : goal.returns-in-Held
returns-in-Held c =
    let pool = c.args.pool.now in let old = c.args.seat.now in let new = c.put_cached.new.seat in let held =
    c.in-Held in let region = c.args.region in let handle = c.args.handle in let wrote = c.write_note-in-Held in
    subst (λ (r : Region). HasEnded pool old new c.args.log.now wrote.new.log (AskCache region handle)
    (More (AskArena r handle))) (sym held.ensures.held.0)
    (away_busy pool old new held.ensures.seat held.ensures.same region handle held.held c.args.log.now wrote.new.log
    wrote.ensures c.requires.may held.ensures.held.1)
