use Rattle.std.proofs.Common.{◌≡◌, sym, subst}
use Rattle.pool_law.specs.declared.id.Region.{Region}
use Rattle.pool_law.specs.declared.note.Object.TheVariants.{Cache}
use Rattle.shared_pool.specs.CacheAnswers.{was_put, IfBack}
use Rattle.shared_pool.specs.Notes.{plain}
use Rattle.shared_pool.specs.Seats.{IsNoted}
use Rattle.shared_pool.specs.declared.went.Put.{Put}
use Rattle.lane_stages.specs.declared.retirement.Ending.TheVariants.{Cache as AskCache, Arena as AskArena}
use Rattle.lane_stages.specs.declared.stage_step.StageStep.TheVariants.{More}
use Rattle.shared_composite.specs.Endings.{HasEnded}
use Rattle.shared_composite.proofs.EndSteps.{kept_there, came_back, away_busy}
use Rattle.shared_composite.proofs.ending.put_away.Goals as goal

pub returns-in-Did-default-Kept : goal.returns-in-Did-default-Kept
returns-in-Did-default-Kept c =
    let pool = c.args.pool.now in let old = c.args.seat.now in let new = c.put_cached.new.seat in let did =
    c.in-Did-default-Kept in let id = c.args.region.id in
    let noted = subst (λ (x : Put). IsNoted pool old new (Cache id.owner id.class) did._note (plain (was_put id x)))
    did.field-1-is did.ensures.did in
    kept_there pool old new did.ensures.seat did.ensures.same did._note c.args.handle c.args.region c.requires noted

pub returns-in-Did-default-Back : goal.returns-in-Did-default-Back
returns-in-Did-default-Back c =
    let pool = c.args.pool.now in let old = c.args.seat.now in let new = c.put_cached.new.seat in let did =
    c.in-Did-default-Back in let region = c.args.region in let handle = c.args.handle in
    let noted = subst (λ (x : Put). IsNoted pool old new (Cache region.id.owner region.id.class) did._note
    (plain (was_put region.id x))) did.field-1-is did.ensures.did in
    let back = subst (λ (x : Put). IfBack x (λ r. r ≡ region)) did.field-1-is did.ensures.back in
    subst (λ (r : Region). HasEnded pool old new (AskCache region handle) (More (AskArena r handle))) (sym back)
    (came_back pool old new did.ensures.seat did.ensures.same did._note handle region did._no c.requires noted)

pub returns-in-Held : goal.returns-in-Held
returns-in-Held c =
    let pool = c.args.pool.now in let old = c.args.seat.now in let new = c.put_cached.new.seat in let held =
    c.in-Held in let region = c.args.region in let handle = c.args.handle in
    subst (λ (r : Region). HasEnded pool old new (AskCache region handle) (More (AskArena r handle)))
    (sym held.ensures.held.0)
    (away_busy pool old new held.ensures.seat held.ensures.same region handle held._held c.requires held.ensures.held.1)
