use Rattle.std.proofs.Common.{◌+◌, length, ◌<◌, ◌≤◌, Bool, Some, sym, subst}
use Rattle.std.specs.Prelude.{MatchBool}
use Rattle.pool_law.specs.declared.note.Did.{Did}
use Rattle.pool_member.specs.declared.account.Account.{Account}
use Rattle.pool_member.specs.Alone.{LaysOver}
use Rattle.pool_member.specs.Counting.{counted, known}
use Rattle.pool_member.specs.Tries.{HasAccessed, StaysOut}
use Rattle.pool_member.proofs.Alone.{laid_after}
use Rattle.pool_member.proofs.Accessing.{accessed_after, same_account, waits_first, waits_on}
use Rattle.pool_member.proofs.work.access.set_apart.Goals as goal

pub try_set-requires-clause-counts : goal.try_set-requires-clause-counts
try_set-requires-clause-counts g c =
    subst (λ (a : Account). 0 < counted a.counts c.args.root)
    (sym (same_account c.args.pool.now c.args.member.now c.loop.member c.loop.invariant)) c.requires.counts

pub try_set-requires-clause-range : goal.try_set-requires-clause-range
try_set-requires-clause-range g c =
    subst (λ (a : Account). c.args.offset + length c.args.bytes.now ≤ known a.counts c.args.root)
    (sym (same_account c.args.pool.now c.args.member.now c.loop.member c.loop.invariant)) c.requires.range

pub try_set-requires-clause-turns : goal.try_set-requires-clause-turns
try_set-requires-clause-turns g c =
    subst (λ (a : Account). 1 ≤ a.turns)
    (sym (same_account c.args.pool.now c.args.member.now c.loop.member c.loop.invariant)) c.requires.turns

pub returns-then-try_set : goal.returns-then-try_set
returns-then-try_set g c =
    let pool = c.args.pool.now in let root = c.args.root in let mid = c.loop.member in
    let new = c.try_set.new.member in let did = (Did.Set c.args.offset c.args.bytes.now) in
    let offset = c.args.offset in let bytes = c.args.bytes.now in
    let it = subst (λ (b : Bool). MatchBool b
    (HasAccessed pool root did (Some root) mid new × LaysOver root offset bytes mid new) (StaysOut pool root mid new))
    c.if-try_set.true c.try_set.ensures in
    let all = accessed_after pool root c.args.member.now mid new did (Some root) c.loop.invariant it.0 in
    record {
      does = all.does;
      laid = laid_after c.args.member.now mid new c.loop.invariant.view root offset bytes it.1;
      moves = all.moves;
      noted = (all.number, all.noted);
    }

pub loop-init : goal.loop-init
loop-init g c = waits_first c.args.pool.now c.args.member.now c.requires.thread

pub loop-preserved : goal.loop-preserved
loop-preserved g c =
    let pool = c.args.pool.now in let root = c.args.root in let mid = c.loop.member in
    let new = c.try_set.new.member in let did = (Did.Set c.args.offset c.args.bytes.now) in
    let offset = c.args.offset in let bytes = c.args.bytes.now in
    waits_on pool root c.args.member.now mid new c.loop.invariant
    (subst (λ (b : Bool). MatchBool b
    (HasAccessed pool root did (Some root) mid new × LaysOver root offset bytes mid new) (StaysOut pool root mid new))
    c.if-try_set.false c.try_set.ensures)
