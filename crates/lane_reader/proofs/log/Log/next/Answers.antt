use Rattle.std.proofs.Common.{rules}
use Rattle.lane_reader.proofs.ReadingLemmas.{entries-past, next-there}
use Rattle.lane_reader.proofs.log.Log.next.Goals as goal

pub returns-then-at-self-clause-last : goal.returns-then-at-self-clause-last
returns-then-at-self-clause-last c =
    λ none. entries-past c.args.self.now.notes.now c.args.self.now.told.now c.args.at.place (search rules)

pub returns-clause-next : goal.returns-clause-next
returns-clause-next c before =
    next-there before c.args.self.now c.args.at c.index-self-at.result c.told_at.result c.if-at-self.false
    c.told_at.ensures
