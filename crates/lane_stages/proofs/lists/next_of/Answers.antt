use Rattle.std.proofs.Common.{sym, ◌∙◌}
use Rattle.lane_stages.proofs.VecLaws.{first-is, none-in, some-in}
use Rattle.lane_stages.proofs.lists.next_of.Goals as goal

pub returns-then-is_empty : goal.returns-then-is_empty
returns-then-is_empty g c = none-in c.args.left (sym c.is_empty.ensures ∙ c.if-is_empty.true)

pub returns : goal.returns
returns g c =
    let left = c.args.left in let call = c.remove-first in
    first-is left.items call.result call.new.self.items (some-in left (sym c.is_empty.ensures ∙ c.if-is_empty.false))
    call.ensures.value call.ensures.items
