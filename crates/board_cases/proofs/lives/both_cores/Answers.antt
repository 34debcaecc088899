use Rattle.board_cases.proofs.Texts.{two_texts}
use Rattle.board_cases.proofs.lives.both_cores.Goals as goal

pub returns-clause-some : goal.returns-clause-some
returns-clause-some g c =
    (two_texts c.args.pool.now c.args.cores.items c.push_reserved.new.self.items c.push_reserved-2.new.self.items
    c.core.result c.core-2.result c.requires.cores.0 c.push_reserved.ensures.items c.push_reserved-2.ensures.items
    c.core.ensures c.core-2.ensures).0

pub returns-clause-many : goal.returns-clause-many
returns-clause-many g c =
    (two_texts c.args.pool.now c.args.cores.items c.push_reserved.new.self.items c.push_reserved-2.new.self.items
    c.core.result c.core-2.result c.requires.cores.0 c.push_reserved.ensures.items c.push_reserved-2.ensures.items
    c.core.ensures c.core-2.ensures).1

pub returns-clause-texts : goal.returns-clause-texts
returns-clause-texts g c =
    (two_texts c.args.pool.now c.args.cores.items c.push_reserved.new.self.items c.push_reserved-2.new.self.items
    c.core.result c.core-2.result c.requires.cores.0 c.push_reserved.ensures.items c.push_reserved-2.ensures.items
    c.core.ensures c.core-2.ensures).2
