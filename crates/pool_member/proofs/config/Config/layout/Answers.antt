use Rattle.std.proofs.Common.{◌^◌, refl, rules}
use Rattle.pool_law.specs.Limits.{IsShape}
use Rattle.pool_member.specs.Configs.{HasBudget}
use Rattle.pool_member.proofs.Budgets.{too_much}
use Rattle.pool_member.proofs.config.Config.layout.Goals as goal
use Rattle.pool_member.proofs.config.Config.layout.Goals.{then-self-threads-via-then-self-threads, then-self-threads-via-else-self-threads+then-self-threads-2}

pub returns-then-self-threads : goal.returns-then-self-threads
returns-then-self-threads c =
    let config = c.args.self.now in let lanes = config.shape.lanes in
    let shape : IsShape config.shape = search rules in
    let no : HasBudget config → ⊥ = λ budget. elim c.then-self-threads.branch [
      | then-self-threads-via-then-self-threads w ↦
          too_much 1073741823 lanes config.moves (2 ^ 30) shape.lanes_least w.if-self-threads.true refl budget.moves
      | then-self-threads-via-else-self-threads+then-self-threads-2 w ↦
          too_much 4611686018427387903 lanes config.turns (2 ^ 62) shape.lanes_least w.if-self-threads-2.true refl
          budget.turns
    ] in
    (shape, no)
