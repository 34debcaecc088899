-- The headline at each moment of a run.
use Rattle.std.specs.Prelude.{◌≡◌, List, ◌∷◌, ◌++◌}
use Rattle.pool_law.specs.declared.run.Run.{Run}
use Rattle.pool_law.specs.Legal.{logs_of}
use Rattle.run_laws.specs.Headline.{Headline}
use Rattle.run_order.specs.Order.{Step, InOneOrder}
use Rattle.order_laws.specs.Moments.{Moment, FindsReturned, GetsLastWritten}

-- what a run gives, read at the end and at each moment of the order in which its steps were made
pub record HeadlineInOrder (run : Run) : Type 0 where
  -- at the end
  pub headline : Headline run
  -- all steps of all lanes stand in one order
  pub order : InOneOrder (logs_of run)
  -- after each front of them regions in use lie apart, a root lives exactly while it is counted, and
  -- what has returned returned after its root's end or growth
  pub moments : (before after : List Step) → order.steps ≡ before ++ after →
      Moment (logs_of run) before
  -- a region returns before another root is born on its bytes, or grows into them
  pub reuses : (before after : List Step) (x : Step) → order.steps ≡ before ++ x ∷ after →
      FindsReturned (logs_of run) before x.note
  -- each read gives what was last written before it
  pub reads : (before after : List Step) (x : Step) → order.steps ≡ before ++ x ∷ after →
      GetsLastWritten (logs_of run) before x.note
