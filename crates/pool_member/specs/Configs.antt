-- What a pool may be opened with.
use Rattle.std.specs.Prelude.{◌≡◌, ◌*◌, ◌<◌, ◌^◌}
use Rattle.pool_law.specs.Limits.{IsShape}
use Rattle.pool_table.specs.declared.views.Layout.{Layout}
use Rattle.pool_member.specs.declared.config.Config.{Config}
use Rattle.pool_member.specs.declared.answers.OpenNo.{OpenNo}
use Rattle.pool_member.specs.declared.answers.OpenNo.TheVariants as no

-- all threads together have no more moves and turns than a pool can count
pub record HasBudget (c : Config) : Type 0 where
  pub moves : c.shape.lanes * c.moves < 2 ^ 30
  pub turns : c.shape.lanes * c.turns < 2 ^ 62

-- the layout is that of the pool, inside the limits
pub record IsLayoutOf (c : Config) (l : Layout) : Type 0 where
  pub shape_is : l.shape ≡ c.shape
  pub moves_are : l.moves ≡ c.moves
  pub turns_are : l.turns ≡ c.turns
  pub shape : IsShape c.shape
  pub budget : HasBudget c

-- the cause of a refusal, and that where memory may be refused too
abbrev pub IsRefused : Config → OpenNo → Type 0
IsRefused c no.Shape = ¬ IsShape c.shape
IsRefused c no.Budget = IsShape c.shape × (¬ HasBudget c)
IsRefused c no.Memory = ⊥

abbrev pub MayRefuse : Config → OpenNo → Type 0
MayRefuse c no.Shape = IsRefused c no.Shape
MayRefuse c no.Budget = IsRefused c no.Budget
MayRefuse c no.Memory = IsShape c.shape × HasBudget c
