use Rattle.std.proofs.Common.{sym, ◌∙◌, subst}
use Rattle.std.specs.Prelude.{Option, Some, None, IfSome, IfNone}
use Rattle.handle_bin.specs.Bins.{HandleValue, BinValue, Makes}
use Rattle.shared_pool.specs.Notes.{popped}
use Rattle.shared_pool.specs.Standing.{HomeStands}
use Rattle.shared_pool.proofs.BinHomes.{bin_more}
use Rattle.pool_law.specs.declared.note.Did.{Did}
use Rattle.shared_pool.proofs.bins.pop.Goals as goal

pub returns-clause-stands : goal.returns-clause-stands
returns-clause-stands c measures setting h n is at =
    bin_more (popped c.pop.result) c.in-Bin.bin.value c.pop.new.self
    (subst (λ b. Makes b (popped c.pop.result) c.pop.new.self) c.deref_mut.ensures.value
    (made c.deref_mut.result.now c.pop.new.self c.pop.result c.pop.ensures.handle c.pop.ensures.no_handle))
    measures setting h n is (subst (HomeStands measures setting h) (sym c.home.ensures.value ∙ c.in-Bin.is) at)
  where
    made : (old new : BinValue) (r : Option HandleValue) → IfSome r (λ h. Makes old (Did.Handle h.place) new)
        → IfNone r (Makes old Did.NoHandle new) → Makes old (popped r) new
    made old new (Some x) some none = some
    made old new None some none = none
