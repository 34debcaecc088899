use Rattle.std.proofs.Common.{sym, ◌∙◌, subst}
use Rattle.handle_bin.specs.Bins.{Makes}
use Rattle.pool_law.specs.declared.note.Did.{Did}
use Rattle.shared_pool.specs.Standing.{HomeStands}
use Rattle.shared_pool.proofs.BinHomes.{bin_more}
use Rattle.shared_pool.proofs.bins.put.Goals as goal

pub returns-clause-stands : goal.returns-clause-stands
returns-clause-stands c measures setting h n is at =
    bin_more (Did.Home c.args.handle.place) c.in-Bin.bin.value c.put.new.self
    (subst (λ b. Makes b (Did.Home c.args.handle.place) c.put.new.self) c.deref_mut.ensures.value c.put.ensures.home)
    measures setting h n is (subst (HomeStands measures setting h) (sym c.home.ensures.value ∙ c.in-Bin.is) at)
