use Rattle.shared_pool.specs.Standing.{HomeStands}
use Rattle.shared_pool.proofs.ClosingLaw.{parts-whole}
use Rattle.shared_pool.proofs.laws.parts_are_whole_logs.Goals as goal

pub returns : goal.returns
returns c =
    record { whole = λ l v homes words closed lanes none. parts-whole HomeStands l v homes words closed lanes none }
