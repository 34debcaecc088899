use Rattle.std.proofs.Common.{ℕ, ap, ◌∙◌, sym, refl}
use Rattle.pool_law.specs.Dids as says
use Rattle.pool_law.specs.Readers.{access}
use Rattle.lane_reader.specs.Reading.{log_from}
use Rattle.lane_reader.proofs.log.Log.get_at.Goals as goal

pub returns-in_err-got-in-Plain : goal.returns-in_err-got-in-Plain
returns-in_err-got-in-Plain c before =
    let view = c.in-Plain.view in
    let none =
    ap (λ (n : ℕ). access view.root (says.get n c.args.len) (log_from before c.args.self.now c.args.at))
    (sym c.root_index.ensures)
    ∙ c.in_err-got-in-Plain.ensures before in
    rw (c.in-Plain.is, c.from_residual.ensures, none) refl
