use Rattle.std.proofs.Common.{Ok, sym, ap, subst, ◌∙◌}
use Rattle.pool_law.specs.declared.id.RegionId.{RegionId}
use Rattle.pool_law.specs.declared.note.Did.{Did}
use Rattle.run_text.specs.Lines.{IsDidTold}
use Rattle.run_text.proofs.FillLemmas.{told_take}
use Rattle.run_text.proofs.WordLemmas.{same_ok}
use Rattle.run_text.proofs.filling.Filler.done.Goals as goal

pub returns-in_ok-region-in-Take : goal.returns-in_ok-region-in-Take
returns-in_ok-region-in-Take c arenas all before did at is told =
    let o = told_take did c.in-Take.class c.in-Take.region (sym c.in-Take.is ∙ is) in
    let t = subst (λ (d : Did). IsDidTold arenas all before c.args.lane c.args.object.now d) o.1 told in
    let same = same_ok _ _ _ c.in_ok-region-in-Take.was (c.taken.ensures arenas all before o.0 at o.2 t) in
    ap Ok (ap (λ (r : RegionId). Did.Take c.in-Take.class r) same ∙ sym o.1)
