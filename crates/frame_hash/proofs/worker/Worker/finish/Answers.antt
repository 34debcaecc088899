use Rattle.std.proofs.Common.{[], ◌∷◌, ◌++◌, List, sym, ap, subst, ◌∙◌}
use Rattle.crossbeam_queue.specs.Passes.{view}
use Rattle.frame_hash.specs.declared.hashes.HashOf.{HashOf}
use Rattle.frame_hash.specs.declared.worker.Work.{Work}
use Rattle.frame_hash.specs.Standing.{AreTold, IsAtWork}
use Rattle.frame_hash.specs.Told.{joined}
use Rattle.frame_hash.proofs.WorkerLaws.{tells_of}
use Rattle.frame_hash.proofs.worker.Worker.finish.Goals as goal

pub returns-clause-stands : goal.returns-clause-stands
returns-clause-stands c shared stands =
    let w = c.args.self.now in
    let f = c.args.frame in
    let got = (view w.jobs).got in
    let is = stands.work in
    let told = tells_of f got stands.pieces w.hashes.items is c.finalize-digest.result c.requires.whole
    (c.finalize-digest.ensures (joined is.own) is.holds) in
    let items = c.push_reserved.ensures.items
    ∙ ap (λ (hs : List HashOf). hs
    ++ record { number = f.number; hash = record { len = f.len; digest = c.finalize-digest.result } } ∷ [])
    c.reserve.ensures.items in
    record {
      works = stands.works;
      lane = stands.lane;
      cutter = stands.cutter;
      number = stands.number;
      receives = stands.receives;
      pieces = stands.pieces;
      taken = stands.taken;
      work =
          subst (λ (x : Work). IsAtWork x got stands.pieces c.push_reserved.new.self.items) (sym c.requires.idle)
          (subst (AreTold got stands.pieces) (sym items) told);
    }
