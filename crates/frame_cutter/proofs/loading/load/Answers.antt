use Rattle.std.proofs.Common.{◌≡◌, ◌∙◌, [], ◌++◌, List, ℕ, ap, append-nil, arith, drop, subst, sym, take, Some}
use Rattle.std.proofs.lemmas.List.{drop_all, take-append-drop}
use Rattle.frame_core.specs.Frames.{failure_of, refusal}
use Rattle.frame_cutter.specs.Finds.{GoThrough}
use Rattle.frame_cutter.specs.Loads.{IsLoaded}
use Rattle.frame_cutter.proofs.loading.load.Goals as goal
use Rattle.frame_cutter.proofs.loading.load.Goals.{in-Ok+in-Ok-go_through, in-Ok+in-Err-go_through, in-Err}

pub returns-clause-loaded : goal.returns-clause-loaded
returns-clause-loaded g c size =
    let left = g.S.Source.left in
    let faults = g.S.Source.faults in
    let m = c.match-read_block in
    let came = c.read_block.new.block in
    let most = c.min-most.ensures in
    let none : drop c.min-most.result c.args.block.now ≡ [] =
    drop_all c.min-most.result c.args.block.now (omega (arith, size, most)) in
    let whole : came ++ drop c.min-most.result c.args.block.now ≡ came =
    ap (λ (r : List ℕ). came ++ r) none ∙ append-nil came in
    subst (λ (bs : List ℕ). IsLoaded left faults m.loaded c.args.source.now c.read_block.new.source c.args.slicer
    m.slicer m.finds.items bs) (sym whole)
    (elim m.branch [
      | in-Ok+in-Ok-go_through w ↦
          let count = w.in-Ok.field-0.count in
          rw (w.loaded-is, w.slicer-is, w.finds-is) (
            take count came,
            drop count came,
            (
              sym (take-append-drop count came),
              w.in-Ok.ensures.filled.1,
              λ gone own has.
                  subst (λ (bs : List ℕ). GoThrough w.go_through.new.finds.items (take count bs) 0 gone own
                  w.go_through.new.slicer) whole (w.in-Ok-go_through.ensures.through gone own has),
            ),
          )
      | in-Ok+in-Err-go_through w ↦
          let count = w.in-Ok.field-0.count in
          rw w.loaded-is (
            take count came,
            w.in-Ok.field-0.last,
            (
              w.in-Ok.ensures.filled.1,
              λ gone own has.
                  subst (λ (bs : List ℕ). refusal (failure_of (gone ++ take count bs))
                  ≡ Some w.in-Err-go_through.why) whole (w.in-Err-go_through.ensures.refused gone own has),
            ),
          )
      | in-Err w ↦ rw w.loaded-is w.in-Err.ensures.failed
    ])
