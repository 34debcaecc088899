use Rattle.std.proofs.Common.{ap, sym, ◌∙◌}
use Rattle.frame_core.specs.Frames.{failure_of, frames_of}
use Rattle.frame_cutter.proofs.CutterLaws.{err-why, ok-sound}
use Rattle.frame_cutter.specs.Standing.{verdict_of}
use Rattle.frame_cutter.proofs.cutter.Cutter.finish.Goals as goal
use Rattle.frame_cutter.proofs.cutter.Cutter.finish.Goals.{in-Ok, in-Err}

pub returns-clause-verdict : goal.returns-clause-verdict
returns-clause-verdict c bytes own has =
    elim c.match-finish.branch [
      | in-Ok w ↦
          w.self-is ∙ ap verdict_of (sym (ok-sound (frames_of bytes) (failure_of bytes) w.in-Ok._frames
          (w.in-Ok.ensures bytes own has)))
      | in-Err w ↦
          w.self-is ∙ ap verdict_of (sym (err-why (frames_of bytes) (failure_of bytes) w.in-Err.why
          (w.in-Err.ensures bytes own has)))
    ]
