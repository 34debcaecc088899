use Rattle.std.proofs.Common.{◌≡◌, length, vec_len}
use Rattle.std.specs.Prelude.{vec_capacity}
use Rattle.nest_run.specs.Standing.{HasGone}
use Rattle.nest_run.proofs.play.play_all.Given as goal

abbrev pub invariant-loop-call : goal.invariant-loop-call
invariant-loop-call g l = record {
  gone : HasGone l.pool l.calls l.call-index l.initial.play l.replies.items l.play;
  room : vec_capacity l.replies ≡ length l.calls;
  many : vec_len l.replies ≡ l.call-index;
}
