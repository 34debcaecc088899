use Rattle.std.proofs.Common.{◌≡◌, ◌+◌, [], None, drop, refl, sym, ap, arith}
use Rattle.frame_core.specs.Frames.{failure_of, frames_of, refusal}
use Rattle.frame_core.proofs.StandingLaws.{IsAt-start}
use Rattle.frame_slices.specs.Slices.{taken_by}
use Rattle.frame_slices.proofs.slicer.Slicer.new.Goals as goal

nothing-fails : failure_of [] ≡ None
unfolding failure_of
nothing-fails =
    (IsAt-start (record { place = 0; frames = 0; within = 0; head = []; refusal = None }) refl refl refl refl).failure

pub returns-clause-cut : goal.returns-clause-cut
returns-clause-cut c =
    let t : taken_by (frames_of []) ≡ 0 = ap taken_by c.new.ensures.none in
    record {
      read = c.new.ensures.read;
      sound = ap refusal nothing-fails;
      within = omega (arith, t);
      head = omega (arith, t);
      own_is = sym (ap (λ n. drop (n + 4) []) t);
    }
