use Rattle.std.proofs.Common.{◌≡◌, ℕ, List, Ok, Err, subst, arith}
use Rattle.frame_core.specs.declared.frame.FrameNo.TheVariants.{Inside}
use Rattle.frame_core.specs.contracts.cutter.Cutter.{the_view}
use Rattle.frame_core.specs.Frames.{frames_of, failure_of, count_or}
use Rattle.frame_core.specs.Standing.{Standing, HasRead}
use Rattle.frame_core.proofs.CountLaws.{count-inside, count-between}
use Rattle.frame_core.proofs.cutter.Cutter.finish.Goals as goal

pub returns-in-None : goal.returns-in-None
returns-in-None c =
    let at = c.self.inside in
    let P : Standing → Type 0 = λ s. (bytes : List ℕ) → HasRead s bytes
    → Err (Inside at.frames) ≡ count_or (frames_of bytes) (failure_of bytes) in
    subst P c.self.view_is (λ bytes read. count-inside (the_view at) bytes c.in-None.is c.if-self-gt0.true read)

pub returns-in-None-2 : goal.returns-in-None-2
returns-in-None-2 c =
    let at = c.self.inside in
    let P : Standing → Type 0 = λ s. (bytes : List ℕ) → HasRead s bytes
    → Ok at.frames ≡ count_or (frames_of bytes) (failure_of bytes) in
    subst P c.self.view_is (λ bytes read. count-between (the_view at) bytes c.in-None.is (omega arith) read)
