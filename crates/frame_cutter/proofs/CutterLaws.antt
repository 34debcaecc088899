-- What the end of a stream tells, and stages with nothing in hand.
use Rattle.std.proofs.Common.{◌≡◌, ℕ, true, List, [], map, refl, sym, ap, ◌∙◌, Option, Some, None}
use Rattle.std.specs.Prelude.{Ok, Err}
use Rattle.frame_core.specs.declared.frame.FrameNo.{FrameNo}
use Rattle.frame_core.specs.declared.frame.FrameNo.TheVariants as nos
use Rattle.frame_core.specs.Frames.{count_or, failure_of, frames_of, refusal}
use Rattle.frame_hash.specs.Told.{joined}
use Rattle.frame_cutter.specs.declared.cutter.Cutter.{Cutter}
use Rattle.frame_cutter.specs.declared.stage.Stage.{Stage}
use Rattle.frame_cutter.specs.declared.stage.Stage.TheVariants.{Filling, LettingGo}
use Rattle.frame_cutter.specs.Stages.{block_roots, ends_at, gone_of}
use Rattle.frame_cutter.specs.Standing.{HasVerdict, verdict_of}
use Rattle.frame_cutter.specs.Stops.{StopsWithin}
use Rattle.frame_cutter.proofs.MovedLaws.{KeepsTold}

-- ---- What the end of a stream tells.

pub ok-sound : (frames : List (List ℕ)) (failure : Option FrameNo) (count : ℕ) → Ok count ≡ count_or frames failure
    → failure ≡ None
ok-sound frames None count e = refl
ok-sound frames (Some why) count e = absurd (cc e)

pub err-why : (frames : List (List ℕ)) (failure : Option FrameNo) (why : FrameNo)
    → Err why ≡ count_or frames failure → failure ≡ Some why
err-why frames None why e = absurd (cc e)
err-why frames (Some other) why e = cc e

-- where the bytes before meet no refusal, the end alone can be wrong
pub ended_so : (e : Cutter) (read gone : List ℕ) (handed : List (List (List ℕ))) → e.last ≡ true → read ≡ gone
    → refusal (failure_of gone) ≡ None → frames_of gone ≡ map joined handed → StopsWithin e.block read
    → (failure : Option FrameNo) → failure_of gone ≡ failure → HasVerdict (verdict_of failure) e read handed
ended_so e read gone handed last is sound frames stops None failed =
    (last, ap failure_of is ∙ failed, ap frames_of is ∙ frames)
ended_so e read gone handed last is sound frames stops (Some (nos.Inside number)) failed =
    (last, ap failure_of is ∙ failed, stops)
ended_so e read gone handed last is sound frames stops (Some (nos.Length number)) failed =
    (tt, ap failure_of is ∙ failed, stops)
ended_so e read gone handed last is sound frames stops (Some nos.Frames) failed =
    (tt, ap failure_of is ∙ failed, stops)
ended_so e read gone handed last is sound frames stops (Some nos.Stream) failed =
    (tt, ap failure_of is ∙ failed, stops)

-- ---- Stages with nothing in hand.

-- the stage has nothing in hand, and told no worker of the end
pub record IsPlain (stage : Stage) : Type 0 where
  pub roots : block_roots stage ≡ []
  pub gone : gone_of stage ≡ 0
  pub ends : (worker : ℕ) → ends_at stage worker ≡ []

pub filling-plain : IsPlain Filling
filling-plain = record { roots = refl; gone = refl; ends = λ worker. refl }

pub letting_go-plain : IsPlain LettingGo
letting_go-plain = record { roots = refl; gone = refl; ends = λ worker. refl }

pub keeps_told : (workers : ℕ) (old new : Stage) → IsPlain old → IsPlain new → KeepsTold workers old new
keeps_told workers old new x y = record {
  before = x.gone;
  behind = y.gone;
  ends = λ worker below. x.ends worker ∙ sym (y.ends worker);
}
