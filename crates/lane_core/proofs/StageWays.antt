-- From each stage on there are entries that the law reads.
use Rattle.std.proofs.Common.{◌≡◌, ℕ, ◌+◌, ◌/◌, [], ◌∷◌, ◌++◌, length, refl, subst, Option, Some, None}
use Rattle.std.specs.Prelude.{Result, Ok}
use Rattle.size_classes.specs.Sizes.{class_of}
use Rattle.pool_law.specs.declared.command.Command.{Command}
use Rattle.pool_law.specs.declared.note.Object.TheVariants.{Bin}
use Rattle.pool_law.specs.declared.run.Reply.{Reply}
use Rattle.pool_law.specs.declared.run.Shape.{Shape}
use Rattle.pool_law.specs.Dids as says
use Rattle.pool_law.specs.Limits.{geometry_of}
use Rattle.pool_law.specs.LaneStates.{LaneState}
use Rattle.pool_law.specs.Lanes.{Answer, allotted, answer, composed, copied_to, get_parts, regrown, release_parts, set_parts}
use Rattle.pool_law.specs.Patterns.{New, ask_arena, drain, give_back, obtain, put_away, sheds}
use Rattle.pool_law.specs.Readers.{Reader, ◌>>=◌, ◌>>◌, access, ending as ends, give, step}
use Rattle.shared_pool.specs.declared.pool.SharedPool.{SharedPool}
use Rattle.lane_stages.specs.declared.allotment.Allotting.{Allotting}
use Rattle.lane_stages.specs.declared.allotment.Allotting.TheVariants as allots
use Rattle.lane_context.specs.declared.context.Context.{Context}
use Rattle.lane_context.specs.declared.context.Stage.{Stage}
use Rattle.lane_context.specs.declared.context.Stage.TheVariants.{Ready, Allotting as AllottingAt, Ending as EndingAt, Sweeping, Closing, Crossing as CrossingAt, Parting, Consolidating, Copying as CopyingAt, Replacing, Growing as GrowingAt}
use Rattle.lane_stages.specs.declared.copying.Copying.{Copying}
use Rattle.lane_stages.specs.declared.copying.Copying.TheVariants as copies
use Rattle.lane_stages.specs.declared.crossing.Crossing.{Crossing}
use Rattle.lane_stages.specs.declared.crossing.Crossing.TheVariants as crosses
use Rattle.lane_stages.specs.declared.draining.DrainKind.{DrainKind}
use Rattle.lane_stages.specs.declared.draining.DrainKind.TheVariants.{Trim, Close}
use Rattle.lane_stages.specs.declared.draining.Draining.{Draining}
use Rattle.lane_stages.specs.declared.draining.Draining.TheVariants as drains
use Rattle.lane_stages.specs.declared.releasing.Releasing.{Releasing}
use Rattle.lane_stages.specs.declared.retirement.Ending.{Ending}
use Rattle.lane_stages.specs.declared.retirement.Ending.TheVariants as endings
use Rattle.lane_stages.specs.Allotments as allotment
use Rattle.lane_context.specs.Composing.{crossed, ended}
use Rattle.lane_context.specs.Contexts.{Fits, IsUnderway, reads_from}
use Rattle.lane_stages.specs.Copyings as copying
use Rattle.lane_stages.specs.Crossings as crossing
use Rattle.lane_stages.specs.Drainings as draining
use Rattle.lane_stages.specs.Endings as ending
use Rattle.lane_context.specs.Readings.{swept}
use Rattle.lane_stages.specs.Growings as growing
use Rattle.lane_stages.specs.Releasings as releasing
use Rattle.lane_core.proofs.GrowWays.{grow_from}
use Rattle.lane_context.proofs.Ways.{swept_way, HasWay, allot_way, arena_way, bear_way, copied_way, copy_way, drain_way, ending_way, get_parts_way, give_back_way, give_way, home_way, obtain_way, parts_way, put_away_way, set_parts_way, set_way, sheds_way, then_way, vacated_way}

module _ (shape : Shape) (lane size class : ℕ) where
  allot_from : (stage : Allotting) → HasWay (allotment.rest_of shape lane size class stage)
  allot_from allots.Handle = allot_way shape lane size
  allot_from (allots.Cache handle) =
      then_way (obtain shape lane class) _ (obtain_way shape lane class) (bear_way lane handle.place size)
  allot_from (allots.Arena handle) =
      then_way (ask_arena shape lane class) _ (arena_way shape lane class) (bear_way lane handle.place size)
  allot_from (allots.Birth handle region) = bear_way lane handle.place size (Some region.id)
  allot_from (allots.Home handle) = bear_way lane handle.place size None

module _ (shape : Shape) where
  goes_home_way : (place : ℕ) → HasWay (ending.goes_home shape place)
  goes_home_way place = home_way (Bin (place / shape.handles)) place

  end_from : (stage : Ending) → HasWay (ending.rest_of shape stage)
  end_from (endings.Root token) =
      then_way (ends token.root) _ (ending_way token.root)
      (λ region. then_way (step token.root says.vacated) _ (vacated_way token.root)
      (λ u. then_way (put_away region) _ (put_away_way region) (λ v. goes_home_way token.root.place)))
  end_from (endings.Cache region handle) =
      then_way (put_away region.id) _ (put_away_way region.id) (λ u. goes_home_way handle.place)
  end_from (endings.Arena region handle) =
      then_way (give_back region.id) _ (give_back_way region.id) (λ u. goes_home_way handle.place)
  end_from (endings.Home handle) = goes_home_way handle.place

  rest_from : (stage : Option Ending) → HasWay (releasing.rest_in shape stage)
  rest_from None = give_way tt
  rest_from (Some stage) = end_from stage

  release_from : (stage : Releasing) → HasWay (releasing.rest_of shape stage)
  release_from stage =
      then_way (releasing.rest_in shape stage.ending) _ (rest_from stage.ending)
      (λ u. parts_way shape stage.left.items)

module _ (kind : DrainKind) (lane : ℕ) where
  none_in : (k : DrainKind) → draining.quota_in k (draining.quota_note k 0) ≡ Some 0
  none_in Trim = refl
  none_in Close = refl

  drain_on : (class : ℕ) → HasWay (drain lane (draining.quota_in kind) (draining.classes_from class))
  drain_on class =
      drain_way lane (draining.quota_in kind) (draining.quota_note kind 0) 0 (none_in kind)
      (draining.classes_from class)

  sheds_on : (class left : ℕ)
      → HasWay (draining.sheds_then kind lane class left (draining.classes_from (class + 1)))
  sheds_on class left = then_way (sheds lane class left) _ (sheds_way lane class left) (λ u. drain_on (class + 1))

  pub drain_from : (stage : Draining) → HasWay (draining.rest_of kind lane stage)
  drain_from (drains.Ask class) = drain_on class
  drain_from (drains.Shed class left) = sheds_on class left
  drain_from (drains.Give class left region) =
      then_way (give_back region.id) _ (give_back_way region.id) (λ u. sheds_on class left)
  drain_from drains.Done = give_way tt

cross_from : (stage : Crossing) → HasWay (crossing.rest_of stage)
cross_from (crosses.Set first later) =
    let left = first ∷ later.items in
    then_way (set_parts (crossing.parts_of left) (crossing.bytes_of left)) _
    (set_parts_way (crossing.parts_of left) (crossing.bytes_of left)) (λ u. give_way [])
cross_from (crosses.Get first later got) =
    let parts = crossing.parts_of (first ∷ later.items) in
    then_way (get_parts parts) _ (get_parts_way parts) (λ more. give_way (got.items ++ more))

copy_from : (stage : Copying) → HasWay (copying.rest_of stage)
copy_from (copies.Get root at first later) = copy_way root at (copying.parts_of (first ∷ later.items))
copy_from (copies.Set root at bytes later) =
    then_way (access root (says.set at bytes.items)) _ (set_way root at bytes.items)
    (λ u. copy_way root (at + length bytes.items) (copying.parts_of later.items))

-- ---- From each stage of a command.

-- the class that is kept of a size that a root is asked for is its class
abbrev pub HasItsClass : Shape → Stage → Type 0
HasItsClass shape (GrowingAt name view size class stage) = class_of (geometry_of shape) size ≡ Some class
HasItsClass shape _ = Unit {0}

pub its_class : (pool : SharedPool) (d : Context) (shape : Shape) → d.shape ≡ shape → (stage : Stage)
    → Fits pool d stage → HasItsClass shape stage
its_class pool d shape is (GrowingAt name view size class stage) fits =
    subst (λ (x : Shape). class_of (geometry_of x) size ≡ Some class) is fits.0
its_class pool d shape is _ fits = tt

-- what is read gives this
then_give : {A B : Type 0} (r : Reader A) (f : A → B) → HasWay r → HasWay (r >>= (λ a. give (f a)))
then_give r f way = then_way r (λ a. give (f a)) way (λ a. give_way (f a))

module _ (shape : Shape) (lane : ℕ) (s : LaneState) (command : Command) where
  -- it gives an answer, and behind it is the sweep that may be due
  answered : {A : Type 0} (r : Reader A) (f : A → Answer) → HasWay r
      → HasWay (r >>= (λ a. give (f a)) >>= swept lane)
  answered r f way = then_way (r >>= (λ a. give (f a))) (swept lane) (then_give r f way) (swept_way lane)

  pub stage_way : (stage : Stage) → IsUnderway stage → HasItsClass shape stage
      → HasWay (reads_from shape lane s command stage)
  stage_way Ready u is = absurd u
  stage_way (AllottingAt name size class stage) u is =
      answered (allotment.rest_of shape lane size class stage) (allotted s name)
      (allot_from shape lane size class stage)
  stage_way (EndingAt stage) u is =
      answered (ending.rest_of shape stage) (λ v. answer Reply.Freed s.names) (end_from shape stage)
  stage_way (Sweeping reply stage) u is =
      then_give (draining.rest_of Trim lane stage) (λ v. answer reply s.names) (drain_from Trim lane stage)
  stage_way (Closing stage) u is = absurd u
  stage_way (CrossingAt name marks stage) u is =
      answered (crossing.rest_of stage) (crossed s name marks stage) (cross_from stage)
  stage_way (Parting name stage) u is =
      answered (releasing.rest_of shape stage) (λ v. ended s name) (release_from shape stage)
  stage_way (Consolidating p stage) u is =
      let rest : Reader (Result New Reply) = allotment.rest_of shape lane p.size p.class stage in
      answered (rest >>= copied_to shape p.whole.value) (composed s p.name)
      (then_way rest (copied_to shape p.whole.value) (allot_from shape lane p.size p.class stage)
      (copied_way shape p.whole.value))
  stage_way (CopyingAt name whole parts stage) u is =
      let released : Reader (Unit {0}) = release_parts shape parts.items in
      answered (copying.rest_of stage >> released) (λ v. composed s name (Ok whole.value))
      (then_way (copying.rest_of stage) (λ v. released) (copy_from stage) (λ v. parts_way shape parts.items))
  stage_way (Replacing name whole stage) u is =
      answered (releasing.rest_of shape stage) (λ v. composed s name (Ok whole.value)) (release_from shape stage)
  stage_way (GrowingAt name view size class stage) u is =
      answered (growing.rest_of shape lane view.at.root size class stage) (regrown s name view.at)
      (grow_from view.at.root size shape lane class is stage)
