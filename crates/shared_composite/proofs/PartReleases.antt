-- How the law reads the release of a component, by what the step on its root's count says.
use Rattle.std.proofs.Common.{◌≡◌, List, [], ◌∷◌, refl, ◌∙◌}
use Rattle.std.specs.Prelude.{Option, Some, None, option_and_then}
use Rattle.pool_law.specs.declared.id.Part.{Part}
use Rattle.pool_law.specs.declared.id.RootId.{RootId}
use Rattle.pool_law.specs.declared.note.RefDid.TheVariants.{Kept, Ended}
use Rattle.pool_law.specs.declared.run.Reply.{Reply}
use Rattle.pool_law.specs.declared.run.Shape.{Shape}
use Rattle.pool_law.specs.Dids as says
use Rattle.pool_law.specs.Logs.{ToldNote}
use Rattle.pool_law.specs.Patterns.{end_of, release}
use Rattle.pool_law.specs.Readers.{Log, Reader, ◌>>◌, give, step}
use Rattle.pool_table.specs.declared.views.Entry.TheVariants.{Ref}
use Rattle.shared_pool.specs.Closing.{entry_of}
use Rattle.lane_stages.specs.Endings.{retired}
use Rattle.seat_work.specs.Readings.{before_left, behind, ReadsOn}
use Rattle.lane_stages.specs.Readings.{none_asked}
use Rattle.seat_work.proofs.ReadLaws.{then_on, given_on, first_on, second_on, none_then, step_on}
use Rattle.lane_stages.proofs.ReadLaws.{step_off}
use Rattle.shared_composite.specs.Cores.{releases}

-- what follows a reading whose answer isn't used
freed_then : (q : Reader (Unit {0})) (o : Option (Unit {0} × Log)) →
    option_and_then (λ got. q got.1) (option_and_then (λ got. give Reply.Freed got.1) o)
    ≡ option_and_then (λ got. q got.1) o
freed_then q None = refl
freed_then q (Some got) = refl

module _ (shape : Shape) (root : RootId) where
  abbrev keeps : Reader Reply
  keeps = step root says.count_kept >> give Reply.Kept

  reads_kept : ReadsOn (release shape root) (entry_of (Ref root Kept) ∷ []) none_asked (give Reply.Kept)
  reads_kept =
      let e : ToldNote = entry_of (Ref root Kept) in
      first_on keeps (end_of shape root >> give Reply.Freed) (e ∷ []) none_asked Reply.Kept
      (given_on (step root says.count_kept) (e ∷ []) none_asked (λ _. give Reply.Kept) tt
      (step_on e root says.count_kept Kept refl tt refl))

  reads_ended : ReadsOn (release shape root) (entry_of (Ref root Ended) ∷ []) none_asked
      (retired shape root >> give Reply.Freed)
  reads_ended =
      let e : ToldNote = entry_of (Ref root Ended) in
      second_on keeps (end_of shape root >> give Reply.Freed) (e ∷ []) none_asked
      (retired shape root >> give Reply.Freed)
      (λ log. none_then (step root says.count_kept) (λ _. give Reply.Kept) (before_left log (e ∷ []))
      (step_off e root says.count_kept Ended refl refl log))
      (then_on (end_of shape root) (e ∷ []) none_asked (λ _. give Reply.Freed) (retired shape root)
      (given_on (step root says.ended) (e ∷ []) none_asked (λ _. retired shape root) tt
      (step_on e root says.ended Ended refl tt refl)))

-- the first of these parts is released
module _ (shape : Shape) (p : Part) (ps : List Part) where
  pub first_kept : ReadsOn (releases shape (p ∷ ps)) (entry_of (Ref p.root Kept) ∷ []) none_asked (releases shape ps)
  first_kept =
      given_on (release shape p.root) (entry_of (Ref p.root Kept) ∷ []) none_asked (λ _. releases shape ps) Reply.Kept
      (reads_kept shape p.root)

  pub first_ended : ReadsOn (releases shape (p ∷ ps)) (entry_of (Ref p.root Ended) ∷ []) none_asked
      (retired shape p.root >> releases shape ps)
  first_ended log =
      then_on (release shape p.root) (entry_of (Ref p.root Ended) ∷ []) none_asked (λ _. releases shape ps)
      (retired shape p.root >> give Reply.Freed) (reads_ended shape p.root) log
      ∙ freed_then (releases shape ps) (retired shape p.root (behind log (entry_of (Ref p.root Ended) ∷ []) none_asked))
