use Rattle.std.proofs.Common.{◌<◌, [], ◌∷◌, ◌++◌, ap, arith, get_or, refl, subst, sym, ◌∙◌}
use Rattle.std.proofs.lemmas.List.{get_or_default}
use Rattle.std.proofs.lemmas.Option.{get_or_from_slice_get}
use Rattle.std.specs.Vec.{with_item}
use Rattle.crossbeam_queue.specs.Passes.{Pass, view}
use Rattle.job_queue.specs.declared.jobs.Job.{Job}
use Rattle.job_queue.specs.declared.jobs.Job.TheVariants.{End}
use Rattle.job_queue.specs.declared.jobs.JobLog.{JobLog}
use Rattle.job_queue.specs.Jobs.{IsSender}
use Rattle.frame_cutter.specs.declared.stage.Stage.{Stage}
use Rattle.frame_cutter.specs.Standing.{CutterStands}
use Rattle.frame_cutter.proofs.EndLaws.{over}
use Rattle.frame_cutter.proofs.TellLaws.{at_ending, tells_none, tells_one}
use Rattle.frame_cutter.proofs.cutter.Cutter.tell.Goals as goal

pub returns-then-next-self-clause-stands : goal.returns-then-next-self-clause-stands
returns-then-next-self-clause-stands g c read st =
    over c.args.shared.now c.args.self.now read st c.args.next c.requires.stage (omega arith)

pub push-requires : goal.push-requires
push-requires g c =
    let shared = c.args.shared.now in
    let d = c.args.self.now in
    let st = at_ending shared d c.requires.stands.0 c.args.next c.requires.stage c.requires.stands.1 in
    let early = st.underway.1 in
    let below : c.args.next < d.workers = omega (arith, early) in
    let s = st.served c.args.next below in
    let was = c.index_mut.result.now in
    let end_is = c.index_mut.ensures.value ∙ get_or_from_slice_get d.ends.items c.args.next s.end was s.end_is in
    subst (λ p. IsSender (get_or shared.queues.now c.args.next c.index-shared-next.result) p) (sym end_is)
    (s.sends c.index-shared-next.result)

pub returns-then-not-push-clause-stands : goal.returns-then-not-push-clause-stands
returns-then-not-push-clause-stands g c read stands =
    let shared = c.args.shared.now in
    let d = c.args.self.now in
    let next = c.args.next in
    let st = at_ending shared d read next c.requires.stage stands in
    let early = st.underway.1 in
    let below : next < d.workers = omega (arith, early) in
    let s = st.served next below in
    let was = c.index_mut.result.now in
    let end_is = c.index_mut.ensures.value ∙ get_or_from_slice_get d.ends.items next s.end was s.end_is in
    let long = st.stands.queues in
    subst (λ (t : Stage). CutterStands shared (record d { ends = with_item d.ends next c.push.new.end; stage = t })
    read)
    (sym c.requires.stage)
    (tells_none shared d read next st below (with_item d.ends next c.push.new.end) c.push.new.end refl
    (λ q. subst (λ x. IsSender x c.push.new.end)
    (get_or_default shared.queues.now next c.index-shared-next.result q (omega (arith, long, below)))
    c.push.ensures.sender)
    (c.if-not-push.ensures.sent ∙ ap (λ (e : Pass Job JobLog). (view e).sent) end_is))

pub returns-clause-stands : goal.returns-clause-stands
returns-clause-stands g c read stands =
    let shared = c.args.shared.now in
    let d = c.args.self.now in
    let next = c.args.next in
    let st = at_ending shared d read next c.requires.stage stands in
    let early = st.underway.1 in
    let below : next < d.workers = omega (arith, early) in
    let s = st.served next below in
    let was = c.index_mut.result.now in
    let end_is = c.index_mut.ensures.value ∙ get_or_from_slice_get d.ends.items next s.end was s.end_is in
    let long = st.stands.queues in
    tells_one shared d read next st below (with_item d.ends next c.push.new.end) c.push.new.end refl
    (λ q. subst (λ x. IsSender x c.push.new.end)
    (get_or_default shared.queues.now next c.index-shared-next.result q (omega (arith, long, below)))
    c.push.ensures.sender)
    (c.if-not-push.ensures.sent
    ∙ ap (λ (e : Pass Job JobLog). (view e).sent ++ End ∷ []) end_is)
