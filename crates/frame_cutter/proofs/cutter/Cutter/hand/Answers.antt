use Rattle.std.proofs.Common.{◌%◌, ℕ, [], ◌∷◌, ◌++◌, get_or, refl, sym, ap, subst, ◌∙◌, arith}
use Rattle.std.proofs.Math.Nat.{mod-lt}
use Rattle.std.proofs.lemmas.List.{get_or_default}
use Rattle.std.proofs.lemmas.Option.{get_or_from_slice_get}
use Rattle.std.specs.Global.{Vec}
use Rattle.std.specs.Vec.{with_item}
use Rattle.crossbeam_queue.specs.Passes.{view}
use Rattle.job_queue.specs.declared.jobs.Job.TheVariants.{Frame}
use Rattle.job_queue.specs.Jobs.{IsSender}
use Rattle.frame_cutter.specs.Standing.{CutterStands}
use Rattle.frame_cutter.proofs.HandLaws.{few_handed, few_slices, hands_job, hands_none}
use Rattle.frame_cutter.proofs.PostLaws.{counts_view, known, posts, room, slice_at_place, slice_there}
use Rattle.frame_cutter.proofs.cutter.Cutter.hand.Goals as goal

pub take_room-requires : goal.take_room-requires
take_room-requires g c =
    let d = c.args.self.now in
    let st = c.requires.stands.1 in
    let below = mod-lt d.frames st.stands.some in
    let many = st.stands.rooms in
    let long = d.rooms.ok.0 in
    omega (arith, below, many, long)

pub returns-then-not-take_room-clause-stands : goal.returns-then-not-take_room-clause-stands
returns-then-not-take_room-clause-stands g c read stands =
    let d = c.args.self.now in
    let call = c.if-not-take_room in
    subst (λ (r : Vec ℕ). CutterStands c.args.shared.now (record d { rooms = r }) read)
    (sym (call.ensures.none refl)) stands

pub post-requires-clause-room : goal.post-requires-clause-room
post-requires-clause-room g c =
    let d = c.args.self.now in
    let stands = c.requires.stands in
    let call = c.if-not-take_room in
    let there =
    slice_at_place d.slices c.args.posted c.len.result c.index.result.now c.len.ensures c.if-posted-len.true
    c.index.ensures in
    room c.args.shared.now d stands.0 stands.1 c.args.root c.args.used c.args.posted c.requires.stage c.index.result.now
    there (mod-lt d.frames stands.1.stands.some) (call.ensures.some refl)

pub post-requires-clause-view : goal.post-requires-clause-view
post-requires-clause-view g c =
    let d = c.args.self.now in
    let stands = c.requires.stands in
    let there =
    slice_at_place d.slices c.args.posted c.len.result c.index.result.now c.len.ensures c.if-posted-len.true
    c.index.ensures in
    (slice_there c.args.shared.now d stands.0 stands.1 c.args.root c.args.used c.args.posted c.requires.stage
    c.index.result.now there).view_is

pub post-requires-clause-known : goal.post-requires-clause-known
post-requires-clause-known g c =
    let d = c.args.self.now in
    let stands = c.requires.stands in
    let there =
    slice_at_place d.slices c.args.posted c.len.result c.index.result.now c.len.ensures c.if-posted-len.true
    c.index.ensures in
    known c.args.shared.now d stands.0 stands.1 c.args.root c.args.used c.args.posted c.requires.stage
    c.index.result.now there

pub post-requires-clause-counts : goal.post-requires-clause-counts
post-requires-clause-counts g c =
    let d = c.args.self.now in
    let stands = c.requires.stands in
    let there =
    slice_at_place d.slices c.args.posted c.len.result c.index.result.now c.len.ensures c.if-posted-len.true
    c.index.ensures in
    counts_view c.args.shared.now d stands.0 stands.1 c.args.root c.args.used c.args.posted c.requires.stage
    c.index.result.now there

pub returns-then-posted-len-clause-stands : goal.returns-then-posted-len-clause-stands
returns-then-posted-len-clause-stands g c read stands =
    let d = c.args.self.now in
    let there =
    slice_at_place d.slices c.args.posted c.len.result c.index.result.now c.len.ensures c.if-posted-len.true
    c.index.ensures in
    let went = c.post.ensures in
    let call = c.if-not-take_room in
    posts c.args.shared.now d read stands c.args.root c.args.used c.args.posted c.requires.stage c.index.result.now
    there
    c.post.new.seat c.post.result went.goes went.changes went.sends (mod-lt d.frames stands.stands.some) went.noted
    c.take_room.new.rooms (call.ensures.some refl) (call.ensures.taken refl)

pub overflow_cast-job : goal.overflow_cast-job
overflow_cast-job g c =
    let d = c.args.self.now in
    let stands = c.requires.stands in
    let len = c.len.ensures in
    let again = c.len-2.ensures in
    let many = d.slices.ok.0 in
    let past = c.if-posted-len.false in
    let few = few_slices c.args.shared.now d stands.0 stands.1 c.args.root c.args.used c.args.posted c.requires.stage
    (omega (arith, len, many, past)) (mod-lt d.frames stands.1.stands.some) in
    omega (arith, few, again, many)

pub push-requires : goal.push-requires
push-requires g c =
    let d = c.args.self.now in
    let stands = c.requires.stands.1 in
    let to : ℕ = d.frames % d.workers in
    let below = mod-lt d.frames stands.stands.some in
    let s = stands.served to below in
    let was = c.index_mut.result.now in
    let end_is = c.index_mut.ensures.value ∙ get_or_from_slice_get d.ends.items to s.end was s.end_is in
    let queue = get_or c.args.shared.now.queues.now to c.index-shared-worker.result in
    subst (λ p. IsSender queue p) (sym end_is) (s.sends c.index-shared-worker.result)

pub returns-then-not-push-clause-stands : goal.returns-then-not-push-clause-stands
returns-then-not-push-clause-stands g c read stands =
    let d = c.args.self.now in
    let len = c.len.ensures in
    let many = d.slices.ok.0 in
    let past = c.if-posted-len.false in
    let to : ℕ = d.frames % d.workers in
    let below = mod-lt d.frames stands.stands.some in
    let queues = c.args.shared.now.queues.now in
    let long = stands.stands.queues in
    hands_none c.args.shared.now d read stands c.args.root c.args.used c.args.posted c.requires.stage
    (omega (arith, len, many, past)) below (with_item d.ends to c.push.new.end) c.index_mut.result.now c.push.new.end
    c.index_mut.ensures.value refl
    (λ q. subst (λ x. IsSender x c.push.new.end)
    (get_or_default queues to c.index-shared-worker.result q (omega (arith, long, below))) c.push.ensures.sender)
    c.if-not-push.ensures.sent

pub overflow_add-self : goal.overflow_add-self
overflow_add-self g c =
    let d = c.args.self.now in
    let stands = c.requires.stands in
    let few = few_handed c.args.shared.now d stands.0 stands.1 c.args.root c.args.used c.args.posted c.requires.stage in
    omega (arith, few)

pub returns-clause-stands : goal.returns-clause-stands
returns-clause-stands g c read stands =
    let d = c.args.self.now in
    let len = c.len.ensures in
    let again = c.len-2.ensures in
    let many = d.slices.ok.0 in
    let past = c.if-posted-len.false in
    let to : ℕ = d.frames % d.workers in
    let below = mod-lt d.frames stands.stands.some in
    let queues = c.args.shared.now.queues.now in
    let long = stands.stands.queues in
    hands_job c.args.shared.now d read stands c.args.root c.args.used c.args.posted c.requires.stage
    (omega (arith, len, many, past)) below (with_item d.ends to c.push.new.end) c.index_mut.result.now c.push.new.end
    c.index_mut.ensures.value refl
    (λ q. subst (λ x. IsSender x c.push.new.end)
    (get_or_default queues to c.index-shared-worker.result q (omega (arith, long, below))) c.push.ensures.sender)
    c.clear.new.self c.clear.ensures.items
    (c.if-not-push.ensures.sent
    ∙ ap (λ n. (view c.index_mut.result.now).sent ++ Frame d.frames n ∷ []) (again ∙ many))
