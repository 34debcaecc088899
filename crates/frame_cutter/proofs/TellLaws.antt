-- A worker is told that nothing more comes, or its queue is full.
use Rattle.std.proofs.Common.{◌≡◌, ℕ, ◌+◌, ◌<◌, ◌≤◌, ◌≢◌, Bool, true, false, List, [], ◌∷◌, ◌++◌, length, set, refl, sym, ap, subst, ◌∙◌, arith, append-nil}
use Rattle.std.specs.Prelude.{HoldsAt, nat_lt, if◌then◌else◌}
use Rattle.std.specs.Global.{Vec}
use Rattle.std.proofs.lemmas.Bool.{le-ltb, lt-ltb, ltb-false, ltb-true}
use Rattle.std.proofs.lemmas.List.{length-set}
use Rattle.crossbeam_queue.specs.Passes.{Pass, view}
use Rattle.job_queue.specs.declared.jobs.Job.{Job}
use Rattle.job_queue.specs.declared.jobs.Job.TheVariants.{End}
use Rattle.job_queue.specs.declared.jobs.JobLog.{JobLog}
use Rattle.job_queue.specs.Jobs.{IsSender}
use Rattle.frame_hash.specs.declared.shared.Shared.{Shared}
use Rattle.frame_hash.specs.Told.{jobs_of, share_of}
use Rattle.frame_cutter.specs.declared.cutter.Cutter.{Cutter}
use Rattle.frame_cutter.specs.declared.stage.Stage.{Stage}
use Rattle.frame_cutter.specs.declared.stage.Stage.TheVariants.{Ending}
use Rattle.frame_cutter.specs.Stages.{jobs_at}
use Rattle.frame_cutter.specs.Standing.{CutterStands, HasBlock, HasServed, StandsAt}
use Rattle.frame_cutter.proofs.EndLaws.{verdict_same}
use Rattle.frame_cutter.proofs.PushLaws.{HasEnd, ends_put}

-- ---- Which workers were told.

-- what a worker that was told got
abbrev told_if : Bool → List Job
told_if b = if b then End ∷ [] else []

told_more : (worker next : ℕ) → worker ≢ next → (b : Bool) → nat_lt worker next ≡ b → b ≡ nat_lt worker (next + 1)
told_more worker next ne true e =
    let low = ltb-true worker next e in sym (lt-ltb worker (next + 1) (omega (arith, low)))
told_more worker next ne false e =
    let high = ltb-false worker next e in sym (le-ltb worker (next + 1) (omega (arith, high, ne)))

others_same : (worker next : ℕ) → worker ≢ next
    → told_if (nat_lt worker next) ≡ told_if (nat_lt worker (next + 1))
others_same worker next ne = ap told_if (told_more worker next ne (nat_lt worker next) refl)

not_yet : (next : ℕ) → told_if (nat_lt next next) ≡ []
not_yet next = ap told_if (le-ltb next next (omega arith))

now_told : (next : ℕ) → told_if (nat_lt next (next + 1)) ≡ End ∷ []
now_told next = ap told_if (lt-ltb next (next + 1) (omega arith))

-- a cutter whose stage is known
pub at_ending : (shared : Shared) (d : Cutter) (read : List ℕ) (next : ℕ) → d.stage ≡ Ending next
    → CutterStands shared d read
    → CutterStands shared (record d { stage = Ending next }) read
at_ending shared d read next ending st = subst (λ (s : Stage). CutterStands shared (record d { stage = s }) read)
    ending st

module _ (shared : Shared) (d : Cutter) (read : List ℕ) (next : ℕ)
    (st : CutterStands shared (record d { stage = Ending next }) read) (below : next < d.workers)
    (ends : Vec (Pass Job JobLog)) (end : Pass Job JobLog) (put : ends.items ≡ set d.ends.items next end)
    (sends : HoldsAt (λ q. IsSender q end) shared.queues.now next) where
  -- the end of the worker as it was
  abbrev old : Pass Job JobLog
  old = (st.served next below).end

  abbrev jobs_then : ℕ → ℕ → List Job
  jobs_then told worker = jobs_at d.workers worker st.handed (Ending told)

  long : length ends.items ≡ d.workers
  long =
      let a = ap (λ (es : List (Pass Job JobLog)). length es) put in let b = length-set d.ends.items next end in
      let c = st.stands.ends in
      omega (arith, a, b, c)

  -- so many are told now, where the jobs of the others are the same
  module _ (told : ℕ) (in_time : told ≤ d.workers) (sent : (view end).sent ≡ jobs_then told next)
      (others : (worker : ℕ) → worker ≢ next → jobs_then next worker ≡ jobs_then told worker) where
    end_then : (worker : ℕ) → worker < d.workers → HasEnd shared ends.items worker (jobs_then told worker)
    end_then worker low =
        subst (λ (es : List (Pass Job JobLog)). HasEnd shared es worker (jobs_then told worker)) (sym put)
        (ends_put shared d.ends.items next end (jobs_then next) (jobs_then told)
        (let c = st.stands.ends in omega (arith, c, below)) sends sent others worker
        (let s = st.served worker low in
        record { end = s.end; end_is = s.end_is; sends = s.sends; jobs_are = s.jobs }))

    served_then : (worker : ℕ) → worker < d.workers
        → HasServed shared (record d { ends = ends; stage = Ending told }) st.handed st.pieces worker
    served_then worker low =
        let s = st.served worker low in let e = end_then worker low in
        record {
          end = e.end;
          end_is = e.end_is;
          sends = e.sends;
          jobs = e.jobs_are;
          sent = s.sent;
          few = s.few;
          room = s.room;
        }

    stands_then : StandsAt shared (record d { ends = ends; stage = Ending told })
    stands_then =
        let s = st.stands in
        record {
          works = s.works;
          lane = s.lane;
          lanes = s.lanes;
          some = s.some;
          queues = s.queues;
          ends = long;
          rooms = s.rooms;
        }

    block_then : HasBlock shared (record d { ends = ends; stage = Ending told })
    block_then =
        let b = st.block in record { some = b.some; few = b.few; class = b.class }

    tells_so : CutterStands shared (record d { ends = ends; stage = Ending told }) read
    tells_so = record {
      stands = stands_then;
      block = block_then;
      counts = st.counts;
      handed = st.handed;
      pieces = st.pieces;
      frames = st.frames;
      fresh = st.fresh;
      slices = st.slices;
      served = served_then;
      others = st.others;
      underway = (
        verdict_same (record d { stage = Ending next }) (record d { ends = ends; stage = Ending told }) refl refl read
            st.handed d.verdict st.underway.0,
        in_time,
        st.underway.2,
      );
    }

  -- the queue was full
  pub tells_none : (view end).sent ≡ (view old).sent
      → CutterStands shared (record d { ends = ends; stage = Ending next }) read
  tells_none sent =
      tells_so next (omega (arith, below)) (sent ∙ (st.served next below).jobs) (λ worker ne. refl)

  -- it was told
  pub tells_one : (view end).sent ≡ (view old).sent ++ End ∷ []
      → CutterStands shared (record d { ends = ends; stage = Ending (next + 1) }) read
  tells_one sent =
      let own = jobs_of (share_of d.workers next 0 st.handed) in
      tells_so (next + 1) (omega (arith, below))
      (sent ∙ ap (λ (js : List Job). js ++ End ∷ [])
      ((st.served next below).jobs ∙ ap (λ (js : List Job). own ++ js) (not_yet next) ∙ append-nil own)
      ∙ sym (ap (λ (js : List Job). own ++ js) (now_told next)))
      (λ worker ne. ap (λ (js : List Job). jobs_of (share_of d.workers worker 0 st.handed) ++ js)
      (others_same worker next ne))
