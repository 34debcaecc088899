-- A cutter that hands its frame over: all slices went, and the job goes behind them.
use Rattle.std.proofs.Common.{◌≡◌, ℕ, ◌+◌, ◌<◌, ◌≤◌, ◌≢◌, Bool, List, [], ◌∷◌, ◌++◌, length, map, get_or, take, set, eqb, eq-eqb, ne_eqb, refl, sym, ap, subst, ◌∙◌, arith, Some, append-nil, length-append}
use Rattle.std.specs.Prelude.{◌%◌, if◌then◌else◌, HoldsAt}
use Rattle.std.specs.Global.{Vec}
use Rattle.std.proofs.lemmas.List.{drop_all, length-map, length-set, map-append, take_all}
use Rattle.std.proofs.lemmas.Option.{get_or_from_slice_get}
use Rattle.crossbeam_queue.specs.Passes.{Pass, view}
use Rattle.job_queue.specs.declared.jobs.Job.{Job}
use Rattle.job_queue.specs.declared.jobs.Job.TheVariants.{Frame}
use Rattle.job_queue.specs.declared.jobs.JobLog.{JobLog}
use Rattle.job_queue.specs.Jobs.{IsSender}
use Rattle.pool_law.specs.declared.id.RootId.{RootId}
use Rattle.pool_law.specs.declared.id.ViewData.{ViewData}
use Rattle.shared_pool.specs.SeatViews.{view_of}
use Rattle.frame_core.specs.declared.limits.TheConstants.{MAX_FRAMES}
use Rattle.frame_hash.specs.declared.shared.Shared.{Shared}
use Rattle.frame_hash.specs.Told.{jobs_of, joined, pieces_of, share_of}
use Rattle.frame_cutter.specs.declared.cutter.Cutter.{Cutter}
use Rattle.frame_cutter.specs.declared.stage.Stage.{Stage}
use Rattle.frame_cutter.specs.declared.stage.Stage.TheVariants.{Cutting, Handing}
use Rattle.frame_cutter.specs.declared.stage.TheConstants.{MOST_SLICES}
use Rattle.frame_cutter.specs.Sends.{AreSlices, HasSent}
use Rattle.frame_cutter.specs.Stages.{jobs_at, pieces_at, roots_at}
use Rattle.frame_cutter.specs.Standing.{CountsJust, CutterStands, IsUnderway}
use Rattle.frame_hash.proofs.QuietLaws.{none-either}
use Rattle.frame_cutter.proofs.FewFrames.{few_frames}
use Rattle.frame_cutter.proofs.PostLaws.{handing_at}
use Rattle.frame_cutter.proofs.PushLaws.{HasEnd, ends_put}
use Rattle.frame_cutter.proofs.SentLaws.{posts_sent}
use Rattle.frame_cutter.proofs.ShareLaws.{handed_as, if_so, jobs_on, jobs_one, pieces_on, pieces_one, share_push}

module _ (shared : Shared) (d : Cutter) (read : List ℕ) (st : CutterStands shared d read) (root : RootId)
    (used gone : ℕ) (handing : d.stage ≡ Handing root used gone) where
  at : IsUnderway (Handing root used gone) d read st.handed st.pieces
  at = handing_at shared d read st root used gone handing

  -- the number of the frame has one behind it
  pub few_handed : d.frames < MAX_FRAMES
  few_handed =
      let a = few_frames (at.0 ++ take at.2.1.0.place at.1) in
      let b = ap (λ (fs : List (List ℕ)). length fs) at.2.1.2.frames in
      let c = length-append (map joined st.handed) (joined st.pieces ∷ []) in
      let e = length-map st.handed joined in let f = st.frames in
      omega (arith, a, b, c, e, f)

  module _ (all : length d.slices.items ≤ gone) where
    whole : length d.slices.items ≡ gone
    whole = let a = st.slices.many in let b = at.2.1.1 in omega (arith, a, b, all)

    -- the worker whose the frame is
    abbrev pub to : ℕ
    to = d.frames % d.workers

    abbrev share : ℕ → List (List ℕ)
    share worker = pieces_of (share_of d.workers worker 0 st.handed)

    abbrev so_far : ℕ → Bool → List (List ℕ)
    so_far worker t = share worker ++ (if t then take gone st.pieces else [])

    served_here : (worker : ℕ) → worker < d.workers
        → HasSent (view_of d.seat).own.notes d.workers worker (so_far worker (eqb to worker))
    served_here worker below =
        subst (λ (n : ℕ). HasSent (view_of d.seat).own.notes d.workers worker
        (so_far worker (eqb (n % d.workers) worker))) (sym st.frames)
        (subst (λ (s : Stage). HasSent (view_of d.seat).own.notes d.workers worker
        (pieces_at d.workers worker st.handed s st.pieces)) handing (st.served worker below).sent)

    all_taken : take gone st.pieces ≡ st.pieces
    all_taken = take_all gone st.pieces (let a = st.slices.many in let b = whole in omega (arith, a, b))

    -- as many slices as there are were sent
    pub few_slices : to < d.workers → length d.slices.items ≤ MOST_SLICES
    few_slices below =
        let s = st.served to below in
        let a = (served_here to below).count in
        let b = ap (λ (t : Bool). length (so_far to t)) (eq-eqb to to refl) in
        let c = length-append (share to) (take gone st.pieces) in
        let e = ap (λ (ps : List (List ℕ)). length ps) all_taken in
        let f = posts_sent d.workers to (view_of d.seat).own.notes in
        let g = s.few in
        let h = st.slices.many in
        omega (arith, a, b, c, e, f, g, h)

    -- ---- The worker's end behind the push.

    module _ (below : to < d.workers) (ends : Vec (Pass Job JobLog)) (was end : Pass Job JobLog)
        (was_is : was ≡ get_or d.ends.items to was) (items : ends.items ≡ set d.ends.items to end)
        (sends : HoldsAt (λ q. IsSender q end) shared.queues.now to) where
      was_its : (view was).sent ≡ jobs_of (share_of d.workers to 0 st.handed) ++ []
      was_its =
          let s = st.served to below in
          ap (λ (p : Pass Job JobLog). (view p).sent)
          (was_is ∙ get_or_from_slice_get d.ends.items to s.end was s.end_is)
          ∙ s.jobs ∙ ap (jobs_at d.workers to st.handed) handing

      low : to < length d.ends.items
      low = let a = st.stands.ends in omega (arith, a, below)

      same_many : length ends.items ≡ d.workers
      same_many = ap (λ xs. length xs) items ∙ length-set d.ends.items to end ∙ st.stands.ends

      -- the ends behind it
      ends_then : (jobs : ℕ → List Job) → (view end).sent ≡ jobs to
          → ((w : ℕ) → w ≢ to → jobs_of (share_of d.workers w 0 st.handed) ++ [] ≡ jobs w) → (w : ℕ)
          → w < d.workers → HasEnd shared ends.items w (jobs w)
      ends_then jobs sent others w under =
          let s = st.served w under in
          subst (λ (xs : List (Pass Job JobLog)). HasEnd shared xs w (jobs w)) (sym items)
          (ends_put shared d.ends.items to end (λ k. jobs_of (share_of d.workers k 0 st.handed) ++ []) jobs low sends
          sent others w
          (record {
            end = s.end;
            end_is = s.end_is;
            sends = s.sends;
            jobs_are = s.jobs ∙ ap (jobs_at d.workers w st.handed) handing;
          }))

      -- the queue was full
      pub hands_none : (view end).sent ≡ (view was).sent → CutterStands shared (record d { ends = ends }) read
      hands_none sent =
          let b = st.block in
          let inside = at.2.0 in
          let frame = at.2.1.2 in
          record {
            stands = record {
              works = st.stands.works;
              lane = st.stands.lane;
              lanes = st.stands.lanes;
              some = st.stands.some;
              queues = st.stands.queues;
              ends = same_many;
              rooms = st.stands.rooms;
            };
            block = record { some = b.some; few = b.few; class = b.class };
            counts = st.counts;
            handed = st.handed;
            pieces = st.pieces;
            frames = st.frames;
            fresh = st.fresh;
            slices = st.slices;
            served = λ w under.
                let s = st.served w under in
                let e =
                ends_then (λ k. jobs_of (share_of d.workers k 0 st.handed) ++ []) (sent ∙ was_its) (λ k ne. refl) w
                under in
                record {
                  end = e.end;
                  end_is = e.end_is;
                  sends = e.sends;
                  jobs = e.jobs_are ∙ sym (ap (jobs_at d.workers w st.handed) handing);
                  sent = s.sent;
                  few = s.few;
                  room = s.room;
                };
            others = st.others;
            underway =
                subst (λ (s : Stage). IsUnderway s (record d { ends = ends }) read st.handed st.pieces) (sym handing) (
                  at.0,
                  at.1,
                  (
                    record {
                      read_is = inside.read_is;
                      blocks = inside.blocks;
                      few = inside.few;
                      full = inside.full;
                      capacity = inside.capacity;
                      rest = inside.rest;
                      written = inside.written;
                    },
                    (at.2.1.0, at.2.1.1, record { frames = frame.frames; healthy = frame.healthy }),
                  ),
                );
          }

      -- the job was sent
      abbrev hs : List (List (List ℕ))
      hs = st.handed ++ st.pieces ∷ []

      abbrev number : ℕ
      number = d.frames

      share_then : (w : ℕ) → share_of d.workers w 0 hs
          ≡ share_of d.workers w 0 st.handed ++ if_so (eqb to w) (handed_as number st.pieces)
      share_then w =
          let f = st.frames in let e : 0 + length st.handed ≡ number = omega (arith, f) in
          share_push d.workers w 0 st.handed st.pieces
          ∙ ap (λ n. share_of d.workers w 0 st.handed ++ if_so (eqb (n % d.workers) w) (handed_as n st.pieces)) e

      jobs_then : (w : ℕ) → jobs_of (share_of d.workers w 0 hs)
          ≡ jobs_of (share_of d.workers w 0 st.handed) ++ if_so (eqb to w) (Frame number (length st.pieces))
      jobs_then w =
          ap jobs_of (share_then w)
          ∙ jobs_on (share_of d.workers w 0 st.handed) (if_so (eqb to w) (handed_as number st.pieces))
          ∙ ap (λ js. jobs_of (share_of d.workers w 0 st.handed) ++ js) (jobs_one (eqb to w) number st.pieces)

      pieces_then : (w : ℕ) → pieces_of (share_of d.workers w 0 hs) ≡ so_far w (eqb to w)
      pieces_then w =
          ap pieces_of (share_then w)
          ∙ pieces_on (share_of d.workers w 0 st.handed) (if_so (eqb to w) (handed_as number st.pieces))
          ∙ ap (λ ps. share w ++ ps) (pieces_one (eqb to w) number st.pieces)
          ∙ ap (λ ps. share w ++ (if eqb to w then ps else [])) (sym all_taken)

      abbrev job : Job
      job = Frame d.frames (length d.slices.items)

      job-is : job ≡ Frame number (length st.pieces)
      job-is i = Frame d.frames (st.slices.many i)

      jobs_to : (view end).sent ≡ (view was).sent ++ job ∷ []
          → (view end).sent ≡ jobs_of (share_of d.workers to 0 hs) ++ []
      jobs_to sent =
          let js = jobs_of (share_of d.workers to 0 st.handed) in
          let one = ap (λ (t : Bool). js ++ if_so t (Frame number (length st.pieces))) (eq-eqb to to refl) in
          sent ∙ (λ i. (was_its ∙ append-nil js) i ++ job-is i ∷ []) ∙ sym (jobs_then to ∙ one)
          ∙ sym (append-nil (jobs_of (share_of d.workers to 0 hs)))

      jobs_else : (w : ℕ) → w ≢ to → jobs_of (share_of d.workers w 0 st.handed) ++ []
          ≡ jobs_of (share_of d.workers w 0 hs) ++ []
      jobs_else w ne =
          let none = ap (λ (t : Bool). jobs_of (share_of d.workers w 0 st.handed)
          ++ if_so t (Frame number (length st.pieces))) (ne_eqb to w (λ e. ne (sym e))) in
          sym (jobs_then w ∙ none) ∙ sym (append-nil (jobs_of (share_of d.workers w 0 hs)))

      pub hands_job : (slices : Vec ViewData) → slices.items ≡ [] → (view end).sent ≡ (view was).sent ++ job ∷ []
          → CutterStands shared
          (record d { ends = ends; frames = d.frames + 1; slices = slices; stage = Cutting root used }) read
      hands_job slices none sent =
          let b = st.block in
          let inside = at.2.0 in
          let frame = at.2.1.2 in
          record {
            stands = record {
              works = st.stands.works;
              lane = st.stands.lane;
              lanes = st.stands.lanes;
              some = st.stands.some;
              queues = st.stands.queues;
              ends = same_many;
              rooms = st.stands.rooms;
            };
            block = record { some = b.some; few = b.few; class = b.class };
            counts =
                subst (λ (vs : List ViewData). CountsJust (root ∷ map (λ v. v.root) vs) (view_of d.seat))
                (drop_all gone d.slices.items all ∙ sym none)
                (subst (λ (s : Stage). CountsJust (roots_at s d.slices.items) (view_of d.seat)) handing st.counts);
            handed = hs;
            pieces = [];
            frames = (let a = st.frames in let c = length-append st.handed (st.pieces ∷ []) in omega (arith, a, c));
            fresh = st.fresh;
            slices =
                subst (λ (vs : List ViewData). AreSlices (view_of d.seat).own.notes (Some d.workers) vs []) (sym none)
                (record { many = refl; each = λ k v p v_at p_at. absurd (cc p_at) });
            served = λ w under.
                let s = st.served w under in
                let e =
                ends_then (λ k. jobs_of (share_of d.workers k 0 hs) ++ []) (jobs_to sent) jobs_else w under in
                record {
                  end = e.end;
                  end_is = e.end_is;
                  sends = e.sends;
                  jobs = e.jobs_are;
                  sent =
                      subst (λ (ps : List (List ℕ)). HasSent (view_of d.seat).own.notes d.workers w ps)
                      (sym (pieces_then w)
                      ∙ sym (append-nil (pieces_of (share_of d.workers w 0 hs)))
                      ∙ ap (λ ps. pieces_of (share_of d.workers w 0 hs) ++ ps)
                      (sym (none-either (eqb (length hs % d.workers) w))))
                      (served_here w under);
                  few =
                      (let a = s.few in let c = ap (λ vs. length vs) none in omega (arith, a, c));
                  room = s.room;
                };
            others = st.others;
            underway = (
              at.0,
              at.1,
              (
                record {
                  read_is = inside.read_is;
                  blocks = inside.blocks;
                  few = inside.few;
                  full = inside.full;
                  capacity = inside.capacity;
                  rest = inside.rest;
                  written = inside.written;
                },
                (
                  at.2.1.0,
                  record {
                    frames = frame.frames ∙ sym (map-append joined st.handed (st.pieces ∷ []));
                    healthy = frame.healthy;
                  },
                ),
              ),
            );
          }
