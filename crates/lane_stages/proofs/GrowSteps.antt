-- The steps of a root that is asked for capacity, by what the pool answered.
use Rattle.std.proofs.Common.{◌≡◌, ℕ, ◌+◌, ◌^◌, ◌≤◌, List, [], ◌∷◌, ◌++◌, true, false, refl, sym, ap, ◌∙◌, subst, arith, Option, Some, None}
use Rattle.std.specs.Prelude.{map}
use Rattle.std.specs.Global.{Vec}
use Rattle.std.proofs.lemmas.List.{map-append}
use Rattle.size_classes.specs.Sizes.{chunk_bytes}
use Rattle.pool_law.specs.declared.id.RegionId.{RegionId}
use Rattle.pool_law.specs.declared.id.RootId.{RootId}
use Rattle.pool_law.specs.declared.note.Did.{Did}
use Rattle.pool_law.specs.declared.note.Held.{Held}
use Rattle.pool_law.specs.declared.note.Note.{Note}
use Rattle.pool_law.specs.declared.note.Noted.{Noted}
use Rattle.pool_law.specs.declared.note.Object.{Object}
use Rattle.pool_law.specs.declared.note.Object.TheVariants as object
use Rattle.pool_law.specs.declared.run.Shape.{Shape}
use Rattle.pool_law.specs.Counts.{root_is}
use Rattle.pool_law.specs.Naming.{noted_by}
use Rattle.pool_law.specs.Limits.{geometry_of}
use Rattle.pool_law.proofs.SameLemmas.{same_root-is}
use Rattle.pool_table.specs.declared.views.Entry.{Entry}
use Rattle.pool_table.specs.declared.views.Entry.TheVariants.{Busy}
use Rattle.pool_table.specs.declared.views.SeatView.{SeatView}
use Rattle.pool_table.specs.declared.views.Layout.{Layout}
use Rattle.pool_table.specs.Counts.{HasCount}
use Rattle.shared_pool.specs.declared.seat.PoolSeat.{PoolSeat}
use Rattle.shared_pool.specs.declared.pool.SharedPool.{SharedPool}
use Rattle.shared_pool.specs.Closing.{entry_of, note_of}
use Rattle.shared_pool.specs.Knowing.{KnowsOf}
use Rattle.shared_pool.specs.Notes.{plain}
use Rattle.shared_pool.specs.SeatLanes.{lane_of}
use Rattle.shared_pool.specs.SeatViews.{view_of, SameSeat}
use Rattle.shared_pool.specs.Seats.{IsPoolSeat, IsNoted, FoundBusy}
use Rattle.seat_work.specs.Hands.{lane_in, IsHeld}
use Rattle.seat_work.proofs.Grown.{Grows as Gains, note_at, grows_noted, grows_busy, grows_held}
use Rattle.seat_work.proofs.HandLaws.{Carries, held_on}
use Rattle.seat_work.proofs.Holds.{region_stays}
use Rattle.lane_stages.specs.declared.counts.Counted.{Counted}
use Rattle.lane_stages.specs.declared.growing.Growing.{Growing}
use Rattle.lane_stages.specs.declared.growing.Growing.TheVariants.{Ask, Cache, Arena, Grow, Put, Give}
use Rattle.lane_stages.specs.declared.growing.Regrown.{Regrown}
use Rattle.lane_stages.specs.declared.stage_step.StageStep.{StageStep}
use Rattle.lane_stages.specs.declared.stage_step.StageStep.TheVariants.{Held as HeldBack}
use Rattle.lane_stages.specs.Budgets.{Spends}
use Rattle.lane_stages.specs.Counting.{CountsAre}
use Rattle.lane_stages.specs.Growings.{MayGrow, HasGrown, Fits, FitsAfter, IsTriedAgain, Knows, asks_of, hand_of, hand_after, left_of, left_after, rest_of, rest_after}
use Rattle.lane_stages.specs.Logs.{HasWritten}
use Rattle.lane_stages.specs.NextNotes.{BeginsAt}
use Rattle.seat_work.specs.Readings.{ReadsOn}
use Rattle.lane_stages.specs.Readings.{none_asked}
use Rattle.lane_stages.proofs.EntryCounts.{recounted, still}
use Rattle.lane_stages.proofs.GrowCounts.{KeepsCounts, keeps_counts, counts_still, keeps_note, keeps_mark}
use Rattle.lane_stages.proofs.Grown.{spends}
use Rattle.lane_stages.proofs.KnownLaws.{told_in, knows_same}
use Rattle.lane_stages.proofs.LogLaws.{wrote_none}
use Rattle.lane_stages.proofs.NextNotes.{begins_there}
use Rattle.lane_stages.proofs.OneNote.{wrote_nothing, found_there}
use Rattle.lane_stages.proofs.ReadLaws.{still_on}
use Rattle.lane_stages.proofs.SeatCounts.{is_counted}

-- each stage has a note left
pub grow_left : (stage : Growing) → 1 ≤ (left_of stage).notes
grow_left Ask = omega arith
grow_left Cache = omega arith
grow_left Arena = omega arith
grow_left (Grow region) = omega arith
grow_left (Put capacity region) = omega arith
grow_left (Give capacity region) = omega arith

-- what was told of the root's capacity, and is as much as was asked
pub known_now : (pool : SharedPool) (s : PoolSeat) (root : RootId) (size capacity : ℕ) → size ≤ capacity
    → KnowsOf pool s root capacity → Knows root size capacity (view_of s)
known_now pool s root size capacity le knows = record {
  enough = le;
  most =
      (let chunk : chunk_bytes (geometry_of pool.table.layout.shape) ≤ 2 ^ 24 =
      subst (λ (l : Layout). chunk_bytes (geometry_of l.shape) ≤ 2 ^ 24) (sym pool.same_layout) pool.shape.chunk in
      let a = knows.1 in omega (arith, a, chunk));
  known = knows.0;
}

-- the view's own part got this entry, and the log its note
pub record Adds (v w : SeatView) (e : Entry) (log later : Vec Note) : Type 0 where
  pub grows : Gains v w (e ∷ []) 0
  pub keeps : KeepsCounts e
  pub uses : (q : RootId) → root_is q (entry_of e).root ≡ true → HasCount q v
  pub written : HasWritten log later (note_of e ∷ [])

-- a root that was counted is so still
pub counted_still : (v w : SeatView) (e : Entry) (log later : Vec Note) → Adds v w e log later → (q : RootId)
    → HasCount q v → HasCount q w
counted_still v w e log later adds = counts_still v w e 0 adds.grows adds.keeps

-- what tells nothing of the root leaves known what was
pub known_still : (v w : SeatView) (e : Entry) (log later : Vec Note) → Adds v w e log later → (root : RootId)
    (size capacity : ℕ) → told_in root (e ∷ []) ≡ 0 → Knows root size capacity v → Knows root size capacity w
known_still v w e log later adds root size capacity none knows = record {
  enough = knows.enough;
  most = knows.most;
  known = knows_same v w (e ∷ []) adds.grows.more.notes root none ∙ knows.known;
}

module _ (pool : SharedPool) (old new : PoolSeat) (was : IsPoolSeat pool old) (is : IsPoolSeat pool new) where
  abbrev v : SeatView
  v = view_of old

  abbrev w : SeatView
  w = view_of new

  -- ---- The entries of the calls.

  module _ (number : ℕ) (note : Note) (log later : Vec Note) (wrote : HasWritten log later (note ∷ [])) where
    -- a note at the place of a root that is counted
    module _ (root : RootId) (did : Did) (with : Option RegionId) where
      abbrev pub root_noted : Noted
      root_noted = record { did = did; lane = None; watch = None; root = Some root; region = with }

      abbrev pub root_entry : Entry
      root_entry = note_at pool old new was is (object.Root root.place) number root_noted

      pub adds_root : keeps_counts did ≡ true → HasCount root v
          → IsNoted pool old new (object.Root root.place) number root_noted
          → note ≡ Note.At (object.Root root.place) number did → Adds v w root_entry log later
      adds_root keeps has noted it = record {
        grows = grows_noted pool old new was is (object.Root root.place) number root_noted noted;
        keeps = keeps_note (object.Root root.place) number (noted_by v.own.number root_noted) keeps;
        uses = λ q here. subst (λ (x : RootId). HasCount x v) (same_root-is root q here) has;
        written = subst (λ (x : Note). HasWritten log later (x ∷ [])) it wrote;
      }

    -- a note that is of no root
    module _ (o : Object) (did : Did) where
      abbrev pub plain_entry : Entry
      plain_entry = note_at pool old new was is o number (plain did)

      pub adds_plain : keeps_counts did ≡ true → IsNoted pool old new o number (plain did) → note ≡ Note.At o number did
          → Adds v w plain_entry log later
      adds_plain keeps noted it = record {
        grows = grows_noted pool old new was is o number (plain did) noted;
        keeps = keeps_note o number (noted_by v.own.number (plain did)) keeps;
        uses = λ q here. absurd (cc here);
        written = subst (λ (x : Note). HasWritten log later (x ∷ [])) it wrote;
      }

  -- a busy mark
  pub adds_mark : (o : Object) (held : Held) (log later : Vec Note) → HasWritten log later (Note.Busy held ∷ [])
      → FoundBusy pool o true old new held → Adds v w (Busy held) log later
  adds_mark o held log later wrote found = record {
    grows = grows_busy pool old new was is o held found;
    keeps = keeps_mark held;
    uses = λ q here. absurd (cc here);
    written = wrote;
  }

module _ (pool : SharedPool) (old new : PoolSeat) (root : RootId) (size class : ℕ) (is : IsPoolSeat pool new)
    (same : SameSeat old new) where
  abbrev shape : Shape
  shape = pool.table.layout.shape

  abbrev lane : ℕ
  lane = lane_of old

  -- one entry was added
  module _ (stage : Growing) (after : StageStep Growing Regrown) (may : MayGrow pool old root size class stage)
      (e : Entry)
      (log later : Vec Note) (adds : Adds (view_of old) (view_of new) e log later) where
    -- the list of counts is right still
    counts_on : (cs : List Counted) → CountsAre cs (map entry_of (view_of old).own.notes)
        → CountsAre cs (map entry_of (view_of new).own.notes)
    counts_on cs are =
        let es = map entry_of (view_of old).own.notes in
        let more : map entry_of (view_of new).own.notes ≡ es ++ entry_of e ∷ [] = ap (map entry_of)
        adds.grows.more.notes ∙ map-append entry_of (view_of old).own.notes (e ∷ []) in
        subst (CountsAre cs) (sym more)
        (recounted cs cs es (entry_of e ∷ []) are
        (still cs (entry_of e) adds.keeps.still
        (λ q here. is_counted cs (view_of old) adds.grows.was_alone are q (adds.uses q here))))

    pub went : ReadsOn (rest_of shape lane root size class stage) (entry_of e ∷ []) (asks_of stage)
        (rest_after shape lane root size class after)
        → Carries (lane_in (view_of old)) (hand_of stage) (hand_after after) (e ∷ [])
        → FitsAfter pool new root size class after
        → IsTriedAgain pool old new root size class stage after (note_of e ∷ [])
        → Spends (view_of old) (view_of new) (left_of stage) (left_after after)
        → ((n : ℕ) → (left_after after).asks + asks_of stage n ≤ (left_of stage).asks + n)
        → HasGrown pool old new log later root size class stage after
    went read carries fits again spent asked = record {
      written = note_of e ∷ [];
      log = adds.written;
      wrote = λ sampler. record {
        added = e ∷ [];
        same = same;
        seat = is;
        more = adds.grows.more;
        noted = refl;
        sampled = adds.keeps.sampled sampler;
        read = read;
      };
      counts = counts_on;
      hand =
          held_on (view_of old) (view_of new) (e ∷ []) 0 (hand_of stage) (hand_after after) adds.grows carries may.hand;
      fits = fits;
      again = again;
      spends = spent;
      asked = asked;
    }

  -- ---- Another seat was there, and the same is to be tried again.

  fits_still : (stage : Growing) → view_of new ≡ view_of old → Fits pool old root size class stage
      → Fits pool new root size class stage
  fits_still Ask view fits = subst (λ (x : SeatView). HasCount root x) (sym view) fits
  fits_still Cache view fits = (subst (λ (x : SeatView). HasCount root x) (sym view) fits.0, fits.1)
  fits_still Arena view fits = subst (λ (x : SeatView). HasCount root x) (sym view) fits
  fits_still (Grow r) view fits = (
    subst (λ (x : SeatView). HasCount root x) (sym view) fits.0,
    region_stays pool old new r (ap (λ (x : SeatView). x.setting) view) fits.1,
    fits.2,
  )
  fits_still (Put k r) view fits = (
    region_stays pool old new r (ap (λ (x : SeatView). x.setting) view) fits.0,
    fits.1,
    subst (λ (x : SeatView). Knows root size k x) (sym view) fits.2,
  )
  fits_still (Give k r) view fits = (
    region_stays pool old new r (ap (λ (x : SeatView). x.setting) view) fits.0,
    subst (λ (x : SeatView). Knows root size k x) (sym view) fits.1,
  )

  pub grow_held : (o : Object) (held : Held) (stage again : Growing) (log : Vec Note)
      → MayGrow pool old root size class stage → asks_of stage ≡ none_asked → FoundBusy pool o false old new held
      → again ≡ stage → BeginsAt o (rest_of shape lane root size class stage)
      → HasGrown pool old new log log root size class stage (HeldBack held again)
  grow_held o held stage again log may unasked found alike begins =
      let rest = rest_of shape lane root size class stage in
      let grows : Gains (view_of old) (view_of new) [] 0 = grows_held pool old new may.seat_is is o held found in
      let view : view_of new ≡ view_of old = ap (λ m. m.0) found.marked in
      subst (λ (x : Growing). HasGrown pool old new log log root size class stage (HeldBack held x)) (sym alike)
      (record {
        written = [];
        log = wrote_none log;
        wrote =
            λ sampler. wrote_nothing pool old new may.seat_is is same sampler rest (asks_of stage) rest o held found
            (subst (λ (f : ℕ → ℕ). ReadsOn rest [] f rest) (sym unasked) (still_on rest));
        counts = λ cs. subst (λ (x : SeatView). CountsAre cs (map entry_of x.own.notes)) (sym view);
        hand = subst (λ (x : SeatView). IsHeld (hand_of stage) x) (sym view) may.hand;
        fits = fits_still stage view may.fits;
        again = (
          refl,
          refl,
          found_there pool old new may.seat_is is same o false held found,
          begins_there o held rest found.object begins,
        );
        spends =
            spends (view_of old) (view_of new) [] 0 grows (left_of stage) (left_of stage) (omega arith) (omega arith)
            (omega arith) (λ to. omega arith);
        asked = λ n. (let a = ap (λ (f : ℕ → ℕ). f n) unasked in omega (arith, a));
      })
