-- The steps of releasing parts, by what was done.
use Rattle.std.proofs.Common.{◌≡◌, ℕ, ◌+◌, ◌*◌, ◌<◌, ◌≤◌, List, [], ◌∷◌, ◌++◌, length, refl, sym, ap, ◌∙◌, subst, arith, append-nil, length-append, Option, Some, None, ne_eqb}
use Rattle.std.specs.Prelude.{false, ◌==◌, All, map, option_and_then}
use Rattle.std.specs.Global.{Vec}
use Rattle.std.proofs.lemmas.List.{append_cancel_left, map-append}
use Rattle.std.proofs.lemmas.List.Elements.{All-head, All-tail}
use Rattle.pool_law.specs.declared.id.Part.{Part}
use Rattle.pool_law.specs.declared.id.RootId.{RootId}
use Rattle.pool_law.specs.declared.note.Note.{Note}
use Rattle.pool_law.specs.declared.note.RefDid.TheVariants.{Kept, Ended}
use Rattle.pool_law.specs.declared.run.Level.TheVariants.{Disabled}
use Rattle.pool_law.specs.declared.run.Reply.{Reply}
use Rattle.pool_law.specs.declared.run.Shape.{Shape}
use Rattle.pool_law.specs.Counts.{count_of}
use Rattle.pool_law.specs.Dids as says
use Rattle.pool_law.specs.Lanes.{release_parts}
use Rattle.pool_law.specs.Logs.{ToldNote}
use Rattle.pool_law.specs.Patterns.{end_of, release}
use Rattle.pool_law.specs.Readers.{Log, Reader, ◌>>◌, give, nothing, step}
use Rattle.pool_law.proofs.CompositeLemmas.{release_part-gone, release_part-counted}
use Rattle.leak_records.specs.Records.{Sampling, new_sampler}
use Rattle.pool_table.specs.declared.roots.EndToken.{EndToken}
use Rattle.shared_pool.specs.declared.seat.PoolSeat.{PoolSeat}
use Rattle.pool_table.specs.declared.views.Entry.{Entry}
use Rattle.pool_table.specs.declared.views.Entry.TheVariants.{Ref}
use Rattle.pool_table.specs.declared.views.SeatView.{SeatView}
use Rattle.pool_table.specs.Counts.{HasCount, HasToken, with_ref}
use Rattle.shared_pool.specs.SeatViews.{view_of, SameSeat, HasView}
use Rattle.shared_pool.specs.Closing.{entry_of, note_of}
use Rattle.shared_pool.specs.declared.pool.SharedPool.{SharedPool}
use Rattle.shared_pool.specs.RootNotes.{HoldsToken}
use Rattle.shared_pool.specs.Seats.{IsPoolSeat}
use Rattle.seat_work.specs.Changes.{one_for}
use Rattle.seat_work.specs.Hands.{Hand, lane_in, empty_hand, IsHeld}
use Rattle.seat_work.proofs.Counting.{one_self}
use Rattle.seat_work.proofs.Grown.{Grows, grows_ref, one_none}
use Rattle.seat_work.proofs.HandLaws.{Carries, held_on}
use Rattle.seat_work.proofs.HandNotes.{ref_carries, ended_carries}
use Rattle.lane_stages.specs.declared.counts.Counted.{Counted}
use Rattle.lane_stages.specs.declared.releasing.Releasing.{Releasing}
use Rattle.lane_stages.specs.declared.stage_step.StageStep.{StageStep}
use Rattle.lane_stages.specs.declared.stage_step.StageStep.TheVariants.{More, Held as HeldBack, Done}
use Rattle.lane_stages.specs.declared.retirement.Ending.{Ending}
use Rattle.lane_stages.specs.declared.retirement.Ending.TheVariants.{Root as EndRoot, Cache as AskCache, Arena as AskArena, Home as GoHome}
use Rattle.pool_law.specs.declared.note.Held.{Held}
use Rattle.lane_stages.specs.Budgets.{Left, notes_alone, Spends}
use Rattle.lane_stages.specs.Counting.{counted, CountsAre}
use Rattle.lane_stages.specs.Endings as ending
use Rattle.lane_stages.specs.Logs.{HasWritten}
use Rattle.seat_work.specs.Readings.{before_left, behind, ReadsOn}
use Rattle.lane_stages.specs.Readings.{none_asked}
use Rattle.lane_stages.specs.Releasings.{MayRelease, HasReleased, IsTriedAgain, IsOverAt, FitsAfter, NextCounted, hand_after, left_of, left_after, rest_of, rest_after}
use Rattle.lane_stages.specs.Sampled.{AreSampled}
use Rattle.lane_stages.specs.Wrote.{Wrote}
use Rattle.lane_stages.proofs.NextNotes.{then_begins}
use Rattle.lane_stages.proofs.EndSteps.{end_left}
use Rattle.lane_stages.proofs.EntryCounts.{Recounts, recounted, kept, ended}
use Rattle.lane_stages.proofs.SeatCounts.{adds_recounted, last_count}
use Rattle.lane_stages.proofs.Grown.{spends}
use Rattle.lane_stages.proofs.LogLaws.{wrote_none}
use Rattle.seat_work.proofs.ReadLaws.{then_on, given_on, first_on, second_on, none_then, step_on}
use Rattle.lane_stages.proofs.ReadLaws.{still_on, step_off}

-- what is left to be released
abbrev pub stage_of : Option Ending → Vec Part → Releasing
stage_of stage left = record { ending = stage; left = left }

-- ---- How the law reads the release of parts.

-- a release, by what the step on the word says
module _ (shape : Shape) (root : RootId) where
  abbrev keeps : Reader Reply
  keeps = step root says.count_kept >> give Reply.Kept

  reads_kept : ReadsOn (release shape root) (entry_of (Ref root Kept) ∷ []) none_asked (give Reply.Kept)
  reads_kept =
      let e : ToldNote = entry_of (Ref root Kept) in
      first_on keeps (end_of shape root >> give Reply.Freed) (e ∷ []) none_asked Reply.Kept
      (given_on (step root says.count_kept) (e ∷ []) none_asked (λ _. give Reply.Kept) tt
      (step_on e root says.count_kept Kept refl tt refl))

  reads_ended : ReadsOn (release shape root) (entry_of (Ref root Ended) ∷ []) none_asked
      (ending.retired shape root >> give Reply.Freed)
  reads_ended =
      let e : ToldNote = entry_of (Ref root Ended) in
      second_on keeps (end_of shape root >> give Reply.Freed) (e ∷ []) none_asked
      (ending.retired shape root >> give Reply.Freed)
      (λ log. none_then (step root says.count_kept) (λ _. give Reply.Kept) (before_left log (e ∷ []))
      (step_off e root says.count_kept Ended refl refl log))
      (then_on (end_of shape root) (e ∷ []) none_asked (λ _. give Reply.Freed) (ending.retired shape root)
      (given_on (step root says.ended) (e ∷ []) none_asked (λ _. ending.retired shape root) tt
      (step_on e root says.ended Ended refl tt refl)))

-- what follows a reading whose answer isn't used
only_then : (q : Reader (Unit {0})) (o : Option (Unit {0} × Log)) →
    option_and_then (λ got. q got.1) (option_and_then (λ got. nothing got.1)
    (option_and_then (λ got. give Reply.Freed got.1) o))
    ≡ option_and_then (λ got. q got.1) o
only_then q None = refl
only_then q (Some got) = refl

some_counted : (k : ℕ) → 0 < k → (k == 0) ≡ false
some_counted k lt = ne_eqb k 0 (λ e. absurd (omega (arith, e, lt)))

module _ (shape : Shape) (cs : List Counted) (log : Log)
    (counts : (root : RootId) → count_of root log.seen ≡ counted cs root) where
  -- the parts that aren't counted are passed by
  passed_by : (skipped rest : List Part) → All (λ p. counted cs p.root ≡ 0) skipped →
      release_parts shape (skipped ++ rest) log ≡ release_parts shape rest log
  passed_by [] rest none = refl
  passed_by (p ∷ ps) rest none =
      ap (λ (o : Option (Unit {0} × Log)). option_and_then (λ got. release_parts shape (ps ++ rest) got.1) o)
      (release_part-gone shape p log (counts p.root ∙ All-head (λ q. counted cs q.root ≡ 0) p ps none))
      ∙ passed_by ps rest (All-tail (λ q. counted cs q.root ≡ 0) p ps none)

  -- the first that is counted is released
  next_released : (before after : List Part) (root : RootId) → NextCounted cs before after (Some root) →
      release_parts shape before log ≡ (release shape root >> nothing >> release_parts shape after) log
  next_released before after root next =
      let skipped : List Part = next.0 in let p : Part = next.1 in
      let some : 0 < count_of p.root log.seen =
      (let a = counts p.root in let b = ap (counted cs) next.4 in let c = next.5 in omega (arith, a, b, c)) in
      ap (λ (ps : List Part). release_parts shape ps log) next.2 ∙ passed_by skipped (p ∷ after) next.3
      ∙ ap (λ (o : Option (Unit {0} × Log)). option_and_then (λ got. release_parts shape after got.1) o)
      (release_part-counted shape p log (some_counted (count_of p.root log.seen) some))
      ∙ ap (λ (r : RootId). (release shape r >> nothing >> release_parts shape after) log) next.4

-- where one is counted, one part at least was left
pub counted_left : (cs : List Counted) (left after : Vec Part) (root : RootId)
    → NextCounted cs left.items after.items (Some root) → length after.items + 1 ≤ length left.items
counted_left cs left after root next =
    let a = ap (λ (ps : List Part). length ps) next.2 in let b = length-append next.0 (next.1 ∷ after.items) in
    omega (arith, a, b)

-- ---- The end of a root that is under way.

alone : (stage : Ending) → ending.left_of stage ≡ notes_alone (ending.left_of stage).notes
alone (EndRoot token) = refl
alone (AskCache region handle) = refl
alone (AskArena region handle) = refl
alone (GoHome handle) = refl

alone_after : (came : StageStep Ending (Unit {0}))
    → ending.left_after came ≡ notes_alone (ending.left_after came).notes
alone_after (More stage) = alone stage
alone_after (HeldBack held stage) = alone stage
alone_after (Done answer) = refl

-- so many notes more are left before and after
with_more : (v w : SeatView) (a b k : ℕ) → Spends v w (notes_alone a) (notes_alone b)
    → Spends v w (notes_alone (a + k)) (notes_alone (b + k))
with_more v w a b k spent = record {
  notes = (let n = spent.notes in omega (arith, n));
  takes = spent.takes;
  moves = spent.moves;
  sends = spent.sends;
}

any_sampler : Sampling
any_sampler = new_sampler 0 Disabled 1

-- a root's end that is under way may go on
pub may_end : (pool : SharedPool) (seat : PoolSeat) (cs : List Counted) (stage : Ending)
    (left : Vec Part) → MayRelease pool seat cs (stage_of (Some stage) left) → ending.MayEnd pool seat stage
may_end pool seat cs stage left may =
    let some = end_left stage in
    record { seat_is = may.seat_is; turn = may.turn (omega (arith, some)); hand = may.hand; fits = may.fits }

module _ (pool : SharedPool) (old new : PoolSeat) where
  abbrev shape : Shape
  shape = pool.table.layout.shape

  abbrev v : SeatView
  v = view_of old

  abbrev w : SeatView
  w = view_of new

  module _ (cs : List Counted) (stage : Ending) (left : Vec Part)
      (may : MayRelease pool old cs (stage_of (Some stage) left)) (log later : Vec Note)
      (came : StageStep Ending (Unit {0}))
      (did : ending.HasEnded pool old new log later stage came) where
    abbrev ending_wrote : Wrote pool old new did.written any_sampler any_sampler (ending.rest_of shape stage) none_asked
        (ending.rest_after shape came)
    ending_wrote = did.wrote any_sampler

    abbrev es : List Entry
    es = ending_wrote.added

    -- what came of a step at the end
    goes_on : (after : StageStep Releasing (Unit {0})) →
        ReadsOn (rest_of shape (stage_of (Some stage) left)) (map entry_of es) none_asked (rest_after shape after)
        → IsHeld (hand_after after) w → FitsAfter pool new after
        → IsTriedAgain pool old new (stage_of (Some stage) left) after (map note_of es)
        → IsOverAt cs (stage_of (Some stage) left) after
        → Spends v w (left_of (stage_of (Some stage) left)) (left_after after) →
        HasReleased pool old new cs cs log later (stage_of (Some stage) left) after
    goes_on after reads hand fits again over spent = record {
      added = es;
      same = ending_wrote.same;
      seat = ending_wrote.seat;
      more = ending_wrote.more;
      log = subst (HasWritten log later) (sym ending_wrote.noted) did.log;
      counts =
          subst (CountsAre cs) (sym (ap (map entry_of) ending_wrote.more.notes ∙ map-append entry_of v.own.notes es))
          (recounted cs cs (map entry_of v.own.notes) (map entry_of es) may.counts
          (adds_recounted cs cs (map entry_of es) (λ root. 0) (did.counts any_sampler) (λ root. omega arith)));
      places = refl;
      sampled = λ sampler.
          subst (λ (added : List Entry). AreSampled sampler added sampler)
          (append_cancel_left v.own.notes (did.wrote sampler).added es
          (sym (did.wrote sampler).more.notes ∙ ending_wrote.more.notes)) (did.wrote sampler).sampled;
      read = λ log counts. reads log;
      hand = hand;
      fits = fits;
      again = again;
      over = over;
      spends = spent;
    }

    ending_read : ReadsOn (rest_of shape (stage_of (Some stage) left)) (map entry_of es) none_asked
        (ending.rest_after shape came >> release_parts shape left.items)
    ending_read =
        then_on (ending.rest_of shape stage) (map entry_of es) none_asked (λ _. release_parts shape left.items)
        (ending.rest_after shape came) ending_wrote.read

    ending_spent : Spends v w (left_of (stage_of (Some stage) left))
        (notes_alone ((ending.left_after came).notes + 6 * length left.items))
    ending_spent =
        with_more v w (ending.left_of stage).notes (ending.left_after came).notes (6 * length left.items)
        (subst (λ (l : Left × Left). Spends v w l.0 l.1) (λ i. (alone stage i, alone_after came i)) did.spends)

    was_noted : 0 < length did.written → 0 < length (map note_of es)
    was_noted = subst (λ (ns : List Note). 0 < length ns) (sym ending_wrote.noted)

  module _ (cs : List Counted) (stage : Ending) (left : Vec Part)
      (may : MayRelease pool old cs (stage_of (Some stage) left)) (log later : Vec Note) where
    pub end_more : (next : Ending) → ending.HasEnded pool old new log later stage (More next)
        → HasReleased pool old new cs cs log later (stage_of (Some stage) left) (More (stage_of (Some next) left))
    end_more next did =
        goes_on cs stage left may log later (More next) did (More (stage_of (Some next) left))
        (ending_read cs stage left may log later (More next) did) did.hand did.fits
        (was_noted cs stage left may log later (More next) did did.again) tt
        (ending_spent cs stage left may log later (More next) did)

    pub end_held : (held : Held) (next : Ending) → ending.HasEnded pool old new log later stage (HeldBack held next)
        → HasReleased pool old new cs cs log later (stage_of (Some stage) left)
        (HeldBack held (stage_of (Some next) left))
    end_held held next did =
        goes_on cs stage left may log later (HeldBack held next) did (HeldBack held (stage_of (Some next) left))
        (ending_read cs stage left may log later (HeldBack held next) did) did.hand did.fits (
          ap (λ (e : Ending). stage_of (Some e) left) did.again.0,
          (did.wrote any_sampler).noted ∙ did.again.1,
          did.again.2,
          then_begins held.object (ending.rest_of shape stage) (λ _. release_parts shape left.items) did.again.3,
        ) tt (ending_spent cs stage left may log later (HeldBack held next) did)

    pub end_done : ending.HasEnded pool old new log later stage (Done tt)
        → HasReleased pool old new cs cs log later (stage_of (Some stage) left) (More (stage_of None left))
    end_done did =
        goes_on cs stage left may log later (Done tt) did (More (stage_of None left))
        (ending_read cs stage left may log later (Done tt) did) did.hand tt
        (was_noted cs stage left may log later (Done tt) did did.again) tt
        (ending_spent cs stage left may log later (Done tt) did)

  -- ---- The next part that is counted.

  module _ (cs ds : List Counted) (left after : Vec Part) (root : RootId)
      (may : MayRelease pool old cs (stage_of None left)) (next : NextCounted cs left.items after.items (Some root))
      (less : (other : RootId) → counted ds other + one_for root other ≡ counted cs other)
      (places : length ds ≡ length cs) (is : IsPoolSeat pool new) (same : SameSeat old new) (log later : Vec Note)
    where
      fewer : length after.items + 1 ≤ length left.items
      fewer = counted_left cs left after root next

      split : (e : Entry) → Grows v w (e ∷ []) 0 → Recounts cs ds (entry_of e ∷ [])
          → CountsAre ds (map entry_of w.own.notes)
      split e grows counts =
          subst (CountsAre ds) (sym (ap (map entry_of) grows.more.notes ∙ map-append entry_of v.own.notes (e ∷ [])))
          (recounted cs ds (map entry_of v.own.notes) (entry_of e ∷ []) may.counts counts)

      pub part_kept : HasView new (with_ref v root Kept (v.moves + 1))
          → HasWritten log later (Note.Ref root Kept ∷ [])
          → HasReleased pool old new cs ds log later (stage_of None left) (More (stage_of None after))
      part_kept has adds =
          let e : Entry = Ref root Kept in
          let grows : Grows v w (e ∷ []) 0 = grows_ref pool old new may.seat_is is root Kept (v.moves + 1) 0 has
          (omega arith) in
          record {
            added = e ∷ [];
            same = same;
            seat = is;
            more = grows.more;
            log = adds;
            counts = split e grows (kept cs ds root next.5 less);
            places = places;
            sampled = λ sampler. refl;
            over = tt;
            read = λ l counts.
                next_released shape cs (before_left l (entry_of e ∷ [])) counts left.items after.items root next
                ∙ given_on (release shape root >> nothing) (entry_of e ∷ []) none_asked
                (λ _. release_parts shape after.items) tt
                (given_on (release shape root) (entry_of e ∷ []) none_asked (λ _. nothing) Reply.Kept
                (reads_kept shape root)) l;
            hand =
                held_on v w (e ∷ []) 0 empty_hand empty_hand grows
                (ref_carries (lane_in v) empty_hand root Kept refl refl refl) may.hand;
            fits = tt;
            again = omega arith;
            spends =
                spends v w (e ∷ []) 0 grows (notes_alone (0 + 6 * length left.items))
                (notes_alone (0 + 6 * length after.items)) (let a = fewer in omega (arith, a)) (omega arith)
                (omega arith) (λ to. omega arith);
          }

      pub part_ended : (token : EndToken) → token.root ≡ root → HoldsToken new token
          → HasView new (with_ref v root Ended v.moves) → HasWritten log later (Note.Ref root Ended ∷ []) →
          HasReleased pool old new cs ds log later (stage_of None left) (More (stage_of (Some (EndRoot token)) after))
      part_ended token token_is holds has adds =
          let e : Entry = Ref root Ended in
          let hand : Hand = record empty_hand { token = Some token.root } in
          let grows : Grows v w (e ∷ []) 0 = grows_ref pool old new may.seat_is is root Ended v.moves 0 has
          (omega arith) in
          let uncounted : HasCount root w → ⊥ =
          is.counts.ended root (subst (λ (q : RootId). HasToken q w) token_is holds.token_is) in
          let last : counted cs root ≤ 1 = last_count cs v w root 0 may.counts may.seat_is.alone grows uncounted in
          let none : counted ds root ≡ 0 =
          (let a = less root in let b = one_self root in omega (arith, a, b, last)) in
          record {
            added = e ∷ [];
            same = same;
            seat = is;
            more = grows.more;
            log = adds;
            counts = split e grows (ended cs ds root next.5 less none);
            places = places;
            sampled = λ sampler. refl;
            over = tt;
            read = λ l counts.
                next_released shape cs (before_left l (entry_of e ∷ [])) counts left.items after.items root next
                ∙ then_on (release shape root >> nothing) (entry_of e ∷ []) none_asked
                (λ _. release_parts shape after.items) (ending.retired shape root >> give Reply.Freed >> nothing)
                (then_on (release shape root) (entry_of e ∷ []) none_asked (λ _. nothing)
                (ending.retired shape root >> give Reply.Freed) (reads_ended shape root)) l
                ∙ only_then (release_parts shape after.items)
                (ending.retired shape root (behind l (entry_of e ∷ []) none_asked))
                ∙ ap (λ (q : RootId). (ending.retired shape q >> release_parts shape after.items)
                (behind l (entry_of e ∷ []) none_asked)) (sym token_is);
            hand =
                held_on v w (e ∷ []) 0 empty_hand hand grows
                (subst (λ (q : RootId). Carries (lane_in v) empty_hand (record empty_hand { token = Some q }) (e ∷ []))
                (sym token_is) (ended_carries (lane_in v) root)) may.hand;
            fits = holds;
            again = omega arith;
            spends =
                spends v w (e ∷ []) 0 grows (notes_alone (0 + 6 * length left.items))
                (notes_alone (5 + 6 * length after.items)) (let a = fewer in omega (arith, a)) (omega arith)
                (omega arith) (λ to. omega arith);
          }

-- none of the parts is counted
pub all_passed : (pool : SharedPool) (seat : PoolSeat) (cs : List Counted)
    (left after : Vec Part) (log : Vec Note) → MayRelease pool seat cs (stage_of None left)
    → NextCounted cs left.items after.items None
    → HasReleased pool seat seat cs cs log log (stage_of None left) (Done tt)
all_passed pool seat cs left after log may next =
    let shape : Shape = pool.table.layout.shape in let v : SeatView = view_of seat in
    let grows : Grows v v [] 0 = record {
      more = record {
        notes = sym (append-nil v.own.notes);
        number = refl;
        setting = refl;
        turns = omega arith;
        one = one_none;
      };
      was_alone = may.seat_is.alone;
      alone = may.seat_is.alone;
      moves = omega arith;
    } in
    record {
      added = [];
      same = (refl, refl);
      seat = may.seat_is;
      more = grows.more;
      log = wrote_none log;
      counts = may.counts;
      places = refl;
      sampled = λ sampler. refl;
      over = (refl, next.0);
      read = λ l counts.
          ap (λ (ps : List Part). release_parts shape ps (before_left l [])) (sym (append-nil left.items))
          ∙ passed_by shape cs (before_left l []) counts left.items [] next.0 ∙ still_on nothing l;
      hand = may.hand;
      fits = tt;
      again = refl;
      spends =
          spends v v [] 0 grows (notes_alone (0 + 6 * length left.items)) (notes_alone 0) (omega arith) (omega arith)
          (omega arith) (λ to. omega arith);
    }
