-- The turns of a command that is under way, by what its stage wrote.
use Rattle.std.proofs.Common.{◌≡◌, ℕ, ◌+◌, ◌<◌, ◌≤◌, List, [], ◌∷◌, ◌++◌, length, map, refl, sym, ap, ◌∙◌, subst, arith, le-leb, Option, Some}
use Rattle.std.proofs.lemmas.List.{length-map}
use Rattle.pool_law.specs.declared.command.Command.{Command}
use Rattle.pool_law.specs.declared.id.RootId.{RootId}
use Rattle.pool_law.specs.declared.note.Note.{Note}
use Rattle.pool_law.specs.declared.run.Reply.{Reply}
use Rattle.pool_law.specs.LaneLaw.{sweep_period, before_stop}
use Rattle.pool_law.specs.LaneStates.{LaneState}
use Rattle.pool_law.specs.Lanes.{Answer, answer}
use Rattle.pool_law.specs.Names.{Names, Bound}
use Rattle.pool_law.specs.Readers.{ToldNotes, Log, Reader, ◌>>=◌, give}
use Rattle.pool_table.specs.declared.views.Entry.{Entry}
use Rattle.shared_pool.specs.SeatViews.{view_of, SameSeat}
use Rattle.shared_pool.specs.declared.pool.SharedPool.{SharedPool}
use Rattle.shared_pool.specs.Closing.{note_of, entry_of}
use Rattle.shared_pool.specs.SeatLanes.{lane_of}
use Rattle.shared_pool.specs.Seats.{IsPoolSeat}
use Rattle.lane_stages.specs.declared.counts.Counted.{Counted}
use Rattle.lane_context.specs.declared.context.Context.{Context}
use Rattle.lane_context.specs.declared.context.Stage.{Stage}
use Rattle.lane_context.specs.declared.context.Stage.TheVariants.{Ready, Allotting, Ending, Sweeping, Closing, Crossing, Parting, Consolidating, Copying, Replacing, Growing}
use Rattle.lane_context.specs.declared.context.Turn.{Turn}
use Rattle.lane_context.specs.declared.context.Turn.TheVariants.{Went, Pending, Waiting}
use Rattle.lane_stages.specs.declared.draining.Draining.TheVariants.{Ask}
use Rattle.lane_stages.specs.Drainings as draining
use Rattle.lane_stages.specs.Budgets.{Left, Spends, notes_alone, with_sheds}
use Rattle.lane_stages.specs.Counting.{counted}
use Rattle.seat_work.specs.Hands.{Hand, empty_hand, IsHeld}
use Rattle.lane_context.specs.Named.{NamesAre}
use Rattle.lane_stages.specs.Sampled.{AreSampled}
use Rattle.seat_work.specs.Growth.{HasMore}
use Rattle.seat_work.specs.Readings.{ReadsOn}
use Rattle.lane_context.specs.Readings.{swept}
use Rattle.lane_context.specs.Contexts.{IsContext, log_of, reads_from, left_now, ContextGrew, GoesOn, Waits, SpendsAt, HasTurned}
use Rattle.lane_context.specs.ContextSteps.{HasNoted, HasReplied, Concludes}
use Rattle.lane_context.proofs.NameLaws.{RebindsAt, rebound_more}
use Rattle.lane_stages.proofs.EntryCounts.{Recounts}
use Rattle.seat_work.proofs.ReadLaws.{given_on}
use Rattle.lane_context.proofs.ReadLaws.{sweeps_on}
use Rattle.lane_context.proofs.ContextLaws.{Advances, entries_more, reads_at, spends_at}
use Rattle.lane_context.proofs.ContextGrown.{mid_is, mid_grew, grew, goes_on, answered, swept_reads, lengthened}

pub none_of : (es : List Entry) → map note_of es ≡ [] → es ≡ []
none_of [] is = refl
none_of (e ∷ es) is = absurd (cc is)

pub some_of : (es : List Entry) (ns : List Note) → map note_of es ≡ ns → 0 < length ns → 0 < length es
some_of es ns is lt =
    let a = length-map es note_of in let b = ap (λ (xs : List Note). length xs) is in omega (arith, a, b, lt)

-- what a stage wrote, and the context that noted it
pub record Staged (pool : SharedPool) (before after : Hand) (old start mid : Context) (added : List Entry)
    (gain : RootId → ℕ) : Type 0 where
  pub context : IsContext pool before old
  pub start_is : start ≡ record old
      { seat = start.seat; counts = start.counts; sampler = start.sampler; asked = start.asked }
  pub counts_are : start.counts ≡ old.counts
  pub same : SameSeat old.seat start.seat
  pub seat : IsPoolSeat pool start.seat
  pub more : HasMore (view_of old.seat) (view_of start.seat) added
  pub held : IsHeld after (view_of start.seat)
  pub sampled : AreSampled old.sampler added start.sampler
  pub adds : (cs : List Counted) → ((root : RootId) → counted cs root ≡ counted old.counts root + gain root)
      → Recounts old.counts cs (map entry_of added)
  pub noted : HasNoted start mid (map note_of added)

module _ (pool : SharedPool) (before after : Hand) (old start mid : Context) (added : List Entry) (gain : RootId → ℕ)
    (st : Staged pool before after old start mid added gain) where
  pub staged : Advances pool old.seat start.seat after added (view_of old.seat).moves
  staged = record {
    same = st.same;
    seat = st.seat;
    grows = record { more = st.more; was_alone = st.context.seat.alone; alone = st.seat.alone; moves = omega arith };
    held = st.held;
  }

  pub staged_seat : mid.seat ≡ start.seat
  staged_seat = ap (λ (x : Context). x.seat) st.noted.rest

  pub staged_shape : mid.shape ≡ old.shape
  staged_shape =
      ap (λ (x : Context). x.shape) (mid_is pool before after old start mid st.context st.start_is added
      (view_of old.seat).moves staged st.noted)

  pub staged_names : mid.names ≡ old.names
  staged_names =
      ap (λ (x : Context). x.names) (mid_is pool before after old start mid st.context st.start_is added
      (view_of old.seat).moves staged st.noted)

  pub staged_counts : mid.counts ≡ old.counts
  staged_counts =
      ap (λ (x : Context). x.counts) (mid_is pool before after old start mid st.context st.start_is added
      (view_of old.seat).moves staged st.noted) ∙ st.counts_are

  recounts : (cs : List Counted) → ((root : RootId) → counted cs root ≡ counted old.counts root + gain root)
      → Recounts old.counts cs (map entry_of added)
  recounts cs is = st.adds cs is

  -- it goes on, where it gained nothing
  pub staged_grew : ((root : RootId) → gain root ≡ 0) → ContextGrew pool after old mid added
  staged_grew none =
      mid_grew pool before after old start mid st.context st.start_is added (view_of old.seat).moves staged st.noted
      (recounts start.counts (λ root.
      (let a = none root in let b = ap (λ (cs : List Counted). counted cs root) st.counts_are in
      omega (arith, a, b))))
      (ap (λ (cs : List Counted). length cs) st.counts_are) st.sampled

  abbrev mid_so : mid ≡ record old
      { seat = start.seat; counts = start.counts; sampler = start.sampler; notes = mid.notes; asked = start.asked }
  mid_so = mid_is pool before after old start mid st.context st.start_is added (view_of old.seat).moves staged st.noted

  pub staged_asked : mid.asked ≡ start.asked
  staged_asked = ap (λ (x : Context). x.asked) mid_so

  pub staged_on : 0 < length added → (asks : ℕ → ℕ) → start.asked ≡ asks old.asked
      → (reads : Reader Answer) (behind : Names → Reader Answer) (bound : Names) → NamesAre bound old.names
      → ReadsOn reads (map entry_of added) asks (behind bound) → GoesOn old mid added reads behind
  staged_on some asks asked reads behind bound are is =
      goes_on pool before after old start mid st.context st.start_is added (view_of old.seat).moves staged st.noted some
      asks asked reads behind bound are is

  pub staged_still : added ≡ [] → start.asked ≡ old.asked → Waits old mid added
  staged_still none asked = record {
    none = none;
    replies = ap (λ (x : Context). x.replies.items) mid_so;
    names = ap (λ (x : Context). x.names) mid_so;
    begun = ap (λ (x : Context). x.begun) mid_so;
    asked = staged_asked ∙ asked;
  }

  -- it is answered
  module _ (empty : after ≡ empty_hand) (new : Context) (names : List (Option Bound)) (cs : List Counted)
      (reply : Reply) (unstopped : before_stop (reply ∷ []) ≡ 1)
      (gained : (root : RootId) → counted cs root ≡ counted old.counts root + gain root)
      (places : length cs ≡ length old.counts) (rebound : RebindsAt 0 old start.seat names)
      (s : LaneState) (command : Command) (stage : Stage) (bound : Names) (are : NamesAre bound names) where
    abbrev final : Context
    final =
        record old {
          seat = start.seat;
          names = names;
          counts = cs;
          sampler = start.sampler;
          notes =
              mid.notes;
          replies = new.replies;
          begun = length mid.notes.items;
          asked = start.asked;
        }

    abbrev reads_now : Reader Answer
    reads_now = reads_from old.shape (lane_of old.seat) s command stage

    pub staged_answer : HasReplied (record mid { names = names; counts = cs }) new reply → start.asked < sweep_period
        → SpendsAt old final (left_now old.composes command stage (view_of old.seat))
        (with_sheds (view_of start.seat) (notes_alone 0)) →
        ((rest : ToldNotes) → reads_now (log_of old (map entry_of added ++ rest))
        ≡ Some (answer reply bound, log_of final rest)) → HasTurned pool old new s command stage (Went Ready)
    staged_answer replied low spent reads =
        answered pool before after old start mid st.context st.start_is added (view_of old.seat).moves staged st.noted
        new
        names cs reply replied empty (recounts cs gained) places st.sampled
        (rebound_more old.names names rebound) s command stage bound are
        unstopped low spent reads

    -- or a sweep comes first
    module _ (some : 0 < length added) (left : Left)
        (left_is : left_now old.composes command stage (view_of old.seat) ≡ with_sheds (view_of old.seat) left)
        (spent : Spends (view_of old.seat) (view_of start.seat) left (notes_alone 0))
        (asked_few : start.asked ≤ left.asks + old.asked) (asks : ℕ → ℕ) (asked : start.asked ≡ asks old.asked)
        (body : Reader Answer) (body_is : (log : Log) → reads_now log ≡ (body >>= swept (lane_of old.seat)) log)
        (reads : ReadsOn body (map entry_of added) asks (give (answer reply bound))) where
      abbrev lane : ℕ
      lane = lane_of old.seat

      abbrev sweeping : Context
      sweeping =
          record old {
            seat = start.seat;
            names = names;
            counts = cs;
            sampler = start.sampler;
            notes =
                mid.notes;
            asked = 0;
          }

      sweep_begins : sweep_period ≤ start.asked → HasTurned pool old sweeping s command stage
          (Went (Sweeping reply (Ask 0)))
      sweep_begins due = record {
        added = added;
        grew =
            subst (λ (h : Hand). ContextGrew pool h old sweeping added) empty
            (grew pool before after old start mid st.context st.start_is added (view_of old.seat).moves staged st.noted
            sweeping refl (recounts cs gained) places st.sampled
            (let a = st.context.begun in let b = lengthened pool before after old start mid st.context st.start_is added
            (view_of old.seat).moves staged st.noted in omega (arith, a, b)) (omega arith) 0 rebound (omega arith));
        fits = (omega arith, omega arith, unstopped, λ is. cc is);
        name = tt;
        spends =
            subst (λ (x : Left). SpendsAt old sweeping x (draining.left_of (Ask 0) (view_of start.seat))) (sym left_is)
            (record {
              sweeps = 1;
              notes = (let a = spent.notes in let b = spent.takes in omega (arith, a, b));
              asks = (let a = asked_few in omega (arith, a, due));
              moves = spent.moves;
              sends = spent.sends;
            });
        comes = record {
          some = some;
          replies = refl;
          begun = refl;
          bound = bound;
          names = are;
          reads = λ rest.
              body_is (log_of old (map entry_of added ++ rest))
              ∙ reads_at old asking (map entry_of added) asks (entries_more old asking added st.more.notes) asked
              (body >>= swept lane) (swept lane (answer reply bound))
              (given_on body (map entry_of added) asks (swept lane) (answer reply bound) reads) rest
              ∙ sweeps_on lane (answer reply bound) (log_of asking rest) (le-leb sweep_period start.asked due);
        };
        waits = tt;
        held = tt;
      }
        where
          asking : Context
          asking = record old { seat = start.seat; asked = start.asked }

      answer_comes : HasReplied (record mid { names = names; counts = cs }) new reply → start.asked < sweep_period
          → HasTurned pool old new s command stage (Went Ready)
      answer_comes replied low =
          staged_answer replied low
          (subst (λ (x : Left). SpendsAt old final x (with_sheds (view_of start.seat) (notes_alone 0))) (sym left_is)
          (spends_at old final left (notes_alone 0) spent (let a = asked_few in omega (arith, a))))
          (λ rest.
          body_is (log_of old (map entry_of added ++ rest))
          ∙ swept_reads pool before after old start mid st.context st.start_is added (view_of old.seat).moves staged
          st.noted new names cs reply replied asks asked low body bound reads rest)

      pub staged_concludes : (turn : Turn) → Concludes (record mid { names = names; counts = cs }) new reply turn
          → HasTurned pool old new s command stage turn
      staged_concludes (Went Ready) did =
          answer_comes did.0 (let a = staged_asked in let b = did.1 in omega (arith, a, b))
      staged_concludes (Went (Sweeping later next)) did =
          let is : new ≡ sweeping = did.2 ∙ ap (λ (x : Context). record x { names = names; counts = cs; asked = 0 })
          mid_so in
          subst (λ (x : Context × Stage). HasTurned pool old x.0 s command stage (Went x.1))
          (λ i. (sym is i, Sweeping (sym did.0 i) (sym did.1 i)))
          (sweep_begins (let a = staged_asked in let b = did.3 in omega (arith, a, b)))
      staged_concludes (Went (Allotting other size class next)) did = absurd did
      staged_concludes (Went (Ending next)) did = absurd did
      staged_concludes (Went (Crossing named marks next)) did = absurd did
      staged_concludes (Went (Parting named next)) did = absurd did
      staged_concludes (Went (Consolidating p next)) did = absurd did
      staged_concludes (Went (Copying named whole parts next)) did = absurd did
      staged_concludes (Went (Replacing named whole next)) did = absurd did
      staged_concludes (Went (Growing named v size class next)) did = absurd did
      staged_concludes (Went (Closing next)) did = absurd did
      staged_concludes (Pending held next) did = absurd did
      staged_concludes (Waiting sender) did = absurd did
