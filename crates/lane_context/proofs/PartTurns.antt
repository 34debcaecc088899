-- The turns of stages over parts, by what a step of the seat did: its counts may be others then.
use Rattle.std.proofs.Common.{◌≡◌, ℕ, ◌+◌, ◌<◌, ◌≤◌, List, [], ◌∷◌, ◌++◌, length, map, refl, sym, ap, ◌∙◌, subst, arith, le-leb, Option, Some}
use Rattle.std.specs.Global.{Vec}
use Rattle.std.specs.Prelude.{option_and_then, vec_capacity}
use Rattle.pool_law.specs.declared.command.Command.{Command}
use Rattle.pool_law.specs.declared.id.RootId.{RootId}
use Rattle.pool_law.specs.declared.run.Answered.{Answered}
use Rattle.pool_law.specs.declared.run.Reply.{Reply}
use Rattle.pool_law.specs.Composites.{Composite}
use Rattle.pool_law.specs.Counts.{CountsHold, count_from, count_of, count_step}
use Rattle.pool_law.specs.LaneLaw.{sweep_period, before_stop}
use Rattle.pool_law.specs.LaneStates.{LaneState}
use Rattle.pool_law.specs.Lanes.{Answer, answer}
use Rattle.pool_law.specs.Names.{Names, Bound}
use Rattle.pool_law.specs.Readers.{ToldNotes, Log, Reader, ◌>>=◌}
use Rattle.pool_table.specs.declared.views.Entry.{Entry}
use Rattle.shared_pool.specs.SeatViews.{view_of, SameSeat}
use Rattle.shared_pool.specs.declared.pool.SharedPool.{SharedPool}
use Rattle.shared_pool.specs.Closing.{note_of, entry_of}
use Rattle.shared_pool.specs.SeatLanes.{lane_of}
use Rattle.shared_pool.specs.Seats.{IsPoolSeat}
use Rattle.seat_work.specs.Growth.{HasMore}
use Rattle.seat_work.specs.Hands.{Hand, empty_hand, IsHeld}
use Rattle.lane_stages.specs.declared.counts.Counted.{Counted}
use Rattle.lane_context.specs.declared.context.Context.{Context}
use Rattle.lane_context.specs.declared.context.Stage.{Stage}
use Rattle.lane_context.specs.declared.context.Stage.TheVariants.{Ready, Allotting, Ending, Sweeping, Closing, Crossing, Parting, Consolidating, Copying, Replacing, Growing}
use Rattle.lane_context.specs.declared.context.Turn.{Turn}
use Rattle.lane_context.specs.declared.context.Turn.TheVariants.{Went, Pending, Waiting}
use Rattle.lane_stages.specs.declared.draining.Draining.TheVariants.{Ask}
use Rattle.lane_stages.specs.Drainings as draining
use Rattle.lane_stages.specs.Budgets.{Left, Spends, notes_alone, with_sheds}
use Rattle.lane_context.specs.Composing.{IsBindable, IsCandidate}
use Rattle.lane_stages.specs.Counting.{CountsAre, counted}
use Rattle.lane_stages.specs.Logs.{HasWritten}
use Rattle.lane_context.specs.Named.{NamesAre, known_to}
use Rattle.seat_work.specs.Readings.{ReadsOn}
use Rattle.lane_stages.specs.Readings.{none_asked}
use Rattle.lane_context.specs.Readings.{swept}
use Rattle.lane_stages.specs.Releasings.{ReadsOnWith}
use Rattle.lane_stages.specs.Sampled.{AreSampled}
use Rattle.lane_context.specs.Contexts.{IsContext, ContextGrew, GoesOn, HasRoomFor, HasTurned, SpendsAt, Waits, entries_of, left_now, log_of, reads_from}
use Rattle.lane_context.specs.ContextSteps.{CanAnswer, Concludes, HasNoted, HasReplied}
use Rattle.lane_context.proofs.ContextGrown.{answered, grew, lengthened, mid_grew, noted_so}
use Rattle.lane_context.proofs.ContextLaws.{Advances, entries_more, reads_at, spends_at}
use Rattle.lane_stages.proofs.EntryCounts.{Recounts, counts_append}
use Rattle.lane_stages.proofs.Knowing.{knows_more}
use Rattle.lane_context.proofs.NameLaws.{RebindsAt, parts_later, rebound_more}
use Rattle.lane_context.proofs.ReadLaws.{sweeps_on, unswept}
use Rattle.lane_context.proofs.StageNeeds.{answers_behind}

-- ---- What entries make of the counts, by the counts before and behind them.

holds_behind : (root : RootId) (k : ℕ) (xs ys : ToldNotes) → CountsHold root k (xs ++ ys)
    → CountsHold root (count_from root k xs) ys
holds_behind root k [] ys holds = holds
holds_behind root k (x ∷ xs) ys holds = holds_behind root (count_step root k x) xs ys holds.1.1

pub recounts_between : (cs ds : List Counted) (log es : ToldNotes) → CountsAre cs log → CountsAre ds (log ++ es)
    → Recounts cs ds es
recounts_between cs ds log es before behind = record {
  counts = λ root.
      sym (ap (λ (k : ℕ). count_from root k es) (before.counts root)) ∙ sym (counts_append root 0 log es)
      ∙ behind.counts root;
  holds = λ root.
      subst (λ (k : ℕ). CountsHold root k es) (before.counts root)
      (holds_behind root 0 log es (behind.holds root));
}

-- ---- A step, and the context that noted it.

-- what a step of the seat did at a stage, and the context that noted it
pub record Moved (pool : SharedPool) (before after : Hand) (old mid : Context) (added : List Entry) : Type 0 where
  pub context : IsContext pool before old
  pub mid_is : mid ≡ record old { seat = mid.seat; counts = mid.counts; notes = mid.notes }
  pub same : SameSeat old.seat mid.seat
  pub seat : IsPoolSeat pool mid.seat
  pub more : HasMore (view_of old.seat) (view_of mid.seat) added
  pub log : HasWritten old.notes mid.notes (map note_of added)
  pub counts : CountsAre mid.counts (entries_of mid)
  pub places : length mid.counts ≡ length old.counts
  pub held : IsHeld after (view_of mid.seat)
  pub sampled : AreSampled old.sampler added old.sampler

-- a composite that may be bound at a context may be bound at another with its names, whose seat knows more
pub candidate_on : (old mid : Context) (added : List Entry) → HasMore (view_of old.seat) (view_of mid.seat) added
    → mid.names ≡ old.names → mid.composes ≡ old.composes → mid.replies ≡ old.replies
    → (name : ℕ) (c : Composite) → IsCandidate old name c → IsCandidate mid name c
candidate_on old mid added more names composes replies name c may = record {
  name_is = subst (λ (bound : List (Option Bound)). name < length bound) (sym names) may.name_is;
  composes = composes ∙ may.composes;
  few = (let a = ap (λ (xs : Vec Answered). length xs.items) replies in let b = may.few in omega (arith, a, b));
  inside =
      parts_later (known_to old.seat) (known_to mid.seat)
      (knows_more (view_of old.seat) (view_of mid.seat) added more) c.parts may.inside;
  marked = may.marked;
}

-- so it is behind a step
pub bindable_on : (old mid : Context) (added : List Entry) → HasMore (view_of old.seat) (view_of mid.seat) added
    → mid ≡ record old { seat = mid.seat; counts = mid.counts; notes = mid.notes }
    → (name : ℕ) (c : Composite) → IsBindable old name c → IsBindable mid name c
bindable_on old mid added more mid_is name c may = (
  candidate_on old mid added more (ap (λ (x : Context). x.names) mid_is) (ap (λ (x : Context). x.composes) mid_is)
      (ap (λ (x : Context). x.replies) mid_is) name c may.0,
  may.1,
)

-- the context behind the step, and before its notes
abbrev pub between : Context → Context → Context
between old mid = record old { seat = mid.seat; counts = mid.counts }

module _ (pool : SharedPool) (before after : Hand) (old mid : Context) (added : List Entry)
    (m : Moved pool before after old mid added) where
  abbrev start : Context
  start = between old mid

  abbrev spent : ℕ
  spent = (view_of old.seat).moves

  advances : Advances pool old.seat start.seat after added spent
  advances = record {
    same = m.same;
    seat = m.seat;
    grows = record { more = m.more; was_alone = m.context.seat.alone; alone = m.seat.alone; moves = omega arith };
    held = m.held;
  }

  noted : HasNoted start mid (map note_of added)
  noted = noted_so start mid (map note_of added) m.log m.mid_is

  entries_are : entries_of start ≡ entries_of old ++ map entry_of added
  entries_are = entries_more old start added m.more.notes

  recounts : Recounts old.counts mid.counts (map entry_of added)
  recounts =
      recounts_between old.counts mid.counts (entries_of old) (map entry_of added) m.context.counts
      (subst (CountsAre mid.counts) entries_are m.counts)

  pub moved_names : mid.names ≡ old.names
  moved_names = ap (λ (x : Context). x.names) m.mid_is

  pub moved_asked : mid.asked ≡ old.asked
  moved_asked = ap (λ (x : Context). x.asked) m.mid_is

  pub moved_grew : ContextGrew pool after old mid added
  moved_grew =
      mid_grew pool before after old start mid m.context refl added spent advances noted recounts m.places m.sampled

  -- and can be answered
  pub moved_can : (left next : Left) → HasRoomFor pool old left → Spends (view_of old.seat) (view_of mid.seat) left next
      → length old.replies.items < vec_capacity old.replies → CanAnswer mid
  moved_can left next room spends replies =
      answers_behind pool before old m.context left next room (view_of mid.seat) added (map note_of added) m.more refl
      spends start mid refl noted replies

  -- what is read over the entries
  pub moved_with : {A : Type 0} (r q : Reader A) → ReadsOnWith old.counts r (map entry_of added) q → (rest : ToldNotes)
      → r (log_of old (map entry_of added ++ rest)) ≡ q (log_of start rest)
  moved_with r q on rest =
      on (log_of old rest) m.context.counts.counts
      ∙ (λ i. q (record { seen = sym entries_are i; asked = old.asked; left = rest }))

  pub moved_read : {A : Type 0} (r q : Reader A) → ReadsOn r (map entry_of added) none_asked q → (rest : ToldNotes)
      → r (log_of old (map entry_of added ++ rest)) ≡ q (log_of start rest)
  moved_read r q on rest = reads_at old start (map entry_of added) none_asked entries_are refl r q on rest

  -- the log of the step's context has its counts
  pub moved_counts : (rest : ToldNotes) (root : RootId) → count_of root (log_of start rest).seen ≡ counted mid.counts
      root
  moved_counts rest root = m.counts.counts root

  -- it goes on
  pub moved_on : 0 < length added → (reads : Reader Answer) (behind : Names → Reader Answer) (bound : Names)
      → NamesAre bound old.names
      → ((rest : ToldNotes) → reads (log_of old (map entry_of added ++ rest)) ≡ behind bound (log_of start rest))
      → GoesOn old mid added reads behind
  moved_on some reads behind bound are is = record {
    some = some;
    replies = ap (λ (x : Context). x.replies.items) m.mid_is;
    begun = ap (λ (x : Context). x.begun) m.mid_is;
    bound = bound;
    names = subst (NamesAre bound) (sym moved_names) are;
    reads = λ rest.
        is rest
        ∙ (λ i. behind bound (record { seen = entries_of mid; asked = sym moved_asked i; left = rest }));
  }

  -- or nothing was noted
  pub moved_still : added ≡ [] → Waits old mid added
  moved_still none = record {
    none = none;
    replies = ap (λ (x : Context). x.replies.items) m.mid_is;
    names = moved_names;
    begun = ap (λ (x : Context). x.begun) m.mid_is;
    asked = moved_asked;
  }

  pub moved_spends : (left next : Left) → Spends (view_of old.seat) (view_of mid.seat) left next
      → next.asks ≤ left.asks
      → SpendsAt old mid (with_sheds (view_of old.seat) left) (with_sheds (view_of mid.seat) next)
  moved_spends left next spends asks =
      let a = moved_asked in spends_at old mid left next spends (omega (arith, a, asks))

  -- it is answered
  module _ (empty : after ≡ empty_hand) (new : Context) (names : List (Option Bound)) (reply : Reply)
      (unstopped : before_stop (reply ∷ []) ≡ 1) (rebound : RebindsAt 0 old mid.seat names)
      (s : LaneState) (command : Command) (stage : Stage) (bound : Names) (are : NamesAre bound names)
      (left : Left)
      (left_is : left_now old.composes command stage (view_of old.seat) ≡ with_sheds (view_of old.seat) left)
      (spends : Spends (view_of old.seat) (view_of mid.seat) left (notes_alone 0))
      (body : Reader Answer)
      (body_is : (log : Log) → reads_from old.shape (lane_of old.seat) s command stage log
      ≡ (body >>= swept (lane_of old.seat)) log)
      (reads : (rest : ToldNotes) → body (log_of old (map entry_of added ++ rest))
      ≡ Some (answer reply bound, log_of start rest)) where
    abbrev lane : ℕ
    lane = lane_of old.seat

    abbrev final : Context
    final =
        record start { names = names; notes = mid.notes; replies = new.replies; begun = length mid.notes.items }

    abbrev sweeping : Context
    sweeping = record start { names = names; notes = mid.notes; asked = 0 }

    body_reads : (rest : ToldNotes) → reads_from old.shape lane s command stage (log_of old (map entry_of added ++
        rest))
        ≡ swept lane (answer reply bound) (log_of start rest)
    body_reads rest =
        body_is (log_of old (map entry_of added ++ rest))
        ∙ ap (option_and_then (λ (got : Answer × Log). swept lane got.0 got.1)) (reads rest)

    pub moved_answer : HasReplied (record mid { names = names }) new reply → old.asked < sweep_period
        → HasTurned pool old new s command stage (Went Ready)
    moved_answer replied low =
        answered pool before after old start mid m.context refl added spent advances noted new names mid.counts reply
        replied empty recounts m.places m.sampled (rebound_more old.names names rebound) s command stage bound are
        unstopped low
        (subst (λ (x : Left). SpendsAt old final x (with_sheds (view_of mid.seat) (notes_alone 0))) (sym left_is)
        (spends_at old final left (notes_alone 0) spends (omega arith)))
        (λ rest. body_reads rest ∙ unswept lane (answer reply bound) (log_of start rest) low)

    -- or a sweep comes first
    sweep_begins : 0 < length added → sweep_period ≤ old.asked → old.asked ≤ left.asks + old.asked
        → HasTurned pool old sweeping s command stage (Went (Sweeping reply (Ask 0)))
    sweep_begins some due few = record {
      added = added;
      grew =
          subst (λ (h : Hand). ContextGrew pool h old sweeping added) empty
          (grew pool before after old start mid m.context refl added spent advances noted sweeping refl recounts
          m.places
          m.sampled
          (let a = m.context.begun in
          let b = lengthened pool before after old start mid m.context refl added spent advances noted in
          omega (arith, a, b)) (omega arith) 0 rebound (omega arith));
      fits = (omega arith, omega arith, unstopped, λ is. cc is);
      name = tt;
      spends =
          subst (λ (x : Left). SpendsAt old sweeping x (draining.left_of (Ask 0) (view_of mid.seat))) (sym left_is)
          (record {
            sweeps = 1;
            notes = (let a = spends.notes in let b = spends.takes in omega (arith, a, b));
            asks = omega (arith, due, few);
            moves = spends.moves;
            sends = spends.sends;
          });
      comes = record {
        some = some;
        replies = refl;
        begun = refl;
        bound = bound;
        names = are;
        reads = λ rest.
            body_reads rest
            ∙ sweeps_on lane (answer reply bound) (log_of start rest) (le-leb sweep_period old.asked due);
      };
      waits = tt;
      held = tt;
    }

    pub moved_concludes : 0 < length added → (turn : Turn) → Concludes (record mid { names = names }) new reply turn
        → HasTurned pool old new s command stage turn
    moved_concludes some (Went Ready) did =
        moved_answer did.0 (let a = moved_asked in let b = did.1 in omega (arith, a, b))
    moved_concludes some (Went (Sweeping later next)) did =
        let is : new ≡ sweeping = did.2 ∙ ap (λ (x : Context). record x { names = names; asked = 0 }) m.mid_is in
        subst (λ (x : Context × Stage). HasTurned pool old x.0 s command stage (Went x.1))
        (λ i. (sym is i, Sweeping (sym did.0 i) (sym did.1 i)))
        (sweep_begins some (let a = moved_asked in let b = did.3 in omega (arith, a, b)) (omega arith))
    moved_concludes some (Went (Allotting other size class next)) did = absurd did
    moved_concludes some (Went (Ending next)) did = absurd did
    moved_concludes some (Went (Closing next)) did = absurd did
    moved_concludes some (Went (Crossing other marks next)) did = absurd did
    moved_concludes some (Went (Parting other next)) did = absurd did
    moved_concludes some (Went (Consolidating p next)) did = absurd did
    moved_concludes some (Went (Copying other whole parts next)) did = absurd did
    moved_concludes some (Went (Replacing other whole next)) did = absurd did
    moved_concludes some (Went (Growing other v size class next)) did = absurd did
    moved_concludes some (Pending held next) did = absurd did
    moved_concludes some (Waiting sender) did = absurd did
