-- A context behind a step of its seat, the notes of that step and an answer: it is a context again, and what
-- it turned.
use Rattle.std.proofs.Common.{◌≡◌, ℕ, ◌+◌, ◌-◌, ◌<◌, ◌≤◌, List, [], ◌∷◌, ◌++◌, length, map, refl, sym, ap, ◌∙◌, subst, arith, Option, Some, length-append}
use Rattle.std.specs.Prelude.{vec_capacity, unwrap_or}
use Rattle.std.proofs.lemmas.List.{map-append, length-map}
use Rattle.pool_law.specs.declared.command.Command.{Command}
use Rattle.pool_law.specs.declared.note.Note.{Note}
use Rattle.pool_law.specs.declared.run.Answered.{Answered}
use Rattle.pool_law.specs.declared.run.Reply.{Reply}
use Rattle.pool_law.specs.LaneLaw.{sweep_period, before_stop}
use Rattle.pool_law.specs.LaneStates.{LaneState}
use Rattle.pool_law.specs.Lanes.{Answer, answer}
use Rattle.pool_law.specs.Names.{Names, Bound}
use Rattle.pool_law.specs.Readers.{ToldNotes, Reader, ◌>>=◌, give}
use Rattle.leak_records.specs.Records.{new_sampler}
use Rattle.pool_table.specs.declared.views.Entry.{Entry}
use Rattle.shared_pool.specs.SeatViews.{view_of}
use Rattle.shared_pool.specs.declared.pool.SharedPool.{SharedPool}
use Rattle.shared_pool.specs.Closing.{note_of, entry_of}
use Rattle.shared_pool.specs.SeatLanes.{lane_of}
use Rattle.lane_stages.specs.declared.counts.Counted.{Counted}
use Rattle.lane_context.specs.declared.context.Context.{Context}
use Rattle.lane_context.specs.declared.context.Stage.{Stage}
use Rattle.lane_context.specs.declared.context.Stage.TheVariants.{Ready}
use Rattle.lane_context.specs.declared.context.Turn.TheVariants.{Went}
use Rattle.lane_stages.specs.Budgets.{notes_alone, with_sheds}
use Rattle.lane_stages.specs.Counting.{CountsAre}
use Rattle.seat_work.specs.Hands.{Hand, empty_hand}
use Rattle.lane_stages.specs.Logs.{HasWritten}
use Rattle.lane_context.specs.Named.{NamesAre, known_to}
use Rattle.lane_stages.specs.Sampled.{AreSampled}
use Rattle.lane_context.specs.Contexts.{IsContext, notes_of, entries_of, log_of, reads_from, left_now, ContextGrew, GoesOn, SpendsAt, HasTurned}
use Rattle.seat_work.specs.Readings.{behind, ReadsOn}
use Rattle.lane_context.specs.Readings.{swept}
use Rattle.lane_context.specs.ContextSteps.{HasNoted, HasReplied}
use Rattle.lane_stages.proofs.EntryCounts.{Recounts, recounted}
use Rattle.lane_stages.proofs.Knowing.{knows_more}
use Rattle.lane_context.proofs.NameLaws.{RebindsAt, rebound_same, composites_kept, inside_later}
use Rattle.seat_work.proofs.ReadLaws.{given_on}
use Rattle.lane_context.proofs.ReadLaws.{unswept}
use Rattle.lane_context.proofs.ContextLaws.{Advances, entries_more, reads_at, sampled_append}

module _ (pool : SharedPool) (hand after : Hand) (old start mid : Context) (d : IsContext pool hand old)
    (start_is : start ≡ record old
    { seat = start.seat; counts = start.counts; sampler = start.sampler; asked = start.asked }) (added : List Entry)
    (spent : ℕ)
    (adv : Advances pool old.seat start.seat after added spent) (noted : HasNoted start mid (map note_of added)) where
  pub log_is : mid.notes.items ≡ map note_of (notes_of start)
  log_is =
      noted.log
      ∙ ap (λ (ns : List Note). ns ++ map note_of added) (ap (λ (x : Context). x.notes.items) start_is ∙ d.log)
      ∙ sym (map-append note_of (notes_of old) added)
      ∙ ap (map note_of) (sym adv.grows.more.notes)

  pub length_is : length mid.notes.items ≡ length (notes_of start)
  length_is = ap (λ (ns : List Note). length ns) log_is ∙ length-map (notes_of start) note_of

  pub lengthened : length (notes_of start) ≡ length (notes_of old) + length added
  lengthened = ap (λ (es : List Entry). length es) adv.grows.more.notes ∙ length-append (notes_of old) added

  pub mid_is : mid ≡ record old {
    seat = start.seat;
    counts = start.counts;
    sampler = start.sampler;
    notes =
        mid.notes;
    asked = start.asked;
  }
  mid_is = noted.rest ∙ ap (λ (x : Context). record x { notes = mid.notes }) start_is

  -- with these names, counts and replies it is a context that grew by the entries
  module _ (final : Context) (is : final ≡ record old {
    seat = start.seat;
    names = final.names;
    counts = final.counts;
    sampler = start.sampler;
    notes =
        mid.notes;
    replies = final.replies;
    begun = final.begun;
    asked = final.asked;
  })
      (recounts : Recounts old.counts final.counts (map entry_of added))
      (places : length final.counts ≡ length old.counts) (sampled : AreSampled old.sampler added start.sampler)
      (begun : final.begun ≤ length (notes_of start))
      (replies_room : vec_capacity old.replies ≤ vec_capacity final.replies)
      (up : ℕ) (rebound : RebindsAt up old start.seat final.names)
      (replied_so : length old.replies.items + up ≤ length final.replies.items) where
    abbrev made : Context
    made =
        record old {
          seat = start.seat;
          names = final.names;
          counts = final.counts;
          sampler = start.sampler;
          notes =
              mid.notes;
          replies = final.replies;
          begun = final.begun;
          asked = final.asked;
        }

    made_context : IsContext pool after made
    made_context = record {
      shape = d.shape;
      classes = d.classes;
      short = d.short;
      seat = adv.seat;
      held = adv.held;
      log = log_is;
      counts =
          subst (CountsAre final.counts)
          (sym (ap (map entry_of) adv.grows.more.notes ∙ map-append entry_of (notes_of old) added))
          (recounted old.counts final.counts (entries_of old) (map entry_of added) d.counts recounts);
      places = places ∙ d.places;
      sampled =
          subst (λ (p : Option ℕ × List Entry). AreSampled
          (new_sampler (unwrap_or p.0 0) old.shape.level old.shape.interval) p.1 start.sampler)
          (λ i. (sym adv.grows.more.number i, sym adv.grows.more.notes i))
          (sampled_append (new_sampler (lane_of old.seat) old.shape.level old.shape.interval) old.sampler start.sampler
          (notes_of old) added d.sampled sampled);
      begun = begun;
      composites =
          composites_kept (known_to start.seat) old.composes (1 + length old.replies.items)
          (1 + length final.replies.items) up old.names final.names (omega (arith, replied_so)) d.composites rebound;
      inside =
          rebound.inside (inside_later (known_to old.seat) (known_to start.seat)
          (knows_more (view_of old.seat) (view_of start.seat) added adv.grows.more) old.names d.inside);
    }

    pub grew : ContextGrew pool after old final added
    grew =
        subst (λ (x : Context). ContextGrew pool after old x added) (sym is)
        (record {
          context = made_context;
          same = adv.same;
          more = adv.grows.more;
          shape = refl;
          room =
              subst (λ (n : ℕ). n ≤ vec_capacity mid.notes) (ap (λ (x : Context). vec_capacity x.notes) start_is)
              noted.room;
          composes = refl;
          replies_room = replies_room;
          name_count = rebound.count;
        })

  -- a command that goes on
  pub mid_grew : Recounts old.counts start.counts (map entry_of added) → length start.counts ≡ length old.counts
      → AreSampled old.sampler added start.sampler → ContextGrew pool after old mid added
  mid_grew recounts places sampled =
      let counts_are : mid.counts ≡ start.counts = ap (λ (x : Context). x.counts) mid_is in
      grew mid
      (mid_is ∙ (λ i. record old {
        seat = start.seat;
        names = sym (ap (λ (x : Context). x.names) mid_is) i;
        counts = sym counts_are i;
        sampler = start.sampler;
        notes = mid.notes;
        replies = sym (ap (λ (x : Context). x.replies) mid_is) i;
        begun = sym (ap (λ (x : Context). x.begun) mid_is) i;
        asked = sym (ap (λ (x : Context). x.asked) mid_is) i;
      }))
      (subst (λ (cs : List Counted). Recounts old.counts cs (map entry_of added)) (sym counts_are) recounts)
      (ap (λ (cs : List Counted). length cs) counts_are ∙ places)
      sampled
      (let a = d.begun in let b = ap (λ (x : Context). x.begun) mid_is in let c = lengthened in omega (arith, a, b, c))
      (let a = ap (λ (x : Context). vec_capacity x.replies) mid_is in omega (arith, a)) 0
      (rebound_same 0 old.names mid.names (ap (λ (x : Context). x.names) mid_is))
      (let a = ap (λ (x : Context). length x.replies.items) mid_is in omega (arith, a))

  pub mid_asked : mid.asked ≡ start.asked
  mid_asked = ap (λ (x : Context). x.asked) mid_is

  -- what the law reads of the entries at the context
  pub goes_on : 0 < length added → (asks : ℕ → ℕ) → start.asked ≡ asks old.asked
      → (before : Reader Answer) (behind : Names → Reader Answer) (bound : Names) → NamesAre bound old.names
      → ReadsOn before (map entry_of added) asks (behind bound) → GoesOn old mid added before behind
  goes_on some asks asked before behind bound are reads = record {
    some = some;
    replies = ap (λ (x : Context). x.replies.items) mid_is;
    begun = ap (λ (x : Context). x.begun) mid_is;
    bound = bound;
    names = subst (NamesAre bound) (sym (ap (λ (x : Context). x.names) mid_is)) are;
    reads =
        reads_at old mid (map entry_of added) asks
        (entries_more old mid added (ap (λ (x : Context). notes_of x) mid_is ∙ adv.grows.more.notes))
        (mid_asked ∙ asked) before (behind bound) reads;
  }

  -- and an answer
  module _ (new : Context) (names : List (Option Bound)) (cs : List Counted) (reply : Reply)
      (replied : HasReplied (record mid { names = names; counts = cs }) new reply) where
    new_is : new ≡ record old {
      seat = start.seat;
      names = names;
      counts = cs;
      sampler = start.sampler;
      notes =
          mid.notes;
      replies = new.replies;
      begun = length mid.notes.items;
      asked = start.asked;
    }
    new_is =
        replied.rest ∙ ap (λ (x : Context). record x
        { names = names; counts = cs; replies = new.replies; begun = length mid.notes.items }) mid_is

    abbrev answered_context : Context
    answered_context =
        record old {
          seat = start.seat;
          names = names;
          counts = cs;
          sampler = start.sampler;
          notes =
              mid.notes;
          replies = new.replies;
          begun = length mid.notes.items;
          asked = start.asked;
        }

    replied_more : length old.replies.items + 1 ≤ length new.replies.items
    replied_more =
        let a = ap (λ (xs : List Answered). length xs) replied.replies in
        let b = ap (λ (x : Context). length x.replies.items) mid_is in
        let c = length-append mid.replies.items (record
        { reply = reply; notes = length mid.notes.items - mid.begun } ∷ []) in
        omega (arith, a, b, c)

    pub answered : after ≡ empty_hand → Recounts old.counts cs (map entry_of added) → length cs ≡ length old.counts
        → AreSampled old.sampler added start.sampler → RebindsAt 1 old start.seat names →
        (s : LaneState) (command : Command) (stage : Stage) (bound : Names) → NamesAre bound names
        → before_stop (reply ∷ []) ≡ 1 → start.asked < sweep_period →
        SpendsAt old answered_context (left_now old.composes command stage (view_of old.seat))
        (with_sheds (view_of start.seat) (notes_alone 0)) →
        ((rest : ToldNotes) → reads_from old.shape (lane_of old.seat) s command stage
        (log_of old (map entry_of added ++ rest)) ≡ Some (answer reply bound, log_of answered_context rest))
        → HasTurned pool old new s command stage (Went Ready)
    answered empty recounts places sampled rebound s command stage bound are unstopped low spent_all reads =
        subst (λ (x : Context). HasTurned pool old x s command stage (Went Ready)) (sym new_is)
        (record {
          added = added;
          grew =
              subst (λ (h : Hand). ContextGrew pool h old answered_context added) empty
              (grew answered_context refl recounts places sampled (let a = length_is in omega (arith, a))
              (subst (λ (n : ℕ). n ≤ vec_capacity new.replies) (ap (λ (x : Context). vec_capacity x.replies) mid_is)
              replied.room) 1 rebound replied_more);
          fits = low;
          name = tt;
          spends = spent_all;
          comes = record {
            answered = record { reply = reply; notes = length mid.notes.items - old.begun };
            replies =
                replied.replies ∙ ap (λ (x : Context). x.replies.items ++ record
                { reply = reply; notes = length mid.notes.items - x.begun } ∷ []) mid_is;
            unstopped = unstopped;
            notes = (let a = length_is in let b = lengthened in let c = d.begun in omega (arith, a, b, c));
            begun = length_is;
            bound = bound;
            names = are;
            reads = reads;
          };
          waits = tt;
          held = tt;
        })

    -- what the law reads of the entries, up to the answer
    pub answer_reads : (asks : ℕ → ℕ) → start.asked ≡ asks old.asked → (before : Reader Answer) (bound : Names)
        → ReadsOn before (map entry_of added) asks (give (answer reply bound)) →
        (rest : ToldNotes) → before (log_of old (map entry_of added ++ rest))
        ≡ Some (answer reply bound, log_of answered_context rest)
    answer_reads asks asked before bound reads =
        reads_at old answered_context (map entry_of added) asks
        (entries_more old answered_context added adv.grows.more.notes)
        asked before (give (answer reply bound)) reads

    -- and where no sweep is due behind it
    pub swept_reads : (asks : ℕ → ℕ) → start.asked ≡ asks old.asked → start.asked < sweep_period
        → (body : Reader Answer) (bound : Names) → ReadsOn body (map entry_of added) asks (give (answer reply bound)) →
        (rest : ToldNotes) → (body >>= swept (lane_of old.seat)) (log_of old (map entry_of added ++ rest))
        ≡ Some (answer reply bound, log_of answered_context rest)
    swept_reads asks asked low body bound reads rest =
        reads_at old answered_context (map entry_of added) asks
        (entries_more old answered_context added adv.grows.more.notes)
        asked (body >>= swept (lane_of old.seat)) (swept (lane_of old.seat) (answer reply bound))
        (given_on body (map entry_of added) asks (swept (lane_of old.seat)) (answer reply bound) reads) rest
        ∙ unswept (lane_of old.seat) (answer reply bound) (log_of answered_context rest) low

-- what was written into the log was noted
pub noted_so : (start mid : Context) (notes : List Note) → HasWritten start.notes mid.notes notes
    → mid ≡ record start { notes = mid.notes } → HasNoted start mid notes
noted_so start mid notes log rest =
    record { log = log.items; room = (let a = log.room in omega (arith, a)); rest = rest }
