-- The turns of the commands that make no note, or one.
use Rattle.std.proofs.Common.{◌≡◌, ℕ, ◌+◌, ◌-◌, ◌<◌, ◌≤◌, List, [], ◌∷◌, length, refl, sym, ap, ◌∙◌, subst, arith, Option, Some, append-nil}
use Rattle.std.proofs.lemmas.List.Sums.{sum_by-cons}
use Rattle.pool_law.specs.declared.command.Command.{Command}
use Rattle.pool_law.specs.declared.id.RootId.{RootId}
use Rattle.pool_law.specs.declared.id.ViewData.{ViewData}
use Rattle.pool_law.specs.declared.note.Note.{Note}
use Rattle.pool_law.specs.declared.note.RefDid.{RefDid}
use Rattle.pool_law.specs.declared.note.RefDid.TheVariants.{Retain, Look}
use Rattle.pool_law.specs.declared.run.Reply.{Reply}
use Rattle.pool_law.specs.declared.run.Shape.{Shape}
use Rattle.pool_law.specs.Dids as says
use Rattle.pool_law.specs.LaneLaw.{sweep_period, before_stop}
use Rattle.pool_law.specs.LaneStates.{LaneState}
use Rattle.pool_law.specs.Lanes.{Answer, answer, answer_of, retain_of, count_in}
use Rattle.pool_law.specs.Names.{Bound, Names, Plain}
use Rattle.pool_law.specs.Readers.{Log, Reader, ◌>>=◌, give, given, step}
use Rattle.pool_table.specs.declared.views.Entry.{Entry}
use Rattle.pool_table.specs.declared.views.Entry.TheVariants.{Ref}
use Rattle.pool_table.specs.declared.views.SeatView.{SeatView}
use Rattle.pool_table.specs.Counts.{with_ref, ref_born, ref_ended, ref_vacated}
use Rattle.shared_pool.specs.SeatViews.{view_of, SameSeat, HasView}
use Rattle.shared_pool.specs.declared.pool.SharedPool.{SharedPool}
use Rattle.shared_pool.specs.Closing.{note_of, entry_of}
use Rattle.pool_table.specs.Letters.{sent_on}
use Rattle.shared_pool.specs.SeatLanes.{lane_of}
use Rattle.shared_pool.specs.Seats.{IsPoolSeat}
use Rattle.seat_work.proofs.HandNotes.{ref_carries}
use Rattle.lane_context.specs.declared.access.Refusal.{Refusal}
use Rattle.lane_context.specs.declared.access.Refusal.TheVariants.{Unbound, Taken, Composite, Illegal, Range, Plain as NotComposite, TooLarge}
use Rattle.lane_stages.specs.declared.counts.Counted.{Counted}
use Rattle.lane_context.specs.declared.context.Context.{Context}
use Rattle.lane_context.specs.declared.context.Stage.TheVariants.{Ready}
use Rattle.lane_context.specs.declared.context.Turn.TheVariants.{Went}
use Rattle.lane_context.specs.Accesses.{reply_for, IsState}
use Rattle.seat_work.specs.Hands.{lane_in, empty_hand}
use Rattle.lane_stages.specs.Budgets.{Left, notes_alone, takes}
use Rattle.lane_stages.specs.Counting.{counted}
use Rattle.lane_context.specs.Named.{bound_at, NamesAre}
use Rattle.lane_stages.specs.Sampled.{AreSampled}
use Rattle.lane_context.specs.Contexts.{IsContext, left_for, HasTurned}
use Rattle.seat_work.specs.Readings.{before_left, ReadsOn}
use Rattle.lane_stages.specs.Readings.{none_asked}
use Rattle.lane_context.specs.ContextSteps.{HasNoted, HasReplied, HasRetained, MayTurn}
use Rattle.seat_work.proofs.Grown.{Grows, one_none, grows_ref}
use Rattle.lane_stages.proofs.Grown.{spends}
use Rattle.seat_work.proofs.HandLaws.{held_on}
use Rattle.lane_stages.proofs.EntryCounts.{Recounts, none_recounted, looked, retained}
use Rattle.lane_context.proofs.NameLaws.{RebindsAt, rebound_same}
use Rattle.lane_context.proofs.StateReads.{goes_uncounted, named_so}
use Rattle.seat_work.proofs.ReadLaws.{given_on, step_on}
use Rattle.lane_stages.proofs.ReadLaws.{still_on}
use Rattle.lane_context.proofs.ContextLaws.{Advances, spends_at}
use Rattle.lane_context.proofs.ContextGrown.{mid_is, answered, swept_reads}

pub grows_same : (v : SeatView) → v.others ≡ [] → Grows v v [] 0
grows_same v alone = record {
  more =
      record {
        notes = sym (append-nil v.own.notes);
        number = refl;
        setting = refl;
        turns = omega arith;
        one =
            one_none;
      };
  was_alone = alone;
  alone = alone;
  moves = omega arith;
}

-- a command that makes no note, and is answered
module _ (pool : SharedPool) (old new : Context) (d : IsContext pool empty_hand old) (low : old.asked < sweep_period)
    (names : List (Option Bound)) (reply : Reply) (unstopped : before_stop (reply ∷ []) ≡ 1)
    (replied : HasReplied (record old { names = names }) new reply) (rebound : RebindsAt 1 old old.seat names)
  where
    pub noteless : (s : LaneState) (command : Command) (bound : Names) → NamesAre bound names
        → ((log : Log) → answer_of old.shape (lane_of old.seat) s command log ≡ Some (answer reply bound, log))
        → HasTurned pool old new s command Ready (Went Ready)
    noteless s command bound are reads =
        let v : SeatView = view_of old.seat in let a = answer reply bound in
        let grows : Grows v v [] 0 = grows_same v d.seat.alone in
        let adv : Advances pool old.seat old.seat empty_hand [] 0 =
        record { same = (refl, refl); seat = d.seat; grows = grows; held = d.held } in
        let noted : HasNoted old old [] = record
        { log = sym (append-nil old.notes.items); room = omega arith; rest = refl } in
        let body : Reader Answer = answer_of old.shape (lane_of old.seat) s command in
        let on : ReadsOn body [] none_asked (give a) = (λ log. reads log ∙ still_on (give a) log) in
        let final : Context = record old { names = names; replies = new.replies; begun = length old.notes.items } in
        answered pool empty_hand empty_hand old old old d refl [] 0 adv noted new names old.counts reply replied refl
        (none_recounted old.counts) refl refl rebound s command Ready bound are unstopped low
        (spends_at old final (left_for old.composes command) (notes_alone 0)
        (spends v v [] 0 grows (left_for old.composes command) (notes_alone 0) (omega arith) (omega arith) (omega arith)
        (λ to. omega arith)) (omega arith))
        (swept_reads pool empty_hand empty_hand old old old d refl [] 0 adv noted new names old.counts reply replied
        none_asked refl low body bound on)

-- a refusal stops no lane
pub unstopped_for : (r : Refusal) → before_stop (reply_for r ∷ []) ≡ 1
unstopped_for Unbound = refl
unstopped_for Taken = refl
unstopped_for Composite = refl
unstopped_for Illegal = refl
unstopped_for Range = refl
unstopped_for NotComposite = refl
unstopped_for TooLarge = refl

-- a command that is refused
pub refused_turn : (pool : SharedPool) (left : Left) (old new : Context) → MayTurn pool left old → (refusal : Refusal)
    → HasReplied old new (reply_for refusal) → (s : LaneState) (command : Command) → NamesAre s.names old.names
    → ((log : Log) → answer_of old.shape (lane_of old.seat) s command log
    ≡ Some (answer (reply_for refusal) s.names, log)) → HasTurned pool old new s command Ready (Went Ready)
refused_turn pool left old new may refusal replied s command are reads =
    noteless pool old new may.context may.asked old.names (reply_for refusal) (unstopped_for refusal) replied
    (rebound_same 1 old.names old.names refl) s command s.names are reads

-- a context of which only the seat is new
pub as_start : (old start : Context) → start ≡ record old { seat = start.seat }
    → start ≡ record old { seat = start.seat; counts = start.counts; sampler = start.sampler; asked = start.asked }
as_start old start is =
    is ∙ (λ i. record old {
      seat = start.seat;
      counts = sym (ap (λ (x : Context). x.counts) is) i;
      sampler =
          sym (ap (λ (x : Context). x.sampler) is) i;
      asked = sym (ap (λ (x : Context). x.asked) is) i;
    })

-- ---- A step on the count of a root.

-- a seat that made a step on the count of a root, and has nothing more in hand
pub ref_advances : (pool : SharedPool) (old start : Context) → IsContext pool empty_hand old
    → (r : RootId) (did : RefDid) (moves spent : ℕ) → SameSeat old.seat start.seat → IsPoolSeat pool start.seat
    → HasView start.seat (with_ref (view_of old.seat) r did moves) → (view_of old.seat).moves ≤ moves + spent →
    ref_born did ≡ 0 → ref_ended did ≡ 0 → ref_vacated did ≡ 0
    → Advances pool old.seat start.seat empty_hand (Ref r did ∷ []) spent
ref_advances pool old start d r did moves spent same seat has enough born ended vacated =
    let grows : Grows (view_of old.seat) (view_of start.seat) (Ref r did ∷ []) spent =
    grows_ref pool old.seat start.seat d.seat seat r did moves spent has enough in
    record {
      same = same;
      seat = seat;
      grows = grows;
      held =
          held_on (view_of old.seat) (view_of start.seat) (Ref r did ∷ []) spent empty_hand empty_hand grows
          (ref_carries (lane_in (view_of old.seat)) empty_hand r did born ended vacated) d.held;
    }

-- ---- A command that makes one note, and is answered.

module _ (pool : SharedPool) (old start mid new : Context) (d : IsContext pool empty_hand old)
    (low : old.asked < sweep_period)
    (start_is : start ≡ record old
    { seat = start.seat; counts = start.counts; sampler = start.sampler; asked = start.asked })
    (asked : start.asked ≡ old.asked)
    (e : Entry) (spent : ℕ) (adv : Advances pool old.seat start.seat empty_hand (e ∷ []) spent)
    (noted : HasNoted start mid (note_of e ∷ [])) where
  mid_context : mid ≡ record old {
    seat = start.seat;
    counts = start.counts;
    sampler = start.sampler;
    notes =
        mid.notes;
    asked = start.asked;
  }
  mid_context = mid_is pool empty_hand empty_hand old start mid d start_is (e ∷ []) spent adv noted

  -- with these names
  pub one_turn : (names : List (Option Bound)) (reply : Reply) → before_stop (reply ∷ []) ≡ 1
      → HasReplied (record mid { names = names }) new reply → Recounts old.counts start.counts (entry_of e ∷ [])
      → length start.counts ≡ length old.counts → AreSampled old.sampler (e ∷ []) start.sampler
      → RebindsAt 1 old start.seat names →
      (s : LaneState) (command : Command) (bound : Names) → NamesAre bound names → 1 ≤
      (left_for old.composes command).notes
      → takes e ≤ (left_for old.composes command).takes → spent ≤ (left_for old.composes command).moves
      → ((to : ℕ) → sent_on (lane_in (view_of old.seat)) to (e ∷ []) ≤ (left_for old.composes command).sends to) →
      ReadsOn (answer_of old.shape (lane_of old.seat) s command) (entry_of e ∷ []) none_asked
      (give (answer reply bound)) → HasTurned pool old new s command Ready (Went Ready)
  one_turn names reply unstopped replied recounts places sampled rebound s command bound are notes taken moved sent
      reads =
      let counts_are : mid.counts ≡ start.counts = ap (λ (x : Context). x.counts) mid_context in
      let still_low : start.asked < sweep_period = omega (arith, low, asked) in
      let final : Context = record old {
        seat = start.seat;
        names = names;
        counts = mid.counts;
        sampler =
            start.sampler;
        notes =
            mid.notes;
        replies = new.replies;
        begun = length mid.notes.items;
        asked = start.asked;
      } in
      answered pool empty_hand empty_hand old start mid d start_is (e ∷ []) spent adv noted new names mid.counts reply
      replied refl
      (subst (λ (cs : List Counted). Recounts old.counts cs (entry_of e ∷ [])) (sym counts_are) recounts)
      (ap (λ (cs : List Counted). length cs) counts_are ∙ places) sampled rebound s command Ready bound are unstopped
      still_low
      (spends_at old final (left_for old.composes command) (notes_alone 0)
      (spends (view_of old.seat) (view_of start.seat) (e ∷ []) spent adv.grows (left_for old.composes command)
      (notes_alone 0)
      (omega (arith, notes)) (let t = sum_by-cons takes e [] in omega (arith, t, taken)) (omega (arith, moved))
      (λ to. (let a = sent to in omega (arith, a))))
      (omega (arith, asked)))
      (swept_reads pool empty_hand empty_hand old start mid d start_is (e ∷ []) spent adv noted new names mid.counts
      reply replied none_asked asked still_low (answer_of old.shape (lane_of old.seat) s command) bound reads)

  pub mid_names : mid.names ≡ old.names
  mid_names = ap (λ (x : Context). x.names) mid_context

  -- with the names as they were
  pub one_turn_same : (reply : Reply) → before_stop (reply ∷ []) ≡ 1 → HasReplied mid new reply
      → Recounts old.counts start.counts (entry_of e ∷ []) → length start.counts ≡ length old.counts
      → AreSampled old.sampler (e ∷ []) start.sampler →
      (s : LaneState) (command : Command) → NamesAre s.names old.names → 1 ≤ (left_for old.composes command).notes
      → takes e ≤ (left_for old.composes command).takes → spent ≤ (left_for old.composes command).moves
      → ((to : ℕ) → sent_on (lane_in (view_of old.seat)) to (e ∷ []) ≤ (left_for old.composes command).sends to) →
      ReadsOn (answer_of old.shape (lane_of old.seat) s command) (entry_of e ∷ []) none_asked
      (give (answer reply s.names)) → HasTurned pool old new s command Ready (Went Ready)
  one_turn_same reply unstopped replied recounts places sampled s command are notes taken moved sent reads =
      one_turn mid.names reply unstopped replied recounts places sampled
      (rebound_same 1 old.names mid.names mid_names) s command s.names
      (subst (NamesAre s.names) (sym mid_names) are) notes taken moved sent reads

-- ---- The commands.

-- how the law reads a look and a retain of a view that the lane counts
module _ (shape : Shape) (lane : ℕ) (s : LaneState) (names : List (Option Bound)) (cs : List Counted)
    (state : IsState s names cs) (name : ℕ) (v : ViewData) (bound : bound_at names name ≡ Some (Plain v))
    (lt : 0 < counted cs v.root) where
  reads_look : (k : ℕ) → ReadsOn (answer_of shape lane s (Command.Refcnt name)) (entry_of (Ref v.root (Look k)) ∷ [])
      none_asked (give (answer (Reply.OkNumber k) s.names))
  reads_look k log =
      let e = entry_of (Ref v.root (Look k)) in
      goes_uncounted s names cs state shape lane (Command.Refcnt name) name v bound lt refl (before_left log (e ∷ []))
      ∙ ap (λ (o : Option Bound). (given o >>= count_in s) (before_left log (e ∷ [])))
      (named_so s names cs state name (Some (Plain v)) bound)
      ∙ given_on (step v.root says.look) (e ∷ []) none_asked (λ (n : ℕ). give (answer (Reply.OkNumber n) s.names)) k
      (step_on e v.root says.look (Look k) refl k refl) log

  reads_retain : ReadsOn (answer_of shape lane s (Command.Retain name)) (entry_of (Ref v.root Retain) ∷ []) none_asked
      (give (answer Reply.Ok s.names))
  reads_retain log =
      let e = entry_of (Ref v.root Retain) in
      goes_uncounted s names cs state shape lane (Command.Retain name) name v bound lt refl (before_left log (e ∷ []))
      ∙ ap (λ (o : Option Bound). (given o >>= retain_of s name) (before_left log (e ∷ [])))
      (named_so s names cs state name (Some (Plain v)) bound)
      ∙ given_on (step v.root says.retain) (e ∷ []) none_asked (λ _. give (answer Reply.Ok s.names)) tt
      (step_on e v.root says.retain Retain refl tt refl) log

pub look_turn : (pool : SharedPool) (name : ℕ) (old start mid new : Context)
    → MayTurn pool (left_for old.composes (Command.Refcnt name)) old → start ≡ record old { seat = start.seat } →
    SameSeat old.seat start.seat → IsPoolSeat pool start.seat → (v : ViewData) → bound_at old.names name ≡ Some
    (Plain v)
    → 0 < counted old.counts v.root → (k : ℕ) → HasView start.seat
    (with_ref (view_of old.seat) v.root (Look k) (view_of old.seat).moves) →
    HasNoted start mid (Note.Ref v.root (Look k) ∷ []) → HasReplied mid new (Reply.OkNumber k) → (s : LaneState)
    → IsState s old.names old.counts → HasTurned pool old new s (Command.Refcnt name) Ready (Went Ready)
look_turn pool name old start mid new may start_is same seat v bound lt k has noted replied s state =
    let adv = ref_advances pool old start may.context v.root (Look k) (view_of old.seat).moves 0 same seat has
    (omega arith) refl refl refl in
    let counts_are : start.counts ≡ old.counts = ap (λ (x : Context). x.counts) start_is in
    one_turn_same pool old start mid new may.context may.asked (as_start old start start_is)
    (ap (λ (x : Context). x.asked) start_is) (Ref v.root (Look k)) 0 adv noted (Reply.OkNumber k) refl replied
    (subst (λ (cs : List Counted). Recounts old.counts cs (entry_of (Ref v.root (Look k)) ∷ [])) (sym counts_are)
    (looked old.counts v.root k lt))
    (ap (λ (cs : List Counted). length cs) counts_are) (sym (ap (λ (x : Context). x.sampler) start_is)) s
    (Command.Refcnt name) state.names_are (omega arith) (omega arith) (omega arith) (λ to. omega arith)
    (reads_look old.shape (lane_of old.seat) s old.names old.counts state name v bound lt k)

pub retain_turn : (pool : SharedPool) (name : ℕ) (old mid new : Context)
    → MayTurn pool (left_for old.composes (Command.Retain name)) old → (v : ViewData) → bound_at old.names name ≡ Some
    (Plain v)
    → 0 < counted old.counts v.root →
    HasRetained pool old mid v.root → HasReplied mid new Reply.Ok → (s : LaneState) → IsState s old.names old.counts
    → HasTurned pool old new s (Command.Retain name) Ready (Went Ready)
retain_turn pool name old mid new may v bound lt did replied s state =
    let start : Context = record old { seat = mid.seat; counts = mid.counts } in
    let adv = ref_advances pool old start may.context v.root Retain ((view_of old.seat).moves - 1) 1 did.same did.seat
    did.did (omega arith) refl refl refl in
    one_turn_same pool old start mid new may.context may.asked refl refl (Ref v.root Retain) 1 adv did.noted Reply.Ok
    refl
    replied
    (retained old.counts mid.counts v.root lt did.counts.counts) did.counts.places refl s (Command.Retain name)
    state.names_are (omega arith) (omega arith) (omega arith) (λ to. omega arith)
    (reads_retain old.shape (lane_of old.seat) s old.names old.counts state name v bound lt)
