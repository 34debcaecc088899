-- The turns of the commands that bind a name, release a root, or claim a root's place.
use Rattle.std.proofs.Common.{◌≡◌, ℕ, ◌+◌, ◌-◌, ◌<◌, ◌≤◌, List, [], ◌∷◌, ◌++◌, Bool, true, false, length, refl, sym, ap, ◌∙◌, subst, arith, Option, Some, None, leb-true}
use Rattle.std.specs.Prelude.{vec_capacity, slice_set, option_and_then, if◌then◌else◌}
use Rattle.std.proofs.lemmas.List.{length-map}
use Rattle.std.proofs.lemmas.List.Sums.{sum_by-cons}
use Rattle.pool_law.specs.declared.command.Command.{Command}
use Rattle.pool_law.specs.declared.id.RootId.{RootId}
use Rattle.pool_law.specs.declared.id.ViewData.{ViewData}
use Rattle.pool_law.specs.declared.note.Note.{Note}
use Rattle.pool_law.specs.declared.note.RefDid.TheVariants.{Retain, Kept, Ended}
use Rattle.pool_law.specs.declared.run.Reply.{Reply}
use Rattle.pool_law.specs.declared.run.Shape.{Shape}
use Rattle.pool_law.specs.Views.{in_range, slice_of, LiesIn}
use Rattle.pool_law.specs.Dids as says
use Rattle.pool_law.specs.LaneLaw.{sweep_period}
use Rattle.pool_law.specs.LaneStates.{LaneState}
use Rattle.pool_law.specs.Lanes.{Answer, answer, answer_of, release_of}
use Rattle.pool_law.specs.Names.{Bound, Plain, Names, bind, without, has_range}
use Rattle.pool_law.specs.Patterns.{release, end_of}
use Rattle.pool_law.specs.Readers.{Log, Reader, ◌>>=◌, ◌>>◌, give, given, nothing, step}
use Rattle.pool_law.specs.Refusals.{unbound}
use Rattle.pool_law.specs.Same.{same_root}
use Rattle.pool_law.proofs.PatternLemmas.{same_root-refl}
use Rattle.pool_table.specs.declared.roots.EndToken.{EndToken}
use Rattle.pool_table.specs.declared.views.Entry.TheVariants.{Ref}
use Rattle.pool_table.specs.declared.views.SeatView.{SeatView}
use Rattle.pool_table.specs.Counts.{with_ref, on_this, ref_loss, HasCount, HasToken}
use Rattle.shared_pool.specs.SeatViews.{view_of, SameSeat, HasView}
use Rattle.shared_pool.specs.declared.pool.SharedPool.{SharedPool}
use Rattle.shared_pool.specs.Closing.{entry_of}
use Rattle.shared_pool.specs.RootNotes.{HoldsToken}
use Rattle.shared_pool.specs.SeatLanes.{lane_of}
use Rattle.shared_pool.specs.Seats.{IsPoolSeat}
use Rattle.lane_stages.specs.declared.counts.Counted.{Counted}
use Rattle.lane_context.specs.declared.context.Context.{Context}
use Rattle.lane_context.specs.declared.context.Stage.TheVariants.{Ready, Ending}
use Rattle.lane_context.specs.declared.context.Turn.TheVariants.{Went}
use Rattle.lane_stages.specs.declared.retirement.Ending.TheVariants.{Root as RootEnds}
use Rattle.lane_context.specs.Accesses.{IsState}
use Rattle.lane_stages.specs.Allotments.{left_with}
use Rattle.seat_work.specs.Hands.{lane_in, Hand, empty_hand}
use Rattle.lane_stages.specs.Budgets.{Spends, notes_alone}
use Rattle.seat_work.specs.Changes.{one_for}
use Rattle.lane_stages.specs.Counting.{counted}
use Rattle.lane_context.specs.Named.{bound_at, NamesAre, known_to, AreInside}
use Rattle.lane_stages.specs.Endings.{retired}
use Rattle.seat_work.specs.Readings.{before_left, behind, ReadsOn}
use Rattle.lane_stages.specs.Readings.{none_asked}
use Rattle.lane_context.specs.Readings.{swept, renamed}
use Rattle.lane_context.specs.Contexts.{IsContext, notes_of, entries_of, HasRoomFor, reads_from, left_for, HasTurned}
use Rattle.lane_context.specs.ContextSteps.{HasNoted, HasReplied, HasRetained, CountsMore, CountsLess, MayTurn}
use Rattle.lane_stages.proofs.CountLaws.{counted_within}
use Rattle.lane_context.proofs.NameLaws.{NamesAre-bind, NamesAre-unbound, rebound_view, rebound_none}
use Rattle.seat_work.proofs.Grown.{Grows, grows_ref}
use Rattle.lane_stages.proofs.Grown.{spends}
use Rattle.seat_work.proofs.HandLaws.{Carries, held_on}
use Rattle.lane_stages.proofs.EntryCounts.{retained, kept, ended}
use Rattle.lane_stages.proofs.SeatCounts.{last_count, has_count, few_counted, stays_counted}
use Rattle.seat_work.proofs.ReadLaws.{then_on, given_on, first_on, second_on, none_then, step_on}
use Rattle.lane_stages.proofs.ReadLaws.{step_off}
use Rattle.lane_context.proofs.StateReads.{named_so, viewed, is_bound, passed, used_fresh, ranged_fresh, unranged_fresh, goes, refuses, goes_uncounted}
use Rattle.lane_context.proofs.ContextLaws.{Advances, spends_at}
use Rattle.lane_context.proofs.ContextGrown.{mid_grew, goes_on}
use Rattle.seat_work.proofs.HandNotes.{weightless, ended_carries}
use Rattle.lane_stages.proofs.Knowing.{lies_more}
use Rattle.lane_context.proofs.Turning.{noteless, ref_advances, one_turn, one_turn_same, mid_names}

-- ---- Names.

-- a name is unbound
pub forget_turn : (pool : SharedPool) (name : ℕ) (old new : Context) → MayTurn pool (left_for old.composes
    (Command.Forget name)) old
    → name < length old.names → (b : Bound) → bound_at old.names name ≡ Some b →
    HasReplied (record old { names = slice_set old.names name None }) new Reply.Ok → (s : LaneState)
    → IsState s old.names old.counts → HasTurned pool old new s (Command.Forget name) Ready (Went Ready)
forget_turn pool name old new may lt b is replied s state =
    noteless pool old new may.context may.asked (slice_set old.names name None) Reply.Ok refl replied
    (rebound_none 1 old.names old.names refl name lt) s (Command.Forget name) (without name s.names)
    (NamesAre-unbound s.names old.names state.names_are name lt)
    (goes s old.names old.counts state old.shape (lane_of old.seat) (Command.Forget name)
    (passed (unbound s name) [] (is_bound s old.names old.counts state name b is)))

-- a new name is bound to a view
module _ (pool : SharedPool) (fresh : ℕ) (old new : Context) (d : IsContext pool empty_hand old)
    (low : old.asked < sweep_period) (lt : fresh < length old.names) (v : ViewData)
    (lies : LiesIn (known_to old.seat v.root) v)
    (replied : HasReplied (record old { names = slice_set old.names fresh (Some (Plain v)) }) new Reply.Ok)
    (s : LaneState)
    (are : NamesAre s.names old.names) where
  pub bound_turn : (command : Command)
      → ((log : Log) → answer_of old.shape (lane_of old.seat) s command log
      ≡ Some (answer Reply.Ok (bind fresh (Plain v) s.names), log))
      → HasTurned pool old new s command Ready (Went Ready)
  bound_turn command reads =
      noteless pool old new d low (slice_set old.names fresh (Some (Plain v))) Reply.Ok refl replied
      (rebound_view 1 old.names old.names refl fresh lt v lies) s command (bind fresh (Plain v) s.names)
      (NamesAre-bind s.names old.names are fresh (Plain v) lt) reads

-- ---- A release.

-- a release, by what the step on the word says
module _ (shape : Shape) (root : RootId) where
  abbrev keeps : Reader Reply
  keeps = step root says.count_kept >> give Reply.Kept

  read_kept : ReadsOn (release shape root) (entry_of (Ref root Kept) ∷ []) none_asked (give Reply.Kept)
  read_kept =
      let e = entry_of (Ref root Kept) in
      first_on keeps (end_of shape root >> give Reply.Freed) (e ∷ []) none_asked Reply.Kept
      (given_on (step root says.count_kept) (e ∷ []) none_asked (λ _. give Reply.Kept) tt
      (step_on e root says.count_kept Kept refl tt refl))

  read_ended : ReadsOn (release shape root) (entry_of (Ref root Ended) ∷ []) none_asked
      (retired shape root >> give Reply.Freed)
  read_ended =
      let e = entry_of (Ref root Ended) in
      second_on keeps (end_of shape root >> give Reply.Freed) (e ∷ []) none_asked
      (retired shape root >> give Reply.Freed)
      (λ log. none_then (step root says.count_kept) (λ _. give Reply.Kept) (before_left log (e ∷ []))
      (step_off e root says.count_kept Ended refl refl log))
      (then_on (end_of shape root) (e ∷ []) none_asked (λ _. give Reply.Freed) (retired shape root)
      (given_on (step root says.ended) (e ∷ []) none_asked (λ _. retired shape root) tt
      (step_on e root says.ended Ended refl tt refl)))

abbrev then_answer : Names → Reply × Log → Option (Answer × Log)
then_answer names got = Some (answer got.0 names, got.1)

abbrev then_freed : Unit {0} × Log → Option (Reply × Log)
then_freed got = Some (Reply.Freed, got.1)

abbrev then_both : Names → Unit {0} × Log → Option (Answer × Log)
then_both names got = Some (answer Reply.Freed names, got.1)

-- the end of a root, and its answer
freed : (names : Names) (r : Reader (Unit {0})) (log : Log)
    → (r >> give Reply.Freed >>= (λ reply. give (answer reply names))) log ≡ (r >> give (answer Reply.Freed names)) log
freed names r log = last (r log)
  where
    last : (o : Option (Unit {0} × Log)) → option_and_then (then_answer names) (option_and_then then_freed o)
        ≡ option_and_then (then_both names) o
    last None = refl
    last (Some got) = refl

-- the release of a view that the lane counts
module _ (shape : Shape) (lane : ℕ) (s : LaneState) (names : List (Option Bound)) (cs : List Counted)
    (state : IsState s names cs) (name : ℕ) (v : ViewData) (bound : bound_at names name ≡ Some (Plain v))
    (lt : 0 < counted cs v.root) where
  released : (log : Log) → answer_of shape lane s (Command.Release name) log
      ≡ (release shape v.root >>= (λ reply. give (answer reply s.names))) log
  released log =
      goes_uncounted s names cs state shape lane (Command.Release name) name v bound lt refl log
      ∙ ap (λ (o : Option Bound). (given o >>= release_of shape s name) log)
      (named_so s names cs state name (Some (Plain v)) bound)

  reads_kept : ReadsOn (answer_of shape lane s (Command.Release name)) (entry_of (Ref v.root Kept) ∷ []) none_asked
      (give (answer Reply.Kept s.names))
  reads_kept log =
      let e = entry_of (Ref v.root Kept) in
      released (before_left log (e ∷ [])) ∙ given_on (release shape v.root) (e ∷ []) none_asked
      (λ reply. give (answer reply s.names)) Reply.Kept (read_kept shape v.root) log

  reads_ended : ReadsOn (answer_of shape lane s (Command.Release name)) (entry_of (Ref v.root Ended) ∷ []) none_asked
      (retired shape v.root >> give (answer Reply.Freed s.names))
  reads_ended log =
      let e = entry_of (Ref v.root Ended) in
      released (before_left log (e ∷ []))
      ∙ then_on (release shape v.root) (e ∷ []) none_asked (λ reply. give (answer reply s.names))
      (retired shape v.root >> give Reply.Freed) (read_ended shape v.root) log
      ∙ freed s.names (retired shape v.root) (behind log (e ∷ []) none_asked)

-- a release may make the notes of the end of a root
pub release_notes : (composes : Bool) (name : ℕ) → 6 ≤ (left_for composes (Command.Release name)).notes
release_notes true name = omega arith
release_notes false name = omega arith

pub kept_turn : (pool : SharedPool) (name : ℕ) (old start mid new : Context)
    → MayTurn pool (left_for old.composes (Command.Release name)) old
    → start ≡ record old { seat = start.seat; counts = start.counts } →
    SameSeat old.seat start.seat → IsPoolSeat pool start.seat → (v : ViewData) → bound_at old.names name ≡ Some
    (Plain v)
    → 0 < counted old.counts v.root → HasView start.seat
    (with_ref (view_of old.seat) v.root Kept ((view_of old.seat).moves + 1))
    → CountsLess old.counts start.counts v.root →
    HasNoted start mid (Note.Ref v.root Kept ∷ []) → HasReplied mid new Reply.Kept → (s : LaneState)
    → IsState s old.names old.counts → HasTurned pool old new s (Command.Release name) Ready (Went Ready)
kept_turn pool name old start mid new may start_is same seat v bound lt has less noted replied s state =
    let adv = ref_advances pool old start may.context v.root Kept ((view_of old.seat).moves + 1) 0 same seat has
    (omega arith) refl refl refl in
    let sampler_is : start.sampler ≡ old.sampler = ap (λ (x : Context). x.sampler) start_is in
    let asked_is : start.asked ≡ old.asked = ap (λ (x : Context). x.asked) start_is in
    one_turn_same pool old start mid new may.context may.asked
    (start_is ∙ (λ i. record old {
      seat = start.seat;
      counts = start.counts;
      sampler = sym sampler_is i;
      asked =
          sym asked_is i;
    })) asked_is (Ref v.root Kept) 0 adv noted Reply.Kept refl replied
    (kept old.counts start.counts v.root lt less.counts) less.places (sym sampler_is) s (Command.Release name)
    state.names_are (let n = release_notes old.composes name in omega (arith, n)) (omega arith) (omega arith)
    (λ to. omega arith)
    (reads_kept old.shape (lane_of old.seat) s old.names old.counts state name v bound lt)

pub ended_turn : (pool : SharedPool) (name : ℕ) (old start mid : Context)
    → MayTurn pool (left_for old.composes (Command.Release name)) old
    → start ≡ record old { seat = start.seat; counts = start.counts } →
    SameSeat old.seat start.seat → IsPoolSeat pool start.seat → (v : ViewData) → bound_at old.names name ≡ Some
    (Plain v)
    → 0 < counted old.counts v.root → (token : EndToken) → token.root ≡ v.root → HoldsToken start.seat token
    → HasView start.seat (with_ref (view_of old.seat) v.root Ended (view_of old.seat).moves)
    → CountsLess old.counts start.counts v.root →
    HasNoted start mid (Note.Ref v.root Ended ∷ []) → (s : LaneState) → IsState s old.names old.counts
    → HasTurned pool old mid s (Command.Release name) Ready (Went (Ending (RootEnds token)))
ended_turn pool name old start mid may start_is same seat v bound lt token is holds has less noted s state =
    let r : RootId = v.root in
    let after : Hand = record empty_hand { token = Some token.root } in
    let grows : Grows (view_of old.seat) (view_of start.seat) (Ref r Ended ∷ []) 0 =
    grows_ref pool old.seat start.seat may.context.seat seat r Ended (view_of old.seat).moves 0 has (omega arith) in
    let adv : Advances pool old.seat start.seat after (Ref r Ended ∷ []) 0 = record {
      same = same;
      seat = seat;
      grows = grows;
      held = held_on (view_of old.seat) (view_of start.seat) (Ref r Ended ∷ []) 0 empty_hand after grows
          (subst (λ (q : RootId). Carries (lane_in (view_of old.seat)) empty_hand (record empty_hand { token = Some q })
          (Ref r Ended ∷ [])) (sym is) (ended_carries (lane_in (view_of old.seat)) r)) may.context.held;
    } in
    let sampler_is : start.sampler ≡ old.sampler = ap (λ (x : Context). x.sampler) start_is in
    let asked_is : start.asked ≡ old.asked = ap (λ (x : Context). x.asked) start_is in
    let from_old = start_is ∙ (λ i. record old
    { seat = start.seat; counts = start.counts; sampler = sym sampler_is i; asked = sym asked_is i }) in
    let mid_asked : mid.asked ≡ old.asked = ap (λ (x : Context). x.asked) noted.rest ∙ asked_is in
    let lane = lane_of old.seat in let before : Reader Answer =
    reads_from old.shape lane s (Command.Release name) Ready in
    let seat_is : mid.seat ≡ start.seat = ap (λ (x : Context). x.seat) noted.rest in
    let uncounted : HasCount r (view_of start.seat)
    → ⊥ = seat.counts.ended r (subst (λ (q : RootId). HasToken q (view_of start.seat)) is holds.token_is) in
    let last = last_count old.counts (view_of old.seat) (view_of start.seat) r 0 may.context.counts
    may.context.seat.alone
    grows uncounted in
    let none : counted start.counts r ≡ 0 =
    (let a = less.counts r in let b : one_for r r
    ≡ 1 = ap (λ (t : Bool). if t then 1 else 0) (same_root-refl r) in omega (arith, a, b, last)) in
    record {
      added = Ref r Ended ∷ [];
      grew =
          mid_grew pool empty_hand after old start mid may.context from_old (Ref r Ended ∷ []) 0 adv noted
          (ended old.counts start.counts r lt less.counts none) less.places (sym sampler_is);
      fits = (
        subst (λ x. HoldsToken x token) (sym seat_is) holds,
        (let a = mid_asked in let b = may.asked in omega (arith, a, b)),
      );
      name = tt;
      spends = spends_at old mid (left_for old.composes (Command.Release name)) (notes_alone 5)
          (subst (λ x. Spends (view_of old.seat) (view_of x) (left_for old.composes (Command.Release name))
          (notes_alone 5))
          (sym seat_is)
          (spends (view_of old.seat) (view_of start.seat) (Ref r Ended ∷ []) 0 grows (left_for old.composes
          (Command.Release name))
          (notes_alone 5) (let n = release_notes old.composes name in omega (arith, n)) (omega arith) (omega arith)
          (λ to. omega arith)))
          (let a = mid_asked in omega (arith, a));
      comes =
          goes_on pool empty_hand after old start mid may.context from_old (Ref r Ended ∷ []) 0 adv noted (omega arith)
          none_asked asked_is before (λ names. reads_from old.shape lane (renamed s names) (Command.Release name)
          (Ending (RootEnds token))) s.names state.names_are
          (λ log.
          then_on (answer_of old.shape lane s (Command.Release name)) (entry_of (Ref r Ended) ∷ []) none_asked
          (swept lane) (retired old.shape r >> give (answer Reply.Freed s.names))
          (reads_ended old.shape lane s old.names old.counts state name v bound lt) log
          ∙ ap (λ (q : RootId). (retired old.shape q >> give (answer Reply.Freed s.names) >>= swept lane)
          (behind log (entry_of (Ref r Ended) ∷ []) none_asked)) (sym is));
      waits = tt;
      held = tt;
    }

-- ---- A count more.

module _ (pool : SharedPool) (old : Context) (d : IsContext pool empty_hand old) (r : RootId)
    (lt : 0 < counted old.counts r)
  where
    pub counts_root : HasCount r (view_of old.seat)
    counts_root = has_count old.counts (view_of old.seat) d.seat.alone d.counts r lt

    pub counted_place : r.place < length old.counts
    counted_place = counted_within old.counts r lt

    pub few_of : HasRoomFor pool old (left_with 1 0 0 1) → counted old.counts r < 4294967295
    few_of room =
        let a = few_counted old.counts (entries_of old) d.counts r in let b = length-map (notes_of old) entry_of in
        let e = room.few in
        omega (arith, a, b, e)

-- of the root's place no other root is counted
pub alone_more : (pool : SharedPool) (old start : Context) (d : IsContext pool empty_hand old) (r : RootId) (moves : ℕ)
    → IsPoolSeat pool start.seat → HasView start.seat (with_ref (view_of old.seat) r Retain moves)
    → (view_of old.seat).moves ≤ moves + 1 → 0 < counted old.counts r →
    (other : RootId) → other.place ≡ r.place → 0 < counted old.counts other → other ≡ r
alone_more pool old start d r moves seat has enough lt other at counts =
    let v : SeatView = view_of old.seat in let w : SeatView = view_of start.seat in
    let grows : Grows v w (Ref r Retain ∷ []) 1 = grows_ref pool old.seat start.seat d.seat seat r Retain moves 1 has
    enough in
    let stays : (q : RootId) → HasCount q v → HasCount q w =
    (λ q. stays_counted v w (Ref r Retain ∷ []) 1 grows q
    (let a = sum_by-cons (on_this ref_loss q) (Ref r Retain) [] in let b = weightless (same_root r q) 0 refl in
    omega (arith, a, b)) (omega arith)) in
    seat.counts.one other r (stays other (has_count old.counts v d.seat.alone d.counts other counts))
    (stays r (has_count old.counts v d.seat.alone d.counts r lt)) at

-- a root was retained, noted and counted
pub has_retained : (pool : SharedPool) (old start mid : Context) (r : RootId) (ds : List Counted)
    → start ≡ record old { seat = start.seat } → SameSeat old.seat start.seat → IsPoolSeat pool start.seat
    → HasView start.seat (with_ref (view_of old.seat) r Retain ((view_of old.seat).moves - 1)) →
    HasNoted start mid (Note.Ref r Retain ∷ []) → CountsMore mid.counts ds r
    → HasRetained pool old (record mid { counts = ds }) r
has_retained pool old start mid r ds start_is same seat did noted more =
    let seat_is : mid.seat ≡ start.seat = ap (λ (x : Context). x.seat) noted.rest in
    let counts_are : mid.counts ≡ old.counts = ap (λ (x : Context). x.counts) noted.rest
    ∙ ap (λ (x : Context). x.counts) start_is in
    record {
      same = subst (λ x. SameSeat old.seat x) (sym seat_is) same;
      seat = subst (λ x. IsPoolSeat pool x) (sym seat_is) seat;
      did =
          subst (λ x. HasView x (with_ref (view_of old.seat) r Retain ((view_of old.seat).moves - 1))) (sym seat_is)
          did;
      noted = record {
        log = noted.log ∙ ap (λ (x : Context). x.notes.items ++ Note.Ref r Retain ∷ []) start_is;
        room =
            subst (λ (n : ℕ). n ≤ vec_capacity mid.notes) (ap (λ (x : Context). vec_capacity x.notes) start_is)
            noted.room;
        rest =
            ap (λ (x : Context). record x { counts = ds })
            (noted.rest ∙ ap (λ (x : Context). record x { notes = mid.notes }) start_is)
            ∙ (λ i. record old { seat = sym seat_is i; counts = ds; notes = mid.notes });
      };
      counts = subst (λ (cs : List Counted). CountsMore cs ds r) counts_are more;
    }

-- a view of a name lies in what is known of its root, and so does a slice in its range
pub view_lies : (old : Context) (name : ℕ) (v : ViewData) → AreInside (known_to old.seat) old.names
    → bound_at old.names name ≡ Some (Plain v) → LiesIn (known_to old.seat v.root) v
view_lies old name v are bound = are.each name (Plain v) bound

pub slice_lies : (old : Context) (name : ℕ) (v : ViewData) → AreInside (known_to old.seat) old.names
    → bound_at old.names name ≡ Some (Plain v) → (at len : ℕ) → in_range v at len ≡ true
    → LiesIn (known_to old.seat v.root) (slice_of v at len)
slice_lies old name v are bound at len inside =
    let lies = view_lies old name v are bound in let le = leb-true (at + len) v.len inside in omega (arith, lies, le)

-- a slice that is retained
pub slice_turn : (pool : SharedPool) (fresh name at len : ℕ) (old mid new : Context)
    → MayTurn pool (left_for old.composes (Command.Slice fresh name at len true)) old → fresh < length old.names →
    (v : ViewData)
    → bound_at old.names name ≡ Some (Plain v) → bound_at old.names fresh ≡ None → 0 < counted old.counts v.root
    → in_range v at len ≡ true →
    HasRetained pool old mid v.root → HasReplied
    (record mid { names = slice_set mid.names fresh (Some (Plain (slice_of v at len))) }) new Reply.Ok → (s : LaneState)
    → IsState s old.names old.counts → HasTurned pool old new s (Command.Slice fresh name at len true) Ready
    (Went Ready)
slice_turn pool fresh name at len old mid new may in_names v bound none lt inside did replied s state =
    let start : Context = record old { seat = mid.seat; counts = mid.counts } in
    let adv = ref_advances pool old start may.context v.root Retain ((view_of old.seat).moves - 1) 1 did.same did.seat
    did.did (omega arith) refl refl refl in
    let names_are : mid.names ≡ old.names = mid_names pool old start mid new may.context may.asked refl refl
    (Ref v.root Retain) 1 adv did.noted in
    let w : ViewData = slice_of v at len in
    let lane = lane_of old.seat in let e = entry_of (Ref v.root Retain) in
    one_turn pool old start mid new may.context may.asked refl refl (Ref v.root Retain) 1 adv did.noted
    (slice_set mid.names fresh (Some (Plain w))) Reply.Ok refl replied
    (retained old.counts mid.counts v.root lt did.counts.counts) did.counts.places refl
    (rebound_view 1 old.names mid.names names_are fresh in_names w
    (lies_more (view_of old.seat) (view_of mid.seat) (Ref v.root Retain ∷ []) adv.grows.more w
    (slice_lies old name v may.context.inside bound at len inside))) s
    (Command.Slice fresh name at len true) (bind fresh (Plain w) s.names)
    (subst (λ (names : List (Option Bound)). NamesAre (bind fresh (Plain w) s.names)
    (slice_set names fresh (Some (Plain w)))) (sym names_are)
    (NamesAre-bind s.names old.names state.names_are fresh (Plain w) in_names))
    (omega arith) (omega arith) (omega arith) (λ to. omega arith)
    (λ log.
    goes s old.names old.counts state old.shape lane (Command.Slice fresh name at len true)
    (ranged_fresh s old.names old.counts state name (has_range at len) v bound fresh none lt inside)
    (before_left log (e ∷ []))
    ∙ ap (λ (o : Option ViewData). (given o >>= slices) (before_left log (e ∷ [])))
    (viewed s old.names old.counts state name v bound)
    ∙ given_on (step v.root says.retain) (e ∷ []) none_asked
    (λ _. give (answer Reply.Ok (bind fresh (Plain w) s.names))) tt
    (step_on e v.root says.retain Retain refl tt refl) log)
  where
    slices : ViewData → Reader Answer
    slices view =
        step view.root says.retain >> give (answer Reply.Ok (bind fresh (Plain (slice_of view at len)) s.names))

-- how the law reads a slice that isn't, one that leaves the view, and a duplicate
module _ (shape : Shape) (lane : ℕ) (s : LaneState) (names : List (Option Bound)) (cs : List Counted)
    (state : IsState s names cs) (fresh name : ℕ) (v : ViewData) (bound : bound_at names name ≡ Some (Plain v))
    (none : bound_at names fresh ≡ None) (lt : 0 < counted cs v.root) where
  pub reads_slice : (at len : ℕ) → in_range v at len ≡ true → (log : Log)
      → answer_of shape lane s (Command.Slice fresh name at len false) log
      ≡ Some (answer Reply.Ok (bind fresh (Plain (slice_of v at len)) s.names), log)
  reads_slice at len inside log =
      goes s names cs state shape lane (Command.Slice fresh name at len false)
      (ranged_fresh s names cs state name (has_range at len) v bound fresh none lt inside) log
      ∙ ap (λ (o : Option ViewData).
      (given o >>= (λ view. nothing >> give (answer Reply.Ok (bind fresh (Plain (slice_of view at len)) s.names))))
      log) (viewed s names cs state name v bound)

  pub reads_range : (at len : ℕ) (kept : Bool) → in_range v at len ≡ false → (log : Log)
      → answer_of shape lane s (Command.Slice fresh name at len kept) log ≡ Some (answer Reply.Range s.names, log)
  reads_range at len kept outside =
      refuses s names cs state shape lane (Command.Slice fresh name at len kept) Reply.Range
      (unranged_fresh s names cs state name (has_range at len) v bound fresh none lt outside)

  pub reads_duplicate : (log : Log) → answer_of shape lane s (Command.Dup fresh name) log
      ≡ Some (answer Reply.Ok (bind fresh (Plain v) s.names), log)
  reads_duplicate log =
      goes s names cs state shape lane (Command.Dup fresh name)
      (used_fresh s names cs state name v bound lt fresh none []) log
      ∙ ap (λ (o : Option ViewData). (given o >>= (λ view. give (answer Reply.Ok (bind fresh (Plain view) s.names))))
      log) (viewed s names cs state name v bound)
