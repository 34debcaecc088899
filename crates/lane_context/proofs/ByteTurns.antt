-- The turns of the commands that set bytes of a root and get them.
use Rattle.std.proofs.Common.{◌≡◌, ℕ, ◌<◌, ◌≤◌, List, [], ◌∷◌, Bool, true, false, length, refl, sym, ap, ◌∙◌, subst, Option, Some, Vec, Global}
use Rattle.std.specs.Prelude.{slice_set}
use Rattle.pool_law.specs.declared.command.Command.{Command}
use Rattle.pool_law.specs.declared.id.RootId.{RootId}
use Rattle.pool_law.specs.declared.note.Did.{Did}
use Rattle.pool_law.specs.declared.note.Held.{Held}
use Rattle.pool_law.specs.declared.note.Note.{Note}
use Rattle.pool_law.specs.declared.note.Object.TheVariants.{Root}
use Rattle.pool_law.specs.declared.run.Reply.{Reply}
use Rattle.pool_law.specs.LaneLaw.{sweep_period, before_stop}
use Rattle.pool_law.specs.LaneStates.{LaneState}
use Rattle.pool_law.specs.Lanes.{Answer, answer, answer_of}
use Rattle.pool_law.specs.Names.{Names, Bound, Plain}
use Rattle.pool_law.specs.Dids as says
use Rattle.pool_law.specs.Readers.{Log, Reader, give, access as accesses}
use Rattle.lane_stages.proofs.NextNotes.{access_begins, same_begins, then_begins}
use Rattle.lane_context.proofs.Ways.{HasWay, get_way, give_way, same_way, set_way, then_way}
use Rattle.lane_context.proofs.NameLaws.{rebound_view}
use Rattle.pool_table.specs.declared.views.Entry.TheVariants.{Busy}
use Rattle.shared_pool.specs.SeatViews.{view_of, SameSeat}
use Rattle.shared_pool.specs.declared.pool.SharedPool.{SharedPool}
use Rattle.shared_pool.specs.Closing.{entry_of}
use Rattle.shared_pool.specs.RootNotes.{access}
use Rattle.shared_pool.specs.SeatLanes.{lane_of}
use Rattle.shared_pool.specs.Seats.{IsPoolSeat, IsNoted, FoundBusy}
use Rattle.lane_context.specs.declared.access.Access.TheVariants.{Set, Get}
use Rattle.lane_context.specs.declared.access.Reach.{Reach}
use Rattle.lane_context.specs.declared.context.Context.{Context}
use Rattle.lane_context.specs.declared.context.Stage.TheVariants.{Ready}
use Rattle.lane_context.specs.declared.context.Turn.{Turn}
use Rattle.lane_context.specs.declared.context.Turn.TheVariants.{Went}
use Rattle.lane_context.specs.Accesses.{reads_set, reads_get, tries_or}
use Rattle.lane_stages.specs.NextNotes.{BeginsAt}
use Rattle.seat_work.specs.Readings.{before_left, ReadsOn}
use Rattle.lane_stages.specs.Readings.{none_asked}
use Rattle.lane_stages.specs.Counting.{counted}
use Rattle.seat_work.specs.Hands.{empty_hand}
use Rattle.lane_context.specs.Named.{NamesAre, known_to}
use Rattle.lane_context.specs.Contexts.{IsContext, left_for, HasTurned}
use Rattle.lane_context.specs.ContextSteps.{HasNoted, HasReplied, FindsBusy, AccessTurns}
use Rattle.lane_context.proofs.ContextWaits.{waits_turn}
use Rattle.pool_law.specs.Views.{LiesIn}
use Rattle.lane_stages.proofs.Knowing.{lies_more}
use Rattle.seat_work.proofs.Grown.{grows_noted}
use Rattle.lane_stages.proofs.AccessEntries.{IsAccessDid, set_is, get_is, access_entry}
use Rattle.lane_context.proofs.AccessTurns.{access_turn, access_names, busy_turn, read_set, read_get, read_busy}

-- the access of a reach to its root is noted, and its name is bound to what is behind it
module _ (pool : SharedPool) (old start mid new : Context) (d : IsContext pool empty_hand old)
    (low : old.asked < sweep_period) (start_is : start ≡ record old { seat = start.seat })
    (same : SameSeat old.seat start.seat) (seat : IsPoolSeat pool start.seat) (reach : Reach)
    (lt : 0 < counted old.counts reach.root) (in_names : reach.name < length old.names)
    (number : ℕ) (did : Did) (is : IsAccessDid reach.root number (view_of old.seat).own.number did)
    (made : IsNoted pool old.seat start.seat (Root reach.root.place) number (access reach.root did))
    (noted : HasNoted start mid (Note.At (Root reach.root.place) number did ∷ []))
    (lies : LiesIn (known_to old.seat reach.after.at.root) reach.after.at) where
  reached_turn : (reply : Reply) → before_stop (reply ∷ []) ≡ 1
      → HasReplied (record mid { names = slice_set mid.names reach.name (Some (Plain reach.after.at)) }) new reply →
      (s : LaneState) (command : Command) (bound : Names)
      → NamesAre bound (slice_set old.names reach.name (Some (Plain reach.after.at))) → 1 ≤
      (left_for old.composes command).notes →
      ReadsOn (answer_of old.shape (lane_of old.seat) s command)
      (entry_of (access_entry reach.root number (view_of old.seat).own.number did) ∷ []) none_asked
      (give (answer reply bound)) → HasTurned pool old new s command Ready (Went Ready)
  reached_turn reply unstopped replied s command bound are notes reads =
      let names_are : mid.names ≡ old.names = access_names pool old start mid new d low start_is same seat reach.root lt
      number did is made noted in
      access_turn pool old start mid new d low start_is same seat reach.root lt number did is made noted
      (slice_set mid.names reach.name (Some (Plain reach.after.at))) reply unstopped replied
      (rebound_view 1 old.names mid.names names_are reach.name in_names reach.after.at
      (lies_more (view_of old.seat) (view_of start.seat)
      (access_entry reach.root number (view_of old.seat).own.number did ∷ [])
      (grows_noted pool old.seat start.seat d.seat seat (Root reach.root.place) number (access reach.root did)
      made).more
      reach.after.at lies)) s command bound
      (subst (λ (names : List (Option Bound)). NamesAre bound (slice_set names reach.name (Some
      (Plain reach.after.at))))
      (sym names_are) are) notes reads

module _ (pool : SharedPool) (old start mid new : Context) (d : IsContext pool empty_hand old)
    (low : old.asked < sweep_period) (start_is : start ≡ record old { seat = start.seat })
    (same : SameSeat old.seat start.seat) (seat : IsPoolSeat pool start.seat) (reach : Reach)
    (lt : 0 < counted old.counts reach.root) (in_names : reach.name < length old.names) (number : ℕ)
    (lies : LiesIn (known_to old.seat reach.after.at.root) reach.after.at) where
  -- bytes were set
  pub set_turn : (bytes : Vec ℕ Global) → IsNoted pool old.seat start.seat (Root reach.root.place) number
      (access reach.root (Did.Set reach.offset bytes.items))
      → HasNoted start mid (Note.At (Root reach.root.place) number (Did.Set reach.offset bytes.items) ∷ []) →
      HasReplied (record mid { names = slice_set mid.names reach.name (Some (Plain reach.after.at)) }) new Reply.Ok
      → AccessTurns pool old new (Set reach bytes) (Went Ready)
  set_turn bytes made noted replied = λ s command state prepared.
      let lane : Option ℕ = (view_of old.seat).own.number in let bound = prepared.bound in
      let e = entry_of (access_entry reach.root number lane (Did.Set reach.offset bytes.items)) in
      reached_turn pool old start mid new d low start_is same seat reach lt in_names number
      (Did.Set reach.offset bytes.items)
      (set_is reach.root number lane reach.offset bytes.items) made noted lies Reply.Ok refl replied s command bound
      prepared.names_are (prepared.noted old.composes)
      (λ log. prepared.read old.shape (lane_of old.seat) (before_left log (e ∷ []))
      ∙ read_set s bound reach number lane bytes.items log)

  -- bytes were got
  pub get_turn : (note reply : Vec ℕ Global) (bytes : List ℕ) → length bytes ≡ length note.items
      → IsNoted pool old.seat start.seat (Root reach.root.place) number (access reach.root (Did.Get reach.offset bytes))
      → HasNoted start mid (Note.At (Root reach.root.place) number (Did.Get reach.offset bytes) ∷ []) →
      HasReplied (record mid { names = slice_set mid.names reach.name (Some (Plain reach.after.at)) }) new
      (Reply.OkBytes bytes)
      → AccessTurns pool old new (Get reach note reply) (Went Ready)
  get_turn note reply bytes len made noted replied = λ s command state prepared.
      let lane : Option ℕ = (view_of old.seat).own.number in let bound = prepared.bound in
      let e = entry_of (access_entry reach.root number lane (Did.Get reach.offset bytes)) in
      reached_turn pool old start mid new d low start_is same seat reach lt in_names number (Did.Get reach.offset bytes)
      (get_is reach.root number lane reach.offset bytes) made noted lies (Reply.OkBytes bytes) refl replied s command
      bound prepared.names_are (prepared.noted old.composes)
      (λ log. prepared.read old.shape (lane_of old.seat) (before_left log (e ∷ []))
      ∙ read_get s bound reach number lane bytes (length note.items) len log)

-- another seat was at the root of an access
module _ (pool : SharedPool) (old start new : Context) (d : IsContext pool empty_hand old)
    (low : old.asked < sweep_period)
    (start_is : start ≡ record old { seat = start.seat }) (same : SameSeat old.seat start.seat)
    (seat : IsPoolSeat pool start.seat) (reach : Reach) (view : reach.after.at.root ≡ reach.root) (held : Held)
    (turn : Turn)
    (s : LaneState) (command : Command) (going : Reader Answer) (are : NamesAre s.names old.names)
    (notes : 1 ≤ (left_for old.composes command).notes) where
  found_turn : (tries : Bool) → FoundBusy pool (Root reach.root.place) tries old.seat start.seat held
      → FindsBusy tries start new held turn →
      ((log : Log) → answer_of old.shape (lane_of old.seat) s command log ≡ tries_or tries s reach.after.at going log)
      → BeginsAt (Root reach.root.place) going → HasWay going → HasTurned pool old new s command Ready turn
  found_turn true found did reads begins way =
      subst (λ (t : Turn). HasTurned pool old new s command Ready t) (sym did.3)
      (busy_turn pool old start did.0 new d low start_is same seat held (Root reach.root.place) found did.1 did.2 s
      command are notes
      (λ log. reads (before_left log (entry_of (Busy held) ∷ []))
      ∙ read_busy s reach.after.at held going (found.object ∙ ap (λ (r : RootId). Root r.place) (sym view)) log))
  found_turn false found did reads begins way =
      subst (λ (x : Context × Turn). HasTurned pool old x.0 s command Ready x.1) (λ i. (sym did.0 i, sym did.1 i))
      (waits_turn pool old start low d start_is same seat (Root reach.root.place) held found s command
      (same_begins (Root reach.root.place) going (answer_of old.shape (lane_of old.seat) s command) reads begins)
      (same_way going (answer_of old.shape (lane_of old.seat) s command) reads way))

module _ (pool : SharedPool) (old start new : Context) (d : IsContext pool empty_hand old)
    (low : old.asked < sweep_period)
    (start_is : start ≡ record old { seat = start.seat }) (same : SameSeat old.seat start.seat)
    (seat : IsPoolSeat pool start.seat) (reach : Reach) (view : reach.after.at.root ≡ reach.root) (held : Held)
    (turn : Turn)
    (found : FoundBusy pool (Root reach.root.place) reach.tries old.seat start.seat held)
    (did : FindsBusy reach.tries start new held turn) where
  pub set_found : (bytes : Vec ℕ Global) → AccessTurns pool old new (Set reach bytes) turn
  set_found bytes = λ s command state prepared.
      found_turn pool old start new d low start_is same seat reach view held turn s command
      (reads_set prepared.bound reach bytes.items) state.names_are
      (prepared.noted old.composes) reach.tries found did (prepared.read old.shape (lane_of old.seat))
      (then_begins (Root reach.root.place) (accesses reach.root (says.set reach.offset bytes.items))
      (λ _. give (answer Reply.Ok prepared.bound))
      (access_begins (says.set reach.offset bytes.items) reach.root))
      (then_way (accesses reach.root (says.set reach.offset bytes.items)) (λ _. give (answer Reply.Ok prepared.bound))
      (set_way reach.root reach.offset bytes.items) (λ u. give_way (answer Reply.Ok prepared.bound)))

  pub get_found : (note reply : Vec ℕ Global) → AccessTurns pool old new (Get reach note reply) turn
  get_found note reply = λ s command state prepared.
      found_turn pool old start new d low start_is same seat reach view held turn s command
      (reads_get prepared.bound reach (length note.items)) state.names_are
      (prepared.noted old.composes) reach.tries found did (prepared.read old.shape (lane_of old.seat))
      (then_begins (Root reach.root.place) (accesses reach.root (says.get reach.offset (length note.items)))
      (λ bytes. give (answer (Reply.OkBytes bytes) prepared.bound))
      (access_begins (says.get reach.offset (length note.items)) reach.root))
      (then_way (accesses reach.root (says.get reach.offset (length note.items)))
      (λ bytes. give (answer (Reply.OkBytes bytes) prepared.bound))
      (get_way reach.root reach.offset (length note.items))
      (λ bytes. give_way (answer (Reply.OkBytes bytes) prepared.bound)))
