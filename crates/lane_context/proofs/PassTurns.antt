-- The turns of the commands of a stopped lane, which are passed over.
use Rattle.std.proofs.Common.{◌≡◌, ℕ, ◌-◌, ◌<◌, ◌≤◌, List, [], ◌∷◌, ◌++◌, length, map, refl, sym, ap, ◌∙◌, subst, arith, Option, length-append, append-nil}
use Rattle.std.specs.Prelude.{◌==◌, IsSome, option_and_then, vec_capacity}
use Rattle.std.proofs.lemmas.List.{length-map}
use Rattle.std.proofs.lemmas.List.Sums.{sum_by-cons}
use Rattle.pool_law.specs.declared.command.Command.{Command}
use Rattle.pool_law.specs.declared.note.Did.{Did}
use Rattle.pool_law.specs.declared.note.Note.{Note}
use Rattle.pool_law.specs.declared.note.Object.TheVariants.{Mail}
use Rattle.pool_law.specs.declared.run.Answered.{Answered}
use Rattle.pool_law.specs.declared.run.Reply.{Reply}
use Rattle.pool_law.specs.Dids as says
use Rattle.pool_law.specs.LaneStates.{new_lane, log_at}
use Rattle.pool_law.specs.Lanes.{not_carried_out, no_parcel}
use Rattle.pool_law.specs.Readers.{Log, ◌>>◌, give, at_end, read_all}
use Rattle.lane_context.proofs.NameLaws.{rebound_same}
use Rattle.pool_table.specs.declared.views.Entry.{Entry}
use Rattle.shared_pool.specs.SeatViews.{view_of}
use Rattle.shared_pool.specs.declared.pool.SharedPool.{SharedPool}
use Rattle.shared_pool.specs.Closing.{note_of, entry_of}
use Rattle.pool_table.specs.Letters.{sent_on}
use Rattle.shared_pool.specs.SeatLanes.{lane_of}
use Rattle.lane_context.specs.declared.context.Context.{Context}
use Rattle.lane_context.specs.declared.context.Stage.TheVariants.{Ready}
use Rattle.lane_context.specs.declared.context.Turn.TheVariants.{Went}
use Rattle.seat_work.specs.Hands.{lane_in, empty_hand}
use Rattle.lane_stages.specs.Budgets.{Left, Spends, notes_alone, takes}
use Rattle.lane_stages.specs.Sampled.{AreSampled}
use Rattle.lane_context.specs.Contexts.{IsContext, notes_of, HasRoomFor, left_for, PassesOver}
use Rattle.lane_context.specs.ContextSteps.{CanAnswer, HasNoted, HasReplied, HasPosted}
use Rattle.seat_work.proofs.Grown.{Grows}
use Rattle.lane_stages.proofs.Grown.{spends}
use Rattle.lane_stages.proofs.EntryCounts.{Recounts, none_recounted, still}
use Rattle.seat_work.proofs.ReadLaws.{note_on}
use Rattle.lane_context.proofs.ContextLaws.{Advances, spends_at}
use Rattle.lane_context.proofs.ContextGrown.{grew, length_is, lengthened}
use Rattle.lane_context.proofs.Turning.{grows_same}
use Rattle.lane_context.proofs.PostTurns.{one_post, posted_entry, post_advances}

-- a context with room for these notes more and a reply can answer behind them
pub can_answer_behind : (pool : SharedPool) (left : Left) (old mid : Context) → IsContext pool empty_hand old
    → HasRoomFor pool old left → length old.replies.items < vec_capacity old.replies → (notes : List Note)
    → length notes ≤ left.notes → HasNoted (record old { seat = mid.seat }) mid notes → CanAnswer mid
can_answer_behind pool left old mid d room replies notes some noted =
    let a = ap (λ (ns : List Note). length ns) d.log ∙ length-map (notes_of old) note_of in let b = room.few in
    let c = ap (λ (ns : List Note). length ns) noted.log in let e = length-append old.notes.items notes in
    let g = d.begun in let h = ap (λ (x : Context). x.begun) noted.rest in
    record {
      begun = omega (arith, a, c, e, g, h);
      few = omega (arith, a, b, c, e, some);
      room = subst (λ (x : Context). length x.replies.items < vec_capacity x.replies) (sym noted.rest) replies;
    }

module _ (pool : SharedPool) (command : Command) (old mid new : Context) (d : IsContext pool empty_hand old)
    (added : List Entry) (adv : Advances pool old.seat mid.seat empty_hand added 0)
    (noted : HasNoted (record old { seat = mid.seat }) mid (map note_of added))
    (replied : HasReplied mid new Reply.Stopped) where
  abbrev start : Context
  start = record old { seat = mid.seat }

  abbrev passed_context : Context
  passed_context =
      record old { seat = mid.seat; notes = mid.notes; replies = new.replies; begun = length mid.notes.items }

  passed_is : new ≡ passed_context
  passed_is =
      replied.rest
      ∙ ap (λ (x : Context). record x { replies = new.replies; begun = length mid.notes.items }) noted.rest

  -- it is answered so behind what it noted
  pub passed : Recounts old.counts old.counts (map entry_of added) → AreSampled old.sampler added old.sampler
      → Spends (view_of old.seat) (view_of mid.seat) (left_for old.composes command) (notes_alone 0)
      → IsSome (read_all (not_carried_out (lane_of old.seat) command) (log_at new_lane (map entry_of added)))
      → PassesOver pool old new command (Went Ready)
  passed recounts sampled spent reads =
      let long : length mid.notes.items ≡ length (notes_of start) =
      length_is pool empty_hand empty_hand old start mid d refl added 0 adv noted in
      let more = lengthened pool empty_hand empty_hand old start mid d refl added 0 adv noted in
      subst (λ (x : Context). PassesOver pool old x command (Went Ready)) (sym passed_is)
      (record {
        added = added;
        grew =
            grew pool empty_hand empty_hand old start mid d refl added 0 adv noted passed_context refl recounts refl
            sampled (omega (arith, long))
            (subst (λ n. n ≤ vec_capacity new.replies) (ap (λ (x : Context). vec_capacity x.replies) noted.rest)
            replied.room) 1 (rebound_same 1 old.names old.names refl)
            (let a = ap (λ (xs : List Answered). length xs) replied.replies in
            let b = ap (λ (x : Context). length x.replies.items) noted.rest in
            let c = length-append mid.replies.items (record
            { reply = Reply.Stopped; notes = length mid.notes.items - mid.begun } ∷ []) in
            omega (arith, a, b, c));
        names = refl;
        asked = refl;
        spends = spends_at old passed_context (left_for old.composes command) (notes_alone 0) spent (omega arith);
        comes = record {
          notes = length mid.notes.items - old.begun;
          replies =
              replied.replies ∙ ap (λ (x : Context). x.replies.items ++ record
              { reply = Reply.Stopped; notes = length mid.notes.items - x.begun } ∷ []) noted.rest;
          counted = (let c = d.begun in omega (arith, long, more, c));
          begun = long;
          reads = reads;
        };
      })

-- a command that posts nothing notes nothing
reads_nothing : (lane : ℕ) (command : Command) → ((name to : ℕ) → command ≡ Command.Send name to → ⊥)
    → IsSome (read_all (not_carried_out lane command) (log_at new_lane []))
reads_nothing lane (Command.Send name to) other = absurd (other name to refl)
reads_nothing lane _ other = refl

pub passed_silently : (pool : SharedPool) (command : Command) (old new : Context) → IsContext pool empty_hand old
    → ((name to : ℕ) → command ≡ Command.Send name to → ⊥) → HasReplied old new Reply.Stopped
    → PassesOver pool old new command (Went Ready)
passed_silently pool command old new d other replied =
    let v = view_of old.seat in let grows : Grows v v [] 0 = grows_same v d.seat.alone in
    passed pool command old old new d []
    (record { same = (refl, refl); seat = d.seat; grows = grows; held = d.held })
    (record { log = sym (append-nil old.notes.items); room = omega arith; rest = refl }) replied
    (none_recounted old.counts) refl
    (spends v v [] 0 grows (left_for old.composes command) (notes_alone 0) (omega arith) (omega arith) (omega arith)
    (λ to. omega arith))
    (reads_nothing (lane_of old.seat) command other)

-- a send posts the empty parcel
module _ (pool : SharedPool) (name receiver : ℕ) (old mid : Context) (d : IsContext pool empty_hand old) where
  pub passed_post : (new : Context) → HasPosted pool old mid receiver no_parcel → HasReplied mid new Reply.Stopped
      → PassesOver pool old new (Command.Send name receiver) (Went Ready)
  passed_post new did replied =
      let e = posted_entry pool receiver old mid d no_parcel did in
      let adv = post_advances pool receiver old mid d no_parcel did in
      let mail = Mail (lane_of old.seat) receiver in
      passed pool (Command.Send name receiver) old mid new d (e ∷ []) adv did.noted replied
      (still old.counts (entry_of e) (record {
        gains = λ root. refl;
        loses = λ root. refl;
        needs = λ root. refl;
        ends = λ root. refl;
      }) (λ root uses. absurd (cc uses)))
      (tt, refl)
      (spends (view_of old.seat) (view_of mid.seat) (e ∷ []) 0 adv.grows (left_for old.composes
      (Command.Send name receiver))
      (notes_alone 0) (omega arith) (let t = sum_by-cons takes e [] in omega (arith, t)) (omega arith)
      (λ to.
      (let a : sent_on (lane_in (view_of old.seat)) to (e ∷ []) ≤ (left_for old.composes
      (Command.Send name receiver)).sends to =
      one_post (lane_of old.seat == lane_in (view_of old.seat)) (receiver == to) in omega (arith, a))))
      (subst (λ (o : Option (Unit {0} × Log)). IsSome
      (option_and_then (λ (got : Unit {0} × Log). (at_end >> give got.0) got.1) o))
      (sym (note_on (entry_of e) mail (says.post no_parcel) did.number (Did.Post no_parcel) refl tt refl
      (log_at new_lane []))) refl)
