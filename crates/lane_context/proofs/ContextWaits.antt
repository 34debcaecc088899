-- A command that waits: nothing is new at its context.
use Rattle.std.proofs.Common.{◌≡◌, ℕ, ◌<◌, List, [], false, length, refl, sym, ap, ◌∙◌, subst, arith, append-nil}
use Rattle.std.specs.Prelude.{vec_capacity}
use Rattle.pool_law.specs.declared.command.Command.{Command}
use Rattle.pool_law.specs.declared.note.Held.{Held}
use Rattle.pool_law.specs.declared.note.Object.{Object}
use Rattle.pool_law.specs.LaneLaw.{sweep_period}
use Rattle.pool_law.specs.LaneStates.{LaneState}
use Rattle.pool_law.specs.Lanes.{answer_of, turn}
use Rattle.shared_pool.specs.SeatLanes.{lane_of}
use Rattle.shared_pool.specs.SeatViews.{view_of, SameSeat}
use Rattle.shared_pool.specs.declared.pool.SharedPool.{SharedPool}
use Rattle.shared_pool.specs.MailAnswers.{IsDrained}
use Rattle.shared_pool.specs.Seats.{IsPoolSeat, FoundBusy}
use Rattle.lane_stages.specs.declared.counts.Counted.{Counted}
use Rattle.lane_context.specs.declared.context.Context.{Context}
use Rattle.lane_context.specs.declared.context.Stage.TheVariants.{Ready}
use Rattle.lane_context.specs.declared.context.Turn.TheVariants.{Pending, Waiting}
use Rattle.lane_stages.specs.Budgets.{Left, Spends}
use Rattle.seat_work.specs.Hands.{empty_hand}
use Rattle.lane_stages.specs.NextNotes.{BeginsAt}
use Rattle.lane_context.specs.Readings.{swept}
use Rattle.lane_context.specs.Contexts.{IsContext, left_for, left_now, ContextGrew, Waits, SpendsAt, ReceivesFrom, HasTurned}
use Rattle.lane_context.specs.ContextSteps.{HasNoted}
use Rattle.lane_stages.proofs.NextNotes.{begins_there, then_begins}
use Rattle.lane_context.proofs.Ways.{swept_way, HasWay, then_way, way_read}
use Rattle.lane_stages.proofs.Grown.{spends}
use Rattle.lane_stages.proofs.EntryCounts.{Recounts, none_recounted}
use Rattle.lane_context.proofs.NameLaws.{rebound_same}
use Rattle.lane_context.proofs.ContextLaws.{Advances, advances_none, spends_at}
use Rattle.lane_context.proofs.ContextGrown.{grew, lengthened}

module _ (pool : SharedPool) (old start : Context) (d : IsContext pool empty_hand old)
    (start_is : start ≡ record old { seat = start.seat }) (adv : Advances pool old.seat start.seat empty_hand [] 0)
  where
    unspent : (left : Left) → Spends (view_of old.seat) (view_of start.seat) left left
    unspent left =
        spends (view_of old.seat) (view_of start.seat) [] 0 adv.grows left left (omega arith) (omega arith)
        (omega arith)
        (λ to. omega arith)

    same_start : start ≡ record old
        { seat = start.seat; counts = start.counts; sampler = start.sampler; asked = start.asked }
    same_start =
        start_is ∙ (λ i. record old {
          seat = start.seat;
          counts = sym (ap (λ (x : Context). x.counts) start_is) i;
          sampler =
              sym (ap (λ (x : Context). x.sampler) start_is) i;
          asked = sym (ap (λ (x : Context). x.asked) start_is) i;
        })

    same_asked : start.asked ≡ old.asked
    same_asked = ap (λ (x : Context). x.asked) start_is

    still_noted : HasNoted start start []
    still_noted = record { log = sym (append-nil start.notes.items); room = omega arith; rest = refl }

    unmoved : ContextGrew pool empty_hand old start []
    unmoved =
        grew pool empty_hand empty_hand old start start d same_start [] 0 adv still_noted start
        (start_is ∙ (λ i. record old {
          seat = start.seat;
          names = sym (ap (λ (x : Context). x.names) start_is) i;
          counts = sym (ap (λ (x : Context). x.counts) start_is) i;
          sampler = sym (ap (λ (x : Context). x.sampler) start_is) i;
          notes = sym (ap (λ (x : Context). x.notes) start_is) i;
          replies = sym (ap (λ (x : Context). x.replies) start_is) i;
          begun = sym (ap (λ (x : Context). x.begun) start_is) i;
          asked = sym same_asked i;
        }))
        (subst (λ (cs : List Counted). Recounts old.counts cs []) (sym (ap (λ (x : Context). x.counts) start_is))
        (none_recounted old.counts))
        (ap (λ (x : Context). length x.counts) start_is)
        (sym (ap (λ (x : Context). x.sampler) start_is))
        (let a = d.begun in let b = ap (λ (x : Context). x.begun) start_is in let c =
        lengthened pool empty_hand empty_hand old start start d same_start [] 0 adv still_noted in
        omega (arith, a, b, c))
        (let a = ap (λ (x : Context). vec_capacity x.replies) start_is in omega (arith, a)) 0
        (rebound_same 0 old.names start.names (ap (λ (x : Context). x.names) start_is))
        (let a = ap (λ (x : Context). length x.replies.items) start_is in omega (arith, a))

    still_waits : Waits old start []
    still_waits = record {
      none = refl;
      replies = ap (λ (x : Context). x.replies.items) start_is;
      names = ap (λ (x : Context). x.names) start_is;
      begun = ap (λ (x : Context). x.begun) start_is;
      asked = same_asked;
    }

    still_spent : (command : Command) → SpendsAt old start (left_now old.composes command Ready (view_of old.seat))
        (left_now old.composes command Ready (view_of start.seat))
    still_spent command =
        spends_at old start (left_for old.composes command) (left_for old.composes command) (unspent
        (left_for old.composes command))
        (let a = same_asked in omega (arith, a))

    pub pending : old.asked < sweep_period → (held : Held) → FoundBusy pool held.object false old.seat start.seat held
        → (s : LaneState) (command : Command)
        → BeginsAt held.object (answer_of old.shape (lane_of old.seat) s command)
        → HasWay (answer_of old.shape (lane_of old.seat) s command)
        → HasTurned pool old start s command Ready (Pending held Ready)
    pending low held found s command begins way = record {
      added = [];
      grew = unmoved;
      fits = (let a = same_asked in omega (arith, a, low));
      name = tt;
      spends = still_spent command;
      comes = (
        refl,
        still_waits,
        way_read (turn sweep_period old.shape (lane_of old.seat) s command)
            (then_way (answer_of old.shape (lane_of old.seat) s command) (swept (lane_of old.seat)) way
            (swept_way (lane_of old.seat))),
      );
      waits = tt;
      held = (
        found,
        then_begins held.object (answer_of old.shape (lane_of old.seat) s command) (swept (lane_of old.seat)) begins,
      );
    }

    pub waiting : old.asked < sweep_period → (sender : ℕ) (s : LaneState) (command : Command)
        → ReceivesFrom command sender → IsDrained sender old.seat
        → HasTurned pool old start s command Ready (Waiting sender)
    waiting low sender s command receives drained = record {
      added = [];
      grew = unmoved;
      fits = (let a = same_asked in omega (arith, a, low));
      name = tt;
      spends = still_spent command;
      comes = (refl, still_waits);
      waits = (receives, drained);
      held = tt;
    }

-- a command that found another seat there waits
pub waits_turn : (pool : SharedPool) (old start : Context) → old.asked < sweep_period → IsContext pool empty_hand old
    → start ≡ record old { seat = start.seat } → SameSeat old.seat start.seat → IsPoolSeat pool start.seat
    → (object : Object) (held : Held) → FoundBusy pool object false old.seat start.seat held →
    (s : LaneState) (command : Command) → BeginsAt object (answer_of old.shape (lane_of old.seat) s command)
    → HasWay (answer_of old.shape (lane_of old.seat) s command)
    → HasTurned pool old start s command Ready (Pending held Ready)
waits_turn pool old start low d start_is same seat object held found s command begins way =
    pending pool old start d start_is
    (advances_none pool old.seat start.seat empty_hand d.seat d.held same seat found.marked) low held
    (subst (λ (o : Object). FoundBusy pool o false old.seat start.seat held) (sym found.object) found) s command
    (begins_there object held (answer_of old.shape (lane_of old.seat) s command) found.object begins) way
