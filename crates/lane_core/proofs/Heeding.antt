-- A lane heeds its gate at every turn.
use Rattle.std.proofs.Common.{◌≡◌, ℕ, ◌+◌, ◌<◌, ◌≤◌, List, [], ◌∷◌, ◌++◌, Bool, true, false, length, refl, sym, ap, ◌∙◌, subst, arith, length-append, leb, le-leb}
use Rattle.std.specs.Prelude.{◌&&◌, max, nat_le}
use Rattle.std.proofs.lemmas.Bool.{leb-true, leb-false}
use Rattle.std.proofs.lemmas.List.{map-append, length-map}
use Rattle.pool_law.specs.declared.command.Command.{Command}
use Rattle.pool_law.specs.declared.run.Answered.{Answered}
use Rattle.pool_law.specs.declared.run.Reply.{Reply}
use Rattle.pool_law.specs.LaneLaw.{before_stop, replies_in}
use Rattle.pool_law.specs.LaneStates.{LaneState}
use Rattle.shared_pool.specs.declared.pool.SharedPool.{SharedPool}
use Rattle.shared_pool.specs.SeatLanes.{lane_of}
use Rattle.lane_context.specs.declared.context.Context.{Context}
use Rattle.lane_context.specs.declared.context.Stage.{Stage}
use Rattle.lane_context.specs.declared.context.Stage.TheVariants.{Ready}
use Rattle.lane_context.specs.declared.context.Turn.{Turn}
use Rattle.lane_context.specs.declared.context.Turn.TheVariants.{Went, Pending, Waiting}
use Rattle.lane_core.specs.declared.lane.Lane.{Lane}
use Rattle.lane_context.specs.Contexts.{next_of, HasTurned, PassesOver, reads_from}
use Rattle.lane_core.specs.Lanes.{Heeds}
use Rattle.lane_core.proofs.LaneGrown.{lane_at}
use Rattle.lane_core.proofs.LaneLogs.{unstopped_more}
use Rattle.lane_context.proofs.StageCases.{by_kind, waits_on, went_on}
use Rattle.lane_core.proofs.StageKinds.{passes_none}
use Rattle.lane_core.proofs.StoppedLogs.{stop_more}

-- both tests hold, or one doesn't
both_hold : (a b : Bool) → true ≡ (a && b) → b ≡ true
both_hold true b is = sym is
both_hold false b is = absurd (cc is)

first_holds : (a b : Bool) → a ≡ true → false ≡ (a && b) → b ≡ false
first_holds true b holds is = sym is
first_holds false b holds is = absurd (cc holds)

module _ (stops : ℕ → Bool) (l : Lane) (h : Heeds stops l) where
  abbrev rs : List Answered
  rs = l.context.replies.items

  -- no reply is new
  pub heeds_still : (d : Context) (stage : Stage) → d.replies.items ≡ l.context.replies.items
      → Heeds stops (lane_at l d stage l.asked)
  heeds_still d stage same = record {
    passed =
        subst (λ (xs : List Answered). (line : ℕ) → line < before_stop (replies_in xs) → stops line ≡ false) (sym same)
        h.passed;
    stopped =
        subst (λ (xs : List Answered). l.stopped ≡ true → stops (before_stop (replies_in xs)) ≡ true) (sym same)
        h.stopped;
    cause =
        subst (λ (xs : List Answered). before_stop (replies_in xs) < length xs
        → stops (before_stop (replies_in xs)) ≡ true) (sym same) h.cause;
    asked = h.asked;
  }

  -- the next command is passed over
  pub heeds_stop : l.stopped ≡ true → (d : Context) (stage : Stage) (notes : ℕ) →
      d.replies.items ≡ l.context.replies.items ++ record { reply = Reply.Stopped; notes = notes } ∷ []
      → Heeds stops (lane_at l d stage l.asked)
  heeds_stop over d stage notes more =
      let same : before_stop (replies_in d.replies.items) ≡ before_stop (replies_in rs) =
      ap (λ (xs : List Answered). before_stop (replies_in xs)) more
      ∙ ap (λ (xs : List Reply). before_stop xs)
      (map-append (λ (x : Answered). x.reply) rs (record { reply = Reply.Stopped; notes = notes } ∷ []))
      ∙ stop_more (replies_in rs) in
      record {
        passed = subst (λ (n : ℕ). (line : ℕ) → line < n → stops line ≡ false) (sym same) h.passed;
        stopped = subst (λ (n : ℕ). l.stopped ≡ true → stops n ≡ true) (sym same) h.stopped;
        cause = λ lt. subst (λ (n : ℕ). stops n ≡ true) (sym same) (h.stopped over);
        asked = h.asked;
      }

  module _ (going : l.stopped ≡ false) (unstopped : before_stop (replies_in rs) ≡ length rs) where
    -- the gate was asked for the next command
    pub heeds_asked : (n : ℕ) (stopped : Bool) → n ≡ max l.asked (length rs + 1)
        → stopped ≡ (nat_le l.asked (length rs) && stops (length rs))
        → Heeds stops (record l { asked = n; stopped = stopped })
    heeds_asked n stopped asked is = record {
      passed = h.passed;
      stopped =
          λ stop. ap stops unstopped
          ∙ both_hold (nat_le l.asked (length rs)) (stops (length rs)) (sym stop ∙ is);
      cause = h.cause;
      asked = λ go line lt. at go line lt (leb l.asked line) refl;
    }
      where
        at_next : stopped ≡ false → (line : ℕ) → line < n → l.asked ≤ line → (b : Bool) → leb (length rs) line ≡ b
            → stops line ≡ false
        at_next go line lt le false test =
            let a = leb-false (length rs) line test in h.passed line (omega (arith, a, unstopped))
        at_next go line lt le true test =
            let a = leb-true (length rs) line test in let same : line ≡ length rs = omega (arith, a, lt, le, asked) in
            ap stops same
            ∙ first_holds (nat_le l.asked (length rs)) (stops (length rs))
            (le-leb l.asked (length rs) (omega (arith, le, same)))
            (sym go ∙ is)

        at : stopped ≡ false → (line : ℕ) → line < n → (b : Bool) → leb l.asked line ≡ b → stops line ≡ false
        at go line lt false test = h.asked going line (leb-false l.asked line test)
        at go line lt true test = at_next go line lt (leb-true l.asked line test) (leb (length rs) line) refl

    -- it was carried out
    pub heeds_answer : length rs < l.asked → (d : Context) (stage : Stage) (a : Answered) →
        d.replies.items ≡ l.context.replies.items ++ a ∷ [] → before_stop (a.reply ∷ []) ≡ 1
        → Heeds stops (lane_at l d stage l.asked)
    heeds_answer line_asked d stage a more is = record {
      passed = λ line lt. h.asked going line (let e = long in omega (arith, e, lt, line_asked));
      stopped = λ stop. absurd (cc (going, stop));
      cause = λ lt. absurd (let e = ap (λ (xs : List Answered). length xs) more in
          let f = length-append rs (a ∷ []) in omega (arith, long, e, f, lt));
      asked = h.asked;
    }
      where
        long : before_stop (replies_in d.replies.items) ≡ length rs + 1
        long =
            ap (λ (xs : List Answered). before_stop (replies_in xs)) more
            ∙ ap (λ (xs : List Reply). before_stop xs) (map-append (λ (x : Answered). x.reply) rs (a ∷ []))
            ∙ unstopped_more (replies_in rs) a.reply (unstopped ∙ sym (length-map rs (λ (x : Answered). x.reply))) is
            ∙ (let e = length-append (replies_in rs) (a.reply ∷ []) in
            let f = length-map rs (λ (x : Answered). x.reply) in omega (arith, e, f))

    -- a turn of a running lane's command
    pub turned_heeds : length rs < l.asked → (pool : SharedPool) (d : Context) (s : LaneState) (command : Command)
        (stage : Stage) (turn : Turn) → HasTurned pool l.context d s command stage turn
        → Heeds stops (lane_at l d (next_of stage turn) l.asked)
    turned_heeds line pool d s command stage (Went next) =
        by_kind (λ x. HasTurned pool l.context d s command stage (Went x) → Heeds stops (lane_at l d x l.asked))
        (λ t. heeds_answer line d Ready t.comes.answered t.comes.replies t.comes.unstopped) (λ x t. absurd t.comes)
        (λ x u t.
        let on = went_on (λ (state : LaneState). reads_from l.context.shape (lane_of l.context.seat) state command) s
        l.context d
        t.added stage x u t.comes in
        heeds_still d x on.replies) next
    turned_heeds line pool d s command stage (Pending held next) =
        by_kind (λ x. HasTurned pool l.context d s command stage (Pending held x) → Heeds stops (lane_at l d x l.asked))
        (λ t. heeds_still d Ready t.comes.1.replies) (λ x t. absurd t.comes)
        (λ x u t.
        let on = waits_on (λ (state : LaneState). reads_from l.context.shape (lane_of l.context.seat) state command) s
        l.context
        d
        t.added stage held x u t.comes in
        heeds_still d x on.1.replies) next
    turned_heeds line pool d s command stage (Waiting sender) = λ t. heeds_still d stage t.comes.1.replies

  -- a turn that passes a command over
  pub passed_heeds : l.stopped ≡ true → (pool : SharedPool) (d : Context) (command : Command) (turn : Turn)
      → PassesOver pool l.context d command turn → Heeds stops (lane_at l d (next_of Ready turn) l.asked)
  passed_heeds over pool d command (Went next) =
      by_kind (λ x. PassesOver pool l.context d command (Went x) → Heeds stops (lane_at l d x l.asked))
      (λ t. heeds_stop over d Ready t.comes.notes t.comes.replies) (λ x t. absurd t.comes)
      (λ x u t. absurd (passes_none l.context d t.added command x u t.comes)) next
  passed_heeds over pool d command (Pending held next) = λ t. absurd t.comes
  passed_heeds over pool d command (Waiting sender) = λ t. absurd t.comes

-- a new lane was asked for nothing
pub heeds_first : (stops : ℕ → Bool) (l : Lane) → l.context.replies.items ≡ [] → l.stopped ≡ false → l.asked ≡ 0
    → Heeds stops l
heeds_first stops l none going fresh =
    let zero : before_stop (replies_in l.context.replies.items) ≡ 0 =
    ap (λ (xs : List Answered). before_stop (replies_in xs)) none in
    record {
      passed = λ line lt. absurd (omega (arith, zero, lt));
      stopped = λ stop. absurd (cc (going, stop));
      cause = λ lt. absurd (let a = ap (λ (xs : List Answered). length xs) none in omega (arith, zero, a, lt));
      asked = λ go line lt. absurd (omega (arith, fresh, lt));
    }
