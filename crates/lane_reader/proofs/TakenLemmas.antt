-- What a command takes of a log are its notes, and no others are.
use Rattle.std.proofs.Common.{◌≡◌, ℕ, ◌≤◌, List, ◌++◌, length, take, drop, Bool, true, false, refl, sym, ap, arith, subst, ◌∙◌, length-append, length-drop, take_at, take-append-drop}
use Rattle.std.specs.Prelude.{if◌then◌else◌, min, Option, Some, None, option_and_then}
use Rattle.pool_law.specs.declared.command.Command.{Command}
use Rattle.pool_law.specs.declared.run.Shape.{Shape}
use Rattle.pool_law.specs.declared.run.Reply.{Reply}
use Rattle.pool_law.specs.Names.{Names}
use Rattle.pool_law.specs.Readers.{ToldNotes, Log, ◌>>◌, at_end, give}
use Rattle.pool_law.specs.LaneLaw.{lane_step}
use Rattle.pool_law.specs.LaneStates.{LaneState, log_at, state_at}
use Rattle.pool_law.specs.Lanes.{Answer, turn}
use Rattle.lane_reader.specs.declared.bound.Change.{Change}
use Rattle.lane_reader.specs.declared.log.At.{At}
use Rattle.lane_reader.specs.Reading.{entries}
use Rattle.lane_reader.specs.Replying.{same_reply, where_said, changes}
use Rattle.lane_reader.specs.Standing.{changed}
use Rattle.lane_reader.proofs.GoesOn.{Taken}
use Rattle.lane_reader.proofs.ReadingLemmas.{drop-min, length-entries, take-min}
use Rattle.lane_reader.proofs.ReplyLemmas.{same_reply-is, same_reply-self}
use Rattle.lane_reader.proofs.TurnGoesOn.{Takes, step-goes, turn-goes}

-- ---- Where this is answered.

-- what was read answers this, with these names
pub record HasSaid (reply : Reply) (o : Option (Answer × Log)) (names : Names) (end : Log) : Type 0 where
  pub a : Answer
  pub read : o ≡ Some (a, end)
  pub replied : a.reply ≡ reply
  pub named : a.names ≡ names

pub said-this : (reply : Reply) (o : Option (Answer × Log)) (names : Names) (end : Log)
    → where_said reply o ≡ Some (names, end) → HasSaid reply o names end
said-this reply None names end e =
    absurd (let no : ◌≡◌ {A = Option (Names × Log)} None (Some (names, end)) = e in cc)
said-this reply (Some p) names end e = go (same_reply p.0.reply reply) refl e
  where
    go : (b : Bool) → same_reply p.0.reply reply ≡ b
        → ◌≡◌ {A = Option (Names × Log)} (if b then Some (p.0.names, p.1) else None) (Some (names, end))
        → HasSaid reply (Some p) names end
    go true same is =
        let both : ◌≡◌ {A = Names × Log} (p.0.names, p.1) (names, end) = cc is in
        let last : p.1 ≡ end = ap (λ (q : Names × Log). q.1) both in
        record {
          a = p.0;
          read = λ i. Some (p.0, last i);
          replied = same_reply-is p.0.reply reply same;
          named = ap (λ (q : Names × Log). q.0) both;
        }
    go false other is =
        absurd (let no : ◌≡◌ {A = Option (Names × Log)} None (Some (names, end)) = is in cc)

-- where nothing answers this, nothing that was read does
pub said-other : (reply : Reply) (o : Option (Answer × Log)) (a : Answer) (end : Log) → where_said reply o ≡ None
    → o ≡ Some (a, end) → a.reply ≡ reply → ⊥
said-other reply o a end none is same =
    let yes : same_reply a.reply reply ≡ true =
    ap (λ (r : Reply). same_reply r reply) same ∙ same_reply-self reply in
    let found : where_said reply o ≡ (if same_reply a.reply reply then Some (a.names, end) else None) =
    ap (λ (q : Option (Answer × Log)). where_said reply q) is in
    let some : ◌≡◌ {A = Option (Names × Log)}
    (if same_reply a.reply reply then Some (a.names, end) else None) (Some (a.names, end)) =
    ap (λ (b : Bool). if b then Some (a.names, end) else None) yes in
    absurd (let no : ◌≡◌ {A = Option (Names × Log)} None (Some (a.names, end)) = sym none ∙ found ∙ some in cc)

-- ---- What is taken.

-- what was taken is so many of the first entries
pub taken-is : {X : Type 0} (es taken rest : List X) (k : ℕ) → es ≡ taken ++ rest → rest ≡ drop k es → k ≤ length es
    → take k es ≡ taken
taken-is es taken rest k whole left fits =
    let long : length taken ≡ k =
    omega (arith, fits, ap length whole, length-append taken rest, ap length left, length-drop k es) in
    ap (take k) whole ∙ take_at taken rest k long

-- what is answered, and the state behind it
abbrev said : Answer × Log → Option (Reply × LaneState)
said got = Some (got.0.reply, state_at got.0.names got.1)

-- the lane behind these notes of a command
abbrev pub taken_state : LaneState → Change → At → ToldNotes → LaneState
taken_state s change at es =
    record { names = changed change s.names; seen = s.seen ++ es; asked = at.asked }

module _ (period : ℕ) (shape : Shape) (lane : ℕ) (s : LaneState) (c : Command) where
  -- what a command reads of a log is its step where it is all that is left
  alone-step : (a : Answer) (end : Log) (es : ToldNotes)
      (got : Taken (turn period shape lane s c) (log_at s es) a end)
      → lane_step period shape lane s c got.taken ≡ Some (a.reply, state_at a.names end)
  alone-step a end es got =
      ap (λ (o : Option (Answer × Log)).
      option_and_then said (option_and_then (λ g. (at_end >> give g.0) g.1) o)) got.alone

  -- where a command does not have this reply, no first entries are its notes with this reply
  pub untaken : (reply : Reply) (es : ToldNotes) → where_said reply (turn period shape lane s c (log_at s es)) ≡ None
      → (count : ℕ) (next : LaneState)
      → lane_step period shape lane s c (take count es) ≡ Some (reply, next) → ⊥
  untaken reply es none count next step =
      let front : Takes period shape lane s c (take count es ++ drop count es) (drop count es) reply next =
      step-goes period shape lane s c (take count es) (drop count es) reply next step in
      let all : Takes period shape lane s c es (drop count es) reply next =
      subst (λ (xs : ToldNotes). Takes period shape lane s c xs (drop count es) reply next)
      (take-append-drop count es) front in
      said-other reply (turn period shape lane s c (log_at s es)) all.a all.end none all.read all.replied

  module _ (reply : Reply) (log : Rattle.lane_reader.specs.declared.log.Log.Log) (change : Change) (at : At)
      (count : ℕ) (is : count ≡ min at.place (length log.notes.now))
      (found : where_said reply (turn period shape lane s c (log_at s (entries log)))
      ≡ changes s log (Some (change, at))) where
    least : count ≡ min (length (entries log)) at.place
    least = omega (arith, is, length-entries log.notes.now log.told.now)

    -- where a command has this reply, so many of the first entries are its notes
    pub taken-step :
        lane_step period shape lane s c (take count (entries log))
        ≡ Some (reply, taken_state s change at (take count (entries log)))
    taken-step =
        let es = entries log in
        let end : Log = record {
          seen = s.seen ++ take at.place es;
          asked = at.asked;
          left = drop at.place es;
        } in
        let got : HasSaid reply (turn period shape lane s c (log_at s es)) (changed change s.names) end =
        said-this reply (turn period shape lane s c (log_at s es)) (changed change s.names) end found in
        let back : Taken (turn period shape lane s c) (log_at s es) got.a end =
        (turn-goes period shape lane s c).1 (log_at s es) got.a end got.read in
        let same : take count es ≡ back.taken =
        taken-is es back.taken (drop at.place es) count back.whole (sym (drop-min es at.place count least))
        (omega (arith, least)) in
        let long : take at.place es ≡ take count es = sym (take-min es at.place count least) in
        let state : state_at got.a.names end ≡ taken_state s change at (take count es) =
        λ i. record { names = got.named i; seen = s.seen ++ long i; asked = at.asked } in
        ap (λ (xs : ToldNotes). lane_step period shape lane s c xs) same
        ∙ alone-step got.a end es back
        ∙ (λ i. Some (got.replied i, state i))
