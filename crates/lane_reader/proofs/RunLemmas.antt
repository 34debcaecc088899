-- The commands of a lane, one after another.
use Rattle.std.proofs.Common.{◌≡◌, ℕ, zero, suc, ◌+◌, ◌<◌, ◌≤◌, List, [], ◌∷◌, ◌++◌, length, take, drop, get_or, Bool, true, false, refl, sym, ap, arith, ◌∙◌, drop-cons}
use Rattle.std.specs.Prelude.{◌↔◌, nat_le, Option, Some, None, option_and_then, is_some, IsTrue}
use Rattle.std.specs.List.{All}
use Rattle.std.proofs.lemmas.Bool.{leb-true}
use Rattle.std.proofs.lemmas.List.{drop_all}
use Rattle.std.proofs.lemmas.List.Elements.{All-from_get_or}
use Rattle.pool_law.specs.declared.command.Command.{Command}
use Rattle.pool_law.specs.declared.run.Shape.{Shape}
use Rattle.pool_law.specs.declared.run.Reply.{Reply}
use Rattle.pool_law.specs.declared.run.Answered.{Answered}
use Rattle.pool_law.specs.Readers.{ToldNotes, Log, read_all}
use Rattle.pool_law.specs.LaneStates.{LaneState, new_lane, log_at}
use Rattle.pool_law.specs.Lanes.{not_carried_out}
use Rattle.pool_law.specs.LaneLaw.{sweep_period, lane_step, lane_run, stopped_run, before_stop, pieces, note_counts, replies_in}
use Rattle.pool_law.specs.Legal.{fits_after, all_fit}
use Rattle.pool_law.proofs.SameLemmas.{and-first, and-second}
use Rattle.lane_reader.specs.Candidates.{HasFewNames}
use Rattle.lane_reader.specs.Replying.{same_reply}
use Rattle.lane_reader.specs.Running.{Runs, Stops}
use Rattle.lane_reader.proofs.ReplyLemmas.{same_reply-is}

-- ---- How many names a command has.

few-of : (shape : Shape) (earlier : List Command) (c : Command) → fits_after shape earlier c ≡ true → HasFewNames c
few-of shape earlier (Command.Compose fresh names) fits =
    leb-true (length names) 24 (and-second (nat_le 1 (length names)) (nat_le (length names) 24) fits)
few-of shape earlier _ fits = tt

few-at : (shape : Shape) (earlier cs : List Command) (i : ℕ) (d : Command) → all_fit shape earlier cs ≡ true →
    i < length cs →
    HasFewNames (get_or cs i d)
few-at shape earlier [] i d fit there = absurd (omega (arith, there))
few-at shape earlier (c ∷ cs) zero d fit there =
    few-of shape earlier c (and-first (fits_after shape earlier c) (all_fit shape (earlier ++ c ∷ []) cs) fit)
few-at shape earlier (c ∷ cs) (suc i) d fit there =
    few-at shape (earlier ++ c ∷ []) cs i d
    (and-second (fits_after shape earlier c) (all_fit shape (earlier ++ c ∷ []) cs) fit) (omega (arith, there))

pub few-names : (shape : Shape) (cs : List Command) → IsTrue (all_fit shape [] cs) → All HasFewNames cs
few-names shape cs fit =
    All-from_get_or HasFewNames cs (Command.Forget 0) (λ i there. few-at shape [] cs i (Command.Forget 0) fit there)

-- ---- One command more that was answered.

abbrev longer : Reply → Option (List Reply × LaneState) → Option (List Reply × LaneState)
longer first o = option_and_then (λ q. Some (first ∷ q.0, q.1)) o

longer-is : (reply first : Reply) (o : Option (List Reply × LaneState)) (replies : List Reply) (last : LaneState) →
    longer first o ≡ Some (reply ∷ replies, last) → (first ≡ reply) × (o ≡ Some (replies, last))
longer-is reply first None replies last e = absurd (cc e)
longer-is reply first (Some q) replies last e =
    let both : ◌≡◌ {A = List Reply × LaneState} (first ∷ q.0, q.1) (reply ∷ replies, last) = cc e in
    let all : first ∷ q.0 ≡ reply ∷ replies = ap (λ (p : List Reply × LaneState). p.0) both in
    let end : q.1 ≡ last = ap (λ (p : List Reply × LaneState). p.1) both in
    let one : first ≡ reply = cc all in
    let rest : q.0 ≡ replies = cc all in
    (one, λ i. Some (rest i, end i))

module _ (shape : Shape) (lane : ℕ) (s : LaneState) (c : Command) (cs : List Command) (r : Answered)
    (rs : List Answered) (es : ToldNotes) where
  abbrev step : Option (Reply × LaneState)
  step = lane_step sweep_period shape lane s c (take r.notes es)

  abbrev groups : List ToldNotes
  groups = pieces (note_counts rs) (drop r.notes es)

  abbrev then : Option (Reply × LaneState) → Option (List Reply × LaneState)
  then o = option_and_then (λ p. longer p.0 (lane_run sweep_period shape lane p.1 cs groups)) o

  -- they have run on where the next command has
  pub run-goes : (next last : LaneState) → step ≡ Some (r.reply, next) →
      Runs shape lane s (c ∷ cs) (r ∷ rs) es last ↔ Runs shape lane next cs rs (drop r.notes es) last
  run-goes next last is =
      let goes : then step ≡ then (Some (r.reply, next)) = ap (λ (o : Option (Reply × LaneState)). then o) is in (
        λ all.
            (longer-is r.reply r.reply (lane_run sweep_period shape lane next cs groups) (replies_in rs) last
            (sym goes ∙ all)).1,
        λ rest. goes ∙ ap (λ (o : Option (List Reply × LaneState)). longer r.reply o) rest,
      )

  -- the next command is one of them
  pub run-first : (last : LaneState) → Runs shape lane s (c ∷ cs) (r ∷ rs) es last →
      (next : LaneState) × (step ≡ Some (r.reply, next))
  run-first last all = go step refl all
    where
      go : (o : Option (Reply × LaneState)) → step ≡ o → then o ≡ Some (r.reply ∷ replies_in rs, last) →
          (next : LaneState) × (step ≡ Some (r.reply, next))
      go None is e = absurd (cc e)
      go (Some p) is e =
          let same : p.0 ≡ r.reply =
          (longer-is r.reply p.0 (lane_run sweep_period shape lane p.1 cs groups) (replies_in rs) last e).0 in
          (p.1, is ∙ (λ i. Some (same i, p.1)))

-- ---- One command more behind a stop.

abbrev stopped_longer : Option (List Reply) → Option (List Reply)
stopped_longer o = option_and_then (λ q. Some (Reply.Stopped ∷ q)) o

stopped-is : (reply : Reply) (o : Option (List Reply)) (replies : List Reply) →
    stopped_longer o ≡ Some (reply ∷ replies) → (Reply.Stopped ≡ reply) × (o ≡ Some replies)
stopped-is reply None replies e = absurd (cc e)
stopped-is reply (Some q) replies e =
    let one : Reply.Stopped ≡ reply = cc e in
    let rest : q ≡ replies = cc e in
    (one, λ i. Some (rest i))

module _ (lane : ℕ) (c : Command) (cs : List Command) (r : Answered) (rs : List Answered) (es : ToldNotes) where
  abbrev noted : Option (Unit {0} × Log)
  noted = read_all (not_carried_out lane c) (log_at new_lane (take r.notes es))

  abbrev stopped : Option (List Reply)
  stopped = stopped_run lane cs (pieces (note_counts rs) (drop r.notes es))

  abbrev after : Option (Unit {0} × Log) → Option (List Reply)
  after o = option_and_then (λ _. stopped_longer stopped) o

  pub stop-reply : Stops lane (c ∷ cs) (r ∷ rs) es → same_reply Reply.Stopped r.reply ≡ true
  stop-reply all = go noted all
    where
      go : (o : Option (Unit {0} × Log)) → after o ≡ Some (r.reply ∷ replies_in rs) →
          same_reply Reply.Stopped r.reply ≡ true
      go None e = absurd (cc e)
      go (Some p) e =
          ap (λ (reply : Reply). same_reply Reply.Stopped reply) (sym (stopped-is r.reply stopped (replies_in rs) e).0)

  pub stop-read : Stops lane (c ∷ cs) (r ∷ rs) es → is_some noted ≡ true
  stop-read all = go noted all
    where
      go : (o : Option (Unit {0} × Log)) → after o ≡ Some (r.reply ∷ replies_in rs) → is_some o ≡ true
      go None e = absurd (cc e)
      go (Some p) e = refl

  pub stop-goes : same_reply Reply.Stopped r.reply ≡ true → is_some noted ≡ true →
      Stops lane (c ∷ cs) (r ∷ rs) es ↔ Stops lane cs rs (drop r.notes es)
  stop-goes same read = go noted read
    where
      go : (o : Option (Unit {0} × Log)) → is_some o ≡ true →
          (after o ≡ Some (r.reply ∷ replies_in rs)) ↔ (stopped ≡ Some (replies_in rs))
      go None none = absurd (cc none)
      go (Some p) some =
          let reply : Reply.Stopped ≡ r.reply = same_reply-is Reply.Stopped r.reply same in (
            λ all. (stopped-is r.reply stopped (replies_in rs) all).1,
            λ rest.
                ap (λ (o : Option (List Reply)). stopped_longer o) rest
                ∙ (λ i. Some (reply i ∷ replies_in rs)),
          )

-- ---- Where the stop is.

-- the next reply is the stop, or it is not
pub stop-here : (reply : Reply) (replies : List Reply) → same_reply Reply.Stopped reply ≡ true →
    before_stop (reply ∷ replies) ≡ 0
stop-here reply replies same =
    ap (λ (r : Reply). before_stop (r ∷ replies)) (sym (same_reply-is Reply.Stopped reply same))

pub stop-later : (reply : Reply) (replies : List Reply) → same_reply Reply.Stopped reply ≡ false →
    before_stop (reply ∷ replies) ≡ suc (before_stop replies)
stop-later Reply.Stopped replies e = absurd (cc e)
stop-later _ replies e = refl

pub stop-within : (replies : List Reply) → before_stop replies ≤ length replies
stop-within [] = omega arith
stop-within (reply ∷ replies) = go (same_reply Reply.Stopped reply) refl (stop-within replies)
  where
    go : (b : Bool) → same_reply Reply.Stopped reply ≡ b → before_stop replies ≤ length replies →
        before_stop (reply ∷ replies) ≤ suc (length replies)
    go true e rest = omega (arith, stop-here reply replies e)
    go false e rest = omega (arith, stop-later reply replies e, rest)

-- ---- The stop, from a reply on.

-- the next of a list
pub next-item : {X : Type 0} (xs : List X) (i : ℕ) (x : X) → i < length xs → x ≡ get_or xs i x →
    drop i xs ≡ x ∷ drop (i + 1) xs
next-item xs i x there is =
    let more : suc i ≡ i + 1 = omega arith in
    drop-cons xs i x there ∙ (λ j. sym is j ∷ drop (more j) xs)

-- the stop
pub stop-at : (rs : List Answered) (i : ℕ) (r : Answered) → i < length rs → r ≡ get_or rs i r →
    same_reply Reply.Stopped r.reply ≡ true → before_stop (replies_in (drop i rs)) ≡ 0
stop-at rs i r there is same =
    ap (λ (these : List Answered). before_stop (replies_in these)) (next-item rs i r there is)
    ∙ stop-here r.reply (replies_in (drop (i + 1) rs)) same

pub stop-next : (rs : List Answered) (i : ℕ) (r : Answered) → i < length rs → r ≡ get_or rs i r →
    same_reply Reply.Stopped r.reply ≡ false →
    before_stop (replies_in (drop i rs)) ≡ suc (before_stop (replies_in (drop (i + 1) rs)))
stop-next rs i r there is other =
    ap (λ (these : List Answered). before_stop (replies_in these)) (next-item rs i r there is)
    ∙ stop-later r.reply (replies_in (drop (i + 1) rs)) other

pub stop-past : (rs : List Answered) (i : ℕ) → length rs ≤ i → before_stop (replies_in (drop i rs)) ≡ 0
stop-past rs i past = ap (λ (these : List Answered). before_stop (replies_in these)) (drop_all i rs past)

-- the same of replies alone
pub reply-stop : (replies : List Reply) (i : ℕ) (r : Reply) → i < length replies → r ≡ get_or replies i r →
    same_reply Reply.Stopped r ≡ true → before_stop (drop i replies) ≡ 0
reply-stop replies i r there is same =
    ap (λ (these : List Reply). before_stop these) (next-item replies i r there is)
    ∙ stop-here r (drop (i + 1) replies) same

pub reply-next : (replies : List Reply) (i : ℕ) (r : Reply) → i < length replies → r ≡ get_or replies i r →
    same_reply Reply.Stopped r ≡ false → before_stop (drop i replies) ≡ suc (before_stop (drop (i + 1) replies))
reply-next replies i r there is other =
    ap (λ (these : List Reply). before_stop these) (next-item replies i r there is)
    ∙ stop-later r (drop (i + 1) replies) other

pub reply-past : (replies : List Reply) (i : ℕ) → length replies ≤ i → before_stop (drop i replies) ≡ 0
reply-past replies i past = ap (λ (these : List Reply). before_stop these) (drop_all i replies past)
