-- The notes of a lane part into those of its commands in one way.
use Rattle.std.proofs.Common.{◌≡◌, ℕ, ◌≤◌, List, [], ◌∷◌, ◌++◌, length, take, drop, true, refl, sym, ap, arith, subst, ◌∙◌, length-drop, take-append-drop}
use Rattle.std.specs.Prelude.{Option, Some, None, option_and_then, is_some}
use Rattle.std.proofs.lemmas.List.Sums.{sum_by-cons}
use Rattle.pool_law.specs.declared.command.Command.{Command}
use Rattle.pool_law.specs.declared.run.Shape.{Shape}
use Rattle.pool_law.specs.declared.run.Reply.{Reply}
use Rattle.pool_law.specs.declared.run.Answered.{Answered}
use Rattle.pool_law.specs.LaneLaw.{sweep_period, lane_run, before_stop, note_counts, pieces, replies_in}
use Rattle.pool_law.specs.LaneStates.{LaneState, new_lane, log_at, state_at}
use Rattle.pool_law.specs.Lanes.{Answer, not_carried_out}
use Rattle.pool_law.specs.Readers.{Log, Reader, ToldNotes, ◌>>◌, at_end, ended_with, give, read_all}
use Rattle.lane_reader.specs.Running.{Runs, Stops, HasStopped}
use Rattle.lane_reader.specs.Unlike.{AreAnswered}
use Rattle.lane_reader.proofs.CutLemmas.{Parts, first-parts}
use Rattle.lane_reader.proofs.FrontLemmas.{noted, noted-sum}
use Rattle.lane_reader.proofs.GoesOn.{GoesOn, with_more}
use Rattle.lane_reader.proofs.RunLemmas.{stop-goes, stop-read, stop-reply}
use Rattle.lane_reader.proofs.TurnGoesOn.{refused-goes}
use Rattle.lane_reader.proofs.WholeLemmas.{InParts, answered-parts, take-replies, drop-replies}

-- the counts of notes that are left behind so many each, where there are so many
same-counts : (n k : ℕ) (es : ToldNotes) → n ≤ length es → k ≤ length es → drop n es ≡ drop k es → n ≡ k
same-counts n k es fits fits' same =
    omega (arith, fits, fits', ap (λ (xs : ToldNotes). length xs) same, length-drop n es, length-drop k es)

-- the notes of the first of some commands, and those of the others
one-fits : (a : Answered) (qs : List Answered) (es : ToldNotes) → noted (a ∷ qs) ≤ length es →
    (a.notes ≤ length es) × (noted qs ≤ length (drop a.notes es))
one-fits a qs es fits =
    let parts = sum_by-cons (λ (x : Answered). x.notes) a qs in (
      omega (arith, fits, parts),
      omega (arith, fits, parts, length-drop a.notes es),
    )

-- the first replies are the same, and the others
same-head : (a b : Reply) (qs bs : List Reply) → a ∷ qs ≡ b ∷ bs → a ≡ b
same-head a b qs bs e = cc e

same-tail : (a b : Reply) (qs bs : List Reply) → a ∷ qs ≡ b ∷ bs → qs ≡ bs
same-tail a b qs bs e = cc e

-- ---- Of a lane that runs.

module _ (shape : Shape) (lane : ℕ) where
  -- what a command has taken of all notes is so once
  once : (s : LaneState) (c : Command) (cs : List Command) (n k : ℕ) (ns ks : List ℕ) (es : ToldNotes)
      (replies others : List Reply) (last end : LaneState)
      (one : Parts sweep_period shape lane s c cs n ns es replies last)
      (two : Parts sweep_period shape lane s c cs k ks es others end)
      → (drop n es ≡ drop k es) × (one.mid ≡ two.mid)
  once s c cs n k ns ks es replies others last end one two =
      let read : ◌≡◌ {A = Option (Answer × Log)}
      (Some (one.takes.a, one.takes.end)) (Some (two.takes.a, two.takes.end)) =
      sym one.takes.read ∙ two.takes.read in
      let same : ◌≡◌ {A = Answer × Log} (one.takes.a, one.takes.end) (two.takes.a, two.takes.end) = cc read in (
        sym one.takes.left ∙ ap (λ (got : Answer × Log). got.1.left) same ∙ two.takes.left,
        sym one.takes.state ∙ ap (λ (got : Answer × Log). state_at got.0.names got.1) same ∙ two.takes.state,
      )

  -- the replies of the others
  rest-runs : (s : LaneState) (c : Command) (cs : List Command) (a : Answered) (qs : List Answered) (es : ToldNotes)
      (last : LaneState)
      (parts : Parts sweep_period shape lane s c cs a.notes (note_counts qs) es (replies_in (a ∷ qs)) last)
      → Runs shape lane parts.mid cs qs (drop a.notes es) last
  rest-runs s c cs a qs es last parts =
      let more : replies_in qs ≡ parts.more =
      same-tail a.reply parts.reply (replies_in qs) parts.more parts.replied in
      parts.runs ∙ (λ i. Some (sym more i, last))

  -- commands have run in one way
  pub unique-run : (s : LaneState) (cs : List Command) (qs bs : List Answered) (es : ToldNotes) (last end : LaneState)
      → noted qs ≤ length es → noted bs ≤ length es → replies_in qs ≡ replies_in bs → Runs shape lane s cs qs es last
      → Runs shape lane s cs bs es end → qs ≡ bs
  unique-run s [] [] [] es last end fits fits' same runs runs' = refl
  unique-run s [] [] (b ∷ bs) es last end fits fits' same runs runs' = absurd (cc same)
  unique-run s [] (a ∷ qs) bs es last end fits fits' same runs runs' = absurd (cc runs)
  unique-run s (c ∷ cs) [] bs es last end fits fits' same runs runs' = absurd (cc runs)
  unique-run s (c ∷ cs) (a ∷ qs) [] es last end fits fits' same runs runs' = absurd (cc same)
  unique-run s (c ∷ cs) (a ∷ qs) (b ∷ bs) es last end fits fits' same runs runs' =
      let one =
      first-parts sweep_period shape lane s c cs a.notes (note_counts qs) es (replies_in (a ∷ qs)) last runs in
      let two =
      first-parts sweep_period shape lane s c cs b.notes (note_counts bs) es (replies_in (b ∷ bs)) end runs' in
      let both = once s c cs a.notes b.notes (note_counts qs) (note_counts bs) es (replies_in (a ∷ qs))
      (replies_in (b ∷ bs)) last end one two in
      let left : drop a.notes es ≡ drop b.notes es = both.0 in
      let here = one-fits a qs es fits in
      let there = one-fits b bs es fits' in
      let count : a.notes ≡ b.notes = same-counts a.notes b.notes es here.0 there.0 left in
      let reply : a.reply ≡ b.reply = same-head a.reply b.reply (replies_in qs) (replies_in bs) same in
      let others : Runs shape lane one.mid cs bs (drop a.notes es) end =
      (λ i. lane_run sweep_period shape lane (both.1 i) cs (pieces (note_counts bs) (left i)))
      ∙ rest-runs s c cs b bs es end two in
      let rest : qs ≡ bs =
      unique-run one.mid cs qs bs (drop a.notes es) last end here.1
      (omega (arith, there.1, ap (λ (xs : ToldNotes). length xs) left))
      (same-tail a.reply b.reply (replies_in qs) (replies_in bs) same) (rest-runs s c cs a qs es last one) others in
      λ i. record { reply = reply i; notes = count i } ∷ rest i

-- ---- Of a lane that is stopped.

-- what is read of all the notes, and what it leaves
pub record Leaves {A : Type 0} (r : Reader A) (s : LaneState) (es : ToldNotes) (n : ℕ) : Type 0 where
  pub a : A
  pub end : Log
  pub read : r (log_at s es) ≡ Some (a, end)
  pub left : end.left ≡ drop n es

module _ {A : Type 0} (r : Reader A) (goes : GoesOn r) (s : LaneState) (es : ToldNotes) (n : ℕ) where
  leaves-left : (got : A × Log) → r (log_at s (take n es)) ≡ Some got → (left : ToldNotes) → got.1.left ≡ left
      → is_some (option_and_then (λ g. give got.0 g.1) (ended_with got.1 left)) ≡ true → Leaves r s es n
  leaves-left got is [] here e = record {
    a = got.0;
    end = with_more (drop n es) got.1;
    read =
        ap (λ (all : ToldNotes). r (log_at s all)) (sym (take-append-drop n es))
        ∙ goes.0 (drop n es) (log_at s (take n es)) got.0 got.1 is;
    left = ap (λ (left : ToldNotes). left ++ drop n es) here;
  }
  leaves-left got is (x ∷ xs) here e = absurd (cc e)

  leaves-by : (o : Option (A × Log)) → r (log_at s (take n es)) ≡ o
      → is_some (option_and_then (λ got. (at_end >> give got.0) got.1) o) ≡ true → Leaves r s es n
  leaves-by None is e = absurd (cc e)
  leaves-by (Some got) is e = leaves-left got is got.1.left refl e

  -- what reads all of the first notes leaves the others
  pub leaves : is_some (read_all r (log_at s (take n es))) ≡ true → Leaves r s es n
  leaves e = leaves-by (r (log_at s (take n es))) refl e

module _ (lane : ℕ) where
  -- stopped commands have their notes in one way
  pub unique-stops : (cs : List Command) (qs bs : List Answered) (es : ToldNotes) → noted qs ≤ length es
      → noted bs ≤ length es → replies_in qs ≡ replies_in bs → Stops lane cs qs es → Stops lane cs bs es → qs ≡ bs
  unique-stops [] [] [] es fits fits' same all all' = refl
  unique-stops [] [] (b ∷ bs) es fits fits' same all all' = absurd (cc same)
  unique-stops [] (a ∷ qs) bs es fits fits' same all all' = absurd (cc all)
  unique-stops (c ∷ cs) [] bs es fits fits' same all all' = absurd (cc all)
  unique-stops (c ∷ cs) (a ∷ qs) [] es fits fits' same all all' = absurd (cc same)
  unique-stops (c ∷ cs) (a ∷ qs) (b ∷ bs) es fits fits' same all all' =
      let r : Reader (Unit {0}) = not_carried_out lane c in
      let read = stop-read lane c cs a qs es all in
      let read' = stop-read lane c cs b bs es all' in
      let one = leaves r (refused-goes lane c) new_lane es a.notes read in
      let two = leaves r (refused-goes lane c) new_lane es b.notes read' in
      let found : ◌≡◌ {A = Option (Unit {0} × Log)} (Some (one.a, one.end)) (Some (two.a, two.end)) =
      sym one.read ∙ two.read in
      let got : ◌≡◌ {A = Unit {0} × Log} (one.a, one.end) (two.a, two.end) = cc found in
      let left : drop a.notes es ≡ drop b.notes es =
      sym one.left ∙ ap (λ (g : Unit {0} × Log). g.1.left) got ∙ two.left in
      let here = one-fits a qs es fits in
      let there = one-fits b bs es fits' in
      let count : a.notes ≡ b.notes = same-counts a.notes b.notes es here.0 there.0 left in
      let reply : a.reply ≡ b.reply = same-head a.reply b.reply (replies_in qs) (replies_in bs) same in
      let first : Stops lane cs qs (drop a.notes es) =
      (stop-goes lane c cs a qs es (stop-reply lane c cs a qs es all) read).0 all in
      let second : Stops lane cs bs (drop b.notes es) =
      (stop-goes lane c cs b bs es (stop-reply lane c cs b bs es all') read').0 all' in
      let rest : qs ≡ bs =
      unique-stops cs qs bs (drop a.notes es) here.1
      (omega (arith, there.1, ap (λ (xs : ToldNotes). length xs) left))
      (same-tail a.reply b.reply (replies_in qs) (replies_in bs) same) first
      (subst (λ (xs : ToldNotes). Stops lane cs bs xs) (sym left) second) in
      λ i. record { reply = reply i; notes = count i } ∷ rest i

-- ---- Of a lane that may be stopped.

-- commands have their replies and notes in one way
pub unique : (shape : Shape) (lane : ℕ) (cs : List Command) (qs bs : List Answered) (es : ToldNotes)
    → replies_in qs ≡ replies_in bs → AreAnswered shape lane cs qs es → AreAnswered shape lane cs bs es → qs ≡ bs
unique shape lane cs qs bs es same all all' =
    sym (take-append-drop n qs)
    ∙ (λ i. first i ++ behind i)
    ∙ take-append-drop n bs
  where
    n : ℕ
    n = before_stop (replies_in qs)

    stop : n ≡ before_stop (replies_in bs)
    stop = ap (λ (replies : List Reply). before_stop replies) same

    one : InParts shape lane cs qs es n
    one = answered-parts shape lane cs qs es n refl all

    two : InParts shape lane cs bs es n
    two = answered-parts shape lane cs bs es n stop all'

    first : take n qs ≡ take n bs
    first =
        unique-run shape lane new_lane (take n cs) (take n qs) (take n bs) es one.running.last two.running.last
        (omega (arith, one.running.counted, noted-sum (take n qs)))
        (omega (arith, two.running.counted, noted-sum (take n bs)))
        (take-replies qs n ∙ ap (λ (replies : List Reply). take n replies) same ∙ sym (take-replies bs n))
        one.running.runs two.running.runs

    left : drop (noted (take n bs)) es ≡ drop (noted (take n qs)) es
    left = ap (λ (these : List Answered). drop (noted these) es) (sym first)

    stopped : HasStopped lane (drop n cs) (drop n bs) (drop (noted (take n qs)) es)
    stopped = subst (λ (xs : ToldNotes). HasStopped lane (drop n cs) (drop n bs) xs) left two.stopped

    behind : drop n qs ≡ drop n bs
    behind =
        unique-stops lane (drop n cs) (drop n qs) (drop n bs) (drop (noted (take n qs)) es)
        (omega (arith, one.stopped.counted, noted-sum (drop n qs)))
        (omega (arith, stopped.counted, noted-sum (drop n bs)))
        (drop-replies qs n ∙ ap (λ (replies : List Reply). drop n replies) same ∙ sym (drop-replies bs n))
        one.stopped.stops stopped.stops
