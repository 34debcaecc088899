-- How far commands have their replies and notes: one command more behind those that have.
use Rattle.std.proofs.Common.{◌≡◌, ℕ, suc, ◌+◌, ◌<◌, ◌≤◌, List, [], ◌∷◌, ◌++◌, length, take, drop, true, refl, sym, ap, arith, subst, ◌∙◌, length-drop, subst₂}
use Rattle.std.specs.Prelude.{◌↔◌, Some, is_some, sum}
use Rattle.std.specs.List.{sum_by}
use Rattle.std.proofs.lemmas.List.{drop-drop}
use Rattle.std.proofs.lemmas.List.Sums.{sum_by-append, sum_by-cons, sum-map}
use Rattle.pool_law.specs.declared.command.Command.{Command}
use Rattle.pool_law.specs.declared.run.Shape.{Shape}
use Rattle.pool_law.specs.declared.run.Reply.{Reply}
use Rattle.pool_law.specs.declared.run.Answered.{Answered}
use Rattle.pool_law.specs.Readers.{ToldNotes, read_all}
use Rattle.pool_law.specs.LaneStates.{LaneState, new_lane, log_at}
use Rattle.pool_law.specs.Lanes.{not_carried_out}
use Rattle.pool_law.specs.LaneLaw.{sweep_period, lane_step, note_counts}
use Rattle.lane_reader.specs.declared.lane.Lane.{Lane}
use Rattle.lane_reader.specs.Replying.{same_reply}
use Rattle.lane_reader.specs.Standing.{IsLane}
use Rattle.lane_reader.specs.Running.{Runs, Stops, HasRun, HasStopped}
use Rattle.lane_reader.proofs.ReadingLemmas.{take-next}
use Rattle.lane_reader.proofs.RunLemmas.{run-goes, run-first, stop-reply, stop-read, stop-goes}

-- the notes of so many commands
abbrev pub noted : List Answered → ℕ
noted rs = sum_by (λ a. a.notes) rs

pub noted-sum : (rs : List Answered) → sum (note_counts rs) ≡ noted rs
noted-sum rs = sum-map (λ (a : Answered). a.notes) rs

pub drop-noted : (r : Answered) (rs : List Answered) (es : ToldNotes) →
    drop (noted (r ∷ rs)) es ≡ drop (noted rs) (drop r.notes es)
drop-noted r rs es =
    ap (λ (n : ℕ). drop n es) (sum_by-cons (λ a. a.notes) r rs) ∙ sym (drop-drop (noted rs) r.notes es)

noted-one : (r : Answered) → noted (r ∷ []) ≡ r.notes
noted-one r = omega (arith, sum_by-cons (λ (a : Answered). a.notes) r [])

-- the notes of one command more
pub noted-more : (rs : List Answered) (i : ℕ) (r : Answered) → drop i rs ≡ r ∷ drop (i + 1) rs →
    noted (take (suc i) rs) ≡ noted (take i rs) + r.notes
noted-more rs i r replies =
    ap (λ (these : List Answered). noted these) (take-next rs i r (drop (i + 1) rs) replies)
    ∙ sum_by-append (λ (a : Answered). a.notes) (take i rs) (r ∷ [])
    ∙ ap (λ (n : ℕ). noted (take i rs) + n) (noted-one r)

-- ---- One command more of a lane that runs.

ended-state : (shape : Shape) (lane : ℕ) (s last : LaneState) (es : ToldNotes) →
    Runs shape lane s [] [] es last → s ≡ last
ended-state shape lane s last es e =
    let both : ◌≡◌ {A = List Reply × LaneState} ([], s) ([], last) = cc e in
    ap (λ (p : List Reply × LaneState). p.1) both

-- one command more has run exactly where this is its step
pub run-more : (shape : Shape) (lane : ℕ) (s : LaneState) (cs : List Command) (rs : List Answered) (es : ToldNotes)
    (mid : LaneState) (c : Command) (r : Answered) (last : LaneState) → Runs shape lane s cs rs es mid →
    Runs shape lane s (cs ++ c ∷ []) (rs ++ r ∷ []) es last
    ↔ (lane_step sweep_period shape lane mid c (take r.notes (drop (noted rs) es)) ≡ Some (r.reply, last))
run-more shape lane s [] [] es mid c r last all =
    let same : s ≡ mid = ended-state shape lane s mid es all in
    subst
    (λ (at : LaneState).
    Runs shape lane s (c ∷ []) (r ∷ []) es last
    ↔ (lane_step sweep_period shape lane at c (take r.notes es) ≡ Some (r.reply, last)))
    same (
      λ more.
          let first = run-first shape lane s c [] r [] es last more in
          let end : first.0 ≡ last =
          ended-state shape lane first.0 last (drop r.notes es)
          ((run-goes shape lane s c [] r [] es first.0 last first.1).0 more) in
          first.1 ∙ (λ i. Some (r.reply, end i)),
      λ step. (run-goes shape lane s c [] r [] es last last step).1 refl,
    )
run-more shape lane s [] (q ∷ rs) es mid c r last all = absurd (cc all)
run-more shape lane s (b ∷ cs) [] es mid c r last all = absurd (cc all)
run-more shape lane s (b ∷ cs) (q ∷ rs) es mid c r last all =
    let first = run-first shape lane s b cs q rs es mid all in
    let next = first.0 in
    let rest = (run-goes shape lane s b cs q rs es next mid first.1).0 all in
    let more = run-more shape lane next cs rs (drop q.notes es) mid c r last rest in
    let goes = run-goes shape lane s b (cs ++ c ∷ []) q (rs ++ r ∷ []) es next last first.1 in
    let there : take r.notes (drop (noted (q ∷ rs)) es) ≡ take r.notes (drop (noted rs) (drop q.notes es)) =
    ap (λ (left : ToldNotes). take r.notes left) (drop-noted q rs es) in
    let step : ToldNotes → Type 0 =
    λ piece. lane_step sweep_period shape lane mid c piece ≡ Some (r.reply, last) in (
      λ longer. subst step (sym there) (more.0 (goes.0 longer)),
      λ one. goes.1 (more.1 (subst step there one)),
    )

-- ---- One command more of a lane that is stopped.

-- what is asked of a command's reply and notes
abbrev pub IsStopped : ℕ → Command → Answered → ToldNotes → Type 0
IsStopped lane c r es =
    (same_reply Reply.Stopped r.reply ≡ true)
    × (is_some (read_all (not_carried_out lane c) (log_at new_lane (take r.notes es))) ≡ true)

pub stop-more : (lane : ℕ) (cs : List Command) (rs : List Answered) (es : ToldNotes) (c : Command) (r : Answered) →
    Stops lane cs rs es →
    Stops lane (cs ++ c ∷ []) (rs ++ r ∷ []) es ↔ IsStopped lane c r (drop (noted rs) es)
stop-more lane [] [] es c r all = (
  λ more. (stop-reply lane c [] r [] es more, stop-read lane c [] r [] es more),
  λ is. (stop-goes lane c [] r [] es is.0 is.1).1 refl,
)
stop-more lane [] (q ∷ rs) es c r all = absurd (cc all)
stop-more lane (b ∷ cs) [] es c r all = absurd (cc all)
stop-more lane (b ∷ cs) (q ∷ rs) es c r all =
    let same = stop-reply lane b cs q rs es all in
    let read = stop-read lane b cs q rs es all in
    let rest = (stop-goes lane b cs q rs es same read).0 all in
    let more = stop-more lane cs rs (drop q.notes es) c r rest in
    let goes = stop-goes lane b (cs ++ c ∷ []) q (rs ++ r ∷ []) es same read in
    let is : ToldNotes → Type 0 = λ left. IsStopped lane c r left in (
      λ longer. subst is (sym (drop-noted q rs es)) (more.0 (goes.0 longer)),
      λ one. goes.1 (more.1 (subst is (drop-noted q rs es) one)),
    )

-- ---- As the program goes: so many commands have their replies and notes, and these notes are left.

pub record IsLeft (rs : List Answered) (es : ToldNotes) (i : ℕ) (left : ToldNotes) : Type 0 where
  pub counted : noted (take i rs) ≤ length es
  pub rest : left ≡ drop (noted (take i rs)) es

module _ (rs : List Answered) (es : ToldNotes) (i : ℕ) (left : ToldNotes) (is : IsLeft rs es i left) where
  pub left-counted : sum (note_counts (take i rs)) ≤ length es
  left-counted = omega (arith, is.counted, noted-sum (take i rs))

  left-length : length left + noted (take i rs) ≡ length es
  left-length = omega (
    arith,
    is.counted,
    ap (λ (xs : ToldNotes). length xs) is.rest,
    length-drop (noted (take i rs))
        es,
  )

  module _ (r : Answered) (replies : drop i rs ≡ r ∷ drop (i + 1) rs) where
    -- the next command has more notes than there are
    pub left-short : length left < r.notes → sum (note_counts (take (suc i) rs)) ≤ length es → ⊥
    left-short short counted =
        omega (arith, short, counted, left-length, noted-sum (take (suc i) rs), noted-more rs i r replies)

    pub left-more : r.notes ≤ length left → (left' : ToldNotes) → left' ≡ drop r.notes left → IsLeft rs es (i + 1) left'
    left-more fits left' behind =
        let further : suc i ≡ i + 1 = omega arith in
        let more : noted (take i rs) + r.notes ≡ noted (take (i + 1) rs) =
        sym (noted-more rs i r replies) ∙ ap (λ (k : ℕ). noted (take k rs)) further in
        record {
          counted = omega (arith, fits, left-length, more);
          rest =
              behind
              ∙ ap (λ (xs : ToldNotes). drop r.notes xs) is.rest
              ∙ drop-drop r.notes (noted (take i rs)) es
              ∙ ap (λ (n : ℕ). drop n es) more;
        }

module _ (cs : List Command) (rs : List Answered) (i : ℕ) (c : Command) (r : Answered)
    (commands : drop i cs ≡ c ∷ drop (i + 1) cs) (replies : drop i rs ≡ r ∷ drop (i + 1) rs) where
  -- the first so many and one more
  with-one : take (suc i) cs ≡ take i cs ++ c ∷ []
  with-one = take-next cs i c (drop (i + 1) cs) commands

  with-its : take (suc i) rs ≡ take i rs ++ r ∷ []
  with-its = take-next rs i r (drop (i + 1) rs) replies

  module _ (es left : ToldNotes) (is : IsLeft rs es i left) (lane : ℕ) where
    module _ (here : Stops lane (take i cs) (take i rs) es) where
      more-stopped : Stops lane (take i cs ++ c ∷ []) (take i rs ++ r ∷ []) es
          ↔ IsStopped lane c r (drop (noted (take i rs)) es)
      more-stopped = stop-more lane (take i cs) (take i rs) es c r here

      pub stopped-so-far : HasStopped lane (take i cs) (take i rs) es
      stopped-so-far = record { counted = left-counted rs es i left is; stops = here }

      pub stopped-next : HasStopped lane (take (suc i) cs) (take (suc i) rs) es → IsStopped lane c r left
      stopped-next all =
          subst (λ (end : ToldNotes). IsStopped lane c r end) (sym is.rest)
          (more-stopped.0
          (subst₂ (λ (bs : List Command) (qs : List Answered). Stops lane bs qs es) with-one with-its all.stops))

      pub stopped-further : IsStopped lane c r left → Stops lane (take (i + 1) cs) (take (i + 1) rs) es
      stopped-further one =
          let further : suc i ≡ i + 1 = omega arith in
          subst (λ (k : ℕ). Stops lane (take k cs) (take k rs) es) further
          (subst₂ (λ (bs : List Command) (qs : List Answered). Stops lane bs qs es) (sym with-one) (sym with-its)
          (more-stopped.1 (subst (λ (end : ToldNotes). IsStopped lane c r end) is.rest one)))

    module _ (shape : Shape) (s : LaneState) (here : Runs shape lane new_lane (take i cs) (take i rs) es s) where
      -- the next command's step, with the notes that are left
      abbrev Steps : LaneState → ToldNotes → Type 0
      Steps next end = lane_step sweep_period shape lane s c (take r.notes end) ≡ Some (r.reply, next)

      more-run : (last : LaneState) →
          Runs shape lane new_lane (take i cs ++ c ∷ []) (take i rs ++ r ∷ []) es last
          ↔ Steps last (drop (noted (take i rs)) es)
      more-run last = run-more shape lane new_lane (take i cs) (take i rs) es s c r last here

      pub run-so-far : HasRun shape lane (take i cs) (take i rs) es
      run-so-far = record { counted = left-counted rs es i left is; last = s; runs = here }

      pub run-next : HasRun shape lane (take (suc i) cs) (take (suc i) rs) es →
          (next : LaneState) × (lane_step sweep_period shape lane s c (take r.notes left) ≡ Some (r.reply, next))
      run-next all = (
        all.last,
        subst (Steps all.last) (sym is.rest)
            ((more-run all.last).0
            (subst₂ (λ (bs : List Command) (qs : List Answered). Runs shape lane new_lane bs qs es all.last) with-one
            with-its all.runs)),
      )

      pub run-further : (next : LaneState) →
          lane_step sweep_period shape lane s c (take r.notes left) ≡ Some (r.reply, next) →
          Runs shape lane new_lane (take (i + 1) cs) (take (i + 1) rs) es next
      run-further next step =
          let further : suc i ≡ i + 1 = omega arith in
          subst (λ (k : ℕ). Runs shape lane new_lane (take k cs) (take k rs) es next) further
          (subst₂ (λ (bs : List Command) (qs : List Answered). Runs shape lane new_lane bs qs es next) (sym with-one)
          (sym with-its)
          ((more-run next).1 (subst (Steps next) is.rest step)))

-- a lane that has run the first so many commands
pub record HasCome
    (shape : Shape) (lane : ℕ) (cs : List Command) (rs : List Answered) (es : ToldNotes) (i : ℕ) (here : Lane) : Type 0
  where
    pub state : LaneState
    pub is : IsLane here state
    pub runs : Runs shape lane new_lane (take i cs) (take i rs) es state
