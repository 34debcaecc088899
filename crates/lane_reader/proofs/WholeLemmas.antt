-- The commands of a lane in two parts, up to a stop and behind it, and the first of them.
use Rattle.std.proofs.Common.{◌≡◌, ℕ, zero, suc, ◌+◌, ◌-◌, ◌≤◌, List, [], ◌∷◌, length, take, drop, Bool, true, false, refl, sym, ap, arith, subst, subst₂, ⊎_elim, ◌∙◌, length-drop}
use Rattle.std.proofs.Math.Path.{subst₃}
use Rattle.std.specs.Prelude.{◌⊎◌, ◌↔◌, min, sum, Option, Some, None, option_and_then}
use Rattle.std.proofs.lemmas.List.{take_all, drop_all, take-take, drop-take, length-take, length-map}
use Rattle.std.proofs.lemmas.List.Sums.{sum_by-take-drop, sum_by-take-le}
use Rattle.pool_law.specs.declared.command.Command.{Command}
use Rattle.pool_law.specs.declared.run.Shape.{Shape}
use Rattle.pool_law.specs.declared.run.Reply.{Reply}
use Rattle.pool_law.specs.declared.run.Answered.{Answered}
use Rattle.pool_law.specs.Readers.{ToldNotes, Log, read_all}
use Rattle.pool_law.specs.LaneStates.{LaneState, new_lane, log_at}
use Rattle.pool_law.specs.Lanes.{not_carried_out}
use Rattle.pool_law.specs.LaneLaw.{sweep_period, lane_step, lane_run, stopped_run, before_stop, pieces, behind, note_counts, replies_in}
use Rattle.lane_reader.specs.Replying.{same_reply}
use Rattle.lane_reader.specs.Running.{Runs, Stops, HasRun, HasStopped}
use Rattle.lane_reader.specs.Unlike.{AreAnswered}
use Rattle.lane_reader.proofs.FrontLemmas.{noted, noted-sum, drop-noted}
use Rattle.lane_reader.proofs.RunLemmas.{run-goes, run-first, stop-reply, stop-read, stop-goes, stop-here, stop-later, stop-within}

pub take-replies : (rs : List Answered) (n : ℕ) → replies_in (take n rs) ≡ take n (replies_in rs)
take-replies rs zero = refl
take-replies [] (suc n) = refl
take-replies (r ∷ rs) (suc n) = ap (λ (replies : List Reply). r.reply ∷ replies) (take-replies rs n)

pub drop-replies : (rs : List Answered) (n : ℕ) → replies_in (drop n rs) ≡ drop n (replies_in rs)
drop-replies rs zero = refl
drop-replies [] (suc n) = refl
drop-replies (r ∷ rs) (suc n) = drop-replies rs n

take-pieces : (rs : List Answered) (n : ℕ) (es : ToldNotes) →
    pieces (note_counts (take n rs)) es ≡ take n (pieces (note_counts rs) es)
take-pieces rs zero es = refl
take-pieces [] (suc n) es = refl
take-pieces (r ∷ rs) (suc n) es =
    ap (λ (groups : List ToldNotes). take r.notes es ∷ groups) (take-pieces rs n (drop r.notes es))

drop-pieces : (rs : List Answered) (n : ℕ) (es : ToldNotes) →
    pieces (note_counts (drop n rs)) (drop (noted (take n rs)) es) ≡ drop n (pieces (note_counts rs) es)
drop-pieces rs zero es = refl
drop-pieces [] (suc n) es = refl
drop-pieces (r ∷ rs) (suc n) es =
    ap (λ (left : ToldNotes). pieces (note_counts (drop n rs)) left) (drop-noted r (take n rs) es)
    ∙ drop-pieces rs n (drop r.notes es)

pub behind-is : (rs : List Answered) (es : ToldNotes) → behind (note_counts rs) es ≡ drop (noted rs) es
behind-is [] es = refl
behind-is (r ∷ rs) es = behind-is rs (drop r.notes es) ∙ sym (drop-noted r rs es)

length-pieces : (rs : List Answered) (es : ToldNotes) → length (pieces (note_counts rs) es) ≡ length rs
length-pieces [] es = refl
length-pieces (r ∷ rs) es = ap (λ n. suc n) (length-pieces rs (drop r.notes es))

abbrev more_run : Shape → ℕ → List Command → List ToldNotes → Option (Reply × LaneState) → Option (List Reply ×
    LaneState)
more_run shape lane cs groups o =
    option_and_then
    (λ p. option_and_then (λ q. Some (p.0 ∷ q.0, q.1)) (lane_run sweep_period shape lane p.1 cs groups)) o

-- as many commands have run as there are pieces
lane-lengths : (shape : Shape) (lane : ℕ) (s : LaneState) (cs : List Command) (groups : List ToldNotes)
    (p : List Reply × LaneState) →
    lane_run sweep_period shape lane s cs groups ≡ Some p → length cs ≡ length groups
lane-lengths shape lane s [] [] p e = refl
lane-lengths shape lane s [] (es ∷ groups) p e = absurd (cc e)
lane-lengths shape lane s (c ∷ cs) [] p e = absurd (cc e)
lane-lengths shape lane s (c ∷ cs) (es ∷ groups) p e =
    go (lane_step sweep_period shape lane s c es) e (λ next. lane-lengths shape lane next cs groups)
  where
    next : (first : Reply) (o : Option (List Reply × LaneState)) →
        option_and_then {U = List Reply × LaneState} (λ q. Some (first ∷ q.0, q.1)) o ≡ Some p →
        (q : List Reply × LaneState) × (o ≡ Some q)
    next first None e = absurd (cc e)
    next first (Some q) e = (q, refl)

    go : (o : Option (Reply × LaneState)) → more_run shape lane cs groups o ≡ Some p →
        ((next : LaneState) (q : List Reply × LaneState) →
        lane_run sweep_period shape lane next cs groups ≡ Some q → length cs ≡ length groups) →
        suc (length cs) ≡ suc (length groups)
    go None e rest = absurd (cc e)
    go (Some first) e rest =
        let found = next first.0 (lane_run sweep_period shape lane first.1 cs groups) e in
        ap (λ n. suc n) (rest first.1 found.0 found.1)

stopped-lengths : (lane : ℕ) (cs : List Command) (groups : List ToldNotes) (replies : List Reply) →
    stopped_run lane cs groups ≡ Some replies → length cs ≡ length groups
stopped-lengths lane [] [] replies e = refl
stopped-lengths lane [] (es ∷ groups) replies e = absurd (cc e)
stopped-lengths lane (c ∷ cs) [] replies e = absurd (cc e)
stopped-lengths lane (c ∷ cs) (es ∷ groups) replies e =
    go (read_all (not_carried_out lane c) (log_at new_lane es)) (stopped_run lane cs groups) e
    (stopped-lengths lane cs groups)
  where
    go : (o : Option (Unit {0} × Log)) (rest : Option (List Reply)) →
        option_and_then (λ _. option_and_then (λ q. Some (Reply.Stopped ∷ q)) rest) o ≡ Some replies →
        ((q : List Reply) → rest ≡ Some q → length cs ≡ length groups) → suc (length cs) ≡ suc (length groups)
    go None rest e same = absurd (cc e)
    go (Some p) None e same = absurd (cc e)
    go (Some p) (Some q) e same = ap (λ n. suc n) (same q refl)

-- where the stop is among the first so many replies
pub stop-first : (replies : List Reply) (k : ℕ) → before_stop (take k replies) ≡ min k (before_stop replies)
stop-first replies zero = omega arith
stop-first [] (suc k) = omega arith
stop-first (reply ∷ replies) (suc k) = go (same_reply Reply.Stopped reply) refl (stop-first replies k)
  where
    go : (b : Bool) → same_reply Reply.Stopped reply ≡ b → before_stop (take k replies) ≡ min k (before_stop replies) →
        before_stop (reply ∷ take k replies) ≡ min (suc k) (before_stop (reply ∷ replies))
    go true e rest = omega (arith, stop-here reply (take k replies) e, stop-here reply replies e)
    go false e rest = omega (arith, stop-later reply (take k replies) e, stop-later reply replies e, rest)

stop-among : (rs : List Answered) (k : ℕ) →
    before_stop (replies_in (take k rs)) ≡ min k (before_stop (replies_in rs))
stop-among rs k = ap (λ (replies : List Reply). before_stop replies) (take-replies rs k) ∙ stop-first (replies_in rs) k

-- ---- Commands in two parts, up to a stop and behind it.

pub record InParts
    (shape : Shape) (lane : ℕ) (cs : List Command) (rs : List Answered) (es : ToldNotes) (n : ℕ) : Type 0
  where
    pub running : HasRun shape lane (take n cs) (take n rs) es
    pub stopped : HasStopped lane (drop n cs) (drop n rs) (drop (noted (take n rs)) es)

-- no command of a stopped lane
none-stopped : (lane : ℕ) (cs : List Command) (rs : List Answered) (es : ToldNotes) → cs ≡ [] → rs ≡ [] →
    HasStopped lane cs rs es
none-stopped lane cs rs es no-command no-reply =
    subst₂ (λ (these : List Command) (answers : List Answered). HasStopped lane these answers es) (sym no-command)
    (sym no-reply)
    (record { counted = omega arith; stops = refl })

module _ (shape : Shape) (lane : ℕ) (cs : List Command) (rs : List Answered) (es : ToldNotes) where
  -- there are as many commands as replies
  pub answered-lengths : AreAnswered shape lane cs rs es → length cs ≡ length rs
  answered-lengths all =
      let n = before_stop (replies_in rs) in
      let groups : List ToldNotes = pieces (note_counts rs) es in
      let first : length (take n cs) ≡ length (take n groups) =
      lane-lengths shape lane new_lane (take n cs) (take n groups) (take n (replies_in rs), all.last) all.answered in
      let rest : length (drop n cs) ≡ length (drop n groups) =
      stopped-lengths lane (drop n cs) (drop n groups) (drop n (replies_in rs)) all.stopped in
      omega (
        arith,
        first,
        rest,
        length-take n cs,
        length-take n groups,
        length-drop n cs,
        length-drop n groups,
        length-pieces rs es,
        stop-within (replies_in rs),
        length-map rs (λ (a : Answered). a.reply),
      )

  pub noted-parts : (n : ℕ) → noted (take n rs) + noted (drop n rs) ≡ sum (note_counts rs)
  noted-parts n = sum_by-take-drop (λ (a : Answered). a.notes) rs n ∙ sym (noted-sum rs)

  pub answered-parts : (n : ℕ) → n ≡ before_stop (replies_in rs) → AreAnswered shape lane cs rs es →
      InParts shape lane cs rs es n
  answered-parts n is all = subst (InParts shape lane cs rs es) (sym is) (record {
    running = record {
      counted = omega (arith, all.counted, noted-sum (take stop rs), noted-parts stop);
      last = all.last;
      runs =
          (λ i. lane_run sweep_period shape lane new_lane (take stop cs) (take-pieces rs stop es i))
          ∙ all.answered
          ∙ (λ i. Some (sym (take-replies rs stop) i, all.last));
    };
    stopped = record {
      counted =
          omega (
            arith,
            all.counted,
            noted-sum (drop stop rs),
            noted-parts stop,
            length-drop (noted (take stop rs)) es,
          );
      stops =
          (λ i. stopped_run lane (drop stop cs) (drop-pieces rs stop es i))
          ∙ all.stopped
          ∙ (λ i. Some (sym (drop-replies rs stop) i));
    };
  })
    where
      stop : ℕ
      stop = before_stop (replies_in rs)

  pub parts-answered : (n : ℕ) → n ≡ before_stop (replies_in rs) → InParts shape lane cs rs es n →
      AreAnswered shape lane cs rs es
  parts-answered n is parts = go (subst (InParts shape lane cs rs es) is parts)
    where
      go : InParts shape lane cs rs es (before_stop (replies_in rs)) → AreAnswered shape lane cs rs es
      go all =
          let stop = before_stop (replies_in rs) in
          record {
            counted =
                omega (
                  arith,
                  all.running.counted,
                  all.stopped.counted,
                  noted-sum (take stop rs),
                  noted-sum (drop stop rs),
                  noted-parts stop,
                  length-drop (noted (take stop rs)) es,
                );
            last = all.running.last;
            answered =
                (λ i. lane_run sweep_period shape lane new_lane (take stop cs) (sym (take-pieces rs stop es) i))
                ∙ all.running.runs
                ∙ (λ i. Some (take-replies rs stop i, all.running.last));
            stopped =
                (λ i. stopped_run lane (drop stop cs) (sym (drop-pieces rs stop es) i))
                ∙ all.stopped.stops
                ∙ (λ i. Some (drop-replies rs stop i));
          }

-- ---- The first of the commands.

module _ (shape : Shape) (lane : ℕ) (cs : List Command) (rs : List Answered) (es : ToldNotes) where
  -- up to the stop
  pub first-running : (k : ℕ) → k ≤ before_stop (replies_in rs) →
      AreAnswered shape lane (take k cs) (take k rs) es ↔ HasRun shape lane (take k cs) (take k rs) es
  first-running k up-to =
      let bs : List Command = take k cs in
      let qs : List Answered = take k rs in
      let stop : k ≡ before_stop (replies_in qs) = omega (arith, up-to, stop-among rs k) in
      let few : length bs ≤ k = omega (arith, length-take k cs) in
      let few' : length qs ≤ k = omega (arith, length-take k rs) in
      let Q : List Command → List Answered → Type 0 = λ these answers. HasRun shape lane these answers es in (
        λ all.
            subst₂ Q (take_all k bs few) (take_all k qs few') (answered-parts shape lane bs qs es k stop all).running,
        λ run.
            parts-answered shape lane bs qs es k stop (record {
              running = subst₂ Q (sym (take_all k bs few)) (sym (take_all k qs few')) run;
              stopped =
                  none-stopped lane (drop k bs) (drop k qs) (drop (noted (take k qs)) es) (drop_all k bs few)
                  (drop_all k qs few');
            }),
      )

  -- and behind it
  module _ (n : ℕ) (stop : n ≡ before_stop (replies_in rs)) (j : ℕ) where
    abbrev left : ToldNotes
    left = drop (noted (take n rs)) es

    first-in-parts : InParts shape lane (take (n + j) cs) (take (n + j) rs) es n
        ↔ (HasRun shape lane (take n cs) (take n rs) es
        × HasStopped lane (take j (drop n cs)) (take j (drop n rs)) left)
    first-in-parts =
        let below : n ≤ n + j = omega arith in
        let b = take-take n (n + j) cs below in
        let q = take-take n (n + j) rs below in
        let Q : List Command → List Answered → Type 0 = λ these answers. HasRun shape lane these answers es in
        let P : List Command → List Answered → ToldNotes → Type 0 =
        λ these answers end. HasStopped lane these answers end in
        let l : drop (noted (take n (take (n + j) rs))) es ≡ left =
        ap (λ (answers : List Answered). drop (noted answers) es) q in (
          λ parts. (
            subst₂ Q b q parts.running,
            subst₃ P (drop-take n j cs) (drop-take n j rs) l parts.stopped,
          ),
          λ both. record {
            running = subst₂ Q (sym b) (sym q) both.0;
            stopped = subst₃ P (sym (drop-take n j cs)) (sym (drop-take n j rs)) (sym l) both.1;
          },
        )

    still : n ≡ before_stop (replies_in (take (n + j) rs))
    still = omega (arith, stop, stop-among rs (n + j))

    pub first-stopped : HasRun shape lane (take n cs) (take n rs) es →
        AreAnswered shape lane (take (n + j) cs) (take (n + j) rs) es
        ↔ HasStopped lane (take j (drop n cs)) (take j (drop n rs)) left
    first-stopped run = (
      λ all. (first-in-parts.0 (answered-parts shape lane (take (n + j) cs) (take (n + j) rs) es n still all)).1,
      λ these.
          parts-answered shape lane (take (n + j) cs) (take (n + j) rs) es n still (first-in-parts.1 (run, these)),
    )

-- the first of those that have run
run-front : (shape : Shape) (lane : ℕ) (s last : LaneState) (cs : List Command) (rs : List Answered) (es : ToldNotes)
    (k : ℕ) → Runs shape lane s cs rs es last →
    (mid : LaneState) × Runs shape lane s (take k cs) (take k rs) es mid
run-front shape lane s last cs rs es zero all = (s, refl)
run-front shape lane s last [] [] es (suc k) all = (last, all)
run-front shape lane s last [] (r ∷ rs) es (suc k) all = absurd (cc all)
run-front shape lane s last (c ∷ cs) [] es (suc k) all = absurd (cc all)
run-front shape lane s last (c ∷ cs) (r ∷ rs) es (suc k) all =
    let first = run-first shape lane s c cs r rs es last all in
    let rest = (run-goes shape lane s c cs r rs es first.0 last first.1).0 all in
    let found = run-front shape lane first.0 last cs rs (drop r.notes es) k rest in
    (found.0, (run-goes shape lane s c (take k cs) r (take k rs) es first.0 found.0 first.1).1 found.1)

stop-front : (lane : ℕ) (cs : List Command) (rs : List Answered) (es : ToldNotes) (k : ℕ) → Stops lane cs rs es →
    Stops lane (take k cs) (take k rs) es
stop-front lane cs rs es zero all = refl
stop-front lane [] [] es (suc k) all = all
stop-front lane [] (r ∷ rs) es (suc k) all = absurd (cc all)
stop-front lane (c ∷ cs) [] es (suc k) all = absurd (cc all)
stop-front lane (c ∷ cs) (r ∷ rs) es (suc k) all =
    let same = stop-reply lane c cs r rs es all in
    let read = stop-read lane c cs r rs es all in
    let rest = (stop-goes lane c cs r rs es same read).0 all in
    (stop-goes lane c (take k cs) r (take k rs) es same read).1 (stop-front lane cs rs (drop r.notes es) k rest)

noted-front : (rs : List Answered) (k : ℕ) → sum (note_counts (take k rs)) ≤ sum (note_counts rs)
noted-front rs k = omega (arith, noted-sum (take k rs), noted-sum rs, sum_by-take-le (λ (a : Answered). a.notes) rs k)

-- the first of commands that have their replies and notes have theirs
pub answered-front : (shape : Shape) (lane : ℕ) (cs : List Command) (rs : List Answered) (es : ToldNotes) (k : ℕ) →
    AreAnswered shape lane cs rs es → AreAnswered shape lane (take k cs) (take k rs) es
answered-front shape lane cs rs es k all = ⊎_elim below beyond (order k n)
  where
    n : ℕ
    n = before_stop (replies_in rs)

    order : (a b : ℕ) → (a ≤ b) ⊎ (b ≤ a)
    order a b = grind arith

    parts : InParts shape lane cs rs es n
    parts = answered-parts shape lane cs rs es n refl all

    below : k ≤ n → AreAnswered shape lane (take k cs) (take k rs) es
    below up-to =
        let found = run-front shape lane new_lane parts.running.last (take n cs) (take n rs) es k parts.running.runs in
        let b = take-take k n cs up-to in
        let q = take-take k n rs up-to in
        (first-running shape lane cs rs es k up-to).1 (record {
          counted =
              omega (
                arith,
                parts.running.counted,
                noted-front (take n rs) k,
                ap (λ (answers : List Answered). sum (note_counts answers)) q,
              );
          last = found.0;
          runs =
              subst₂
              (λ (these : List Command) (answers : List Answered).
              Runs shape lane new_lane these answers es found.0)
              b q found.1;
        })

    beyond : n ≤ k → AreAnswered shape lane (take k cs) (take k rs) es
    beyond past =
        let j : ℕ = k - n in
        let at : n + j ≡ k = omega (arith, past) in
        let left : ToldNotes = drop (noted (take n rs)) es in
        subst (λ (i : ℕ). AreAnswered shape lane (take i cs) (take i rs) es) at
        ((first-stopped shape lane cs rs es n refl j parts.running).1 (record {
          counted = omega (arith, parts.stopped.counted, noted-front (drop n rs) j);
          stops = stop-front lane (drop n cs) (drop n rs) left j parts.stopped.stops;
        }))
