-- The notes of a lane as they are cut: those of one command more.
use Rattle.std.proofs.Common.{◌≡◌, ℕ, zero, suc, ◌+◌, ◌<◌, ◌≤◌, List, [], ◌∷◌, ◌++◌, length, take, drop, Some, refl, sym, ap, arith, subst, subst₂, ◌∙◌, length-drop}
use Rattle.std.specs.Prelude.{slice_get, sum}
use Rattle.std.proofs.lemmas.List.{drop-drop, length-map, length-take, map-append}
use Rattle.std.proofs.lemmas.List.Sums.{sum_by-append, sum_by-cons}
use Rattle.pool_law.specs.declared.command.Command.{Command}
use Rattle.pool_law.specs.declared.run.Shape.{Shape}
use Rattle.pool_law.specs.declared.run.Reply.{Reply}
use Rattle.pool_law.specs.declared.run.Answered.{Answered}
use Rattle.pool_law.specs.Readers.{ToldNotes}
use Rattle.pool_law.specs.LaneStates.{LaneState, new_lane}
use Rattle.pool_law.specs.LaneLaw.{sweep_period, lane_step, note_counts, replies_in}
use Rattle.lane_reader.specs.declared.lane.Lane.{Lane}
use Rattle.lane_reader.specs.Cutting.{AreCutAt, AreCut, with_count}
use Rattle.lane_reader.specs.Running.{Runs, Stops, HasRun, HasStopped}
use Rattle.lane_reader.specs.Standing.{IsLane}
use Rattle.lane_reader.proofs.FrontLemmas.{IsStopped, noted, noted-sum, run-more, stop-more}
use Rattle.lane_reader.proofs.ReadingLemmas.{take-next}

-- ---- Lists.

-- the next of a list
pub get-of : {X : Type 0} (xs : List X) (at : ℕ) (x : X) (rest : List X) → drop at xs ≡ x ∷ rest
    → slice_get xs at ≡ Some x
get-of [] zero x rest e = absurd (cc e)
get-of [] (suc at) x rest e = absurd (cc e)
get-of (y ∷ ys) zero x rest e = let same : y ≡ x = cc e in λ i. Some (same i)
get-of (y ∷ ys) (suc at) x rest e = get-of ys at x rest e

same-item : {X : Type 0} (x y : X) → Some x ≡ Some y → x ≡ y
same-item x y e = cc e

-- replies and counts with one more
pub replies-more : (qs : List Answered) (a : Answered) → replies_in (qs ++ a ∷ []) ≡ replies_in qs ++ a.reply ∷ []
replies-more qs a = map-append (λ (x : Answered). x.reply) qs (a ∷ [])

pub counts-more : (qs : List Answered) (a : Answered) → note_counts (qs ++ a ∷ []) ≡ note_counts qs ++ a.notes ∷ []
counts-more qs a = map-append (λ (x : Answered). x.notes) qs (a ∷ [])

noted-with : (qs : List Answered) (a : Answered) → noted (qs ++ a ∷ []) ≡ noted qs + a.notes
noted-with qs a =
    let one : noted (a ∷ []) ≡ a.notes = omega (arith, sum_by-cons (λ (x : Answered). x.notes) a []) in
    sum_by-append (λ (x : Answered). x.notes) qs (a ∷ []) ∙ ap (λ (n : ℕ). noted qs + n) one

-- ---- So many commands.

-- so many commands have their replies by these counts, and these notes are left
pub record SoFar (replies : List Reply) (es : ToldNotes) (at : ℕ) (counts : List ℕ) (left : ToldNotes) : Type 0 where
  pub first : List Answered
  pub replied : replies_in first ≡ take at replies
  pub counted : note_counts first ≡ counts
  pub fits : noted first ≤ length es
  pub rest : left ≡ drop (noted first) es

-- none at first
none-so-far : (replies : List Reply) (es : ToldNotes) (counts : List ℕ) → counts ≡ [] → SoFar replies es 0 counts es
none-so-far replies es counts none =
    record { first = []; replied = refl; counted = sym none; fits = omega arith; rest = refl }

module _ (replies : List Reply) (es : ToldNotes) (at : ℕ) (counts : List ℕ) (left : ToldNotes)
    (so : SoFar replies es at counts left) where
  pub left-long : length left + noted so.first ≡ length es
  left-long =
      omega (arith, so.fits, ap (λ (xs : ToldNotes). length xs) so.rest, length-drop (noted so.first) es)

  pub sum-is : sum counts ≡ noted so.first
  sum-is = ap (λ (ns : List ℕ). sum ns) (sym so.counted) ∙ noted-sum so.first

  pub left-is : left ≡ drop (sum counts) es
  left-is = so.rest ∙ ap (λ (n : ℕ). drop n es) (sym sum-is)

  module _ (reply : Reply) (next : drop at replies ≡ reply ∷ drop (at + 1) replies) (count : ℕ)
      (fits : count ≤ length left) (counts' : List ℕ) (pushed : counts' ≡ counts ++ count ∷ []) (left' : ToldNotes)
      (behind : left' ≡ drop count left) where
    -- with one command more
    pub so-further : SoFar replies es (at + 1) counts' left'
    so-further =
        let a = with_count reply count in
        let more : noted (so.first ++ a ∷ []) ≡ noted so.first + count = noted-with so.first a in
        let further : suc at ≡ at + 1 = omega arith in
        record {
          first = so.first ++ a ∷ [];
          replied =
              replies-more so.first a
              ∙ ap (λ (rs : List Reply). rs ++ reply ∷ []) so.replied
              ∙ sym (take-next replies at reply (drop (at + 1) replies) next)
              ∙ ap (λ (k : ℕ). take k replies) further;
          counted =
              counts-more so.first a ∙ ap (λ (ns : List ℕ). ns ++ count ∷ []) so.counted ∙ sym pushed;
          fits = omega (arith, fits, left-long, more);
          rest =
              behind
              ∙ ap (λ (xs : ToldNotes). drop count xs) so.rest
              ∙ drop-drop count (noted so.first) es
              ∙ ap (λ (n : ℕ). drop n es) (sym more);
        }

  module _ (P : List Command → List Answered → ToldNotes → Type 0) (cs : List Command) (within : at ≤ length cs)
      (many : length cs ≡ length replies) where
    counts-long : length counts ≡ at
    counts-long =
        omega (
          arith,
          within,
          many,
          ap (λ (ns : List ℕ). length ns) so.counted,
          ap (λ (rs : List Reply). length rs) so.replied,
          length-map so.first (λ (a : Answered). a.notes),
          length-map so.first (λ (a : Answered). a.reply),
          length-take at replies,
        )

    -- no count is right for the next
    pub cut-ends : P (take at cs) so.first es
        → ((reply : Reply) (count : ℕ) → at < length cs → slice_get replies at ≡ Some reply
        → P (take (suc at) cs) (so.first ++ with_count reply count ∷ []) es → ⊥)
        → AreCut P cs replies es counts
    cut-ends are next =
        subst (λ (n : ℕ). AreCutAt P cs replies es counts n) (sym counts-long) (record {
          within = within;
          first = so.first;
          replied = so.replied;
          counted = so.counted;
          are = are;
          next = next;
        })

-- ---- Of a lane that runs.

-- so many commands of a new lane have run
pub record RunsSoFar
    (shape : Shape) (lane : ℕ) (cs : List Command) (replies : List Reply) (es : ToldNotes) (at : ℕ)
    (counts : List ℕ) (left : ToldNotes) (here : Lane) : Type 0
  where
    pub so : SoFar replies es at counts left
    pub state : LaneState
    pub is : IsLane here state
    pub runs : Runs shape lane new_lane (take at cs) so.first es state

-- none at first
pub none-run : (shape : Shape) (lane : ℕ) (cs : List Command) (replies : List Reply) (es : ToldNotes) (counts : List ℕ)
    (here : Lane) → counts ≡ [] → IsLane here new_lane → RunsSoFar shape lane cs replies es 0 counts es here
unfolding none-so-far
none-run shape lane cs replies es counts here none is =
    record { so = none-so-far replies es counts none; state = new_lane; is = is; runs = refl }

module _ (shape : Shape) (lane : ℕ) (cs : List Command) (replies : List Reply) (es : ToldNotes) (at : ℕ)
    (counts : List ℕ) (left : ToldNotes) (here : Lane) (r : RunsSoFar shape lane cs replies es at counts left here)
  where
    pub has-run : HasRun shape lane (take at cs) r.so.first es
    has-run = record {
      counted = omega (arith, r.so.fits, noted-sum r.so.first);
      last = r.state;
      runs = r.runs;
    }

    -- all have run
    pub run-whole : length cs ≤ at → at ≤ length cs → length cs ≡ length replies
        → AreCut (HasRun shape lane) cs replies es counts
    run-whole all within many =
        cut-ends replies es at counts left r.so (HasRun shape lane) cs within many has-run
        (λ reply count there is longer. absurd (omega (arith, all, there)))

    module _ (c : Command) (commands : drop at cs ≡ c ∷ drop (at + 1) cs) (reply : Reply)
        (next : drop at replies ≡ reply ∷ drop (at + 1) replies) where
      -- its notes are the first of those that are left
      abbrev Steps : ToldNotes → ℕ → LaneState → Type 0
      Steps xs count last = lane_step sweep_period shape lane r.state c (take count xs) ≡ Some (reply, last)

      with-one : take (suc at) cs ≡ take at cs ++ c ∷ []
      with-one = take-next cs at c (drop (at + 1) cs) commands

      -- the next has not
      pub run-ends : at ≤ length cs → length cs ≡ length replies
          → ((count : ℕ) (last : LaneState) → Steps left count last → ⊥)
          → AreCut (HasRun shape lane) cs replies es counts
      run-ends within many bad =
          cut-ends replies es at counts left r.so (HasRun shape lane) cs within many has-run
          (λ other count there is longer.
          let same : other ≡ reply =
          same-item other reply (sym is ∙ get-of replies at reply (drop (at + 1) replies) next) in
          let all : Runs shape lane new_lane (take at cs ++ c ∷ []) (r.so.first ++ with_count other count ∷ []) es
          longer.last =
          subst
          (λ (bs : List Command).
          Runs shape lane new_lane bs (r.so.first ++ with_count other count ∷ []) es longer.last)
          with-one longer.runs in
          let step :
          lane_step sweep_period shape lane r.state c (take count (drop (noted r.so.first) es))
          ≡ Some (other, longer.last) =
          (run-more shape lane new_lane (take at cs) r.so.first es r.state c (with_count other count) longer.last
          r.runs).0 all in
          bad count longer.last
          (ap (λ (xs : ToldNotes). lane_step sweep_period shape lane r.state c (take count xs)) r.so.rest
          ∙ step
          ∙ (λ i. Some (same i, longer.last))))

      -- the next has, with so many notes
      module _ (count : ℕ) (fits : count ≤ length left) (counts' : List ℕ) (pushed : counts' ≡ counts ++ count ∷ [])
          (left' : ToldNotes) (behind : left' ≡ drop count left) (here' : Lane) (last : LaneState)
          (is : IsLane here' last) (step : Steps left count last) where
        pub runs-further : RunsSoFar shape lane cs replies es (at + 1) counts' left' here'
        unfolding so-further
        runs-further =
            let further : suc at ≡ at + 1 = omega arith in
            let there :
            lane_step sweep_period shape lane r.state c (take count (drop (noted r.so.first) es))
            ≡ Some (reply, last) =
            ap (λ (xs : ToldNotes). lane_step sweep_period shape lane r.state c (take count xs)) (sym r.so.rest)
            ∙ step in
            let more :
            Runs shape lane new_lane (take at cs ++ c ∷ []) (r.so.first ++ with_count reply count ∷ []) es last =
            (run-more shape lane new_lane (take at cs) r.so.first es r.state c (with_count reply count) last r.runs).1
            there in
            record {
              so = so-further replies es at counts left r.so reply next count fits counts' pushed left' behind;
              state = last;
              is = is;
              runs =
                  subst
                  (λ (bs : List Command).
                  Runs shape lane new_lane bs (r.so.first ++ with_count reply count ∷ []) es last)
                  (sym with-one ∙ ap (λ (k : ℕ). take k cs) further) more;
            }

-- ---- Of a lane that is stopped.

-- so many commands of a stopped lane have their notes
pub record StopsSoFar
    (lane : ℕ) (cs : List Command) (replies : List Reply) (es : ToldNotes) (at : ℕ) (counts : List ℕ)
    (left : ToldNotes) : Type 0
  where
    pub so : SoFar replies es at counts left
    pub stops : Stops lane (take at cs) so.first es

-- none at first
pub none-stopped : (lane : ℕ) (cs : List Command) (replies : List Reply) (es : ToldNotes) (counts : List ℕ)
    → counts ≡ [] → StopsSoFar lane cs replies es 0 counts es
unfolding none-so-far
none-stopped lane cs replies es counts none =
    record { so = none-so-far replies es counts none; stops = refl }

module _ (lane : ℕ) (cs : List Command) (replies : List Reply) (es : ToldNotes) (at : ℕ) (counts : List ℕ)
    (left : ToldNotes) (r : StopsSoFar lane cs replies es at counts left) where
  has-stopped : HasStopped lane (take at cs) r.so.first es
  has-stopped = record { counted = omega (arith, r.so.fits, noted-sum r.so.first); stops = r.stops }

  -- all have
  pub stop-whole : length cs ≤ at → at ≤ length cs → length cs ≡ length replies
      → AreCut (HasStopped lane) cs replies es counts
  stop-whole all within many =
      cut-ends replies es at counts left r.so (HasStopped lane) cs within many has-stopped
      (λ reply count there is longer. absurd (omega (arith, all, there)))

  module _ (c : Command) (commands : drop at cs ≡ c ∷ drop (at + 1) cs) (reply : Reply)
      (next : drop at replies ≡ reply ∷ drop (at + 1) replies) where
    stopped-one : take (suc at) cs ≡ take at cs ++ c ∷ []
    stopped-one = take-next cs at c (drop (at + 1) cs) commands

    -- the next has not
    pub stop-ends : at ≤ length cs → length cs ≡ length replies
        → ((count : ℕ) → IsStopped lane c (with_count reply count) left → ⊥)
        → AreCut (HasStopped lane) cs replies es counts
    stop-ends within many bad =
        cut-ends replies es at counts left r.so (HasStopped lane) cs within many has-stopped
        (λ other count there is longer.
        let same : other ≡ reply =
        same-item other reply (sym is ∙ get-of replies at reply (drop (at + 1) replies) next) in
        let all : Stops lane (take at cs ++ c ∷ []) (r.so.first ++ with_count other count ∷ []) es =
        subst (λ (bs : List Command). Stops lane bs (r.so.first ++ with_count other count ∷ []) es) stopped-one
        longer.stops in
        let one : IsStopped lane c (with_count other count) (drop (noted r.so.first) es) =
        (stop-more lane (take at cs) r.so.first es c (with_count other count) r.stops).0 all in
        bad count
        (subst₂ (λ (said : Reply) (xs : ToldNotes). IsStopped lane c (with_count said count) xs) same (sym r.so.rest)
        one))

    -- the next has, with so many notes
    module _ (count : ℕ) (fits : count ≤ length left) (counts' : List ℕ) (pushed : counts' ≡ counts ++ count ∷ [])
        (left' : ToldNotes) (behind : left' ≡ drop count left)
        (one : IsStopped lane c (with_count reply count) left) where
      pub stops-further : StopsSoFar lane cs replies es (at + 1) counts' left'
      unfolding so-further
      stops-further =
          let further : suc at ≡ at + 1 = omega arith in
          let more : Stops lane (take at cs ++ c ∷ []) (r.so.first ++ with_count reply count ∷ []) es =
          (stop-more lane (take at cs) r.so.first es c (with_count reply count) r.stops).1
          (subst (λ (xs : ToldNotes). IsStopped lane c (with_count reply count) xs) r.so.rest one) in
          record {
            so = so-further replies es at counts left r.so reply next count fits counts' pushed left' behind;
            stops =
                subst (λ (bs : List Command). Stops lane bs (r.so.first ++ with_count reply count ∷ []) es)
                (sym stopped-one ∙ ap (λ (k : ℕ). take k cs) further) more;
          }
