-- Where the notes of the logs stand in the text, which has them lane by lane.
use Rattle.std.proofs.Common.{⊎_elim, ◌≡◌, ℕ, zero, suc, ◌+◌, ◌-◌, ◌<◌, ◌≤◌, List, [], ◌∷◌, ◌++◌, length, Some, sym, ap, arith, ◌∙◌}
use Rattle.std.specs.Prelude.{slice_get}
use Rattle.std.proofs.lemmas.List.{length-map}
use Rattle.std.proofs.lemmas.Option.{same_Some}
use Rattle.pool_law.specs.declared.note.Note.{Note}
use Rattle.pool_law.specs.Logs.{Logs, of_lane}
use Rattle.pool_law.specs.Lives.{StandsAt}
use Rattle.pool_law.proofs.HistoryLemmas.{append-assoc}
use Rattle.pool_law.proofs.ListLemmas.{get-behind, get-front, get-further, get-map, get-split, item-at, map-get, slice_get-below}
use Rattle.run_text.specs.Lines.{AreTold, IsTold, Line, told_from, of_lane as lane_lines}
use Rattle.run_text.specs.Told.{FitsNote}

-- how many notes stand before those of a lane
abbrev pub ahead : ℕ → Logs → ℕ
ahead zero logs = 0
ahead (suc lane) [] = 0
ahead (suc lane) (notes ∷ logs) = length notes + ahead lane logs

-- each note of a lane's log stands behind those
pub line-there : (first lane at : ℕ) (logs : Logs) (note : Note) → slice_get (of_lane logs lane) at ≡ Some note
    → slice_get (told_from first logs) (ahead lane logs + at) ≡ Some (first + lane, note)
line-there first lane at [] note e = absurd (cc e)
line-there first zero at (notes ∷ logs) note e =
    let here : 0 + at ≡ at = omega arith in
    let own : first ≡ first + 0 = omega arith in
    let line : slice_get (lane_lines first notes) at ≡ Some (first, note) = get-map (λ n. (first, n)) notes at note e in
    ap (slice_get (lane_lines first notes ++ told_from (first + 1) logs)) here
    ∙ get-front (lane_lines first notes) (told_from (first + 1) logs) at (first, note) line
    ∙ ap (λ (k : ℕ). Some (k, note)) own
line-there first (suc lane) at (notes ∷ logs) note e =
    let rest : slice_get (told_from (first + 1) logs) (ahead lane logs + at) ≡ Some (first + 1 + lane, note) =
    line-there (first + 1) lane at logs note e in
    let size : length (lane_lines first notes) ≡ length notes =
    length-map {B = Line} notes (λ (n : Note). (first, n)) in
    let index : length notes + ahead lane logs + at ≡ length (lane_lines first notes) + (ahead lane logs + at) =
    omega (arith, size) in
    let own : first + 1 + lane ≡ first + suc lane = omega arith in
    ap (slice_get (lane_lines first notes ++ told_from (first + 1) logs)) index
    ∙ get-further (lane_lines first notes) (told_from (first + 1) logs) (ahead lane logs + at)
    ∙ rest
    ∙ ap (λ (k : ℕ). Some (k, note)) own

-- and each line is of such a note
pub record Spot (first : ℕ) (logs : Logs) (index : ℕ) (line : Line) : Type 0 where
  pub lane : ℕ
  pub at : ℕ
  pub stands : slice_get (of_lane logs lane) at ≡ Some line.1
  pub own : line.0 ≡ first + lane
  pub place : index ≡ ahead lane logs + at

pub spot-of : (first index : ℕ) (logs : Logs) (line : Line) → slice_get (told_from first logs) index ≡ Some line
    → Spot first logs index line
spot-of first index [] line e = absurd (cc e)
spot-of first index (notes ∷ logs) line e =
    let size : length (lane_lines first notes) ≡ length notes =
    length-map {B = Line} notes (λ (n : Note). (first, n)) in
    ⊎_elim
    (λ here.
    let n = map-get {Y = Line} (λ (n : Note). (first, n)) notes index line here in
    let own : first ≡ line.0 = ap (λ (l : Line). l.0) n.2 in
    record {
      lane = 0;
      at = index;
      stands = n.1 ∙ ap (λ (l : Line). Some l.1) n.2;
      own = omega (arith, own);
      place = omega arith;
    })
    (λ more.
    let s : Spot (first + 1) logs more.0 line = spot-of (first + 1) more.0 logs line more.2 in
    record {
      lane = suc s.lane;
      at = s.at;
      stands = s.stands;
      own = omega (arith, s.own);
      place = omega (arith, more.1, s.place, size);
    })
    (get-split (lane_lines first notes) (told_from (first + 1) logs) index line e)

-- the same, with the lane that the line names
pub record Placed (logs : Logs) (index : ℕ) (line : Line) : Type 0 where
  pub at : ℕ
  pub stands : StandsAt logs line.0 at line.1
  pub place : index ≡ ahead line.0 logs + at

pub placed-at : (logs : Logs) (index : ℕ) (line : Line) → slice_get (told_from 0 logs) index ≡ Some line
    → Placed logs index line
placed-at logs index line e =
    let s : Spot 0 logs index line = spot-of 0 index logs line e in
    let own : line.0 ≡ s.lane = omega (arith, s.own) in
    record {
      at = s.at;
      stands = ap (λ (k : ℕ). slice_get (of_lane logs k) s.at) own ∙ s.stands;
      place = s.place ∙ ap (λ (k : ℕ). ahead k logs + s.at) (sym own);
    }

pub there-at : (logs : Logs) (lane at : ℕ) (note : Note) → StandsAt logs lane at note
    → slice_get (told_from 0 logs) (ahead lane logs + at) ≡ Some (lane, note)
there-at logs lane at note e =
    let own : 0 + lane ≡ lane = omega arith in
    line-there 0 lane at logs note e ∙ ap (λ (k : ℕ). Some (k, note)) own

-- ---- The lines before one.

module _ (logs : Logs) (front back : List Line) (line : Line) (is : told_from 0 logs ≡ front ++ line ∷ back) where
  -- where the line stands
  pub here : Placed logs (length front) line
  here =
      placed-at logs (length front) line
      (ap (λ (lines : List Line). slice_get lines (length front)) is ∙ get-behind front line back)

  -- each of those before it stands in the text, before it
  pub front-there : (j : ℕ) (l : Line) → slice_get front j ≡ Some l → slice_get (told_from 0 logs) j ≡ Some l
  front-there j l e =
      ap (λ (lines : List Line). slice_get lines j) is ∙ get-front front (line ∷ back) j l e

  pub front-below : (j : ℕ) (l : Line) → slice_get front j ≡ Some l → j < length front
  front-below j l e = slice_get-below front j l e

  -- and each that stands before it is one of them
  pub there-front : (j : ℕ) (l : Line) → slice_get (told_from 0 logs) j ≡ Some l → j < length front
      → slice_get front j ≡ Some l
  there-front j l e low =
      let x : (x : Line) × (slice_get front j ≡ Some x) = item-at front j low in
      let same : x.0 ≡ l = same_Some x.0 l (sym (front-there j x.0 x.1) ∙ e) in
      x.1 ∙ ap (λ (y : Line). Some y) same

  -- so the notes of its lane that stand before it
  pub own-front : (i : ℕ) (note : Note) → StandsAt logs line.0 i note → i < here.at
      → slice_get front (ahead line.0 logs + i) ≡ Some (line.0, note)
  own-front i note e low =
      there-front (ahead line.0 logs + i) (line.0, note) (there-at logs line.0 i note e)
      (omega (arith, low, here.place))

  -- what stands among those of its lane is a note of the lane
  pub front-own : (j : ℕ) (l : Line) → slice_get front j ≡ Some l → ahead line.0 logs ≤ j
      → StandsAt logs line.0 (j - ahead line.0 logs) l.1
  front-own j l e low =
      let below : j < length front = front-below j l e in
      let size : here.at < length (of_lane logs line.0) =
      slice_get-below (of_lane logs line.0) here.at line.1 here.stands in
      let n : (n : Note) × (slice_get (of_lane logs line.0) (j - ahead line.0 logs) ≡ Some n) =
      item-at (of_lane logs line.0) (j - ahead line.0 logs) (omega (arith, low, below, size, here.place)) in
      let index : ahead line.0 logs + (j - ahead line.0 logs) ≡ j = omega (arith, low) in
      let line_is : slice_get (told_from 0 logs) j ≡ Some (line.0, n.0) =
      ap (slice_get (told_from 0 logs)) (sym index)
      ∙ there-at logs line.0 (j - ahead line.0 logs) n.0 n.1 in
      let same : ◌≡◌ {A = Line} (line.0, n.0) l =
      same_Some {A = Line} (line.0, n.0) l (sym line_is ∙ front-there j l e) in
      n.1 ∙ ap (λ (y : Line). Some y.1) same

-- lines are told where each is, by all and those before it
pub all-told : (arenas : ℕ) (all before lines : List Line) → all ≡ before ++ lines
    → ((front back : List Line) (line : Line) → all ≡ front ++ line ∷ back
    → FitsNote line.1 × IsTold arenas all front line.0 line.1)
    → AreTold arenas all before lines
all-told arenas all before [] is each = tt
all-told arenas all before (line ∷ lines) is each =
    let one : FitsNote line.1 × IsTold arenas all before line.0 line.1 = each before lines line is in
    let rest : AreTold arenas all (before ++ line ∷ []) lines =
    all-told arenas all (before ++ line ∷ []) lines (is ∙ sym (append-assoc before (line ∷ []) lines)) each in
    (one.0, one.1, rest)
