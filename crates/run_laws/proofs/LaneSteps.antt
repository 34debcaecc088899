-- A lane's step at one of its commands, and the sweep behind it.
use Rattle.std.proofs.Common.{inl, inr, ◌≡◌, ℕ, zero, suc, ◌+◌, ◌≤◌, List, [], ◌∷◌, take, drop, refl, sym, ap, subst, arith, Bool, true, false, Some, ◌∙◌, leb-true, le-leb}
use Rattle.std.specs.Prelude.{◌⊎◌, ◌<◌, option_and_then, nat_le, if◌then◌else◌, Option, slice_get}
use Rattle.pool_law.specs.declared.command.Command.{Command}
use Rattle.pool_law.specs.declared.note.Object.{Object}
use Rattle.pool_law.specs.declared.note.Did.{Did}
use Rattle.pool_law.specs.declared.run.Shape.{Shape}
use Rattle.pool_law.specs.declared.run.Reply.{Reply}
use Rattle.pool_law.specs.Logs.{ToldNote}
use Rattle.size_classes.specs.Sizes.{below}
use Rattle.pool_law.specs.Limits.{cached_classes}
use Rattle.pool_law.specs.Dids as says
use Rattle.pool_law.specs.Readers.{ToldNotes, Log, ◌>>◌, give, nothing, done_at, note, asks_anew, read_all}
use Rattle.pool_law.specs.LaneStates.{LaneState, new_lane, log_at, state_at}
use Rattle.pool_law.specs.Patterns.{give_back, sheds, drain, sweep, sweep_if_due}
use Rattle.pool_law.specs.Lanes.{Answer, not_carried_out, answer_of, turn}
use Rattle.pool_law.specs.LaneLaw.{lane_step, lane_run, stopped_run, pieces}
use Rattle.run_laws.proofs.Sums.{below-or}
use Rattle.run_laws.proofs.Placed.{take-get}
use Rattle.run_laws.proofs.Readings.{bind-some, read_all-is}
use Rattle.run_laws.proofs.Draining.{drain-is}
use Rattle.run_laws.proofs.PartsRead.{next-asked}

pub note-asked : {A : Type 0} (o : Object) (says_it : Did → Option A) (log : Log) (p : A × Log)
    → note o says_it log ≡ Some p → p.1.asked ≡ log.asked
note-asked o says_it log p is = next-asked (λ e. option_and_then says_it (done_at o e.note)) log p is

pub nothing-asked : (log : Log) (p : Unit {0} × Log) → nothing log ≡ Some p → p.1.asked ≡ log.asked
nothing-asked log p is = let same : ◌≡◌ {A = Unit {0} × Log} (tt, log) p = cc is in ap (λ q. q.1.asked) (sym same)

pub sheds-asked : (lane class n : ℕ) (log : Log) (p : Unit {0} × Log) → sheds lane class n log ≡ Some p
    → p.1.asked ≡ log.asked
sheds-asked lane class zero log p is = nothing-asked log p is
sheds-asked lane class (suc n) log p is =
    let x = bind-some (note (Object.Cache lane class) says.shed log) _ p is in
    let g = bind-some (give_back x.0.0 x.0.1) _ p x.2 in
    sheds-asked lane class n g.0.1 p g.2 ∙ note-asked (Object.Arena x.0.0.place.arena) (says.give x.0.0) x.0.1 g.0 g.1
    ∙ note-asked (Object.Cache lane class) says.shed log x.0 x.1

pub drain-asked : (lane : ℕ) (kind : Did → Option ℕ) (classes : List ℕ) (log : Log) (p : Unit {0} × Log)
    → drain lane kind classes log ≡ Some p → p.1.asked ≡ log.asked
drain-asked lane kind [] log p is = nothing-asked log p is
drain-asked lane kind (class ∷ classes) log p is =
    let d = drain-is lane class kind classes log p is in
    drain-asked lane kind classes d.shed.1 p d.others ∙ sheds-asked lane class d.quota.0 d.quota.1 d.shed d.sheds_it
    ∙ note-asked (Object.Cache lane class) kind log d.quota d.noted

-- behind a command fewer allocations asked a cache than make a sweep due
pub sweep-asked : (period lane : ℕ) (log : Log) (p : Unit {0} × Log) → 0 < period
    → sweep_if_due period lane log ≡ Some p → p.1.asked < period
sweep-asked period lane log p some is = go (nat_le period log.asked) refl is
  where
    go : (test : Bool) → nat_le period log.asked ≡ test
        → (if test then (asks_anew >> sweep lane) else nothing) log ≡ Some p → p.1.asked < period
    go true due e =
        let kept : p.1.asked ≡ 0 = drain-asked lane says.trim (below cached_classes) (record log { asked = 0 }) p e in
        omega (arith, kept, some)
    go false due e =
        let same : p.1.asked ≡ log.asked = nothing-asked log p e in
        let low : log.asked < period = under (below-or log.asked period) in
        omega (arith, same, low)
      where
        under : (log.asked < period) ⊎ (period ≤ log.asked) → log.asked < period
        under (inl low) = low
        under (inr high) = let both : true ≡ false = sym (le-leb period log.asked high) ∙ due in absurd (cc both)

-- where no sweep is due, nothing is read of one
pub no-sweep : (period lane : ℕ) (log : Log) (p : Unit {0} × Log) → log.asked < period
    → sweep_if_due period lane log ≡ Some p → p.1 ≡ log
no-sweep period lane log p low is = go (nat_le period log.asked) refl is
  where
    go : (test : Bool) → nat_le period log.asked ≡ test
        → (if test then (asks_anew >> sweep lane) else nothing) log ≡ Some p → p.1 ≡ log
    go true due e = absurd (omega (arith, low, leb-true period log.asked due))
    go false due e = let same : ◌≡◌ {A = Unit {0} × Log} (tt, log) p = cc e in ap (λ q. q.1) (sym same)

-- a lane's step: its answer, and the sweep behind it
pub record Steps (period : ℕ) (shape : Shape) (lane : ℕ) (s : LaneState) (c : Command) (es : ToldNotes)
    (p : Reply × LaneState) : Type 0 where
  pub answered : Answer × Log
  pub by : answer_of shape lane s c (log_at s es) ≡ Some answered
  pub swept : Unit {0} × Log
  pub sweeps : sweep_if_due period lane answered.1 ≡ Some swept
  pub ended : swept.1.left ≡ []
  pub reply : answered.0.reply ≡ p.0
  pub asked : p.1.asked ≡ swept.1.asked

pub step-is : (period : ℕ) (shape : Shape) (lane : ℕ) (s : LaneState) (c : Command) (es : ToldNotes)
    (p : Reply × LaneState) → lane_step period shape lane s c es ≡ Some p → Steps period shape lane s c es p
step-is period shape lane s c es p is =
    let f = bind-some (read_all (turn period shape lane s c) (log_at s es))
    (λ got. Some (got.0.reply, state_at got.0.names got.1)) p is in
    let r = read_all-is (turn period shape lane s c) (log_at s es) f.0 f.1 in
    let a = bind-some (answer_of shape lane s c (log_at s es)) (λ got. (sweep_if_due period lane >> give got.0) got.1)
    f.0 r.0 in
    let w = bind-some (sweep_if_due period lane a.0.1) (λ got. give a.0.0 got.1) f.0 a.2 in
    let same : ◌≡◌ {A = Answer × Log} (a.0.0, w.0.1) f.0 = cc w.2 in
    let said : ◌≡◌ {A = Reply × LaneState} (f.0.0.reply, state_at f.0.0.names f.0.1) p = cc f.2 in
    record {
      answered = a.0;
      by = a.1;
      swept = w.0;
      sweeps = w.1;
      ended = ap (λ q. q.1.left) same
          ∙ r.1;
      reply = ap (λ q. q.0.reply) same ∙ ap (λ q. q.0) said;
      asked = ap (λ q. q.1.asked) (sym said)
          ∙ ap (λ q. q.1.asked) (sym same);
    }

-- a lane's step at one of its commands
pub record StepAt (period : ℕ) (shape : Shape) (lane : ℕ) (s : LaneState) (cs : List Command) (groups : List ToldNotes)
    (replies : List Reply) (j : ℕ) (c : Command) : Type 0 where
  pub state : LaneState
  pub low : state.asked < period
  pub before : lane_run period shape lane s (take j cs) (take j groups) ≡ Some (take j replies, state)
  pub group : ToldNotes
  pub there : slice_get groups j ≡ Some group
  pub answered : Reply × LaneState
  pub reply : slice_get replies j ≡ Some answered.0
  pub step : lane_step period shape lane state c group ≡ Some answered

pub lane_run-at : (period : ℕ) → 0 < period → (shape : Shape) (lane : ℕ) (s : LaneState) → s.asked < period
    → (cs : List Command) (groups : List ToldNotes) (p : List Reply × LaneState) (j : ℕ) (c : Command)
    → lane_run period shape lane s cs groups ≡ Some p → slice_get cs j ≡ Some c
    → StepAt period shape lane s cs groups p.0 j c
lane_run-at period some shape lane s low [] groups p j c is at = absurd (cc at)
lane_run-at period some shape lane s low (x ∷ cs) [] p j c is at = absurd (cc is)
lane_run-at period some shape lane s low (x ∷ cs) (g ∷ groups) p j c is at =
    let f = bind-some (lane_step period shape lane s x g)
    (λ y. option_and_then (λ z. Some (y.0 ∷ z.0, z.1)) (lane_run period shape lane y.1 cs groups)) p is in
    let r = bind-some (lane_run period shape lane f.0.1 cs groups) (λ z. Some (f.0.0 ∷ z.0, z.1)) p f.2 in
    let same : ◌≡◌ {A = List Reply × LaneState} (f.0.0 ∷ r.0.0, r.0.1) p = cc r.2 in
    let w = step-is period shape lane s x g f.0 f.1 in
    let kept : f.0.1.asked < period =
    (let less : w.swept.1.asked < period = sweep-asked period lane w.answered.1 w.swept some w.sweeps in
    omega (arith, less, w.asked)) in
    subst (λ q. StepAt period shape lane s (x ∷ cs) (g ∷ groups) q.0 j c) same
    (go j at f.0 f.1 r.0 (λ i there. lane_run-at period some shape lane f.0.1 kept cs groups r.0 i c r.1 there))
  where
    go : (j : ℕ) → slice_get (x ∷ cs) j ≡ Some c → (y : Reply × LaneState) → lane_step period shape lane s x g ≡ Some y
        → (z : List Reply × LaneState) →
        ((i : ℕ) → slice_get cs i ≡ Some c → StepAt period shape lane y.1 cs groups z.0 i c)
        → StepAt period shape lane s (x ∷ cs) (g ∷ groups) (y.0 ∷ z.0) j c
    go zero at y first z later =
        let same : x ≡ c = cc at in
        record {
          state = s;
          low = low;
          before = refl;
          group = g;
          there = refl;
          answered = y;
          reply = refl;
          step =
              subst (λ d. lane_step period shape lane s d g ≡ Some y) same first;
        }
    go (suc i) at y first z later =
        let r : StepAt period shape lane y.1 cs groups z.0 i c = later i at in
        record {
          state = r.state;
          low = r.low;
          before =
              ap (λ o. option_and_then (λ w. option_and_then (λ v. Some (w.0 ∷ v.0, v.1))
              (lane_run period shape lane w.1 (take i cs) (take i groups))) o) first
              ∙ ap (λ o. option_and_then (λ v. Some (y.0 ∷ v.0, v.1)) o) r.before;
          group = r.group;
          there = r.there;
          answered = r.answered;
          reply = r.reply;
          step = r.step;
        }

-- what stands in a piece of a list stands in the list
pub piece-there : (ns : List ℕ) (es group : ToldNotes) (j m : ℕ) (e : ToldNote) → slice_get (pieces ns es) j ≡ Some
    group
    → slice_get group m ≡ Some e → (i : ℕ) × (slice_get es i ≡ Some e)
piece-there [] es group j m e at is = absurd (cc at)
piece-there (n ∷ ns) es group zero m e at is =
    let same : take n es ≡ group = cc at in (m, (take-get n es m e (ap (λ xs. slice_get xs m) same ∙ is)).0)
piece-there (n ∷ ns) es group (suc j) m e at is =
    let r = piece-there ns (drop n es) group j m e at is in behind n es r.0 r.1
  where
    behind : (n : ℕ) (es : ToldNotes) (i : ℕ) → slice_get (drop n es) i ≡ Some e → (k : ℕ) × (slice_get es k ≡ Some e)
    behind zero es i is = (i, is)
    behind (suc n) [] i is = absurd (cc is)
    behind (suc n) (x ∷ es) i is = let r = behind n es i is in (suc r.0, r.1)

-- the front of a list
pub take-take : {X : Type 0} (j n : ℕ) (xs : List X) → j ≤ n → take j (take n xs) ≡ take j xs
take-take zero n xs h = refl
take-take (suc j) zero xs h = absurd (omega (arith, h))
take-take (suc j) (suc n) [] h = refl
take-take (suc j) (suc n) (x ∷ xs) h = ap (λ t. x ∷ t) (take-take j n xs (omega (arith, h)))

pub get-in_front : {X : Type 0} (j n : ℕ) (xs : List X) → j < n → slice_get (take n xs) j ≡ slice_get xs j
get-in_front j zero xs h = absurd (omega (arith, h))
get-in_front j (suc n) [] h = refl
get-in_front zero (suc n) (x ∷ xs) h = refl
get-in_front (suc j) (suc n) (x ∷ xs) h = get-in_front j n xs (omega (arith, h))

pub get-dropped : {X : Type 0} (n m k : ℕ) (xs : List X) → k ≡ n + m → slice_get (drop n xs) m ≡ slice_get xs k
get-dropped zero m k xs e = let same : m ≡ k = omega (arith, e) in ap (slice_get xs) same
get-dropped (suc n) m k [] e = refl
get-dropped (suc n) m zero (x ∷ xs) e = absurd (omega (arith, e))
get-dropped (suc n) m (suc k) (x ∷ xs) e = get-dropped n m k xs (omega (arith, e))

-- a stopped lane answers nothing else
pub stopped-says : (lane : ℕ) (cs : List Command) (groups : List ToldNotes) (replies : List Reply) (i : ℕ) (r : Reply)
    → stopped_run lane cs groups ≡ Some replies → slice_get replies i ≡ Some r → r ≡ Reply.Stopped
stopped-says lane [] [] replies i r is at =
    let same : [] ≡ replies = cc is in absurd (cc (ap (λ xs. slice_get xs i) same ∙ at))
stopped-says lane [] (g ∷ groups) replies i r is at = absurd (cc is)
stopped-says lane (x ∷ cs) [] replies i r is at = absurd (cc is)
stopped-says lane (x ∷ cs) (g ∷ groups) replies i r is at =
    let f = bind-some (read_all (not_carried_out lane x) (log_at new_lane g))
    (λ _. option_and_then (λ rs. Some (Reply.Stopped ∷ rs)) (stopped_run lane cs groups)) replies is in
    let q = bind-some (stopped_run lane cs groups) (λ rs. Some (Reply.Stopped ∷ rs)) replies f.2 in
    let same : Reply.Stopped ∷ q.0 ≡ replies = cc q.2 in
    go i q.0 (ap (λ xs. slice_get xs i) same ∙ at) (λ k there. stopped-says lane cs groups q.0 k r q.1 there)
  where
    go : (i : ℕ) (rs : List Reply) → slice_get (Reply.Stopped ∷ rs) i ≡ Some r
        → ((k : ℕ) → slice_get rs k ≡ Some r → r ≡ Reply.Stopped) → r ≡ Reply.Stopped
    go zero rs at later = sym (cc at)
    go (suc k) rs at later = later k at
