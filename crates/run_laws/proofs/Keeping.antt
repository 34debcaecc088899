-- What goes from what was left before a reading to what is left behind it, up to a whole log.
use Rattle.std.proofs.Common.{⊎_elim, ◌≡◌, ℕ, [], ◌++◌, subst, Bool, true, false, Some, None, zero, suc, List, ◌∷◌, take, drop}
use Rattle.std.specs.Prelude.{if◌then◌else◌, Option, nat_le, option_and_then}
use Rattle.pool_law.specs.declared.id.RootId.{RootId}
use Rattle.pool_law.specs.Counts.{count_of}
use Rattle.pool_law.specs.Readers.{ToldNotes, Log, Reader, ◌>>=◌, ◌>>◌, ◌or◌, give, given, count, asks, asks_anew, nothing, read_all}
use Rattle.run_laws.proofs.Readings.{bind-some, or-some, map-some, take-drop, read_all-is}
use Rattle.size_classes.specs.Sizes.{below}
use Rattle.pool_law.specs.declared.command.Command.{Command}
use Rattle.pool_law.specs.declared.run.Shape.{Shape}
use Rattle.pool_law.specs.declared.run.Reply.{Reply}
use Rattle.pool_law.specs.declared.run.Answered.{Answered}
use Rattle.pool_law.specs.Limits.{cached_classes}
use Rattle.pool_law.specs.Dids as says
use Rattle.pool_law.specs.LaneStates.{LaneState, new_lane, log_at, state_at}
use Rattle.pool_law.specs.Patterns.{drain, sweep, sweep_if_due}
use Rattle.pool_law.specs.Lanes.{not_carried_out, answer_of, turn}
use Rattle.pool_law.specs.LaneLaw.{sweep_period, lane_step, lane_run, before_stop, stopped_run, pieces, behind, note_counts, replies_in, closes, IsLaneLog}
use Rattle.arena_laws.specs.Slots.{EachOf}

pub record Chains (R : ToldNotes → ToldNotes → Type 0) : Type 0 where
  pub none : (es : ToldNotes) → R es es
  pub more : (es mid rest : ToldNotes) → R es mid → R mid rest → R es rest
  pub front : (es rest : ToldNotes) → R es [] → R (es ++ rest) rest

-- a reading keeps to R
abbrev pub Keeps : {A : Type 0} → (ToldNotes → ToldNotes → Type 0) → Reader A → Type 0
Keeps {A} R r = (log : Log) (p : A × Log) → r log ≡ Some p → R log.left p.1.left

module _ {R : ToldNotes → ToldNotes → Type 0} (c : Chains R) where
  pub keeps-give : {A : Type 0} (a : A) → Keeps R (give a)
  keeps-give {A} a log p is =
      let same : ◌≡◌ {A = A × Log} (a, log) p = cc is in subst (λ q. R log.left q.1.left) same (c.none log.left)

  pub keeps-given : {A : Type 0} (o : Option A) → Keeps R (given o)
  keeps-given {A} None log p is = absurd (cc is)
  keeps-given {A} (Some a) log p is = keeps-give a log p is

  pub keeps-bind : {A B : Type 0} (r : Reader A) (f : A → Reader B) → Keeps R r → ((a : A) → Keeps R (f a))
      → Keeps R (r >>= f)
  keeps-bind r f h k log p is =
      let x = bind-some (r log) (λ got. f got.0 got.1) p is in
      c.more log.left x.0.1.left p.1.left (h log x.0 x.1) (k x.0.0 x.0.1 p x.2)

  pub keeps-then : {A B : Type 0} (r : Reader A) (q : Reader B) → Keeps R r → Keeps R q → Keeps R (r >> q)
  keeps-then r q h k = keeps-bind r (λ _. q) h (λ _. k)

  pub keeps-or : {A : Type 0} (r q : Reader A) → Keeps R r → Keeps R q → Keeps R (r or q)
  keeps-or r q h k log p is = ⊎_elim (λ e. h log p e) (λ e. k log p e) (or-some (r log) (q log) p is)

  pub keeps-if : {A : Type 0} (test : Bool) (r q : Reader A) → Keeps R r → Keeps R q → Keeps R (if test then r else q)
  keeps-if true r q h k = h
  keeps-if false r q h k = k

  pub keeps-count : (root : RootId) → Keeps R (count root)
  keeps-count root log p is =
      let same : ◌≡◌ {A = ℕ × Log} (count_of root log.seen, log) p = cc is in
      subst (λ q. R log.left q.1.left) same (c.none log.left)

  pub keeps-asks : Keeps R asks
  keeps-asks log p is =
      let same : ◌≡◌ {A = ℕ × Log} (log.asked, log) p = cc is in subst (λ q. R log.left q.1.left) same (c.none log.left)

  pub keeps-asks_anew : Keeps R asks_anew
  keeps-asks_anew log p is =
      let same : ◌≡◌ {A = Unit {0} × Log} (tt, record log { asked = 0 }) p = cc is in
      subst (λ q. R log.left q.1.left) same (c.none log.left)

-- ---- A whole log.

module _ {R : ToldNotes → ToldNotes → Type 0} (c : Chains R) where
  -- a sweep that is due, or none
  pub keeps-sweep_if_due : (period lane : ℕ) → Keeps R (sweep lane) → Keeps R (sweep_if_due period lane)
  keeps-sweep_if_due period lane h =
      keeps-bind c asks (λ n. if nat_le period n then (asks_anew >> sweep lane) else nothing) (keeps-asks c)
      (λ n. keeps-if c (nat_le period n) (asks_anew >> sweep lane) nothing
      (keeps-then c asks_anew (sweep lane) (keeps-asks_anew c) h) (keeps-give c tt))

  pub keeps-turn : (period : ℕ) (shape : Shape) (lane : ℕ) (s : LaneState) (command : Command)
      → Keeps R (answer_of shape lane s command) → Keeps R (sweep lane) → Keeps R (turn period shape lane s command)
  keeps-turn period shape lane s command h k =
      keeps-bind c (answer_of shape lane s command) (λ a. sweep_if_due period lane >> give a) h
      (λ a. keeps-then c (sweep_if_due period lane) (give a) (keeps-sweep_if_due period lane k) (keeps-give c a))

  -- of a command's own notes
  pub step-keeps : (period : ℕ) (shape : Shape) (lane : ℕ) (s : LaneState) (command : Command) (es : ToldNotes)
      (p : Reply × LaneState) → Keeps R (turn period shape lane s command)
      → lane_step period shape lane s command es ≡ Some p → R es []
  step-keeps period shape lane s command es p h is =
      let f = bind-some (read_all (turn period shape lane s command) (log_at s es))
      (λ got. Some (got.0.reply, state_at got.0.names got.1)) p is in
      let a = read_all-is (turn period shape lane s command) (log_at s es) f.0 f.1 in
      subst (R es) a.1 (h (log_at s es) f.0 a.0)

  -- of what each command notes
  abbrev pub TurnKeeps : Shape → ℕ → Command → Type 0
  TurnKeeps shape lane command =
      ((s : LaneState) → Keeps R (turn sweep_period shape lane s command)) × Keeps R (not_carried_out lane command)

  pub run-keeps : (shape : Shape) (lane : ℕ) (s : LaneState) (cs : List Command) (groups : List ToldNotes)
      (p : List Reply × LaneState) → EachOf (TurnKeeps shape lane) cs
      → lane_run sweep_period shape lane s cs groups ≡ Some p → EachOf (λ es. R es []) groups
  run-keeps shape lane s [] [] p h is = tt
  run-keeps shape lane s [] (g ∷ groups) p h is = absurd (cc is)
  run-keeps shape lane s (x ∷ cs) [] p h is = absurd (cc is)
  run-keeps shape lane s (x ∷ cs) (g ∷ groups) p h is =
      let f = bind-some (lane_step sweep_period shape lane s x g)
      (λ y. option_and_then (λ z. Some (y.0 ∷ z.0, z.1)) (lane_run sweep_period shape lane y.1 cs groups)) p is in
      let r = bind-some (lane_run sweep_period shape lane f.0.1 cs groups) (λ z. Some (f.0.0 ∷ z.0, z.1)) p f.2 in
      (step-keeps sweep_period shape lane s x g f.0 (h.0.0 s) f.1, run-keeps shape lane f.0.1 cs groups r.0 h.1 r.1)

  pub stopped-keeps : (shape : Shape) (lane : ℕ) (cs : List Command) (groups : List ToldNotes) (p : List Reply)
      → EachOf (TurnKeeps shape lane) cs → stopped_run lane cs groups ≡ Some p → EachOf (λ es. R es []) groups
  stopped-keeps shape lane [] [] p h is = tt
  stopped-keeps shape lane [] (g ∷ groups) p h is = absurd (cc is)
  stopped-keeps shape lane (x ∷ cs) [] p h is = absurd (cc is)
  stopped-keeps shape lane (x ∷ cs) (g ∷ groups) p h is =
      let f = bind-some (read_all (not_carried_out lane x) (log_at new_lane g))
      (λ _. option_and_then (λ replies. Some (Reply.Stopped ∷ replies)) (stopped_run lane cs groups)) p is in
      let r = bind-some (stopped_run lane cs groups) (λ replies. Some (Reply.Stopped ∷ replies)) p f.2 in
      let a = read_all-is (not_carried_out lane x) (log_at new_lane g) f.0 f.1 in
      (subst (R g) a.1 (h.0.1 (log_at new_lane g) f.0 a.0), stopped-keeps shape lane cs groups r.0 h.1 r.1)

  pub pieces-keep : (ns : List ℕ) (es : ToldNotes) → EachOf (λ es. R es []) (pieces ns es) → R es (behind ns es)
  pieces-keep [] es h = c.none es
  pieces-keep (n ∷ ns) es h =
      let one : R (take n es ++ drop n es) (drop n es) = c.front (take n es) (drop n es) h.0 in
      c.more es (drop n es) (behind ns (drop n es)) (subst (λ xs. R xs (drop n es)) (take-drop n es) one)
      (pieces-keep ns (drop n es) h.1)

  -- of all that a lane notes before it closes its caches
  pub log-keeps : (shape : Shape) (lane : ℕ) (commands : List Command) (replies : List Answered) (es : ToldNotes)
      → EachOf (TurnKeeps shape lane) commands → IsLaneLog shape lane commands replies es
      → R es (behind (note_counts replies) es)
  log-keeps shape lane commands replies es h log =
      pieces-keep (note_counts replies) es
      (each-both (λ xs. R xs []) (before_stop (replies_in replies)) (pieces (note_counts replies) es)
      (run-keeps shape lane new_lane (take (before_stop (replies_in replies)) commands)
      (take (before_stop (replies_in replies)) (pieces (note_counts replies) es))
      (take (before_stop (replies_in replies)) (replies_in replies), log.last)
      (each-take (TurnKeeps shape lane) (before_stop (replies_in replies)) commands h) log.answered)
      (stopped-keeps shape lane (drop (before_stop (replies_in replies)) commands)
      (drop (before_stop (replies_in replies)) (pieces (note_counts replies) es))
      (drop (before_stop (replies_in replies)) (replies_in replies))
      (each-drop (TurnKeeps shape lane) (before_stop (replies_in replies)) commands h) log.stopped))
    where
      each-take : {X : Type 0} (Q : X → Type 0) (n : ℕ) (xs : List X) → EachOf Q xs → EachOf Q (take n xs)
      each-take Q zero xs h = tt
      each-take Q (suc n) [] h = tt
      each-take Q (suc n) (x ∷ xs) h = (h.0, each-take Q n xs h.1)

      each-drop : {X : Type 0} (Q : X → Type 0) (n : ℕ) (xs : List X) → EachOf Q xs → EachOf Q (drop n xs)
      each-drop Q zero xs h = h
      each-drop Q (suc n) [] h = tt
      each-drop Q (suc n) (x ∷ xs) h = each-drop Q n xs h.1

      each-both : {X : Type 0} (Q : X → Type 0) (n : ℕ) (xs : List X) → EachOf Q (take n xs) → EachOf Q (drop n xs)
          → EachOf Q xs
      each-both Q zero xs a b = b
      each-both Q (suc n) [] a b = tt
      each-both Q (suc n) (x ∷ xs) a b = (a.0, each-both Q n xs a.1 b)

-- the closing of a lane's caches reads all that is left
pub closes-is : (lane : ℕ) (es : ToldNotes) → closes lane es ≡ Some tt
    → (p : Unit {0} × Log) × (drain lane says.close (below cached_classes) (log_at new_lane es) ≡ Some p)
    × (p.1.left ≡ [])
closes-is lane es is =
    let x = map-some (read_all (drain lane says.close (below cached_classes)) (log_at new_lane es)) (λ _. tt) tt is in
    let a = read_all-is (drain lane says.close (below cached_classes)) (log_at new_lane es) x.0 x.1 in
    (x.0, a.0, a.1)
