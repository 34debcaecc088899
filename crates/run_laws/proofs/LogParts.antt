-- A log is what the commands note, and then the closing of the caches.
use Rattle.std.proofs.Common.{◌≡◌, ℕ, zero, suc, ◌≤◌, List, [], ◌∷◌, ◌++◌, refl, sym, ap, subst, arith, Bool, true, false, Some, ◌∙◌, eqb-true, eq-eqb, append-nil}
use Rattle.std.specs.Prelude.{◌≢◌, ◌<◌, ◌==◌}
use Rattle.size_classes.specs.Sizes.{below}
use Rattle.pool_law.specs.declared.note.Object.{Object}
use Rattle.pool_law.specs.Limits.{cached_classes}
use Rattle.pool_law.specs.Dids as says
use Rattle.pool_law.specs.Readers.{ToldNotes}
use Rattle.pool_law.specs.LaneStates.{new_lane, log_at}
use Rattle.pool_law.specs.LaneLaw.{sweep_period, behind, note_counts, closes, IsLaneLog}
use Rattle.pool_law.specs.declared.command.Command.{Command}
use Rattle.pool_law.specs.declared.run.Shape.{Shape}
use Rattle.pool_law.specs.declared.run.Answered.{Answered}
use Rattle.arena_laws.specs.Slots.{EachOf}
use Rattle.arena_laws.proofs.GiveSteps.{IsOne}
use Rattle.arena_laws.proofs.ReturnLaw.{IsOne-front, IsOne-last}
use Rattle.run_laws.proofs.Numbered.{at_object, plain}
use Rattle.run_laws.proofs.Acts.{sum_notes, notes-append, less-acts, all_notes, Acts}
use Rattle.run_laws.proofs.CommandActs.{answer_of-acts, not_carried_out-acts, Sends}
use Rattle.run_laws.proofs.Keeping.{TurnKeeps, keeps-turn, log-keeps, closes-is}
use Rattle.run_laws.proofs.LaneActs.{commands-act, AnyNote, OfCommands, all-send, any-drain}
use Rattle.pool_law.proofs.PatternLemmas.{same_object-refl}
use Rattle.run_laws.proofs.Draining.{grant, shed_one, close_one, Even, even-chain, trim-grants, close-grants, drain-even, closing-closes, grants-shed}

-- what commands note before a sweep grants nothing and sheds nothing
pub acts-even : (o : Object) (es rest : ToldNotes) → Acts OfCommands es rest → Even o es rest
acts-even o es rest a =
    let front : Acts OfCommands (all_notes a.acts) [] =
    record { acts = a.acts; are = sym (append-nil (all_notes a.acts)) } in
    let less : sum_notes (at_object o (plain grant)) (all_notes a.acts) ≤ sum_notes (at_object o (plain shed_one))
    (all_notes a.acts) = less-acts OfCommands (at_object o (plain grant)) (at_object o (plain shed_one))
    (grants-shed o).0 (all_notes a.acts) [] front (omega arith) in
    let more : sum_notes (at_object o (plain shed_one)) (all_notes a.acts) ≤ sum_notes (at_object o (plain grant))
    (all_notes a.acts) = less-acts OfCommands (at_object o (plain shed_one)) (at_object o (plain grant))
    (grants-shed o).1 (all_notes a.acts) [] front (omega arith) in
    omega (
      arith,
      less,
      more,
      ap (sum_notes (at_object o (plain grant))) a.are,
      ap (sum_notes (at_object o (plain shed_one))) a.are,
      notes-append (at_object o (plain grant)) (all_notes a.acts) rest,
      notes-append (at_object o (plain shed_one)) (all_notes a.acts) rest,
    )

pub turns-even : (o : Object) (shape : Shape) (lane : ℕ) (cs : List Command) → EachOf (Sends OfCommands) cs
    → EachOf (TurnKeeps (even-chain o) shape lane) cs
turns-even o shape lane [] near = tt
turns-even o shape lane (c ∷ cs) near = (
  (
    λ s. keeps-turn (even-chain o) sweep_period shape lane s c
        (λ log p is. acts-even o log.left p.1.left (answer_of-acts OfCommands shape lane s c near.0 log p is))
        (drain-even o lane says.trim trim-grants (below cached_classes)),
    λ log p is. acts-even o log.left p.1.left
        (not_carried_out-acts OfCommands lane c near.0 log p is),
  ),
  turns-even o shape lane cs near.1,
)

-- a log is what the commands note, with their sweeps, and then the closing of the caches
pub record Parts (lane : ℕ) (es : ToldNotes) : Type 0 where
  pub last : ToldNotes
  pub first : Acts AnyNote es last
  pub even : (o : Object) → Even o es last
  pub closed : closes lane last ≡ Some tt

pub log-parts : (shape : Shape) (lane : ℕ) (commands : List Command) (replies : List Answered) (es : ToldNotes)
    → IsLaneLog shape lane commands replies es → Parts lane es
log-parts shape lane commands replies es log =
    record {
      last = behind (note_counts replies) es;
      first = commands-act AnyNote any-drain shape lane commands replies es (all-send commands).0 log;
      even =
          λ o. log-keeps (even-chain o) shape lane commands replies es
          (turns-even o shape lane commands (all-send commands).1) log;
      closed = log.closed;
    }

-- in a whole log: what may be shed at a cache is shed
pub log-even : (o : Object) (lane : ℕ) (es : ToldNotes) → Parts lane es
    → sum_notes (at_object o (plain grant)) es ≡ sum_notes (at_object o (plain shed_one)) es
log-even o lane es p =
    let x = closes-is lane p.last p.closed in
    let e = drain-even o lane says.close close-grants (below cached_classes) (log_at new_lane p.last) x.0 x.1 in
    let g : sum_notes (at_object o (plain grant)) x.0.1.left ≡ 0 = ap (sum_notes (at_object o (plain grant))) x.2 in
    let s : sum_notes (at_object o (plain shed_one)) x.0.1.left
    ≡ 0 = ap (sum_notes (at_object o (plain shed_one))) x.2 in
    omega (arith, e, g, s, p.even o)

pub below-has : (n class : ℕ) → class < n → IsOne class (below n)
below-has zero class h = absurd (omega arith)
below-has (suc n) class h = go (class == n) refl (λ less. below-has n class less)
  where
    go : (b : Bool) → (class == n) ≡ b → (class < n → IsOne class (below n)) → IsOne class (below n ++ n ∷ [])
    go true same again = subst (λ c. IsOne c (below n ++ n ∷ [])) (sym (eqb-true class n same)) (IsOne-last n (below n))
    go false other again =
        IsOne-front class (below n) (n ∷ [])
        (again (less class n h (λ e. let both : true ≡ false = sym (eq-eqb class n e) ∙ other in cc both)))
      where
        less : (a b : ℕ) → a < suc b → a ≢ b → a < b
        less a b h ne = grind arith

pub log-closes : (lane class : ℕ) (es : ToldNotes) → Parts lane es → class < cached_classes
    → 1 ≤ sum_notes (at_object (Object.Cache lane class) (plain close_one)) es
log-closes lane class es p low =
    let x = closes-is lane p.last p.closed in
    omega (
      arith,
      ap (sum_notes (at_object (Object.Cache lane class) (plain close_one))) p.first.are,
      notes-append (at_object (Object.Cache lane class) (plain close_one)) (all_notes p.first.acts) p.last,
      closing-closes lane class (same_object-refl (Object.Cache lane class)) (below cached_classes)
          (log_at new_lane p.last) x.0 x.1 (below-has cached_classes class low),
    )
