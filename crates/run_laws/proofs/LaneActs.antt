-- What a lane notes in its sweeps, at its closing, and in its whole log are acts.
use Rattle.std.proofs.Common.{◌≡◌, ℕ, zero, suc, List, [], ◌∷◌, ap, subst, Some, ◌∙◌}
use Rattle.std.specs.Prelude.{Option}
use Rattle.size_classes.specs.Sizes.{below}
use Rattle.pool_law.specs.declared.id.RegionId.{RegionId}
use Rattle.pool_law.specs.declared.command.Command.{Command}
use Rattle.pool_law.specs.declared.note.Object.{Object}
use Rattle.pool_law.specs.declared.note.Did.{Did}
use Rattle.pool_law.specs.declared.note.Note.TheVariants.{At}
use Rattle.pool_law.specs.declared.run.Shape.{Shape}
use Rattle.pool_law.specs.declared.run.Answered.{Answered}
use Rattle.pool_law.specs.Limits.{cached_classes}
use Rattle.pool_law.specs.Dids as says
use Rattle.pool_law.specs.Readers.{ToldNotes, ◌>>◌, note}
use Rattle.pool_law.specs.LaneStates.{new_lane, log_at}
use Rattle.pool_law.specs.Patterns.{give_back, sheds, drain, sweep}
use Rattle.pool_law.specs.LaneLaw.{sweep_period, behind, note_counts, IsLaneLog}
use Rattle.arena_laws.specs.Slots.{EachOf}
use Rattle.run_laws.proofs.Acts.{IsStill, Act, Acts, acts-then, one-act, Shedding}
use Rattle.run_laws.proofs.Readings.{bind-some, note-read, give_back-read}
use Rattle.run_laws.proofs.Keeping.{Keeps, keeps-give, keeps-bind, keeps-then, keeps-turn, TurnKeeps, log-keeps, closes-is}
use Rattle.run_laws.proofs.RootActs.{acts-chain, note-acts}
use Rattle.run_laws.proofs.CommandActs.{Sends, not_carried_out-acts, answer_of-acts}

module _ (P : Object → Did → Type 0) where
  -- the trims, closings and sheds of caches, where there may be some
  pub record MayDrain : Type 0 where
    pub trims : (o : Object) (quota : ℕ) → P o (Did.Trim quota)
    pub closes : (o : Object) (quota : ℕ) → P o (Did.Close quota)
    pub sheds : (o : Object) (r : RegionId) → P o (Did.Shed r)

  pub sheds-acts : MayDrain → (lane class n : ℕ) → Keeps (Acts P) (sheds lane class n)
  sheds-acts may lane class zero log p is = keeps-give (acts-chain P) tt log p is
  sheds-acts may lane class (suc n) log p is =
      let f = bind-some (note (Object.Cache lane class) says.shed log) _ p is in
      let g = bind-some (give_back f.0.0 f.0.1) _ p f.2 in
      let e = note-read (Object.Cache lane class) says.shed log f.0 f.1 in
      let b = give_back-read f.0.0 f.0.1 g.0 g.1 in
      let shedding : Shedding P e.entry b.0 =
      record {
        region = f.0.0;
        shed_is =
            record {
              object = Object.Cache lane class;
              number = e.number;
              is = e.is
                  ∙ ap (At (Object.Cache lane class) e.number) (shed e.did f.0.0 e.said);
            };
        may = may.sheds (Object.Cache lane class) f.0.0;
        given_is = record { object = Object.Arena f.0.0.place.arena; number = b.1; is = b.3 };
      } in
      acts-then log.left g.0.1.left p.1.left
      (one-act (Act.Sheds e.entry b.0 shedding) log.left g.0.1.left (e.are ∙ ap (λ xs. e.entry ∷ xs) b.2))
      (sheds-acts may lane class n g.0.1 p g.2)
    where
      shed : (d : Did) (r : RegionId) → says.shed d ≡ Some r → d ≡ Did.Shed r
      shed (Did.Shed x) r e = ap Did.Shed (cc e)
      shed _ r e = absurd (cc e)

  pub drain-acts : MayDrain → (lane : ℕ) (kind : Did → Option ℕ)
      → ((o : Object) (d : Did) (q : ℕ) → kind d ≡ Some q → IsStill P o d) → (classes : List ℕ)
      → Keeps (Acts P) (drain lane kind classes)
  drain-acts may lane kind still [] = keeps-give (acts-chain P) tt
  drain-acts may lane kind still (class ∷ classes) =
      keeps-bind (acts-chain P) (note (Object.Cache lane class) kind)
      (λ quota. sheds lane class quota >> drain lane kind classes)
      (note-acts P (Object.Cache lane class) kind (still (Object.Cache lane class)))
      (λ quota. keeps-then (acts-chain P) (sheds lane class quota) (drain lane kind classes)
      (sheds-acts may lane class quota) (drain-acts may lane kind still classes))

  pub sweep-acts : MayDrain → (lane : ℕ) → Keeps (Acts P) (sweep lane)
  sweep-acts may lane = drain-acts may lane says.trim still (below cached_classes)
    where
      still : (o : Object) (d : Did) (q : ℕ) → says.trim d ≡ Some q → IsStill P o d
      still o (Did.Trim x) q e = may.trims o x
      still o _ q e = absurd (cc e)

  pub closing-acts : MayDrain → (lane : ℕ) → Keeps (Acts P) (drain lane says.close (below cached_classes))
  closing-acts may lane = drain-acts may lane says.close still (below cached_classes)
    where
      still : (o : Object) (d : Did) (q : ℕ) → says.close d ≡ Some q → IsStill P o d
      still o (Did.Close x) q e = may.closes o x
      still o _ q e = absurd (cc e)

module _ (P : Object → Did → Type 0) where
  pub turns-act : MayDrain P → (shape : Shape) (lane : ℕ) (cs : List Command) → EachOf (Sends P) cs
      → EachOf (TurnKeeps (acts-chain P) shape lane) cs
  turns-act may shape lane [] near = tt
  turns-act may shape lane (c ∷ cs) near = (
    (
      λ s. keeps-turn (acts-chain P) sweep_period shape lane s c (answer_of-acts P shape lane s c near.0)
          (sweep-acts P may lane),
      not_carried_out-acts P lane c near.0,
    ),
    turns-act may shape lane cs near.1,
  )

  -- the notes before the closing, and a whole log, are acts
  pub commands-act : MayDrain P → (shape : Shape) (lane : ℕ) (commands : List Command) (replies : List Answered)
      (es : ToldNotes) → EachOf (Sends P) commands → IsLaneLog shape lane commands replies es
      → Acts P es (behind (note_counts replies) es)
  commands-act may shape lane commands replies es near log =
      log-keeps (acts-chain P) shape lane commands replies es (turns-act may shape lane commands near) log

  pub log-acts : MayDrain P → (shape : Shape) (lane : ℕ) (commands : List Command) (replies : List Answered)
      (es : ToldNotes) → EachOf (Sends P) commands → IsLaneLog shape lane commands replies es → Acts P es []
  log-acts may shape lane commands replies es near log =
      let x = closes-is lane (behind (note_counts replies) es) log.closed in
      acts-then es (behind (note_counts replies) es) [] (commands-act may shape lane commands replies es near log)
      (subst (Acts P (behind (note_counts replies) es)) x.2
      (closing-acts P may lane (log_at new_lane (behind (note_counts replies) es)) x.0 x.1))

-- any note of a lane, and any that a command makes before a sweep
abbrev pub AnyNote : Object → Did → Type 0
AnyNote o d = Unit {0}

abbrev pub OfCommands : Object → Did → Type 0
OfCommands o (Did.Post parcel) = Unit {0}
OfCommands o _ = ⊥

pub all-send : (cs : List Command) → EachOf (Sends AnyNote) cs × EachOf (Sends OfCommands) cs
all-send [] = (tt, tt)
all-send (Command.Send name to ∷ cs) = let r = all-send cs in ((λ lane parcel. tt, r.0), (λ lane parcel. tt, r.1))
all-send (_ ∷ cs) = let r = all-send cs in ((tt, r.0), (tt, r.1))

pub any-drain : MayDrain AnyNote
any-drain = record { trims = λ o q. tt; closes = λ o q. tt; sheds = λ o r. tt }

pub any-acts : (shape : Shape) (lane : ℕ) (commands : List Command) (replies : List Answered) (es : ToldNotes)
    → IsLaneLog shape lane commands replies es → Acts AnyNote es []
any-acts shape lane commands replies es log =
    log-acts AnyNote any-drain shape lane commands replies es (all-send commands).0 log
