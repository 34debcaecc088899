-- The sweeps of a lane, its closing and its whole log are lawful.
use Rattle.std.proofs.Common.{◌≡◌, ℕ, zero, suc, List, [], ◌∷◌, Option, None, Some, refl, sym, ap, subst, append-nil, ◌∙◌}
use Rattle.std.specs.Prelude.{◌<◌, map, slice_get}
use Rattle.size_classes.specs.Sizes.{below, class_count}
use Rattle.pool_law.specs.declared.command.Command.{Command}
use Rattle.pool_law.specs.declared.id.RegionId.{RegionId}
use Rattle.pool_law.specs.declared.note.CacheNo.{CacheNo}
use Rattle.pool_law.specs.declared.note.Did.{Did}
use Rattle.pool_law.specs.declared.note.Did.TheVariants.{Back, Give, Take}
use Rattle.pool_law.specs.declared.note.Note.{Note}
use Rattle.pool_law.specs.declared.note.Note.TheVariants.{At}
use Rattle.pool_law.specs.declared.note.Object.{Object}
use Rattle.pool_law.specs.declared.run.Answered.{Answered}
use Rattle.pool_law.specs.declared.run.Shape.{Shape}
use Rattle.pool_law.specs.Dids as says
use Rattle.pool_law.specs.LaneLaw.{IsLaneLog, behind, note_counts, sweep_period}
use Rattle.pool_law.specs.LaneStates.{log_at, new_lane}
use Rattle.pool_law.specs.Limits.{cached_classes, geometry_of}
use Rattle.pool_law.specs.Lives.{StandsAt}
use Rattle.pool_law.specs.Logs.{Logs, ToldNote, entry_of, of_lane}
use Rattle.pool_law.specs.Patterns.{drain, give_back, sheds}
use Rattle.pool_law.specs.Readers.{Reader, ToldNotes, ◌>>◌, note}
use Rattle.pool_law.proofs.ListLemmas.{get-map, map-get}
use Rattle.pool_law.proofs.LogLemmas.{entry-note}
use Rattle.arena_laws.specs.Slots.{EachOf}
use Rattle.run_laws.proofs.Keeping.{Chains, Keeps, TurnKeeps, closes-is, keeps-bind, keeps-give, keeps-then, keeps-turn, log-keeps}
use Rattle.text_laws.proofs.Lawful.{AreLawful, IsDidLawful, IsLawful, Lawful, given-next, lawful-at, lawful-chain, note-lawful}
use Rattle.text_laws.proofs.LawfulCommands.{answer_of-lawful, not_carried_out-lawful}
use Rattle.text_laws.proofs.LawfulRoots.{give_back-lawful}

module _ (shape : Shape) where
  abbrev classes : ℕ
  classes = class_count (geometry_of shape)

  abbrev Keep : {A : Type 0} → Reader A → Type 0
  Keep r = Keeps (Lawful (class_count (geometry_of shape))) r

  abbrev chain : Chains (Lawful (class_count (geometry_of shape)))
  chain = lawful-chain (class_count (geometry_of shape))

  -- regions are shed

  sheds-lawful : (lane class n : ℕ) → Keep (sheds lane class n)
  sheds-lawful lane class zero = keeps-give chain tt
  sheds-lawful lane class (suc n) =
      keeps-bind chain (note (Object.Cache lane class) says.shed) _
      (note-lawful classes (Object.Cache lane class) says.shed (λ k r. refl) (λ r why. refl))
      (λ region. keeps-then chain (give_back region) (sheds lane class n) (give_back-lawful shape region)
      (sheds-lawful lane class n))

  drain-lawful : (lane : ℕ) (kind : Did → Option ℕ) → ((k : ℕ) (r : RegionId) → kind (Take k r) ≡ None)
      → ((r : RegionId) (why : CacheNo) → kind (Back r why) ≡ None) → (kinds : List ℕ)
      → Keep (drain lane kind kinds)
  drain-lawful lane kind takes backs [] = keeps-give chain tt
  drain-lawful lane kind takes backs (class ∷ kinds) =
      keeps-bind chain (note (Object.Cache lane class) kind) (λ quota. sheds lane class quota >> drain lane kind kinds)
      (note-lawful classes (Object.Cache lane class) kind takes backs)
      (λ quota. keeps-then chain (sheds lane class quota) (drain lane kind kinds) (sheds-lawful lane class quota)
      (drain-lawful lane kind takes backs kinds))

  -- ---- A whole log.

  turns-lawful : (lane : ℕ) (cs : List Command) → EachOf (TurnKeeps (lawful-chain classes) shape lane) cs
  turns-lawful lane [] = tt
  turns-lawful lane (command ∷ cs) = (
    (
      λ s. keeps-turn chain sweep_period shape lane s command (answer_of-lawful shape lane s command)
          (drain-lawful lane says.trim (λ k r. refl) (λ r why. refl) (below cached_classes)),
      not_carried_out-lawful shape lane command,
    ),
    turns-lawful lane cs,
  )

  pub log-lawful : (lane : ℕ) (commands : List Command) (replies : List Answered) (es : ToldNotes)
      → IsLaneLog shape lane commands replies es → AreLawful classes es
  log-lawful lane commands replies es log =
      let x = closes-is lane (behind (note_counts replies) es) log.closed in
      let closing : Lawful classes (behind (note_counts replies) es) [] =
      subst (Lawful classes (behind (note_counts replies) es)) x.2
      (drain-lawful lane says.close (λ k r. refl) (λ r why. refl) (below cached_classes)
      (log_at new_lane (behind (note_counts replies) es)) x.0 x.1) in
      let whole : Lawful classes es [] =
      (lawful-chain classes).more es (behind (note_counts replies) es) []
      (log-keeps chain shape lane commands replies es (turns-lawful lane commands) log) closing in
      subst (AreLawful classes) (sym (whole.1 ∙ append-nil whole.0)) whole.2

-- ---- Notes in logs whose entries are lawful.

module _ (logs : Logs) (count lane at k : ℕ) (o : Object)
    (lawful : AreLawful count (map (entry_of logs) (of_lane logs lane))) where
  -- a taking is of one of the classes
  pub class-lawful : (c : ℕ) (r : RegionId) → StandsAt logs lane at (At o k (Take c r)) → c < count
  class-lawful c r s =
      let l = lawful-at count (map (entry_of logs) (of_lane logs lane)) at (entry_of logs (At o k (Take c r))) lawful
      (get-map (entry_of logs) (of_lane logs lane) at (At o k (Take c r)) s) in
      subst (λ n. IsLawful count n l.0) (entry-note logs (At o k (Take c r))) l.1

  -- and behind what a cache sends back stands its Give
  pub back-lawful : (r : RegionId) (why : CacheNo) → StandsAt logs lane at (At o k (Back r why))
      → (p : Object) × (m : ℕ) × StandsAt logs lane (suc at) (At p m (Give r))
  back-lawful r why s =
      let l = lawful-at count (map (entry_of logs) (of_lane logs lane)) at (entry_of logs (At o k (Back r why))) lawful
      (get-map (entry_of logs) (of_lane logs lane) at (At o k (Back r why)) s) in
      let h : IsDidLawful count (Back r why) l.0 =
      subst (λ n. IsLawful count n l.0) (entry-note logs (At o k (Back r why))) l.1 in
      let g = given-next r l.0 h in
      let n : (n : Note) × (slice_get (of_lane logs lane) (suc at) ≡ Some n) × (entry_of logs n ≡ g.0) =
      map-get (entry_of logs) (of_lane logs lane) (suc at) g.0 (l.2 g.0 g.1) in
      let is : n.0 ≡ At g.2.object g.2.number (Give r) =
      sym (entry-note logs n.0) ∙ ap (λ (e : ToldNote). e.note) n.2 ∙ g.2.is in
      (g.2.object, g.2.number, n.1 ∙ ap (λ x. Some x) is)
