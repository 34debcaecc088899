-- The notes of a command of a stopped lane, as the program takes them.
use Rattle.std.proofs.Common.{◌≡◌, ℕ, [], length, take, drop, true, sym, ap, arith, ◌∙◌}
use Rattle.std.specs.Prelude.{min, Option, Some, None, option_and_then, is_some}
use Rattle.pool_law.specs.declared.command.Command.{Command}
use Rattle.pool_law.specs.LaneStates.{new_lane, log_at}
use Rattle.pool_law.specs.Lanes.{not_carried_out}
use Rattle.pool_law.specs.Readers.{Log, Reader, ToldNotes, ◌>>◌, at_end, give, read_all}
use Rattle.lane_reader.specs.declared.log.At.{At}
use Rattle.lane_reader.specs.Reading.{entries, log_from, passes}
use Rattle.lane_reader.proofs.GoesOn.{Taken}
use Rattle.lane_reader.proofs.ReadingLemmas.{drop-min, length-entries}
use Rattle.lane_reader.proofs.TakenLemmas.{taken-is}
use Rattle.lane_reader.proofs.TurnGoesOn.{refused-goes}
use Rattle.lane_reader.proofs.UniqueLemmas.{Leaves, leaves}

module _ (lane : ℕ) (c : Command) (log : Rattle.lane_reader.specs.declared.log.Log.Log) where
  -- what a command notes that is not carried out
  abbrev its : Reader (Unit {0})
  its = not_carried_out lane c

  -- where it is not read, no first notes are all of it
  pub stopped-none : its (log_at new_lane (entries log)) ≡ None → (count : ℕ)
      → is_some (read_all its (log_at new_lane (take count (entries log)))) ≡ true → ⊥
  stopped-none none count all =
      let got : Leaves its new_lane (entries log) count =
      leaves its (refused-goes lane c) new_lane (entries log) count all in
      absurd
      (let no : ◌≡◌ {A = Option (Unit {0} × Log)} None (Some (got.a, got.end)) = sym none ∙ got.read in cc)

  -- where it is, so many first notes are
  pub stopped-some : (at : At) → its (log_at new_lane (entries log)) ≡ passes [] log (Some at) → (count : ℕ)
      → count ≡ min at.place (length log.notes.now)
      → is_some (read_all its (log_at new_lane (take count (entries log)))) ≡ true
  stopped-some at found count is =
      let es = entries log in
      let end : Log = log_from [] log at in
      let got : Taken its (log_at new_lane es) tt end =
      (refused-goes lane c).1 (log_at new_lane es) tt end found in
      let least : count ≡ min (length es) at.place =
      omega (arith, is, length-entries log.notes.now log.told.now) in
      let same : take count es ≡ got.taken =
      taken-is es got.taken (drop at.place es) count got.whole (sym (drop-min es at.place count least))
      (omega (arith, least)) in
      ap (λ (xs : ToldNotes). is_some (read_all its (log_at new_lane xs))) same
      ∙ ap (λ (o : Option (Unit {0} × Log)). is_some (option_and_then (λ g. (at_end >> give g.0) g.1) o)) got.alone
