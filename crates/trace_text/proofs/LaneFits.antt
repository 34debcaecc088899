-- The commands of a lane that was read are what a lane needs.
use Rattle.std.proofs.Common.{◌≡◌, ℕ, List, [], ◌∷◌, ◌++◌, length, refl, true, false, Bool, append_assoc, append-nil}
use Rattle.std.specs.Prelude.{Option, Some, None, IfSome, Ok, Err, if◌then◌else◌}
use Rattle.std.specs.Option.{option_map_or}
use Rattle.std.proofs.lemmas.Bool.{and_parts}
use Rattle.serde_json.specs.Data.{Data}
use Rattle.pool_law.specs.declared.command.Command.{Command}
use Rattle.pool_law.specs.declared.command.Command.TheVariants as commands
use Rattle.pool_law.specs.declared.run.Shape.{Shape}
use Rattle.pool_law.specs.Legal.{all_fit, fits_after}
use Rattle.trace_text.specs.declared.TraceNo.TheVariants as refusals
use Rattle.trace_text.specs.Names.{Mentions}
use Rattle.trace_text.specs.Words.{command_in}
use Rattle.trace_text.specs.Items.{◌>>=◌, only_if, array_in}
use Rattle.trace_text.specs.Lane.{LaneRead, nothing_read, may_follow, with_command, with_row, commands_after, lane_in}
use Rattle.trace_text.proofs.FormSteps.{names_lanes, command_named, through_if}

-- ---- Commands.

-- a command that names lanes which are there, behind commands that it may follow
fits : (shape : Shape) (earlier : List Command) (c : Command) → names_lanes shape.lanes c ≡ true
    → may_follow earlier c ≡ true → fits_after shape earlier c ≡ true
fits shape earlier (commands.Send name lane) named follows = named
fits shape earlier (commands.Recv fresh lane) named follows = rw (named, follows) refl
fits shape earlier (commands.Compose fresh names) named follows = named
fits shape earlier _ named follows = refl

-- one more command behind those that fit
fit_more : (shape : Shape) (earlier cs : List Command) (c : Command) → all_fit shape earlier cs ≡ true
    → fits_after shape (earlier ++ cs) c ≡ true → all_fit shape earlier (cs ++ c ∷ []) ≡ true
fit_more shape earlier [] c all last =
    let here : fits_after shape earlier c ≡ true = rw append-nil at last in rw here refl
fit_more shape earlier (x ∷ cs) c all last =
    let (first, rest) = and_parts (fits_after shape earlier x) (all_fit shape (earlier ++ x ∷ []) cs) all in
    let next : fits_after shape ((earlier ++ x ∷ []) ++ cs) c ≡ true = rw append_assoc last in
    rw (first, fit_more shape (earlier ++ x ∷ []) cs c rest next) refl

-- ---- Rows.

-- the commands are what a lane of a run with this shape needs
abbrev pub FitsSo : Shape → List Command → Type 0
FitsSo shape commands = all_fit shape [] commands ≡ true

abbrev after_command : LaneRead → Command × Mentions → Option LaneRead
after_command read next = do
  command ← only_if (may_follow read.commands) next.0
  Some (with_command read next.1 command)

command_fits : (shape : Shape) (read : LaneRead) (next : Command × Mentions) → FitsSo shape read.commands
    → names_lanes shape.lanes next.0 ≡ true
    → IfSome (after_command read next) (λ r. FitsSo shape r.commands)
command_fits shape read next fit named =
    elim (may_follow read.commands next.0) as (λ (t : Bool). may_follow read.commands next.0 ≡ t
    → IfSome ((if t then Some next.0 else None) >>= (λ command. Some (with_command read next.1 command)))
    (λ r. FitsSo shape r.commands)) [
      | true ↦ λ e. fit_more shape [] read.commands next.0 fit (fits shape read.commands next.0 named e)
      | false ↦ λ e. tt
    ] refl

row_fits : (shape : Shape) (read : LaneRead) (d : Data) → FitsSo shape read.commands
    → IfSome (with_row shape.lanes read d) (λ r. FitsSo shape r.commands)
unfolding with_row
row_fits shape read d fit =
    through_if (λ (p : Command × Mentions). names_lanes shape.lanes p.0 ≡ true)
    (λ (r : LaneRead). FitsSo shape r.commands) (command_in shape.lanes read.names d) (after_command read)
    (command_named shape.lanes read.names d) (λ next named. command_fits shape read next fit named)

rows_fit : (shape : Shape) (lane : ℕ) (read : LaneRead) (ds : List Data) (commands : List Command)
    → FitsSo shape read.commands → commands_after shape.lanes lane read ds ≡ Ok commands → FitsSo shape commands
rows_fit shape lane read [] commands fit is = let same : read.commands ≡ commands = cc in rw same at fit
rows_fit shape lane read (d ∷ ds) commands fit is =
    elim (with_row shape.lanes read d) as (λ (o : Option LaneRead). IfSome o (λ r. FitsSo shape r.commands)
    → option_map_or (λ next. commands_after shape.lanes lane next ds) o
    (Err (refusals.Shape lane (length read.commands))) ≡ Ok commands → FitsSo shape commands) [
      | None ↦ λ known e. cc
      | Some next ↦ λ known e. rows_fit shape lane next ds commands known e
    ] (row_fits shape read d fit) is

-- ---- A lane.

pub lane_fits : (shape : Shape) (lane : ℕ) (d : Data) (commands : List Command)
    → lane_in shape.lanes lane d ≡ Ok commands → FitsSo shape commands
unfolding lane_in
lane_fits shape lane d commands is =
    elim (array_in d) as (λ (o : Option (List Data)). option_map_or (commands_after shape.lanes lane nothing_read) o
    (Err (refusals.Shape lane 0)) ≡ Ok commands → FitsSo shape commands) [
      | None ↦ λ e. cc
      | Some ds ↦ λ e. rows_fit shape lane nothing_read ds commands refl e
    ] is
