use Rattle.std.proofs.Common.{◌≡◌, ◌≤◌, Bool, true, false, arith, subst}
use Rattle.pool_law.specs.declared.command.Command.{Command}
use Rattle.shared_pool.specs.declared.pool.SharedPool.{SharedPool}
use Rattle.lane_context.specs.declared.context.Context.{Context}
use Rattle.lane_core.specs.declared.prepared.Prepared.{Prepared}
use Rattle.lane_core.specs.declared.prepared.Prepared.TheVariants.{Work, Access, Alone}
use Rattle.lane_context.specs.Accesses.{IsAccess}
use Rattle.lane_stages.specs.Budgets.{notes_alone}
use Rattle.lane_context.specs.Contexts.{left_for, HasRoomFor}
use Rattle.lane_context.specs.Named.{known_to}
use Rattle.lane_core.specs.Prepared.{IsPreparedFor}
use Rattle.lane_context.specs.Works.{left_of}
use Rattle.lane_core.proofs.Carrying.{access_fits, may_within}
use Rattle.lane_core.proofs.LaneRooms.{room_most}
use Rattle.lane_core.proofs.prepared.begin_with.Goals as goal

-- an access may make a note
access_notes : (composes : Bool) (command : Command) → IsAccess command → 1 ≤ (left_for composes command).notes
access_notes composes (Command.Set name at bytes true) is = omega arith
access_notes true (Command.Set name at bytes false) is = omega arith
access_notes false (Command.Set name at bytes false) is = omega arith
access_notes composes (Command.Get name at len true) is = omega arith
access_notes true (Command.Get name at len false) is = omega arith
access_notes false (Command.Get name at len false) is = omega arith
access_notes true (Command.Write name bytes) is = omega arith
access_notes false (Command.Write name bytes) is = omega arith
access_notes true (Command.Read name len) is = omega arith
access_notes false (Command.Read name len) is = omega arith
access_notes composes (Command.Alloc name size) is = absurd is
access_notes composes (Command.Slice fresh name at len retained) is = absurd is
access_notes composes (Command.Dup fresh name) is = absurd is
access_notes composes (Command.Retain name) is = absurd is
access_notes composes (Command.Release name) is = absurd is
access_notes composes (Command.Refcnt name) is = absurd is
access_notes composes (Command.Touch name) is = absurd is
access_notes composes (Command.Forget name) is = absurd is
access_notes composes (Command.Send name lane) is = absurd is
access_notes composes (Command.Recv fresh lane) is = absurd is
access_notes composes (Command.Compose fresh names) is = absurd is
access_notes composes (Command.Add whole name) is = absurd is
access_notes composes (Command.Capacity name size) is = absurd is

access_room : (pool : SharedPool) (d : Context) (command : Command) → IsAccess command
    → HasRoomFor pool d (left_for d.composes command) → HasRoomFor pool d (notes_alone 1)
access_room pool d command is room =
    room_most pool d (left_for d.composes command) (notes_alone 1) (access_notes d.composes command is) (omega arith)
    (λ to. omega arith) room

-- what the command was prepared with, as an arm has it
prepared_as : (d : Context) (command : Command) (a b : Prepared) → a ≡ b → IsPreparedFor d command a
    → IsPreparedFor d command b
prepared_as d command a b is = subst (λ (x : Prepared). IsPreparedFor d command x) is

pub work-requires-clause-may : goal.work-requires-clause-may
work-requires-clause-may g c =
    let d = c.args.context.now in let command = c.args.command.now in let s = c.requires.state in
    let p = prepared_as d command c.args.prepared (Work c.in-Work.work) c.in-Work.is c.requires.prepared in
    may_within c.args.pool.now d (left_of c.in-Work.work) (left_for d.composes command) c.requires.may
    (p.1 s.0 s.1).within

pub work-requires-clause-ready : goal.work-requires-clause-ready
work-requires-clause-ready g c =
    let d = c.args.context.now in let command = c.args.command.now in
    (prepared_as d command c.args.prepared (Work c.in-Work.work) c.in-Work.is c.requires.prepared).0

pub returns-in-Work : goal.returns-in-Work
returns-in-Work g c = λ s state.
    let d = c.args.context.now in let command = c.args.command.now in
    let p = prepared_as d command c.args.prepared (Work c.in-Work.work) c.in-Work.is c.requires.prepared in
    c.work.ensures s command state (p.1 s state)

pub access-requires-clause-room : goal.access-requires-clause-room
access-requires-clause-room g c =
    let d = c.args.context.now in let command = c.args.command.now in
    let p = prepared_as d command c.args.prepared (Access c.in-Access.access) c.in-Access.is c.requires.prepared in
    access_room c.args.pool.now d command p.2 c.requires.may.room

pub access-requires-clause-ready : goal.access-requires-clause-ready
access-requires-clause-ready g c =
    let d = c.args.context.now in let command = c.args.command.now in let s = c.requires.state in
    let p = prepared_as d command c.args.prepared (Access c.in-Access.access) c.in-Access.is c.requires.prepared in
    (p.0 s.0 s.1).ready (known_to d.seat) c.requires.may.context.inside

pub access-requires-clause-name : goal.access-requires-clause-name
access-requires-clause-name g c =
    let d = c.args.context.now in let command = c.args.command.now in
    let p = prepared_as d command c.args.prepared (Access c.in-Access.access) c.in-Access.is c.requires.prepared in
    access_fits d c.in-Access.access p.1

pub returns-in-Access : goal.returns-in-Access
returns-in-Access g c = λ s state.
    let d = c.args.context.now in let command = c.args.command.now in
    let p = prepared_as d command c.args.prepared (Access c.in-Access.access) c.in-Access.is c.requires.prepared in
    c.access.ensures s command state (p.0 s state)

pub obey-requires-clause-other : goal.obey-requires-clause-other
obey-requires-clause-other g c =
    let d = c.args.context.now in let command = c.args.command.now in
    (prepared_as d command c.args.prepared Alone c.in-Alone.is c.requires.prepared).0

pub obey-requires-clause-plain : goal.obey-requires-clause-plain
obey-requires-clause-plain g c =
    let d = c.args.context.now in let command = c.args.command.now in
    (prepared_as d command c.args.prepared Alone c.in-Alone.is c.requires.prepared).1

pub returns-in-Alone : goal.returns-in-Alone
returns-in-Alone g c = c.obey.ensures
