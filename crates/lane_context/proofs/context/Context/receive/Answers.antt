use Rattle.std.proofs.Common.{◌≡◌, ℕ, ◌<◌, List, [], ◌∷◌, refl, sym, ap, ◌∙◌, subst, arith, length, Option}
use Rattle.pool_law.specs.declared.command.Command.{Command}
use Rattle.pool_law.specs.declared.id.ViewData.{ViewData}
use Rattle.pool_law.specs.declared.id.Parcel.{Parcel}
use Rattle.pool_law.specs.declared.note.Did.{Did}
use Rattle.pool_law.specs.declared.note.Note.{Note}
use Rattle.pool_law.specs.declared.note.Object.TheVariants.{Mail}
use Rattle.pool_law.specs.declared.run.Reply.{Reply}
use Rattle.pool_law.specs.declared.run.Shape.{Shape}
use Rattle.pool_law.specs.Names.{Bound}
use Rattle.std.specs.Prelude.{IfSome}
use Rattle.shared_pool.specs.Knowing.{ReachesKnown}
use Rattle.shared_pool.specs.SeatLanes.{lane_of}
use Rattle.shared_pool.specs.SeatViews.{view_of}
use Rattle.lane_context.specs.declared.context.Context.{Context}
use Rattle.lane_context.specs.declared.context.Stage.TheVariants.{Ready}
use Rattle.lane_context.specs.declared.context.Turn.{Turn}
use Rattle.seat_work.specs.Hands.{empty_hand}
use Rattle.lane_context.specs.Contexts.{left_for, HasTurned}
use Rattle.lane_context.specs.ContextSteps.{HasNoted, HasReplied}
use Rattle.lane_context.proofs.ContextLaws.{note_room, advances_none}
use Rattle.lane_context.proofs.ContextWaits.{waiting}
use Rattle.lane_context.proofs.PostTurns.{fetched_place, fetched_alone, fetched_few, nothing_turn, receive_turn}
use Rattle.lane_context.proofs.context.Context.receive.Goals as goal

-- the note is of the mail to the seat's lane
noted_there : (start mid : Context) (from to lane number : ℕ) (parcel : Parcel) (note : Note)
    → note ≡ Note.At (Mail from to) number (Did.Fetch parcel) → to ≡ lane → HasNoted start mid (note ∷ [])
    → HasNoted start mid (Note.At (Mail from lane) number (Did.Fetch parcel) ∷ [])
noted_there start mid from to lane number parcel note is same noted =
    subst (λ (n : Note). HasNoted start mid (n ∷ []))
    (is ∙ ap (λ (k : ℕ). Note.At (Mail from k) number (Did.Fetch parcel)) same) noted

pub fetch-requires-clause-seat : goal.fetch-requires-clause-seat
fetch-requires-clause-seat g c = c.requires.may.context.seat

pub fetch-requires-clause-from_is : goal.fetch-requires-clause-from_is
fetch-requires-clause-from_is g c =
    subst (λ (s : Shape). c.args.lane < s.lanes) c.requires.may.context.shape c.requires.lane

pub note-requires : goal.note-requires
note-requires g c =
    note_room c.args.pool.now (left_for c.args.self.now.composes (Command.Recv c.args.fresh c.args.lane))
    c.args.self.now c.requires.may
    (omega arith)

pub add-requires-clause-place : goal.add-requires-clause-place
add-requires-clause-place g c =
    let old = c.args.self.now in let start : Context = record old { seat = c.fetch.new.seat } in let mid =
    c.note.new.self in let got = c.in-Got in
    let noted = noted_there start mid c.args.lane c.lane_of.result (lane_of old.seat) got.number got.parcel
    c.note_at.result
    c.note_at.ensures c.lane_of.ensures.lane c.note.ensures in
    fetched_place c.args.pool.now c.args.fresh c.args.lane old start mid mid c.requires.may refl got.ensures.same
    got.ensures.seat got.number got.parcel got.ensures.got noted c.in-Some.view c.in-Some.is got.ensures.place

pub add-requires-clause-alone : goal.add-requires-clause-alone
add-requires-clause-alone g c = λ other at counts.
    let old = c.args.self.now in let start : Context = record old { seat = c.fetch.new.seat } in let mid =
    c.note.new.self in let got = c.in-Got in
    let noted = noted_there start mid c.args.lane c.lane_of.result (lane_of old.seat) got.number got.parcel
    c.note_at.result
    c.note_at.ensures c.lane_of.ensures.lane c.note.ensures in
    fetched_alone c.args.pool.now c.args.fresh c.args.lane old start mid mid c.requires.may refl got.ensures.same
    got.ensures.seat got.number got.parcel got.ensures.got noted c.in-Some.view c.in-Some.is other at counts

pub add-requires-clause-few : goal.add-requires-clause-few
add-requires-clause-few g c =
    let old = c.args.self.now in let start : Context = record old { seat = c.fetch.new.seat } in let mid =
    c.note.new.self in let got = c.in-Got in
    let noted = noted_there start mid c.args.lane c.lane_of.result (lane_of old.seat) got.number got.parcel
    c.note_at.result
    c.note_at.ensures c.lane_of.ensures.lane c.note.ensures in
    fetched_few c.args.pool.now c.args.fresh c.args.lane old start mid mid c.requires.may refl got.ensures.same
    got.ensures.seat got.number got.parcel got.ensures.got noted c.in-Some.view.root

pub bind-requires : goal.bind-requires
bind-requires g c =
    subst (λ (names : List (Option Bound)). c.args.fresh < length names)
    (sym (ap (λ (x : Context). x.names) c.note.ensures.rest)) c.requires.name

pub returns-in-Some : goal.returns-in-Some
returns-in-Some g c = λ s state.
    let pool = c.args.pool.now in let old = c.args.self.now in let start : Context =
    record old { seat = c.fetch.new.seat } in let mid =
    c.note.new.self in let new = c.answer.new.self in let got = c.in-Got in let v : ViewData = c.in-Some.view in
    let noted = noted_there start mid c.args.lane c.lane_of.result (lane_of old.seat) got.number got.parcel
    c.note_at.result
    c.note_at.ensures c.lane_of.ensures.lane c.note.ensures in
    subst (λ (t : Turn). HasTurned pool old new s (Command.Recv c.args.fresh c.args.lane) Ready t)
    (sym c.answer.ensures.ready)
    (receive_turn pool c.args.fresh c.args.lane old start mid new c.requires.may refl got.ensures.same got.ensures.seat
    got.number got.parcel got.ensures.got noted v c.in-Some.is
    (subst (λ (o : Option ViewData). IfSome o (ReachesKnown (view_of start.seat))) c.in-Some.is got.ensures.known)
    c.requires.name c.add.new.self
    (record { counts = c.add.ensures.counts; places = c.add.ensures.places })
    (subst (λ (names : List (Option Bound)). HasReplied (record mid { counts = c.add.new.self; names = names }) new
    Reply.Ok) c.bind.ensures c.answer.ensures.replied) s state)

pub returns-in-None : goal.returns-in-None
returns-in-None g c = λ s state.
    let pool = c.args.pool.now in let old = c.args.self.now in let start : Context =
    record old { seat = c.fetch.new.seat } in let mid =
    c.note.new.self in let new = c.answer-in-None.new.self in let got = c.in-Got in
    let noted = noted_there start mid c.args.lane c.lane_of.result (lane_of old.seat) got.number got.parcel
    c.note_at.result
    c.note_at.ensures c.lane_of.ensures.lane c.note.ensures in
    subst (λ (t : Turn). HasTurned pool old new s (Command.Recv c.args.fresh c.args.lane) Ready t)
    (sym c.answer-in-None.ensures.ready)
    (nothing_turn pool c.args.fresh c.args.lane old start mid new c.requires.may refl got.ensures.same got.ensures.seat
    got.number got.parcel got.ensures.got noted c.in-None.is c.answer-in-None.ensures.replied s state)

pub returns-in-Empty : goal.returns-in-Empty
returns-in-Empty g c = λ s state.
    let pool = c.args.pool.now in let old = c.args.self.now in let start : Context =
    record old { seat = c.fetch.new.seat } in let d = c.requires.may.context in let empty = c.in-Empty.ensures in
    waiting pool old start d refl (advances_none pool old.seat start.seat empty_hand d.seat d.held empty.same empty.seat
    empty.empty) c.requires.may.asked c.args.lane s (Command.Recv c.args.fresh c.args.lane) refl empty.drained
