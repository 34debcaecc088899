use Rattle.frame_hash.proofs.WorkerLaws.{hashed, waits, works_mid}
use Rattle.frame_hash.proofs.worker.Worker.hash_next.Goals as goal
use Rattle.std.proofs.Common.{arith}

pub returns-in-Empty-clause-stands : goal.returns-in-Empty-clause-stands
returns-in-Empty-clause-stands g c =
    waits c.args.shared.now c.args.self.now c.args.frame c.requires.stands c.fetch.new.seat c.in-Empty.ensures.seat
    c.in-Empty.ensures.empty

pub hash_parcel-more-requires-clause-works : goal.hash_parcel-more-requires-clause-works
hash_parcel-more-requires-clause-works g c =
    works_mid c.args.shared.now c.args.self.now c.args.frame c.requires.stands c.fetch.new.seat c.in-Got.ensures.seat
    c.in-Got._number c.in-Got.parcel c.in-Got.ensures.got (omega arith)

pub returns-then-frame-gt0-clause-stands : goal.returns-then-frame-gt0-clause-stands
returns-then-frame-gt0-clause-stands g c =
    let read = c.hash_parcel-more.ensures in
    hashed c.args.shared.now c.args.self.now c.args.frame c.requires.stands c.fetch.new.seat c.in-Got.ensures.seat
    c.in-Got._number c.in-Got.parcel c.in-Got.ensures.got (omega arith) c.hash_parcel-more.new.seat read.0
    c.hash_parcel-more.result.0 c.from.result read.1 c.requires.left read.3 (omega (arith, read.2)) (omega arith)

pub returns-in_err-finish-clause-stands : goal.returns-in_err-finish-clause-stands
returns-in_err-finish-clause-stands g c =
    let read = c.hash_parcel-more.ensures in
    c.finish.ensures.stands c.args.shared.now
    (hashed c.args.shared.now c.args.self.now c.args.frame c.requires.stands c.fetch.new.seat c.in-Got.ensures.seat
    c.in-Got._number c.in-Got.parcel c.in-Got.ensures.got (omega arith) c.hash_parcel-more.new.seat read.0
    c.hash_parcel-more.result.0 c.from.result read.1 c.requires.left read.3 (omega (arith, read.2)) (omega arith))

pub returns-clause-stands : goal.returns-clause-stands
returns-clause-stands g c =
    let read = c.hash_parcel-more.ensures in
    c.finish.ensures.stands c.args.shared.now
    (hashed c.args.shared.now c.args.self.now c.args.frame c.requires.stands c.fetch.new.seat c.in-Got.ensures.seat
    c.in-Got._number c.in-Got.parcel c.in-Got.ensures.got (omega arith) c.hash_parcel-more.new.seat read.0
    c.hash_parcel-more.result.0 c.from.result read.1 c.requires.left read.3 (omega (arith, read.2)) (omega arith))
