use Rattle.std.proofs.Common.{◌∙◌, ◌<◌, ap, get_or, arith, refl, subst, sym}
use Rattle.shared_pool.proofs.MailSeats.{few, may_push, post_within, posted_seat, push_capacity, push_letter, push_room}
use Rattle.shared_pool.proofs.pool.SharedPool.post.Goals as goal

pub sent-posted-requires-clause-few : goal.sent-posted-requires-clause-few
sent-posted-requires-clause-few g c =
    let pool = c.args.self.now in let m = c.mail-mail.result.now in
    few pool c.args.seat.now c.requires.seat c.args.to c.requires.to m _ c.lane_of-lane.ensures.lane
    c.mail-mail.ensures c.requires.room

pub index_mut-requires : goal.index_mut-requires
index_mut-requires g c =
    let pool = c.args.self.now in let old = c.args.seat.now in let m = c.mail-mail.result.now in
    let lt = post_within pool old c.requires.seat c.args.to c.requires.to m _ c.lane_of-lane.ensures.lane
    c.mail-mail.ensures c.requires.room in
    let many = old.posts.ok.0 in
    subst (λ ps. c.args.to < ps.len) (sym c.sent-posted.ensures.ends.0) (omega (arith, lt, many))

pub push-requires-clause-pass : goal.push-requires-clause-pass
push-requires-clause-pass g c =
    let pool = c.args.self.now in let m = c.mail-mail.result.now in let pass = c.index_mut.result.now in
    may_push pool c.args.seat.now c.requires.seat c.args.to c.requires.to m _ c.lane_of-lane.ensures.lane
    c.mail-mail.ensures c.requires.room pass
    (c.index_mut.ensures.value ∙ ap (λ ps. get_or ps.items c.args.to pass) c.sent-posted.ensures.ends.0)

pub push-requires-clause-letter : goal.push-requires-clause-letter
push-requires-clause-letter g c =
    let pool = c.args.self.now in let m = c.mail-mail.result.now in let pass = c.index_mut.result.now in
    push_letter pool c.args.seat.now c.requires.seat c.args.to c.requires.to m _ c.lane_of-lane.ensures.lane
    c.mail-mail.ensures c.requires.room pass
    (c.index_mut.ensures.value ∙ ap (λ ps. get_or ps.items c.args.to pass) c.sent-posted.ensures.ends.0)
    c.sent-posted.result c.args.parcel c.sent-posted.ensures.letter.0 c.sent-posted.ensures.letter.1

pub push-requires-clause-room : goal.push-requires-clause-room
push-requires-clause-room g c =
    let pool = c.args.self.now in let m = c.mail-mail.result.now in let pass = c.index_mut.result.now in
    push_room pool c.args.seat.now c.requires.seat c.args.to c.requires.to m _ c.lane_of-lane.ensures.lane
    c.mail-mail.ensures c.requires.room pass
    (c.index_mut.ensures.value ∙ ap (λ ps. get_or ps.items c.args.to pass) c.sent-posted.ensures.ends.0)

pub push-requires-clause-capacity : goal.push-requires-clause-capacity
push-requires-clause-capacity g c =
    let pool = c.args.self.now in let m = c.mail-mail.result.now in let pass = c.index_mut.result.now in
    push_capacity pool c.args.seat.now c.requires.seat c.args.to c.requires.to m _ c.lane_of-lane.ensures.lane
    c.mail-mail.ensures c.requires.room pass
    (c.index_mut.ensures.value ∙ ap (λ ps. get_or ps.items c.args.to pass) c.sent-posted.ensures.ends.0)

pub returns-clause-seat : goal.returns-clause-seat
returns-clause-seat g c =
    let pool = c.args.self.now in let m = c.mail-mail.result.now in let pass = c.index_mut.result.now in
    let mid = c.sent-posted.new.seat in let sent = c.sent-posted.ensures in
    posted_seat pool c.args.seat.now c.requires.seat c.args.to c.requires.to m _ c.lane_of-lane.ensures.lane
    c.mail-mail.ensures c.requires.room pass
    (c.index_mut.ensures.value ∙ ap (λ ps. get_or ps.items c.args.to pass) sent.ends.0)
    mid _ c.sent-posted.result.letter.number c.args.parcel c.push.new.pass sent.same sent.ends sent.posted sent.counts
    c.push.ensures.pass refl refl refl
