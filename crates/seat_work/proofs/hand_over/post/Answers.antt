use Rattle.seat_work.proofs.HandedOver.{post_goes, post_changes, post_sends}
use Rattle.seat_work.proofs.hand_over.post.Goals as goal

pub returns : goal.returns
returns g c =
    let pool = c.args.pool.now in let old = c.args.seat.now in let call = c.post in let new = call.new.seat in
    let works = c.requires.works in let counts = c.requires.counts in
    let to = c.args.to in let parcel = c.args.parcel in
    let noted = call.ensures.posted in
    record {
      goes = post_goes pool old new call.ensures.seat call.result works to parcel counts noted;
      changes = post_changes pool old new call.ensures.seat call.result works to parcel counts noted;
      sends = post_sends pool old new call.ensures.seat call.result works to parcel counts noted;
      noted = noted;
    }
