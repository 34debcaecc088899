use Rattle.std.proofs.Common.{◌≡◌, ◌+◌, ◌++◌, ◌∷◌, [], get_or, length, rules, ◌∙◌, arith}
use Rattle.std.proofs.lemmas.List.{take_all}
use Rattle.run_text.specs.Answering.{lanes_texts}
use Rattle.run_text.proofs.ReplyLemmas.{behind_lane, before_lane, fits_lane, is_lane, lanes_many, lanes_more, lane_long, one_more_lane}
use Rattle.run_text.proofs.LineLemmas.{refused_on}
use Rattle.run_text.proofs.replies.replies_of.Goals as goal

pub returns-in_err-replies : goal.returns-in_err-replies
returns-in_err-replies c all back fits is =
    let k = c.loop-lane.lane-index in
    let at = c.loop-lane.at in
    let now = c.loop-lane.invariant all back fits is in
    let low = c.loop-lane-test.true in
    let lane = c.lane-item.result in
    let css = c.args.lanes.now in
    let item = c.items.ensures ∙ c.lane-item.is in
    let cs = c.items.result.now in
    let each = fits_lane _ back css all fits is k at low now.1 cs lane item in
    let there = is_lane _ back css all fits is k at low now.1 cs lane item in
    let long = lane_long _ back css all fits is k at low now.1 cs lane item in
    let r = rw c.in_err-replies.was at (c.lane_replies.ensures (k + 0) (get_or all k []) (before_lane css all k)
    (behind_lane css all back k) (omega arith)
    each there long) in
    refused_on _ _ _ c.from_residual.ensures.1 r

pub loop-lane-preserved : goal.loop-lane-preserved
loop-lane-preserved c all back fits is =
    let k = c.loop-lane.lane-index in
    let at = c.loop-lane.at in
    let now = c.loop-lane.invariant all back fits is in
    let low = c.loop-lane-test.true in
    let lane = c.lane-item.result in
    let css = c.args.lanes.now in
    let item = c.items.ensures ∙ c.lane-item.is in
    let cs = c.items.result.now in
    let each = fits_lane _ back css all fits is k at low now.1 cs lane item in
    let there = is_lane _ back css all fits is k at low now.1 cs lane item in
    let long = lane_long _ back css all fits is k at low now.1 cs lane item in
    let r = rw c.in_ok-replies.was at (c.lane_replies.ensures (k + 0) (get_or all k []) (before_lane css all k)
    (behind_lane css all back k) (omega arith)
    each there long) in
    let pushed : c.push.new.self.items ≡ c.loop-lane.all.items ++ c.in_ok-replies.replies ∷ [] = search (rules) in (
      one_more_lane (λ list. list.items) all k (omega (arith, low, lanes_many css all fits)) c.loop-lane.all.items
          c.push.new.self.items c.in_ok-replies.replies pushed now.0 r.0,
      omega (arith, r.1, now.1, lanes_more css all fits k low),
    )

pub returns : goal.returns
returns c all back fits is =
    let k = c.loop-lane.lane-index in
    let now = c.loop-lane.invariant all back fits is in
    let many = lanes_many c.args.lanes.now all fits in
    let over = c.loop-lane-test.false in
    let these = take_all k all (omega (arith, many, over)) in
    let lanes = take_all k c.args.lanes.now (omega (arith, over)) in
    (now.0 ∙ these, now.1 ∙ (λ i. length (lanes_texts 0 (lanes i) (these i))))
