use Rattle.std.proofs.Common.{◌≡◌, ◌<◌, rules, List, get_or, length, map, take, refl, sym, ap, arith, ◌∙◌}
use Rattle.std.specs.Prelude.{Vec}
use Rattle.std.specs.Iterator.Adapters.{zip_first, zip_second}
use Rattle.std.specs.declared.alloc.Global.{Global}
use Rattle.std.proofs.lemmas.Iterator.{YieldsList-from_zip}
use Rattle.std.proofs.lemmas.Iterator.Adapters.{YieldsList-from_vec}
use Rattle.std.proofs.lemmas.Iterator.Consumers.{YieldsList-end, YieldsList-turn}
use Rattle.std.proofs.lemmas.List.{length_push, length-map, length-take, take_all}
use Rattle.std.proofs.lemmas.Slice.Zip.{get_or-zip, length-zip}
use Rattle.pool_law.specs.declared.run.Answered.{Answered}
use Rattle.pool_law.specs.declared.run.LaneLog.{LaneLog}
use Rattle.pool_law.specs.declared.run.Reply.{Reply}
use Rattle.pool_law.specs.LaneLaw.{replies_in}
use Rattle.pool_law.specs.Logs.{of_lane}
use Rattle.run_check.specs.Cutting.{counts_in}
use Rattle.run_text.proofs.LogsLemmas.{lane-counts, lane-few, lane-replies, logs-further}
use Rattle.run_text.proofs.logs.joined.Goals as goal

pub loop-list-preserved : goal.loop-list-preserved
loop-list-preserved c answered said counted long few =
    let lists = c.args.replies.items in
    let bare = c.args.logs.items in
    let i = length c.loop-list.yielded in
    let x = c.in-Some.list in
    let log = c.in-Some.log in
    let t = YieldsList-turn
    (YieldsList-from_zip
    (YieldsList-from_vec {s = zip_first c.into_iter-list-iterator.result} lists (search (rules)) (search (rules)))
    (YieldsList-from_vec {s = zip_second c.into_iter-list-iterator.result} bare (search (rules)) (search (rules))))
    c.loop-list.yielded c.loop-list.list-iterator c.loop-list.yielded_by c.next.result c.next.new.self (x, log)
    c.in-Some.is c.next.ensures.steps in
    let many = length-zip lists bare in
    let low : i < length lists = omega (arith, t.0, many) in
    let below : i < length bare = omega (arith, t.0, many) in
    let item = t.1 ∙ get_or-zip lists bare i (x, log) low below in
    let is : x ≡ get_or lists i x = ap (λ (p : Vec Reply Global × LaneLog). p.0) item in
    let from : log ≡ get_or bare i log = ap (λ (p : Vec Reply Global × LaneLog). p.1) item in
    let now = c.loop-list.invariant answered said counted long few in
    let there : i < length answered = omega (arith, below, long) in
    let at : c.len.result ≡ i =
    omega (
      arith,
      ap (λ (list : List (List Answered)). length list) now.0,
      length-map c.loop-list.all.items (λ (l : LaneLog). l.replies),
      length-take i answered,
      there,
    ) in
    let given =
    c.in_ok-replies.ensures (of_lane answered i)
    (lane-replies answered lists i x said low ∙ ap (λ (v : Vec Reply Global). v.items) (sym is))
    (lane-counts answered (counts_in c.args.counts.now) i counted
    ∙ ap (λ k. of_lane (counts_in c.args.counts.now) k) (sym at)
    ∙ sym c.counts_at.ensures)
    (lane-few answered i there few) in
    let next = length_push c.loop-list.yielded (x, log) in
    let more =
    logs-further answered bare c.loop-list.all.items c.push.new.self.items _ log i c.in_ok-push.ensures.items there
    below from given refl now in (
      more.0 ∙ ap (λ k. take k answered) (sym next),
      more.1 ∙ ap (λ k. map (λ (l : LaneLog). l.notes) (take k bare)) (sym next),
    )

pub returns : goal.returns
returns c answered said counted long few =
    let lists = c.args.replies.items in
    let bare = c.args.logs.items in
    let n = length c.loop-list.yielded in
    let t = YieldsList-end
    (YieldsList-from_zip
    (YieldsList-from_vec {s = zip_first c.into_iter-list-iterator.result} lists (search (rules)) (search (rules)))
    (YieldsList-from_vec {s = zip_second c.into_iter-list-iterator.result} bare (search (rules)) (search (rules))))
    c.loop-list.yielded c.loop-list.list-iterator c.loop-list.yielded_by c.next.result c.next.new.self
    c.in-None.is c.next.ensures.steps in
    let many = length-zip lists bare in
    let as-many : length lists ≡ length answered =
    omega (
      arith,
      ap (λ (list : List (List Reply)). length list) said,
      length-map answered replies_in,
      length-map lists (λ (v : Vec Reply Global). v.items),
    ) in
    let now = c.loop-list.invariant answered said counted long few in (
      ap (λ (ls : List LaneLog). map (λ l. l.replies) ls) c.of.ensures
          ∙ now.0
          ∙ take_all n answered (omega (arith, t.1, many, as-many, long)),
      ap (λ (ls : List LaneLog). map (λ l. l.notes) ls) c.of.ensures
          ∙ now.1
          ∙ ap (λ (ls : List LaneLog). map (λ l. l.notes) ls)
          (take_all n bare (omega (arith, t.1, many, as-many, long))),
    )
