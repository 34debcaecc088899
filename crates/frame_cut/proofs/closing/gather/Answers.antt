use Rattle.std.proofs.Common.{ℕ, ◌+◌, ◌<◌, List, [], ◌∷◌, ◌++◌, length, drop, sym, ap, ◌∙◌, subst, arith}
use mathlib.Core.Logic.{dite}
use native.Mathlib.Decide.{ℕ_discrete}
use Rattle.std.specs.Prelude.{slice_get}
use Rattle.std.proofs.lemmas.Grind.{drop_more_same}
use Rattle.std.proofs.lemmas.List.{drop-drop, drop-set-lt, length-set}
use Rattle.std.proofs.lemmas.Option.{same_Some, slice_get_within}
use Rattle.frame_hash.specs.declared.worker.Worker.{Worker}
use Rattle.frame_cut.specs.Tellings.{HasEnds, HasGot}
use Rattle.frame_cut.proofs.GatherLaws.{ends_at, has_got}
use Rattle.frame_cut.proofs.ListSteps.{taken_off, told_more}
use Rattle.frame_cut.proofs.closing.gather.Goals as goal

pub index_mut-requires : goal.index_mut-requires
index_mut-requires c =
    let l = c.loop-number in let all = c.args.workers in let n = l.number in
    let inside : n < length all.items =
    (let a = c.loop-number-test.true in let b = c.len-number-end.ensures in let d = all.ok.0 in
    omega (arith, a, b, d)) in
    let at = taken_off all.items l.workers.items n c.remove.result l.invariant.left inside c.remove.ensures.value in
    let both = c.requires.ends n c.remove.result at in
    let a = slice_get_within c.args.cutter.ends.items n both.end both.end_is in let b = l.invariant.ends_many in
    let d = l.ends.ok.0 in omega (arith, a, b, d)

pub reunite-requires : goal.reunite-requires
reunite-requires c =
    let l = c.loop-number in let all = c.args.workers in let n = l.number in let first = c.args.cutter.ends.items in
    let inside : n < length all.items =
    (let a = c.loop-number-test.true in let b = c.len-number-end.ensures in let d = all.ok.0 in
    omega (arith, a, b, d)) in
    let at = taken_off all.items l.workers.items n c.remove.result l.invariant.left inside c.remove.ensures.value in
    let both = subst (HasEnds c.args.queues.now first n) (sym c.parts-seat.ensures.jobs)
    (c.requires.ends n c.remove.result at) in
    record {
      ends =
          ends_at c.args.queues.now first l.ends.items n c.parts-seat.result.1 both l.invariant.ends
          c.index-queues-number.result c.index_mut.result.now c.index-queues-number.is c.index_mut.ensures.value;
    }

pub loop-number-preserved : goal.loop-number-preserved
loop-number-preserved c =
    let l = c.loop-number in let inv = l.invariant in let all = c.args.workers in let n = l.number in
    let first = c.args.cutter.ends.items in let w = c.remove.result in let p = c.parts-seat.ensures in
    let s = c.push_reserved.ensures in let h = c.push_reserved-in-loop-number.ensures in
    let less : n < n + 1 = omega arith in
    let inside : n < length all.items =
    (let a = c.loop-number-test.true in let b = c.len-number-end.ensures in let d = all.ok.0 in
    omega (arith, a, b, d)) in
    let at = taken_off all.items l.workers.items n w inv.left inside c.remove.ensures.value in
    let both = subst (HasEnds c.args.queues.now first n) (sym p.jobs) (c.requires.ends n w at) in
    let got : HasGot first n w.jobs = subst (HasGot first n) p.jobs
    (has_got c.args.queues.now first l.ends.items n c.parts-seat.result.1 both inv.ends c.index-queues-number.result
    c.index_mut.result.now c.index-queues-number.is c.index_mut.ensures.value c.reunite.ensures) in
    record {
      left =
          c.remove.ensures.by_index.2
          ∙ ap (λ (ws : List Worker). drop 1 ws) inv.left
          ∙ drop-drop 1 n all.items;
      seats =
          s.items
          ∙ (λ i. inv.seats i ++ p.seat i ∷ [])
          ∙ sym (told_more (λ (x : Worker). x.seat) all.items n w at);
      seat_room = s.capacity ∙ inv.seat_room;
      hashes =
          h.items
          ∙ (λ i. inv.hashes i ++ p.hashes i ∷ [])
          ∙ sym (told_more (λ (x : Worker). x.hashes) all.items n w at);
      hash_room = h.capacity ∙ inv.hash_room;
      ends =
          drop-set-lt (n + 1) l.ends.items n c.reunite.new.sender less
          ∙ drop_more_same l.ends.items first n inv.ends;
      ends_many = length-set l.ends.items n c.reunite.new.sender ∙ inv.ends_many;
      got = λ k x lt e.
          dite (ℕ_discrete k n)
          (λ same. (let is = same_Some w x (sym at ∙ ap (slice_get all.items) (sym same) ∙ e) in
          subst (λ (t : ℕ × Worker). HasGot first t.0 t.1.jobs) (λ i. (sym same i, is i)) got))
          (λ other. inv.got k x (omega (arith, lt, other)) e);
    }

pub returns-clause-jobs : goal.returns-clause-jobs
returns-clause-jobs c k w e =
    let all = c.args.workers in
    let low = slice_get_within all.items k w e in
    let inside : k < c.loop-number.number =
    (let a = c.loop-number-test.false in let b = c.len-number-end.ensures in let d = all.ok.0 in
    omega (arith, a, b, d, low)) in
    c.loop-number.invariant.got k w inside e
