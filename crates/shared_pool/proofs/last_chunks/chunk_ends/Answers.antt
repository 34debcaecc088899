use Rattle.std.proofs.Common.{◌≡◌, ◌++◌, ℕ, sym, ap, ◌∙◌, subst, arith, add-one}
use Rattle.std.specs.Prelude.{Option, Some, slice_get}
use Rattle.std.proofs.lemmas.Option.{slice_get-get_or}
use Rattle.size_classes.specs.Sizes.{below}
use Rattle.arena_laws.proofs.SlotLemmas.{times-next}
use Rattle.shared_pool.specs.declared.home.Home.{Home}
use Rattle.shared_pool.specs.Ends.{IsArenaOf, chunks_in, chunks_from}
use Rattle.shared_pool.proofs.LastChunks.{arena_within, chunks_push}
use Rattle.shared_pool.proofs.last_chunks.chunk_ends.Goals as goal

pub bounds-homes-number : goal.bounds-homes-number
bounds-homes-number c =
    arena_within c.args.shape.now.chunks c.args.homes.now c.loop-number.number
    (c.requires.arenas c.loop-number.number c.loop-number-test.true)

pub add_ends-requires-clause-arena : goal.add_ends-requires-clause-arena
add_ends-requires-clause-arena c =
    let lt = arena_within c.args.shape.now.chunks c.args.homes.now c.loop-number.number
    (c.requires.arenas c.loop-number.number c.loop-number-test.true) in
    subst (λ (o : Option (Option Home)). IsArenaOf c.args.shape.now.chunks o)
    (slice_get-get_or c.args.homes.now c.loop-number.number c.index-homes-number.result lt
    ∙ ap (λ (x : Option Home). Some x) (sym c.index-homes-number.is))
    (c.requires.arenas c.loop-number.number c.loop-number-test.true)

pub add_ends-requires-clause-room : goal.add_ends-requires-clause-room
add_ends-requires-clause-room c =
    let a = times-next c.loop-number.number c.args.shape.now.arenas c.args.shape.now.chunks c.loop-number-test.true in
    let most = c.loop-number.invariant.most in let room = c.loop-number.invariant.capacity in
    omega (arith, a, most, room)

pub loop-number-preserved : goal.loop-number-preserved
loop-number-preserved c =
    let k : ℕ = c.loop-number.number in
    let lt = arena_within c.args.shape.now.chunks c.args.homes.now k (c.requires.arenas k c.loop-number-test.true) in
    let here : Some c.index-homes-number.result ≡ slice_get c.args.homes.now k =
    ap (λ (x : Option Home). Some x) c.index-homes-number.is
    ∙ sym (slice_get-get_or c.args.homes.now k c.index-homes-number.result lt) in
    let most = c.loop-number.invariant.most in let more = c.add_ends.ensures.most in let room =
    c.loop-number.invariant.capacity in let kept = c.add_ends.ensures.capacity in
    record {
      items =
          c.add_ends.ensures.ends ∙ (λ i. c.loop-number.invariant.items i ++ chunks_in (here i))
          ∙ sym (chunks_push c.args.homes.now (below k) k)
          ∙ ap (λ n. chunks_from c.args.homes.now (below n)) (sym (add-one k));
      most = omega (arith, most, more);
      capacity = omega (arith, room, kept);
    }
