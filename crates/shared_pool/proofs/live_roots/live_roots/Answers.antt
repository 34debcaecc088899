use Rattle.std.proofs.Common.{◌≡◌, ◌++◌, ◌+◌, ◌<◌, ℕ, List, [], ◌∷◌, sym, ap, ◌∙◌, arith, add-one, get_or}
use Rattle.std.specs.Prelude.{Option, None, length, slice_get, slice_index, unwrap_or}
use Rattle.std.proofs.lemmas.List.{length-append}
use Rattle.size_classes.specs.Sizes.{below}
use Rattle.pool_law.specs.Arenas.{listed}
use Rattle.pool_law.specs.Homes.{objects_of}
use Rattle.pool_arena.proofs.NewStockLaws.{All-front}
use Rattle.leak_records.specs.declared.live.LiveRoot.{LiveRoot}
use Rattle.shared_pool.specs.declared.home.Home.{Home}
use Rattle.shared_pool.specs.Ends.{first_place, count_in, told_here, told_from}
use Rattle.shared_pool.specs.Rooms.{IsSpare}
use Rattle.shared_pool.proofs.LastChunks.{listed_most}
use Rattle.shared_pool.proofs.LiveTold.{told_push, set_same, home_at}
use Rattle.shared_pool.proofs.live_roots.live_roots.Goals as goal

pub loop-place-preserved : goal.loop-place-preserved
loop-place-preserved c =
    let s = c.args.shape.now in let k : ℕ = c.loop-place.place in let inv = c.loop-place.invariant in
    let homes : List (Option Home) = c.args.homes.now in
    let i : ℕ = c.first_place-first.result + k in
    let r : Option Home = c.index-homes-first.result in
    let spot : i ≡ first_place s + k = ap (λ n. n + k) c.first_place-first.ensures in
    let lt : i < length homes = (let e = c.first_place-first.ensures in let n = c.requires.homes in let t =
    c.loop-place-test.true in omega (arith, e, n, t)) in
    let there : r ≡ get_or homes i r = c.index-homes-first.is
    ∙ ap (λ (xs : List (Option Home)). get_or xs i r) inv.same in
    let here : r ≡ unwrap_or (slice_get homes (first_place s + k)) None = there ∙ home_at homes i r lt
    ∙ ap (λ n. unwrap_or (slice_get homes n) None) spot in
    let at : get_or c.loop-place.homes i r ≡ unwrap_or (slice_get homes (first_place s + k)) None =
    sym c.index-homes-first.is ∙ here in
    let word : c.count_in-count.result ≡ count_in (slice_index c.args.words.now (objects_of s + k)) =
    c.count_in-count.ensures ∙ ap (λ n. count_in (slice_index c.args.words.now (n + k))) c.requires.homes in
    let told : listed c.told_at-told.result (λ x. x)
    ≡ told_here (unwrap_or (slice_get homes (first_place s + k)) None)
    (count_in (slice_index c.args.words.now (objects_of s + k))) =
    c.told_at-told.ensures.told ∙ (λ j. told_here (at j) (word j)) in
    let added = c.add.ensures.added in
    let many = ap (λ (xs : List LiveRoot). length xs) added in let more =
    length-append c.loop-place.live.items (listed c.told_at-told.result (λ x. x)) in let one =
    listed_most c.told_at-told.result in
    let popped = (c.in-Some.ensures {u = tt}).items in
    let fewer = ap (λ xs. length xs) popped in let last = length-append c.pop.new.self.items (c.in-Some.records ∷ []) in
    record {
      same =
          set_same c.loop-place.homes i c.told_at-told.new.home
          (c.told_at-told.ensures.same ∙ ap (λ (x : Option Home). get_or c.loop-place.homes i x)
          (c.index-homes-first.is ∙ sym c.told_at-told.ensures.same)) ∙ inv.same;
      items =
          added ∙ (λ j. inv.items j ++ told j) ∙ sym (told_push s homes c.args.words.now (below k) k)
          ∙ ap (λ n. told_from s homes c.args.words.now (below n)) (sym (add-one k));
      spare = All-front IsSpare c.pop.new.self.items c.loop-place.spare.items c.in-Some.records popped inv.spare;
      many = (let m = inv.many in omega (arith, m, fewer, last));
      most = (let m = inv.most in omega (arith, many, more, one, m));
      capacity = (let old = inv.capacity in let new = c.add.ensures.capacity in omega (arith, old, new));
    }
