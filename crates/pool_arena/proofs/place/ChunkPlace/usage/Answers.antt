use Rattle.std.proofs.Common.{◌≡◌, refl, Bool, ◌-◌, ◌+◌, ◌*◌, ◌/◌, sym, ap, ◌∙◌, arith, ne_eqb, eq-eqb}
use Rattle.pool_arena.specs.Places.{runs_of}
use Rattle.pool_arena.proofs.PlaceLaws.{usage-some}
use Rattle.std.specs.Prelude.{if◌then◌else◌}
use Rattle.size_classes.specs.Sizes.{chunk_bytes}
use Rattle.pool_arena.proofs.place.ChunkPlace.usage.Goals as goal

sum : (c : goal.After-used) → c.used.result + c.free-free.result ≡ chunk_bytes c.args.self.now.geometry
sum c = omega (arith, c.free-free.ensures.bytes, c.used.ensures.whole)

pub overflow_add-size : goal.overflow_add-size
overflow_add-size c = omega (arith, sum c, c.requires.bytes)

pub overflow_mul-percent : goal.overflow_mul-percent
overflow_mul-percent c = omega (arith, c.free-free.ensures.bytes, c.used.ensures.whole, c.requires.bytes)

pub returns-then-percent-eq0-clause-usage : goal.returns-then-percent-eq0-clause-usage
returns-then-percent-eq0-clause-usage c =
    let g = c.args.self.now.geometry in
    let runs = runs_of c.args.self.now in
    let size : c.used.result + c.free-free.result ≡ chunk_bytes g =
    omega (arith, c.free-free.ensures.bytes, c.used.ensures.whole) in
    sym (ap (λ (b : Bool). if b then 99 else 100 - 0) (eq-eqb 0 0 refl)) ∙
    usage-some g runs c.free-free.result (c.used.result + c.free-free.result) 0 c.free-free.ensures.bytes size
    c.if-free-eq0.false (sym c.if-percent-eq0.true)

pub returns-else-percent-eq0-clause-usage : goal.returns-else-percent-eq0-clause-usage
returns-else-percent-eq0-clause-usage c =
    let g = c.args.self.now.geometry in
    let runs = runs_of c.args.self.now in
    let percent = c.free-free.result * 100 / (c.used.result + c.free-free.result) in
    let size : c.used.result + c.free-free.result ≡ chunk_bytes g =
    omega (arith, c.free-free.ensures.bytes, c.used.ensures.whole) in
    sym (ap (λ (b : Bool). if b then 99 else 100 - percent) (ne_eqb percent 0 c.if-percent-eq0.false)) ∙
    usage-some g runs c.free-free.result (c.used.result + c.free-free.result) percent c.free-free.ensures.bytes size
    c.if-free-eq0.false refl
