use Rattle.std.proofs.Common.{rules, ◌≡◌, ◌≤◌, ℕ, ◌+◌, ◌++◌, [], ◌∷◌, length, sym, ap, ◌∙◌, arith}
use Rattle.std.specs.Prelude.{Some, None, vec_len, vec_capacity, replicate, reverse}
use Rattle.pool_table.specs.Slots.{slot_at, slots_of, gap_of, laid_out}
use Rattle.pool_table.proofs.Slots.{slot_next, laid_turn}
use Rattle.pool_table.proofs.making.wrapped.Goals as goal

pub loop-home-preserved : goal.loop-home-preserved
loop-home-preserved g c =
    let s = c.args.shape.now in let xs = c.pop.new.self.items in let x = c.in-Some.home in let slots =
    c.loop-home.slots.items in
    let n : ℕ = vec_len c.pop.new.self in let long : length xs ≡ n = search (rules) in
    let gap : c.gap_count.result ≡ gap_of s (length xs) = c.gap_count.ensures
    ∙ ap (gap_of s) (c.len.ensures ∙ sym long) in
    let gap' : c.gap_count.result ≡ gap_of s n = c.gap_count.ensures ∙ ap (gap_of s) c.len.ensures in
    let a = c.loop-home.invariant.all in let b = c.in-Some.ensures.len in let d = c.in-Ok.ensures.len in let e =
    c.leave_empty-home.ensures.many in
    let room = c.loop-home.invariant.room in let more = c.leave_empty-home.ensures.room in let most =
    c.in-Ok.ensures.capacity in
    let kept = c.loop-home.invariant.kept in let same = c.in-Some.ensures.capacity in record {
      order =
          ap (λ l. laid_out s 0 xs ++ reverse l)
          (c.in-Ok.ensures.items ∙ ap (λ y. c.leave_empty-home.new.slots.items ++ y ∷ [])
          (c.of.ensures ∙ ap Some c.leave_empty-home.ensures.same) ∙ (ap (λ l. l ++ Some x ∷ [])
          (c.leave_empty-home.ensures.items ∙ ap (λ k. slots ++ replicate k None) gap)))
          ∙ (laid_turn s xs x slots ∙ (ap (λ l. laid_out s 0 l ++ reverse slots) (sym c.in-Some.ensures.items)
          ∙ c.loop-home.invariant.order));
      all = (let m : ℕ = vec_len c.loop-home.homes in let after : m ≡ n + 1 = omega (arith, b) in
          let u : ℕ = slot_at s n in let w : ℕ = slot_at s m in let z : ℕ = gap_of s n in
          let next : w ≡ u + 1 + z = ap (slot_at s) after ∙ slot_next s n in
          let k : ℕ = vec_len c.loop-home.slots in let t : ℕ = slots_of s in let a' : w + k ≡ t = a in
          let out : u + vec_len c.push-pushed.new.self ≡ t = omega (arith, next, a', d, e, gap') in out);
      room =
          (let t : ℕ = slots_of s in let room' : t ≤ vec_capacity c.loop-home.slots = room in
          let out : t ≤ vec_capacity c.push-pushed.new.self = omega (arith, room', more, most) in out);
      kept = (let f = same in omega (arith, kept, f));
    }

pub unreachable-requires : goal.unreachable-requires
unreachable-requires g c =
    let s = c.args.shape.now in let n : ℕ = vec_len c.pop.new.self in let m : ℕ = vec_len c.loop-home.homes in let b =
    c.in-Some.ensures.len in let after : m ≡ n + 1 = omega (arith, b) in
    let gap : c.gap_count.result ≡ gap_of s n = c.gap_count.ensures ∙ ap (gap_of s) c.len.ensures in
    let u : ℕ = slot_at s n in let w : ℕ = slot_at s m in let z : ℕ = gap_of s n in let next : w
    ≡ u + 1 + z = ap (slot_at s) after ∙ slot_next s n in
    let k : ℕ = vec_len c.loop-home.slots in let t : ℕ = slots_of s in let all : w + k
    ≡ t = c.loop-home.invariant.all in
    let room : t ≤ vec_capacity c.loop-home.slots = c.loop-home.invariant.room in let more =
    c.leave_empty-home.ensures.room in let e = c.leave_empty-home.ensures.many in
    let full = c.in_default-pushed.ensures.full in omega (arith, gap, next, all, room, more, e, full)
