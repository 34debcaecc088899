use Rattle.std.proofs.Common.{◌≡◌, ◌+◌, ap, ◌∙◌, arith}
use Rattle.std.proofs.lemmas.Result.{on_ok_weaker}
use Rattle.log_order.specs.Tallying.{one_at, note_key, count_in}
use Rattle.log_order.proofs.TallyLemmas.{at-most-one}
use Rattle.log_order.proofs.tally.Tally.pass.Goals as goal

pub add-requires-2 : goal.add-requires-2
add-requires-2 c key =
    let more = c.in_ok-add.ensures key in
    let one = at-most-one key c.note_key.result in
    let few = c.requires key in
    omega (arith, more, one, few)

pub returns : goal.returns
returns c key =
    let first : count_in c.add.new.self key ≡ count_in c.args.self.now key + one_at key (note_key c.args.note.now) =
    c.in_ok-add.ensures key ∙ ap (λ k. count_in c.args.self.now key + one_at key k) c.note_key.ensures in
    let second = ap (one_at key) c.note_key_beside.ensures in
    on_ok_weaker c.add-2.result (λ e. omega (arith, e, first, second)) (c.add-2.ensures key)
