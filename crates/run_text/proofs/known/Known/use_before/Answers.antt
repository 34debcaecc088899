use Rattle.std.proofs.Common.{◌≡◌, Option, Some, sym, ap, ◌∙◌}
use Rattle.std.specs.Option.{option_map}
use Rattle.std.specs.BTreeMap as tree
use Rattle.std.specs.Ordering.{is_lt}
use Rattle.std.proofs.lemmas.Bool.{true≢false}
use Rattle.run_text.specs.Lines.{Begun, last_begun}
use Rattle.run_text.specs.Knowing.{key_cmp, use_of}
use Rattle.run_text.proofs.KnownLemmas.{known_use, less_there, map_none, none_before, none_or_some, number_less, other_less, some_before}
use Rattle.run_text.proofs.known.Known.use_before.Goals as goal

pub returns-in_err-key : goal.returns-in_err-key
returns-in_err-key c all lines knows =
    let place = c.args.place in
    let n = c.args.number in
    let none = (c.range.ensures.in_range tt).5 c.in_err-key.ensures.steps.0 in
    let empty = none_before lines place n (λ m low.
    map_none (λ b. use_of b.1) (last_begun lines (place, m))
    (sym (none (place, m) (tt, less_there place m n low)) ∙ knows.begun (place, m))) in
    c.from_residual.ensures ∙ sym (ap (λ (o : Option Begun). option_map (λ b. use_of b.1) o) empty)

pub returns-then-key-place : goal.returns-then-key-place
returns-then-key-place c all lines knows =
    let place = c.args.place in
    let n = c.args.number in
    let k = c.in_ok-key.key.now in
    let u = c.in_ok-key.begun.now in
    let within = c.range.ensures.in_range tt in
    let there = within.3 (k, u) c.next_back.new.self c.in_ok-key.ensures.steps in
    let most = within.4 (k, u) c.next_back.new.self c.in_ok-key.ensures.steps in
    let same = c.if-key-place.true in
    let m = k.1 in
    let less = number_less k place n there.0.1 same in
    let at_key : tree.get key_cmp c.args.self.now.begun (place, m) ≡ Some u =
    ap (λ p. tree.get key_cmp c.args.self.now.begun (p, m)) (sym same) ∙ there.1 in
    let b = known_use (last_begun lines (place, m)) u (sym at_key ∙ knows.begun (place, m)) in
    let found = some_before lines place n m b.0 less b.1 (λ j over under.
    map_none (λ b. use_of b.1) (last_begun lines (place, j))
    (sym (none_or_some (tree.get key_cmp c.args.self.now.begun (place, j)) (λ some.
    true≢false (ap is_lt (sym (less_there place m j over))
    ∙ ap (λ p. is_lt (key_cmp (p, m) (place, j))) (sym same)
    ∙ most (place, j) (tt, less_there place j n under) some))) ∙ knows.begun (place, j))) in
    ap Some (sym b.2) ∙ sym (ap (λ (o : Option Begun). option_map (λ b. use_of b.1) o) found)

pub returns-else-key-place : goal.returns-else-key-place
returns-else-key-place c all lines knows =
    let place = c.args.place in
    let n = c.args.number in
    let k = c.in_ok-key.key.now in
    let u = c.in_ok-key.begun.now in
    let within = c.range.ensures.in_range tt in
    let there = within.3 (k, u) c.next_back.new.self c.in_ok-key.ensures.steps in
    let most = within.4 (k, u) c.next_back.new.self c.in_ok-key.ensures.steps in
    let empty = none_before lines place n (λ m low.
    map_none (λ b. use_of b.1) (last_begun lines (place, m))
    (sym (none_or_some (tree.get key_cmp c.args.self.now.begun (place, m)) (λ some.
    true≢false (ap is_lt (sym (other_less k place n there.0.1 c.if-key-place.false m))
    ∙ most (place, m) (tt, less_there place m n low) some))) ∙ knows.begun (place, m))) in
    sym (ap (λ (o : Option Begun). option_map (λ b. use_of b.1) o) empty)
