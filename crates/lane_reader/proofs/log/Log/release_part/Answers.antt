use Rattle.std.proofs.Common.{◌≡◌, ℕ, ◌++◌, false, take, sym, ap, arith, ◌∙◌}
use Rattle.std.specs.Prelude.{◌==◌, Option, option_and_then, Some}
use Rattle.std.proofs.lemmas.Bool.Decides.{nat_tests}
use Rattle.pool_law.specs.declared.run.Reply.{Reply}
use Rattle.pool_law.specs.Counts.{count_of, count_from}
use Rattle.pool_law.specs.Readers.{Log}
use Rattle.pool_law.proofs.CompositeLemmas.{release_part-gone, release_part-counted}
use Rattle.lane_reader.specs.Reading.{entries, log_from}
use Rattle.lane_reader.specs.Viewing.{part_of}
use Rattle.lane_reader.proofs.CountLemmas.{count-append}
use Rattle.lane_reader.proofs.log.Log.release_part.Goals as goal

pub count-requires : goal.count-requires
count-requires c = omega (arith, c.requires.room c.args.part.now.root, c.of-first.ensures)

pub returns-then-count-eq0 : goal.returns-then-count-eq0
returns-then-count-eq0 c before are =
    let root = c.args.part.now.root in
    let es = take c.args.at.place (entries c.args.self.now) in
    let here : count_of root (before ++ es) ≡ c.count.result =
    count-append root 0 before es ∙ ap (λ (n : ℕ). count_from root n es) (are root ∙ sym c.of-first.ensures)
    ∙ sym c.count.ensures in
    release_part-gone c.args.shape.now (part_of c.args.part.now) (log_from before c.args.self.now c.args.at)
    (here ∙ c.if-count-eq0.true)

pub returns-in_err-behind : goal.returns-in_err-behind
returns-in_err-behind c before are =
    let root = c.args.part.now.root in
    let es = take c.args.at.place (entries c.args.self.now) in
    let here : count_of root (before ++ es) ≡ c.count.result =
    count-append root 0 before es ∙ ap (λ (n : ℕ). count_from root n es) (are root ∙ sym c.of-first.ensures)
    ∙ sym c.count.ensures in
    let some : (count_of root (before ++ es) == 0) ≡ false = grind (arith, nat_tests, here) in
    rw c.from_residual.ensures
    (release_part-counted c.args.shape.now (part_of c.args.part.now) (log_from before c.args.self.now c.args.at) some
    ∙ ap (λ (o : Option (Reply × Log)). option_and_then {U = Unit {0} × Log} (λ got. Some (tt, got.1)) o)
    (c.in_err-behind.ensures before))

pub returns : goal.returns
returns c before are =
    let root = c.args.part.now.root in
    let es = take c.args.at.place (entries c.args.self.now) in
    let here : count_of root (before ++ es) ≡ c.count.result =
    count-append root 0 before es ∙ ap (λ (n : ℕ). count_from root n es) (are root ∙ sym c.of-first.ensures)
    ∙ sym c.count.ensures in
    let some : (count_of root (before ++ es) == 0) ≡ false = grind (arith, nat_tests, here) in
    release_part-counted c.args.shape.now (part_of c.args.part.now) (log_from before c.args.self.now c.args.at) some
    ∙ ap (λ (o : Option (Reply × Log)). option_and_then {U = Unit {0} × Log} (λ got. Some (tt, got.1)) o)
    (c.in_ok-behind.ensures before)
