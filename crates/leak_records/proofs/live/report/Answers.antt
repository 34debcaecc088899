use Rattle.std.proofs.Common.{◌≡◌, IsPermutation, map, ap, ◌∙◌, rules}
use Rattle.std.proofs.lemmas.List.Sorted.{answers_always}
use Rattle.leak_records.specs.Reports.{leak_of}
use Rattle.leak_records.proofs.ReportLaws.{in_order, key_of}
use Rattle.leak_records.proofs.live.report.Goals as goal

pub returns : goal.returns
returns c =
    let sorted = c.in_ok-sort_by_key.ensures.sorted key_of (answers_always _ _ _ (λ f a r g h. search rules)) in
    let told : c.in_ok-leaks.leaks.items ≡ map leak_of c.args.live.now =
    c.in_ok-leaks.ensures ∙ ap (map leak_of) c.items.ensures in
    let moved : IsPermutation c.in_ok-leaks.leaks.items c.sort_by_key.new.self.items =
    c.in_ok-sort_by_key.ensures.permutation in
    rw c.of.ensures (record { same = rw told at moved; sorted = in_order _ sorted })
