use Rattle.std.proofs.Common.{◌≡◌, ℕ, ◌-◌, true, List, length, take, drop, length-drop, sym, ap, arith, ◌∙◌}
use Rattle.std.proofs.lemmas.List.{take_all}
use Rattle.run_check.specs.declared.merging.Done.{Done}
use Rattle.run_check.specs.Reporting.{accesses_in, kept_by, dropped_by}
use Rattle.run_check.proofs.LeakLemmas.{last-kept, last-dropped}
use Rattle.run_check.proofs.records.keeps_last.Goals as goal

part-is : (n : ℕ) (dones : List Done) → take (length dones - n) (drop n dones) ≡ drop n dones
part-is n dones = take_all (length dones - n) (drop n dones) (omega (arith, length-drop n dones))

pub returns-then-leak-dropped : goal.returns-then-leak-dropped
returns-then-leak-dropped c =
    let keeps = c.args.keeps in
    let dones = c.args.dones.now in
    let n = c.saturating_sub-dropped.result in
    let kept : keeps ≡ true = c.if-not-keeps.false in
    let is : n ≡ length dones - 4 = c.saturating_sub-dropped.ensures in
    let last : accesses_in (take (length dones - n) (drop n dones)) ≡ kept_by keeps (accesses_in dones) =
    ap accesses_in (part-is n dones) ∙ last-kept keeps dones n kept is in
    let gone : c.args.leak.now.dropped ≡ dropped_by keeps (accesses_in dones) =
    c.if-leak-dropped.true ∙ last-dropped keeps dones n kept is in (
      λ e. (sym c.items-then-leak-dropped.ensures ∙ c.are_records.ensures.0 e ∙ last, gone),
      λ both. c.are_records.ensures.1 (c.items-then-leak-dropped.ensures ∙ both.0 ∙ sym last),
    )
