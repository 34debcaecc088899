use Rattle.std.proofs.Common.{◌≡◌, ◌<◌, ◌∙◌, sym, arith, length, map, string_bytes}
use Rattle.std.proofs.lemmas.List.{length-map}
use Rattle.std.proofs.lemmas.Bool.Decides.{nat_tests}
use Rattle.frame_words.proofs.WordLaws.{asked_done, asked_next, asked_none}
use Rattle.frame_words.proofs.words.asked_by.Goals as goal

pub returns-in_err-given-clause-value : goal.returns-in_err-given-clause-value
returns-in_err-given-clause-value c =
    let some : 0 < length (map string_bytes c.loop-left.left.now) =
    rw length-map (grind (arith, nat_tests, c.loop-left-test.ensures)) in
    let none = asked_none c.loop-left.asked _ some (sym c.in_err-given.ensures.value) in
    c.from_residual.ensures ∙ sym (c.loop-left.invariant.value ∙ none)

pub returns-in_err-asked-clause-value : goal.returns-in_err-asked-clause-value
returns-in_err-asked-clause-value c =
    let next =
    asked_next c.loop-left.asked (map string_bytes c.loop-left.left.now) c.in_ok-given.given
    (map string_bytes c.in_ok-given.rest.now) (sym c.in_ok-given.ensures.value) in
    c.from_residual-in_err-asked.ensures
    ∙ sym (c.loop-left.invariant.value ∙ (rw (sym c.in_err-asked.ensures.value) at next))

pub loop-left-preserved : goal.loop-left-preserved
loop-left-preserved c =
    let next =
    asked_next c.loop-left.asked (map string_bytes c.loop-left.left.now) c.in_ok-given.given
    (map string_bytes c.in_ok-given.rest.now) (sym c.in_ok-given.ensures.value) in
    record {
      value = c.loop-left.invariant.value ∙ (rw (sym c.in_ok-asked.ensures.value) at next);
      within = c.in_ok-asked.ensures.within;
    }

pub returns-clause-value : goal.returns-clause-value
returns-clause-value c =
    let none : length (map string_bytes c.loop-left.left.now) ≡ 0 =
    rw length-map (grind (arith, nat_tests, c.loop-left-test.ensures)) in
    sym (c.loop-left.invariant.value ∙ asked_done c.loop-left.asked _ none)
