use Rattle.std.proofs.Common.{◌≡◌, ℕ, List, [], ◌∷◌, map, ap, sym, ◌∙◌}
use Rattle.pool_law.specs.declared.command.Command.TheVariants.{Compose}
use Rattle.pool_law.specs.declared.run.Reply.{Reply}
use Rattle.pool_law.specs.LaneStates.{composite_from}
use Rattle.pool_law.specs.Refusals.{refusal, first_refusal, unbound, taken, composite, illegal, too_long}
use Rattle.lane_reader.specs.Refusing.{some_comes}
use Rattle.lane_reader.proofs.RefusalLemmas.{compose-refusals, candidate-read}
use Rattle.lane_reader.proofs.lane.Lane.compose_refused.Goals as goal

pub returns : goal.returns
returns c s is found =
    let shape = c.args.setting.now.shape.now in
    let fresh = c.args.fresh in
    let names = c.args.names.now in
    let unbounds : some_comes (map (unbound s) names) ≡ c.some_unbound.result =
    ap (λ (ns : List ℕ). some_comes (map (unbound s) ns)) (sym c.items-names.ensures)
    ∙ sym (c.some_unbound.ensures s is) in
    let takes : (taken s fresh).comes ≡ c.taken.result = sym (c.taken.ensures s is) in
    let composites : some_comes (map (composite s) names) ≡ c.some_composite.result =
    ap (λ (ns : List ℕ). some_comes (map (composite s) ns)) (sym c.items-names.ensures)
    ∙ sym (c.some_composite.ensures s is) in
    let illegals : some_comes (map (illegal s) names) ≡ c.some_illegal.result =
    ap (λ (ns : List ℕ). some_comes (map (illegal s) ns)) (sym c.items-names.ensures)
    ∙ sym (c.some_illegal.ensures s is) in
    let long : (too_long shape (composite_from s names)).comes ≡ c.is_too_long.result =
    sym (c.is_too_long.ensures (composite_from s names) (candidate-read s (Compose fresh names)) found) in
    compose-refusals shape s fresh names
    ∙ (λ i. first_refusal
    (refusal Reply.Unbound (unbounds i) ∷ refusal Reply.Taken (takes i) ∷ refusal Reply.Composite (composites i)
    ∷ refusal Reply.Illegal (illegals i) ∷ refusal Reply.TooLarge (long i) ∷ []))
    ∙ c.first_of.ensures
