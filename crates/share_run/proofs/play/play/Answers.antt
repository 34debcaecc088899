use Rattle.std.proofs.Common.{◌≡◌, ℕ, List, drop, length, map, sym, ap, subst, ◌∙◌, arith}
use Rattle.std.proofs.lemmas.List.{take_at}
use Rattle.std.proofs.lemmas.Result.{IfOk-weaker}
use Rattle.share_text.specs.Lines.{text_of, text_with}
use Rattle.share_run.specs.declared.readers.Reader.{Reader}
use Rattle.share_run.specs.Reading.{HaveSeen, asked_of}
use Rattle.share_run.specs.Standing.{AreBounded}
use Rattle.share_run.proofs.PlayLaws.{are_bounded, text_is}
use Rattle.share_run.proofs.play.play.Goals as goal

pub play_in_pool-requires-clause-bounded : goal.play_in_pool-requires-clause-bounded
play_in_pool-requires-clause-bounded g c κs within =
    subst AreBounded (sym c.items-composites.ensures) (are_bounded c.args.input.now c.requires)

pub returns : goal.returns
returns g c =
    let input = c.args.input.now in let old = c.as_mut_slice-slice.result.now in
    let new = c.play_in_pool.new.readers in let released = c.play_in_pool.new.released.items in
    let seen = c.in_ok-seen.seen.items in let composites = c.items-composites.ensures in
    let have : HaveSeen c.items-composites.result.now old new = c.in_ok-play_in_pool.ensures.seen in
    let first : old ≡ c.in_ok-readers.readers.items = c.as_mut_slice-slice.ensures.value in
    let vec = c.in_ok-readers.readers in
    let many : length new ≡ vec.len =
    (let a = c.play_in_pool.auto.readers in let b = ap (λ (rs : List Reader). length rs) first in
    let e = vec.ok.0 in omega (arith, a, b, e)) in
    let told : seen ≡ map (λ (r : Reader). r.seen.items) new =
    c.in_ok-seen.ensures
    ∙ ap (map (λ (r : Reader). r.seen.items)) (take_at new (drop (length new) vec.items) vec.len many) in
    let all : released ≡ map (λ (parts : List (List ℕ)). length parts) c.items-composites.result.now =
    c.in_ok-play_in_pool.ensures.released in
    IfOk-weaker c.text_with.result (λ text. text ≡ text_with c.deref-3.result.now c.deref-4.result.now)
    (λ text. text ≡ text_of input)
    (λ text is. text_is input seen old new released text
    (is ∙ (λ i. text_with (c.deref-3.ensures.value i) (c.deref-4.ensures.value i))) told
    (subst (λ (cs : List (List (List ℕ))). HaveSeen cs old new) composites have)
    (ap asked_of first ∙ c.in_ok-readers.ensures.asked ∙ c.items.ensures)
    (all ∙ ap (map (λ (parts : List (List ℕ)). length parts)) composites))
    c.text_with.ensures
