use Rattle.std.proofs.Common.{◌≡◌, ℕ, zero, suc, ◌+◌, ◌*◌, ◌/◌, ◌%◌, ◌<◌, List, [], ◌∷◌, ◌++◌, length, Some, sym, ap, ◌∙◌, arith, inl, inr, length-append}
use Rattle.std.specs.Prelude.{slice_get}
use Rattle.std.proofs.Math.Nat.{div-lt_iff_lt-mul}
use Rattle.std.proofs.lemmas.Bool.{cases_lt}
use Rattle.std.proofs.lemmas.Nat.{div-mul-add, mod-mul-add, mul-add-lt}
use Rattle.pool_law.specs.declared.command.Command.{Command}
use Rattle.pool_law.proofs.LogLemmas.{lane-at}
use Rattle.lane_core.specs.Lanes.{left_for_all}
use Rattle.trace_top.specs.Needs.{sent}
use Rattle.work_table.proofs.Places.{pushed_before, pushed_last}
use Rattle.trace_top.proofs.needs.mail_for.Goals as goal

some_lane : (n k : ℕ) → n < k * k → 0 < k
some_lane n zero h = absurd (omega (arith, h))
some_lane n (suc k) h = omega arith

abbrev at : List (List Command) → ℕ → ℕ
at lanes k = sent lanes (k / length lanes) (k % length lanes)

sent_more : (lanes : List (List Command)) (mail new : List ℕ) (n x : ℕ) → length mail ≡ n → new ≡ mail ++ x ∷ []
    → ((k : ℕ) → k < n → slice_get mail k ≡ Some (at lanes k)) → x ≡ at lanes n
    → (k : ℕ) → k < n + 1 → slice_get new k ≡ Some (at lanes k)
sent_more lanes mail new n x many is before last k h = elim (cases_lt k n) [
  | inl below ↦ ap (λ (l : List ℕ). slice_get l k) is ∙ pushed_before mail x k (at lanes k) (before k below)
  | inr past ↦
      let here : k ≡ length mail = omega (arith, h, past, many) in
      let same : n ≡ k = omega (arith, h, past) in
      (λ j. slice_get (is j) (here j)) ∙ pushed_last mail x ∙ ap Some (last ∙ ap (at lanes) same)
]

pub loop-index-preserved : goal.loop-index-preserved
loop-index-preserved c =
    let n = c.loop-index.index in
    let lanes = c.args.lanes.now in
    let inv = c.loop-index.invariant in
    let within : n / length lanes < length lanes =
    (div-lt_iff_lt-mul (some_lane n (length lanes) c.loop-index-test.true)).1 c.loop-index-test.true in
    let these =
    c.items.ensures
    ∙ sym (lane-at lanes (n / length lanes) c.index-lanes-index.result within c.index-lanes-index.is) in
    let last : c.sends_to.result ≡ at lanes n =
    c.sends_to.ensures ∙ ap (λ (cs : List Command). (left_for_all cs).sends (n % length lanes)) these in
    record {
      many = omega (
        arith,
        ap (λ (l : List ℕ). length l) c.in_ok-push.ensures.items,
        length-append c.loop-index.mail.items (c.sends_to.result ∷ []),
        inv.many,
      );
      sent_so = sent_more lanes _ _ n c.sends_to.result inv.many c.in_ok-push.ensures.items inv.sent_so last;
    }

pub returns-clause-sent : goal.returns-clause-sent
returns-clause-sent c sender to from_in to_in =
    let lanes = c.args.lanes.now in
    let n = length lanes in
    c.loop-index.invariant.sent_so (sender * n + to)
    (omega (arith, mul-add-lt sender n to n from_in to_in, c.loop-index-test.false))
    ∙ (λ j. Some (sent lanes (div-mul-add sender n to to_in j) (mod-mul-add sender n to to_in j)))
