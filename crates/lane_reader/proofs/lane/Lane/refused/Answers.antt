use Rattle.std.proofs.Common.{ℕ, List, length, ap, sym, ⊎_elim, ◌∙◌}
use Rattle.pool_law.specs.declared.command.Command.TheVariants.{Get}
use Rattle.pool_law.specs.Refusals.{first_refusal, refusals}
use Rattle.lane_reader.proofs.RefusalLemmas.{set-refusals}
use Rattle.lane_reader.proofs.lane.Lane.refused.Goals as goal

pub returns-in-Set : goal.returns-in-Set
returns-in-Set c s is found =
    let shape = c.args.setting.now.shape.now in
    let a = c.in-Set in
    rw a.is
    (ap first_refusal (set-refusals shape s a.name a.at a.bytes a.tries)
    ∙ ap (λ (bytes : List ℕ). first_refusal (refusals shape s (Get a.name a.at (length bytes) a.tries)))
    (sym c.items.ensures)
    ∙ c.get_refused.ensures shape s is)

pub returns-in-Get : goal.returns-in-Get
returns-in-Get c s is found = rw c.in-Get.is (c.get_refused-in-Get.ensures c.args.setting.now.shape.now s is)

pub returns-in-Write : goal.returns-in-Write
returns-in-Write c s is found = rw c.in-Write.is (c.write_refused.ensures c.args.setting.now.shape.now s is)

pub returns-in-Read : goal.returns-in-Read
returns-in-Read c s is found = rw c.in-Read.is (c.read_refused.ensures c.args.setting.now.shape.now s is)

pub returns-in-Slice : goal.returns-in-Slice
returns-in-Slice c s is found =
    rw c.in-Slice.is (c.slice_refused.ensures c.args.setting.now.shape.now c.in-Slice.retained s is)

pub returns-in-Dup : goal.returns-in-Dup
returns-in-Dup c s is found = rw c.in-Dup.is (c.dup_refused.ensures c.args.setting.now.shape.now s is)

pub returns-in-Forget : goal.returns-in-Forget
returns-in-Forget c s is found = rw c.in-Forget.is (c.forget_refused.ensures c.args.setting.now.shape.now s is)

pub returns-in-Touch : goal.returns-in-Touch
returns-in-Touch c s is found =
    let same = c.touch_refused.ensures c.args.setting.now.shape.now s is in
    ⊎_elim (λ touch. rw touch same) (λ send. rw send.1 same) c.in-Touch.is

pub returns-in-Retain : goal.returns-in-Retain
returns-in-Retain c s is found =
    let same = c.count_refused.ensures c.args.setting.now.shape.now s is in
    ⊎_elim (λ retain. rw retain same) (⊎_elim (λ release. rw release same) (λ refcnt. rw refcnt same)) c.in-Retain.is
