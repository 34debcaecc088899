use Rattle.std.proofs.Common.{◌<◌, Bool, [], ◌∷◌, length, sym, ap, subst, arith, length-append}
use Rattle.std.specs.Prelude.{vec_capacity}
use Rattle.pool_law.specs.declared.note.Note.{Note}
use Rattle.lane_context.specs.ContextSteps.{FindsBusy}
use Rattle.lane_context.proofs.context.Context.find_busy.Goals as goal

pub answer-requires : goal.answer-requires
answer-requires c =
    let old = c.args.self.now in let noted = c.note.ensures in
    let a = ap (λ (ns : _). length ns) noted.log in let b =
    length-append old.notes.items (Note.Busy c.args.held ∷ []) in
    let d = c.requires.may.begun in let e = c.requires.few in let f = ap (λ x. x.begun) noted.rest in
    record {
      begun = omega (arith, a, b, d, f);
      few = omega (arith, a, b, e);
      room =
          subst (λ x. length x.replies.items < vec_capacity x.replies) (sym noted.rest) c.requires.may.room;
    }

pub returns : goal.returns
returns c =
    subst (λ (b : Bool). FindsBusy b c.args.self.now c.answer.new.self c.args.held c.answer.result)
    (sym c.if-not-tries.false) (c.note.new.self, c.note.ensures, c.answer.ensures.replied, c.answer.ensures.ready)
