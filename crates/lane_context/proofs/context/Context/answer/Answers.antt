use Rattle.std.proofs.Common.{◌≡◌, ℕ, ◌-◌, ◌++◌, ◌∷◌, [], length, ap, ◌∙◌, arith}
use Rattle.lane_context.proofs.context.Context.answer.Goals as goal

pub returns-clause-replied : goal.returns-clause-replied
returns-clause-replied c =
    let old = c.args.self.now in
    let first : c.len.result ≡ length old.notes.items = omega (arith, c.len.ensures, old.notes.ok.0) in
    let second : c.len-self.result ≡ length old.notes.items = omega (arith, c.len-self.ensures, old.notes.ok.0) in
    record {
      replies =
          c.in-Ok.ensures.items ∙ ap (λ (n : ℕ). old.replies.items ++ record
          { reply = c.args.reply; notes = n - old.begun } ∷ []) first;
      room = c.in-Ok.ensures.capacity;
      rest = ap (λ (n : ℕ). record old { replies = c.push.new.self; begun = n }) second;
    }
