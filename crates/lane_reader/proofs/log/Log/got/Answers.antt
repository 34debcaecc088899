use Rattle.std.proofs.Common.{◌≡◌, ℕ, List, refl}
use Rattle.std.specs.Prelude.{Option, Some, None}
use Rattle.pool_law.specs.declared.run.Reply.{Reply}
use Rattle.pool_law.specs.Readers.{Log}
use Rattle.lane_reader.specs.Replying.{where_got}
use Rattle.lane_reader.proofs.log.Log.got.Goals as goal

-- a reply that has no bytes answers none
unanswered : (reply : Reply) (o : Option (List ℕ × Log)) →
    ((bytes : List ℕ) → reply ≡ Reply.OkBytes bytes → ⊥) → where_got reply o ≡ None
unanswered reply None h = refl
unanswered (Reply.OkBytes bytes) (Some p) h = absurd (h bytes refl)
unanswered _ (Some p) h = refl

pub returns-in_default : goal.returns-in_default
returns-in_default c before = unanswered c.args.reply.now _ c.in_default.not-OkBytes
