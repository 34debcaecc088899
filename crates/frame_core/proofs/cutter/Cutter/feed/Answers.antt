use Rattle.std.proofs.Common.{drop}
use Rattle.frame_core.proofs.FeedLaws.{refused-again, not_refused, moves-of_part, cut-of_part, no_cut-of_part}
use Rattle.frame_core.proofs.cutter.Cutter.feed.Goals as goal

pub returns-in-Some-clause-refused : goal.returns-in-Some-clause-refused
returns-in-Some-clause-refused c = λ bytes read.
    refused-again c.self.inside c.args.self.now bytes
    (drop c.args.used c.args.piece.now) c.in-Some.why c.self.view_is c.in-Some.is read

pub returns-in-Ok-clause-cut : goal.returns-in-Ok-clause-cut
returns-in-Ok-clause-cut c =
    cut-of_part c.self.inside c.args.self.now c.args.piece.now c.args.used c.in-Ok.gone c.in-Ok.cut c.self.view_is
    c.in_default.is c.in-Ok.ensures.cut

pub returns-in-Ok-clause-no_cut : goal.returns-in-Ok-clause-no_cut
returns-in-Ok-clause-no_cut c =
    no_cut-of_part c.self.inside c.args.self.now c.args.piece.now c.args.used c.in-Ok.gone c.in-Ok.cut
    c.self.view_is c.in_default.is c.requires c.in-Ok.ensures.no_cut

pub returns-in-Ok-clause-again : goal.returns-in-Ok-clause-again
returns-in-Ok-clause-again c = λ bytes why read refused.
    absurd (not_refused c.self.inside c.args.self.now bytes why c.self.view_is c.in_default.is read refused)

pub returns-in-Err-clause-again : goal.returns-in-Err-clause-again
returns-in-Err-clause-again c = λ bytes why read refused.
    absurd (not_refused c.self.inside c.args.self.now bytes why c.self.view_is c.in_default.is read refused)

pub returns-in-Ok-clause-moves : goal.returns-in-Ok-clause-moves
returns-in-Ok-clause-moves c =
    moves-of_part c.self.inside c.args.self.now c.args.piece.now c.args.used c.in-Ok.gone c.in-Ok.cut c.self.view_is
    c.in_default.is c.in-Ok.ensures.cut c.in-Ok.ensures.no_cut
