use Rattle.std.proofs.Common.{◌≡◌, true, sym, subst}
use Rattle.std.specs.Prelude.{IfOk, MatchResult, None, OnOk, Some}
use Rattle.std.specs.Fn.{FnOnceReturnsAt}
use Rattle.pool_law.specs.Roots.{bytes_at}
use Rattle.pool_law.specs.Views.{in_range, view_of}
use Rattle.pool_member.specs.Alone.{IsAlone}
use Rattle.pool_member.specs.Counting.{is_alone}
use Rattle.buffer_pool.specs.Lones.{bytes_of, lone_no}
use Rattle.pool_member.specs.Windows.{Window}
use Rattle.buffer_pool.proofs.Lones.{if_lent, if_same, if_still, lone_answers}
use Rattle.buffer_pool.proofs.lone.Lone.with_bytes.Goals as goal

pub returns-clause-answers : goal.returns-clause-answers
returns-clause-answers g c =
    let a = c.args.thread.now.account in let start = c.args.start in let n = c.args.len in
    let kept = subst (λ (w : Window). is_alone a.counts w.at.root ≡ true) (sym c.self.view_is)
    c.in_ok-is_of.ensures.kept in
    subst (λ (w : Window). MatchResult c.with_bytes.result (λ _. lone_no a w (in_range w.at start n) ≡ None)
    (λ why. lone_no a w (in_range w.at start n) ≡ Some why)) c.self.view_is
    (lone_answers c.with_bytes.result a c.self.inside.buffer (in_range c.self.inside.buffer.at start n) kept
    c.with_bytes.ensures.answers)

pub returns-clause-bytes : goal.returns-clause-bytes
returns-clause-bytes g c =
    let old = c.args.thread.now in let new = c.with_bytes.new.self in let start = c.args.start in
    let w : Window = c.self.inside.buffer in let n = c.args.len in let r = c.with_bytes.result in
    let e = c.with_bytes.ensures in
    let whole = subst (λ (w : Window). w.at ≡ view_of w.at.root) (sym c.self.view_is) c.in_ok-is_of.ensures.whole in
    let alone = subst (λ (w : Window). IsAlone old w.at.root) (sym c.self.view_is) c.in_ok-is_of.ensures.alone in
    subst (λ (w : Window). IfOk r (λ answer. FnOnceReturnsAt g.F.FnOnce c.args.f
    (bytes_at (bytes_of old w) start c.args.len) answer)) c.self.view_is
    (if_lent w whole start n old new alone
    (λ bs answer. FnOnceReturnsAt g.F.FnOnce c.args.f bs answer) r e.answers e.own)

pub returns-clause-same : goal.returns-clause-same
returns-clause-same g c =
    let old = c.args.thread.now in let new = c.with_bytes.new.self in let start = c.args.start in
    let w : Window = c.self.inside.buffer in let n = c.args.len in let r = c.with_bytes.result in
    let e = c.with_bytes.ensures in
    let whole = subst (λ (w : Window). w.at ≡ view_of w.at.root) (sym c.self.view_is) c.in_ok-is_of.ensures.whole in
    let alone = subst (λ (w : Window). IsAlone old w.at.root) (sym c.self.view_is) c.in_ok-is_of.ensures.alone in
    subst (λ (w : Window). OnOk r (bytes_of new w ≡ bytes_of old w)) c.self.view_is
    (if_same w whole start n old new alone r e.changed)

pub returns-clause-alone : goal.returns-clause-alone
returns-clause-alone g c =
    let old = c.args.thread.now in let new = c.with_bytes.new.self in let start = c.args.start in
    let w : Window = c.self.inside.buffer in let n = c.args.len in let r = c.with_bytes.result in
    let e = c.with_bytes.ensures in
    let whole = subst (λ (w : Window). w.at ≡ view_of w.at.root) (sym c.self.view_is) c.in_ok-is_of.ensures.whole in
    let alone = subst (λ (w : Window). IsAlone old w.at.root) (sym c.self.view_is) c.in_ok-is_of.ensures.alone in
    subst (λ (w : Window). OnOk r (IsAlone new w.at.root)) c.self.view_is
    (if_still w whole start n old new alone r e.changed)
