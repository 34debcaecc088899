use Rattle.std.proofs.Common.{◌≡◌, true, length, refl, sym, subst}
use Rattle.std.specs.Prelude.{MatchResult, None, OnOk, Some}
use Rattle.pool_law.specs.Roots.{laid_over}
use Rattle.pool_law.specs.Views.{in_range, view_of}
use Rattle.pool_member.specs.Alone.{IsAlone}
use Rattle.pool_member.specs.Counting.{is_alone}
use Rattle.buffer_pool.specs.Lones.{bytes_of, lone_no}
use Rattle.pool_member.specs.Windows.{Window}
use Rattle.buffer_pool.proofs.Lones.{if_alone_laid, if_laid, lone_answers}
use Rattle.buffer_pool.proofs.lone.Lone.set.Goals as goal

pub returns-clause-answers : goal.returns-clause-answers
returns-clause-answers g c =
    let a = c.args.thread.now.account in let start = c.args.start in let n = length c.args.bytes.now in
    let kept = subst (λ (w : Window). is_alone a.counts w.at.root ≡ true) (sym c.self.view_is)
    c.in_ok-is_of.ensures.kept in
    subst (λ (w : Window). MatchResult c.set.result (λ _. lone_no a w (in_range w.at start n) ≡ None)
    (λ why. lone_no a w (in_range w.at start n) ≡ Some why)) c.self.view_is
    (lone_answers c.set.result a c.self.inside.buffer (in_range c.self.inside.buffer.at start n) kept
    c.set.ensures.answers)

pub returns-clause-bytes : goal.returns-clause-bytes
returns-clause-bytes g c =
    let old = c.args.thread.now in let new = c.set.new.self in let start = c.args.start in
    let w : Window = c.self.inside.buffer in let n = length c.args.bytes.now in let r = c.set.result in
    let e = c.set.ensures in
    let whole = subst (λ (w : Window). w.at ≡ view_of w.at.root) (sym c.self.view_is) c.in_ok-is_of.ensures.whole in
    let alone = subst (λ (w : Window). IsAlone old w.at.root) (sym c.self.view_is) c.in_ok-is_of.ensures.alone in
    subst (λ (w : Window). OnOk r (bytes_of new w ≡ laid_over (bytes_of old w) start c.args.bytes.now)) c.self.view_is
    (if_laid w whole start n old new alone c.args.bytes.now r refl e.answers e.laid)

pub returns-clause-alone : goal.returns-clause-alone
returns-clause-alone g c =
    let old = c.args.thread.now in let new = c.set.new.self in let start = c.args.start in
    let w : Window = c.self.inside.buffer in let n = length c.args.bytes.now in let r = c.set.result in
    let e = c.set.ensures in
    let whole = subst (λ (w : Window). w.at ≡ view_of w.at.root) (sym c.self.view_is) c.in_ok-is_of.ensures.whole in
    let alone = subst (λ (w : Window). IsAlone old w.at.root) (sym c.self.view_is) c.in_ok-is_of.ensures.alone in
    subst (λ (w : Window). OnOk r (IsAlone new w.at.root)) c.self.view_is
    (if_alone_laid w whole start n old new alone c.args.bytes.now r e.laid)
