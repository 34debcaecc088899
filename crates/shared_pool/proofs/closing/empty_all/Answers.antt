use Rattle.std.proofs.Common.{◌+◌, ◌*◌, sym, ap, subst, arith}
use Rattle.std.specs.Prelude.{HoldsAt}
use Rattle.std.proofs.lemmas.List.{get_or-set_other}
use Rattle.crossbeam_queue.specs.Passes.{Pass}
use Rattle.shared_pool.specs.declared.mail.Mail.{Mail}
use Rattle.shared_pool.specs.Joining.{IsFetchesOf}
use Rattle.shared_pool.specs.MailEnds.{KnownEnds}
use Rattle.shared_pool.specs.Posting.{PostedLetter}
use Rattle.shared_pool.proofs.MailWays.{no_end, within}
use Rattle.shared_pool.proofs.closing.empty_all.Goals as goal

pub loop-from-init : goal.loop-from-init
loop-from-init g c = λ k _ lt. c.requires.ends k lt

pub index_mut-requires : goal.index_mut-requires
index_mut-requires g c =
    let lt = within
    (λ (pass : Pass PostedLetter KnownEnds).
    HoldsAt (λ (m : Mail). IsFetchesOf m pass) c.args.mails.now (c.loop-from.from * c.args.lanes + c.args.lane))
    c.loop-from.ends.items c.loop-from.from no_end
    (λ end. let is = (end c.index-mails-from.result).1 in let b = ap (λ (k : KnownEnds). k.sends) is in cc)
    (c.loop-from.invariant c.loop-from.from (omega arith) c.loop-from-test.true) in
    let many = c.loop-from.ends.ok.0 in omega (arith, lt, many)

pub loop-from-preserved : goal.loop-from-preserved
loop-from-preserved g c = λ k le lt d.
    subst
    (λ (pass : Pass PostedLetter KnownEnds).
    HoldsAt (λ (m : Mail). IsFetchesOf m pass) c.args.mails.now (k * c.args.lanes + c.args.lane))
    (sym (get_or-set_other c.loop-from.ends.items c.loop-from.from k c.empty.new.pass d
    (λ e. omega (arith, e, le))))
    (c.loop-from.invariant k (omega (arith, le)) lt d)
