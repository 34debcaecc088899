use Rattle.std.proofs.Common.{List, ap, sym, subst, ◌∙◌}
use Rattle.size_classes.specs.Sizes.{below}
use Rattle.pool_law.specs.Legal.{ends_from}
use Rattle.pool_table.specs.declared.views.Part.{Part}
use Rattle.shared_pool.specs.declared.mail.Mail.{Mail}
use Rattle.shared_pool.specs.Closing.{AreWhole, logs_in}
use Rattle.shared_pool.specs.Joining.{HaveFetches}
use Rattle.shared_pool.specs.Live.{AreLiveRoots}
use Rattle.shared_pool.proofs.JoinedParts.{ends, same_parts}
use Rattle.shared_pool.proofs.pool.SharedPool.close.Goals as goal

pub empty_mails-requires-clause-ends : goal.empty_mails-requires-clause-ends
empty_mails-requires-clause-ends g c =
    subst (λ (mails : List Mail). HaveFetches mails c.args.self.layout.shape.lanes c.args.seats.items)
    (sym c.deref.ensures.value) (ends c.args.self c.args.seats.items c.requires.seats)

pub returns-clause-whole : goal.returns-clause-whole
returns-clause-whole g c =
    subst (AreWhole c.args.self.table.layout.shape)
    (same_parts c.empty_mails.new.seats.items c.args.seats.items c.empty_mails.ensures.same) c.close_in.ensures.whole

pub returns-clause-chunks : goal.returns-clause-chunks
returns-clause-chunks g c =
    let shape = c.args.self.table.layout.shape in
    c.close_in.ensures.chunks
    ∙ ap (λ (ps : List Part). ends_from shape (logs_in ps) (below shape.arenas))
    (same_parts c.empty_mails.new.seats.items c.args.seats.items c.empty_mails.ensures.same)

pub returns-clause-live : goal.returns-clause-live
returns-clause-live g c =
    subst (λ (ps : List Part). AreLiveRoots ps c.close_in.result.live)
    (same_parts c.empty_mails.new.seats.items c.args.seats.items c.empty_mails.ensures.same) c.close_in.ensures.live
