use Rattle.std.proofs.Common.{◌+◌, ◌*◌, refl, ◌∙◌, subst, take}
use Rattle.pool_table.specs.declared.views.Layout.{Layout}
use Rattle.shared_pool.specs.Opening.{AreOpened}
use Rattle.frame_cut.proofs.RoomLaws.{is_new_pool}
use Rattle.frame_cut.proofs.openings.new_pool.Goals as goal

pub returns : goal.returns
returns c =
    let x = c.in_ok-pool in let w = c.args.workers in
    is_new_pool w c.args.room c.mail_for-mail.result x.pool x.seats.items (x.ensures.layout ∙ c.layout_for.ensures)
    ((w + 1) * (w + 1)) refl
    (subst (λ (l : Layout).
    AreOpened l (take ((w + 1) * (w + 1)) c.mail_for-mail.result) x.pool x.seats.items)
    c.layout_for.ensures x.ensures.seats)
    c.mail_for-mail.ensures
