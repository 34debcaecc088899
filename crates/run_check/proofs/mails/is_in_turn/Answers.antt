use Rattle.std.proofs.Common.{◌+◌, ◌<◌, length, get_or, None, refl, sym, eqb-true, eq-eqb, ◌∙◌}
use Rattle.run_check.specs.declared.mails.Passed.{Passed}
use Rattle.run_check.proofs.MailLemmas.{turn-past, turn-here, here-turn}
use Rattle.run_check.proofs.mails.is_in_turn.Goals as goal

abbrev none : Passed
none = record { number = 0; parcel = record { view = None } }

pub returns-then-posts-at : goal.returns-then-posts-at
returns-then-posts-at c = (λ _. turn-past c.args.posts.now c.args.at c.if-posts-at.true, λ _. refl)

pub returns : goal.returns
returns c =
    let posts = c.args.posts.now in
    let at = c.args.at in
    let there : at < length posts = c.if-posts-at.false in (
      λ good.
          turn-here posts at none there
          (eqb-true (get_or posts at none).number (at + 1) (sym c.has_number.ensures ∙ good)),
      λ turn.
          c.has_number.ensures ∙ eq-eqb (get_or posts at none).number (at + 1) (here-turn posts at none there turn),
    )
