use Rattle.std.proofs.Common.{◌<◌, length, get_or, None, refl, sym, ◌∙◌}
use Rattle.run_check.specs.declared.mails.Passed.{Passed}
use Rattle.run_check.proofs.MailLemmas.{passed-same, same-passed, of-past, no-post, of-here, here-of}
use Rattle.run_check.proofs.mails.is_of_post.Goals as goal

abbrev none : Passed
none = record { number = 0; parcel = record { view = None } }

pub returns-then-fetches-at : goal.returns-then-fetches-at
returns-then-fetches-at c =
    (λ _. of-past c.args.posts.now c.args.fetches.now c.args.at c.if-fetches-at.true, λ _. refl)

pub returns-then-posts-at : goal.returns-then-posts-at
returns-then-posts-at c = (
  λ e. absurd (cc e),
  λ same.
      absurd
      (no-post c.args.posts.now c.args.fetches.now c.args.at none c.if-fetches-at.false c.if-posts-at.true same),
)

pub returns : goal.returns
returns c =
    let posts = c.args.posts.now in
    let fetches = c.args.fetches.now in
    let at = c.args.at in
    let in_fetches : at < length fetches = c.if-fetches-at.false in
    let in_posts : at < length posts = c.if-posts-at.false in (
      λ good.
          of-here posts fetches at none in_posts in_fetches
          (passed-same (get_or fetches at none) (get_or posts at none) (sym c.is_same.ensures ∙ good)),
      λ same.
          c.is_same.ensures
          ∙ same-passed (get_or fetches at none) (get_or posts at none)
          (here-of posts fetches at none in_posts in_fetches same),
    )
