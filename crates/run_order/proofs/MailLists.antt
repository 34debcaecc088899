-- What lists of notes post to a mail and fetch from it, one list behind the other.
use Rattle.std.proofs.Common.{◌≡◌, List, [], ◌∷◌, ◌++◌, refl, sym, ap, ◌∙◌}
use Rattle.std.specs.Prelude.{if◌then◌else◌}
use Rattle.pool_law.specs.declared.note.Object.{Object}
use Rattle.pool_law.specs.declared.note.Note.{Note}
use Rattle.pool_law.specs.declared.note.Note.TheVariants.{At, Ref, Busy}
use Rattle.pool_law.specs.Same.{same_object}
use Rattle.pool_law.specs.Kinds.{passing}
use Rattle.pool_law.specs.Mails.{gone, come, posted, fetched}
use Rattle.pool_law.proofs.HistoryLemmas.{append-assoc}

pub posted-append : (mail : Object) (xs ys : List Note) → posted mail (xs ++ ys) ≡ posted mail xs ++ posted mail ys
posted-append mail [] ys = refl
posted-append mail (At o k d ∷ xs) ys =
    ap (λ ps. (if same_object mail o then gone k (passing d) else []) ++ ps) (posted-append mail xs ys)
    ∙ sym (append-assoc (if same_object mail o then gone k (passing d) else []) (posted mail xs) (posted mail ys))
posted-append mail (Ref root did ∷ xs) ys = posted-append mail xs ys
posted-append mail (Busy held ∷ xs) ys = posted-append mail xs ys

pub fetched-append : (mail : Object) (xs ys : List Note)
    → fetched mail (xs ++ ys) ≡ fetched mail xs ++ fetched mail ys
fetched-append mail [] ys = refl
fetched-append mail (At o k d ∷ xs) ys =
    ap (λ fs. (if same_object mail o then come k (passing d) else []) ++ fs) (fetched-append mail xs ys)
    ∙ sym (append-assoc (if same_object mail o then come k (passing d) else []) (fetched mail xs) (fetched mail ys))
fetched-append mail (Ref root did ∷ xs) ys = fetched-append mail xs ys
fetched-append mail (Busy held ∷ xs) ys = fetched-append mail xs ys
