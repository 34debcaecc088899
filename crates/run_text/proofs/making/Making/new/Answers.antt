use Rattle.std.proofs.Common.{◌≡◌, ◌+◌, ◌++◌, ◌∷◌, [], List, length, ap, ◌∙◌, arith}
use Rattle.std.specs.Prelude.{Vec, slice_get}
use Rattle.std.specs.declared.alloc.Global.{Global}
use Rattle.std.proofs.lemmas.List.{length_push}
use Rattle.pool_law.specs.declared.note.Note.{Note}
use Rattle.run_text.specs.Knowing.{notes_in}
use Rattle.run_text.proofs.MakeLemmas.{one_more_empty}
use Rattle.run_text.proofs.making.Making.new.Goals as goal

pub loop-preserved : goal.loop-preserved
loop-preserved c =
    let old = c.loop.logs.items in
    let pushed : c.push.new.self.items ≡ old ++ c.new.result ∷ [] = c.in_ok-push.ensures.items in
    let long = ap length pushed ∙ length_push old c.new.result in (
      long ∙ ap (λ n. n + 1) c.loop.invariant.0,
      λ k low.
          ap (λ (l : List (Vec Note Global)). slice_get (notes_in l) k) pushed
          ∙ one_more_empty old c.new.result c.new.ensures.items c.loop.invariant.1 k (omega (arith, low, long)),
    )
