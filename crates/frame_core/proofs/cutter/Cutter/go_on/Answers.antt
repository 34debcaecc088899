use Rattle.std.proofs.Common.{◌≡◌, ◌+◌, ◌≤◌, length, take, ap, ◌∙◌, arith}
use Rattle.std.proofs.lemmas.List.{length-take-le}
use Rattle.frame_core.specs.declared.cutter.Cutter.TheInside.{Inside}
use Rattle.frame_core.proofs.StandingLaws.{Advances-none}
use Rattle.frame_core.proofs.InsideLaws.{head-short, within-is, known_more, known_all, advanced}
use Rattle.frame_core.proofs.cutter.Cutter.go_on.Goals as goal
use Rattle.frame_core.proofs.cutter.Cutter.go_on.Goals.{then-self-lt-HEAD, else-self-lt-HEAD}

pub returns-then-gone-eq0-clause-ok : goal.returns-then-gone-eq0-clause-ok
returns-then-gone-eq0-clause-ok c =
    Advances-none c.args.self.now (head-short c.self.inside c.args.self.now c.self.view_is c.self.told)

pub returns-clause-ok : goal.returns-clause-ok
returns-clause-ok c =
    let old = c.self.inside in
    let n = c.min-gone.result in
    let bytes = take n c.args.rest.now in
    let new = c.if-self-lt-HEAD.self-inside in
    let len : length bytes ≡ n = length-take-le n c.args.rest.now (omega arith) in
    let e = within-is old c.args.self.now c.self.view_is in
    elim c.if-self-lt-HEAD.branch [
      | then-self-lt-HEAD w ↦
          let at = w.self-inside-is in
          let below = w.if-self-lt-HEAD.true in
          let end = c.requires (omega arith) in
          let short : old.within + n ≤ 4 = omega arith in
          advanced old new n bytes c.args.self.now c.self.view_is len
          (ap (λ (x : Inside). x.place) at) (ap (λ (x : Inside). x.frames) at) (ap (λ (x : Inside). x.within) at)
          (ap (λ (x : Inside). x.refusal) at)
          (ap (λ (x : Inside). take (old.within + n) x.head) at
          ∙ known_more old.within n old.head w.keep.new.head bytes len short w.keep.ensures)
      | else-self-lt-HEAD w ↦
          let at = w.self-inside-is in
          let all = w.if-self-lt-HEAD.false in
          advanced old new n bytes c.args.self.now c.self.view_is len
          (ap (λ (x : Inside). x.place) at) (ap (λ (x : Inside). x.frames) at) (ap (λ (x : Inside). x.within) at)
          (ap (λ (x : Inside). x.refusal) at)
          (ap (λ (x : Inside). take (old.within + n) x.head) at ∙ known_all old.within n old.head bytes c.self.told all)
    ]
