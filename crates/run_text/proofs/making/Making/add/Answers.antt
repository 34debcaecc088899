use Rattle.std.proofs.Common.{◌++◌, ◌∷◌, [], Some, sym, ap, subst, ◌∙◌}
use Rattle.pool_law.specs.declared.note.Note.{Note}
use Rattle.run_text.specs.Knowing.{IsAt, made_by}
use Rattle.run_text.specs.declared.filling.Filler.{Filler}
use Rattle.run_text.proofs.MakeLemmas.{made_more}
use Rattle.run_text.proofs.WordLemmas.{same_ok}
use Rattle.run_text.proofs.making.Making.add.Goals as goal

pub returns : goal.returns
returns c arenas lanes all before note made told is low =
    let lane = c.args.lane in
    let same = same_ok _ _ _ c.in-Ok.is (c.note.ensures arenas all before note made.filler told is) in
    let at = c.in_ok-pass.ensures arenas all before lane made.filler in
    record {
      filler =
          subst (λ (f : Filler). IsAt arenas all (before ++ (lane, note) ∷ []) f) (sym c.in_ok-put.ensures.filler)
          (subst (λ (n : Note). IsAt arenas all (before ++ (lane, n) ∷ []) c.pass.new.self) same at);
      count = c.in_ok-put.ensures.count ∙ made.count;
      logs = λ k small.
          made_more c.args.self.now.logs.items c.put.new.self.logs.items before lane lanes c.in-Ok.note low made.logs
          c.in_ok-put.ensures.note c.in_ok-put.ensures.others k small
          ∙ ap (λ (n : Note). Some (made_by k (before ++ (lane, n) ∷ []))) same;
    }
