use Rattle.std.proofs.Common.{rules, ◌≡◌, ◌<◌, ℕ, List, [], ◌∷◌, length, sym, ap, ◌∙◌, subst, arith}
use Rattle.std.specs.Prelude.{slice_index}
use Rattle.std.specs.Mem.Slots.{slots_items}
use Rattle.std.proofs.lemmas.List.{get_or_push, get_or_append_left}
use mathlib.Core.Logic.{dite}
use native.Mathlib.Decide.{ℕ_discrete}
use Rattle.step_law.proofs.Changes.{read}
use Rattle.pool_table.specs.Words.{listed_of, word_at}
use Rattle.pool_table.proofs.Words.{word_there}
use Rattle.pool_table.proofs.closing.take_words.Goals as goal

pub word-word-requires : goal.word-word-requires
word-word-requires g c = let s = c.args.shape.now in let i : ℕ = c.loop-i.i in
    let lt : i < listed_of s = subst (λ (n : ℕ). i < n) c.listed_count-count.ensures c.loop-i-test.true in (
      subst (λ (y : ℕ × ℕ). y.0 < y.1) (λ q. (sym c.word_index.ensures q, sym c.requires.full.1 q)) (word_there s i lt),
      c.requires.full.0,
    )

pub loop-i-preserved : goal.loop-i-preserved
loop-i-preserved g c =
    let s = c.args.shape.now in let i : ℕ = c.loop-i.i in let xs = slots_items c.args.closed.now.words in let ws =
    c.loop-i.words.items in let x : ℕ = c.word-word.result in
    let long : length ws ≡ i = search (rules, c.loop-i.invariant.many) in
    let here : slice_index xs (word_at s i) ≡ x = ap (λ (n : ℕ). slice_index xs n) (sym c.word_index.ensures)
    ∙ read xs c.word_index.result x 0 c.word-word.ensures in
    record {
      many = c.in-Ok.ensures.len ∙ (let a = c.loop-i.invariant.many in omega (arith, a));
      laid = λ k lt. ap (λ (l : List ℕ). slice_index l k) c.in-Ok.ensures.items ∙ dite (ℕ_discrete k i)
          (λ e. get_or_push ws x 0 k (long ∙ sym e) ∙ (sym here ∙ ap (λ (n : ℕ). slice_index xs (word_at s n)) (sym e)))
          (λ ne. let near : k < length ws = subst (λ (n : ℕ). k < n) (sym long) (omega (arith, lt, ne)) in
          get_or_append_left ws (x ∷ []) 0 k near ∙ c.loop-i.invariant.laid k (omega (arith, lt, ne)));
      room = (let a = c.loop-i.invariant.room in let b = c.push.ensures.capacity in omega (arith, a, b));
    }
