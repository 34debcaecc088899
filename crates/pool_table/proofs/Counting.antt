-- How many letters a seat's entries send to each lane, as its counts have it.
use Rattle.std.proofs.Common.{◌≡◌, ℕ, ◌+◌, ◌<◌, List, [], ◌∷◌, ◌++◌, length, set, Bool, cond, eqb, sym, refl, ap, ◌∙◌, arith, eq-eqb, ne_eqb, get_or-set_same, get_or-set_other, length-set}
use Rattle.std.specs.Prelude.{Some, None, slice_index, ◌&&◌}
use Rattle.std.proofs.lemmas.List.Sums.{sum_by_push}
use mathlib.Core.Logic.{dite}
use native.Mathlib.Decide.{ℕ_discrete}
use Rattle.pool_law.specs.declared.id.RootId.{RootId}
use Rattle.pool_law.specs.declared.note.RefDid.{RefDid}
use Rattle.pool_table.specs.declared.views.Entry.{Entry}
use Rattle.pool_table.specs.declared.views.Entry.TheVariants.{Ref}
use Rattle.pool_table.specs.declared.views.Letter.{Letter}
use Rattle.pool_table.specs.declared.views.Part.{Part}
use Rattle.pool_table.specs.declared.views.SeatView.{SeatView}
use Rattle.pool_table.specs.Counts.{with_ref}
use Rattle.pool_table.specs.Views.{with_entry}
use Rattle.pool_table.specs.Opened.{AreNone}
use Rattle.pool_table.specs.Letters.{letter_sent, letter_weight, sent_as, is_on_way, sent_on, CountsSent, sends, post_of}

-- an entry that sends no letter adds none
pub none_more : (a b : ℕ) (es : List Entry) (e : Entry) → letter_sent e ≡ None
    → sent_on a b (es ++ e ∷ []) ≡ sent_on a b es
none_more a b es e none =
    let c = sum_by_push (sent_as (is_on_way a b)) es e in
    let z : sent_as (is_on_way a b) e ≡ 0 = ap (letter_weight (is_on_way a b)) none in omega (arith, c, z)

-- the counts of a part that sends no more
pub same_counts : (q : Part) (e : Entry) (counts : List ℕ) → letter_sent e ≡ None → CountsSent q counts
    → CountsSent (record { number = q.number; notes = q.notes ++ e ∷ [] }) counts
same_counts q e counts none old lane to own =
    let was = old lane to own in (was.0, λ lt. was.1 lt ∙ sym (none_more lane to q.notes e none))

pub counts_ref : (v : SeatView) (r : RootId) (d : RefDid) (moves : ℕ) (counts : List ℕ) → CountsSent v.own counts
    → CountsSent (with_ref v r d moves).own counts
counts_ref v r d moves counts old = same_counts v.own (Ref r d) counts refl old

pub counts_entry : (v : SeatView) (e : Entry) (turns : ℕ) (counts : List ℕ) → letter_sent e ≡ None
    → CountsSent v.own counts → CountsSent (with_entry v e turns).own counts
counts_entry v e turns counts none old = same_counts v.own e counts none old

-- the counts of a seat without a number, and of one that made no notes
pub counts_unnumbered : (q : Part) (counts : List ℕ) → q.number ≡ None → CountsSent q counts
counts_unnumbered q counts none lane to own = let e : Some lane ≡ None = sym own ∙ none in absurd (cc e)

pub counts_none : (q : Part) (counts : List ℕ) → q.notes ≡ [] → AreNone 16 counts → CountsSent q counts
counts_none q counts empty none lane to own =
    (none.0, λ lt. none.1 to lt ∙ ap (sent_on lane to) (sym empty))

-- the counts of a seat that sent a letter
pub counts_sent : (v : SeatView) (x : Letter) (counts : List ℕ) → v.own.number ≡ Some x.from → x.to < 16
    → x.number ≡ sent_on x.from x.to v.own.notes + 1 → CountsSent v.own counts
    → CountsSent (sends v x).own (set counts x.to x.number)
counts_sent v x counts number within next old lane to own =
    let lane_is : x.from ≡ lane = (let e : Some x.from ≡ Some lane = sym number ∙ own in cc e) in
    let was = old lane to own in let long : length counts ≡ 16 = was.0 in
    let c = sum_by_push (sent_as (is_on_way lane to)) v.own.notes (post_of x) in
    let first : eqb x.from lane ≡ eqb lane lane = ap (λ (n : ℕ). eqb n lane) lane_is in
    let weighs : sent_as (is_on_way lane to) (post_of x) ≡ cond (eqb x.to to) 1 0 =
    ap (λ (b : Bool). cond {A = ℕ} (b && eqb x.to to) 1 0) (first ∙ eq-eqb lane lane refl) in
    let next' : x.number ≡ sent_on lane x.to v.own.notes + 1 =
    next ∙ ap (λ (n : ℕ). sent_on n x.to v.own.notes + 1) lane_is in
    let inside : x.to < length counts = omega (arith, long, within) in (
      length-set counts x.to x.number ∙ long,
      λ lt. dite (ℕ_discrete to x.to)
          (λ e. let one : cond {A = ℕ} (eqb x.to to) 1 0 ≡ 1 =
          ap (λ (b : Bool). cond {A = ℕ} b 1 0) (eq-eqb x.to to (sym e)) in
          let here : slice_index (set counts x.to x.number) to ≡ x.number =
          ap (λ (k : ℕ). slice_index (set counts x.to x.number) k) e
          ∙ get_or-set_same counts x.to x.number 0 inside in
          let same : sent_on lane to v.own.notes ≡ sent_on lane x.to v.own.notes =
          ap (λ (k : ℕ). sent_on lane k v.own.notes) e in
          omega (arith, c, weighs, one, here, next', same))
          (λ ne. let none : cond {A = ℕ} (eqb x.to to) 1 0 ≡ 0 =
          ap (λ (b : Bool). cond {A = ℕ} b 1 0) (ne_eqb x.to to (λ e. ne (sym e))) in
          let there : slice_index (set counts x.to x.number) to ≡ slice_index counts to =
          get_or-set_other counts x.to to x.number 0 ne in
          let before = was.1 lt in omega (arith, c, weighs, none, there, before)),
    )
