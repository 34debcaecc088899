-- What a seat counts of the root, once a nest retained or released it.
use Rattle.std.proofs.Common.{◌≡◌, ℕ, ◌+◌, ◌-◌, ◌<◌, Bool, true, false, cond, refl, sym, ap, ◌∙◌, subst, arith, Some, None}
use Rattle.std.specs.Prelude.{Option, IsSome, option_map, unwrap_or, nat_lt, ◌==◌, if◌then◌else◌, slice_get, MatchBool}
use Rattle.std.proofs.lemmas.Bool.{ltb-true}
use Rattle.pool_law.specs.declared.id.RootId.{RootId}
use Rattle.pool_law.specs.declared.note.RefDid.{RefDid}
use Rattle.pool_law.specs.declared.note.RefDid.TheVariants as steps
use Rattle.pool_law.proofs.PatternLemmas.{same_root-refl}
use Rattle.pool_table.specs.declared.roots.EndToken.{EndToken}
use Rattle.shared_pool.specs.declared.seat.PoolSeat.{PoolSeat}
use Rattle.pool_table.specs.declared.views.Entry.TheVariants.{Ref}
use Rattle.pool_table.specs.declared.views.SeatView.{SeatView}
use Rattle.pool_table.specs.Counts.{ref_gain, ref_loss, on_this, fetches, posts, gained_of, lost_of, with_ref, HasCount}
use Rattle.pool_table.proofs.Counts.{weigh_ref}
use Rattle.shared_pool.specs.SeatViews.{view_of}
use Rattle.shared_pool.specs.RootNotes.{IsReleasedAs}
use Rattle.counted_view.specs.Nests.{NestedView, NestState, if_held, held_view, root_counts, slice_no, retain_no}
use Rattle.counted_view.specs.NestSeats.{CountsRoot, IsRetained, IsCountedIn, IsReleasedIf, release_of}
use Rattle.counted_view.proofs.RowLaws.{one}

-- ---- A step on the root's word.

gained_ref : (v : SeatView) (r : RootId) (d : RefDid) (moves : ℕ)
    → gained_of r (with_ref v r d moves) ≡ gained_of r v + ref_gain d
gained_ref v r d moves =
    let words = weigh_ref (on_this ref_gain r) v r d moves in
    let mails = weigh_ref (fetches r) v r d moves in
    let this : on_this ref_gain r (Ref r d) ≡ ref_gain d =
    ap (λ (b : Bool). cond {A = ℕ} b (ref_gain d) 0) (same_root-refl r) in
    omega (arith, words, mails, this)

lost_ref : (v : SeatView) (r : RootId) (d : RefDid) (moves : ℕ)
    → lost_of r (with_ref v r d moves) ≡ lost_of r v + ref_loss d
lost_ref v r d moves =
    let words = weigh_ref (on_this ref_loss r) v r d moves in
    let mails = weigh_ref (posts r) v r d moves in
    let this : on_this ref_loss r (Ref r d) ≡ ref_loss d =
    ap (λ (b : Bool). cond {A = ℕ} b (ref_loss d) 0) (same_root-refl r) in
    omega (arith, words, mails, this)

-- the view counts the root so often
abbrev Counts : RootId → ℕ → SeatView → Type 0
Counts root times v = gained_of root v ≡ lost_of root v + times

counts_ref : (v w : SeatView) (root : RootId) (d : RefDid) (moves before after : ℕ) → w ≡ with_ref v root d moves
    → before + ref_gain d ≡ after + ref_loss d → Counts root before v → Counts root after w
counts_ref v w root d moves before after is sum counts =
    subst (Counts root after) (sym is)
    (let gain = gained_ref v root d moves in let loss = lost_ref v root d moves in
    omega (arith, gain, loss, sum, counts))

pub counts_some : (v : SeatView) (root : RootId) (times : ℕ) → Counts root times v → 0 < times → HasCount root v
counts_some v root times counts some = omega (arith, counts, some)

module _ (root : RootId) (old new : PoolSeat) where
  counted_by : (b : Bool) (times : ℕ) → MatchBool b (IsRetained root old new) (new ≡ old)
      → Counts root times (view_of old) → Counts root (times + one b) (view_of new)
  counted_by true times did counts =
      counts_ref (view_of old) (view_of new) root steps.Retain ((view_of old).moves - 1) times (times + 1)
      (ap (λ m. m.0) did) (omega arith) counts
  counted_by false times did counts =
      subst (λ (s : PoolSeat). Counts root (times + 0) (view_of s)) (sym did) (omega (arith, counts))

  -- one hold more is counted where it is one of view 0
  pub counted_in : (number times : ℕ) → IsCountedIn number root old new → Counts root times (view_of old)
      → Counts root (times + one (number == 0)) (view_of new)
  counted_in number times did counts = counted_by (number == 0) times did counts

  lost_by : (token : Option EndToken) (times : ℕ) → IsReleasedAs (release_of token) root old new
      → Counts root (times + 1) (view_of old) → Counts root times (view_of new)
  lost_by None times did counts =
      counts_ref (view_of old) (view_of new) root steps.Kept ((view_of old).moves + 1) (times + 1) times
      (ap (λ m. m.0) did) (omega arith) counts
  lost_by (Some token) times did counts =
      counts_ref (view_of old) (view_of new) root steps.Ended (view_of old).moves (times + 1) times
      (ap (λ m. m.0) did.2) (omega arith) counts

  -- and one less where the root was released
  pub released_if : (lost : Bool) (token : Option EndToken) (times : ℕ) → IsReleasedIf lost root token old new
      → Counts root (times + one lost) (view_of old) → Counts root times (view_of new)
  released_if true token times did counts = lost_by token times did counts
  released_if false token times did counts =
      subst (λ (s : PoolSeat). Counts root times (view_of s)) (sym did.1) (omega (arith, counts))

-- ---- What the answers say of a nest.

held_some : (b : Bool) (x : NestedView) → IsSome (if b then Some x else None) → b ≡ true
held_some true x h = refl
held_some false x h = absurd (cc h)

holds_by : (o : Option NestedView) → IsSome (if_held o) → 0 < unwrap_or (option_map (λ (x : NestedView). x.holds) o) 0
holds_by None h = absurd (cc h)
holds_by (Some x) h = ltb-true 0 x.holds (held_some (nat_lt 0 x.holds) x h)

-- a nest whose view 0 is held counts its root
pub root_counts-held : (s : NestState) → IsSome (held_view s 0) → 0 < root_counts s
root_counts-held s h = omega (arith, holds_by (slice_get s.views 0) h)

pub some_if_sliced : (full : Bool) (o : Option NestedView) (start len : ℕ) → slice_no full o start len ≡ None → IsSome o
some_if_sliced full None start len e = absurd (cc e)
some_if_sliced full (Some x) start len e = refl

pub some_if_retained : (o : Option NestedView) → retain_no o ≡ None → IsSome o
some_if_retained None e = absurd (cc e)
some_if_retained (Some x) e = refl

-- ---- The nest and the seat.

module _ (s t : NestState) (root : RootId) (old new : PoolSeat) (is : root ≡ s.root)
    (same : t.root ≡ s.root) where
  moved : (k : ℕ) → k ≡ root_counts t → Counts root k (view_of new) → CountsRoot t new
  moved k sum counts =
      subst (λ (r : RootId). Counts r (root_counts t) (view_of new)) (is ∙ sym same)
      (subst (λ (n : ℕ). Counts root n (view_of new)) sum counts)

  was : CountsRoot s old → Counts root (root_counts s) (view_of old)
  was counts = subst (λ (r : RootId). Counts r (root_counts s) (view_of old)) (sym is) counts

  -- the nest and the seat count the root once more, or as often
  pub CountsRoot-more : (number : ℕ) → root_counts t ≡ root_counts s + one (number == 0)
      → IsCountedIn number root old new → CountsRoot s old → CountsRoot t new
  CountsRoot-more number sum did counts =
      moved (root_counts s + one (number == 0)) (sym sum)
      (counted_in root old new number (root_counts s) did (was counts))

  -- and once less, or as often
  pub CountsRoot-less : (lost : Bool) (token : Option EndToken) → root_counts t + one lost ≡ root_counts s
      → IsReleasedIf lost root token old new → CountsRoot s old → CountsRoot t new
  CountsRoot-less lost token sum did counts =
      moved (root_counts t) refl (released_if root old new lost token (root_counts t) did
      (subst (λ (n : ℕ). Counts root n (view_of old)) (sym sum) (was counts)))

  -- a nest that counts its root less counted it
  pub HasCount-lost : (lost : Bool) → root_counts t + one lost ≡ root_counts s → lost ≡ true → CountsRoot s old
      → HasCount root (view_of old)
  HasCount-lost lost sum is_lost counts =
      let counts_one : one lost ≡ 1 = ap one is_lost in
      counts_some (view_of old) root (root_counts s) (was counts) (omega (arith, sum))

-- a seat that counts the root of a nest whose view 0 is held
pub HasCount-held : (s : NestState) (root : RootId) (seat : PoolSeat) (number : ℕ)
    → root ≡ s.root → number ≡ 0 → IsSome (held_view s number) → CountsRoot s seat → HasCount root (view_of seat)
HasCount-held s root seat number is zero held counts =
    let at_zero : IsSome (held_view s 0) = subst (λ (n : ℕ). IsSome (held_view s n)) zero held in
    subst (λ (r : RootId). HasCount r (view_of seat)) (sym is)
    (counts_some (view_of seat) s.root (root_counts s) counts (root_counts-held s at_zero))
