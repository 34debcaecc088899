-- The seat of a cutter further on, behind steps that posted nothing.
use Rattle.std.proofs.Common.{◌≡◌, ℕ, ◌+◌, ◌≤◌, List, [], ◌++◌, length, refl, sym, ap, subst, ◌∙◌, arith, Option, Some, append_assoc, append-nil}
use Rattle.pool_law.specs.declared.id.RootId.{RootId}
use Rattle.pool_law.specs.declared.id.ViewData.{ViewData}
use Rattle.pool_table.specs.declared.views.Entry.{Entry}
use Rattle.pool_table.specs.Letters.{sent_on}
use Rattle.std.specs.Prelude.{unwrap_or}
use Rattle.seat_work.specs.Changes.{Change, times}
use Rattle.seat_work.specs.Hands.{empty_hand}
use Rattle.seat_work.specs.Works.{IsLater, Proceeds, Works}
use Rattle.seat_work.proofs.Proceeding.{works_after}
use Rattle.shared_pool.specs.declared.pool.SharedPool.{SharedPool}
use Rattle.shared_pool.specs.declared.seat.PoolSeat.{PoolSeat}
use Rattle.shared_pool.specs.SeatViews.{view_of}
use Rattle.frame_cutter.specs.Sends.{AreSlices, HasSent, WriteFresh, Writes}
use Rattle.frame_cutter.specs.Standing.{CountsJust}
use Rattle.frame_cutter.proofs.FreshLaws.{fresh_kept, quiet_none}
use Rattle.frame_cutter.proofs.NoteLaws.{PostNothing, sent_kept, slices_kept, writes_kept}
use Rattle.frame_hash.proofs.QuietLaws.{post_nothing_on, quiet_posts}

-- the seat of the lane behind all workers' posted nothing more, writes to new roots alone, counts just
-- these roots, and has so many turns and moves left
pub record HasGone
    (pool : SharedPool) (workers turns moves : ℕ) (roots : List RootId) (old new : PoolSeat) : Type 0
  where
    pub works : Works pool empty_hand turns moves new
    pub lane : (view_of new).own.number ≡ Some workers
    pub added : List Entry
    pub notes : (view_of new).own.notes ≡ (view_of old).own.notes ++ added
    pub unposted : PostNothing added
    pub sent : (to : ℕ) → sent_on workers to (view_of new).own.notes ≤ sent_on workers to (view_of old).own.notes
    pub fresh : WriteFresh (view_of new).own.notes
    pub counts : CountsJust roots (view_of new)

module _ (pool : SharedPool) (workers turns moves : ℕ) (roots : List RootId) (old new : PoolSeat)
    (went : HasGone pool workers turns moves roots old new) where
  pub sent_then : (to : ℕ) (pieces : List (List ℕ)) → HasSent (view_of old).own.notes workers to pieces
      → HasSent (view_of new).own.notes workers to pieces
  sent_then to pieces s =
      subst (λ (es : List Entry). HasSent es workers to pieces) (sym went.notes)
      (sent_kept (view_of old).own.notes went.added workers to pieces
      (ap (λ ps. length ps) (went.unposted workers to)) s)

  pub slices_then : (views : List ViewData) (pieces : List (List ℕ))
      → AreSlices (view_of old).own.notes (Some workers) views pieces
      → AreSlices (view_of new).own.notes (Some workers) views pieces
  slices_then views pieces s =
      subst (λ (es : List Entry). AreSlices es (Some workers) views pieces) (sym went.notes)
      (slices_kept (view_of old).own.notes went.added (Some workers) views pieces s)

  pub writes_then : (root : RootId) (bytes : List ℕ) → Writes (view_of old).own.notes (Some workers) root bytes
      → Writes (view_of new).own.notes (Some workers) root bytes
  writes_then root bytes w =
      subst (λ (es : List Entry). Writes es (Some workers) root bytes) (sym went.notes)
      (writes_kept (view_of old).own.notes went.added (Some workers) root bytes w)

-- ---- No step, and quiet steps.

pub gone_none : (pool : SharedPool) (workers turns moves : ℕ) (roots : List RootId) (s : PoolSeat)
    → Works pool empty_hand turns moves s → (view_of s).own.number ≡ Some workers → WriteFresh (view_of s).own.notes
    → CountsJust roots (view_of s) → HasGone pool workers turns moves roots s s
gone_none pool workers turns moves roots s works lane fresh counts = record {
  works = works;
  lane = lane;
  added = [];
  notes = sym (append-nil (view_of s).own.notes);
  unposted = λ sender receiver. refl;
  sent = λ to. omega arith;
  fresh = fresh;
  counts = counts;
}

-- the roots that are counted behind a change
abbrev pub ChangesTo : Change → List RootId → List RootId → Type 0
ChangesTo c roots after = (root : RootId) → times root c.gone + times root after ≡ times root c.got + times root roots

module _ (pool : SharedPool) (workers turns moves spent moved left rest : ℕ) (c : Change) (old new : PoolSeat)
    (works : Works pool empty_hand turns moves old) (lane : (view_of old).own.number ≡ Some workers)
    (proceeds : Proceeds pool empty_hand spent moved c old new) (enough : left + spent ≤ turns)
    (enough_moves : rest + moved ≤ moves) where
  abbrev pub works_then : Works pool empty_hand left rest new
  works_then =
      works_after pool empty_hand empty_hand turns moves spent moved left rest old new works proceeds.goes enough
      enough_moves

  abbrev pub lane_then : (view_of new).own.number ≡ Some workers
  lane_then = proceeds.goes.number ∙ lane

  pub sent_less : (to : ℕ) → sent_on workers to (view_of new).own.notes ≤ sent_on workers to (view_of old).own.notes
  sent_less to =
      let a = proceeds.sends.sent to in
      let b = ap (λ (n : Option ℕ). sent_on (unwrap_or n 0) to (view_of new).own.notes) lane_then in
      let d = ap (λ (n : Option ℕ). sent_on (unwrap_or n 0) to (view_of old).own.notes) lane in
      omega (arith, a, b, d)

  pub counts_then : (roots after : List RootId) → ChangesTo c roots after → CountsJust roots (view_of old)
      → CountsJust after (view_of new)
  counts_then roots after changes counts root =
      let a = proceeds.changes.counts root in
      let b = changes root in
      let d = counts root in
      omega (arith, a, b, d)

  pub gone_quiet : (roots after : List RootId) → ChangesTo c roots after → CountsJust roots (view_of old)
      → WriteFresh (view_of old).own.notes → IsLater pool old new → HasGone pool workers left rest after old new
  gone_quiet roots after changes counts fresh later = record {
    works = works_then;
    lane = lane_then;
    added = later.added;
    notes = later.grown.notes;
    unposted = quiet_posts later.added later.quiet;
    sent = sent_less;
    fresh =
        subst WriteFresh (sym later.grown.notes)
        (fresh_kept (view_of old).own.notes later.added fresh (quiet_none later.added later.quiet));
    counts = counts_then roots after changes counts;
  }

-- ---- Notes behind others.

-- ---- Steps behind others.

pub gone_on : (pool : SharedPool) (workers turns moves left rest : ℕ) (roots after : List RootId)
    (old mid new : PoolSeat) → HasGone pool workers turns moves roots old mid
    → HasGone pool workers left rest after mid new → HasGone pool workers left rest after old new
gone_on pool workers turns moves left rest roots after old mid new x y = record {
  works = y.works;
  lane = y.lane;
  added = x.added ++ y.added;
  notes =
      y.notes ∙ ap (λ (es : List Entry). es ++ y.added) x.notes
      ∙ append_assoc (view_of old).own.notes x.added y.added;
  unposted = post_nothing_on x.added y.added x.unposted y.unposted;
  sent = λ to. (let a = x.sent to in let b = y.sent to in omega (arith, a, b));
  fresh = y.fresh;
  counts = y.counts;
}
