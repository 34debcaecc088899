-- What the notes of a root that is asked for capacity do to what is counted.
use Rattle.std.proofs.Common.{◌≡◌, ℕ, ◌+◌, [], ◌∷◌, Bool, true, false, refl, arith}
use Rattle.std.specs.Prelude.{sum_by}
use Rattle.pool_law.specs.declared.id.RootId.{RootId}
use Rattle.pool_law.specs.declared.note.Did.{Did}
use Rattle.pool_law.specs.declared.note.Did.TheVariants.{Post, Fetch, Birth}
use Rattle.pool_law.specs.declared.note.Held.{Held}
use Rattle.pool_law.specs.declared.note.Noted.{Noted}
use Rattle.pool_law.specs.declared.note.Object.{Object}
use Rattle.leak_records.specs.Records.{Sampling}
use Rattle.pool_table.specs.declared.views.Entry.{Entry}
use Rattle.pool_table.specs.declared.views.Entry.TheVariants.{At, Busy}
use Rattle.pool_table.specs.declared.views.SeatView.{SeatView}
use Rattle.pool_table.specs.Counts.{HasCount, weigh, on_this, ref_gain, ref_loss, fetches, posts}
use Rattle.shared_pool.specs.Closing.{entry_of}
use Rattle.seat_work.proofs.Counting.{gain_in, loss_in}
use Rattle.seat_work.proofs.Grown.{Grows, weigh_more}
use Rattle.lane_stages.specs.Sampled.{AreSampled}
use Rattle.lane_stages.proofs.EntryCounts.{IsStill}

-- what was done passes no parcel and bears no root
abbrev pub keeps_counts : Did → Bool
keeps_counts (Post parcel) = false
keeps_counts (Fetch parcel) = false
keeps_counts (Birth root region) = false
keeps_counts _ = true

-- the entry is of no count, passes no parcel and bears no root
pub record KeepsCounts (e : Entry) : Type 0 where
  pub still : IsStill (entry_of e).note
  pub counts : (q : RootId) → gain_in q (e ∷ []) ≡ loss_in q (e ∷ [])
  pub sampled : (s : Sampling) → AreSampled s (e ∷ []) s

module _ (o : Object) (k : ℕ) (n : Noted) where
  abbrev with_did : Did → Entry
  with_did did = At o k (record n { did = did })

  keeps_with : (did : Did) → keeps_counts did ≡ true → KeepsCounts (with_did did)
  keeps_with (Post parcel) is = absurd (cc is)
  keeps_with (Fetch parcel) is = absurd (cc is)
  keeps_with (Birth root region) is = absurd (cc is)
  keeps_with _ is = record {
    still = record { gains = λ q. refl; loses = λ q. refl; needs = λ q. refl; ends = λ q. refl };
    counts = λ q. refl;
    sampled = λ s. (tt, refl);
  }

  pub keeps_note : keeps_counts n.did ≡ true → KeepsCounts (At o k n)
  keeps_note = keeps_with n.did

pub keeps_mark : (held : Held) → KeepsCounts (Busy held)
keeps_mark held = record {
  still = record { gains = λ q. refl; loses = λ q. refl; needs = λ q. refl; ends = λ q. refl };
  counts = λ q. refl;
  sampled = λ s. refl;
}

-- a root that the view counted is counted still
pub counts_still : (v w : SeatView) (e : Entry) (spent : ℕ) → Grows v w (e ∷ []) spent → KeepsCounts e → (q : RootId)
    → HasCount q v → HasCount q w
counts_still v w e spent grows keeps q has =
    let a = more (on_this ref_gain q) in let b = more (fetches q) in let c = more (on_this ref_loss q) in
    let d = more (posts q) in let t = keeps.counts q in omega (arith, a, b, c, d, t, has)
  where
    more : (f : Entry → ℕ) → weigh f w ≡ weigh f v + sum_by f (e ∷ [])
    more f = weigh_more v w (e ∷ []) spent grows f
