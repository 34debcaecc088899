-- An ask for capacity that may begin.
use Rattle.std.proofs.Common.{◌≡◌, ℕ, ◌+◌, ◌<◌, ◌≤◌, Bool, true, false, None, Some, refl, ◌∙◌, arith, rules}
use Rattle.std.specs.Prelude.{Err, IsTrue, ◌&&◌, ◌==◌, nat_le, nat_lt, if◌then◌else◌}
use mathlib.Core.Logic.{inl, inr}
use Rattle.std.proofs.lemmas.Bool.{cases_lt, eqb-true, le-ltb}
use Rattle.std.proofs.lemmas.Bool.Decides.{nat_tests}
use Rattle.size_classes.specs.Sizes.{chunk_bytes, Geometry}
use Rattle.pool_law.specs.Views.{reaching}
use Rattle.seat_work.specs.declared.regrowth.GrowNo.{GrowNo}
use Rattle.seat_work.specs.declared.regrowth.GrowNo.TheVariants.{Full as NoRegion}
use Rattle.seat_work.specs.Changes.{no_change}
use Rattle.seat_work.specs.Regrowths.{grown, reply_of}
use Rattle.pool_law.specs.declared.run.Reply.{Reply}
use Rattle.pool_member.specs.declared.account.Account.{Account}
use Rattle.pool_member.specs.declared.answers.CapacityNo.TheVariants.{NotHere, Spent, TooLarge}
use Rattle.pool_member.specs.Counting.{counted, known}
use Rattle.pool_member.specs.Refusals.{is_here}
use Rattle.pool_member.specs.Regrowths.{capacity_no}
use Rattle.pool_member.specs.Windows.{Window}

here_of : (a : Account) (w : Window) → a.lane ≡ w.thread → 0 < counted a.counts w.at.root
    → w.at.offset + w.at.len ≤ known a.counts w.at.root → IsTrue (is_here a w)
here_of a w own counts reaches = first_of (search rules, grind (arith, nat_tests))

may_ask : (here large spent : Bool) → here ≡ true → large ≡ false → spent ≡ false
    → (if here
    then (if large then Some TooLarge else (if spent then Some Spent else None))
    else Some NotHere) ≡ None
may_ask true false false a b c = refl
may_ask false large spent a b c = absurd (cc a)
may_ask true true spent a b c = absurd (cc b)
may_ask true false true a b c = absurd (cc c)

-- the buffer is here, the size is within the chunk, and there are turns
pub no_cause : (g : Geometry) (a : Account) (w : Window) (size : ℕ) → is_here a w ≡ true
    → (chunk_bytes g < size → ⊥) → 6 ≤ a.turns → capacity_no g a w size ≡ None
no_cause g a w size here within turns =
    let small : size ≤ chunk_bytes g = elim (cases_lt (chunk_bytes g) size) [
      | inl lt ↦ absurd (within lt)
      | inr le ↦ le
    ] in
    may_ask (is_here a w) (nat_lt (chunk_bytes g) size) (nat_lt a.turns 6) here (le-ltb (chunk_bytes g) size small)
    (le-ltb a.turns 6 turns)

-- ---- What is so of a buffer that is here, and of one that reaches further then.

first : (x y z : Bool) → (x && y && z) ≡ true → x ≡ true
first true y z e = refl
first false y z e = absurd (cc e)

third : (x y z : Bool) → (x && y && z) ≡ true → z ≡ true
third x y true e = refl
third true true false e = absurd (cc e)
third true false false e = absurd (cc e)
third false y false e = absurd (cc e)

at_most : (a b : ℕ) → nat_le a b ≡ true → a ≤ b
at_most a b e = grind (arith, nat_tests)

module _ (a : Account) (w : Window) (here : is_here a w ≡ true) where
  pub reaches : w.at.offset + w.at.len ≤ known a.counts w.at.root
  reaches =
      at_most (w.at.offset + w.at.len) (known a.counts w.at.root)
      (third (a.lane == w.thread) (nat_lt 0 (counted a.counts w.at.root))
      (nat_le (w.at.offset + w.at.len) (known a.counts w.at.root)) here)

  own : a.lane ≡ w.thread
  own =
      eqb-true a.lane w.thread
      (first (a.lane == w.thread) (nat_lt 0 (counted a.counts w.at.root))
      (nat_le (w.at.offset + w.at.len) (known a.counts w.at.root)) here)

  pub reaches_on : (b : Account) (bytes : ℕ) → b.lane ≡ a.lane → 0 < counted b.counts w.at.root
      → w.at.offset + w.at.len ≤ bytes → bytes ≤ known b.counts w.at.root
      → IsTrue (is_here b (record w { at = reaching bytes w.at }))
  reaches_on b bytes same counts lies knows =
      here_of b (record w { at = reaching bytes w.at }) (same ∙ own) counts (omega (arith, lies, knows))

-- ---- What a seat tells that found no region.

pub full_told : (no : GrowNo) → grown (Err no) ≡ record no_change { full = 1 }
full_told NoRegion = refl

pub full_reply : (no : GrowNo) → reply_of (Err no) ≡ Err Reply.Full
full_reply NoRegion = refl
