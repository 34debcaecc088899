-- What a thread did that made a parcel or accepted one, from what the work on its pool told.
use Rattle.std.proofs.Common.{◌≡◌, ℕ, ◌+◌, ◌<◌, ◌≤◌, [], ◌∷◌, Bool, true, false, Option, Some, None, refl, ap, ◌∙◌, subst}
use Rattle.std.specs.Prelude.{◌==◌, if◌then◌else◌, nat_le, nat_lt, option_map}
use Rattle.std.proofs.lemmas.Bool.{eq-eqb, le-leb, lt-ltb}
use Rattle.pool_law.specs.declared.id.ViewData.{ViewData}
use Rattle.pool_law.specs.Views.{most_capacity}
use Rattle.pool_table.specs.Letters.{next_letter}
use Rattle.shared_pool.specs.Posting.{PostedLetter}
use Rattle.shared_pool.specs.SeatViews.{view_of}
use Rattle.seat_work.specs.Changes.{no_change, once_more}
use Rattle.pool_member.specs.declared.account.Account.{Account}
use Rattle.pool_member.specs.declared.member.Member.{Member}
use Rattle.pool_member.specs.Counting.{counted, known}
use Rattle.pool_member.specs.Refusals.{accept_no}
use Rattle.pool_member.specs.Threads.{Does}
use Rattle.pool_member.specs.Windows.{IsParcelOf}
use Rattle.pool_c.specs.declared.buffer.PoolBuffer.{PoolBuffer}
use Rattle.pool_c.specs.declared.carried.Carried.{Carried}
use Rattle.pool_c.specs.declared.codes.Refusal.{Refusal}
use Rattle.pool_c.specs.declared.codes.Refusal.TheVariants.{NoThread, NotHere}
use Rattle.pool_c.specs.declared.held.Common.{Common}
use Rattle.pool_c.specs.Parcels.{accept_refusal, arrived, of_accept, HasAccepted, HasParted, letter_refusal, part_refusal, sent_view}
use Rattle.pool_c.specs.Refusals.{buffer_refusal, window_of}
use Rattle.pool_c.proofs.Allocated.{here_of}

-- a refusal that no test is left for
past_one : (p : Bool) (x y : Option Refusal) → p ≡ true → x ≡ None → (if p then x else y) ≡ None
past_one true x y e f = f
past_one false x y e f = absurd (cc e)

-- ---- A parcel that is made.

pub may_part : (c : Common) (a : Account) (b : PoolBuffer) (to : ℕ) → to < c.threads
    → b.offset + b.length ≤ most_capacity → buffer_refusal c a b true 1 0 ≡ None → part_refusal c a b to ≡ None
may_part c a b to is lies may =
    let inner = if nat_le (b.offset + b.length) most_capacity then buffer_refusal c a b true 1 0 else Some NotHere in
    past_one (nat_lt to c.threads) inner (Some NoThread) (lt-ltb to c.threads is)
    (past_one (nat_le (b.offset + b.length) most_capacity) (buffer_refusal c a b true 1 0) (Some NotHere)
    (le-leb (b.offset + b.length) most_capacity lies) may)

module _ (b : PoolBuffer) (to : ℕ) (c : Common) (old new : Member) (p : Carried) (letter : PostedLetter)
    (posted : p.posted ≡ Some letter) (pool : p.pool ≡ c.name) (parcel : IsParcelOf c.shared letter)
    (moves : new.account.moves ≡ old.account.moves) where
  pub has_parted : (at : ViewData) → at ≡ sent_view b
      → letter.letter ≡ next_letter to (record { view = Some at }) (view_of old.seat)
      → Does c.shared 1 (record no_change { gone = at.root ∷ [] }) (Some at.root) old new
      → HasParted b to c old new p
  has_parted at is next does = record {
    letter = letter;
    posted = posted;
    pool = pool;
    letter_is = next ∙ ap (λ v. next_letter to (record { view = Some v }) (view_of old.seat)) is;
    parcel = parcel;
    does =
        subst (λ (v : ViewData). Does c.shared 1 (record no_change { gone = v.root ∷ [] }) (Some v.root) old new) is
        does;
    moves = moves;
  }

-- ---- A parcel that is accepted.

pub may_accept : (c : Common) (a : Account) (p : Carried) (letter : PostedLetter) → p.pool ≡ c.name
    → p.posted ≡ Some letter → accept_no a letter.letter ≡ None → accept_refusal c a p ≡ None
may_accept c a p letter named posted may =
    past_one (p.pool == c.name) (letter_refusal a p.posted) (Some NotHere) (eq-eqb p.pool c.name named)
    (ap (letter_refusal a) posted ∙ ap (option_map of_accept) may)

pub has_accepted : (p : Carried) (c : Common) (old new : Member) (letter : PostedLetter) (at : ViewData)
    → p.posted ≡ Some letter → letter.letter.parcel.view ≡ Some at → 0 < counted new.account.counts at.root
    → at.offset + at.len ≤ known new.account.counts at.root → Does c.shared 1 (once_more at.root) None old new
    → new.account.moves ≡ old.account.moves
    → HasAccepted p c old new (arrived c.name new.account.lane at)
has_accepted p c old new letter at posted view counts reaches does moves = record {
  letter = letter;
  posted = posted;
  at = at;
  view = view;
  buffer = ap (λ n. arrived c.name n at) does.changed.number;
  here = here_of new.account (window_of (arrived c.name new.account.lane at)) refl counts reaches;
  does = does;
  moves = moves;
}
