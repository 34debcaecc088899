-- In a legal run each parcel is posted to a lane of the run.
use Rattle.std.proofs.Common.{◌≡◌, ℕ, ◌≤◌, List, [], ◌∷◌, ◌++◌, length, refl, arith, Bool, true, false, ltb-true}
use Rattle.std.specs.Prelude.{◌<◌, nat_lt, if◌then◌else◌, map}
use Rattle.pool_law.specs.declared.id.RegionId.{RegionId}
use Rattle.pool_law.specs.declared.command.Command.{Command}
use Rattle.pool_law.specs.declared.note.Object.{Object}
use Rattle.pool_law.specs.declared.note.Did.{Did}
use Rattle.pool_law.specs.declared.note.Did.TheVariants.{Post, Give, Shed, Trim, Close, Birth, Grow, End}
use Rattle.pool_law.specs.declared.note.Note.{Note}
use Rattle.pool_law.specs.declared.note.Note.TheVariants.{At}
use Rattle.pool_law.specs.declared.run.Shape.{Shape}
use Rattle.pool_law.specs.declared.run.Answered.{Answered}
use Rattle.pool_law.specs.Logs.{Logs, of_lane, entry_of}
use Rattle.pool_law.specs.Legal.{fits_after, all_fit}
use Rattle.run_laws.specs.Parcels.{PostsWithin}
use Rattle.arena_laws.specs.Slots.{EachOf}
use Rattle.pool_law.specs.Readers.{ToldNotes}
use Rattle.pool_law.specs.LaneLaw.{IsLaneLog}
use Rattle.pool_law.proofs.SameLemmas.{and-first, and-second}
use Rattle.run_laws.proofs.Sums.{sum_by, sum-at, sum-none}
use Rattle.run_laws.proofs.Acts.{sum_notes, IsOther, Less, less-acts}
use Rattle.run_laws.proofs.CommandActs.{Sends}
use Rattle.run_laws.proofs.LaneActs.{MayDrain, log-acts}
use Rattle.run_laws.proofs.LogEntries.{lane-there, sum-entries}

-- a post is to one of so many lanes
abbrev pub NearPosts : ℕ → Object → Did → Type 0
NearPosts lanes (Object.Mail from to) (Post parcel) = nat_lt to lanes ≡ true
NearPosts lanes _ _ = Unit {0}

-- a post to a lane that is not one of so many
abbrev pub strays : ℕ → Note → ℕ
strays lanes (At (Object.Mail from to) k (Post p)) = if nat_lt to lanes then 0 else 1
strays lanes _ = 0

abbrev pub IsPost : Did → Type 0
IsPost (Post parcel) = Unit {0}
IsPost _ = ⊥

pub none-strays : (lanes : ℕ) (o : Object) (k : ℕ) (d : Did) → (IsPost d → ⊥) → strays lanes (At o k d) ≡ 0
none-strays lanes (Object.Mail from to) k (Post p) post = absurd (post tt)
none-strays lanes (Object.Mail from to) k _ post = refl
none-strays lanes _ k d post = refl

pub strays-less : (lanes : ℕ) → Less (NearPosts lanes) (strays lanes) (λ n. 0)
strays-less lanes =
    record {
      other = other;
      birth = λ o k root r. omega (arith, none-strays lanes o k (Birth root r) (λ x. x));
      growth = λ o k c r. omega (arith, none-strays lanes o k (Grow c r) (λ x. x));
      end = λ o k root. omega (arith, none-strays lanes o k (End root) (λ x. x));
      shed =
          λ o p k l r may. omega (
            arith,
            none-strays lanes o k (Shed r) (λ x. x),
            none-strays lanes p l (Give r)
                (λ x. x),
          );
    }
  where
    other : (n : Note) → IsOther (NearPosts lanes) n → strays lanes n ≤ 0
    other (At (Object.Mail from to) k (Post p)) near = rw near (omega arith)
    other _ near = omega arith

pub sends-fit : (shape : Shape) (earlier cs : List Command) → all_fit shape earlier cs ≡ true
    → EachOf (Sends (NearPosts shape.lanes)) cs
sends-fit shape earlier [] e = tt
sends-fit shape earlier (c ∷ cs) e = (
  send c (and-first (fits_after shape earlier c) (all_fit shape (earlier ++ c ∷ []) cs) e),
  sends-fit shape
      (earlier ++ c ∷ []) cs (and-second (fits_after shape earlier c) (all_fit shape (earlier ++ c ∷ []) cs) e),
)
  where
    send : (c : Command) → fits_after shape earlier c ≡ true → Sends (NearPosts shape.lanes) c
    send (Command.Send name to) e = λ lane parcel. e
    send _ e = tt

pub log-near : (shape : Shape) (lane : ℕ) (commands : List Command) (replies : List Answered) (es : ToldNotes)
    → all_fit shape [] commands ≡ true → IsLaneLog shape lane commands replies es
    → sum_notes (strays shape.lanes) es ≡ 0
log-near shape lane commands replies es fit log =
    let less : sum_notes (strays shape.lanes) es ≤ sum_by (λ e. 0) es =
    less-acts (NearPosts shape.lanes) (strays shape.lanes) (λ n. 0) (strays-less shape.lanes) es []
    (log-acts (NearPosts shape.lanes) (may shape.lanes) shape lane commands replies es
    (sends-fit shape [] commands fit) log) (omega arith) in
    omega (arith, less, sum-none es)
  where
    may : (lanes : ℕ) → MayDrain (NearPosts lanes)
    may lanes = record { trims = λ o q. trims o q; closes = λ o q. closes o q; sheds = λ o r. sheds o r }
      where
        trims : (o : Object) (q : ℕ) → NearPosts lanes o (Trim q)
        trims (Object.Mail from to) q = tt
        trims _ q = tt

        closes : (o : Object) (q : ℕ) → NearPosts lanes o (Close q)
        closes (Object.Mail from to) q = tt
        closes _ q = tt

        sheds : (o : Object) (r : RegionId) → NearPosts lanes o (Shed r)
        sheds (Object.Mail from to) r = tt
        sheds _ r = tt

pub posts-within : (logs : Logs) (lanes : ℕ)
    → ((lane : ℕ) → lane < length logs → sum_notes (strays lanes) (map (entry_of logs) (of_lane logs lane)) ≡ 0)
    → PostsWithin logs lanes
posts-within logs lanes near from to p d = go (nat_lt to lanes) refl
  where
    go : (b : Bool) → nat_lt to lanes ≡ b → to < lanes
    go true e = ltb-true to lanes e
    go false e =
        let weight : strays lanes (At (Object.Mail from to) d.number (Post p)) ≡ 1 = (rw e refl) in
        absurd (omega (
          arith,
          weight,
          sum-at (strays lanes) (of_lane logs d.lane) d.at
              (At (Object.Mail from to) d.number (Post p)) d.stands,
          sum-entries logs (strays lanes)
              (of_lane logs d.lane),
          near d.lane
              (lane-there logs d.lane d.at (At (Object.Mail from to) d.number (Post p)) d.stands),
        ))
