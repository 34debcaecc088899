-- What lanes count and look up, one entry further.
use Rattle.std.proofs.Common.{ℕ, ◌+◌, Bool, List, ◌∷◌, subst}
use Rattle.std.specs.Prelude.{◌↔◌, IsTrue}
use Rattle.pool_law.specs.declared.note.Note.TheVariants.{Ref}
use Rattle.pool_law.specs.declared.note.RefDid.TheVariants.{Look}
use Rattle.pool_law.proofs.SameLemmas.{same_root-is}
use Rattle.pool_law.specs.declared.id.RootId.{RootId}
use Rattle.pool_law.specs.Logs.{ToldNote}
use Rattle.pool_law.specs.Counts.{CountsHold, LookHolds, is_retain, is_release}
use Rattle.pool_law.specs.Legal.{LookAt, LooksHold, one_if}
use Rattle.lane_reader.specs.declared.counts.Counts.{Counts}
use Rattle.run_check.specs.declared.tally.Tally.{Tally}
use Rattle.lane_reader.specs.Counting.{count_in, count_after}
use Rattle.run_check.specs.Tallying.{sums_in}
use Rattle.run_check.specs.Needing.{NeedsHold}
use Rattle.pool_law.proofs.PatternLemmas.{same_root-refl}

pub counts-front : (root : RootId) (k : ℕ) (e : ToldNote) (es : List ToldNote) → CountsHold root k (e ∷ es) →
    NeedsHold root k e × CountsHold root (count_after root k e.note) es
counts-front root k e es h = ((h.0, h.1.0), h.1.1)

pub counts-back : (root : RootId) (k : ℕ) (e : ToldNote) (es : List ToldNote) → NeedsHold root k e →
    CountsHold root (count_after root k e.note) es → CountsHold root k (e ∷ es)
counts-back root k e es needs rest = (needs.0, (needs.1, rest))

-- what is asked of an entry, and of a log, by a lane's count of each root
abbrev pub AllNeeds : (RootId → ℕ) → ToldNote → Type 0
AllNeeds counts e = (root : RootId) → NeedsHold root (counts root) e

abbrev pub AllCounts : (RootId → ℕ) → List ToldNote → Type 0
AllCounts counts es = (root : RootId) → CountsHold root (counts root) es

abbrev pub counts_after : (RootId → ℕ) → ToldNote → RootId → ℕ
counts_after counts e root = count_after root (counts root) e.note

pub all-counts-front : (counts : RootId → ℕ) (e : ToldNote) (es : List ToldNote) → AllCounts counts (e ∷ es) →
    AllNeeds counts e × AllCounts (counts_after counts e) es
all-counts-front counts e es h = (
  λ root. (counts-front root (counts root) e es (h root)).0,
  λ root. (counts-front root (counts root) e es (h root)).1,
)

pub all-counts-back : (counts : RootId → ℕ) (e : ToldNote) (es : List ToldNote) → AllNeeds counts e →
    AllCounts (counts_after counts e) es → AllCounts counts (e ∷ es)
all-counts-back counts e es needs rest = λ root. counts-back root (counts root) e es (needs root) (rest root)

-- the retains and releases of a lane so far, and its count
pub record Passed : Type 0 where
  pub retains : ℕ
  pub releases : ℕ
  pub count : ℕ

-- these after an entry
abbrev pub passed_on : RootId → Passed → ToldNote → Passed
passed_on root p e = record {
  retains = p.retains + one_if (is_retain root e.note);
  releases = p.releases + one_if (is_release root e.note);
  count = count_after root p.count e.note;
}

abbrev pub all_passed_on : (RootId → Passed) → ToldNote → RootId → Passed
all_passed_on p e root = passed_on root (p root) e

-- nothing passed, and what passed by what the program keeps
abbrev pub none_passed : Passed
none_passed = record { retains = 0; releases = 0; count = 0 }

abbrev pub passed : Tally → Counts → RootId → Passed
passed own counts root = record {
  retains = (sums_in own root).retains;
  releases = (sums_in own root).releases;
  count = count_in counts root;
}

-- what is asked of an entry, and of a log, by what passed of each root
module _ (others : RootId → ℕ) where
  abbrev pub AllLooks : (RootId → Passed) → ToldNote → Type 0
  AllLooks p e =
      (root : RootId) → LookAt root (p root).retains (p root).releases (p root).count (others root) e.note

  abbrev pub AllLooked : (RootId → Passed) → List ToldNote → Type 0
  AllLooked p es =
      (root : RootId) → LooksHold root (others root) (p root).retains (p root).releases (p root).count es

  pub all-looked-front : (p : RootId → Passed) (e : ToldNote) (es : List ToldNote) → AllLooked p (e ∷ es) →
      AllLooks p e × AllLooked (all_passed_on p e) es
  all-looked-front p e es h = (λ root. (h root).0, λ root. (h root).1)

  pub all-looked-back : (p : RootId → Passed) (e : ToldNote) (es : List ToldNote) → AllLooks p e →
      AllLooked (all_passed_on p e) es → AllLooked p (e ∷ es)
  all-looked-back p e es asks rest = λ root. (asks root, rest root)

-- a look is in the bounds of each root, where it is in those of its own
pub look-each : (good : Bool) (r : RootId) (found : ℕ) (retains releases count others : RootId → ℕ) →
    (IsTrue good ↔ LookHolds r (retains r) (releases r) (count r) (others r) found) →
    IsTrue good
    ↔ ((root : RootId) → LookAt root (retains root) (releases root) (count root) (others root) (Ref r (Look found)))
look-each good r found retains releases count others one = (
  λ e root same.
      subst (λ (q : RootId). LookHolds q (retains q) (releases q) (count q) (others q) found)
      (same_root-is r root same) (one.0 e),
  λ all. one.1 (all r (same_root-refl r)),
)
