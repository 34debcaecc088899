-- How the copying of parts, and their release, go on after the notes of the first part.
use Rattle.std.proofs.Common.{◌≡◌, ℕ, List, [], ◌∷◌, refl, ap, true, false, Some, None, ◌∙◌}
use Rattle.std.specs.Prelude.{◌==◌, if◌then◌else◌, Option, option_map, option_and_then}
use Rattle.pool_law.specs.declared.id.RootId.{RootId}
use Rattle.pool_law.specs.declared.id.Part.{Part}
use Rattle.pool_law.specs.declared.note.Object.{Object}
use Rattle.pool_law.specs.declared.note.Did.{Did}
use Rattle.pool_law.specs.declared.note.Note.{Note}
use Rattle.pool_law.specs.declared.run.Shape.{Shape}
use Rattle.pool_law.specs.Same.{same_bytes}
use Rattle.pool_law.specs.Logs.{ToldNote}
use Rattle.pool_law.specs.Counts.{count_of, root_is}
use Rattle.pool_law.specs.Dids as say
use Rattle.pool_law.specs.Readers.{ToldNotes, Log, ◌>>◌, nothing, behind_entry, first_of_left, done_at, access}
use Rattle.pool_law.specs.Patterns.{release}
use Rattle.pool_law.specs.Lanes.{release_part}
use Rattle.pool_law.proofs.PatternLemmas.{same_number, done_at-is}

pub same_bytes-refl : (xs : List ℕ) → same_bytes xs xs ≡ true
same_bytes-refl [] = refl
same_bytes-refl (x ∷ xs) = rw (same_number x, same_bytes-refl xs) refl

-- an access to a root that is present is read
pub access-is : {A : Type 0} (root : RootId) (says : Did → Option A) (n : ℕ) (did : Did) (log : Log) (e : ToldNote)
    (rest : ToldNotes) →
    log.left ≡ e ∷ rest → e.note ≡ Note.At (Object.Root root.place) n did → root_is root e.root ≡ true →
    access root says log ≡ option_map (λ a. (a, behind_entry log e rest)) (says did)
access-is root says n did log e rest left is here =
    ap (λ es. first_of_left (λ x. if root_is root x.root then option_and_then says
    (done_at (Object.Root root.place) x.note) else None) log es) left
    ∙ ap (λ b. option_map (λ a. (a, behind_entry log e rest))
    (if b then option_and_then says (done_at (Object.Root root.place) e.note) else None)) here
    ∙ ap (λ d. option_map (λ a. (a, behind_entry log e rest)) (option_and_then says d))
    (ap (done_at (Object.Root root.place)) is ∙ done_at-is (Object.Root root.place) n did)

-- a part whose root the lane counts no more is passed by, and any other is released
pub release_part-gone : (shape : Shape) (p : Part) (log : Log) → count_of p.root log.seen ≡ 0 →
    release_part shape p log ≡ Some (tt, log)
release_part-gone shape p log none = rw none refl

pub release_part-counted : (shape : Shape) (p : Part) (log : Log) → (count_of p.root log.seen == 0) ≡ false →
    release_part shape p log ≡ (release shape p.root >> nothing) log
release_part-counted shape p log some = rw some refl
