-- The roots that entries name, and the sentences on the counts of one root as tests.
use Rattle.std.proofs.Common.{◌≡◌, ℕ, ◌+◌, List, [], ◌∷◌, Bool, true, false, refl, sym, eqb-true, eq-eqb, ◌∙◌}
use Rattle.std.specs.Prelude.{◌==◌, ◌&&◌, ◌||◌, not, nat_lt, nat_le, Option, Some, None}
use Rattle.std.specs.List.{list_all}
use Rattle.std.proofs.lemmas.Bool.{ltb-true, leb-true}
use Rattle.pool_law.specs.declared.id.RootId.{RootId}
use Rattle.pool_law.specs.declared.id.ViewData.{ViewData}
use Rattle.pool_law.specs.declared.note.Did.TheVariants.{Post, Fetch, Birth}
use Rattle.pool_law.specs.declared.note.RefDid.TheVariants.{Look}
use Rattle.pool_law.specs.declared.note.Note.{Note}
use Rattle.pool_law.specs.declared.note.Note.TheVariants.{At, Ref, Busy}
use Rattle.pool_law.specs.Same.{same_root}
use Rattle.pool_law.specs.Logs.{ToldNote}
use Rattle.pool_law.specs.Counts.{needs_count, ends_root, count_step, CountsHold, count_over, names_root, is_retain, is_release, is_born, is_birth, total_of, TotalHolds}
use Rattle.pool_law.specs.Legal.{LookAt, LooksHold, one_if, others_retains}
use Rattle.pool_law.proofs.SameLemmas.{and-first, and-second}
use Rattle.definition_rows.proofs.Lanes.{all_from}
use Rattle.definition_rows.proofs.Listed.{listed, added}

-- ---- The roots that entries name.

-- a root that may be there, with those found before
abbrev pub root_in : Option RootId → List RootId → List RootId
root_in None found = found
root_in (Some root) found = added same_root root found

-- the root of a view that may be there, with those found before
abbrev pub view_in : Option ViewData → List RootId → List RootId
view_in None found = found
view_in (Some v) found = added same_root v.root found

-- the root that a note names, with those found before
abbrev pub note_in : Note → List RootId → List RootId
note_in (Ref root did) found = added same_root root found
note_in (At object number (Post parcel)) found = view_in parcel.view found
note_in (At object number (Fetch parcel)) found = view_in parcel.view found
note_in (At object number (Birth root region)) found = added same_root root found
note_in (At object number _) found = found
note_in (Busy held) found = found

-- the roots that entries name, with those found before
abbrev pub roots_in : List ToldNote → List RootId → List RootId
roots_in [] found = found
roots_in (e ∷ es) found = roots_in es (root_in e.root (note_in e.note found))

-- the roots that logs name, with those found before
abbrev pub roots_of : List (List ToldNote) → List RootId → List RootId
roots_of [] found = found
roots_of (es ∷ logs) found = roots_of logs (roots_in es found)

-- a root that may be there is in the list
abbrev pub root_listed : List RootId → Option RootId → Bool
root_listed roots None = true
root_listed roots (Some root) = listed same_root roots root

-- the root of a view that may be there is in the list
abbrev pub view_listed : List RootId → Option ViewData → Bool
view_listed roots None = true
view_listed roots (Some v) = listed same_root roots v.root

-- the root that a note names is in the list
abbrev pub note_listed : List RootId → Note → Bool
note_listed roots (Ref root did) = listed same_root roots root
note_listed roots (At object number (Post parcel)) = view_listed roots parcel.view
note_listed roots (At object number (Fetch parcel)) = view_listed roots parcel.view
note_listed roots (At object number (Birth root region)) = listed same_root roots root
note_listed roots (At object number _) = true
note_listed roots (Busy held) = true

-- the roots that an entry names are in the list
abbrev pub entry_listed : List RootId → ToldNote → Bool
entry_listed roots e = note_listed roots e.note && root_listed roots e.root

-- the roots of a log are in the list
abbrev pub roots_pass : List RootId → ℕ → List ToldNote → Bool
roots_pass roots lane es = list_all (entry_listed roots) es

-- ---- The sentences on one root, as tests.

-- the lane uses the root while it counts it
abbrev pub counts_pass : RootId → ℕ → List ToldNote → Bool
counts_pass root k [] = true
counts_pass root k (e ∷ es) =
    (not (needs_count root e) || nat_lt 0 k)
    && ((not (ends_root root e.note) || (count_step root k e == 0)) && counts_pass root (count_step root k e) es)

-- two tests agree
abbrev pub same_test : Bool → Bool → Bool
same_test true b = b
same_test false b = not b

-- the total of a root that was born is right
abbrev pub total_passes : RootId → List (List ToldNote) → Bool
total_passes root logs =
    nat_le (count_over (is_release root) logs) (1 + count_over (is_retain root) logs)
    && ((count_over (is_born root) logs == 1)
    && (nat_le (count_over (ends_root root) logs) 1
    && same_test (count_over (ends_root root) logs == 1) (total_of root logs == 0)))

-- what a note looks up is in its bounds
abbrev pub look_passes : RootId → ℕ → ℕ → ℕ → ℕ → Note → Bool
look_passes root retains releases count others (Ref r (Look found)) =
    not (same_root r root) || (nat_le count found && nat_le (found + releases) (1 + (retains + others)))
look_passes root retains releases count others _ = true

-- what a lane looks up is in its bounds
abbrev pub looks_pass : RootId → ℕ → ℕ → ℕ → ℕ → List ToldNote → Bool
looks_pass root others retains releases count [] = true
looks_pass root others retains releases count (e ∷ es) =
    look_passes root retains releases count others e.note
    && looks_pass root others
    (retains + one_if (is_retain root e.note)) (releases + one_if (is_release root e.note))
    (count_step root count e) es

-- all sentences on the root hold
abbrev pub root_passes : List (List ToldNote) → RootId → Bool
root_passes logs root =
    all_from (λ lane es. counts_pass root 0 es) 0 logs
    && ((not (nat_lt 0 (count_over (is_birth root) logs)) || total_passes root logs)
    && (all_from (λ lane es. looks_pass root (others_retains root lane 0 logs) 0 0 0 es) 0 logs
    && (not (nat_lt 0 (count_over (names_root root) logs)) || nat_lt 0 (count_over (is_birth root) logs))))

-- ---- Where a test passes, the sentence holds.

pub unless : (a b : Bool) → (not a || b) ≡ true → a ≡ true → b ≡ true
unless true b e is = e
unless false b e is = absurd (cc is)

pub CountsHold-passes : (root : RootId) (k : ℕ) (es : List ToldNote) → counts_pass root k es ≡ true → CountsHold root k
    es
CountsHold-passes root k [] e = tt
CountsHold-passes root k (x ∷ xs) e =
    let used : Bool = not (needs_count root x) || nat_lt 0 k in
    let ended : Bool = not (ends_root root x.note) || (count_step root k x == 0) in
    let later : Bool = counts_pass root (count_step root k x) xs in
    let rest : (ended && later) ≡ true = and-second _ _ e in (
      λ needs. ltb-true 0 k (unless (needs_count root x) (nat_lt 0 k) (and-first _ _ e) needs),
      (
        λ ends.
            eqb-true (count_step root k x) 0
            (unless (ends_root root x.note) (count_step root k x == 0) (and-first _ _ rest) ends),
        CountsHold-passes root (count_step root k x) xs (and-second _ _ rest),
      ),
    )

same-tests : (a b : Bool) → same_test a b ≡ true → a ≡ b
same-tests true b e = sym e
same-tests false true e = absurd (cc e)
same-tests false false e = refl

pub TotalHolds-passes : (root : RootId) (logs : List (List ToldNote)) → total_passes root logs ≡ true →
    TotalHolds root logs
TotalHolds-passes root logs e =
    let retains : ℕ = count_over (is_retain root) logs in
    let releases : ℕ = count_over (is_release root) logs in
    let ends : ℕ = count_over (ends_root root) logs in
    let never : Bool = nat_le releases (1 + retains) in
    let once : Bool = count_over (is_born root) logs == 1 in
    let most : Bool = nat_le ends 1 in
    let zero : Bool = same_test (ends == 1) (total_of root logs == 0) in
    let second : (once && (most && zero)) ≡ true = and-second _ _ e in
    let third : (most && zero) ≡ true = and-second _ _ second in
    let tests : (ends == 1) ≡ (total_of root logs == 0) =
    same-tests (ends == 1) (total_of root logs == 0) (and-second _ _ third) in
    record {
      never_below = leb-true releases (1 + retains) (and-first _ _ e);
      born_once = eqb-true (count_over (is_born root) logs) 1 (and-first _ _ second);
      ends_once = leb-true ends 1 (and-first _ _ third);
      ends_at_zero = (
        λ one. eqb-true (total_of root logs) 0 (sym tests ∙ eq-eqb ends 1 one),
        λ none. eqb-true ends 1 (tests ∙ eq-eqb (total_of root logs) 0 none),
      );
    }

LookAt-passes : (root : RootId) (retains releases count others : ℕ) (note : Note) →
    look_passes root retains releases count others note ≡ true → LookAt root retains releases count others note
LookAt-passes root retains releases count others (Ref r (Look found)) e =
    λ same.
    let bounds : Bool = nat_le count found && nat_le (found + releases) (1 + (retains + others)) in
    let both : bounds ≡ true = unless (same_root r root) bounds e same in
    record {
      least = leb-true count found (and-first _ _ both);
      most = leb-true (found + releases) (1 + (retains + others)) (and-second _ _ both);
    }
LookAt-passes root retains releases count others _ e = tt

pub LooksHold-passes : (root : RootId) (others retains releases count : ℕ) (es : List ToldNote) →
    looks_pass root others retains releases count es ≡ true → LooksHold root others retains releases count es
LooksHold-passes root others retains releases count [] e = tt
LooksHold-passes root others retains releases count (x ∷ xs) e =
    let here : Bool = look_passes root retains releases count others x.note in
    let more : ℕ = retains + one_if (is_retain root x.note) in
    let less : ℕ = releases + one_if (is_release root x.note) in
    let later : Bool = looks_pass root others more less (count_step root count x) xs in (
      LookAt-passes root retains releases count others x.note (and-first _ _ e),
      LooksHold-passes root others more less (count_step root count x) xs (and-second _ _ e),
    )
