-- What the lists of roots say of the roots that were born, and of their totals.
use Rattle.std.proofs.Common.{◌≡◌, ℕ, ◌+◌, ◌<◌, ◌==◌, ◌&&◌, Bool, true, false, nat_le, if◌then◌else◌, List, [], ◌∷◌, ◌++◌, length, take, get_or, map, count_by, Option, Some, None, add-zero, refl, sym, ap, ◌∙◌, arith}
use Rattle.std.specs.List.{cons_option}
use Rattle.std.specs.Option.{unwrap_or}
use Rattle.std.specs.HashMap.{HashMap, get}
use Rattle.std.proofs.lemmas.List.Sums.{sum_by-cons, sum_by-append, sum_by_more}
use Rattle.std.proofs.lemmas.Bool.Decides.{nat_tests}
use Rattle.pool_law.specs.declared.id.RootId.{RootId}
use Rattle.pool_law.specs.declared.note.Object.{Object}
use Rattle.pool_law.specs.declared.note.Did.{Did}
use Rattle.pool_law.specs.declared.note.RefDid.{RefDid}
use Rattle.pool_law.specs.declared.note.Note.{Note}
use Rattle.pool_law.specs.declared.run.LaneLog.{LaneLog}
use Rattle.pool_law.specs.Logs.{Logs, entry_of, entries_of}
use Rattle.pool_law.specs.Counts.{count_in, count_over, is_retain, is_release}
use Rattle.pool_law.specs.Leaks.{births, is_live}
use Rattle.pool_law.specs.Text.{born_roots, live_in}
use Rattle.pool_law.specs.Same.{same_root}
use Rattle.run_report.specs.declared.roots.Step.{Step}
use Rattle.pool_law.proofs.SameLemmas.{same_root-is}
use Rattle.pool_law.proofs.LogLemmas.{entry-note}
use Rattle.run_report.specs.Roots.{Key, counted, key_of, root_of, same_key, roots_in, roots_over, times}

-- the notes of each lane
abbrev pub notes_of : List LaneLog → Logs
notes_of logs = map (λ l. l.notes) logs

-- ---- births

did_birth : (o : Object) (n : ℕ) (did : Did) (ns : List Note) → births ns ≡ roots_in Step.Birth ns
    → births (Note.At o n did ∷ ns) ≡ roots_in Step.Birth (Note.At o n did ∷ ns)
did_birth o n (Did.Birth root region) ns e = ap (λ (rs : List RootId). root ∷ rs) e
did_birth o n (Did.Take class region) ns e = e
did_birth o n (Did.Full class) ns e = e
did_birth o n (Did.Give region) ns e = e
did_birth o n (Did.Hit region) ns e = e
did_birth o n Did.Miss ns e = e
did_birth o n (Did.Kept region) ns e = e
did_birth o n (Did.Back region why) ns e = e
did_birth o n (Did.Trim quota) ns e = e
did_birth o n (Did.Close quota) ns e = e
did_birth o n (Did.Shed region) ns e = e
did_birth o n (Did.Handle place) ns e = e
did_birth o n Did.NoHandle ns e = e
did_birth o n (Did.Home place) ns e = e
did_birth o n (Did.Post parcel) ns e = e
did_birth o n (Did.Fetch parcel) ns e = e
did_birth o n (Did.Set offset bytes) ns e = e
did_birth o n (Did.Get offset bytes) ns e = e
did_birth o n Did.Touch ns e = e
did_birth o n (Did.Room asked capacity) ns e = e
did_birth o n (Did.Extend size) ns e = e
did_birth o n (Did.Grow capacity region) ns e = e
did_birth o n (Did.End root) ns e = e

births_is : (ns : List Note) → births ns ≡ roots_in Step.Birth ns
births_is [] = refl
births_is (Note.At o n did ∷ ns) = did_birth o n did ns (births_is ns)
births_is (Note.Ref root did ∷ ns) = births_is ns
births_is (Note.Busy held ∷ ns) = births_is ns

-- the roots that were born, lane by lane
pub born_is : (logs : List LaneLog) → born_roots (notes_of logs) ≡ roots_over Step.Birth logs
born_is [] = refl
born_is (log ∷ logs) =
    ap (λ (rs : List RootId). rs ++ born_roots (notes_of logs)) (births_is log.notes)
    ∙ ap (λ (rs : List RootId). roots_in Step.Birth log.notes ++ rs) (born_is logs)

-- ---- retains and releases

-- a root, if there is one, is the root that is asked for
is_it : RootId → Option RootId → Bool
is_it root None = false
is_it root (Some r) = same_root r root

-- a test of notes is that of the root for which they are such a step
abbrev Tests : Step → RootId → (Note → Bool) → Type 0
Tests step root test = (n : Note) → test n ≡ is_it root (root_of step n)

retain_tests : (root : RootId) → Tests Step.Retain root (is_retain root)
unfolding is_it
retain_tests root (Note.At o n did) = refl
retain_tests root (Note.Ref r RefDid.Born) = refl
retain_tests root (Note.Ref r RefDid.Retain) = refl
retain_tests root (Note.Ref r RefDid.Kept) = refl
retain_tests root (Note.Ref r RefDid.Ended) = refl
retain_tests root (Note.Ref r RefDid.Vacated) = refl
retain_tests root (Note.Ref r (RefDid.Look k)) = refl
retain_tests root (Note.Busy held) = refl

and_true : (b : Bool) → (b && true) ≡ b
and_true true = refl
and_true false = refl

and_false : (b : Bool) → (b && false) ≡ false
and_false true = refl
and_false false = refl

release_tests : (root : RootId) → Tests Step.Release root (is_release root)
unfolding is_it
release_tests root (Note.At o n did) = refl
release_tests root (Note.Ref r RefDid.Born) = and_false (same_root r root)
release_tests root (Note.Ref r RefDid.Retain) = and_false (same_root r root)
release_tests root (Note.Ref r RefDid.Kept) = and_true (same_root r root)
release_tests root (Note.Ref r RefDid.Ended) = and_true (same_root r root)
release_tests root (Note.Ref r RefDid.Vacated) = and_false (same_root r root)
release_tests root (Note.Ref r (RefDid.Look k)) = and_false (same_root r root)
release_tests root (Note.Busy held) = refl

module _ (all : Logs) (step : Step) (root : RootId) (test : Note → Bool) (tests : Tests step root test) where
  times-cons : (o : Option RootId) (rs : List RootId)
      → times (cons_option o rs) root ≡ (if is_it root o then 1 else 0) + times rs root
  unfolding is_it
  times-cons None rs = omega arith
  times-cons (Some r) rs = sum_by-cons (λ (x : RootId). if same_root x root then 1 else 0) r rs

  count_is : (ns : List Note) → count_in test (map (entry_of all) ns) ≡ times (roots_in step ns) root
  count_is [] = refl
  count_is (n ∷ ns) =
      ap (λ (m : Note). (if test m then 1 else 0) + count_in test (map (entry_of all) ns)) (entry-note all n)
      ∙ ap (λ (b : Bool). (if b then 1 else 0) + count_in test (map (entry_of all) ns)) (tests n)
      ∙ ap (λ (k : ℕ). (if is_it root (root_of step n) then 1 else 0) + k) (count_is ns)
      ∙ sym (times-cons (root_of step n) (roots_in step ns))

  over_is : (logs : List LaneLog)
      → count_over test (map (map (entry_of all)) (notes_of logs)) ≡ times (roots_over step logs) root
  over_is [] = refl
  over_is (log ∷ logs) =
      ap (λ (k : ℕ). k + count_over test (map (map (entry_of all)) (notes_of logs))) (count_is log.notes)
      ∙ ap (λ (k : ℕ). times (roots_in step log.notes) root + k) (over_is logs)
      ∙ sym (sum_by-append (λ (x : RootId). if same_root x root then 1 else 0)
      (roots_in step log.notes) (roots_over step logs))

-- a root is live exactly where it wasn't released more often than retained
live_is : (logs : List LaneLog) (root : RootId)
    → is_live (notes_of logs) root
    ≡ nat_le (times (roots_over Step.Release logs) root) (times (roots_over Step.Retain logs) root)
live_is logs root =
    let retains : count_over (is_retain root) (entries_of (notes_of logs))
    ≡ times (roots_over Step.Retain logs) root =
    over_is (notes_of logs) Step.Retain root (is_retain root) (retain_tests root) logs in
    let releases : count_over (is_release root) (entries_of (notes_of logs))
    ≡ times (roots_over Step.Release logs) root =
    over_is (notes_of logs) Step.Release root (is_release root) (release_tests root) logs in
    rw (retains, releases) (grind (arith, nat_tests))

-- the live roots among these, by another test that says the same
live_in_is : (logs : Logs) (test : RootId → Bool) → ((root : RootId) → is_live logs root ≡ test root)
    → (roots : List RootId) → live_in logs roots ≡ count_by test roots
live_in_is logs test same [] = refl
live_in_is logs test same (root ∷ roots) =
    ap (λ (b : Bool). (if b then 1 else 0) + live_in logs roots) (same root)
    ∙ ap (λ (k : ℕ). (if test root then 1 else 0) + k) (live_in_is logs test same roots)
    ∙ sym (sum_by-cons (λ (x : RootId). if test x then 1 else 0) root roots)

-- ---- maps that count roots

-- the same keys are of the same roots
same_is : (a b : RootId) → same_key (key_of a) (key_of b) ≡ same_root a b
same_is a b = go (a.place == b.place) (a.generation == b.generation) (a.capacity == b.capacity)
  where
    go : (x y z : Bool) → ((x && y) && z) ≡ (x && (y && z))
    go true y z = refl
    go false y z = refl

module _ {S : Type 0} where
  -- the live roots among those that were born, by two maps that count their retains and releases
  pub live_among_is : (logs : List LaneLog) (retains releases : HashMap Key ℕ S)
      → ((q : RootId) → counted retains q ≡ times (roots_over Step.Retain logs) q)
      → ((q : RootId) → counted releases q ≡ times (roots_over Step.Release logs) q)
      → live_in (notes_of logs) (born_roots (notes_of logs))
      ≡ count_by (λ q. nat_le (counted releases q) (counted retains q)) (roots_over Step.Birth logs)
  live_among_is logs retains releases retained released =
      let test : RootId → Bool = λ q. nat_le (counted releases q) (counted retains q) in
      let same : (q : RootId) → is_live (notes_of logs) q ≡ test q =
      λ q. live_is logs q
      ∙ (ap (λ (k : ℕ). nat_le k (times (roots_over Step.Retain logs) q)) (sym (released q))
      ∙ ap (λ (k : ℕ). nat_le (counted releases q) k) (sym (retained q))) in
      live_in_is (notes_of logs) test same (born_roots (notes_of logs)) ∙ ap (count_by test) (born_is logs)

  -- a map that counts one root more
  pub tally_step : (m n : HashMap Key ℕ S) (before after : List RootId) (root q : RootId) (count : ℕ)
      → times after q ≡ times before q + (if same_root root q then 1 else 0)
      → get same_key n (key_of q)
      ≡ (if same_key (key_of root) (key_of q) then Some (count + 1) else get same_key m (key_of q))
      → count ≡ times before root → counted m q ≡ times before q → counted n q ≡ times after q
  tally_step m n before after root q count grown put was same = go (same_root root q) refl
    where
      go : (b : Bool) → same_root root q ≡ b → counted n q ≡ times after q
      go b is =
          let more : times after q ≡ times before q + (if b then 1 else 0) =
          grown ∙ ap (λ (c : Bool). times before q + (if c then 1 else 0)) is in
          let put' : get same_key n (key_of q) ≡ (if b then Some (count + 1) else get same_key m (key_of q)) =
          put ∙ ap (λ (c : Bool). if c then Some (count + 1) else get same_key m (key_of q)) (same_is root q ∙ is) in
          ap (λ (o : Option ℕ). unwrap_or o 0) put' ∙ counts b is ∙ sym more
        where
          counts : (b : Bool) → same_root root q ≡ b
              → unwrap_or (if b then Some (count + 1) else get same_key m (key_of q)) 0
              ≡ times before q + (if b then 1 else 0)
          counts true is = ap (λ (k : ℕ). k + 1) (was ∙ ap (times before) (same_root-is root q is))
          counts false is = same ∙ sym (add-zero (times before q))

-- the root of a key
abbrev pub of_key : Key → RootId
of_key k = record { place = k.0; generation = k.1; capacity = k.2 }

-- one root more of a list
pub times_more : (roots : List RootId) (i : ℕ) (d : RootId) (key : Key) (q : RootId) → i < length roots
    → key ≡ key_of (get_or roots i d)
    → times (take (i + 1) roots) q ≡ times (take i roots) q + (if same_root (of_key key) q then 1 else 0)
times_more roots i d key q h e =
    sum_by_more (λ (r : RootId). if same_root r q then 1 else 0) roots i d h
    ∙ ap (λ (k : Key). times (take i roots) q + (if same_root (of_key k) q then 1 else 0)) (sym e)
