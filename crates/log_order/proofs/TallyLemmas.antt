-- What the program counts is what the steps are.
use Rattle.std.proofs.Common.{◌≡◌, ℕ, ◌+◌, ◌*◌, ◌<◌, ◌≤◌, Bool, true, false, List, [], ◌∷◌, ◌++◌, length, Option, Some, None, refl, sym, ap, arith, ◌∙◌}
use Rattle.std.specs.Prelude.{◌==◌, ◌&&◌, ◌||◌, nat_lt, nat_le, if◌then◌else◌}
use Rattle.std.proofs.lemmas.Bool.{ne_eqb}
use Rattle.std.proofs.Math.Bool.{and-false, and-true}
use Rattle.pool_law.specs.declared.id.RootId.{RootId}
use Rattle.pool_law.specs.declared.note.Object.{Object}
use Rattle.pool_law.specs.declared.note.Did.{Did}
use Rattle.pool_law.specs.declared.note.RefDid.{RefDid}
use Rattle.pool_law.specs.declared.note.RefDid.TheVariants.{Born, Retain, Kept, Ended, Vacated, Look}
use Rattle.pool_law.specs.declared.note.Note.{Note}
use Rattle.pool_law.specs.declared.note.Note.TheVariants.{At, Ref, Busy}
use Rattle.pool_law.specs.Same.{same_object, same_root}
use Rattle.pool_law.specs.Kinds.{Passing, Stays, Goes, Comes, passing}
use Rattle.pool_law.specs.Logs.{has_history}
use Rattle.pool_law.specs.Counts.{is_born, is_retain, is_release, ends_root}
use Rattle.pool_law.specs.Legal.{one_if}
use Rattle.log_order.specs.Keying.{object_key}
use Rattle.run_order.specs.Order.{Step, made, is_at, is_alike, is_post, is_sent, same_way, is_born_at, is_vacated_at, is_vacated}
use Rattle.run_order.proofs.Fronts.{by-test}
use Rattle.run_order.proofs.Positions.{made-alike}
use Rattle.run_order.proofs.Tests.{gains, losses, count_fits, finds_its, note_fits}
use Rattle.log_order.specs.Tallying.{Key, way_of, way_key, root_key, place_key, born_kind, retain_kind, release_kind, end_kind, vacated_kind, born_at_kind, vacated_at_kind, note_key, note_key_beside, one_at, same_key, counted, count_in, AreCounted, at_in, alike_in, finds_in, gained_in, lost_in, ref_fits_in, fits_in}
use Rattle.log_order.specs.declared.tally.Tally.{Tally}
use Rattle.log_order.proofs.KeyLemmas.{same-keys}

-- what a note counts under a key
abbrev pub counts : Key → Note → ℕ
counts key n = one_at key (note_key n) + one_at key (note_key_beside n)

-- a note more
pub counted-more : (key : Key) (steps : List Step) (x : Step)
    → counted key (steps ++ x ∷ []) ≡ counted key steps + counts key x.note
counted-more key [] x = omega arith
counted-more key (y ∷ steps) x = omega (arith, counted-more key steps x)

one-or-none : (b : Bool) → one_if b ≤ 1
one-or-none true = omega arith
one-or-none false = omega arith

-- one note or none is counted under a key
pub at-most-one : (key : Key) (o : Option Key) → one_at key o ≤ 1
at-most-one key None = omega arith
at-most-one key (Some other) = one-or-none (same_key other key)

-- each note is counted under a key at most twice
pub counted-few : (key : Key) (steps : List Step) → counted key steps ≤ 2 * length steps
counted-few key [] = omega arith
counted-few key (x ∷ steps) =
    let first = at-most-one key (note_key x.note) in
    let second = at-most-one key (note_key_beside x.note) in
    let rest = counted-few key steps in
    omega (arith, first, second, rest)

-- what passes a test is counted under a key
made-is : (test : Note → Bool) (key : Key) → ((n : Note) → one_if (test n) ≡ counts key n) → (steps : List Step)
    → made test steps ≡ counted key steps
made-is test key each [] = refl
made-is test key each (x ∷ steps) = omega (arith, each x.note, made-is test key each steps)

-- notes at objects are counted under none of the kinds of steps on counts
apart : (p : Passing) (k : ℕ) → 2 < k → (way_of p == k) ≡ false
apart Stays k high = ne_eqb 0 k (λ e. absurd (omega (arith, e, high)))
apart (Goes q) k high = ne_eqb 1 k (λ e. absurd (omega (arith, e, high)))
apart (Comes q) k high = ne_eqb 2 k (λ e. absurd (omega (arith, e, high)))

off : (p : Passing) (object : Object) (key : Key) → 2 < key.0
    → 0 ≡ one_at key (Some (way_key (way_of p) object)) + 0
off p object key high =
    let k = object_key object in
    let e = ap (λ b. one_if (b && ((k.0 == key.1) && ((k.1 == key.2) && (k.2 == key.3))))) (apart p key.0 high) in
    omega (arith, e)

pub born-is : (root : RootId) (n : Note) → one_if (is_born root n) ≡ counts (root_key born_kind root) n
born-is root (At object number did) = off (passing did) object (root_key born_kind root) (omega arith)
born-is root (Busy held) = omega arith
born-is root (Ref r Born) = omega arith
born-is root (Ref r Retain) = omega arith
born-is root (Ref r Kept) = omega arith
born-is root (Ref r Ended) = omega arith
born-is root (Ref r Vacated) = omega arith
born-is root (Ref r (Look found)) = omega arith

pub retain-is : (root : RootId) (n : Note) → one_if (is_retain root n) ≡ counts (root_key retain_kind root) n
retain-is root (At object number did) = off (passing did) object (root_key retain_kind root) (omega arith)
retain-is root (Busy held) = omega arith
retain-is root (Ref r Born) = omega arith
retain-is root (Ref r Retain) = omega arith
retain-is root (Ref r Kept) = omega arith
retain-is root (Ref r Ended) = omega arith
retain-is root (Ref r Vacated) = omega arith
retain-is root (Ref r (Look found)) = omega arith

pub release-is : (root : RootId) (n : Note) → one_if (is_release root n) ≡ counts (root_key release_kind root) n
release-is root (At object number did) = off (passing did) object (root_key release_kind root) (omega arith)
release-is root (Busy held) = omega arith
release-is root (Ref r Born) = omega (arith, ap one_if (and-false (same_root r root)))
release-is root (Ref r Retain) = omega (arith, ap one_if (and-false (same_root r root)))
release-is root (Ref r Kept) = omega (arith, ap one_if (and-true (same_root r root)))
release-is root (Ref r Ended) = omega (arith, ap one_if (and-true (same_root r root)))
release-is root (Ref r Vacated) = omega (arith, ap one_if (and-false (same_root r root)))
release-is root (Ref r (Look found)) = omega (arith, ap one_if (and-false (same_root r root)))

pub end-is : (root : RootId) (n : Note) → one_if (ends_root root n) ≡ counts (root_key end_kind root) n
end-is root (At object number did) = off (passing did) object (root_key end_kind root) (omega arith)
end-is root (Busy held) = omega arith
end-is root (Ref r Born) = omega arith
end-is root (Ref r Retain) = omega arith
end-is root (Ref r Kept) = omega arith
end-is root (Ref r Ended) = omega arith
end-is root (Ref r Vacated) = omega arith
end-is root (Ref r (Look found)) = omega arith

pub vacated-is : (root : RootId) (n : Note) → one_if (is_vacated root n) ≡ counts (root_key vacated_kind root) n
vacated-is root (At object number did) = off (passing did) object (root_key vacated_kind root) (omega arith)
vacated-is root (Busy held) = omega arith
vacated-is root (Ref r Born) = omega arith
vacated-is root (Ref r Retain) = omega arith
vacated-is root (Ref r Kept) = omega arith
vacated-is root (Ref r Ended) = omega arith
vacated-is root (Ref r Vacated) = omega arith
vacated-is root (Ref r (Look found)) = omega arith

pub born_at-is : (place : ℕ) (n : Note) → one_if (is_born_at place n) ≡ counts (place_key born_at_kind place) n
born_at-is place (At object number did) = off (passing did) object (place_key born_at_kind place) (omega arith)
born_at-is place (Busy held) = omega arith
born_at-is place (Ref r Born) = omega (arith, ap one_if (and-true (r.place == place)))
born_at-is place (Ref r Retain) = omega arith
born_at-is place (Ref r Kept) = omega arith
born_at-is place (Ref r Ended) = omega arith
born_at-is place (Ref r Vacated) = omega arith
born_at-is place (Ref r (Look found)) = omega arith

pub vacated_at-is : (place : ℕ) (n : Note)
    → one_if (is_vacated_at place n) ≡ counts (place_key vacated_at_kind place) n
vacated_at-is place (At object number did) = off (passing did) object (place_key vacated_at_kind place) (omega arith)
vacated_at-is place (Busy held) = omega arith
vacated_at-is place (Ref r Born) = omega arith
vacated_at-is place (Ref r Retain) = omega arith
vacated_at-is place (Ref r Kept) = omega arith
vacated_at-is place (Ref r Ended) = omega arith
vacated_at-is place (Ref r Vacated) = omega (arith, ap one_if (and-true (r.place == place)))
vacated_at-is place (Ref r (Look found)) = omega arith

-- notes at an object, of one way
at-way : (object other : Object) (way : ℕ) (p : Passing)
    → one_at (way_key way object) (Some (way_key (way_of p) other))
    ≡ one_if ((way_of p == way) && same_object object other)
at-way object other way p = ap (λ b. one_if ((way_of p == way) && b)) (same-keys other object)

pub post-is : (mail : Object) (n : Note) → one_if (is_post mail n) ≡ counts (way_key 1 mail) n
post-is mail (At object number did) = go (passing did)
  where
    go : (p : Passing) → one_if (is_sent p && same_object mail object)
        ≡ one_at (way_key 1 mail) (Some (way_key (way_of p) object)) + 0
    go Stays = omega (arith, at-way mail object 1 Stays)
    go (Goes q) = omega (arith, at-way mail object 1 (Goes q))
    go (Comes q) = omega (arith, at-way mail object 1 (Comes q))
post-is mail (Ref r Born) = omega arith
post-is mail (Ref r Retain) = omega arith
post-is mail (Ref r Kept) = omega arith
post-is mail (Ref r Ended) = omega arith
post-is mail (Ref r Vacated) = omega arith
post-is mail (Ref r (Look found)) = omega arith
post-is mail (Busy held) = omega arith

-- a mail's notes of one way
alike-is : (mail : Object) (did : Did) → has_history mail ≡ false → (n : Note)
    → one_if (is_alike mail did n) ≡ counts (way_key (way_of (passing did)) mail) n
alike-is mail did none (At object number done) =
    ap (λ b. one_if ((b || same_way (passing did) (passing done)) && same_object mail object)) none
    ∙ go (passing did) (passing done)
  where
    go : (p q : Passing) → one_if (same_way p q && same_object mail object)
        ≡ one_at (way_key (way_of p) mail) (Some (way_key (way_of q) object)) + 0
    go Stays Stays = omega (arith, at-way mail object 0 Stays)
    go Stays (Goes r) = omega (arith, at-way mail object 0 (Goes r))
    go Stays (Comes r) = omega (arith, at-way mail object 0 (Comes r))
    go (Goes s) Stays = omega (arith, at-way mail object 1 Stays)
    go (Goes s) (Goes r) = omega (arith, at-way mail object 1 (Goes r))
    go (Goes s) (Comes r) = omega (arith, at-way mail object 1 (Comes r))
    go (Comes s) Stays = omega (arith, at-way mail object 2 Stays)
    go (Comes s) (Goes r) = omega (arith, at-way mail object 2 (Goes r))
    go (Comes s) (Comes r) = omega (arith, at-way mail object 2 (Comes r))
alike-is mail did none (Ref r ref) = none-counted r ref (passing did)
  where
    none-counted : (r : RootId) (ref : RefDid) (p : Passing)
        → 0 ≡ counts (way_key (way_of p) mail) (Ref r ref)
    none-counted r Born Stays = omega arith
    none-counted r Born (Goes q) = omega arith
    none-counted r Born (Comes q) = omega arith
    none-counted r Retain Stays = omega arith
    none-counted r Retain (Goes q) = omega arith
    none-counted r Retain (Comes q) = omega arith
    none-counted r Kept Stays = omega arith
    none-counted r Kept (Goes q) = omega arith
    none-counted r Kept (Comes q) = omega arith
    none-counted r Ended Stays = omega arith
    none-counted r Ended (Goes q) = omega arith
    none-counted r Ended (Comes q) = omega arith
    none-counted r Vacated Stays = omega arith
    none-counted r Vacated (Goes q) = omega arith
    none-counted r Vacated (Comes q) = omega arith
    none-counted r (Look found) Stays = omega arith
    none-counted r (Look found) (Goes q) = omega arith
    none-counted r (Look found) (Comes q) = omega arith
alike-is mail did none (Busy held) = omega arith

-- all notes at an object are of one of the ways
at-is : (object : Object) (n : Note) → one_if (is_at object n)
    ≡ counts (way_key 0 object) n + counts (way_key 1 object) n + counts (way_key 2 object) n
at-is object (At other number did) = go (passing did)
  where
    go : (p : Passing) → one_if (same_object object other)
        ≡ (one_at (way_key 0 object) (Some (way_key (way_of p) other)) + 0)
        + (one_at (way_key 1 object) (Some (way_key (way_of p) other)) + 0)
        + (one_at (way_key 2 object) (Some (way_key (way_of p) other)) + 0)
    go Stays =
        omega (arith, at-way object other 0 Stays, at-way object other 1 Stays, at-way object other 2 Stays)
    go (Goes q) =
        omega (arith, at-way object other 0 (Goes q), at-way object other 1 (Goes q), at-way object other 2 (Goes q))
    go (Comes q) =
        omega (arith, at-way object other 0 (Comes q), at-way object other 1 (Comes q), at-way object other 2 (Comes q))
at-is object (Ref r Born) = omega arith
at-is object (Ref r Retain) = omega arith
at-is object (Ref r Kept) = omega arith
at-is object (Ref r Ended) = omega arith
at-is object (Ref r Vacated) = omega arith
at-is object (Ref r (Look found)) = omega arith
at-is object (Busy held) = omega arith

made-at-is : (object : Object) (steps : List Step) → made (is_at object) steps
    ≡ counted (way_key 0 object) steps + counted (way_key 1 object) steps + counted (way_key 2 object) steps
made-at-is object [] = refl
made-at-is object (x ∷ steps) = omega (arith, at-is object x.note, made-at-is object steps)

module _ (tally : Tally) (steps : List Step) (c : AreCounted tally steps) where
  born-in : (root : RootId) → count_in tally (root_key born_kind root) ≡ made (is_born root) steps
  born-in root =
      c (root_key born_kind root)
      ∙ sym (made-is (is_born root) (root_key born_kind root) (born-is root) steps)

  retain-in : (root : RootId) → count_in tally (root_key retain_kind root) ≡ made (is_retain root) steps
  retain-in root =
      c (root_key retain_kind root)
      ∙ sym (made-is (is_retain root) (root_key retain_kind root) (retain-is root) steps)

  lost-in : (root : RootId) → lost_in tally root ≡ losses steps root
  lost-in root =
      c (root_key release_kind root)
      ∙ sym (made-is (is_release root) (root_key release_kind root) (release-is root) steps)

  end-in : (root : RootId) → count_in tally (root_key end_kind root) ≡ made (ends_root root) steps
  end-in root = c (root_key end_kind root) ∙ sym (made-is (ends_root root) (root_key end_kind root) (end-is root) steps)

  vacated-in : (root : RootId) → count_in tally (root_key vacated_kind root) ≡ made (is_vacated root) steps
  vacated-in root =
      c (root_key vacated_kind root)
      ∙ sym (made-is (is_vacated root) (root_key vacated_kind root) (vacated-is root) steps)

  born_at-in : (place : ℕ) → count_in tally (place_key born_at_kind place) ≡ made (is_born_at place) steps
  born_at-in place =
      c (place_key born_at_kind place)
      ∙ sym (made-is (is_born_at place) (place_key born_at_kind place) (born_at-is place) steps)

  vacated_at-in : (place : ℕ) → count_in tally (place_key vacated_at_kind place) ≡ made (is_vacated_at place) steps
  vacated_at-in place =
      c (place_key vacated_at_kind place)
      ∙ sym (made-is (is_vacated_at place) (place_key vacated_at_kind place) (vacated_at-is place) steps)

  gained-in : (root : RootId) → gained_in tally root ≡ gains steps root
  gained-in root = λ i. born-in root i + retain-in root i

  at-in : (object : Object) → at_in tally object ≡ made (is_at object) steps
  at-in object =
      (λ i. c (way_key 0 object) i + c (way_key 1 object) i + c (way_key 2 object) i) ∙ sym (made-at-is object steps)

  alike-in : (object : Object) (did : Did) → alike_in tally object did ≡ made (is_alike object did) steps
  alike-in object did =
      by-test
      (λ z. has_history object ≡ z → (if z then at_in tally object
      else count_in tally (way_key (way_of (passing did)) object)) ≡ made (is_alike object did) steps)
      (has_history object)
      (λ _ has. at-in object ∙ sym (made-alike object did steps has))
      (λ _ none. c (way_key (way_of (passing did)) object)
      ∙ sym (made-is (is_alike object did) (way_key (way_of (passing did)) object) (alike-is object did none) steps))
      refl

  finds-in : (mail : Object) (number : ℕ) (p : Passing) → finds_in tally mail number p ≡ finds_its steps mail number p
  finds-in mail number Stays = refl
  finds-in mail number (Goes q) = refl
  finds-in mail number (Comes q) =
      ap (nat_le number) (c (way_key 1 mail) ∙ sym (made-is (is_post mail) (way_key 1 mail) (post-is mail) steps))

  ref-fits-in : (root : RootId) (did : RefDid) → ref_fits_in tally root did ≡ count_fits steps root did
  ref-fits-in root Born =
      λ i. (root.generation == born_at-in root.place i + 1)
      && ((vacated_at-in root.place i == born_at-in root.place i) && (gained-in root i == lost-in root i + 0))
  ref-fits-in root Retain = λ i. nat_lt (lost-in root i) (gained-in root i)
  ref-fits-in root Kept = λ i. nat_lt (lost-in root i + 1) (gained-in root i)
  ref-fits-in root Ended = λ i. gained-in root i == lost-in root i + 1
  ref-fits-in root Vacated =
      λ i. (end-in root i == vacated-in root i + 1) && (gained-in root i == lost-in root i + 0)
  ref-fits-in root (Look found) = λ i. nat_lt 0 found && (gained-in root i == lost-in root i + found)

  -- a note fits what was counted where it fits the steps
  pub fits-in : (n : Note) → fits_in tally n ≡ note_fits steps n
  fits-in (At object number did) =
      λ i. (number == alike-in object did i + 1) && finds-in object number (passing did) i
  fits-in (Ref root did) = ref-fits-in root did
  fits-in (Busy held) = λ i. held.number == at-in held.object i
