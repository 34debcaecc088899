-- Where the notes of the logs stand in the one order.
use Rattle.std.proofs.Common.{⊎_elim, ◌≡◌, ℕ, zero, suc, ◌+◌, ◌≤◌, Bool, true, false, refl, List, [], ◌∷◌, length, take, drop, sym, ap, arith, Some, ◌∙◌, eqb-true, eq-eqb}
use Rattle.std.specs.Prelude.{◌<◌, ◌==◌, ◌&&◌, ◌||◌, if◌then◌else◌, slice_get}
use Rattle.std.proofs.lemmas.Bool.{cases_lt}
use Rattle.pool_law.specs.declared.id.Parcel.{Parcel}
use Rattle.pool_law.specs.declared.note.Object.{Object}
use Rattle.pool_law.specs.declared.note.Did.{Did}
use Rattle.pool_law.specs.declared.note.Did.TheVariants.{Post, Fetch}
use Rattle.pool_law.specs.declared.note.Note.{Note}
use Rattle.pool_law.specs.declared.note.Note.TheVariants.{At, Ref, Busy}
use Rattle.pool_law.specs.Same.{same_object}
use Rattle.pool_law.specs.Kinds.{Passing, Stays, Goes, Comes, passing}
use Rattle.pool_law.specs.Logs.{Logs, has_history}
use Rattle.pool_law.specs.Legal.{one_if}
use Rattle.pool_law.specs.Lives.{StandsAt}
use Rattle.run_order.specs.Order.{Step, notes_by, is_at, is_alike, is_post, is_sent, same_way, made, Fits, InOneOrder}
use Rattle.run_order.proofs.Fronts.{by-test, split-at, made-more}

-- the place among these steps of a lane's step with this number in its log
abbrev pub place_of : ℕ → ℕ → List Step → ℕ
place_of lane at [] = 0
place_of lane at (x ∷ xs) =
    if x.lane == lane then elim at [ zero ↦ 0 | suc n ↦ suc (place_of lane n xs) ]
    else suc (place_of lane at xs)

-- a note of a lane's log stands there
pub stands-there : (lane at : ℕ) (xs : List Step) (n : Note) → slice_get (notes_by lane xs) at ≡ Some n
    → slice_get xs (place_of lane at xs) ≡ Some (record { lane = lane; note = n })
stands-there lane at [] n e = absurd (cc e)
stands-there lane zero (x ∷ xs) n e =
    by-test
    (λ z. slice_get (if z then x.note ∷ notes_by lane xs else notes_by lane xs) 0 ≡ Some n
    → slice_get (x ∷ xs) (if z then 0 else suc (place_of lane 0 xs)) ≡ Some (record { lane = lane; note = n }))
    (x.lane == lane)
    (λ same is. let own : x.lane ≡ lane = eqb-true x.lane lane same in let here : x.note ≡ n = cc is in
    (λ i. Some (record { lane = own i; note = here i })))
    (λ _ is. stands-there lane 0 xs n is)
    e
stands-there lane (suc at) (x ∷ xs) n e =
    by-test
    (λ z. slice_get (if z then x.note ∷ notes_by lane xs else notes_by lane xs) (suc at) ≡ Some n
    → slice_get (x ∷ xs) (if z then suc (place_of lane at xs) else suc (place_of lane (suc at) xs))
    ≡ Some (record { lane = lane; note = n }))
    (x.lane == lane)
    (λ _ is. stands-there lane at xs n is)
    (λ _ is. stands-there lane (suc at) xs n is)
    e

-- of two notes of a lane's log the later stands later
pub later-there : (lane at bt : ℕ) (xs : List Step) (n : Note) → slice_get (notes_by lane xs) bt ≡ Some n
    → at < bt → place_of lane at xs < place_of lane bt xs
later-there lane at bt [] n e less = absurd (cc e)
later-there lane at zero (x ∷ xs) n e less = absurd (omega arith)
later-there lane zero (suc bt) (x ∷ xs) n e less =
    by-test
    (λ z. slice_get (if z then x.note ∷ notes_by lane xs else notes_by lane xs) (suc bt) ≡ Some n
    → (if z then 0 else suc (place_of lane 0 xs))
    < (if z then suc (place_of lane bt xs) else suc (place_of lane (suc bt) xs)))
    (x.lane == lane)
    (λ _ is. omega arith)
    (λ _ is. omega (arith, later-there lane 0 (suc bt) xs n is less))
    e
later-there lane (suc at) (suc bt) (x ∷ xs) n e less =
    by-test
    (λ z. slice_get (if z then x.note ∷ notes_by lane xs else notes_by lane xs) (suc bt) ≡ Some n
    → (if z then suc (place_of lane at xs) else suc (place_of lane (suc at) xs))
    < (if z then suc (place_of lane bt xs) else suc (place_of lane (suc bt) xs)))
    (x.lane == lane)
    (λ _ is. omega (arith, later-there lane at bt xs n is (omega arith)))
    (λ _ is. omega (arith, later-there lane (suc at) (suc bt) xs n is less))
    e

-- the number in its lane's log of the step at a place
abbrev pub rank_of : ℕ → ℕ → List Step → ℕ
rank_of lane p xs = length (notes_by lane (take p xs))

-- each step is a note of its lane's log
pub noted-there : (xs : List Step) (p : ℕ) (x : Step) → slice_get xs p ≡ Some x
    → (slice_get (notes_by x.lane xs) (rank_of x.lane p xs) ≡ Some x.note)
    × (place_of x.lane (rank_of x.lane p xs) xs ≡ p)
noted-there [] p x e = absurd (cc e)
noted-there (y ∷ ys) zero x e =
    let same : y ≡ x = cc e in
    let own : (y.lane == x.lane) ≡ true = eq-eqb y.lane x.lane (ap (λ z. z.lane) same) in (
      ap (λ z. slice_get (if z then y.note ∷ notes_by x.lane ys else notes_by x.lane ys) 0) own
          ∙ ap (λ z. Some z.note) same,
      ap (λ z. if z then 0 else suc (place_of x.lane 0 ys)) own,
    )
noted-there (y ∷ ys) (suc p) x e =
    let r = noted-there ys p x e in
    by-test
    (λ z. (slice_get (if z then y.note ∷ notes_by x.lane ys else notes_by x.lane ys)
    (length (if z then y.note ∷ notes_by x.lane (take p ys) else notes_by x.lane (take p ys))) ≡ Some x.note)
    × ((if z then elim (length (if z then y.note ∷ notes_by x.lane (take p ys) else notes_by x.lane (take p ys)))
    [ zero ↦ 0 | suc n ↦ suc (place_of x.lane n ys) ]
    else suc (place_of x.lane (length (if z then y.note ∷ notes_by x.lane (take p ys)
    else notes_by x.lane (take p ys))) ys)) ≡ suc p))
    (y.lane == x.lane)
    (λ _. (r.0, ap suc r.1))
    (λ _. (r.0, ap suc r.1))

-- in an object's history each note is numbered with each
pub made-alike : (object : Object) (did : Did) (xs : List Step) → has_history object ≡ true
    → made (is_alike object did) xs ≡ made (is_at object) xs
made-alike object did [] has = refl
made-alike object did (x ∷ xs) has = omega (arith, ap one_if (one x.note), made-alike object did xs has)
  where
    one : (n : Note) → is_alike object did n ≡ is_at object n
    one (At other number done) =
        ap (λ z. (z || same_way (passing did) (passing done)) && same_object object other) has
    one (Ref root done) = refl
    one (Busy held) = refl

-- of a mail the posts are numbered by themselves
pub made-posts : (mail : Object) (parcel : Parcel) (xs : List Step)
    → made (is_post mail) xs ≤ made (is_alike mail (Post parcel)) xs
made-posts mail parcel [] = omega arith
made-posts mail parcel (x ∷ xs) = omega (arith, one x.note, made-posts mail parcel xs)
  where
    passed : (has : Bool) (q : Passing) (at : Bool)
        → one_if (is_sent q && at) ≤ one_if ((has || same_way (Goes parcel) q) && at)
    passed has Stays at = omega arith
    passed true (Goes r) at = omega arith
    passed false (Goes r) at = omega arith
    passed has (Comes r) at = omega arith

    one : (n : Note) → one_if (is_post mail n) ≤ one_if (is_alike mail (Post parcel) n)
    one (At other number done) = passed (has_history mail) (passing done) (same_object mail other)
    one (Ref root done) = omega arith
    one (Busy held) = omega arith

module _ (logs : Logs) (o : InOneOrder logs) where
  -- the place in the one order of a note of a log
  abbrev pub place : ℕ → ℕ → ℕ
  place lane at = place_of lane at o.steps

  -- it stands there
  pub there : (lane at : ℕ) (n : Note) → StandsAt logs lane at n
      → slice_get o.steps (place lane at) ≡ Some (record { lane = lane; note = n })
  there lane at n e = stands-there lane at o.steps n (ap (λ ns. slice_get ns at) (o.whole lane) ∙ e)

  -- of two notes of one log the later stands later
  pub later-in_log : (lane at bt : ℕ) (n : Note) → StandsAt logs lane bt n → at < bt → place lane at < place lane bt
  later-in_log lane at bt n e less =
      later-there lane at bt o.steps n (ap (λ ns. slice_get ns bt) (o.whole lane) ∙ e) less

  -- each step is a note of a log
  pub noted : (p : ℕ) (x : Step) → slice_get o.steps p ≡ Some x
      → (at : ℕ) × StandsAt logs x.lane at x.note × (place x.lane at ≡ p)
  noted p x e =
      let r = noted-there o.steps p x e in
      (rank_of x.lane p o.steps, ap (λ ns. slice_get ns (rank_of x.lane p o.steps)) (sym (o.whole x.lane)) ∙ r.0, r.1)

  -- each step fits those before it
  pub fits-there : (p : ℕ) (x : Step) → slice_get o.steps p ≡ Some x → Fits (take p o.steps) x.note
  fits-there p x e = o.fits (take p o.steps) (drop (suc p) o.steps) x (split-at o.steps p x e)

  -- the number of a note, among those that it is numbered with
  pub number-there : (object : Object) (n : ℕ) (d : Did) (lane at : ℕ) → StandsAt logs lane at (At object n d)
      → n ≡ made (is_alike object d) (take (place lane at) o.steps) + 1
  number-there object n d lane at is =
      (fits-there (place lane at) (record { lane = lane; note = At object n d }) (there lane at (At object n d) is)).0

  -- of two notes in one object's history the one with the higher number stands later
  pub later-at_object : (object : Object) (m n : ℕ) (d e : Did) (lane at other bt : ℕ) →
      has_history object ≡ true →
      StandsAt logs lane at (At object m d) → StandsAt logs other bt (At object n e) → m < n →
      place lane at < place other bt
  later-at_object object m n d e lane at other bt has is after less =
      ⊎_elim (λ low. low)
      (λ high. absurd (omega (
        arith,
        number-there object m d lane at is,
        number-there object n e other bt after,
        less,
        made-alike object d (take (place lane at) o.steps) has,
        made-alike object e (take (place other bt) o.steps) has,
        made-more (is_at object) o.steps (place other bt) (place lane at) high,
      )))
      (cases_lt (place lane at) (place other bt))

  -- the post of a parcel stands before the fetch with its number
  pub post-first : (mail : Object) (n : ℕ) (p q : Parcel) (lane at other bt : ℕ) →
      StandsAt logs lane at (At mail n (Post p)) → StandsAt logs other bt (At mail n (Fetch q)) →
      place lane at < place other bt
  post-first mail n p q lane at other bt sent got =
      ⊎_elim (λ low. low)
      (λ high. absurd (omega (
        arith,
        number-there mail n (Post p) lane at sent,
        (fits-there (place other bt) (record { lane = other; note = At mail n (Fetch q) })
            (there other bt (At mail n (Fetch q)) got)).1,
        made-posts mail p (take (place lane at) o.steps),
        made-more (is_post mail) o.steps (place other bt) (place lane at) high,
      )))
      (cases_lt (place lane at) (place other bt))
