-- The parcels of a mail, by what is posted and fetched there.
use Rattle.std.proofs.Common.{◌≡◌, ℕ, zero, suc, ◌+◌, List, [], ◌∷◌, ◌++◌, refl, sym, ap, arith, Bool, true, false, ◌∙◌, eqb-true, ne_eqb}
use Rattle.std.specs.Prelude.{◌≢◌, ◌<◌, ◌==◌, ◌&&◌, if◌then◌else◌}
use Rattle.std.specs.List.{list_all}
use Rattle.size_classes.specs.Sizes.{below}
use Rattle.pool_law.specs.declared.id.RootId.{RootId}
use Rattle.pool_law.specs.declared.id.Parcel.{Parcel}
use Rattle.pool_law.specs.declared.note.Object.{Object}
use Rattle.pool_law.specs.declared.note.Did.{Did}
use Rattle.pool_law.specs.declared.note.Did.TheVariants.{Post, Fetch}
use Rattle.pool_law.specs.declared.note.Note.{Note}
use Rattle.pool_law.specs.declared.note.Note.TheVariants.{At, Ref, Busy}
use Rattle.pool_law.specs.declared.run.Shape.{Shape}
use Rattle.pool_law.specs.Same.{same_object}
use Rattle.pool_law.specs.Kinds.{Passing, Stays, Goes, Comes, passing}
use Rattle.pool_law.specs.Logs.{has_history, may_stand, note_stands}
use Rattle.pool_law.specs.Mails.{gone, come, posted, fetched}
use Rattle.pool_law.specs.Counts.{view_is_of}
use Rattle.run_laws.specs.Parcels.{parcels_of, sum_up}
use Rattle.pool_law.proofs.SameLemmas.{and-first, and-second}
use Rattle.pool_law.proofs.HistoryLemmas.{over_lanes, over-same}
use Rattle.run_laws.proofs.Sums.{sum_by, none-if}
use Rattle.run_laws.proofs.Numbered.{plain, at_object}
use Rattle.run_laws.proofs.Totals.{pick, over_lanes-none}

abbrev pub one : Bool → ℕ
one b = if b then 1 else 0

-- a parcel with the root that goes, and one that comes
abbrev pub goes_with : RootId → Passing → ℕ
goes_with root Stays = 0
goes_with root (Goes p) = one (view_is_of root p.view)
goes_with root (Comes p) = 0

abbrev pub comes_with : RootId → Passing → ℕ
comes_with root Stays = 0
comes_with root (Goes p) = 0
comes_with root (Comes p) = one (view_is_of root p.view)

abbrev pub posts : RootId → Did → ℕ
posts root d = goes_with root (passing d)

abbrev pub fetches : RootId → Did → ℕ
fetches root d = comes_with root (passing d)

pub parcels-append : (root : RootId) (xs ys : List (ℕ × Parcel))
    → parcels_of root (xs ++ ys) ≡ parcels_of root xs + parcels_of root ys
parcels-append root [] ys = omega arith
parcels-append root (x ∷ xs) ys = omega (arith, parcels-append root xs ys)

-- the posts of a log at a mail are the parcels that it posts there, and so are the fetches
pub posts-sum : (root : RootId) (mail : Object) (log : List Note)
    → sum_by (at_object mail (plain (posts root))) log ≡ parcels_of root (posted mail log)
posts-sum root mail [] = refl
posts-sum root mail (At o k d ∷ ns) =
    omega (
      arith,
      one-note (same_object mail o) (passing d),
      parcels-append root (if same_object mail o then gone k (passing d) else []) (posted mail ns),
      posts-sum root mail ns,
    )
  where
    one-note : (b : Bool) (q : Passing) → (if b then goes_with root q else 0)
        ≡ parcels_of root (if b then gone k q else [])
    one-note true Stays = refl
    one-note true (Goes p) = omega arith
    one-note true (Comes p) = refl
    one-note false q = refl
posts-sum root mail (Ref r did ∷ ns) = omega (arith, posts-sum root mail ns)
posts-sum root mail (Busy held ∷ ns) = omega (arith, posts-sum root mail ns)

pub fetches-sum : (root : RootId) (mail : Object) (log : List Note)
    → sum_by (at_object mail (plain (fetches root))) log ≡ parcels_of root (fetched mail log)
fetches-sum root mail [] = refl
fetches-sum root mail (At o k d ∷ ns) =
    omega (
      arith,
      one-note (same_object mail o) (passing d),
      parcels-append root (if same_object mail o then come k (passing d) else []) (fetched mail ns),
      fetches-sum root mail ns,
    )
  where
    one-note : (b : Bool) (q : Passing) → (if b then comes_with root q else 0)
        ≡ parcels_of root (if b then come k q else [])
    one-note true Stays = refl
    one-note true (Goes p) = refl
    one-note true (Comes p) = omega arith
    one-note false q = refl
fetches-sum root mail (Ref r did ∷ ns) = omega (arith, fetches-sum root mail ns)
fetches-sum root mail (Busy held ∷ ns) = omega (arith, fetches-sum root mail ns)

-- posts and fetches stand at mails
abbrev pub IsMail : Object → Type 0
IsMail (Object.Mail from to) = Unit {0}
IsMail _ = ⊥

abbrev pub AtMail : Object → Did → Type 0
AtMail o (Post p) = IsMail o
AtMail o (Fetch p) = IsMail o
AtMail o _ = Unit {0}

pub at-mail : (shape : Shape) (lane : ℕ) (o : Object) (d : Did) → may_stand shape lane o d ≡ true → AtMail o d
at-mail shape lane (Object.Mail from to) (Post p) e = tt
at-mail shape lane _ (Post p) e = absurd (cc e)
at-mail shape lane (Object.Mail from to) (Fetch p) e = tt
at-mail shape lane _ (Fetch p) e = absurd (cc e)
at-mail shape lane o _ e = tt

-- two mails that differ at an end are not the same
not-first : (a b : ℕ) (c : Bool) (w : ℕ) → a ≢ b → (if (a == b) && c then w else 0) ≡ 0
not-first a b c w differ = ap (λ z. if z && c then w else 0) (ne_eqb a b differ)

not-second : (c : Bool) (a b w : ℕ) → a ≢ b → (if c && (a == b) then w else 0) ≡ 0
not-second true a b w differ = ap (λ z. if z then w else 0) (ne_eqb a b differ)
not-second false a b w differ = refl

-- the first lane of a mail alone posts to it, and the second alone fetches
module _ (shape : Shape) (root : RootId) (lane from to : ℕ) where
  abbrev Stand : List Note → Type 0
  Stand ns = list_all (note_stands shape lane) ns ≡ true

  pub others-post : (ns : List Note) → Stand ns → lane ≢ from
      → sum_by (at_object (Object.Mail from to) (plain (posts root))) ns ≡ 0
  others-post [] stand differ = refl
  others-post (At o k d ∷ ns) stand differ =
      omega (
        arith,
        none o d (and-first _ _ stand),
        others-post ns (and-second (may_stand shape lane o d) (list_all (note_stands shape lane) ns) stand) differ,
      )
    where
      none : (o : Object) (d : Did) → may_stand shape lane o d ≡ true
          → (if same_object (Object.Mail from to) o then posts root d else 0) ≡ 0
      none (Object.Mail a b) (Post p) own =
          not-first from a (to == b) (one (view_is_of root p.view))
          (λ same. differ (eqb-true lane a own ∙ sym same))
      none (Object.Mail a b) _ own = none-if ((from == a) && (to == b))
      none _ d own = refl
  others-post (Ref r did ∷ ns) stand differ = omega (arith, others-post ns stand differ)
  others-post (Busy held ∷ ns) stand differ =
      omega (
        arith,
        others-post ns (and-second (has_history held.object) (list_all (note_stands shape lane) ns) stand) differ,
      )

  pub others-fetch : (ns : List Note) → Stand ns → lane ≢ to
      → sum_by (at_object (Object.Mail from to) (plain (fetches root))) ns ≡ 0
  others-fetch [] stand differ = refl
  others-fetch (At o k d ∷ ns) stand differ =
      omega (
        arith,
        none o d (and-first _ _ stand),
        others-fetch ns (and-second (may_stand shape lane o d) (list_all (note_stands shape lane) ns) stand) differ,
      )
    where
      none : (o : Object) (d : Did) → may_stand shape lane o d ≡ true
          → (if same_object (Object.Mail from to) o then fetches root d else 0) ≡ 0
      none (Object.Mail a b) (Fetch p) own =
          not-second (from == a) to b (one (view_is_of root p.view))
          (λ same. differ (eqb-true lane b own ∙ sym same))
      none (Object.Mail a b) _ own = none-if ((from == a) && (to == b))
      none _ d own = refl
  others-fetch (Ref r did ∷ ns) stand differ = omega (arith, others-fetch ns stand differ)
  others-fetch (Busy held ∷ ns) stand differ =
      omega (
        arith,
        others-fetch ns (and-second (has_history held.object) (list_all (note_stands shape lane) ns) stand) differ,
      )

-- sums over the numbers below another
pub sum_up-append : (xs ys : List ℕ) (f : ℕ → ℕ) → sum_up (xs ++ ys) f ≡ sum_up xs f + sum_up ys f
sum_up-append [] ys f = omega arith
sum_up-append (x ∷ xs) ys f = omega (arith, sum_up-append xs ys f)

pub over_lanes-last : (k n : ℕ) (f : ℕ → ℕ) → over_lanes k (suc n) f ≡ over_lanes k n f + f (k + n)
over_lanes-last k zero f = omega (arith, ap f (let e : k + 0 ≡ k = omega arith in e))
over_lanes-last k (suc n) f =
    let number : k + 1 + n ≡ k + suc n = omega arith in
    omega (arith, over_lanes-last (k + 1) n f, ap f number)

pub sum_up-over : (n : ℕ) (f : ℕ → ℕ) → sum_up (below n) f ≡ over_lanes 0 n f
sum_up-over zero f = refl
sum_up-over (suc n) f =
    omega (
      arith,
      sum_up-append (below n) (n ∷ []) f,
      sum_up-over n f,
      over_lanes-last 0 n f,
      ap f
          (let e : 0 + n ≡ n = omega arith in e),
    )

-- one mail is picked
pub pick-mail : (n a b w : ℕ) → a < n → b < n → over_lanes 0 n
    (λ f. over_lanes 0 n (λ t. if (f == a) && (t == b) then w else 0)) ≡ w
pick-mail n a b w low_a low_b =
    over-same 0 n (λ f. over_lanes 0 n (λ t. if (f == a) && (t == b) then w else 0)) (λ f. if f == a then w else 0)
    inner
    ∙ pick (λ _. w) 0 n a (omega arith) (omega (arith, low_a))
  where
    inner : (f : ℕ) → over_lanes 0 n (λ t. if (f == a) && (t == b) then w else 0) ≡ (if f == a then w else 0)
    inner f = go (f == a)
      where
        go : (x : Bool) → over_lanes 0 n (λ t. if x && (t == b) then w else 0) ≡ (if x then w else 0)
        go true = pick (λ _. w) 0 n b (omega arith) (omega (arith, low_b))
        go false = over_lanes-none 0 n
