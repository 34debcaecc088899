-- At each moment what was fetched from a mail is the front of what was posted to it.
use Rattle.std.proofs.Common.{⊎_elim, ◌≡◌, ℕ, zero, suc, ◌+◌, ◌≤◌, Bool, true, false, List, [], ◌∷◌, ◌++◌, length, take, refl, sym, ap, subst, arith, Some, None, ◌∙◌, eqb-true, eq-eqb, ne_eqb}
use Rattle.std.specs.Prelude.{◌==◌, ◌&&◌, ◌||◌, if◌then◌else◌, slice_get}
use Rattle.std.proofs.lemmas.Bool.{cases_lt}
use Rattle.std.proofs.lemmas.List.{take_all}
use Rattle.pool_law.specs.declared.id.Parcel.{Parcel}
use Rattle.pool_law.specs.declared.note.Object.{Object}
use Rattle.pool_law.specs.declared.note.Object.TheVariants.{Mail}
use Rattle.pool_law.specs.declared.note.Did.TheVariants.{Post, Fetch}
use Rattle.pool_law.specs.declared.note.Note.{Note}
use Rattle.pool_law.specs.declared.note.Note.TheVariants.{At, Ref, Busy}
use Rattle.pool_law.specs.declared.run.Shape.{Shape}
use Rattle.pool_law.specs.Same.{same_object}
use Rattle.pool_law.specs.Kinds.{Passing, Stays, Goes, Comes, passing}
use Rattle.pool_law.specs.Logs.{Logs, of_lane, has_history, note_stands}
use Rattle.pool_law.specs.Mails.{gone, come, posted, fetched, MailHolds}
use Rattle.pool_law.specs.Legal.{HistoriesHold, one_if}
use Rattle.pool_law.proofs.SameLemmas.{and-first, and-second, same_object-is}
use Rattle.pool_law.proofs.ListLemmas.{item-at, get-front, front-is}
use Rattle.run_order.specs.Order.{Step, notes_by, is_alike, is_post, is_sent, same_way, made, Fits, InOneOrder}
use Rattle.run_order.proofs.Fronts.{by-test, made-next, made-more}
use Rattle.run_order.proofs.HandOver.{made-together}
use Rattle.run_order.proofs.MailLists.{posted-append, fetched-append}
use Rattle.run_order.proofs.Positions.{fits-there, noted}
use Rattle.run_order.proofs.Turns.{notes-append}
use Rattle.run_laws.proofs.Placed.{all-at}

-- a front of a front, where it is not longer than the other's
front-of : {X : Type 0} (f g p q : List X) → f ++ g ≡ take (length (f ++ g)) (p ++ q) → length f ≤ length p
    → f ≡ take (length f) p
front-of [] g p q e few = refl
front-of (x ∷ f) g [] q e few = absurd (omega (arith, few))
front-of {X = X} (x ∷ f) g (y ∷ p) q e few =
    let first : ◌≡◌ {A = X} x y = cc e in
    let rest : f ++ g ≡ take (length (f ++ g)) (p ++ q) = cc e in
    λ i. first i ∷ front-of f g p q rest (omega (arith, few)) i

-- ---- How many of the steps post to a mail, and fetch from it.

abbrev is_fetch : Object → Note → Bool
is_fetch mail = is_alike mail (Fetch (record { view = None }))

not-fetch : (has : Bool) → has ≡ false → (has || false) ≡ true → ⊥
not-fetch true none e = cc none
not-fetch false none e = cc e

-- what is numbered with the fetches of a mail is a fetch from it
fetch-is : (mail : Object) → has_history mail ≡ false → (n : Note) → is_fetch mail n ≡ true
    → (number : ℕ) × (q : Parcel) × (n ≡ At mail number (Fetch q))
fetch-is mail none (At o k (Fetch q)) e =
    (k, q, ap (λ x. At x k (Fetch q)) (sym (same_object-is mail o (and-second (has_history mail || true) _ e))))
fetch-is mail none (At o k _) e = absurd (not-fetch (has_history mail) none (and-first (has_history mail || false) _ e))
fetch-is mail none (Ref root did) e = absurd (cc e)
fetch-is mail none (Busy held) e = absurd (cc e)

fetched-count : (mail : Object) (lane : ℕ) (xs : List Step)
    → length (fetched mail (notes_by lane xs)) ≤ made (is_fetch mail) xs
fetched-count mail lane [] = omega arith
fetched-count mail lane (x ∷ xs) =
    by-test
    (λ z. length (fetched mail (if z then x.note ∷ notes_by lane xs else notes_by lane xs))
    ≤ one_if (is_fetch mail x.note) + made (is_fetch mail) xs)
    (x.lane == lane)
    (λ _. omega (arith, one x.note (notes_by lane xs), fetched-count mail lane xs))
    (λ _. omega (arith, fetched-count mail lane xs))
  where
    passed : (has same : Bool) (k : ℕ) (q : Passing) (fs : List (ℕ × Parcel))
        → length ((if same then come k q else []) ++ fs)
        ≤ one_if ((has || same_way (Comes (record { view = None })) q) && same) + length fs
    passed has true k Stays fs = omega arith
    passed has true k (Goes p) fs = omega arith
    passed true true k (Comes p) fs = omega arith
    passed false true k (Comes p) fs = omega arith
    passed has false k q fs = omega arith

    one : (n : Note) (ns : List Note)
        → length (fetched mail (n ∷ ns)) ≤ one_if (is_fetch mail n) + length (fetched mail ns)
    one (At o k d) ns = passed (has_history mail) (same_object mail o) k (passing d) (fetched mail ns)
    one (Ref root did) ns = omega arith
    one (Busy held) ns = omega arith

-- the first lane of a mail alone posts to it
posted-count : (shape : Shape) (sender receiver : ℕ) (xs : List Step)
    → ((p : ℕ) (x : Step) → slice_get xs p ≡ Some x → note_stands shape x.lane x.note ≡ true)
    → made (is_post (Mail sender receiver)) xs ≤ length (posted (Mail sender receiver) (notes_by sender xs))
posted-count shape sender receiver [] stand = omega arith
posted-count shape sender receiver (x ∷ xs) stand =
    let rest : made (is_post mail) xs ≤ length (posted mail (notes_by sender xs)) =
    posted-count shape sender receiver xs (λ p y e. stand (suc p) y e) in
    by-test
    (λ z. one_if (is_post mail x.note) + made (is_post mail) xs
    ≤ length (posted mail (if z then x.note ∷ notes_by sender xs else notes_by sender xs)))
    (x.lane == sender)
    (λ _. omega (arith, own x.note (notes_by sender xs), rest))
    (λ other. omega (arith, none x.note (stand 0 x refl) other, rest))
  where
    mail : Object
    mail = Mail sender receiver

    passed : (same : Bool) (k : ℕ) (q : Passing) (ps : List (ℕ × Parcel))
        → one_if (is_sent q && same) + length ps ≤ length ((if same then gone k q else []) ++ ps)
    passed true k Stays ps = omega arith
    passed true k (Goes p) ps = omega arith
    passed true k (Comes p) ps = omega arith
    passed false k Stays ps = omega arith
    passed false k (Goes p) ps = omega arith
    passed false k (Comes p) ps = omega arith

    own : (n : Note) (ns : List Note)
        → one_if (is_post mail n) + length (posted mail ns) ≤ length (posted mail (n ∷ ns))
    own (At o k d) ns = passed (same_object mail o) k (passing d) (posted mail ns)
    own (Ref root did) ns = omega arith
    own (Busy held) ns = omega arith

    none : (n : Note) → note_stands shape x.lane n ≡ true → (x.lane == sender) ≡ false
        → one_if (is_post mail n) ≡ 0
    none (At (Mail a b) k (Post p)) stands other =
        ap (λ z. one_if (z && (receiver == b)))
        (ne_eqb sender a (λ same.
        let both : true ≡ false = sym (eq-eqb x.lane sender (eqb-true x.lane a stands ∙ sym same)) ∙ other in cc both))
    none (At _ k (Post p)) stands other = absurd (cc stands)
    none (At o k _) stands other = refl
    none (Ref root did) stands other = refl
    none (Busy held) stands other = refl

module _ (logs : Logs) (o : InOneOrder logs) (mail : Object) (none : has_history mail ≡ false) where
  -- after each front of the steps no more was fetched than posted
  fetches-few : (k : ℕ) → made (is_fetch mail) (take k o.steps) ≤ made (is_post mail) (take k o.steps)
  fetches-few zero = omega arith
  fetches-few (suc k) =
      let few : made (is_fetch mail) (take k o.steps) ≤ made (is_post mail) (take k o.steps) = fetches-few k in
      ⊎_elim (inside few) (past few) (cases_lt k (length o.steps))
    where
      inside : made (is_fetch mail) (take k o.steps) ≤ made (is_post mail) (take k o.steps) → suc k ≤ length o.steps
          → made (is_fetch mail) (take (suc k) o.steps) ≤ made (is_post mail) (take (suc k) o.steps)
      inside few low =
          let s = item-at o.steps k low in
          let more : made (is_post mail) (take k o.steps) ≤ made (is_post mail) (take (suc k) o.steps) =
          made-more (is_post mail) o.steps k (suc k) (omega arith) in
          let next = made-next (is_fetch mail) o.steps k s.0 s.1 in
          by-test (λ z. is_fetch mail s.0.note ≡ z
          → made (is_fetch mail) (take (suc k) o.steps) ≤ made (is_post mail) (take (suc k) o.steps))
          (is_fetch mail s.0.note)
          (λ _ yes.
          let f = fetch-is mail none s.0.note yes in
          let fits : Fits (take k o.steps) (At mail f.0 (Fetch f.1)) =
          subst (Fits (take k o.steps)) f.2 (fits-there logs o k s.0 s.1) in
          omega (
            arith,
            next,
            ap one_if yes,
            fits.0,
            fits.1,
            made-together mail (Fetch f.1) (Fetch (record { view = None })) (take k o.steps) (ap (λ z. z || true) none),
            more,
          ))
          (λ _ no. omega (arith, next, ap one_if no, more, few))
          refl

      past : made (is_fetch mail) (take k o.steps) ≤ made (is_post mail) (take k o.steps) → length o.steps ≤ k
          → made (is_fetch mail) (take (suc k) o.steps) ≤ made (is_post mail) (take (suc k) o.steps)
      past few high =
          let longer : take (suc k) o.steps ≡ o.steps = take_all (suc k) o.steps (omega (arith, high)) in
          let as_long : take k o.steps ≡ o.steps = take_all k o.steps high in
          omega (
            arith,
            ap (made (is_fetch mail)) (longer ∙ sym as_long),
            ap (made (is_post mail)) (longer ∙ sym as_long),
            few,
          )

module _ (shape : Shape) (logs : Logs) (holds : HistoriesHold shape logs) (o : InOneOrder logs)
    (before after : List Step) (is : o.steps ≡ before ++ after) where
  stand-in : (p : ℕ) (x : Step) → slice_get before p ≡ Some x → note_stands shape x.lane x.note ≡ true
  stand-in p x e =
      let r = noted logs o p x (ap (λ xs. slice_get xs p) is ∙ get-front before after p x e) in
      all-at (note_stands shape x.lane) (of_lane logs x.lane) r.0 x.note (holds.stand x.lane) r.1

  -- a lane's log is its notes of the front, and those behind it
  pub log-is : (lane : ℕ) → of_lane logs lane ≡ notes_by lane before ++ notes_by lane after
  log-is lane = sym (o.whole lane) ∙ ap (notes_by lane) is ∙ notes-append lane before after

  front : take (length before) o.steps ≡ before
  front = ap (take (length before)) is ∙ front-is before after

  pub mails-in_front : (sender receiver : ℕ) →
      MailHolds (Mail sender receiver) (notes_by sender before) (notes_by receiver before)
  mails-in_front sender receiver =
      record {
        numbered = λ k post e.
            whole.numbered k post
            (ap (λ ps. slice_get ps k) posts
            ∙ get-front (posted mail (notes_by sender before)) (posted mail (notes_by sender after)) k post e);
        in_order =
            front-of (fetched mail (notes_by receiver before)) (fetched mail (notes_by receiver after))
            (posted mail (notes_by sender before)) (posted mail (notes_by sender after))
            (sym fetches
            ∙ whole.in_order
            ∙ (λ i. take (length (fetches i)) (posts i)))
            few;
      }
    where
      mail : Object
      mail = Mail sender receiver

      whole : MailHolds mail (of_lane logs sender) (of_lane logs receiver)
      whole = holds.mails sender receiver

      posts : posted mail (of_lane logs sender)
          ≡ posted mail (notes_by sender before) ++ posted mail (notes_by sender after)
      posts = ap (posted mail) (log-is sender) ∙ posted-append mail (notes_by sender before) (notes_by sender after)

      fetches : fetched mail (of_lane logs receiver)
          ≡ fetched mail (notes_by receiver before) ++ fetched mail (notes_by receiver after)
      fetches =
          ap (fetched mail) (log-is receiver)
          ∙ fetched-append mail (notes_by receiver before) (notes_by receiver after)

      few : length (fetched mail (notes_by receiver before)) ≤ length (posted mail (notes_by sender before))
      few =
          omega (
            arith,
            fetched-count mail receiver before,
            fetches-few logs o mail refl (length before),
            ap (made (is_fetch mail)) front,
            ap (made (is_post mail)) front,
            posted-count shape sender receiver before stand-in,
          )
