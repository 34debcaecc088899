-- Notes at mails as the law numbers them, by the weights of the table.
use Rattle.std.proofs.Common.{◌≡◌, ℕ, ◌+◌, List, map, Bool, true, false, cond, refl, ap, ◌∙◌, arith, Some, None}
use Rattle.std.specs.Prelude.{◌==◌, ◌&&◌, ◌||◌, Option, IsTrue}
use Rattle.std.proofs.lemmas.Cmp.{nat_eq_equiv}
use Rattle.pool_law.specs.declared.id.Parcel.{Parcel}
use Rattle.pool_law.specs.declared.run.Shape.{Shape}
use Rattle.pool_law.specs.declared.note.Did.{Did}
use Rattle.pool_law.specs.declared.note.Did.TheVariants.{Fetch}
use Rattle.pool_law.specs.declared.note.Object.{Object}
use Rattle.pool_law.specs.declared.note.Object.TheVariants.{Arena, Cache, Bin, Mail, Root}
use Rattle.pool_law.specs.Homes.{IsObjectOf}
use Rattle.pool_law.specs.Kinds.{Passing, Stays, Goes, Comes, passing}
use Rattle.pool_law.specs.NotedHistories.{MayNote}
use Rattle.pool_law.specs.Same.{same_object}
use Rattle.pool_law.specs.Logs.{has_history}
use Rattle.run_order.specs.Order.{Step, FindsIts, is_at, is_alike, is_post, is_sent, same_way, made as made_of}
use Rattle.pool_table.specs.declared.views.Entry.{Entry}
use Rattle.pool_table.specs.declared.views.Entry.TheVariants.{At, Ref, Busy}
use Rattle.pool_table.specs.Letters.{letter_in, letter_out, letter_weight, is_on_way, sent_as, received_as}
use Rattle.pool_table.specs.Sequence.{Made, FitsMail}
use Rattle.shared_pool.proofs.ClosingSums.{law}
use Rattle.shared_pool.proofs.ClosingSteps.{step_of, made_is}

-- all notes of an object with a history are numbered together
pub alike_at : (o : Object) → IsTrue (has_history o) → (did : Did) (e : Entry)
    → law (is_alike o did) e ≡ law (is_at o) e
alike_at o has did (At p k n) =
    ap (λ (b : Bool). cond {A = ℕ} ((b || same_way (passing did) (passing n.did)) && same_object o p) 1 0) has
alike_at o has did (Ref r d) = refl
alike_at o has did (Busy b) = refl

-- the same way, from the letter and from the mail
same_mail : (a b c d : ℕ) → cond {A = ℕ} ((a == c) && (b == d)) 1 0 ≡ cond {A = ℕ} ((c == a) && (d == b)) 1 0
same_mail a b c d = λ i. cond {A = ℕ} (nat_eq_equiv.symm a c i && nat_eq_equiv.symm b d i) 1 0

none_so : (t : Bool) → cond {A = ℕ} (t && false) 1 0 ≡ 0
none_so true = refl
none_so false = refl

-- a test of posts weighs as the letters that are sent, and one of fetches as those that are received
module _ (a b : ℕ) (test : Passing → Bool) (stays : test Stays ≡ false) where
  by_test : (t : Bool) (p : Passing) (o : Object) → test p ≡ t
      → cond {A = ℕ} (test p && same_object (Mail a b) o) 1 0 ≡ cond {A = ℕ} (t && same_object (Mail a b) o) 1 0
  by_test t p o e = ap (λ (u : Bool). cond {A = ℕ} (u && same_object (Mail a b) o) 1 0) e

  as_sent : ((q : Parcel) → test (Goes q) ≡ true) → ((q : Parcel) → test (Comes q) ≡ false)
      → (o : Object) (k : ℕ) (p : Passing)
      → cond {A = ℕ} (test p && same_object (Mail a b) o) 1 0 ≡ letter_weight (is_on_way a b) (letter_in o k p)
  as_sent goes comes (Mail c d) k Stays = by_test false Stays (Mail c d) stays
  as_sent goes comes (Mail c d) k (Goes q) = by_test true (Goes q) (Mail c d) (goes q) ∙ same_mail a b c d
  as_sent goes comes (Mail c d) k (Comes q) = by_test false (Comes q) (Mail c d) (comes q)
  as_sent goes comes (Arena c) k p = none_so (test p)
  as_sent goes comes (Cache c d) k p = none_so (test p)
  as_sent goes comes (Bin c) k p = none_so (test p)
  as_sent goes comes (Root c) k p = none_so (test p)

  as_received : ((q : Parcel) → test (Goes q) ≡ false) → ((q : Parcel) → test (Comes q) ≡ true)
      → (o : Object) (k : ℕ) (p : Passing)
      → cond {A = ℕ} (test p && same_object (Mail a b) o) 1 0 ≡ letter_weight (is_on_way a b) (letter_out o k p)
  as_received goes comes (Mail c d) k Stays = by_test false Stays (Mail c d) stays
  as_received goes comes (Mail c d) k (Goes q) = by_test false (Goes q) (Mail c d) (goes q)
  as_received goes comes (Mail c d) k (Comes q) = by_test true (Comes q) (Mail c d) (comes q) ∙ same_mail a b c d
  as_received goes comes (Arena c) k p = none_so (test p)
  as_received goes comes (Cache c d) k p = none_so (test p)
  as_received goes comes (Bin c) k p = none_so (test p)
  as_received goes comes (Root c) k p = none_so (test p)

post_alike : (a b : ℕ) (e : Entry) → law (is_post (Mail a b)) e ≡ sent_as (is_on_way a b) e
post_alike a b (At o k n) = as_sent a b is_sent refl (λ q. refl) (λ q. refl) o k (passing n.did)
post_alike a b (Ref r d) = refl
post_alike a b (Busy h) = refl

goes_alike : (a b : ℕ) (did : Did) (q : Parcel) → passing did ≡ Goes q → (e : Entry)
    → law (is_alike (Mail a b) did) e ≡ sent_as (is_on_way a b) e
goes_alike a b did q is (At o k n) = as_sent a b (same_way (passing did)) (way Stays) (λ r. way (Goes r))
    (λ r. way (Comes r)) o k (passing n.did)
  where
    way : (p : Passing) → same_way (passing did) p ≡ same_way (Goes q) p
    way p = ap (λ (x : Passing). same_way x p) is
goes_alike a b did q is (Ref r d) = refl
goes_alike a b did q is (Busy h) = refl

comes_alike : (a b : ℕ) (did : Did) (q : Parcel) → passing did ≡ Comes q → (e : Entry)
    → law (is_alike (Mail a b) did) e ≡ received_as (is_on_way a b) e
comes_alike a b did q is (At o k n) = as_received a b (same_way (passing did)) (way Stays) (λ r. way (Goes r))
    (λ r. way (Comes r)) o k (passing n.did)
  where
    way : (p : Passing) → same_way (passing did) p ≡ same_way (Comes q) p
    way p = ap (λ (x : Passing). same_way x p) is
comes_alike a b did q is (Ref r d) = refl
comes_alike a b did q is (Busy h) = refl

-- what gets a parcel stands at a mail alone
pub finds_none : (s : Shape) (o : Object) → IsObjectOf s o → (lane : Option ℕ) (did : Did) → MayNote s lane o did
    → (before : List Step) (k : ℕ) → FindsIts before o k (passing did)
finds_none s o fits lane (Fetch q) may before k = absurd (by lane o fits may)
  where
    by : (lane : Option ℕ) (o : Object) → IsObjectOf s o → MayNote s lane o (Fetch q) → ⊥
    by None o fits may = cc may
    by (Some j) (Arena a) fits may = cc may
    by (Some j) (Cache d c) fits may = cc may
    by (Some j) (Bin b) fits may = cc may
    by (Some j) (Mail a b) fits may = fits
    by (Some j) (Root p) fits may = cc may
finds_none s o fits lane did may before k = tt

-- a note at a mail fits the steps before it
pub mail_fits : (xs : List Made) (a b k : ℕ) (did : Did) (p : Passing) → passing did ≡ p → FitsMail xs a b k p
    → (k ≡ made_of (is_alike (Mail a b) did) (map step_of xs) + 1) × FindsIts (map step_of xs) (Mail a b) k p
mail_fits xs a b k did Stays is fit = absurd fit
mail_fits xs a b k did (Goes q) is fit =
    let m = made_is (is_alike (Mail a b) did) (sent_as (is_on_way a b)) xs (λ j d lt. goes_alike a b did q is _) in
    (omega (arith, fit, m), tt)
mail_fits xs a b k did (Comes q) is fit =
    let m = made_is (is_alike (Mail a b) did) (received_as (is_on_way a b)) xs
    (λ j d lt. comes_alike a b did q is _) in
    let n = made_is (is_post (Mail a b)) (sent_as (is_on_way a b)) xs (λ j d lt. post_alike a b _) in
    let next = fit.0 in let found = fit.1 in (omega (arith, next, m), omega (arith, found, n))
