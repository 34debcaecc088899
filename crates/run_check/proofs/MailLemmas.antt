-- Mails as the program reads them.
use Rattle.std.proofs.Common.{◌≡◌, ℕ, zero, suc, ◌+◌, ◌-◌, ◌≤◌, ◌<◌, Bool, true, false, List, [], ◌∷◌, ◌++◌, length, take, get_or, Option, None, Some, refl, sym, ap, subst, arith, ◌∙◌, eqb-true, eq-eqb}
use Rattle.std.specs.Prelude.{◌==◌, ◌&&◌, if◌then◌else◌, slice_get, MatchOption}
use Rattle.std.proofs.lemmas.Option.{none-some, same_Some}
use Rattle.pool_law.specs.declared.id.Parcel.{Parcel}
use Rattle.pool_law.specs.declared.note.Note.{Note}
use Rattle.pool_law.specs.declared.note.Note.TheVariants.{At, Ref, Busy}
use Rattle.pool_law.specs.declared.note.Object.{Object}
use Rattle.pool_law.specs.declared.note.Object.TheVariants.{Arena, Cache, Bin, Mail, Root}
use Rattle.pool_law.specs.declared.run.Shape.{Shape}
use Rattle.pool_law.specs.Same.{same_object, same_parcel}
use Rattle.pool_law.specs.Kinds.{passing}
use Rattle.pool_law.specs.Logs.{Logs, of_lane, own, has_history}
use Rattle.pool_law.specs.Mails.{gone, come, posted, fetched, MailHolds}
use Rattle.pool_law.proofs.SameLemmas.{and-first, and-second, same_parcel-is, same_parcel-refl}
use Rattle.pool_law.proofs.ListLemmas.{front-from-places}
use Rattle.run_check.specs.declared.mails.Passed.{Passed}
use Rattle.run_check.specs.declared.object_notes.ObjectNotes.{ObjectNotes}
use Rattle.run_check.specs.ByObject.{notes_at, laned, AreByObject}
use Rattle.run_check.specs.Mailing.{sent_among, received_among, passed_data, all_passed, IsInTurn, IsOfPost, Passes, FailsAt, IsHeldMail}
use Rattle.run_check.specs.Fronts.{MailHoldsTo, IsBrokenAt}

-- what a log posts to a mail its notes at the mail post, and what it fetches they fetch
pub posted-among : (mail : Object) (log : List Note) → sent_among (own mail log) ≡ posted mail log
posted-among mail [] = refl
posted-among mail (At object number did ∷ ns) = go (posted-among mail ns) (same_object mail object)
  where
    go : sent_among (own mail ns) ≡ posted mail ns → (b : Bool)
        → sent_among ((if b then (number, did) ∷ [] else []) ++ own mail ns)
        ≡ (if b then gone number (passing did) else []) ++ posted mail ns
    go rest true = ap (λ ps. gone number (passing did) ++ ps) rest
    go rest false = rest
posted-among mail (Ref root did ∷ ns) = posted-among mail ns
posted-among mail (Busy held ∷ ns) = posted-among mail ns

pub fetched-among : (mail : Object) (log : List Note) → received_among (own mail log) ≡ fetched mail log
fetched-among mail [] = refl
fetched-among mail (At object number did ∷ ns) = go (fetched-among mail ns) (same_object mail object)
  where
    go : received_among (own mail ns) ≡ fetched mail ns → (b : Bool)
        → received_among ((if b then (number, did) ∷ [] else []) ++ own mail ns)
        ≡ (if b then come number (passing did) else []) ++ fetched mail ns
    go rest true = ap (λ ps. come number (passing did) ++ ps) rest
    go rest false = rest
fetched-among mail (Ref root did ∷ ns) = fetched-among mail ns
fetched-among mail (Busy held ∷ ns) = fetched-among mail ns

-- the parcels are told by their numbers and contents
abbrev passed_of : ℕ × Parcel → Passed
passed_of x = record { number = x.0; parcel = x.1 }

get-passed : (ps : List Passed) (k : ℕ) (x : ℕ × Parcel) → slice_get (all_passed ps) k ≡ Some x
    → (p : Passed) × (slice_get ps k ≡ Some p) × (passed_data p ≡ x)
get-passed [] k x e = absurd (cc e)
get-passed (p ∷ ps) zero x e = let same : ◌≡◌ {A = ℕ × Parcel} (passed_data p) x = cc e in (p, refl, same)
get-passed (p ∷ ps) (suc k) x e = get-passed ps k x e

passed-get : (ps : List Passed) (k : ℕ) (p : Passed) → slice_get ps k ≡ Some p
    → slice_get (all_passed ps) k ≡ Some (passed_data p)
passed-get [] k p e = absurd (cc e)
passed-get (q ∷ ps) zero p e = let same : q ≡ p = cc e in ap (λ r. Some (passed_data r)) same
passed-get (q ∷ ps) (suc k) p e = passed-get ps k p e

same-data : (a b : Passed) → passed_data a ≡ passed_data b → a ≡ b
same-data a b same = ap passed_of same

-- the items of a front stand at their places of the list
get-of-take : {X : Type 0} (n : ℕ) (ys : List X) (k : ℕ) (x : X) → slice_get (take n ys) k ≡ Some x →
    slice_get ys k ≡ Some x
get-of-take zero ys k x e = absurd (none-some x e)
get-of-take (suc n) [] k x e = absurd (none-some x e)
get-of-take (suc n) (y ∷ ys) zero x e = e
get-of-take (suc n) (y ∷ ys) (suc k) x e = get-of-take n ys k x e

held-to : (mail : Object) (sent received : List Note) → MailHolds mail sent received → (n : ℕ) →
    MailHoldsTo mail sent received n
held-to mail sent received h n = record {
  numbered = λ k post below e. h.numbered k post e;
  in_order = λ k fetch below e.
      get-of-take (length (fetched mail received)) (posted mail sent) k fetch
      (ap (λ xs. slice_get xs k) (sym h.in_order) ∙ e);
}

-- a mail holds as far as its posts and fetches do, place by place
module _ (mail : Object) (sent received : List Note) (posts fetches : List Passed)
    (posts_are : all_passed posts ≡ posted mail sent) (fetches_are : all_passed fetches ≡ fetched mail received)
  where
    post-number : (k : ℕ) → IsInTurn posts k → (post : ℕ × Parcel) → slice_get (posted mail sent) k ≡ Some post →
        post.0 ≡ k + 1
    post-number k turn post e =
        let p = get-passed posts k post (ap (λ xs. slice_get xs k) posts_are ∙ e) in
        ap (λ y. y.0) (sym p.2) ∙ turn p.0 p.1

    fetch-post : (k : ℕ) → IsOfPost posts fetches k → (fetch : ℕ × Parcel) →
        slice_get (fetched mail received) k ≡ Some fetch → slice_get (posted mail sent) k ≡ Some fetch
    fetch-post k same fetch e =
        let f = get-passed fetches k fetch (ap (λ xs. slice_get xs k) fetches_are ∙ e) in
        ap (λ xs. slice_get xs k) (sym posts_are)
        ∙ passed-get posts k f.0 (same f.0 f.1)
        ∙ ap (λ (x : ℕ × Parcel). Some x) f.2

    pub all-held : ((k : ℕ) → Passes posts fetches k) → MailHolds mail sent received
    all-held all = record {
      numbered = λ k post e. post-number k (all k).0 post e;
      in_order =
          front-from-places (fetched mail received) (posted mail sent) (λ k fetch e. fetch-post k (all k).1 fetch e);
    }

    held-before : (n : ℕ) → ((k : ℕ) → k < n → Passes posts fetches k) → MailHoldsTo mail sent received n
    held-before n all = record {
      numbered = λ k post below e. post-number k (all k below).0 post e;
      in_order = λ k fetch below e. fetch-post k (all k below).1 fetch e;
    }

    passes-at : (n k : ℕ) → k < n → MailHoldsTo mail sent received n → Passes posts fetches k
    passes-at n k below h = (
      λ p e.
          h.numbered k (passed_data p) below
          (ap (λ xs. slice_get xs k) (sym posts_are) ∙ passed-get posts k p e),
      λ f e.
          let fetch : slice_get (fetched mail received) k ≡ Some (passed_data f) =
          ap (λ xs. slice_get xs k) (sym fetches_are) ∙ passed-get fetches k f e in
          let post = get-passed posts k (passed_data f)
          (ap (λ xs. slice_get xs k) posts_are ∙ h.in_order k (passed_data f) below fetch) in
          post.1 ∙ ap (λ (p : Passed). Some p) (same-data post.0 f post.2),
    )

    fails-to : (number : ℕ) → FailsAt posts fetches number → MailHoldsTo mail sent received number → ⊥
    fails-to number fails h =
        fails.there (passes-at number (number - 1) (omega (arith, fails.from_one)) h)

    holds-before : (number n : ℕ) → FailsAt posts fetches number → n < number → MailHoldsTo mail sent received n
    holds-before number n fails below =
        held-before n (λ k inside. fails.before k (omega (arith, inside, below)))

-- a mail is broken at the first place at which its posts and fetches fail
mail-broken : (shape : Shape) (logs : Logs) (sender receiver : ℕ) (posts fetches : List Passed) →
    all_passed posts ≡ posted (Mail sender receiver) (of_lane logs sender) →
    all_passed fetches ≡ fetched (Mail sender receiver) (of_lane logs receiver) → (number : ℕ) →
    FailsAt posts fetches number → IsBrokenAt shape logs (Mail sender receiver) number
mail-broken shape logs sender receiver posts fetches posts_are fetches_are number fails =
    let mail : Object = Mail sender receiver in
    let never : MailHoldsTo mail (of_lane logs sender) (of_lane logs receiver) number → ⊥ =
    fails-to mail (of_lane logs sender) (of_lane logs receiver) posts fetches posts_are fetches_are number fails in
    record {
      law = λ holds. never (held-to mail (of_lane logs sender) (of_lane logs receiver) holds.mail number);
      before = λ n below.
          holds-before mail (of_lane logs sender) (of_lane logs receiver) posts fetches posts_are fetches_are number n
          fails below;
      with_it = never;
    }

-- parcels that a test finds the same are the same
pub passed-same : (a b : Passed) → ((a.number == b.number) && same_parcel a.parcel b.parcel) ≡ true → a ≡ b
passed-same a b e =
    let number : a.number ≡ b.number = eqb-true a.number b.number (and-first _ _ e) in
    let parcel : a.parcel ≡ b.parcel = same_parcel-is a.parcel b.parcel (and-second _ _ e) in
    λ i. record { number = number i; parcel = parcel i }

pub same-passed : (a b : Passed) → a ≡ b → ((a.number == b.number) && same_parcel a.parcel b.parcel) ≡ true
same-passed a b is =
    subst (λ (p : Passed). ((a.number == p.number) && same_parcel a.parcel p.parcel) ≡ true) is
    (λ i. eq-eqb a.number a.number refl i && same_parcel-refl a.parcel i)

-- an object with a history is no mail
pub no-mail : (logs : Logs) (object : Object) → has_history object ≡ true → IsHeldMail logs object
no-mail logs (Arena number) has = tt
no-mail logs (Cache lane class) has = tt
no-mail logs (Bin lane) has = tt
no-mail logs (Mail sender receiver) has = absurd (cc has)
no-mail logs (Root place) has = tt

-- a mail at which neither lane has a note holds
pub unused-holds : (mail : Object) (sent received : List Note) → own mail sent ≡ [] → own mail received ≡ []
    → MailHolds mail sent received
unused-holds mail sent received no_sent no_received =
    all-held mail sent received [] []
    (sym (ap sent_among no_sent) ∙ posted-among mail sent)
    (sym (ap received_among no_received) ∙ fetched-among mail received)
    (λ k. (λ p e. absurd (cc e), λ f e. absurd (cc e)))

-- ---- Places of a list.

pub get-there : (ps : List Passed) (i : ℕ) (d : Passed) → i < length ps → slice_get ps i ≡ Some (get_or ps i d)
get-there [] i d there = absurd (omega (arith, there))
get-there (q ∷ ps) zero d there = refl
get-there (q ∷ ps) (suc i) d there = get-there ps i d (omega (arith, there))

pub get-inside : (ps : List Passed) (k : ℕ) (p : Passed) → slice_get ps k ≡ Some p → k < length ps
get-inside [] k p e = absurd (cc e)
get-inside (q ∷ ps) zero p e = omega arith
get-inside (q ∷ ps) (suc k) p e = omega (arith, get-inside ps k p e)

-- the post of a place
pub turn-past : (posts : List Passed) (k : ℕ) → length posts ≤ k → IsInTurn posts k
turn-past posts k past p e = absurd (omega (arith, past, get-inside posts k p e))

pub turn-here : (posts : List Passed) (k : ℕ) (d : Passed) → k < length posts → (get_or posts k d).number ≡ k + 1 →
    IsInTurn posts k
turn-here posts k d there number p e =
    let same : get_or posts k d ≡ p = same_Some (get_or posts k d) p (sym (get-there posts k d there) ∙ e) in
    ap (λ (q : Passed). q.number) (sym same) ∙ number

pub here-turn : (posts : List Passed) (k : ℕ) (d : Passed) → k < length posts → IsInTurn posts k →
    (get_or posts k d).number ≡ k + 1
here-turn posts k d there turn = turn (get_or posts k d) (get-there posts k d there)

-- the fetch of a place
pub of-past : (posts fetches : List Passed) (k : ℕ) → length fetches ≤ k → IsOfPost posts fetches k
of-past posts fetches k past f e = absurd (omega (arith, past, get-inside fetches k f e))

pub no-post : (posts fetches : List Passed) (k : ℕ) (d : Passed) → k < length fetches → length posts ≤ k →
    IsOfPost posts fetches k → ⊥
no-post posts fetches k d there past same =
    let fetch : Passed = get_or fetches k d in
    omega (arith, past, get-inside posts k fetch (same fetch (get-there fetches k d there)))

pub of-here : (posts fetches : List Passed) (k : ℕ) (d : Passed) → k < length posts → k < length fetches →
    get_or fetches k d ≡ get_or posts k d → IsOfPost posts fetches k
of-here posts fetches k d in_posts in_fetches same f e =
    get-there posts k d in_posts
    ∙ ap (λ (p : Passed). Some p) (sym same)
    ∙ sym (get-there fetches k d in_fetches)
    ∙ e

pub here-of : (posts fetches : List Passed) (k : ℕ) (d : Passed) → k < length posts → k < length fetches →
    IsOfPost posts fetches k → get_or fetches k d ≡ get_or posts k d
here-of posts fetches k d in_posts in_fetches same =
    same_Some (get_or fetches k d) (get_or posts k d)
    (sym (same (get_or fetches k d) (get-there fetches k d in_fetches)) ∙ get-there posts k d in_posts)

-- ---- A mail of the logs.

pub laned-get : (lanes : List ObjectNotes) (object : Object) (k : ℕ) (s : ObjectNotes) → k < length lanes →
    s ≡ get_or lanes k s →
    laned lanes object k ≡ notes_at s object
laned-get [] object k s there is = absurd (omega (arith, there))
laned-get (x ∷ lanes) object zero s there is = ap (λ (y : ObjectNotes). notes_at y object) (sym is)
laned-get (x ∷ lanes) object (suc k) s there is = laned-get lanes object k s (omega (arith, there)) is

pub laned-past : (lanes : List ObjectNotes) (object : Object) (k : ℕ) → length lanes ≤ k → laned lanes object k ≡ []
laned-past [] object k past = refl
laned-past (x ∷ lanes) object zero past = absurd (omega (arith, past))
laned-past (x ∷ lanes) object (suc k) past = laned-past lanes object k (omega (arith, past))

-- what is read of a mail decides whether it holds
module _ (shape : Shape) (lanes : List ObjectNotes) (logs : Logs) (theirs : AreByObject lanes logs) (object : Object)
    (sender receiver : ℕ) (is : object ≡ Mail sender receiver) (posts fetches : List Passed)
    (sent : all_passed posts ≡ sent_among (laned lanes object sender))
    (received : all_passed fetches ≡ received_among (laned lanes object receiver)) where
  posts_are : all_passed posts ≡ posted object (of_lane logs sender)
  posts_are = sent ∙ ap sent_among (theirs object sender) ∙ posted-among object (of_lane logs sender)

  fetches_are : all_passed fetches ≡ fetched object (of_lane logs receiver)
  fetches_are =
      received ∙ ap received_among (theirs object receiver) ∙ fetched-among object (of_lane logs receiver)

  to-held : MailHolds object (of_lane logs sender) (of_lane logs receiver) → IsHeldMail logs object
  to-held =
      subst (λ (o : Object). MailHolds o (of_lane logs sender) (of_lane logs receiver) → IsHeldMail logs o) (sym is)
      (λ h. h)

  to-broken : (number : ℕ) → FailsAt posts fetches number → IsBrokenAt shape logs object number
  to-broken number fails =
      subst (λ (o : Object). IsBrokenAt shape logs o number) (sym is)
      (mail-broken shape logs sender receiver posts fetches
      (subst (λ (o : Object). all_passed posts ≡ posted o (of_lane logs sender)) is posts_are)
      (subst (λ (o : Object). all_passed fetches ≡ fetched o (of_lane logs receiver)) is fetches_are)
      number fails)

  pub decided : (found : Option ℕ) →
      MatchOption found ((k : ℕ) → Passes posts fetches k) (λ number. FailsAt posts fetches number) →
      MatchOption found (IsHeldMail logs object) (IsBrokenAt shape logs object)
  decided None all =
      to-held
      (all-held object (of_lane logs sender) (of_lane logs receiver) posts fetches posts_are fetches_are all)
  decided (Some number) fails = to-broken number fails
