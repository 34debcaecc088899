-- The ends of a mail, where letters go by it: how many were sent and received on each way.
use Rattle.std.proofs.Common.{◌≡◌, ◌≢◌, ℕ, ◌+◌, ◌*◌, ◌<◌, Bool, cond, List, [], ◌∷◌, ◌++◌, length, get_or, set, refl, sym, ap, ◌∙◌, subst, ⊎_elim, arith}
use Rattle.std.specs.Prelude.{Option, Some, HoldsAt, slice_get, ◌==◌, ◌&&◌}
use Rattle.std.proofs.lemmas.Bool.{cases_eq, cases_lt, eq-eqb, ne_eqb}
use Rattle.std.proofs.lemmas.List.{get_or-set_same, get_or-set_other, get_or_past}
use Rattle.std.proofs.lemmas.List.Sums.{sum_by_push}
use Rattle.std.proofs.lemmas.Option.{get_or_from_slice_get}
use Rattle.crossbeam_queue.specs.Passes.{Pass, view, IsPassOf}
use Rattle.crossbeam_queue.specs.Ring.{idle}
use Rattle.pool_law.specs.declared.id.Parcel.{Parcel}
use Rattle.pool_law.specs.declared.note.Did.{Did}
use Rattle.pool_law.specs.declared.note.Object.TheVariants.{Mail as MailOf}
use Rattle.pool_law.specs.Naming.{noted_by}
use Rattle.pool_table.specs.declared.views.Entry.{Entry}
use Rattle.pool_table.specs.declared.views.Entry.TheVariants.{At}
use Rattle.pool_table.specs.Letters.{is_on_way, received_as, received_on, sent_as, sent_on}
use Rattle.shared_pool.specs.declared.mail.Mail.{Mail}
use Rattle.shared_pool.specs.declared.pool.SharedPool.{SharedPool}
use Rattle.shared_pool.specs.MailEnds.{KnownEnds, no_ends, no_table, receiver, sender}
use Rattle.shared_pool.specs.Mails.{ArePosts, AreFetches, AtMail, IsFetchesEnd, IsPostsEnd, carried, table_of}
use Rattle.shared_pool.specs.Notes.{plain}
use Rattle.shared_pool.specs.Posting.{PostedLetter}

-- the entry of a post, and that of a fetch
abbrev pub post_entry : ℕ → ℕ → ℕ → Option ℕ → Parcel → Entry
post_entry from to number lane parcel = At (MailOf from to) number (noted_by lane (plain (Did.Post parcel)))

abbrev pub fetch_entry : ℕ → ℕ → ℕ → Option ℕ → Parcel → Entry
fetch_entry from to number lane parcel = At (MailOf from to) number (noted_by lane (plain (Did.Fetch parcel)))

-- the way of a letter, and each other way from its lane, and to its lane
way_is : (a b : ℕ) → cond {A = ℕ} ((a == a) && (b == b)) 1 0 ≡ 1
way_is a b = λ i. cond {A = ℕ} (eq-eqb a a refl i && eq-eqb b b refl i) 1 0

other_to : (a b c : ℕ) → b ≢ c → cond {A = ℕ} ((a == a) && (b == c)) 1 0 ≡ 0
other_to a b c apart = λ i. cond {A = ℕ} (eq-eqb a a refl i && ne_eqb b c apart i) 1 0

pub other_from : (a b c : ℕ) → a ≢ c → cond {A = ℕ} ((a == c) && (b == b)) 1 0 ≡ 0
other_from a b c apart = λ i. cond {A = ℕ} (ne_eqb a c apart i && (b == b)) 1 0

module _ (from to number : ℕ) (lane : Option ℕ) (parcel : Parcel) (es : List Entry) where
  -- how many letters were sent and received with one post more, or with one fetch more
  pub posted_here : sent_on from to (es ++ post_entry from to number lane parcel ∷ []) ≡ sent_on from to es + 1
  posted_here =
      sum_by_push (sent_as (is_on_way from to)) es (post_entry from to number lane parcel)
      ∙ ap (λ k. sent_on from to es + k) (way_is from to)

  posted_else : (other : ℕ) → to ≢ other
      → sent_on from other (es ++ post_entry from to number lane parcel ∷ []) ≡ sent_on from other es
  posted_else other apart = omega (
    arith,
    sum_by_push (sent_as (is_on_way from other)) es (post_entry from to number lane parcel),
    other_to from to other apart,
  )

  posted_fetches : (a b : ℕ)
      → received_on a b (es ++ post_entry from to number lane parcel ∷ []) ≡ received_on a b es
  posted_fetches a b =
      omega (arith, sum_by_push (received_as (is_on_way a b)) es (post_entry from to number lane parcel))

  pub fetched_here : received_on from to (es ++ fetch_entry from to number lane parcel ∷ [])
      ≡ received_on from to es + 1
  fetched_here =
      sum_by_push (received_as (is_on_way from to)) es (fetch_entry from to number lane parcel)
      ∙ ap (λ k. received_on from to es + k) (way_is from to)

  fetched_else : (other : ℕ) → from ≢ other
      → received_on other to (es ++ fetch_entry from to number lane parcel ∷ []) ≡ received_on other to es
  fetched_else other apart = omega (
    arith,
    sum_by_push (received_as (is_on_way other to)) es (fetch_entry from to number lane parcel),
    other_from from to other apart,
  )

  fetched_posts : (a b : ℕ) → sent_on a b (es ++ fetch_entry from to number lane parcel ∷ []) ≡ sent_on a b es
  fetched_posts a b =
      omega (arith, sum_by_push (sent_as (is_on_way a b)) es (fetch_entry from to number lane parcel))

-- a mail with room counts all letters, and one without counts none
pub carried-all : (m : Mail) (k : ℕ) → 0 < m.room → carried m k ≡ k
carried-all m k room = ap (λ (b : Bool). cond b 0 k) (ne_eqb m.room 0 (λ e. omega (arith, e, room)))

carried-none : (m : Mail) (k : ℕ) → m.room ≡ 0 → carried m k ≡ 0
carried-none m k none = ap (λ (b : Bool). cond b 0 k) (eq-eqb m.room 0 none)

-- what some value is not, holds at places of the list alone
pub within : {X : Type 0} (P : X → Type 0) (xs : List X) (k : ℕ) (d : X) → (P d → ⊥) → HoldsAt P xs k
    → k < length xs
within P xs k d none at =
    ⊎_elim (λ lt. lt) (λ past. absurd (none (subst P (get_or_past xs k d past) (at d)))) (cases_lt k (length xs))

-- a pass that is no end
abbrev pub no_end : Pass PostedLetter KnownEnds
no_end = record { marker = record {}; table_id = no_table; id = 0; me = (idle no_ends, []) }

-- what is so of the mail that stands there
pub at_mail : (pool : SharedPool) (from to : ℕ) (P : Mail → Type 0) (m : Mail)
    → Some m ≡ slice_get pool.mails.items (from * pool.table.layout.shape.lanes + to) → AtMail pool from to P → P m
at_mail pool from to P m is at = subst P (get_or_from_slice_get pool.mails.items _ m m (sym is)) (at m)

is_at_mail : (pool : SharedPool) (from to : ℕ) (P : Mail → Type 0) (m : Mail)
    → Some m ≡ slice_get pool.mails.items (from * pool.table.layout.shape.lanes + to) → P m → AtMail pool from to P
is_at_mail pool from to P m is at d = subst P (sym (get_or_from_slice_get pool.mails.items _ m d (sym is))) at

module _ (pool : SharedPool) (from to : ℕ) (es fs : List Entry) (pass : Pass PostedLetter KnownEnds) where
  abbrev index : ℕ
  index = from * pool.table.layout.shape.lanes + to

  -- an end at a mail that is known
  pub posts_at : (m : Mail) → Some m ≡ slice_get pool.mails.items index → IsPostsEnd pool from to es pass
      → IsPassOf m.queue pass × (view pass ≡ sender (table_of pool) from to m.room (carried m (sent_on from to es)))
  posts_at m is end =
      at_mail pool from to
      (λ k. IsPassOf k.queue pass × (view pass ≡ sender (table_of pool) from to k.room
      (carried k (sent_on from to es))))
      m is end

  pub posts_end : (m : Mail) → Some m ≡ slice_get pool.mails.items index → IsPassOf m.queue pass
      → view pass ≡ sender (table_of pool) from to m.room (carried m (sent_on from to es))
      → IsPostsEnd pool from to es pass
  posts_end m is of knows =
      is_at_mail pool from to
      (λ k. IsPassOf k.queue pass × (view pass ≡ sender (table_of pool) from to k.room
      (carried k (sent_on from to es))))
      m is (of, knows)

  pub fetches_at : (m : Mail) → Some m ≡ slice_get pool.mails.items index → IsFetchesEnd pool from to es pass
      → IsPassOf m.queue pass
      × (view pass ≡ receiver (table_of pool) from to m.room (carried m (received_on from to es)))
  fetches_at m is end =
      at_mail pool from to
      (λ k. IsPassOf k.queue pass
      × (view pass ≡ receiver (table_of pool) from to k.room (carried k (received_on from to es))))
      m is end

  pub fetches_end : (m : Mail) → Some m ≡ slice_get pool.mails.items index → IsPassOf m.queue pass
      → view pass ≡ receiver (table_of pool) from to m.room (carried m (received_on from to es))
      → IsFetchesEnd pool from to es pass
  fetches_end m is of knows =
      is_at_mail pool from to
      (λ k. IsPassOf k.queue pass
      × (view pass ≡ receiver (table_of pool) from to k.room (carried k (received_on from to es))))
      m is (of, knows)

  -- an end by which no letter went
  pub posts_same : sent_on from to fs ≡ sent_on from to es → IsPostsEnd pool from to es pass
      → IsPostsEnd pool from to fs pass
  posts_same same end =
      subst
      (λ (n : ℕ). AtMail pool from to (λ m. IsPassOf m.queue pass
      × (view pass ≡ sender (table_of pool) from to m.room (carried m n)))) (sym same) end

  pub fetches_same : received_on from to fs ≡ received_on from to es → IsFetchesEnd pool from to es pass
      → IsFetchesEnd pool from to fs pass
  fetches_same same end =
      subst
      (λ (n : ℕ). AtMail pool from to (λ m. IsPassOf m.queue pass
      × (view pass ≡ receiver (table_of pool) from to m.room (carried m n)))) (sym same) end

  -- an end of a mail without room
  pub posts_own : AtMail pool from to (λ m. m.room ≡ 0) → IsPostsEnd pool from to es pass
      → IsPostsEnd pool from to fs pass
  posts_own own end d =
      let m : Mail = get_or pool.mails.items index d in
      subst
      (λ (n : ℕ). IsPassOf m.queue pass × (view pass ≡ sender (table_of pool) from to m.room n))
      (carried-none m (sent_on from to es) (own d) ∙ sym (carried-none m (sent_on from to fs) (own d))) (end d)

  pub fetches_own : AtMail pool from to (λ m. m.room ≡ 0) → IsFetchesEnd pool from to es pass
      → IsFetchesEnd pool from to fs pass
  fetches_own own end d =
      let m : Mail = get_or pool.mails.items index d in
      subst
      (λ (n : ℕ). IsPassOf m.queue pass × (view pass ≡ receiver (table_of pool) from to m.room n))
      (carried-none m (received_on from to es) (own d) ∙ sym (carried-none m (received_on from to fs) (own d)))
      (end d)

-- a seat has an end for each lane
pub has_post : (pool : SharedPool) (lane to : ℕ) (es : List Entry) (passes : List (Pass PostedLetter KnownEnds))
    (m : Mail) → Some m ≡ slice_get pool.mails.items (lane * pool.table.layout.shape.lanes + to)
    → to < pool.table.layout.shape.lanes → ArePosts pool lane es passes → to < length passes
has_post pool lane to es passes m is lt are =
    within (IsPostsEnd pool lane to es) passes to no_end
    (λ end. let e = (posts_at pool lane to es es no_end m is end).1 in let b = ap (λ (k : KnownEnds). k.receives) e in
    cc)
    (are to lt)

pub has_fetch : (pool : SharedPool) (from lane : ℕ) (es : List Entry) (passes : List (Pass PostedLetter KnownEnds))
    (m : Mail) → Some m ≡ slice_get pool.mails.items (from * pool.table.layout.shape.lanes + lane)
    → from < pool.table.layout.shape.lanes → AreFetches pool lane es passes → from < length passes
has_fetch pool from lane es passes m is lt are =
    within (IsFetchesEnd pool from lane es) passes from no_end
    (λ end. let e = (fetches_at pool from lane es es no_end m is end).1 in let b = ap (λ (k : KnownEnds). k.sends) e in
    cc)
    (are from lt)

-- the ends with one that changed
pub set_at : {X : Type 0} (P : ℕ → X → Type 0) (xs : List X) (k j : ℕ) (x : X) → k < length xs → P k x
    → (k ≢ j → HoldsAt (P j) xs j) → HoldsAt (P j) (set xs k x) j
set_at P xs k j x lt mine others d =
    ⊎_elim
    (λ (same : k ≡ j). subst (λ (i : ℕ). P i (get_or (set xs k x) i d)) same
    (subst (P k) (sym (get_or-set_same xs k x d lt)) mine))
    (λ (apart : k ≢ j). subst (P j) (sym (get_or-set_other xs k j x d (λ e. apart (sym e)))) (others apart d))
    (cases_eq k j)

-- all ends after a post, and after a fetch
module _ (pool : SharedPool) (lane : ℕ) (es : List Entry) (passes : List (Pass PostedLetter KnownEnds)) where
  pub posts_after : (to number : ℕ) (own : Option ℕ) (parcel : Parcel) (pass : Pass PostedLetter KnownEnds)
      → to < length passes → IsPostsEnd pool lane to (es ++ post_entry lane to number own parcel ∷ []) pass
      → ArePosts pool lane es passes
      → ArePosts pool lane (es ++ post_entry lane to number own parcel ∷ []) (set passes to pass)
  posts_after to number own parcel pass lt end are other below =
      set_at (λ k. IsPostsEnd pool lane k (es ++ post_entry lane to number own parcel ∷ [])) passes to other pass lt end
      (λ apart d. posts_same pool lane other es (es ++ post_entry lane to number own parcel ∷ [])
      (get_or passes other d) (posted_else lane to number own parcel es other apart) (are other below d))

  pub fetches_after_post : (to number : ℕ) (own : Option ℕ) (parcel : Parcel) → AreFetches pool lane es passes
      → AreFetches pool lane (es ++ post_entry lane to number own parcel ∷ []) passes
  fetches_after_post to number own parcel are other below d =
      fetches_same pool other lane es (es ++ post_entry lane to number own parcel ∷ []) (get_or passes other d)
      (posted_fetches lane to number own parcel es other lane) (are other below d)

  pub fetches_after : (from number : ℕ) (own : Option ℕ) (parcel : Parcel) (pass : Pass PostedLetter KnownEnds)
      → from < length passes → IsFetchesEnd pool from lane (es ++ fetch_entry from lane number own parcel ∷ []) pass
      → AreFetches pool lane es passes
      → AreFetches pool lane (es ++ fetch_entry from lane number own parcel ∷ []) (set passes from pass)
  fetches_after from number own parcel pass lt end are other below =
      set_at (λ k. IsFetchesEnd pool k lane (es ++ fetch_entry from lane number own parcel ∷ [])) passes from other pass
      lt end
      (λ apart d. fetches_same pool other lane es (es ++ fetch_entry from lane number own parcel ∷ [])
      (get_or passes other d) (fetched_else from lane number own parcel es other apart) (are other below d))

  pub posts_after_fetch : (from number : ℕ) (own : Option ℕ) (parcel : Parcel) → ArePosts pool lane es passes
      → ArePosts pool lane (es ++ fetch_entry from lane number own parcel ∷ []) passes
  posts_after_fetch from number own parcel are other below d =
      posts_same pool lane other es (es ++ fetch_entry from lane number own parcel ∷ []) (get_or passes other d)
      (fetched_posts from lane number own parcel es lane other) (are other below d)

  -- where no letter came
  pub fetches_set : (from : ℕ) (pass : Pass PostedLetter KnownEnds) → from < length passes
      → IsFetchesEnd pool from lane es pass → AreFetches pool lane es passes
      → AreFetches pool lane es (set passes from pass)
  fetches_set from pass lt end are other below =
      set_at (λ k. IsFetchesEnd pool k lane es) passes from other pass lt end (λ _. are other below)

  -- where the letter went by a channel of its own
  pub posts_after_own : (to number : ℕ) (own : Option ℕ) (parcel : Parcel)
      → AtMail pool lane to (λ m. m.room ≡ 0) → ArePosts pool lane es passes
      → ArePosts pool lane (es ++ post_entry lane to number own parcel ∷ []) passes
  posts_after_own to number own parcel none are other below d =
      let fs : List Entry = es ++ post_entry lane to number own parcel ∷ [] in
      let pass : Pass PostedLetter KnownEnds = get_or passes other d in
      ⊎_elim
      (λ (same : to ≡ other). posts_own pool lane other es fs pass
      (subst (λ (k : ℕ). AtMail pool lane k (λ m. m.room ≡ 0)) same none) (are other below d))
      (λ (apart : to ≢ other). posts_same pool lane other es fs pass
      (posted_else lane to number own parcel es other apart) (are other below d))
      (cases_eq to other)

  pub fetches_after_own : (from number : ℕ) (own : Option ℕ) (parcel : Parcel)
      → AtMail pool from lane (λ m. m.room ≡ 0) → AreFetches pool lane es passes
      → AreFetches pool lane (es ++ fetch_entry from lane number own parcel ∷ []) passes
  fetches_after_own from number own parcel none are other below d =
      let fs : List Entry = es ++ fetch_entry from lane number own parcel ∷ [] in
      let pass : Pass PostedLetter KnownEnds = get_or passes other d in
      ⊎_elim
      (λ (same : from ≡ other). fetches_own pool other lane es fs pass
      (subst (λ (k : ℕ). AtMail pool k lane (λ m. m.room ≡ 0)) same none) (are other below d))
      (λ (apart : from ≢ other). fetches_same pool other lane es fs pass
      (fetched_else from lane number own parcel es other apart) (are other below d))
      (cases_eq from other)
