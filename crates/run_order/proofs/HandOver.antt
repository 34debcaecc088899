-- What was sent is seen in order: a post stands before the fetch of its parcel, so what its lane did before it
-- stands before what the other lane did behind the fetch.
use Rattle.std.proofs.Common.{◌≡◌, ℕ, suc, ◌+◌, Bool, true, false, List, [], ◌∷◌, ◌++◌, length, take, drop, refl, sym, ap, subst, arith, Some, ◌∙◌, eqb-true}
use Rattle.std.specs.Prelude.{◌<◌, ◌&&◌, ◌||◌, if◌then◌else◌, Option, slice_get}
use Rattle.std.proofs.lemmas.List.{take-append-drop}
use Rattle.std.proofs.lemmas.List.Sums.{AllPass-from_list_all}
use Rattle.std.proofs.lemmas.Option.{slice_get_within, get_or_from_slice_get}
use Rattle.pool_law.specs.declared.id.Parcel.{Parcel}
use Rattle.pool_law.specs.declared.note.Object.{Object}
use Rattle.pool_law.specs.declared.note.Object.TheVariants.{Arena, Cache, Bin, Mail, Root}
use Rattle.pool_law.specs.declared.note.Did.{Did}
use Rattle.pool_law.specs.declared.note.Did.TheVariants.{Post, Fetch}
use Rattle.pool_law.specs.declared.note.Note.{Note}
use Rattle.pool_law.specs.declared.note.Note.TheVariants.{At, Ref, Busy}
use Rattle.pool_law.specs.declared.run.Shape.{Shape}
use Rattle.pool_law.specs.Same.{same_object}
use Rattle.pool_law.specs.Kinds.{Passing, Stays, Goes, Comes, passing}
use Rattle.pool_law.specs.Logs.{Logs, of_lane, has_history, note_stands}
use Rattle.pool_law.specs.Mails.{posted, fetched}
use Rattle.pool_law.specs.Legal.{HistoriesHold, one_if}
use Rattle.pool_law.specs.Lives.{StandsAt}
use Rattle.pool_law.proofs.HistoryLemmas.{append-assoc}
use Rattle.pool_law.proofs.PatternLemmas.{both_true, same_object-refl}
use Rattle.pool_law.proofs.ListLemmas.{get-behind, get-front, get-further}
use Rattle.run_order.specs.Order.{Step, is_alike, is_post, same_way, made, InOneOrder}
use Rattle.run_order.specs.HandOver.{IsHandedOver}
use Rattle.run_order.proofs.Fronts.{made-next, made-more}
use Rattle.run_order.proofs.MailLists.{posted-append, fetched-append}
use Rattle.run_order.proofs.Positions.{made-posts, place, there, later-in_log, fits-there, number-there, post-first}

-- ---- Notes that are numbered together.

-- what goes the same way as another goes as that one beside a third
same-beside : (has : Bool) (p q r : Passing) → (has || same_way p q) ≡ true → (has || same_way p r)
    ≡ (has || same_way q r)
same-beside true p q r e = refl
same-beside false Stays Stays r e = refl
same-beside false Stays (Goes b) r e = absurd (cc e)
same-beside false Stays (Comes b) r e = absurd (cc e)
same-beside false (Goes a) Stays r e = absurd (cc e)
same-beside false (Goes a) (Goes b) Stays e = refl
same-beside false (Goes a) (Goes b) (Goes c) e = refl
same-beside false (Goes a) (Goes b) (Comes c) e = refl
same-beside false (Goes a) (Comes b) r e = absurd (cc e)
same-beside false (Comes a) Stays r e = absurd (cc e)
same-beside false (Comes a) (Goes b) r e = absurd (cc e)
same-beside false (Comes a) (Comes b) Stays e = refl
same-beside false (Comes a) (Comes b) (Goes c) e = refl
same-beside false (Comes a) (Comes b) (Comes c) e = refl

same-own : (has : Bool) (p : Passing) → (has || same_way p p) ≡ true
same-own true p = refl
same-own false Stays = refl
same-own false (Goes a) = refl
same-own false (Comes a) = refl

-- a note is numbered with itself
alike-own : (object : Object) (n : ℕ) (did : Did) → is_alike object did (At object n did) ≡ true
alike-own object n did =
    both_true (has_history object || same_way (passing did) (passing did)) (same_object object object)
    (same-own (has_history object) (passing did)) (same_object-refl object)

-- what is numbered with one of two that are numbered together is so with the other
pub made-together : (object : Object) (d e : Did) (xs : List Step)
    → (has_history object || same_way (passing d) (passing e)) ≡ true
    → made (is_alike object d) xs ≡ made (is_alike object e) xs
made-together object d e [] same = refl
made-together object d e (x ∷ xs) same = omega (arith, ap one_if (one x.note), made-together object d e xs same)
  where
    one : (n : Note) → is_alike object d n ≡ is_alike object e n
    one (At other number done) =
        ap (λ z. z && same_object object other)
        (same-beside (has_history object) (passing d) (passing e) (passing done) same)
    one (Ref root done) = refl
    one (Busy held) = refl

module _ (logs : Logs) (o : InOneOrder logs) where
  -- of two notes that are numbered together the one that stands later has a higher number
  number-later : (object : Object) (m n : ℕ) (d e : Did) (lane at other bt : ℕ) →
      (has_history object || same_way (passing d) (passing e)) ≡ true →
      StandsAt logs lane at (At object m d) → StandsAt logs other bt (At object n e) →
      place logs o lane at < place logs o other bt → m < n
  number-later object m n d e lane at other bt same first second less =
      omega (
        arith,
        number-there logs o object m d lane at first,
        number-there logs o object n e other bt second,
        made-next (is_alike object d) o.steps (place logs o lane at) (record { lane = lane; note = At object m d })
            (there logs o lane at (At object m d) first),
        ap one_if (alike-own object m d),
        made-more (is_alike object d) o.steps (suc (place logs o lane at)) (place logs o other bt) less,
        made-together object d e (take (place logs o other bt) o.steps) same,
      )

  -- a fetch that stands before a post to the same mail has a lower number: it found its own post
  fetch-below : (mail : Object) (m n : ℕ) (p q : Parcel) (lane at other bt : ℕ) →
      StandsAt logs lane at (At mail m (Fetch p)) → StandsAt logs other bt (At mail n (Post q)) →
      place logs o lane at < place logs o other bt → m < n
  fetch-below mail m n p q lane at other bt got sent less =
      omega (
        arith,
        (fits-there logs o (place logs o lane at) (record { lane = lane; note = At mail m (Fetch p) })
            (there logs o lane at (At mail m (Fetch p)) got)).1,
        number-there logs o mail n (Post q) other bt sent,
        made-more (is_post mail) o.steps (place logs o lane at) (place logs o other bt) (omega (arith, less)),
        made-posts mail q (take (place logs o other bt) o.steps),
      )

-- ---- A post, and the fetch that gets as many parcels before it.

module _ (shape : Shape) (logs : Logs) (holds : HistoriesHold shape logs) (o : InOneOrder logs) (sender receiver : ℕ)
    (early late before after : List Note) (sent taken : ℕ) (parcel got : Parcel)
    (out : of_lane logs sender ≡ early ++ At (Mail sender receiver) sent (Post parcel) ∷ late)
    (in_ : of_lane logs receiver ≡ before ++ At (Mail sender receiver) taken (Fetch got) ∷ after)
    (counts : length (posted (Mail sender receiver) early) ≡ length (fetched (Mail sender receiver) before)) where
  abbrev mail : Object
  mail = Mail sender receiver

  -- the post and the fetch, and what stands before the one and behind the other
  post-stands : StandsAt logs sender (length early) (At mail sent (Post parcel))
  post-stands =
      ap (λ ns. slice_get ns (length early)) out ∙ get-behind early (At mail sent (Post parcel)) late

  fetch-stands : StandsAt logs receiver (length before) (At mail taken (Fetch got))
  fetch-stands =
      ap (λ ns. slice_get ns (length before)) in_ ∙ get-behind before (At mail taken (Fetch got)) after

  early-stands : (i : ℕ) (x : Note) → slice_get early i ≡ Some x → StandsAt logs sender i x
  early-stands i x e =
      ap (λ ns. slice_get ns i) out ∙ get-front early (At mail sent (Post parcel) ∷ late) i x e

  after-stands : (j : ℕ) (x : Note) → slice_get after j ≡ Some x → StandsAt logs receiver (length before + suc j) x
  after-stands j x e =
      ap (λ ns. slice_get ns (length before + suc j)) in_
      ∙ get-further before (At mail taken (Fetch got) ∷ after) (suc j)
      ∙ e

  -- as many parcels were posted before the one as were fetched before the other, so they have one number
  number-is : sent ≡ taken
  number-is = ap (λ (z : ℕ × Parcel). z.0) pair
    where
      posts : List (ℕ × Parcel)
      posts = posted mail (of_lane logs sender)

      fetches : List (ℕ × Parcel)
      fetches = fetched mail (of_lane logs receiver)

      rest : List (ℕ × Parcel)
      rest = drop (length fetches) posts

      posts-are : posts ≡ posted mail early ++ (sent, parcel) ∷ posted mail late
      posts-are =
          ap (posted mail) out
          ∙ posted-append mail early (At mail sent (Post parcel) ∷ late)
          ∙ ap (λ z. posted mail early ++ ((if z then (sent, parcel) ∷ [] else []) ++ posted mail late))
          (same_object-refl mail)

      fetches-are : fetches ≡ fetched mail before ++ (taken, got) ∷ fetched mail after
      fetches-are =
          ap (fetched mail) in_
          ∙ fetched-append mail before (At mail taken (Fetch got) ∷ after)
          ∙ ap (λ z. fetched mail before ++ ((if z then (taken, got) ∷ [] else []) ++ fetched mail after))
          (same_object-refl mail)

      -- what is fetched is the front of what is posted
      front-are : posts ≡ fetched mail before ++ (taken, got) ∷ (fetched mail after ++ rest)
      front-are =
          sym (take-append-drop (length fetches) posts)
          ∙ ap (λ ps. ps ++ rest) (sym (holds.mails sender receiver).in_order ∙ fetches-are)
          ∙ append-assoc (fetched mail before) ((taken, got) ∷ fetched mail after) rest

      posted_there : slice_get posts (length (posted mail early)) ≡ Some (sent, parcel)
      posted_there =
          ap (λ ps. slice_get ps (length (posted mail early))) posts-are
          ∙ get-behind (posted mail early) (sent, parcel) (posted mail late)

      fetched_there : slice_get posts (length (fetched mail before)) ≡ Some (taken, got)
      fetched_there =
          ap (λ ps. slice_get ps (length (fetched mail before))) front-are
          ∙ get-behind (fetched mail before) (taken, got) (fetched mail after ++ rest)

      both : ◌≡◌ {A = Option (ℕ × Parcel)} (Some (sent, parcel)) (Some (taken, got))
      both = sym posted_there ∙ ap (slice_get posts) counts ∙ fetched_there

      pair : ◌≡◌ {A = ℕ × Parcel} (sent, parcel) (taken, got)
      pair = cc both

  -- so what stands before the post stands before what stands behind the fetch
  across : (i j : ℕ) (x y : Note) → slice_get early i ≡ Some x → slice_get after j ≡ Some y →
      place logs o sender i < place logs o receiver (length before + suc j)
  across i j x y first second =
      omega (
        arith,
        later-in_log logs o sender i (length early) (At mail sent (Post parcel)) post-stands
            (slice_get_within early i x first),
        post-first logs o mail sent parcel got sender (length early) receiver (length before) post-stands
            (subst (λ n. StandsAt logs receiver (length before) (At mail n (Fetch got))) (sym number-is) fetch-stands),
        later-in_log logs o receiver (length before) (length before + suc j) y (after-stands j y second) (omega arith),
      )

  -- and has a lower number, where both are numbered together
  together-below : (object : Object) (i j m n : ℕ) (d e : Did) →
      (has_history object || same_way (passing d) (passing e)) ≡ true →
      slice_get early i ≡ Some (At object m d) → slice_get after j ≡ Some (At object n e) → m < n
  together-below object i j m n d e same first second =
      number-later logs o object m n d e sender i receiver (length before + suc j) same
      (early-stands i (At object m d) first) (after-stands j (At object n e) second)
      (across i j (At object m d) (At object n e) first second)

  stood : (lane at : ℕ) (x : Note) → StandsAt logs lane at x → note_stands shape lane x ≡ true
  stood lane at x e =
      ap (note_stands shape lane) (sym (get_or_from_slice_get (of_lane logs lane) at x x e))
      ∙ AllPass-from_list_all (note_stands shape lane) (of_lane logs lane) (holds.stand lane) at x
      (slice_get_within (of_lane logs lane) at x e)

  -- an earlier post has a lower number than a later fetch from the same mail: the mail is theirs
  post-below : (a b i j m n : ℕ) (p q : Parcel) → slice_get early i ≡ Some (At (Mail a b) m (Post p)) →
      slice_get after j ≡ Some (At (Mail a b) n (Fetch q)) → m < n
  post-below a b i j m n p q first second =
      omega (
        arith,
        number-is,
        number-later logs o mail m sent (Post p) (Post parcel) sender i sender (length early) refl
            (subst (λ x. StandsAt logs sender i (At x m (Post p))) same there_first) post-stands
            (later-in_log logs o sender i (length early) (At mail sent (Post parcel)) post-stands
            (slice_get_within early i (At (Mail a b) m (Post p)) first)),
        number-later logs o mail taken n (Fetch got) (Fetch q) receiver (length before) receiver
            (length before + suc j) refl fetch-stands
            (subst (λ x. StandsAt logs receiver (length before + suc j) (At x n (Fetch q))) same there_second)
            (later-in_log logs o receiver (length before) (length before + suc j) (At (Mail a b) n (Fetch q))
            there_second (omega arith)),
      )
    where
      there_first : StandsAt logs sender i (At (Mail a b) m (Post p))
      there_first = early-stands i (At (Mail a b) m (Post p)) first

      there_second : StandsAt logs receiver (length before + suc j) (At (Mail a b) n (Fetch q))
      there_second = after-stands j (At (Mail a b) n (Fetch q)) second

      from : sender ≡ a
      from = eqb-true sender a (stood sender i (At (Mail a b) m (Post p)) there_first)

      to : receiver ≡ b
      to =
          eqb-true receiver b (stood receiver (length before + suc j) (At (Mail a b) n (Fetch q)) there_second)

      same : Mail a b ≡ mail
      same = sym (λ k. Mail (from k) (to k))

  -- at a mail its first lane posts, and its second fetches
  mail-below : (a b i j m n : ℕ) (d e : Did) → slice_get early i ≡ Some (At (Mail a b) m d) →
      slice_get after j ≡ Some (At (Mail a b) n e) → note_stands shape sender (At (Mail a b) m d) ≡ true →
      note_stands shape receiver (At (Mail a b) n e) ≡ true → m < n
  mail-below a b i j m n (Post p) (Post q) first second sends receives =
      together-below (Mail a b) i j m n (Post p) (Post q) refl first second
  mail-below a b i j m n (Post p) (Fetch q) first second sends receives = post-below a b i j m n p q first second
  mail-below a b i j m n (Post p) _ first second sends receives = absurd (cc receives)
  mail-below a b i j m n (Fetch p) (Post q) first second sends receives =
      fetch-below logs o (Mail a b) m n p q sender i receiver (length before + suc j)
      (early-stands i (At (Mail a b) m (Fetch p)) first) (after-stands j (At (Mail a b) n (Post q)) second)
      (across i j (At (Mail a b) m (Fetch p)) (At (Mail a b) n (Post q)) first second)
  mail-below a b i j m n (Fetch p) (Fetch q) first second sends receives =
      together-below (Mail a b) i j m n (Fetch p) (Fetch q) refl first second
  mail-below a b i j m n (Fetch p) _ first second sends receives = absurd (cc receives)
  mail-below a b i j m n _ e first second sends receives = absurd (cc sends)

  note-below : (object : Object) (i j m n : ℕ) (d e : Did) → slice_get early i ≡ Some (At object m d) →
      slice_get after j ≡ Some (At object n e) → m < n
  note-below (Mail a b) i j m n d e first second =
      mail-below a b i j m n d e first second
      (stood sender i (At (Mail a b) m d) (early-stands i (At (Mail a b) m d) first))
      (stood receiver (length before + suc j) (At (Mail a b) n e) (after-stands j (At (Mail a b) n e) second))
  note-below (Arena a) i j m n d e first second = together-below (Arena a) i j m n d e refl first second
  note-below (Cache l c) i j m n d e first second = together-below (Cache l c) i j m n d e refl first second
  note-below (Bin l) i j m n d e first second = together-below (Bin l) i j m n d e refl first second
  note-below (Root p) i j m n d e first second = together-below (Root p) i j m n d e refl first second

-- what was sent is seen in order
pub handed_over : (shape : Shape) (logs : Logs) → HistoriesHold shape logs → InOneOrder logs → IsHandedOver logs
handed_over shape logs holds o sender receiver early late before after sent taken parcel got out in_ counts =
    note-below shape logs holds o sender receiver early late before after sent taken parcel got out in_ counts
