-- The histories of all objects hold, where those of the objects that the logs name do.
use Rattle.std.proofs.Common.{◌≡◌, ℕ, zero, suc, ◌+◌, ◌<◌, ◌≤◌, List, [], ◌∷◌, length, Bool, true, false, refl, sym, ap, ne_eqb, arith, ◌∙◌}
use Rattle.std.specs.Prelude.{◌==◌, ◌&&◌, nat_lt, if◌then◌else◌, map, take, slice_get, Some}
use Rattle.std.specs.List.{list_all}
use Rattle.std.proofs.lemmas.Bool.{ltb-true}
use Rattle.pool_law.specs.declared.id.Parcel.{Parcel}
use Rattle.pool_law.specs.declared.note.Object.{Object}
use Rattle.pool_law.specs.declared.note.Object.TheVariants.{Mail}
use Rattle.pool_law.specs.declared.note.Did.{Did}
use Rattle.pool_law.specs.declared.note.Note.{Note}
use Rattle.pool_law.specs.declared.note.Note.TheVariants.{At, Ref, Busy}
use Rattle.pool_law.specs.declared.run.Shape.{Shape}
use Rattle.pool_law.specs.Same.{same_object}
use Rattle.pool_law.specs.Histories.{accepts, IsAccepted}
use Rattle.pool_law.specs.Logs.{Logs, History, dids, of_lane, own, numbered, IsHistory, has_history, notes_at, history_of, note_stands}
use Rattle.pool_law.specs.Mails.{posted, fetched, MailHolds, MailsHold}
use Rattle.pool_law.specs.Legal.{HistoriesHold}
use Rattle.pool_law.proofs.SameLemmas.{and-first, and-second}
use Rattle.pool_law.proofs.HistoryLemmas.{log-past}
use Rattle.pool_law.proofs.LogLemmas.{accepts-nothing}
use Rattle.definition_rows.proofs.Lanes.{all_from, all_lanes, each_from, each_lane}
use Rattle.definition_rows.proofs.Listed.{listed, added, each_object, another_object}

-- the objects that notes name, with those found before
abbrev pub objects_in : List Note → List Object → List Object
objects_in [] found = found
objects_in (At object number did ∷ ns) found = objects_in ns (added same_object object found)
objects_in (Busy held ∷ ns) found = objects_in ns (added same_object held.object found)
objects_in (Ref root did ∷ ns) found = objects_in ns found

-- the objects that logs name, with those found before
abbrev pub objects_of : Logs → List Object → List Object
objects_of [] found = found
objects_of (log ∷ logs) found = objects_of logs (objects_in log found)

-- a note names an object of the list
abbrev pub names_of : List Object → Note → Bool
names_of objects (At object number did) = listed same_object objects object
names_of objects (Busy held) = listed same_object objects held.object
names_of objects (Ref root did) = true

-- each note names an object of the list
abbrev pub objects_pass : List Object → ℕ → List Note → Bool
objects_pass objects lane log = list_all (names_of objects) log

-- the notes of a history are of so many lanes
abbrev pub lanes_pass : ℕ → History → Bool
lanes_pass lanes h = list_all (λ e. nat_lt e.0 lanes) h

-- the object accepts its history, and all its notes are of the lanes
abbrev pub history_passes : Shape → Logs → Object → Bool
history_passes shape logs object =
    let h = history_of object logs in accepts shape object (dids h) && lanes_pass (length logs) h

-- so it is, where the object has a history
abbrev pub object_passes : Shape → Logs → Object → Bool
object_passes shape logs object = if has_history object then history_passes shape logs object else true

-- what each lane noted at an object, where it has a history
abbrev pub noted_at : Logs → Object → List (List (ℕ × Did))
noted_at logs object =
    if has_history object then each_from (λ lane. own object (of_lane logs lane)) 0 (length logs) else []

-- what the object's history has of each lane
abbrev pub numbered_at : Logs → Object → List (List (ℕ × Did))
numbered_at logs object =
    if has_history object then each_from (λ lane. numbered lane 1 (history_of object logs)) 0 (length logs) else []

-- an object that no note names has no note
own-unnamed : (objects : List Object) (object : Object) → listed same_object objects object ≡ false →
    (log : List Note) → list_all (names_of objects) log ≡ true → own object log ≡ []
own-unnamed objects object absent [] e = refl
own-unnamed objects object absent (At other number did ∷ ns) e =
    let here : listed same_object objects other ≡ true = and-first _ _ e in
    let another : same_object object other ≡ false = another_object objects object other absent here in
    rw another (own-unnamed objects object absent ns (and-second _ _ e))
own-unnamed objects object absent (Ref root did ∷ ns) e = own-unnamed objects object absent ns e
own-unnamed objects object absent (Busy held ∷ ns) e =
    own-unnamed objects object absent ns (and-second _ _ e)

-- the posts of a mail, in the log of its first lane
abbrev pub posts_at : Logs → Object → List (ℕ × Parcel)
posts_at logs (Mail sender receiver) = posted (Mail sender receiver) (of_lane logs sender)
posts_at logs _ = []

-- the fetches, in the log of its second lane
abbrev pub fetches_at : Logs → Object → List (ℕ × Parcel)
fetches_at logs (Mail sender receiver) = fetched (Mail sender receiver) (of_lane logs receiver)
fetches_at logs _ = []

-- the numbers of the posts, and what they are to be
abbrev pub post_numbers : Logs → Object → List ℕ
post_numbers logs mail = map (λ p. p.0) (posts_at logs mail)

abbrev pub numbers_wanted : Logs → Object → List ℕ
numbers_wanted logs mail = each_from (λ k. k) 1 (length (posts_at logs mail))

-- what the fetches are to be
abbrev pub fetches_wanted : Logs → Object → List (ℕ × Parcel)
fetches_wanted logs mail = take (length (fetches_at logs mail)) (posts_at logs mail)

-- a mail that no note names has no post, and no fetch
posted-unnamed : (objects : List Object) (mail : Object) → listed same_object objects mail ≡ false →
    (log : List Note) → list_all (names_of objects) log ≡ true → posted mail log ≡ []
posted-unnamed objects mail absent [] e = refl
posted-unnamed objects mail absent (At other number did ∷ ns) e =
    let here : listed same_object objects other ≡ true = and-first _ _ e in
    let another : same_object mail other ≡ false = another_object objects mail other absent here in
    rw another (posted-unnamed objects mail absent ns (and-second _ _ e))
posted-unnamed objects mail absent (Ref root did ∷ ns) e = posted-unnamed objects mail absent ns e
posted-unnamed objects mail absent (Busy held ∷ ns) e =
    posted-unnamed objects mail absent ns (and-second _ _ e)

fetched-unnamed : (objects : List Object) (mail : Object) → listed same_object objects mail ≡ false →
    (log : List Note) → list_all (names_of objects) log ≡ true → fetched mail log ≡ []
fetched-unnamed objects mail absent [] e = refl
fetched-unnamed objects mail absent (At other number did ∷ ns) e =
    let here : listed same_object objects other ≡ true = and-first _ _ e in
    let another : same_object mail other ≡ false = another_object objects mail other absent here in
    rw another (fetched-unnamed objects mail absent ns (and-second _ _ e))
fetched-unnamed objects mail absent (Ref root did ∷ ns) e = fetched-unnamed objects mail absent ns e
fetched-unnamed objects mail absent (Busy held ∷ ns) e =
    fetched-unnamed objects mail absent ns (and-second _ _ e)

-- where the numbers are so many from n on, each has its own
pub numbers-at : (posts : List (ℕ × Parcel)) (n : ℕ) → map (λ p. p.0) posts ≡ each_from (λ k. k) n (length posts)
    → (k : ℕ) (post : ℕ × Parcel) → slice_get posts k ≡ Some post → post.0 ≡ k + n
numbers-at [] n e k post at = absurd (cc at)
numbers-at (p ∷ ps) n e zero post at =
    let first : p.0 ≡ n = cc e in
    let same : ◌≡◌ {A = ℕ × Parcel} p post = cc at in
    omega (arith, first, ap (λ q. q.0) same)
numbers-at (p ∷ ps) n e (suc k) post at =
    let rest : map (λ q. q.0) ps ≡ each_from (λ j. j) (n + 1) (length ps) = cc e in
    omega (arith, numbers-at ps (n + 1) rest k post at)

notes_at-none : (object : Object) (logs : Logs) → ((lane : ℕ) → own object (of_lane logs lane) ≡ []) →
    notes_at object logs ≡ 0
notes_at-none object [] none = refl
notes_at-none object (log ∷ logs) none =
    rw (none 0) (omega (arith, notes_at-none object logs (λ lane. none (suc lane))))

-- no note of a history is of a lane past the last
numbered-past : (lanes lane n : ℕ) (h : History) → lanes ≤ lane → lanes_pass lanes h ≡ true → numbered lane n h ≡ []
numbered-past lanes lane n [] past e = refl
numbered-past lanes lane n (x ∷ h) past e =
    let inside : x.0 < lanes = ltb-true x.0 lanes (and-first _ _ e) in
    let other : (x.0 == lane) ≡ false = ne_eqb x.0 lane (λ same. omega (arith, same)) in
    rw other (numbered-past lanes lane (n + 1) h past (and-second _ _ e))

module _ (shape : Shape) (logs : Logs) (objects : List Object)
    (named : all_from (objects_pass objects) 0 logs ≡ true)
    (pass : map (object_passes shape logs) objects ≡ map (λ _. true) objects)
    (agree : map (noted_at logs) objects ≡ map (numbered_at logs) objects)
    (posts : map (post_numbers logs) objects ≡ map (numbers_wanted logs) objects)
    (fetches : map (fetches_at logs) objects ≡ map (fetches_wanted logs) objects) where
  lane_named : (lane : ℕ) → list_all (names_of objects) (of_lane logs lane) ≡ true
  lane_named lane = all_lanes (objects_pass objects) (λ k. refl) logs named lane

  history_of-unnamed : (object : Object) → listed same_object objects object ≡ false → history_of object logs ≡ []
  history_of-unnamed object absent =
      let none : notes_at object logs ≡ 0 =
      notes_at-none object logs (λ lane. own-unnamed objects object absent (of_lane logs lane) (lane_named lane)) in
      rw none refl

  object-passes : (object : Object) → has_history object ≡ true → listed same_object objects object ≡ true →
      history_passes shape logs object ≡ true
  object-passes object has in_list =
      ap (λ b. if b then history_passes shape logs object else true) (sym has)
      ∙ each_object (object_passes shape logs) (λ _. true) objects object pass in_list

  object-agrees : (object : Object) → has_history object ≡ true → listed same_object objects object ≡ true →
      each_from (λ lane. own object (of_lane logs lane)) 0 (length logs)
      ≡ each_from (λ lane. numbered lane 1 (history_of object logs)) 0 (length logs)
  object-agrees object has in_list =
      ap (λ b. if b then each_from (λ lane. own object (of_lane logs lane)) 0 (length logs) else []) (sym has)
      ∙ each_object (noted_at logs) (numbered_at logs) objects object agree in_list
      ∙ ap (λ b. if b then each_from (λ lane. numbered lane 1 (history_of object logs)) 0 (length logs) else []) has

  pub whole : (object : Object) → has_history object ≡ true → IsHistory object logs (history_of object logs)
  whole object has lane = go (listed same_object objects object) refl
    where
      inside : (b : Bool) → nat_lt lane (length logs) ≡ b → listed same_object objects object ≡ true →
          own object (of_lane logs lane) ≡ numbered lane 1 (history_of object logs)
      inside true below in_list =
          each_lane (λ l. own object (of_lane logs l)) (λ l. numbered l 1 (history_of object logs)) (length logs)
          (object-agrees object has in_list)
          lane (ltb-true lane (length logs) below)
      inside false past in_list =
          let beyond : length logs ≤ lane = search (arith, past) in
          ap (own object) (log-past logs lane beyond)
          ∙ sym (numbered-past (length logs) lane 1 (history_of object logs) beyond
          (and-second _ _ (object-passes object has in_list)))

      go : (b : Bool) → listed same_object objects object ≡ b →
          own object (of_lane logs lane) ≡ numbered lane 1 (history_of object logs)
      go true in_list = inside (nat_lt lane (length logs)) refl in_list
      go false absent =
          own-unnamed objects object absent (of_lane logs lane) (lane_named lane)
          ∙ sym (ap (numbered lane 1) (history_of-unnamed object absent))

  pub accepted : (object : Object) → has_history object ≡ true → IsAccepted shape object (dids (history_of object logs))
  accepted object has = go (listed same_object objects object) refl
    where
      go : (b : Bool) → listed same_object objects object ≡ b →
          accepts shape object (dids (history_of object logs)) ≡ true
      go true in_list = and-first _ _ (object-passes object has in_list)
      go false absent =
          ap (λ h. accepts shape object (dids h)) (history_of-unnamed object absent)
          ∙ accepts-nothing shape object has

  mails : MailsHold logs
  mails sender receiver = go (listed same_object objects (Mail sender receiver)) refl
    where
      go : (b : Bool) → listed same_object objects (Mail sender receiver) ≡ b →
          MailHolds (Mail sender receiver) (of_lane logs sender) (of_lane logs receiver)
      go true in_list =
          record {
            numbered =
                numbers-at (posts_at logs (Mail sender receiver)) 1
                (each_object (post_numbers logs) (numbers_wanted logs) objects (Mail sender receiver) posts in_list);
            in_order =
                each_object (fetches_at logs) (fetches_wanted logs) objects (Mail sender receiver) fetches in_list;
          }
      go false absent =
          let none_posted : posted (Mail sender receiver) (of_lane logs sender) ≡ [] =
          posted-unnamed objects (Mail sender receiver) absent (of_lane logs sender) (lane_named sender) in
          let none_fetched : fetched (Mail sender receiver) (of_lane logs receiver) ≡ [] =
          fetched-unnamed objects (Mail sender receiver) absent (of_lane logs receiver) (lane_named receiver) in
          record {
            numbered =
                λ k post e.
                let none : slice_get [] k ≡ Some post = ap (λ ps. slice_get ps k) (sym none_posted) ∙ e in
                absurd (cc none);
            in_order =
                none_fetched ∙ ap (λ fs. take (length fs) (posted (Mail sender receiver) (of_lane logs sender)))
                (sym none_fetched);
          }

  pub histories : all_from (λ lane log. list_all (note_stands shape lane) log) 0 logs ≡ true →
      HistoriesHold shape logs
  histories stand = record {
    whole = whole;
    accepted = accepted;
    mails = mails;
    stand = all_lanes (λ lane log. list_all (note_stands shape lane) log) (λ k. refl) logs stand;
  }
