-- The histories of objects as the program keeps them.
use Rattle.std.proofs.Common.{◌≡◌, ℕ, Bool, ◌+◌, true, false, List, [], ◌∷◌, ◌++◌, Option, Some, None, Vec, refl, sym, ap, subst, ◌∙◌}
use Rattle.std.specs.Prelude.{if◌then◌else◌, is_some, option_map, MatchOption}
use Rattle.std.specs.BTreeMap.{get, is_at}
use Rattle.std.specs.declared.alloc.Global.{Global}
use Rattle.pool_law.specs.declared.note.Did.{Did}
use Rattle.pool_law.specs.declared.note.Note.{Note}
use Rattle.pool_law.specs.declared.note.Note.TheVariants.{At}
use Rattle.pool_law.specs.declared.note.Object.{Object}
use Rattle.pool_law.specs.declared.note.Object.TheVariants.{Mail, Root}
use Rattle.pool_law.specs.declared.run.Shape.{Shape}
use Rattle.pool_law.specs.Same.{same_object}
use Rattle.pool_law.specs.Roots.{RootPlace, new_place}
use Rattle.pool_law.specs.Histories.{accepts, arena_after, place_after}
use Rattle.pool_law.specs.Logs.{Logs, History, dids, of_lane, own, IsHistory, has_history, history_of}
use Rattle.pool_law.specs.Mails.{MailHolds}
use Rattle.pool_law.specs.Arenas.{Arena}
use Rattle.pool_law.specs.Legal.{ends_of, arena_ends}
use Rattle.pool_law.proofs.HistoryLemmas.{own-append, history_of-is}
use Rattle.pool_law.proofs.SameLemmas.{same_object-is}
use Rattle.object_steps.specs.declared.told.PlaceTold.{PlaceTold}
use Rattle.run_check.specs.declared.histories.ObjectHistory.{ObjectHistory}
use Rattle.run_check.specs.declared.histories.BrokenAt.{BrokenAt}
use Rattle.run_check.specs.declared.histories.Histories.{Histories}
use Rattle.lane_reader.specs.Counting.{key_cmp}
use Rattle.run_check.specs.Keying.{object_key}
use Rattle.run_check.specs.Gathering.{AreNumbered}
use Rattle.object_steps.specs.Telling.{told_of_each}
use Rattle.run_check.specs.Merging.{dones_in}
use Rattle.run_check.specs.Mailing.{IsHeldMail}
use Rattle.run_check.specs.Fronts.{IsBrokenAt, StopsAt, AcceptsSoMany}
use Rattle.run_check.specs.Storing.{told_of, TellsOf, IsObjectHistory, ObjectHolds, object_history_in, has_object_history, dones_of, told_by_object_history, history_in, AreObjectHistories, Keeps, Covers, AreHistories}
use Rattle.run_check.proofs.FrontLemmas.{whole-front}
use Rattle.run_check.proofs.BrokenLemmas.{accepts-less, refused-at}
use Rattle.pool_law.proofs.PatternLemmas.{same_object-refl}
use Rattle.pool_law.proofs.LogLemmas.{accepts-nothing}
use Rattle.run_check.proofs.KeyLemmas.{is_at-object}
use Rattle.run_check.proofs.MailLemmas.{no-mail, unused-holds}

-- ---- One object.

module _ (shape : Shape) (logs : Logs) (object : Object) (has : has_history object ≡ true) where
  merged-whole : (left : ℕ → List (ℕ × Did)) (h : History) →
      ((lane : ℕ) → left lane ≡ own object (of_lane logs lane)) → AreNumbered 1 left h → IsHistory object logs h
  merged-whole left h is numbers lane = sym (is lane) ∙ numbers lane

  broken-refused : (h : History) → IsHistory object logs h → accepts shape object (dids h) ≡ false →
      ObjectHolds shape logs object → ⊥
  broken-refused h whole refused holds =
      let same : history_of object logs ≡ h = history_of-is object logs h whole in
      let both : false ≡ true = sym refused ∙ ap (λ (g : History). accepts shape object (dids g)) (sym same)
      ∙ holds.accepted has in
      cc both

  -- a whole history that is refused is broken behind the notes that are accepted of it
  pub object_history-broken : (left : ℕ → List (ℕ × Did)) (h : History) (ds : List Did) (n : ℕ) →
      ((lane : ℕ) → left lane ≡ own object (of_lane logs lane)) → AreNumbered 1 left h → ds ≡ dids h →
      accepts shape object ds ≡ false → AcceptsSoMany shape object ds n → IsBrokenAt shape logs object (n + 1)
  object_history-broken left h ds n is numbers same refused so_many =
      let whole : IsHistory object logs h = merged-whole left h is numbers in
      let here : AcceptsSoMany shape object (dids h) n =
      subst (λ (xs : List Did). AcceptsSoMany shape object xs n) same so_many in
      let no : accepts shape object (dids h) ≡ false = ap (accepts shape object) (sym same) ∙ refused in
      refused-at shape logs object has h n (broken-refused h whole no)
      (whole-front (λ lane. own object (of_lane logs lane)) h whole) here
      (accepts-less shape object (dids h) n here no)

  -- notes that are merged up to a number stop there
  pub stops-at : (left : ℕ → List (ℕ × Did)) (h : History) (number : ℕ) →
      ((lane : ℕ) → left lane ≡ own object (of_lane logs lane)) → StopsAt left h number →
      StopsAt (λ lane. own object (of_lane logs lane)) h number
  stops-at left h number is stops =
      subst (λ (notes : ℕ → List (ℕ × Did)). StopsAt notes h number) (λ i lane. is lane i) stops

  -- what is merged, accepted and told is a history
  pub object_history-is : (left : ℕ → List (ℕ × Did)) (ds : List Did) (object_history : ObjectHistory) →
      ((lane : ℕ) → left lane ≡ own object (of_lane logs lane))
      → AreNumbered 1 left (dones_in object_history.dones.items) →
      ds ≡ dids (dones_in object_history.dones.items) →
      (accepts shape object ds ≡ true) × (object_history.told.items ≡ told_of object ds)
      → IsObjectHistory shape logs object object_history
  object_history-is left ds object_history is numbers same told = record {
    whole = λ _. merged-whole left (dones_in object_history.dones.items) is numbers;
    accepted = λ _. ap (accepts shape object) (sym same) ∙ told.0;
    mail = no-mail logs object has;
    told = told.1 ∙ ap (told_of object) same;
  }

-- a mail that holds has an empty history
pub mail-object_history : (shape : Shape) (logs : Logs) (mail : Object) (object_history : ObjectHistory)
    → has_history mail ≡ false →
    IsHeldMail logs mail → object_history.dones.items ≡ [] → object_history.told.items ≡ []
    → IsObjectHistory shape logs mail object_history
mail-object_history shape logs (Mail sender receiver) object_history none held dones told = record {
  whole = λ has. absurd (cc has);
  accepted = λ has. absurd (cc has);
  mail = held;
  told = told;
}
mail-object_history shape logs _ object_history none held dones told = absurd (cc none)

-- what is told of a root place's history, where it is accepted
pub tells-root : (shape : Shape) (place : ℕ) (ds : List Did) (told : Option (Vec PlaceTold Global)) →
    option_map (λ t. t.items) told ≡ option_map (λ _. told_of_each place new_place ds) (place_after place ds) →
    TellsOf shape (Root place) ds told
tells-root shape place ds None e = go (place_after place ds) e
  where
    go : (o : Option RootPlace) → None ≡ option_map (λ _. told_of_each place new_place ds) o → is_some o ≡ false
    go None e = refl
    go (Some p) e = absurd (cc e)
tells-root shape place ds (Some t) e = go (place_after place ds) e
  where
    go : (o : Option RootPlace) → Some t.items ≡ option_map (λ _. told_of_each place new_place ds) o →
        (is_some o ≡ true) × (t.items ≡ told_of_each place new_place ds)
    go None e = absurd (cc e)
    go (Some p) e = (refl, cc e)

-- ---- All objects.

module _ (shape : Shape) (logs : Logs) (object : Object) (old new : Histories) (object_history : ObjectHistory)
    (key : ℕ × ℕ × ℕ) (at_key : key ≡ object_key object)
    (updates : (q : ℕ × ℕ × ℕ) → get key_cmp new.map q
    ≡ (if is_at (key_cmp key) q then Some object_history else get key_cmp old.map q))
  where
    at : (other : Object) (b : Bool) → same_object object other ≡ b →
        object_history_in new other ≡ (if b then Some object_history else object_history_in old other)
    at other b same =
        updates (object_key other)
        ∙ ap (λ (b : Bool). if b then Some object_history else object_history_in old other)
        (ap (λ (k : ℕ × ℕ × ℕ). is_at (key_cmp k) (object_key other)) at_key ∙ is_at-object object other ∙ same)

    object_histories-more : AreObjectHistories shape logs old → IsObjectHistory shape logs object object_history
        → AreObjectHistories shape logs new
    object_histories-more are is other s found = go (same_object object other) refl
      where
        go : (b : Bool) → same_object object other ≡ b → IsObjectHistory shape logs other s
        go true e =
            let this : object_history ≡ s = cc (at other true e, found) in
            subst (λ (o : Object). IsObjectHistory shape logs o s) (same_object-is object other e)
            (subst (λ (t : ObjectHistory). IsObjectHistory shape logs object t) this is)
        go false e = are other s (sym (at other false e) ∙ found)

    keeps-more : Keeps old new
    keeps-more other has = go (same_object object other) refl
      where
        go : (b : Bool) → same_object object other ≡ b → has_object_history new other ≡ true
        go true e = ap is_some (at other true e)
        go false e = ap is_some (at other false e) ∙ has

    pub object_history-added : AreObjectHistories shape logs old → IsObjectHistory shape logs object object_history →
        AreObjectHistories shape logs new × Keeps old new × (has_object_history new object ≡ true)
    object_history-added are is =
        (object_histories-more are is, keeps-more, ap is_some (at object true (same_object-refl object)))

-- objects that are covered stay so
pub covers-kept : (old new : Histories) (notes : List Note) → Keeps old new → Covers old notes → Covers new notes
covers-kept old new notes keeps covers object absent = go (has_object_history old object) refl
  where
    go : (b : Bool) → has_object_history old object ≡ b → own object notes ≡ []
    go true has = let both : true ≡ false = sym (keeps object has) ∙ absent in absurd (cc both)
    go false none = covers object none

module _ (shape : Shape) (logs : Logs) (m : Histories) (are : AreObjectHistories shape logs m)
    (covers : (lane : ℕ) → Covers m (of_lane logs lane)) where
  pub histories-are : AreHistories shape logs m
  histories-are = record {
    whole = λ object has. whole object has (object_history_in m object) refl;
    accepted = λ object has. accepted object has (object_history_in m object) refl;
    mails = λ sender receiver. held sender receiver (object_history_in m (Mail sender receiver)) refl;
    told = λ place. told place (object_history_in m (Root place)) refl;
  }
    where
      whole : (object : Object) → has_history object ≡ true → (o : Option ObjectHistory)
          → object_history_in m object ≡ o
          → IsHistory object logs (dones_of o)
      whole object has None none = λ lane. covers lane object (ap is_some none)
      whole object has (Some s) found = (are object s found).whole has

      accepted : (object : Object) → has_history object ≡ true → (o : Option ObjectHistory)
          → object_history_in m object ≡ o
          → accepts shape object (dids (dones_of o)) ≡ true
      accepted object has None none = accepts-nothing shape object has
      accepted object has (Some s) found = (are object s found).accepted has

      held : (sender receiver : ℕ) (o : Option ObjectHistory) → object_history_in m (Mail sender receiver) ≡ o
          → MailHolds (Mail sender receiver) (of_lane logs sender) (of_lane logs receiver)
      held sender receiver None none =
          unused-holds (Mail sender receiver) (of_lane logs sender) (of_lane logs receiver)
          (covers sender (Mail sender receiver) (ap is_some none))
          (covers receiver (Mail sender receiver) (ap is_some none))
      held sender receiver (Some s) found = (are (Mail sender receiver) s found).mail

      told : (place : ℕ) (o : Option ObjectHistory) → object_history_in m (Root place) ≡ o →
          told_by_object_history o ≡ told_of_each place new_place (dids (dones_of o))
      told place None none = refl
      told place (Some s) found = (are (Root place) s found).told

-- the chunks of an arena at the end, by its history
pub ends-are : (shape : Shape) (logs : Logs) (m : Histories) → AreHistories shape logs m → (number : ℕ)
    (ds : List Did) (o : Option Arena) → ds ≡ dids (history_in m (Object.Arena number)) →
    o ≡ arena_after shape number ds → ends_of shape number o ≡ arena_ends shape logs number
ends-are shape logs m are number ds o same is =
    let object : Object = Object.Arena number in
    let history : history_of object logs ≡ history_in m object =
    history_of-is object logs (history_in m object) (are.whole object refl) in
    ap (ends_of shape number)
    (is ∙ ap (arena_after shape number) (same ∙ ap dids (sym history)))

-- a note's object is covered where its history is there
covers-at : (m : Histories) (object : Object) (number : ℕ) (did : Did) → has_object_history m object ≡ true →
    Covers m (At object number did ∷ [])
covers-at m object number did has other absent = go (same_object other object) refl
  where
    go : (b : Bool) → same_object other object ≡ b → own other (At object number did ∷ []) ≡ []
    go true e =
        let same : other ≡ object = same_object-is other object e in
        let both : true ≡ false = sym has ∙ ap (has_object_history m) (sym same) ∙ absent in
        absurd (cc both)
    go false e = ap (λ (b : Bool). (if b then (number, did) ∷ [] else []) ++ []) e

-- a note at an object is covered where the object's history is added
pub note-added : (shape : Shape) (logs : Logs) (object : Object) (number : ℕ) (did : Did) (note : Note)
    (old new : Histories) (broken : Option BrokenAt) → note ≡ At object number did →
    MatchOption broken (AreObjectHistories shape logs new × Keeps old new × (has_object_history new object ≡ true))
    (λ b. IsBrokenAt shape logs b.object b.number) →
    MatchOption broken (AreObjectHistories shape logs new × Keeps old new × Covers new (note ∷ []))
    (λ b. IsBrokenAt shape logs b.object b.number)
note-added shape logs object number did note old new None is added = (
  added.0,
  added.1,
  subst (λ (n : Note). Covers new (n ∷ [])) (sym is) (covers-at new object number did added.2),
)
note-added shape logs object number did note old new (Some at) is broken = broken

pub covers-push : (m : Histories) (ns : List Note) (n : Note) → Covers m ns → Covers m (n ∷ []) →
    Covers m (ns ++ n ∷ [])
covers-push m ns n before here object absent =
    own-append object ns (n ∷ []) ∙ (λ i. before object absent i ++ here object absent i)

pub keeps-both : (a b c : Histories) → Keeps a b → Keeps b c → Keeps a c
keeps-both a b c first second object has = second object (first object has)
