-- The steps as the calls ask for them: the key, the object and the slot come by equations.
use Rattle.step_law.specs.Settings.{Setting}
use Rattle.std.proofs.Common.{◌≡◌, ◌≢◌, ℕ, ◌+◌, ◌-◌, ◌*◌, ◌%◌, ◌^◌, ◌<◌, ◌≤◌, List, [], ◌∷◌, ◌++◌, sym, refl, ap, ◌∙◌, subst, arith, ◌/◌}
use Rattle.std.specs.Prelude.{Option, Some, None, bit_or, slice_index}
use mathlib.Core.Option.{none}
use Rattle.atomic_table.specs.Table.{Me, step, Allows, Splits, Joins}
use Rattle.pool_law.specs.declared.run.Shape.{Shape}
use Rattle.pool_law.specs.declared.note.Noted.{Noted}
use Rattle.pool_law.specs.declared.note.Object.{Object}
use Rattle.pool_law.specs.declared.note.Object.TheVariants.{Root}
use Rattle.pool_law.specs.Homes.{IsObjectOf}
use Rattle.pool_law.specs.declared.id.Parcel.{Parcel}
use Rattle.pool_table.specs.Letters.{next_letter, lane_of}
use Rattle.pool_table.specs.Mailing.{MaySend, MayReceive}
use Rattle.pool_table.specs.Steps.{sends_next, letter_beside, receives_with, stays}
use Rattle.pool_table.proofs.Claimed.{stays_sound}
use Rattle.pool_table.proofs.Sending.{sends_allowed, receives_allowed}
use Rattle.atomic_table.specs.Table.{keeps}
use Rattle.pool_table.specs.Slots.{slots_of, slot_of}
use Rattle.history_laws.specs.Histories.{IsLawful}
use Rattle.pool_law.specs.Naming.{noted_by}
use Rattle.history_laws.specs.Measures.{measures_of}
use Rattle.pool_table.specs.declared.views.Layout.{Layout}
use Rattle.pool_table.specs.declared.views.SeatView.{SeatView}
use Rattle.pool_table.specs.Words.{words_of, word_of, count_word_of}
use Rattle.pool_table.proofs.Words.{object_word}
use Rattle.pool_law.specs.declared.id.RootId.{RootId}
use Rattle.pool_table.specs.Hands.{MayLeave, PutsDown}
use Rattle.pool_table.specs.Hands.{InHand, Waits, HasEnded, MayEnter}
use Rattle.pool_table.specs.Counts.{HasCount, HasToken}
use Rattle.pool_table.proofs.Presence.{next_birth}
use Rattle.pool_law.specs.NotedHistories.{MayNote}
use Rattle.pool_table.specs.Sound.{IsSound, IsMarked, WasHeld}
use Rattle.pool_table.specs.declared.table.HomeSlot.{HomeSlot}
use Rattle.pool_table.specs.Sections.{IsInside, StandsFor}
use Rattle.pool_table.specs.Steps.{IsFree}
use Rattle.std.specs.Prelude.{Bool, true, false, MatchBool}
use Rattle.atomic_table.specs.Table.{Step, rest}
use Rattle.pool_table.specs.Views.{blank, joined}
use Rattle.pool_table.specs.Steps.{claims, marks_claims, GotIn, counts_one, dones, idles, blank_beside, share_left, share_of, share_added, IsShare, retains, looks, releases, vacates, births}
use Rattle.pool_table.proofs.Seatings.{splits_allowed, shares_allowed}
use Rattle.pool_table.proofs.Joinings.{joins_allowed, accepts_allowed}
use Rattle.pool_table.proofs.Hands.{births_allowed, hand_place}
use Rattle.pool_table.proofs.Exact.{born_place, count_born, counted_of, token_born}
use Rattle.pool_table.proofs.OneRoot.{one_allowed}
use mathlib.Core.Option.{some}
use lib.ListN.{get_elem?}
use Rattle.atomic_table.specs.Table.{State}
use Rattle.pool_table.proofs.CountSteps.{retains_allowed, looks_allowed, releases_allowed, vacates_allowed}
use Rattle.pool_table.proofs.Claimed.{claims_allowed}
use Rattle.pool_table.proofs.Marks.{marks_allowed}
use Rattle.pool_table.proofs.Noting.{dones_allowed}
use Rattle.pool_table.proofs.Leaving.{idles_allowed}

-- the word of an object is one of the table's
pub word_within : (s : Shape) (o : Object) (word words : ℕ) → IsObjectOf s o → word ≡ word_of s o → words ≡ words_of s
    → word < words
word_within s o word words fits is are =
    subst (λ (y : ℕ × ℕ). y.0 < y.1) (λ q. (sym is q, sym are q)) (object_word s o fits)

-- what a birth tells, by the root's name
pub births_told : {H : Type 0} (r root : RootId) (s : Step (Option H)) (me : Me (Option H) SeatView) (found : ℕ)
    (after : Me (Option H) SeatView) → r ≡ root → births r s me found after → births root s me found after
births_told r root s me found after same told = subst (λ (q : RootId). births q s me found after) same told

pub releases_told : {H : Type 0} (r root : RootId) (s : Step (Option H)) (me : Me (Option H) SeatView) (found : ℕ)
    (after : Me (Option H) SeatView) → r ≡ root → releases r s me found after → releases root s me found after
releases_told r root s me found after same told = subst (λ (q : RootId). releases q s me found after) same told

pub vacates_told : {H : Type 0} (r root : RootId) (s : Step (Option H)) (me : Me (Option H) SeatView) (found : ℕ)
    (after : Me (Option H) SeatView) → r ≡ root → vacates r s me found after → InHand root.place after.0
vacates_told {H} r root s me found after same told =
    let t : vacates root s me found after = subst (λ (q : RootId). vacates q s me found after) same told in
    subst (λ (m : Me (Option H) SeatView). InHand root.place m.0) (sym t.0) t.1

module _ {H : Type 0} (stands : List ℕ → Setting → List Noted → H → Type 0) where
  pub claims_as : (l key l' : Layout) → 0 < l.shape.handles
      → (o o' : Object) (slots slot id : ℕ) (me : Me (Option H) SeatView) → key ≡ l → slots ≡ slots_of l.shape
      → slot ≡ word_of l.shape o → o' ≡ o → l' ≡ l → IsObjectOf l.shape o → IsFree me → 0 < me.0.turns
      → ((p : ℕ) → o ≡ Root p → MayEnter p me.0)
      → Allows (IsSound stands key) slots id me slot (λ n. bit_or n 1)
      (claims stands l' o' (step slots slot 1 0 none) me)
  claims_as l key l' some_handle o o' slots slot id me ke se ie oe le fits out turn may =
      subst (λ (y : Layout × ℕ × ℕ × Object × Layout). Allows (IsSound stands y.0) y.1 id me y.2 (λ n. bit_or n 1)
      (claims stands y.4 y.3 (step y.1 y.2 1 0 none) me)) (λ q. (sym ke q, sym se q, sym ie q, sym oe q, sym le q))
      (claims_allowed stands l some_handle id me o fits out turn may)

  pub marks_as : (l key l' : Layout) → 0 < l.shape.handles
      → (o o' : Object) (slots slot id : ℕ) (me : Me (Option H) SeatView) → key ≡ l → slots ≡ slots_of l.shape
      → slot ≡ word_of l.shape o → o' ≡ o → l' ≡ l → IsObjectOf l.shape o → IsFree me → 0 < me.0.turns
      → ((p : ℕ) → o ≡ Root p → MayEnter p me.0) → IsMarked o
      → Allows (IsSound stands key) slots id me slot (λ n. bit_or n 1)
      (marks_claims stands l' o' (step slots slot 1 0 none) me)
  marks_as l key l' some_handle o o' slots slot id me ke se ie oe le fits out turn may marked =
      subst (λ (y : Layout × ℕ × ℕ × Object × Layout). Allows (IsSound stands y.0) y.1 id me y.2 (λ n. bit_or n 1)
      (marks_claims stands y.4 y.3 (step y.1 y.2 1 0 none) me))
      (λ q. (sym ke q, sym se q, sym ie q, sym oe q, sym le q))
      (marks_allowed stands l some_handle id me o fits out turn may marked)

  -- the seat as it is once the home value is back in the slot
  pub dones_as : (l key : Layout) (o : Object) (slots : ℕ) (slot : HomeSlot) (id id' : ℕ) (me me' : Me (Option H)
      SeatView)
      (h : List Noted) (home : H) (note : Noted) → key ≡ l → slots ≡ slots_of l.shape → IsInside l.shape me o slot h
      → id' ≡ id → me' ≡ (me.0, (slot.home, Some home) ∷ [])
      → 0 < me.0.turns → MayNote l.shape me.0.own.number o note.did → PutsDown me.0 note.did
      → IsLawful l.shape o (h ++ noted_by me.0.own.number note ∷ [])
      → StandsFor stands (measures_of l.shape o) me.0 (h ++ noted_by me.0.own.number note ∷ []) home
      → Allows (IsSound stands key) slots id' me' slot.word (λ n. (n + 1) % 2 ^ 64)
      (counts_one (dones note) (step slots slot.word 1 0 none) me')
  dones_as l key o slots slot id id' me me' h home note ke se inside ide is turn may hands accepted stands_for =
      one_allowed stands key slots id' me' slot.word (λ n. (n + 1) % 2 ^ 64) (dones note)
      (step slots slot.word 1 0 none)
      (subst (λ (y : Layout × ℕ × ℕ × ℕ × Me (Option H) SeatView). Allows (IsSound stands y.0) y.1 y.2 y.4 y.3
      (λ n. (n + 1) % 2 ^ 64) (dones note (step y.1 y.3 1 0 none) y.4))
      (λ q. (sym ke q, sym se q, sym ide q, sym inside.word_is q, sym is q))
      (dones_allowed stands l id (me.0, (slot.home, Some home) ∷ []) o slot.home h home note inside.object
      inside.slot_is inside.inside refl turn may hands accepted stands_for))

  pub idles_as : (l key : Layout) (o : Object) (slots : ℕ) (slot : HomeSlot) (id id' : ℕ) (me me' : Me (Option H)
      SeatView)
      (h : List Noted) (home : H) → key ≡ l → slots ≡ slots_of l.shape → IsInside l.shape me o slot h → id' ≡ id
      → me' ≡ (me.0, (slot.home, Some home) ∷ [])
      → MayLeave me.0 o → StandsFor stands (measures_of l.shape o) me.0 h home
      → Allows (IsSound stands key) slots id' me' slot.word (λ n. (n + (2 ^ 64 - 1)) % 2 ^ 64)
      (idles (step slots slot.word 1 0 none) me')
  idles_as l key o slots slot id id' me me' h home ke se inside ide is leave stands_for =
      subst (λ (y : Layout × ℕ × ℕ × ℕ × Me (Option H) SeatView). Allows (IsSound stands y.0) y.1 y.2 y.4 y.3
      (λ n. (n + (2 ^ 64 - 1)) % 2 ^ 64) (idles (step y.1 y.3 1 0 none) y.4))
      (λ q. (sym ke q, sym se q, sym ide q, sym inside.word_is q, sym is q))
      (idles_allowed stands l id (me.0, (slot.home, Some home) ∷ []) o slot.home h home inside.object inside.slot_is
      inside.inside refl leave stands_for)

  pub splits_as : (l key : Layout) (id : ℕ) (v : SeatView) → key ≡ l → v.inside ≡ None
      → Splits (IsSound stands key) id v v (blank_beside v)
  splits_as l key id v ke out =
      subst (λ (k : Layout). Splits (IsSound stands k) id v v (blank_beside v)) (sym ke)
      (splits_allowed stands l id v out)

  pub shares_as : (l key : Layout) (n n' id : ℕ) (v : SeatView) → key ≡ l → n' ≡ n → v.inside ≡ None → n ≤ v.moves
      → Splits (IsSound stands key) id v (share_left n' v) (share_of n' v)
  shares_as l key n n' id v ke ne out le =
      subst (λ (y : Layout × ℕ). Splits (IsSound stands y.0) id v (share_left y.1 v) (share_of y.1 v))
      (λ i. (sym ke i, sym ne i)) (shares_allowed stands l n id v out le)

  pub accepts_as : (l key : Layout) (id other : ℕ) (v w : SeatView) → key ≡ l → v.inside ≡ None → IsShare w
      → Joins (IsSound stands key) id v other w (share_added w.moves v) (blank None)
  accepts_as l key id other v w ke vo is =
      subst (λ (k : Layout). Joins (IsSound stands k) id v other w (share_added w.moves v) (blank None)) (sym ke)
      (accepts_allowed stands l id other v w vo is)

  pub joins_as : (l key : Layout) (id other : ℕ) (v w : SeatView) → key ≡ l → v.inside ≡ None → w.inside ≡ None
      → Joins (IsSound stands key) id v other w (joined v w) (blank None)
  joins_as l key id other v w ke vo wo =
      subst (λ (k : Layout). Joins (IsSound stands k) id v other w (joined v w) (blank None)) (sym ke)
      (joins_allowed stands l id other v w vo wo)

module _ {H : Type 0} (stands : List ℕ → Setting → List Noted → H → Type 0) (l : Layout) (o : Object) where
  -- an even word was found
  pub got_in : (mark : Bool) (s : Step (Option H)) (me : Me (Option H) SeatView) (found : ℕ)
      (after : Me (Option H) SeatView) → MatchBool mark (marks_claims stands l o s me found after)
      (claims stands l o s me found after) → found % 2 ≢ 1 → GotIn stands l o (slot_of l.shape o) me found after
  got_in true s me found after told even = told.0 (omega (arith, even))
  got_in false s me found after told even = told.0 (omega (arith, even))

  -- an odd word was found
  pub was_held : (mark : Bool) (s : Step (Option H)) (me : Me (Option H) SeatView) (found : ℕ)
      (after : Me (Option H) SeatView) → MatchBool mark (marks_claims stands l o s me found after)
      (claims stands l o s me found after) → found % 2 ≡ 1 → WasHeld stands l o (found / 2) me.0
  was_held true s me found after told odd = (told.1 odd).2
  was_held false s me found after told odd = (told.1 odd).2

  -- so the slot was taken last
  pub took : (word slot found : ℕ) (me after : Me (Option H) SeatView) → me.1 ≡ [] → slot ≡ word
      → GotIn stands l o word me found after → (x : H) × (after.1 ≡ (slot, Some x) ∷ rest after.1)
  took word slot found me after empty is g =
      let e : after.1 ≡ (slot, Some g.1) ∷ [] = g.4 ∙ (λ q. (sym is q, Some g.1) ∷ empty q) in
      (g.1, e ∙ (λ q. (slot, Some g.1) ∷ rest (sym e q)))

module _ {H : Type 0} (stands : List ℕ → Setting → List Noted → H → Type 0) (l : Layout) where
  -- what a step on a root's word asks, where the root's place is one of the shape's, it asks at any word that
  -- is then its own
  at_root : (id : ℕ) (me : Me (Option H) SeatView) (place word : ℕ) (f : ℕ → ℕ)
      (then : ℕ → Me (Option H) SeatView → Type 0)
      → ((s : State (Option H) SeatView) (r : IsSound stands l s) → get_elem? s.views id ≡ some me.0
      → place < l.shape.lanes * l.shape.handles)
      → (place < l.shape.lanes * l.shape.handles → word ≡ count_word_of l.shape place)
      → (place < l.shape.lanes * l.shape.handles → Allows (IsSound stands l) (slots_of l.shape) id me
      (count_word_of l.shape place) f then) → Allows (IsSound stands l) (slots_of l.shape) id me word f then
  at_root id me place word f then fits is allowed s r wide at under =
      let lt = fits s r at in
      subst (λ (w : ℕ). Allows (IsSound stands l) (slots_of l.shape) id me w f then) (sym (is lt)) (allowed lt) s r wide
      at under

  pub within : (word words : ℕ) → word < words_of l.shape → words ≡ words_of l.shape → word < words
  within word words lt are = subst (λ (y : ℕ). word < y) (sym are) lt

  module _ (key : Layout) (slots word id : ℕ) (me : Me (Option H) SeatView) (root root' : RootId) (ke : key ≡ l)
      (se : slots ≡ slots_of l.shape) (re : root' ≡ root)
      (is : root.place < l.shape.lanes * l.shape.handles → word ≡ count_word_of l.shape root.place)
      (out : me.0.inside ≡ None) where
    counted_fits : HasCount root me.0 → (s : State (Option H) SeatView) (r : IsSound stands l s)
        → get_elem? s.views id ≡ some me.0 → root.place < l.shape.lanes * l.shape.handles
    counted_fits has s r at = born_place stands l s r root (count_born stands l s r id me.0 at root has)

    pub retains_as : HasCount root me.0 → 0 < me.0.moves
        → Allows (IsSound stands key) slots id me word (λ n. (n + 2) % 2 ^ 64)
        (counts_one (retains root') (step slots word 2 0 none) me)
    retains_as has moves =
        one_allowed stands key slots id me word (λ n. (n + 2) % 2 ^ 64) (retains root') (step slots word 2 0 none)
        (subst (λ (y : Layout × ℕ × RootId). Allows (IsSound stands y.0) y.1 id me word (λ n. (n + 2) % 2 ^ 64)
        (retains y.2 (step y.1 word 2 0 none) me)) (λ q. (sym ke q, sym se q, sym re q))
        (at_root id me root.place word (λ n. (n + 2) % 2 ^ 64) (retains root (step (slots_of l.shape) word 2 0 none) me)
        (counted_fits has) is (λ lt. retains_allowed stands l id me root lt has out moves)))

    pub looks_as : HasCount root me.0 → Allows (IsSound stands key) slots id me word (λ n. n)
        (counts_one (looks root') (step slots word 0 0 none) me)
    looks_as has = one_allowed stands key slots id me word (λ n. n) (looks root') (step slots word 0 0 none)
        (subst (λ (y : Layout × ℕ × RootId). Allows (IsSound stands y.0) y.1 id me word (λ n. n)
        (looks y.2 (step y.1 word 0 0 none) me)) (λ q. (sym ke q, sym se q, sym re q))
        (at_root id me root.place word (λ n. n) (looks root (step (slots_of l.shape) word 0 0 none) me)
        (counted_fits has) is (λ lt. looks_allowed stands l id me root lt has out)))

    pub releases_as : HasCount root me.0 → Allows (IsSound stands key) slots id me word
        (λ n. (n + (2 ^ 64 - 2)) % 2 ^ 64) (counts_one (releases root') (step slots word 2 0 none) me)
    releases_as has =
        one_allowed stands key slots id me word (λ n. (n + (2 ^ 64 - 2)) % 2 ^ 64) (releases root')
        (step slots word 2 0 none)
        (subst (λ (y : Layout × ℕ × RootId). Allows (IsSound stands y.0) y.1 id me word
        (λ n. (n + (2 ^ 64 - 2)) % 2 ^ 64) (releases y.2 (step y.1 word 2 0 none) me))
        (λ q. (sym ke q, sym se q, sym re q))
        (at_root id me root.place word (λ n. (n + (2 ^ 64 - 2)) % 2 ^ 64)
        (releases root (step (slots_of l.shape) word 2 0 none) me) (counted_fits has) is
        (λ lt. releases_allowed stands l id me root lt has out)))

    pub vacates_as : HasToken root me.0 → HasEnded root me.0
        → Allows (IsSound stands key) slots id me word (λ n. (n + 1) % 2 ^ 64)
        (counts_one (vacates root') (step slots word 1 0 none) me)
    vacates_as has ended =
        one_allowed stands key slots id me word (λ n. (n + 1) % 2 ^ 64) (vacates root') (step slots word 1 0 none)
        (subst (λ (y : Layout × ℕ × RootId). Allows (IsSound stands y.0) y.1 id me word (λ n. (n + 1) % 2 ^ 64)
        (vacates y.2 (step y.1 word 1 0 none) me)) (λ q. (sym ke q, sym se q, sym re q))
        (at_root id me root.place word (λ n. (n + 1) % 2 ^ 64) (vacates root (step (slots_of l.shape) word 1 0 none) me)
        (λ s r at. born_place stands l s r root (token_born stands l s r id me.0 at root has)) is
        (λ lt. vacates_allowed stands l id me root lt has ended out)))

    pub births_as : 0 < l.shape.handles → InHand root.place me.0
        → (q : RootId) × (q.place ≡ root.place) × (q.capacity ≡ root.capacity) × Waits q me.0
        × (q.generation < 4294967296) → Allows (IsSound stands key) slots id me word (λ n. (n + 4294967297) % 2 ^ 64)
        (counts_one (births root') (step slots word 4294967297 0 none) me)
    births_as some_handle has waits =
        one_allowed stands key slots id me word (λ n. (n + 4294967297) % 2 ^ 64) (births root')
        (step slots word 4294967297 0 none)
        (subst (λ (y : Layout × ℕ × RootId). Allows (IsSound stands y.0) y.1 id me word (λ n. (n + 4294967297) % 2 ^ 64)
        (births y.2 (step y.1 word 4294967297 0 none) me)) (λ q. (sym ke q, sym se q, sym re q))
        (at_root id me root.place word (λ n. (n + 4294967297) % 2 ^ 64)
        (births root (step (slots_of l.shape) word 4294967297 0 none) me)
        (λ s r at. hand_place stands l some_handle s r id root.place me.0 at has) is
        (λ lt. births_allowed stands l id me root lt has waits
        (λ s r lt g at less. next_birth stands l s r id root.place g me.0 lt at less) out)))

-- ---- Letters.
module _ {H : Type 0} (stands : List ℕ → Setting → List Noted → H → Type 0) (l key : Layout) (ke : key ≡ l) where
  pub sends_as : (to to' : ℕ) (parcel parcel' : Parcel) (id : ℕ) (v : SeatView) → to' ≡ to → parcel' ≡ parcel
      → v.inside ≡ None → MaySend l.shape v to parcel
      → Splits (IsSound stands key) id v (sends_next to' parcel' v) (letter_beside to' parcel' v)
  sends_as to to' parcel parcel' id v te pe out may =
      subst (λ (y : Layout × ℕ × Parcel). Splits (IsSound stands y.0) id v (sends_next y.1 y.2 v)
      (letter_beside y.1 y.2 v)) (λ i. (sym ke i, sym te i, sym pe i))
      (sends_allowed stands l v (next_letter to parcel v) out
      (may.number ∙ ap (λ (o : Option ℕ). Some (lane_of o)) (sym may.number)) may.receiver may.counts may.reaches
      refl id)

  pub receives_as : (id other : ℕ) (v w : SeatView) → v.inside ≡ None → MayReceive v w
      → Joins (IsSound stands key) id v other w (receives_with v w) (blank None)
  receives_as id other v w out may =
      subst (λ (y : Layout × SeatView). Joins (IsSound stands y.0) id v other y.1 (receives_with v y.1) (blank None))
      (λ i. (sym ke i, sym may.alone i))
      (receives_allowed stands l v w.setting may.letter out may.lane may.next id other)

  -- nothing changes, at the first word
  pub stays_as : (l' : Layout) (slots word id : ℕ) (me : Me (Option H) SeatView) → l' ≡ l → slots ≡ slots_of l.shape
      → Allows (IsSound stands key) slots id me word (λ n. n) (counts_one (stays l') (step slots word 0 0 none) me)
  stays_as l' slots word id me le se =
      one_allowed stands key slots id me word (λ n. n) (stays l') (step slots word 0 0 none)
      (subst (λ (y : Layout × Layout). Allows (IsSound stands y.0) slots id me word (λ n. n)
      (stays y.1 (step slots word 0 0 none) me)) (λ i. (sym ke i, sym le i))
      (λ s r wide at under. (
        me.0,
        keeps,
        tt,
        stays_sound stands l id word (slice_index s.words word) me.0 s r at refl,
        (
          refl,
          record {
            counted = counted_of stands l s r id me.0 at;
            placed = λ q has. born_place stands l s r q (count_born stands l s r id me.0 at q has);
          },
        ),
      )))
