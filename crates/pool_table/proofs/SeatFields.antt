-- That a seat's number, its first letter and its counts are those of its view, after each kind of step.
use Rattle.step_law.specs.Settings.{Setting}
use Rattle.std.proofs.Common.{◌≡◌, ℕ, ◌+◌, ◌-◌, ◌*◌, ◌/◌, ◌%◌, ◌<◌, ◌≤◌, List, [], ◌∷◌, ◌++◌, length, set, sym, refl, ap, ◌∙◌, subst, arith}
use Rattle.std.specs.Prelude.{Option, Some, None, is_some, IfSome, Bool, true, false, MatchBool, slice_index}
use mathlib.Core.Logic.{dite}
use native.Mathlib.Decide.{ℕ_discrete}
use Rattle.atomic_table.specs.Table.{Me, Step, rest}
use Rattle.pool_law.specs.declared.id.Parcel.{Parcel}
use Rattle.pool_law.specs.declared.id.RootId.{RootId}
use Rattle.pool_law.specs.declared.id.ViewData.{ViewData}
use Rattle.pool_law.specs.declared.note.Did.TheVariants.{Fetch}
use Rattle.pool_law.specs.declared.note.Noted.{Noted}
use Rattle.pool_law.specs.declared.note.Object.{Object}
use Rattle.pool_law.specs.declared.note.Object.TheVariants.{Arena, Cache, Bin, Mail, Root}
use Rattle.pool_law.specs.declared.note.RefDid.{RefDid}
use Rattle.pool_law.specs.declared.note.RefDid.TheVariants.{Born, Kept, Ended}
use Rattle.pool_law.specs.declared.run.Shape.{Shape}
use Rattle.pool_law.specs.Homes.{IsObjectOf}
use Rattle.pool_law.specs.Naming.{noted_by}
use Rattle.pool_table.specs.declared.views.Entry.{Entry}
use Rattle.pool_table.specs.declared.views.Entry.TheVariants.{At}
use Rattle.pool_table.specs.declared.views.Inside.{Inside}
use Rattle.pool_table.specs.declared.views.Layout.{Layout}
use Rattle.pool_table.specs.declared.views.Letter.{Letter}
use Rattle.pool_table.specs.declared.views.SeatView.{SeatView}
use Rattle.pool_table.specs.Counts.{with_ref, HasCount}
use Rattle.pool_table.specs.Letters.{first_letter, letter_sent, sent_on, next_letter, lane_of, sends, receives, receives_first, by_lane, fetch_of}
use Rattle.pool_table.specs.Learned.{KnowsCounts}
use Rattle.pool_table.specs.Mailing.{MaySend, MayReceive, HoldsParcel}
use Rattle.pool_table.specs.SeatFields.{IsSeatWith}
use Rattle.pool_table.specs.Steps.{claims, marks_claims, dones, idles, births, releases, receives_with}
use Rattle.pool_table.specs.Views.{after_leaving, with_entry}
use Rattle.pool_table.proofs.Counting.{counts_entry, counts_ref, counts_sent}
use Rattle.pool_table.proofs.After.{after_fetch}
use Rattle.pool_table.proofs.Calls.{got_in}

-- the note of an object with a word sends no letter
pub no_letter_at : (s : Shape) (o : Object) (k : ℕ) (n : Noted) → IsObjectOf s o → letter_sent (At o k n) ≡ None
no_letter_at s (Arena a) k n fits = refl
no_letter_at s (Cache l c) k n fits = refl
no_letter_at s (Bin l) k n fits = refl
no_letter_at s (Mail a b) k n fits = absurd fits
no_letter_at s (Root p) k n fits = refl

-- the first letter of two views' letters
pub first_added : (xs ys : List Letter) (o : Option Letter) → first_letter xs ≡ o → is_some o ≡ false
    → first_letter (xs ++ ys) ≡ first_letter ys
first_added [] ys o is none = refl
first_added (x ∷ xs) ys o is none =
    let e : true ≡ false = ap (λ (o : Option Letter). is_some o) is ∙ none in absurd (cc e)

pub first_kept : (xs ys : List Letter) (o : Option Letter) → first_letter xs ≡ o → is_some o ≡ true
    → first_letter (xs ++ ys) ≡ first_letter xs
first_kept [] ys o is some =
    let e : false ≡ true = ap (λ (o : Option Letter). is_some o) is ∙ some in absurd (cc e)
first_kept (x ∷ xs) ys o is some = refl

-- the letter that is received is the first
pub first_received : (v : SeatView) (xs : List Letter) (x : Letter) → first_letter xs ≡ Some x
    → receives_first v xs ≡ receives v x
first_received v [] x is = absurd (cc is)
first_received v (y ∷ ys) x is = let e : y ≡ x = cc is in ap (λ (z : Letter). receives v z) e

-- a parcel that was received is counted
pub parcel_held : (l : Layout) (v u : SeatView) (x : Letter) → KnowsCounts l v → KnowsCounts l u → u ≡ receives v x
    → HoldsParcel l.shape x.parcel u
parcel_held l v u x before after is = by x.parcel.view refl
  where
    by : (o : Option ViewData) → x.parcel.view ≡ o
        → IfSome o (λ w. HasCount w.root u × (w.root.place < l.shape.lanes * l.shape.handles))
    by None e = tt
    by (Some w) e = let has : HasCount w.root u = subst (HasCount w.root) (sym is)
        (after_fetch v (Mail x.from x.to) x.number (by_lane x.to (Fetch x.parcel)) v.turns x.parcel w refl e
        (before.counted w.root)) in (has, after.placed w.root has)

module _ (number : Option ℕ) (letter : Option Letter) (counts : List ℕ) where
  abbrev pub Fits : SeatView → Type 0
  Fits v = IsSeatWith number letter counts v

  pub fits_as : (v w : SeatView) → w ≡ v → Fits v → Fits w
  fits_as v w is old = subst Fits (sym is) old

  pub fits_ref : (v : SeatView) (r : RootId) (d : RefDid) (moves : ℕ) → Fits v → Fits (with_ref v r d moves)
  fits_ref v r d moves old = record {
    numbered = old.numbered;
    lettered = old.lettered;
    counted = counts_ref v r d moves counts old.counted;
  }

  pub fits_entry : (v : SeatView) (e : Entry) (turns : ℕ) → letter_sent e ≡ None → Fits v → Fits (with_entry v e turns)
  fits_entry v e turns none old = record {
    numbered = old.numbered;
    lettered = old.lettered;
    counted = counts_entry v e turns counts none old.counted;
  }

  -- a letter is sent, and received
  pub fits_sends : (s : Shape) (v : SeatView) (to : ℕ) (parcel : Parcel) → s.lanes ≤ 16 → MaySend s v to parcel → Fits v
      → IsSeatWith number letter (set counts to (next_letter to parcel v).number) (sends v (next_letter to parcel v))
  fits_sends s v to parcel few may old =
      let within = may.receiver in record {
        numbered = old.numbered;
        lettered = old.lettered;
        counted =
            counts_sent v (next_letter to parcel v) counts
            (may.number ∙ ap (λ (o : Option ℕ). Some (lane_of o)) (sym may.number)) (omega (arith, within, few)) refl
            old.counted;
      }

  pub fits_receives : (v w : SeatView) → MayReceive v w → Fits v → Fits (receives_with v w)
  fits_receives v w may old =
      subst (λ (w : SeatView). Fits (receives_with v w)) (sym may.alone)
      (fits_entry v (fetch_of may.letter) v.turns refl old)

  -- how many letters were sent to a lane
  pub sent_count : (s : Shape) (v : SeatView) (to : ℕ) (parcel : Parcel) → s.lanes ≤ 16 → MaySend s v to parcel → Fits v
      → (to < length counts) × (slice_index counts to + 1 ≡ (next_letter to parcel v).number)
      × (slice_index counts to < 4611686018427387904)
  sent_count s v to parcel few may old =
      let within = may.receiver in let below = may.few in let n = old.counted may.lane to may.number in
      let long : length counts ≡ 16 = n.0 in let lt : to < 16 = omega (arith, within, few) in let is = n.1 lt in
      let lane_is : lane_of v.own.number ≡ may.lane = ap lane_of may.number in (
        omega (arith, long, lt),
        ap (λ (n : ℕ). n + 1) is ∙ ap (λ (m : ℕ). sent_on m to v.own.notes + 1) (sym lane_is),
        omega (arith, is, below),
      )

  module _ {H : Type 0} where
    pub fits_births : (r : RootId) (s : Step (Option H)) (me after : Me (Option H) SeatView) (found : ℕ)
        → births r s me found after → Fits me.0 → Fits after.0
    fits_births r s me after found told old =
        let root : RootId =
        record { place = r.place; generation = found / 4294967296 + 1; capacity = r.capacity } in
        fits_as (with_ref me.0 root Born me.0.moves) after.0 (ap (λ m. m.0) told.1)
        (fits_ref me.0 root Born me.0.moves old)

    pub fits_releases : (r : RootId) (s : Step (Option H)) (me after : Me (Option H) SeatView) (found : ℕ)
        → releases r s me found after → Fits me.0 → Fits after.0
    fits_releases r s me after found told old = dite (ℕ_discrete (found % 4294967296) 2)
        (λ last. fits_as (with_ref me.0 r Ended me.0.moves) after.0 (ap (λ m. m.0) (told.0 last).0)
        (fits_ref me.0 r Ended me.0.moves old))
        (λ more. fits_as (with_ref me.0 r Kept (me.0.moves + 1)) after.0 (ap (λ m. m.0) (told.1 more))
        (fits_ref me.0 r Kept (me.0.moves + 1) old))

    -- a section ends with a note, or with none
    pub fits_dones : (shape : Shape) (o : Object) (n : ℕ) (h : List Noted) (note : Noted) (s : Step (Option H))
        (me after : Me (Option H) SeatView) (found : ℕ) → IsObjectOf shape o
        → me.0.inside ≡ Some (record { object = o; number = n; history = h }) → dones note s me found after
        → Fits me.0 → Fits after.0
    fits_dones shape o n h note s me after found fits inside told old =
        let x : Inside = record { object = o; number = n; history = h } in
        let e : Entry = At o (n + 1) (noted_by me.0.own.number note) in
        let t = subst (λ (i : Option Inside). IfSome i (λ (x : Inside). (found ≡ 2 * x.number + 1)
        × (after.0 ≡ with_entry me.0 (At x.object (x.number + 1) (noted_by me.0.own.number note)) (me.0.turns - 1))
        × (after.1 ≡ rest me.1))) inside told in
        fits_as (with_entry me.0 e (me.0.turns - 1)) after.0 t.1
        (fits_entry me.0 e (me.0.turns - 1) (no_letter_at shape o (n + 1) (noted_by me.0.own.number note) fits) old)

    pub fits_idles : (x : Inside) (s : Step (Option H)) (me after : Me (Option H) SeatView) (found : ℕ)
        → me.0.inside ≡ Some x → idles s me found after → Fits me.0 → Fits after.0
    fits_idles x s me after found inside told old =
        let t = subst (λ (i : Option Inside). IfSome i (λ (x : Inside). (found ≡ 2 * x.number + 1)
        × (after.0 ≡ after_leaving me.0) × (after.1 ≡ rest me.1))) inside told in
        fits_as (after_leaving me.0) after.0 t.1
        (record { numbered = old.numbered; lettered = old.lettered; counted = old.counted })

    -- a claim got in, or found another seat there
    module _ (stands : List ℕ → Setting → List Noted → H → Type 0) (l : Layout) (o : Object) where
      pub fits_claims : (mark : Bool) (s : Step (Option H)) (me after : Me (Option H) SeatView) (found : ℕ)
          → MatchBool mark (marks_claims stands l o s me found after) (claims stands l o s me found after) → Fits me.0
          → Fits after.0
      fits_claims mark s me after found told old = dite (ℕ_discrete (found % 2) 1) (λ odd. held mark told odd)
          (λ even. let g = got_in stands l o mark s me found after told even in
          fits_as _ after.0 g.3 (record { numbered = old.numbered; lettered = old.lettered; counted = old.counted }))
        where
          held : (mark : Bool) → MatchBool mark (marks_claims stands l o s me found after)
              (claims stands l o s me found after) → found % 2 ≡ 1 → Fits after.0
          held true told odd = fits_as _ after.0 (told.1 odd).0 (fits_entry me.0 _ me.0.turns refl old)
          held false told odd = fits_as me.0 after.0 (told.1 odd).0 old
