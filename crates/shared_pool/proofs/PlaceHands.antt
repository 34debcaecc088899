-- Root places in a seat's hands: what a pop of a bin takes up, and what is put into one.
use Rattle.std.proofs.Common.{◌≡◌, ℕ, ◌+◌, ◌*◌, ◌/◌, ◌<◌, ◌≤◌, List, [], ◌∷◌, ◌++◌, length, Bool, true, false, cond, eqb, sym, refl, ap, ◌∙◌, subst, arith, eqb-true, eq-eqb}
use Rattle.std.proofs.Math.Nat.{div-lt_iff_lt-mul}
use Rattle.std.specs.Prelude.{Option, Some, None, IfSome, IsTrue, is_some, option_and_then, if◌then◌else◌, count_by, ◌||◌, ◌&&◌}
use Rattle.std.proofs.lemmas.List.Sums.{sum_by-cons}
use mathlib.Core.Logic.{dite}
use native.Mathlib.Decide.{dec_le}
use Rattle.pool_law.specs.declared.run.Shape.{Shape}
use Rattle.pool_law.specs.declared.note.Did.{Did}
use Rattle.pool_law.specs.declared.note.Did.TheVariants.{Handle, Home as CameHome}
use Rattle.pool_law.specs.declared.note.Noted.{Noted}
use Rattle.pool_law.specs.declared.note.Object.{Object}
use Rattle.pool_law.specs.declared.note.Object.TheVariants.{Bin as BinOf}
use Rattle.pool_law.specs.Caches.{new_bin, bin_step, has_place, front_taken}
use Rattle.pool_law.proofs.HistoryLemmas.{after-noted}
use Rattle.pool_law.proofs.SameLemmas.{and-first, and-second}
use Rattle.history_laws.specs.Histories.{IsLawful, IsBinAfter}
use Rattle.history_laws.specs.NoteCounts.{did_handle, did_home, did_birth}
use Rattle.history_laws.proofs.Told.{bin_there}
use Rattle.handle_bin.specs.Bins.{HandleValue, IsHomeless, is_of, places_in}
use Rattle.pool_table.specs.declared.views.Entry.TheVariants.{At}
use Rattle.pool_table.specs.declared.views.Layout.{Layout}
use Rattle.pool_table.specs.declared.views.SeatView.{SeatView}
use Rattle.pool_table.specs.Views.{with_entry, entered}
use Rattle.pool_table.specs.Counts.{on_place, ref_born, ref_vacated}
use Rattle.pool_table.specs.Hands.{at_in, at_out, at_birth, taken, put_down, InHand, NoneWaits, IsOrderly, PutsDown}
use Rattle.pool_table.specs.Learned.{Enters}
use Rattle.pool_table.proofs.Weights.{weigh_entry}
use Rattle.step_law.specs.Settings.{Setting}
use Rattle.step_law.specs.declared.Told.{Ghosts}
use Rattle.pool_table.specs.declared.table.PoolSeat.{PoolSeat as TableSeat}
use Rattle.pool_table.specs.declared.table.Section.{Section}
use Rattle.pool_table.specs.Seats.{view_of}
use Rattle.pool_table.specs.Sections.{GotSection}
use Rattle.shared_pool.specs.declared.home.Home.{Home}
use Rattle.shared_pool.specs.declared.pool.SharedPool.{SharedPool}
use Rattle.shared_pool.specs.declared.seat.PoolSeat.{PoolSeat}
use Rattle.shared_pool.specs.SeatViews.{view_of as seat_view}
use Rattle.shared_pool.specs.Holding.{HoldsHandle}
use Rattle.shared_pool.specs.Notes.{popped}
use Rattle.shared_pool.specs.Standing.{HomeStands, IsBin, IfBin}
use Rattle.shared_pool.proofs.Endings.{stood}
use Rattle.shared_pool.proofs.BinHomes.{bin_is, bin_has}

-- ---- A place that was popped.

one_of : (p : ℕ) → did_handle p (Handle p) ≡ 1
one_of p = ap (λ (b : Bool). cond {A = ℕ} b 1 0) (eq-eqb p p refl)

module _ (v : SeatView) (p number turns : ℕ) (o : Object) (n : Noted) (did : n.did ≡ Handle p) where
  abbrev w : SeatView
  w = with_entry v (At o number n) turns

  -- the place is in hand after the note of its pop
  pub taken_up : put_down p v ≤ taken p v → InHand p w
  taken_up handy =
      let a = weigh_entry (at_in p) v (At o number n) turns in let b = weigh_entry (at_out p) v (At o number n) turns in
      let c = weigh_entry (on_place ref_born p) v (At o number n) turns in let d =
      weigh_entry (on_place ref_vacated p) v (At o number n) turns in
      let one : did_handle p n.did ≡ 1 = ap (did_handle p) did
      ∙ one_of p in let none : did_home p n.did ≡ 0 = ap (did_home p) did in
      omega (arith, a, b, c, d, one, none, handy)

  -- and no birth waits there, where the place wasn't in hand before
  pub waits_not : IsOrderly v → (InHand p v → ⊥) → NoneWaits p w
  waits_not roots away =
      let a = weigh_entry (at_birth p) v (At o number n) turns in let c =
      weigh_entry (on_place ref_born p) v (At o number n) turns in
      let none : did_birth p n.did ≡ 0 = ap (did_birth p) did in let bears = roots.bears p in
      dite (dec_le (taken p v) (put_down p v))
      (λ le. omega (arith, a, c, none, bears, le))
      (λ gt. absurd (away (omega (arith, gt))))

-- ---- A place that comes home.

-- a place in hand may come home from a section, where no birth waits there
pub comes_home_inside : (w v : SeatView) (o : Object) (h : List Noted) (p : ℕ) (d : Did) → w ≡ entered v o h (length h)
    → d ≡ CameHome p → InHand p v → NoneWaits p v → PutsDown w d
comes_home_inside w v o h p d is did has waits =
    subst (λ (x : SeatView × Did). PutsDown x.0 x.1) (λ i. (sym is i, sym did i)) (has, waits)

-- ---- A place that isn't counted in a list.

missing : (p : ℕ) (m : List ℕ) → count_by (λ (x : ℕ). eqb x p) m ≡ 0 → has_place p m ≡ false
missing p [] none = refl
missing p (x ∷ xs) none = one (eqb x p) (sum_by-cons (λ (y : ℕ). cond {A = ℕ} (eqb y p) 1 0) x xs) (missing p xs)
  where
    one : (b : Bool) → count_by (λ (y : ℕ). eqb y p) (x ∷ xs) ≡ cond {A = ℕ} b 1 0 + count_by (λ (y : ℕ). eqb y p) xs
        → (count_by (λ (x : ℕ). eqb x p) xs ≡ 0 → has_place p xs ≡ false) → (b || has_place p xs) ≡ false
    one true sum rest = absurd (omega (arith, sum, none))
    one false sum rest = rest (omega (arith, sum, none))

-- ---- A handle of a lane.

own_of : (lane handles : ℕ) (x : HandleValue) → x.lane ≡ lane → x.place / handles ≡ lane → IsTrue (is_of lane handles x)
own_of lane handles x a b =
    both (eqb x.lane lane) (eqb (x.place / handles) lane) (eq-eqb x.lane lane a) (eq-eqb (x.place / handles) lane b)
  where
    both : (m n : Bool) → m ≡ true → n ≡ true → IsTrue (m && n)
    both true true x y = refl
    both true false x y = y
    both false n x y = absurd (cc x)

-- ---- The bin of a section.

module _ (l : Layout) (lane : ℕ) (v : SeatView) (h : List Noted) (home : Home)
    (e : Enters HomeStands l (BinOf lane) v h home) where
  -- a place of the lane is one of the shape's
  pub within : (p : ℕ) → lane < l.shape.lanes → 0 < l.shape.handles → p / l.shape.handles ≡ lane
      → p < l.shape.lanes * l.shape.handles
  within p lt some is =
      (div-lt_iff_lt-mul {k = l.shape.handles} {x = p} {y = l.shape.lanes} some).0
      (subst (λ (k : ℕ). k < l.shape.lanes) (sym is) lt)

  abbrev front : ℕ → List ℕ → Option (List ℕ)
  front p m = front_taken (λ (q : ℕ). eqb q p) m

  front_there : (p : ℕ) (m : List ℕ) → IsTrue (is_some (front p m)) → 0 < count_by (λ (x : ℕ). eqb x p) m
  front_there p [] is = absurd (cc is)
  front_there p (x ∷ xs) is = one (eqb x p) is (sum_by-cons (λ (y : ℕ). cond {A = ℕ} (eqb y p) 1 0) x xs)
    where
      one : (b : Bool) → IsTrue (is_some (if b then Some xs else None))
          → count_by (λ (y : ℕ). eqb y p) (x ∷ xs) ≡ cond {A = ℕ} b 1 0 + count_by (λ (y : ℕ). eqb y p) xs
          → 0 < count_by (λ (y : ℕ). eqb y p) (x ∷ xs)
      one true is sum = omega (arith, sum)
      one false is sum = absurd (cc is)

  -- a place that may be popped isn't in hand
  pub popped_away : (n : Noted) (p : ℕ) → n.did ≡ Handle p → IsLawful l.shape (BinOf lane) (h ++ n ∷ []) → InHand p v
      → ⊥
  popped_away n p did follows has =
      let m = bin_there l.shape lane h e.accepted in
      let step : List ℕ → Did → Option (List ℕ) = bin_step lane l.shape.handles in
      let next = after-noted step (new_bin lane l.shape.handles) h n
      ∙ ap (option_and_then (λ places. step places n.did)) m.1 ∙ ap (step m.0) did in
      let there = front_there p m.0 (subst (λ o. IsTrue (is_some o)) next follows.accepted) in
      let none = e.bin lane p m.0 refl m.1 has in omega (arith, there, none)

  -- a place in hand isn't in the bin
  pub away : (m : List ℕ) (p : ℕ) → IsBinAfter l.shape lane h m → InHand p v → has_place p m ≡ false
  away m p after has = missing p m (e.bin lane p m refl after has)

-- ---- What a seat holds after a pop, and may put down.

-- a handle of the lane whose place is in hand may be put into the bin
module _ {G : Ghosts Home Noted} (l : Layout) (lane : ℕ) (old new : TableSeat Home G) (section : Section Home)
    (got : GotSection HomeStands l (BinOf lane) old new section) (setting : Setting)
    (known : (view_of old).setting ≡ Some setting) where
  pub homeless : (x : HandleValue) → IsBin section.home → x.lane ≡ lane → x.lane ≡ x.place / l.shape.handles
      → InHand x.place (view_of old) → IfBin section.home (λ b. IsHomeless b x)
  homeless x bin lane_is place_is has =
      let at = stood l (BinOf lane) old new section got setting known in
      bin_has l.shape setting lane got.history section.home (λ b. IsHomeless b x) at bin (λ b of many after. record {
        own =
            subst (λ (m : ℕ × ℕ). IsTrue (is_of m.0 m.1 x)) (λ i. (sym of i, sym many i))
            (own_of lane l.shape.handles x lane_is (sym place_is ∙ lane_is));
        away = away l lane (view_of old) got.history section.home got.learned (places_in b.ready) x.place after has;
      })

module _ {G : Ghosts Home Noted} (pool : SharedPool) (lane : ℕ) (old new : TableSeat Home G) (last : PoolSeat)
    (section : Section Home) (got : GotSection HomeStands pool.table.layout (BinOf lane) old new section)
    (setting : Setting) (known : (view_of old).setting ≡ Some setting) where
  abbrev s : Shape
  s = pool.table.layout.shape

  pub popped_held : (number turns : ℕ) (n : Noted) (r : Option HandleValue) → n.did ≡ popped r → lane < s.lanes
      → IsLawful s (BinOf lane) (got.history ++ n ∷ []) → IsBin section.home →
      IfSome r (λ h. IfBin section.home (λ b. IsTrue (is_of b.lane b.handles h)))
      → IfBin section.home (λ b. 0 < b.handles) →
      seat_view last ≡ with_entry (view_of old) (At (BinOf lane) number n) turns →
      IfSome r (λ h. HoldsHandle pool last h × (h.lane ≡ lane))
  popped_held number turns n None did lt follows bin own some seen = tt
  popped_held number turns n (Some x) did lt follows bin own some seen =
      let l = pool.table.layout in let v = view_of old in
      let at = stood l (BinOf lane) old new section got setting known in
      let of : is_of lane s.handles x ≡ true = bin_is s setting lane got.history section.home
      (λ a b. IsTrue (is_of a b x)) at bin own in
      let some : 0 < s.handles = bin_is s setting lane got.history section.home (λ a b. 0 < b) at bin some in
      let lane_is : x.lane ≡ lane = eqb-true x.lane lane
      (and-first (eqb x.lane lane) (eqb (x.place / s.handles) lane) of) in
      let place_is : x.place / s.handles ≡ lane = eqb-true (x.place / s.handles) lane
      (and-second (eqb x.lane lane) (eqb (x.place / s.handles) lane) of) in
      let lt : x.place < s.lanes * s.handles = within l lane v got.history section.home got.learned x.place lt some
      place_is in
      let fine = got.learned.view in
      let away : InHand x.place v → ⊥ = popped_away l lane v got.history section.home got.learned n x.place did
      follows in (
        record {
          hand =
              subst (InHand x.place) (sym seen)
              (taken_up v x.place number turns (BinOf lane) n did (fine.handy x.place));
          waits =
              subst (NoneWaits x.place) (sym seen)
              (waits_not v x.place number turns (BinOf lane) n did fine.roots away);
          lane = lane_is ∙ sym place_is;
          place = lt;
        },
        lane_is,
      )
