-- The mails of a new pool have the room that was asked for.
use Rattle.std.proofs.Common.{◌≡◌, ℕ, ◌+◌, ◌*◌, ◌<◌, ◌≤◌, List, length, take, get_or, sym, ap, ◌∙◌, subst, arith}
use mathlib.Core.Logic.{dite}
use native.Mathlib.Decide.{ℕ_discrete}
use Rattle.std.specs.Prelude.{slice_index, slice_set}
use Rattle.std.proofs.Math.Nat.{mul-le-mul}
use Rattle.std.proofs.lemmas.List.{get_or-map, get_or-set_other, get_or-set_same, get_or-take, length-set}
use Rattle.pool_table.specs.declared.views.Layout.{Layout}
use Rattle.shared_pool.specs.declared.mail.Mail.{Mail}
use Rattle.shared_pool.specs.declared.pool.SharedPool.{SharedPool}
use Rattle.shared_pool.specs.declared.seat.PoolSeat.{PoolSeat}
use Rattle.shared_pool.specs.Opening.{AreOpened}
use Rattle.frame_cut.specs.Openings.{IsNewPool, layout_of}

-- a place in the last row of a square
last_row : (w to : ℕ) → to < w → w * (w + 1) + to < (w + 1) * (w + 1)
last_row w to lt = grind arith

few_square : (w : ℕ) → w < 16 → w * (w + 1) ≤ 240
few_square w lt =
    let a : w ≤ 15 = omega (arith, lt) in let b : w + 1 ≤ 16 = omega (arith, lt) in
    let e : w * (w + 1) ≤ 15 * 16 = mul-le-mul a b in e

pub few_rooms : (w to : ℕ) → to < w → w < 16 → w * (w + 1) + to < 256
few_rooms w to lt few = let a = few_square w few in omega (arith, a, lt, few)

-- a mail more has room
pub mail_more : (mail : List ℕ) (own to v most : ℕ) → length mail ≡ most → own + to < most
    → ((k : ℕ) → k < to → slice_index mail (own + k) ≡ v)
    → (length (slice_set mail (own + to) v) ≡ most)
    × ((k : ℕ) → k < to + 1 → slice_index (slice_set mail (own + to) v) (own + k) ≡ v)
mail_more mail own to v most many low asked = (
  length-set mail (own + to) v ∙ many,
  λ k lt.
      dite (ℕ_discrete k to)
      (λ same. (let e : own + k ≡ own + to = omega (arith, same) in
      ap (λ (j : ℕ). slice_index (slice_set mail (own + to) v) j) e
      ∙ get_or-set_same mail (own + to) v 0 (omega (arith, many, low))))
      (λ other. get_or-set_other mail (own + to) (own + k) v 0 (λ e. other (omega (arith, e)))
      ∙ asked k (omega (arith, lt, other))),
)

module _ (workers room : ℕ) (mail : List ℕ) (pool : SharedPool) (seats : List PoolSeat)
    (layout : pool.layout ≡ layout_of (workers + 1)) (used : ℕ) (used_is : used ≡ (workers + 1) * (workers + 1))
    (opened : AreOpened (layout_of (workers + 1)) (take used mail) pool seats)
    (asked : (to : ℕ) → to < workers → slice_index mail (workers * (workers + 1) + to) ≡ room) where
  lanes : pool.layout.shape.lanes ≡ workers + 1
  lanes = ap (λ (l : Layout). l.shape.lanes) layout

  mails_many : length pool.mails.items ≡ (workers + 1) * (workers + 1)
  mails_many = pool.many ∙ (λ i. lanes i * lanes i)

  room_at : (to : ℕ) → to < workers → (d : Mail)
      → (get_or pool.mails.items (workers * (workers + 1) + to) d).room ≡ room
  room_at to lt d =
      let k = workers * (workers + 1) + to in
      let low = last_row workers to lt in
      let inside : k < length pool.mails.items = (let a = mails_many in omega (arith, a, low)) in
      sym (get_or-map (λ (m : Mail). m.room) pool.mails.items k d 0 inside)
      ∙ ap (λ (rs : List ℕ). get_or rs k 0) opened.rooms
      ∙ get_or-take used mail k 0 (omega (arith, used_is, low))
      ∙ asked to lt

  pub is_new_pool : IsNewPool workers room pool seats
  is_new_pool = record {
    layout = layout;
    mail = take used mail;
    opened = opened;
    rooms = λ to lt d.
        (let e : pool.table.layout.shape.lanes ≡ workers + 1 =
        ap (λ (l : Layout). l.shape.lanes) (pool.same_layout ∙ layout) in
        let r = room_at to lt d in
        subst (λ (n : ℕ). room ≤ (get_or pool.mails.items (workers * n + to) d).room) (sym e)
        (omega (arith, r)));
  }
