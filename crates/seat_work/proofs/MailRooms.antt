-- The room of a pool's mails, by the rooms with which it opened.
use Rattle.std.proofs.Common.{◌≡◌, ℕ, ◌+◌, ◌*◌, List, length, get_or, Some, sym, ap, ◌∙◌, arith}
use Rattle.std.specs.Prelude.{slice_get}
use Rattle.std.proofs.lemmas.List.{get_or-map, length-map}
use Rattle.std.proofs.lemmas.Option.{get_or_from_slice_get, slice_get_within}
use Rattle.shared_pool.specs.declared.mail.Mail.{Mail}
use Rattle.shared_pool.specs.declared.pool.SharedPool.{SharedPool}
use Rattle.shared_pool.specs.Mails.{AtMail}
use Rattle.shared_pool.specs.Opening.{HasRooms}

-- the mail between two lanes has the room that stands at its place
pub room_at : (pool : SharedPool) (mail : List ℕ) (from to room : ℕ) → HasRooms pool mail
    → slice_get mail (from * pool.table.layout.shape.lanes + to) ≡ Some room → AtMail pool from to (λ m. m.room ≡ room)
room_at pool mail from to room rooms stands d =
    let items = pool.mails.items in let at : ℕ = from * pool.table.layout.shape.lanes + to in
    let within = slice_get_within mail at room stands in
    let many : length items ≡ length mail = sym (length-map items (λ (m : Mail). m.room))
    ∙ ap (λ (rs : List ℕ). length rs) rooms in
    sym (get_or-map (λ (m : Mail). m.room) items at d d.room (omega (arith, many, within)))
    ∙ ap (λ (rs : List ℕ). get_or rs at d.room) rooms ∙ get_or_from_slice_get mail at room d.room stands
