-- What a seat knows of the capacities of roots, once it has noted one entry more.
use Rattle.std.proofs.Common.{◌≡◌, ℕ, ◌+◌, ◌≤◌, Bool, List, [], ◌∷◌, ◌++◌, max, sym, ap, ◌∙◌, subst, arith}
use Rattle.std.specs.Prelude.{Option, Some, None, IfSome, if◌then◌else◌}
use Rattle.std.proofs.lemmas.List.{map-append}
use Rattle.pool_law.specs.declared.id.Parcel.{Parcel}
use Rattle.pool_law.specs.declared.id.RootId.{RootId}
use Rattle.pool_law.specs.declared.id.ViewData.{ViewData}
use Rattle.pool_law.specs.declared.note.Did.{Did}
use Rattle.pool_law.specs.declared.note.Object.{Object}
use Rattle.pool_law.specs.declared.note.Object.TheVariants.{Mail}
use Rattle.pool_law.specs.Capacities.{told_by, known_of}
use Rattle.pool_law.specs.Logs.{ToldNote}
use Rattle.pool_law.specs.Naming.{noted_by}
use Rattle.pool_law.proofs.PatternLemmas.{same_root-refl}
use Rattle.pool_table.specs.declared.views.Entry.{Entry}
use Rattle.pool_table.specs.declared.views.Entry.TheVariants.{At}
use Rattle.pool_table.specs.declared.views.SeatView.{SeatView}
use Rattle.pool_table.specs.Capacities.{knows_of}
use Rattle.pool_table.specs.LaneLogs.{law_entry, lane_entries}
use Rattle.pool_table.specs.Views.{with_entry}
use Rattle.shared_pool.specs.Knowing.{ReachesKnown}
use Rattle.shared_pool.specs.MailAnswers.{IsFetched}
use Rattle.shared_pool.specs.Notes.{plain}
use Rattle.shared_pool.specs.SeatLanes.{lane_of}
use Rattle.shared_pool.specs.SeatViews.{view_of}
use Rattle.shared_pool.specs.declared.seat.PoolSeat.{PoolSeat}

pub regroup : (a k t : ℕ) → max a (max k t) ≡ max (max a k) t
regroup a k t = omega arith

turn : (t : ℕ) → max t 0 ≡ max 0 t
turn t = omega arith

known-push : (r : RootId) (es : List ToldNote) (e : ToldNote)
    → known_of r (es ++ e ∷ []) ≡ max (known_of r es) (told_by r e.root e.note)
known-push r [] e = turn (told_by r e.root e.note)
known-push r (x ∷ es) e =
    ap (max (told_by r x.root x.note)) (known-push r es e)
    ∙ regroup (told_by r x.root x.note) (known_of r es) (told_by r e.root e.note)

-- it knows what it knew, or what the entry tells, if that is more
pub knows-more : (r : RootId) (v : SeatView) (e : Entry) (turns : ℕ)
    → knows_of r (with_entry v e turns) ≡ max (knows_of r v) (told_by r (law_entry e).root (law_entry e).note)
knows-more r v e turns =
    ap (λ (es : List ToldNote). max r.capacity (known_of r es)) (map-append law_entry v.own.notes (e ∷ []))
    ∙ ap (max r.capacity) (known-push r (lane_entries v) (law_entry e))
    ∙ regroup r.capacity (known_of r (lane_entries v)) (told_by r (law_entry e).root (law_entry e).note)

-- a view that was fetched reaches no further than what is known then
pub fetched_known : (v : SeatView) (o : Object) (k turns : ℕ) (lane : Option ℕ) (x : Option ViewData)
    → IfSome x (ReachesKnown (with_entry v (At o k (noted_by lane (plain (Did.Fetch (record { view = x }))))) turns))
fetched_known v o k turns lane None = tt
fetched_known v o k turns lane (Some w) =
    let e : Entry = At o k (noted_by lane (plain (Did.Fetch (record { view = Some w })))) in
    let told : told_by w.root (law_entry e).root (law_entry e).note ≡ w.offset + w.len =
    ap (λ (b : Bool). if b then w.offset + w.len else 0) (same_root-refl w.root) in
    within (w.offset + w.len) (knows_of w.root v) (told_by w.root (law_entry e).root (law_entry e).note)
    (knows_of w.root (with_entry v e turns)) told (knows-more w.root v e turns)
  where
    within : (reach k t n : ℕ) → t ≡ reach → n ≡ max k t → reach ≤ n
    within reach k t n told is = omega (arith, told, is)

pub known_fetched : (old new : PoolSeat) (from number : ℕ) (parcel : Parcel) → IsFetched old new from number parcel
    → IfSome parcel.view (ReachesKnown (view_of new))
known_fetched old new from number parcel got =
    let v = view_of old in
    subst (λ (w : SeatView). IfSome parcel.view (ReachesKnown w)) (sym (ap (λ m. m.0) got.noted))
    (fetched_known v (Mail from (lane_of old)) number v.turns v.own.number parcel.view)
