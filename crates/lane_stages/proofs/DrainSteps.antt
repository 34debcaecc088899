-- The steps of a draining, by what the pool answered.
use Rattle.std.proofs.Common.{◌≡◌, ℕ, ◌+◌, ◌-◌, ◌*◌, ◌<◌, ◌≤◌, List, [], ◌∷◌, Bool, true, false, refl, sym, ap, ◌∙◌, subst, arith, eq-eqb}
use Rattle.std.specs.Prelude.{◌==◌, ◌&&◌, sum_by, Option, unwrap_or}
use Rattle.std.specs.Global.{Vec}
use Rattle.pool_law.specs.declared.id.Region.{Region}
use Rattle.pool_law.specs.declared.note.Did.{Did}
use Rattle.pool_law.specs.declared.note.Held.{Held}
use Rattle.pool_law.specs.declared.note.Note.{Note}
use Rattle.pool_law.specs.declared.note.Noted.{Noted}
use Rattle.pool_law.specs.declared.note.Object.{Object}
use Rattle.pool_law.specs.declared.note.Object.TheVariants.{Arena, Cache}
use Rattle.pool_law.specs.Limits.{cached_classes}
use Rattle.leak_records.specs.Records.{Sampling}
use Rattle.history_laws.specs.NoteCounts.{one_if_so}
use Rattle.pool_law.specs.Naming.{noted_by}
use Rattle.pool_table.specs.declared.views.Entry.{Entry}
use Rattle.pool_table.specs.declared.views.Entry.TheVariants.{At}
use Rattle.pool_table.specs.declared.views.SeatView.{SeatView}
use Rattle.shared_pool.specs.declared.seat.PoolSeat.{PoolSeat}
use Rattle.pool_table.specs.Learned.{in_own, takes_of, gives_of}
use Rattle.shared_pool.specs.SeatViews.{view_of, SameSeat}
use Rattle.shared_pool.specs.declared.pool.SharedPool.{SharedPool}
use Rattle.shared_pool.specs.Closing.{note_of, entry_of}
use Rattle.pool_table.specs.Letters.{sent_on}
use Rattle.shared_pool.specs.Holding.{HoldsRegion}
use Rattle.shared_pool.specs.Notes.{plain}
use Rattle.shared_pool.specs.SeatLanes.{lane_of}
use Rattle.shared_pool.specs.Seats.{IsPoolSeat, IsNoted, FoundBusy}
use Rattle.lane_stages.specs.Logs.{HasWritten}
use Rattle.lane_stages.specs.declared.draining.DrainKind.{DrainKind}
use Rattle.lane_stages.specs.declared.draining.DrainKind.TheVariants.{Trim, Close}
use Rattle.lane_stages.specs.declared.draining.Draining.{Draining}
use Rattle.lane_stages.specs.declared.draining.Draining.TheVariants.{Ask, Shed, Give, Done}
use Rattle.lane_stages.specs.declared.draining.Drains.TheVariants.{More, Held as HeldBack}
use Rattle.seat_work.specs.Hands.{lane_in, Hand, empty_hand, IsHeld}
use Rattle.lane_stages.specs.Budgets.{Spends, takes, out_of, all_out}
use Rattle.lane_stages.specs.Drainings.{MayDrain, HasDrained, IsNext, IsReadNext, Fits, quota_note, hand_of, closed_by, left_of, rest_of}
use Rattle.lane_stages.specs.NextNotes.{BeginsAt}
use Rattle.lane_stages.specs.Readings.{none_asked}
use Rattle.seat_work.specs.Readings.{behind as after_log}
use Rattle.lane_stages.specs.Sampled.{AreSampled}
use Rattle.lane_stages.proofs.EntryCounts.{IsStill}
use Rattle.lane_stages.proofs.SeatCounts.{none_added, still_added}
use Rattle.seat_work.proofs.Grown.{Grows, note_at, grows_noted, grows_held, own_more}
use Rattle.lane_stages.proofs.Grown.{spends}
use Rattle.seat_work.proofs.HandLaws.{Carries, held_on}
use Rattle.seat_work.proofs.HandNotes.{region_given, cache_closed, cache_trimmed, region_shed}
use Rattle.seat_work.proofs.Holds.{is_region, region_stays}
use Rattle.lane_stages.proofs.LogLaws.{wrote_none}
use Rattle.lane_stages.proofs.NextNotes.{begins_there}
use Rattle.lane_stages.proofs.OneNote.{wrote_note, wrote_nothing, found_there}
use Rattle.lane_stages.proofs.Outs.{all_out_now, all_out_less, out_within}
use Rattle.lane_stages.proofs.ReadLaws.{still_on}
use Rattle.lane_stages.proofs.Readings.{read_asked, read_shed, read_shed_given}

-- what comes next costs no more than the classes behind, and two for each region that is out
next_left : (class left : ℕ) (next : Draining) (v : SeatView) → IsNext class left next
    → ((left_of next v).notes ≤ cached_classes - (class + 1) + 2 * all_out v) × ((left_of next v).takes ≡ 0)
    × ((left_of next v).moves ≡ 0) × ((to : ℕ) → (left_of next v).sends to ≡ 0)
next_left class left (Ask other) v is = (let a = is.0 in omega (arith, a), refl, refl, λ to. refl)
next_left class left (Shed other more) v is = (let a = is.0 in omega (arith, a), refl, refl, λ to. refl)
next_left class left (Give other more region) v is = absurd is
next_left class left Done v is = (omega arith, refl, refl, λ to. refl)

-- each stage but the last has a note left
pub drain_left : (pool : SharedPool) (seat : PoolSeat) (stage : Draining)
    → Fits pool seat stage → (stage ≡ Done → ⊥) → 1 ≤ (left_of stage (view_of seat)).notes
drain_left pool seat (Ask class) fits more = omega (arith, fits)
drain_left pool seat (Shed class left) fits more =
    let a = fits.1 in let b = fits.2 in let c = out_within class (view_of seat) fits.0 in omega (arith, a, b, c)
drain_left pool seat (Give class left region) fits more =
    let b = fits.2 in let c = out_within class (view_of seat) fits.0 in omega (arith, b, c)
drain_left pool seat Done fits more = absurd (more refl)

-- what is known of the note of a cache that was asked
record IsQuota (kind : DrainKind) (lane class number quota : ℕ) (own : Option ℕ) (e : Entry) : Type 0 where
  still : IsStill (note_of e)
  sampled : (s : Sampling) → AreSampled s (e ∷ []) s
  takes_none : sum_by takes (e ∷ []) ≡ 0
  class_none : (c : ℕ) → sum_by (takes_of c) (e ∷ []) ≡ 0
  gives_none : (from c : ℕ) → sum_by (gives_of from c) (e ∷ []) ≡ 0
  posts_none : (from to : ℕ) → sent_on from to (e ∷ []) ≡ 0
  carries : Carries lane (hand_of kind (Ask class)) (hand_of kind (Shed class quota)) (e ∷ [])

is_quota : (kind : DrainKind) (lane class number quota : ℕ) (own : Option ℕ)
    → IsQuota kind lane class number quota own
    (At (Cache lane class) number (noted_by own (plain (quota_note kind quota))))
is_quota Trim lane class number quota own = record {
  still = record { gains = λ q. refl; loses = λ q. refl; needs = λ q. refl; ends = λ q. refl };
  sampled = λ s. (tt, refl);
  takes_none = refl;
  class_none = λ c. refl;
  gives_none = λ giver c. refl;
  posts_none = λ sender to. refl;
  carries = cache_trimmed lane number own empty_hand class quota;
}
is_quota Close lane class number quota own = record {
  still = record { gains = λ q. refl; loses = λ q. refl; needs = λ q. refl; ends = λ q. refl };
  sampled = λ s. (tt, refl);
  takes_none = refl;
  class_none = λ c. refl;
  gives_none = λ giver c. refl;
  posts_none = λ sender to. refl;
  carries = cache_closed lane number own empty_hand class quota;
}

-- a region of the lane and class that was given is one of them
gave_own : (a b : Bool) → a ≡ true → b ≡ true → 0 + one_if_so (a && b) ≡ 1
gave_own true true x y = omega arith
gave_own true false x y = absurd (cc y)
gave_own false b x y = absurd (cc x)

module _ (pool : SharedPool) (old new : PoolSeat) (is : IsPoolSeat pool new)
    (same : SameSeat old new) (kind : DrainKind) where
  abbrev lane : ℕ
  lane = lane_of old

  abbrev v : SeatView
  v = view_of old

  abbrev w : SeatView
  w = view_of new

  next_fits : (class left : ℕ) (next : Draining) → IsNext class left next → class < cached_classes
      → left ≤ out_of class w → Fits pool new next
  next_fits class left (Ask other) comes less few = comes.2
  next_fits class left (Shed other more) comes less few = (
    let a = comes.0 in omega (arith, a, less),
    let a = comes.1 in let b = comes.2 in
        omega (arith, a, b),
    (let a = comes.1 in let b : out_of other w
        ≡ out_of class w = ap (λ (c : ℕ). out_of c w) comes.0 in omega (arith, a, b, few)),
  )
  next_fits class left (Give other more region) comes less few = absurd comes
  next_fits class left Done comes less few = tt

  -- what is out of a class, where a step neither took of it nor gave
  module _ (es : List Entry) (grows : Grows v w es 0) where
    lane_still : lane_in w ≡ lane
    lane_still = ap (λ (o : Option ℕ). unwrap_or o 0) grows.more.number

    gives_still : (c : ℕ) → in_own (gives_of (lane_in w) c) w ≡ in_own (gives_of lane c) v + sum_by (gives_of lane c) es
    gives_still c = ap (λ (l : ℕ). in_own (gives_of l c) w) lane_still ∙ own_more v w es 0 grows (gives_of lane c)

    still_out : (c quota : ℕ) → sum_by (takes_of c) es ≡ 0 → sum_by (gives_of lane c) es ≡ 0
        → quota + in_own (gives_of lane c) v ≤ in_own (takes_of c) v → quota ≤ out_of c w
    still_out c quota took gave few =
        let a = own_more v w es 0 grows (takes_of c) in let b = gives_still c in omega (arith, a, b, took, gave, few)

    out_kept : (c : ℕ) → sum_by (takes_of c) es ≡ 0 → sum_by (gives_of lane c) es ≡ 0 → out_of c w ≡ out_of c v
    out_kept c took gave =
        let a = own_more v w es 0 grows (takes_of c) in let b = gives_still c in omega (arith, a, b, took, gave)

    out_given : (c : ℕ) → sum_by (gives_of lane c) es ≡ 1 → sum_by (takes_of c) es ≡ 0 → out_of c v ≤ out_of c w + 1
    out_given c gave took =
        let a = own_more v w es 0 grows (takes_of c) in let b = gives_still c in omega (arith, a, b, took, gave)

  module _ (class number : ℕ) (note : Note) (log later : Vec Note) (adds : HasWritten log later (note ∷ [])) where
    pub gave_quota : (quota : ℕ) (next : Draining) → MayDrain pool old kind (Ask class)
        → IsNoted pool old new (Cache lane class) number (plain (quota_note kind quota))
        → quota + in_own (gives_of lane class) v ≤ in_own (takes_of class) v → IsNext class quota next →
        hand_of kind next ≡ hand_of kind (Shed class quota) → IsReadNext kind class quota next
        → note ≡ Note.At (Cache lane class) number (quota_note kind quota) →
        HasDrained pool old new log later kind (Ask class) (More next)
    gave_quota quota next may noted few comes hand behind it =
        let o : Object = Cache lane class in let n : Noted = plain (quota_note kind quota) in let e : Entry =
        note_at pool old new may.seat_is is o number n in
        let grows : Grows v w (e ∷ []) 0 = grows_noted pool old new may.seat_is is o number n noted in
        let known : IsQuota kind lane class number quota v.own.number e =
        is_quota kind lane class number quota v.own.number in
        let taken = known.takes_none in let all = all_out_now v w (e ∷ []) grows.more in
        let after = next_left class quota next w comes in let a0 = after.0 in let a1 = after.1 in let a2 = after.2 in
        let less = may.fits in
        record {
          written = note ∷ [];
          log = adds;
          wrote =
              λ sampler. wrote_note pool old new may.seat_is is same sampler (rest_of kind lane (Ask class)) none_asked
              (rest_of kind lane next) o number n note noted it (known.sampled sampler)
              (λ log. read_asked kind lane class number (entry_of e) quota less refl log
              ∙ ap (λ r. r (after_log log (entry_of e ∷ []) none_asked)) (behind lane));
          hand =
              subst (λ (h : Hand). IsHeld h w) (sym hand)
              (held_on v w (e ∷ []) 0 (hand_of kind (Ask class)) (hand_of kind (Shed class quota)) grows
              known.carries may.hand);
          fits =
              next_fits class quota next comes less
              (still_out (e ∷ []) grows class quota (known.class_none class) (known.gives_none lane class) few);
          again = omega arith;
          counts = λ sampler. still_added (entry_of e) known.still refl;
          spends =
              spends v w (e ∷ []) 0 grows (left_of (Ask class) v) (left_of next w) (omega (arith, taken, all, a0, less))
              (omega (arith, a1, taken)) (omega (arith, a2))
              (λ to. let a3 = after.3 to in let a4 = known.posts_none (lane_in v) to in omega (arith, a3, a4));
        }

    pub shed_one : (left : ℕ) (r : Region) → MayDrain pool old kind (Shed class left)
        → IsNoted pool old new (Cache lane class) number (plain (Did.Shed r.id))
        → HoldsRegion pool new r × (r.id.owner ≡ lane) × (r.id.class ≡ class)
        → note ≡ Note.At (Cache lane class) number (Did.Shed r.id) →
        HasDrained pool old new log later kind (Shed class left) (More (Give class (left - 1) r))
    shed_one left r may noted holds it =
        let o : Object = Cache lane class in let n : Noted = plain (Did.Shed r.id) in let e : Entry =
        note_at pool old new may.seat_is is o number n in
        let grows : Grows v w (e ∷ []) 0 = grows_noted pool old new may.seat_is is o number n noted in
        let less = may.fits.0 in let some = may.fits.1 in let few = may.fits.2 in
        let all = all_out_now v w (e ∷ []) grows.more in let within = out_within class v less in
        let still = out_kept (e ∷ []) grows class refl refl in
        record {
          written = note ∷ [];
          log = adds;
          wrote =
              λ sampler. wrote_note pool old new may.seat_is is same sampler (rest_of kind lane (Shed class left))
              none_asked (rest_of kind lane (Give class (left - 1) r)) o number n note noted it (tt, refl)
              (read_shed kind lane class number (entry_of e) left r.id some refl);
          hand =
              held_on v w (e ∷ []) 0 (hand_of kind (Shed class left)) (hand_of kind (Give class (left - 1) r)) grows
              (region_shed lane number v.own.number (record empty_hand { closed = closed_by kind (class + 1) })
              class left r.id) may.hand;
          fits = (
            less,
            (is_region pool new r holds.0, holds.1 ∙ sym (lane_still (e ∷ []) grows), holds.2),
            omega
                (arith, some, few, still),
          );
          again = omega arith;
          counts =
              λ sampler. still_added (entry_of e)
              (record { gains = λ q. refl; loses = λ q. refl; needs = λ q. refl; ends = λ q. refl }) refl;
          spends =
              spends v w (e ∷ []) 0 grows (left_of (Shed class left) v) (left_of (Give class (left - 1) r) w)
              (omega (arith, all, some, few, within)) (omega arith) (omega arith) (λ to. omega arith);
        }

    pub gave_one : (left : ℕ) (r : Region) (next : Draining) → MayDrain pool old kind (Give class left r)
        → IsNoted pool old new (Arena r.id.place.arena) number (plain (Did.Give r.id)) → IsNext class left next →
        hand_of kind next ≡ hand_of kind (Shed class left) → IsReadNext kind class left next
        → note ≡ Note.At (Arena r.id.place.arena) number (Did.Give r.id) →
        HasDrained pool old new log later kind (Give class left r) (More next)
    gave_one left r next may noted comes hand behind it =
        let o : Object = Arena r.id.place.arena in let n : Noted = plain (Did.Give r.id) in let e : Entry =
        note_at pool old new may.seat_is is o number n in
        let grows : Grows v w (e ∷ []) 0 = grows_noted pool old new may.seat_is is o number n noted in
        let less = may.fits.0 in let few = may.fits.2 in
        let given : sum_by (gives_of (lane_in v) class) (e ∷ [])
        ≡ 1 =
        gave_own (r.id.owner == lane) (r.id.class == class) (eq-eqb r.id.owner lane may.fits.1.1)
        (eq-eqb r.id.class class may.fits.1.2) in
        let all : all_out w + 1 ≤ all_out v = all_out_less v w (e ∷ []) grows.more class given (λ c. refl)
        (omega (arith, few)) less in
        let mine = out_given (e ∷ []) grows class given refl in
        let after = next_left class left next w comes in let a0 = after.0 in let a1 = after.1 in let a2 = after.2 in
        record {
          written = note ∷ [];
          log = adds;
          wrote =
              λ sampler. wrote_note pool old new may.seat_is is same sampler (rest_of kind lane (Give class left r))
              none_asked (rest_of kind lane next) o number n note noted it (tt, refl)
              (λ log. read_shed_given kind lane class number (entry_of e) left r.id refl log
              ∙ ap (λ q. q (after_log log (entry_of e ∷ []) none_asked)) (behind lane));
          hand =
              subst (λ (h : Hand). IsHeld h w) (sym hand)
              (held_on v w (e ∷ []) 0 (hand_of kind (Give class left r)) (hand_of kind (Shed class left)) grows
              (region_given lane number v.own.number (hand_of kind (Shed class left)) r.id.place.arena r.id)
              may.hand);
          fits = next_fits class left next comes less (omega (arith, few, mine));
          again = omega arith;
          counts =
              λ sampler. still_added (entry_of e)
              (record { gains = λ q. refl; loses = λ q. refl; needs = λ q. refl; ends = λ q. refl }) refl;
          spends =
              spends v w (e ∷ []) 0 grows (left_of (Give class left r) v) (left_of next w) (omega (arith, all, a0))
              (omega (arith, a1)) (omega (arith, a2)) (λ to. let a3 = after.3 to in omega (arith, a3));
        }

  -- another seat was there, and the same is to be tried again
  pub found_held : (o : Object) (held : Held) (stage again : Draining) (log : Vec Note) → MayDrain pool old kind stage
      → FoundBusy pool o false old new held → again ≡ stage → BeginsAt o (rest_of kind lane stage)
      → HasDrained pool old new log log kind stage (HeldBack held again)
  found_held o held stage again log may found alike begins =
      let grows : Grows v w [] 0 = grows_held pool old new may.seat_is is o held found in
      let view : w ≡ v = ap (λ m. m.0) found.marked in
      subst (λ (x : Draining). HasDrained pool old new log log kind stage (HeldBack held x)) (sym alike)
      (record {
        written = [];
        log = wrote_none log;
        wrote =
            λ sampler. wrote_nothing pool old new may.seat_is is same sampler (rest_of kind lane stage) none_asked
            (rest_of kind lane stage) o held found (still_on (rest_of kind lane stage));
        hand = subst (λ (x : SeatView). IsHeld (hand_of kind stage) x) (sym view) may.hand;
        fits = still stage view may.fits;
        again = (
          refl,
          refl,
          found_there pool old new may.seat_is is same o false held found,
          begins_there o held (rest_of kind lane stage) found.object begins,
        );
        counts = λ sampler. none_added;
        spends = subst (λ (x : SeatView). Spends v w (left_of stage v) (left_of stage x)) (sym view)
            (spends v w [] 0 grows (left_of stage v) (left_of stage v) (omega arith) (omega arith) (omega arith)
            (λ to. omega arith));
      })
    where
      still : (x : Draining) → w ≡ v → Fits pool old x → Fits pool new x
      still (Ask class) view fits = fits
      still (Shed class left) view fits =
          (fits.0, fits.1, subst (λ (x : SeatView). left ≤ out_of class x) (sym view) fits.2)
      still (Give class left r) view fits = (
        fits.0,
        (
          region_stays pool old new r (ap (λ (x : SeatView). x.setting) view) fits.1.0,
          fits.1.1
              ∙ sym (ap (λ (x : SeatView). lane_in x) view),
          fits.1.2,
        ),
        subst (λ (x : SeatView). left < out_of class x)
            (sym view) fits.2,
      )
      still Done view fits = tt
