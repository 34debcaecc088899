-- What holds of a worker behind each of its steps.
use Rattle.std.proofs.Common.{◌≡◌, ℕ, ◌+◌, ◌-◌, ◌<◌, ◌≤◌, List, [], ◌∷◌, ◌++◌, length, take, sym, ap, subst, ◌∙◌, arith, append_assoc, append-nil, length-append}
use Rattle.std.proofs.Math.Seq.{take-append_seam}
use Rattle.job_queue.specs.declared.jobs.Job.{Job}
use Rattle.job_queue.specs.declared.jobs.Job.TheVariants as jobs
use Rattle.pool_law.specs.declared.id.Parcel.{Parcel}
use Rattle.pool_table.specs.declared.views.SeatView.{SeatView}
use Rattle.seat_work.specs.Hands.{empty_hand}
use Rattle.seat_work.specs.Works.{Works}
use Rattle.seat_work.proofs.HandedOver.{fetch_proceeds}
use Rattle.seat_work.proofs.Proceeding.{works_after, works_same}
use Rattle.sha2.specs.declared.Sha256.{Sha256}
use Rattle.sha2.specs.Hashers.{Holds256}
use Rattle.sha2.specs.Sha256.{sha256}
use Rattle.shared_pool.specs.declared.seat.PoolSeat.{PoolSeat}
use Rattle.shared_pool.specs.MailAnswers.{IsFetched}
use Rattle.shared_pool.specs.SeatViews.{HasView, view_of}
use Rattle.shared_pool.specs.Seats.{IsPoolSeat}
use Rattle.frame_hash.specs.declared.hashes.HashOf.{HashOf}
use Rattle.frame_hash.specs.declared.shared.Shared.{Shared}
use Rattle.frame_hash.specs.declared.turns.TheConstants.{HASH_TURNS}
use Rattle.frame_hash.specs.declared.worker.Hashing.{Hashing}
use Rattle.frame_hash.specs.declared.worker.Work.TheVariants.{Frame}
use Rattle.frame_hash.specs.declared.worker.Worker.{Worker}
use Rattle.frame_hash.specs.Standing.{AreTold, IsBegun, IsHashing, WorkerStands, at_work}
use Rattle.frame_hash.specs.Takes.{HasSpent, HasTaken}
use Rattle.frame_hash.specs.Told.{all_told, joined, slices_in, told_of}
use Rattle.frame_hash.proofs.TakeLaws.{has_taken, number_new, read_goes}
use Rattle.frame_hash.proofs.ToldLaws.{joined-more, slices-more, told-more}

-- ---- Jobs that come.

module _ (js got : List Job) (pieces : List (List ℕ)) (hashes : List HashOf)
    (told : AreTold js pieces hashes) where
  pub begins_with : (f : Hashing) (number slices : ℕ) → got ≡ js ++ jobs.Frame number slices ∷ []
      → IsBegun f number slices → IsHashing f got pieces hashes
  begins_with f number slices e begun = record {
    done = js;
    slices = slices;
    before = pieces;
    own = [];
    jobs_are = e ∙ ap (λ n. js ++ jobs.Frame n slices ∷ []) (sym begun.number_is);
    pieces_are = sym (append-nil pieces);
    told = told;
    left = (let a = begun.left in omega (arith, a));
    holds = begun.holds;
    len = begun.len;
    fits = (let a = begun.left in let b = begun.few in let d = begun.len in omega (arith, a, b, d));
  }

-- ---- A frame goes on, and ends.

module _ (f : Hashing) (js : List Job) (pieces : List (List ℕ)) (hashes : List HashOf)
    (is : IsHashing f js pieces hashes) where
  -- one slice more
  pub goes_on_with : (hasher : Sha256) (more : ℕ) (piece : List ℕ) → 0 < f.left
      → ((m : List ℕ) → Holds256 f.hasher m → Holds256 hasher (m ++ piece)) → length piece ≡ more → more < 4294967296
      → IsHashing (record { hasher = hasher; number = f.number; len = f.len + more; left = f.left - 1 }) js
      (pieces ++ piece ∷ []) hashes
  goes_on_with hasher more piece some updates long low = record {
    done = is.done;
    slices = is.slices;
    before = is.before;
    own = is.own ++ piece ∷ [];
    jobs_are = is.jobs_are;
    pieces_are = ap (λ ps. ps ++ piece ∷ []) is.pieces_are ∙ append_assoc is.before is.own (piece ∷ []);
    told = is.told;
    left = (let a = length-append is.own (piece ∷ []) in let b = is.left in omega (arith, a, b, some));
    holds = subst (λ m. Holds256 hasher m) (sym (joined-more is.own piece)) (updates (joined is.own) is.holds);
    len =
        (let a = ap (λ m. length m) (joined-more is.own piece) in let b = length-append (joined is.own) piece in
        let c = is.len in
        omega (arith, a, b, c, long));
    fits = (let a = is.fits in omega (arith, a, some, low));
  }

  -- the last slice was hashed
  pub tells_of : (digest : List ℕ) → f.left ≡ 0 → digest ≡ sha256 (joined is.own)
      → AreTold js pieces (hashes ++ record { number = f.number; hash = record { len = f.len; digest = digest } } ∷ [])
  tells_of digest none digest_is = record {
    told =
        (λ i. is.told.told i ++ own-told i)
        ∙ sym (told-more is.done is.before is.own (jobs.Frame f.number is.slices) is.told.slices)
        ∙ sym (λ i. all_told (is.jobs_are i) (is.pieces_are i));
    slices =
        (let a = ap slices_in is.jobs_are in let b = slices-more is.done (jobs.Frame f.number is.slices) in
        let c = ap (λ ps. length ps) is.pieces_are in let d = length-append is.before is.own in let e = is.left in
        let g = is.told.slices in
        omega (arith, a, b, c, d, e, g, none));
  }
    where
      long : is.slices ≡ length is.own
      long = let a = is.left in omega (arith, a, none)

      whole : take is.slices is.own ≡ is.own
      whole =
          ap (λ n. take n is.own) long ∙ ap (take (length is.own)) (sym (append-nil is.own))
          ∙ take-append_seam is.own []

      hash : ◌≡◌ {A = HashOf} (record { number = f.number; hash = record { len = f.len; digest = digest } })
          (told_of f.number (take is.slices is.own))
      hash =
          (λ i. record { number = f.number; hash = record { len = is.len i; digest = digest_is i } })
          ∙ ap (told_of f.number) (sym whole)

      own-told : ◌≡◌ {A = List HashOf}
          (record { number = f.number; hash = record { len = f.len; digest = digest } } ∷ [])
          (all_told (jobs.Frame f.number is.slices ∷ []) is.own)
      own-told i = hash i ∷ []

-- ---- A worker behind a fetch.

module _ (shared : Shared) (w : Worker) (f : Hashing)
    (stands : WorkerStands shared (at_work w (Frame f))) (mid : PoolSeat) (seat : IsPoolSeat shared.pool.now mid) where
  -- none came
  pub waits : HasView mid (view_of w.seat) → WorkerStands shared (record w { seat = mid; work = Frame f })
  waits has =
      let same : view_of mid ≡ view_of w.seat = ap (λ m. m.0) has in
      record {
        works = works_same shared.pool.now empty_hand w.turns 0 w.seat mid seat same stands.works;
        lane = ap (λ (v : SeatView). v.own.number) same ∙ stands.lane;
        cutter = stands.cutter;
        number = stands.number;
        receives = stands.receives;
        pieces = stands.pieces;
        taken = subst (λ (v : SeatView). HasTaken v w.cutter w.number stands.pieces) (sym same) stands.taken;
        work = stands.work;
      }

  module _ (number : ℕ) (parcel : Parcel) (fetch : IsFetched w.seat mid w.cutter number parcel)
      (enough : HASH_TURNS ≤ w.turns) where
    started : Works shared.pool.now empty_hand 0 0 w.seat
    started = record {
      seat = stands.works.seat;
      held = stands.works.held;
      paid = stands.works.paid;
      turns_left = omega arith;
      moves_left = omega arith;
    }

    -- one came, and is still to be read
    pub works_mid : Works shared.pool.now empty_hand HASH_TURNS 0 mid
    works_mid =
        works_after shared.pool.now empty_hand empty_hand w.turns 0 0 0 HASH_TURNS 0 w.seat mid stands.works
        (fetch_proceeds shared.pool.now w.seat mid seat number started w.cutter parcel fetch).goes
        (omega (arith, enough)) (omega arith)

    module _ (new : PoolSeat) (piece : List ℕ) (hasher : Sha256) (more : ℕ)
        (read : HasSpent shared.pool.now parcel.view piece mid new) (some : 0 < f.left)
        (updates : (m : List ℕ) → Holds256 f.hasher m → Holds256 hasher (m ++ piece))
        (long : length piece ≡ more) (low : more < 4294967296) where
      pub hashed : WorkerStands shared (record w {
        seat = new;
        turns = w.turns - HASH_TURNS;
        work = Frame (record { hasher = hasher; number = f.number; len = f.len + more; left = f.left - 1 });
      })
      hashed = record {
        works =
            works_after shared.pool.now empty_hand empty_hand w.turns 0 HASH_TURNS 0 (w.turns - HASH_TURNS) 0 w.seat new
            stands.works
            (read_goes shared.pool.now w.seat mid new w.cutter w.number number parcel piece stands.pieces started
            stands.lane seat fetch read)
            (omega (arith, enough)) (omega arith);
        lane =
            number_new shared.pool.now w.seat mid new w.cutter w.number number parcel piece stands.pieces started
            stands.lane seat fetch read
            ∙ stands.lane;
        cutter = stands.cutter;
        number = stands.number;
        receives = stands.receives;
        pieces = stands.pieces ++ piece ∷ [];
        taken =
            has_taken shared.pool.now w.seat mid new w.cutter w.number number parcel piece stands.pieces started
            stands.lane seat fetch read stands.taken;
        work = goes_on_with f _ stands.pieces _ stands.work hasher more piece some updates long low;
      }
