-- What is told of a stream is what the source gave.
use Rattle.std.proofs.Common.{◌≡◌, ℕ, false, List, map, refl, ap, sym, ◌∙◌, subst, All, Option}
use Rattle.pool_law.specs.declared.run.Shape.{Shape}
use Rattle.shared_pool.specs.declared.seat.PoolSeat.{PoolSeat}
use Rattle.shared_pool.specs.Closing.{AreWhole}
use Rattle.shared_pool.specs.Seated.{parts_in}
use Rattle.text_ends.specs.Spans.{SourceSpan, source_span}
use Rattle.frame_core.specs.declared.frame.FrameNo.{FrameNo}
use Rattle.frame_core.specs.declared.frame.FrameNo.TheVariants.{Length, Frames, Stream, Inside}
use Rattle.frame_core.specs.Frames.{frames_of}
use Rattle.frame_hash.specs.declared.shared.Shared.{Shared}
use Rattle.frame_hash.specs.declared.worker.Work.TheVariants.{Done}
use Rattle.frame_hash.specs.declared.worker.Worker.{Worker}
use Rattle.frame_cutter.specs.declared.cutter.Cutter.{Cutter}
use Rattle.frame_cutter.specs.declared.stage.Stage.TheVariants.{Over}
use Rattle.frame_cutter.specs.declared.stage.Verdict.{Verdict}
use Rattle.frame_cutter.specs.declared.stage.Verdict.TheVariants.{Whole, Refused, Fault}
use Rattle.frame_cutter.specs.Standing.{CutterCame, HasVerdict, IsMet, IsUnderway, is_fault}
use Rattle.frame_cutter.specs.Stops.{StopsWithin}
use Rattle.frame_cut.specs.declared.closing.StreamEnd.{StreamEnd}
use Rattle.frame_cut.specs.Outcomes.{HasTaken, IsMetAt}
use Rattle.frame_cut.specs.Tellings.{HasTold, Tells}
use Rattle.frame_cut.proofs.Together.{AreTogether, tells_all}

module _ {S : Type 0} (left : S → Option (List ℕ)) (faults : S → ℕ) (shared : Shared) (old new : S) (first d : Cutter)
    (came : CutterCame left faults shared old new first d) (block : ℕ) (size : first.block ≡ block) where
  abbrev src : SourceSpan
  src = source_span left faults old new

  taken : is_fault d.verdict ≡ false → HasTaken src came.read
  taken ok = record { bytes_are = came.bytes ok; faults = came.faults_are.none ok }

  -- a read that failed
  pub told_fault : (told : StreamEnd) → told.verdict ≡ d.verdict → told.verdict ≡ Fault
      → HasTold told.verdict told block src
  told_fault told same fault =
      subst (λ v. HasTold v told block src) (sym fault)
      (came.faults_are.fault (ap is_fault (sym same ∙ fault)))

  -- and else none did
  pub no_fault : (told : StreamEnd) → told.verdict ≡ d.verdict → is_fault told.verdict ≡ false
      → faults new ≡ faults old
  no_fault told same ok = came.faults_are.none (ap is_fault (sym same) ∙ ok)

  module _ (over : d.stage ≡ Over) where
    verdict : HasVerdict d.verdict d came.read came.stands.handed
    verdict =
        (subst (λ s. IsUnderway s d came.read came.stands.handed came.stands.pieces) over came.stands.underway).0

    met : (why : FrameNo) → is_fault d.verdict ≡ false → IsMet why d → IsMetAt why (left new)
    met (Inside number) ok is = came.end ok is
    met (Length number) ok is = tt
    met Frames ok is = tt
    met Stream ok is = tt

    -- a stream that was refused
    pub told_refused : (told : StreamEnd) (why : FrameNo) → told.verdict ≡ d.verdict → told.verdict ≡ Refused why
        → HasTold told.verdict told block src
    told_refused told why same is =
        let own : d.verdict ≡ Refused why = sym same ∙ is in
        let ok : is_fault d.verdict ≡ false = ap is_fault own in
        let v = subst (λ v. HasVerdict v d came.read came.stands.handed) own verdict in
        subst (λ v. HasTold v told block src) (sym is) (
          came.read,
          record {
            taken = taken ok;
            met = met why ok v.0;
            failure = v.1;
            stops = subst (λ (n : ℕ). StopsWithin n came.read) (came.block ∙ size) v.2;
          },
        )

    -- a stream of frames
    pub told_whole : (told : StreamEnd) (ws : List Worker) (seats : List PoolSeat) (shape : Shape)
        → AreTogether shared d ws seats → All (λ (w : Worker). w.work ≡ Done) ws
        → AreWhole shape (parts_in seats) → told.hashes.items ≡ map (λ w. w.hashes) ws → told.frames ≡ d.frames
        → told.verdict ≡ d.verdict → told.verdict ≡ Whole → HasTold told.verdict told block src
    told_whole told ws seats shape all done whole hashes frames same is =
        let own : d.verdict ≡ Whole = sym same ∙ is in
        let ok : is_fault d.verdict ≡ false = ap is_fault own in
        let v = subst (λ v. HasVerdict v d came.read came.stands.handed) own verdict in
        let tells : Tells told (frames_of came.read) =
        tells_all shared d ws seats all came.read came.stands over done shape whole told hashes frames own in
        subst (λ v. HasTold v told block src) (sym is)
        (came.read, (record { taken = taken ok; end = came.end ok v.0; sound = v.1 }, tells))

    -- by what it came to
    pub told_of_stream : (told : StreamEnd) (ws : List Worker) (seats : List PoolSeat) (shape : Shape)
        → AreTogether shared d ws seats → All (λ (w : Worker). w.work ≡ Done) ws
        → AreWhole shape (parts_in seats) → told.hashes.items ≡ map (λ w. w.hashes) ws → told.frames ≡ d.frames
        → told.verdict ≡ d.verdict → HasTold told.verdict told block src
    told_of_stream told ws seats shape all done whole hashes frames same =
        by_verdict told ws seats shape all done whole hashes frames same told.verdict refl
      where
        by_verdict : (told : StreamEnd) (ws : List Worker) (seats : List PoolSeat) (shape : Shape)
            → AreTogether shared d ws seats → All (λ (w : Worker). w.work ≡ Done) ws
            → AreWhole shape (parts_in seats) → told.hashes.items ≡ map (λ w. w.hashes) ws
            → told.frames ≡ d.frames → told.verdict ≡ d.verdict → (v : Verdict) → told.verdict ≡ v
            → HasTold told.verdict told block src
        by_verdict told ws seats shape all done whole hashes frames same Whole is =
            told_whole told ws seats shape all done whole hashes frames same is
        by_verdict told ws seats shape all done whole hashes frames same (Refused why) is =
            told_refused told why same is
        by_verdict told ws seats shape all done whole hashes frames same Fault is = told_fault told same is
