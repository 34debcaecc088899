-- A cutter behind a block of its source, or behind a step of its cutter.
use Rattle.std.proofs.Common.{◌≡◌, ℕ, true, false, List, ◌++◌, sym, ap, subst, ◌∙◌, Option}
use Rattle.std.specs.Io.KnownBytes.{Consumes, IsAtEnd}
use Rattle.std.proofs.KnownBytes.{Consumes-trans}
use Rattle.text_ends.specs.Ends.{Rose}
use Rattle.frame_hash.specs.declared.shared.Shared.{Shared}
use Rattle.frame_cutter.specs.declared.cutter.Cutter.{Cutter}
use Rattle.frame_cutter.specs.declared.stage.Stage.TheVariants.{Filling}
use Rattle.frame_cutter.specs.Standing.{CutterCame, CutterStands, IsUnderway, SameCutter, is_fault}

-- where it reads no read has failed
pub no_fault : (shared : Shared) (d : Cutter) (read : List ℕ) → CutterStands shared d read → d.stage ≡ Filling
    → is_fault d.verdict ≡ false
no_fault shared d read st filling =
    let u = subst (λ s. IsUnderway s d read st.handed st.pieces) filling st.underway in
    ap is_fault u.1.healthy

-- ---- The cutter.

module _ {S : Type 0} (left : S → Option (List ℕ)) (faults : S → ℕ) (shared : Shared) (old mid new : S)
    (first d e : Cutter) (came : CutterCame left faults shared old mid first d) where
  -- the cutter went on, and the source wasn't read
  pub worked : new ≡ mid
      → ((read : List ℕ) → CutterStands shared d read → CutterStands shared e read) → SameCutter d e
      → CutterCame left faults shared old new first e
  worked unread stands same = record {
    read = came.read;
    stands = stands came.read came.stands;
    workers = same.workers ∙ came.workers;
    block = same.block ∙ came.block;
    bytes = λ no.
        subst (λ (s : S). Consumes (left old) (left s) came.read) (sym unread)
        (came.bytes (sym same.fault ∙ no));
    end = λ no last.
        subst (λ (s : S). IsAtEnd (left s)) (sym unread) (came.end (sym same.fault ∙ no) (sym same.last ∙ last));
    faults_are = record {
      fault = λ yes.
          subst (λ (s : S). Rose (faults old) (faults s)) (sym unread)
          (came.faults_are.fault (sym same.fault ∙ yes));
      none = λ no. ap faults unread ∙ came.faults_are.none (sym same.fault ∙ no);
    };
  }

  -- a read that did not fail: of bytes more, or of none at the end
  module _ (sound : is_fault d.verdict ≡ false) (bytes : List ℕ)
      (stands : CutterStands shared e (came.read ++ bytes)) (workers : e.workers ≡ d.workers)
      (long : e.block ≡ d.block)
      (still : is_fault e.verdict ≡ false)
      (consumes : Consumes (left mid) (left new) bytes)
      (faultless : faults new ≡ faults mid) where
    pub read_on : (e.last ≡ true → IsAtEnd (left new)) → CutterCame left faults shared old new first e
    read_on at_end = record {
      read = came.read ++ bytes;
      stands = stands;
      workers = workers ∙ came.workers;
      block = long ∙ came.block;
      bytes = λ no.
          Consumes-trans (left old) (left mid) (left new) came.read bytes
          (came.bytes sound) consumes;
      end = λ no last. at_end last;
      faults_are = record {
        fault = λ yes. absurd (cc (sym yes ∙ still));
        none = λ no. faultless ∙ came.faults_are.none sound;
      };
    }

  -- and one that did
  pub read_failed : is_fault d.verdict ≡ false → CutterStands shared e came.read
      → e.workers ≡ d.workers → e.block ≡ d.block → is_fault e.verdict ≡ true
      → Rose (faults mid) (faults new) → CutterCame left faults shared old new first e
  read_failed sound stands workers long failed rose = record {
    read = came.read;
    stands = stands;
    workers = workers ∙ came.workers;
    block = long ∙ came.block;
    bytes = λ no. absurd (cc (sym failed ∙ no));
    end = λ no last. absurd (cc (sym failed ∙ no));
    faults_are = record {
      fault = λ yes.
          subst (λ (n : ℕ). Rose n (faults new)) (came.faults_are.none sound) rose;
      none = λ no. absurd (cc (sym failed ∙ no));
    };
  }
