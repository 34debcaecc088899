-- What a call did to its source and to its sink.
use Rattle.std.specs.Prelude.{◌≡◌, ℕ, List, Option}
use Rattle.std.specs.Io.KnownBytes.{Keeps}
use Rattle.text_ends.specs.Ends.{Rose}

-- a source before and after a call
pub record SourceSpan : Type 0 where
  pub left : Option (List ℕ)
  pub left_then : Option (List ℕ)
  pub faults : ℕ
  pub faults_then : ℕ

-- a sink before and after a call
pub record SinkSpan : Type 0 where
  pub got : Option (List ℕ)
  pub got_then : Option (List ℕ)
  pub faults : ℕ
  pub faults_then : ℕ
  pub empty : ℕ
  pub empty_then : ℕ

-- a source of these meanings before and after a call
abbrev pub source_span : {S : Type 0} → (S → Option (List ℕ)) → (S → ℕ) → S → S → SourceSpan
source_span left faults old new =
    record { left = left old; left_then = left new; faults = faults old; faults_then = faults new }

-- a sink of these meanings before and after a call
abbrev pub sink_span :
    {K : Type 0} → (K → Option (List ℕ)) → (K → ℕ) → (K → ℕ) → K → K → SinkSpan
sink_span got faults empty old new =
    record {
      got = got old;
      got_then = got new;
      faults = faults old;
      faults_then = faults new;
      empty = empty old;
      empty_then = empty new;
    }

-- nothing was read
pub record IsUnread (src : SourceSpan) : Type 0 where
  pub left : Keeps src.left src.left_then
  pub faults : src.faults_then ≡ src.faults

-- nothing was written
pub record IsUnwritten (out : SinkSpan) : Type 0 where
  pub got : Keeps out.got out.got_then
  pub faults : out.faults_then ≡ out.faults
  pub empty : out.empty_then ≡ out.empty

-- the sink had no fault, and took something of each piece that isn't empty
pub record IsTaken (out : SinkSpan) : Type 0 where
  pub faults : Rose out.faults out.faults_then → ⊥
  pub empty : Rose out.empty out.empty_then → ⊥
