-- Ends in memory: what each holds, and what a call leaves of it.
use Rattle.std.specs.Prelude.{ℕ, List, ◌++◌, take, drop, if◌then◌else◌}
use Rattle.text_ends.specs.Ends.{is_empty_take, next_count}

-- a list that is read: what is left, the most that a read gives, the calls that fail, and counts
pub record ListReader : Type 0 where
  pub left : List ℕ
  pub most : ℕ
  pub fails : List ℕ
  pub calls : ℕ
  pub faults : ℕ

-- the reader after a read that gave so many bytes
abbrev pub after_read : ListReader → ℕ → ListReader
after_read r n = record r { left = drop n r.left; calls = next_count r.calls }

-- the reader after a read that failed
abbrev pub after_failed_read : ListReader → ListReader
after_failed_read r = record r { calls = next_count r.calls; faults = next_count r.faults }

-- a list that is written: what it got, its room, the most that a write takes, the calls that fail,
-- and counts
pub record ListWriter : Type 0 where
  pub got : List ℕ
  pub room : ℕ
  pub most : ℕ
  pub fails : List ℕ
  pub calls : ℕ
  pub faults : ℕ
  pub empty_takes : ℕ

-- a count of empty takes after so many bytes of a piece were taken
abbrev pub empty_takes_after : ℕ → ℕ → List ℕ → ℕ
empty_takes_after count n piece = if is_empty_take n piece then next_count count else count

-- the writer after a write that took so many bytes of a piece
abbrev pub after_write : ListWriter → ℕ → List ℕ → ListWriter
after_write w n piece =
    record w {
      got = w.got ++ take n piece;
      calls = next_count w.calls;
      empty_takes = empty_takes_after w.empty_takes n piece;
    }

-- the writer after a write that failed
abbrev pub after_failed_write : ListWriter → ListWriter
after_failed_write w = record w { calls = next_count w.calls; faults = next_count w.faults }

-- a list that is written and never fails
pub record SafeWriter : Type 0 where
  pub got : List ℕ
  pub room : ℕ
  pub most : ℕ
  pub empty_takes : ℕ

-- the writer after a write that took so many bytes of a piece
abbrev pub after_safe_write : SafeWriter → ℕ → List ℕ → SafeWriter
after_safe_write w n piece =
    record w { got = w.got ++ take n piece; empty_takes = empty_takes_after w.empty_takes n piece }
