-- The text of a stream's frames, and the line of a refusal.
use Rattle.std.specs.Prelude.{ℕ, ◌+◌, List, [], ◌∷◌, ◌++◌, length, codes, decimal}
use Rattle.sha2.specs.Sha256.{sha256}
use Rattle.pool_law.specs.Text.{Text, line, shown_bytes}
use Rattle.frame_core.specs.declared.frame.FrameNo.{FrameNo}
use Rattle.frame_core.specs.declared.frame.FrameNo.TheVariants.{Length, Frames, Stream, Inside}

-- the line of a frame: its number, its length and its digest, which is shown in hexadecimal
abbrev pub line_of : ℕ → ℕ → List ℕ → Text
line_of number len digest = line (decimal number ∷ decimal len ∷ shown_bytes digest ∷ [])

-- the lines of frames, the first of which has this number
abbrev pub frame_lines : ℕ → List (List ℕ) → Text
frame_lines number [] = []
frame_lines number (frame ∷ frames) =
    line_of number (length frame) (sha256 frame) ++ frame_lines (number + 1) frames

-- the last line
abbrev pub last_line : ℕ → Text
last_line frames = line (codes "frames" ∷ decimal frames ∷ [])

-- the text of frames
abbrev pub text_of : List (List ℕ) → Text
text_of frames = frame_lines 0 frames ++ last_line (length frames)

-- what is said of a refusal
abbrev pub refusal_words : FrameNo → List Text
refusal_words (Length number) = codes "length" ∷ decimal number ∷ []
refusal_words Frames = codes "frames" ∷ []
refusal_words Stream = codes "stream" ∷ []
refusal_words (Inside number) = codes "frame" ∷ decimal number ∷ []

-- the line of a refusal
abbrev pub refusal_line : FrameNo → Text
refusal_line why = line (codes "refused" ∷ refusal_words why)
