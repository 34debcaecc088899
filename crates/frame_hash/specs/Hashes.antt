-- What is told of a frame.
use Rattle.std.specs.Prelude.{ℕ, List, length}
use Rattle.sha2.specs.Sha256.{sha256}
use Rattle.frame_hash.specs.declared.hashes.FrameHash.{FrameHash}

-- its length and its digest
abbrev pub hash_of : List ℕ → FrameHash
hash_of frame = record { len = length frame; digest = sha256 frame }
