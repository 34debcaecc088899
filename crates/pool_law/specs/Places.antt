-- Where regions lie.
use Rattle.std.specs.Prelude.{◌≡◌, ◌+◌, ◌<◌, length, Option, Some, option_and_then, slice_get}
use Rattle.ground.specs.Ground.{Origin, Segment}
use Rattle.ground.specs.Grounds.{Grounds}
use Rattle.pool_law.specs.declared.id.Place.{Place}

-- two places overlap: where neither is empty, they have a byte in common
pub record Overlap (a b : Place) : Type 0 where
  pub arena : a.arena ≡ b.arena
  pub chunk : a.chunk ≡ b.chunk
  pub first : a.offset < b.offset + b.len
  pub second : b.offset < a.offset + a.len

-- the ground of the chunk place that a place names, if there is one
abbrev pub ground_of : Grounds → Place → Option Origin
ground_of grounds place =
    option_and_then (λ chunks. slice_get chunks place.chunk) (slice_get grounds place.arena)

-- a piece is the place's bytes, on the ground of the place's chunk
pub record IsInPlace (grounds : Grounds) (place : Place) (piece : Segment) : Type 0 where
  pub on_ground : ground_of grounds place ≡ Some piece.origin
  pub start : piece.start ≡ place.offset
  pub size : length piece.bytes ≡ place.len
