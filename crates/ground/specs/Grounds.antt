-- The grounds on which the chunks of a pool stand.
use Rattle.std.specs.Prelude.{List}
use Rattle.ground.specs.Ground.{Origin}

-- the ground of each chunk place, by arena and then by chunk
abbrev pub Grounds : Type 0
Grounds = List (List Origin)
