-- The names of a lane are numbered from 0, in order of first mention.
use Rattle.std.specs.Prelude.{ℕ, if◌then◌else◌, List, [], ◌∷◌, ◌++◌, length, position, unwrap_or, is_some}
use Rattle.std.specs.Str.{bytes_eq}

-- the names that were mentioned, in this order
abbrev pub Mentions : Type 0
Mentions = List (List ℕ)

-- the number of a name: its place, or the next one
unfoldable pub number_of : Mentions → List ℕ → ℕ
number_of names name = unwrap_or (position (bytes_eq name) names) (length names)

-- the names once this one is mentioned
unfoldable pub with_name : Mentions → List ℕ → Mentions
with_name names name =
    if is_some (position (bytes_eq name) names) then names else names ++ name ∷ []
