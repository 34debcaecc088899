-- Values that may not be there.
use Rattle.std.specs.Prelude.{Bool, Option, Some, None, if◌then◌else◌, option_and_then}

-- the second step, if the first gave a value
infixl 10 ◌>>=◌
-- a second value, which may need the first
abbrev pub ◌>>=◌ : {A B : Type 0} → Option A → (A → Option B) → Option B
o >>= f = option_and_then f o

-- nothing, where a test holds
abbrev pub check : Bool → Option (Unit {0})
check test = if test then Some tt else None
