-- What a call answered.
use Rattle.std.specs.Prelude.{ℕ}
use Rattle.pool_law.specs.declared.note.Held.{Held}
use Rattle.shared_pool.specs.declared.went.Went.{Went}
use Rattle.shared_pool.specs.declared.went.Went.TheVariants.{Did, Held as Back}

-- it did its work as the note of this number, and this holds of its answer
abbrev pub IfDid : {T B : Type 0} → Went T B → (ℕ → T → Type 0) → Type 0
IfDid (Did number x) P = P number x
IfDid (Back held b) P = Unit {0}

-- another seat was there, and this holds of what comes back
abbrev pub IfHeld : {T B : Type 0} → Went T B → (Held → B → Type 0) → Type 0
IfHeld (Did number x) P = Unit {0}
IfHeld (Back held b) P = P held b
