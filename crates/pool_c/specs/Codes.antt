-- The numbers by which C is told of an answer.
use Rattle.std.specs.Prelude.{ℤ, pos, Result, Ok, Err}
use Rattle.pool_c.specs.declared.codes.Refusal.{Refusal}
use Rattle.pool_c.specs.declared.codes.Refusal.TheVariants as no

-- the call did its work
abbrev pub ok : ℤ
ok = pos 0

-- it did not, for this reason
abbrev pub code_of : Refusal → ℤ
code_of no.Busy = pos 1
code_of no.NotHere = pos 2
code_of no.Range = pos 3
code_of no.Spent = pos 4
code_of no.TooLarge = pos 5
code_of no.NoHandle = pos 6
code_of no.Full = pos 7
code_of no.Worn = pos 8
code_of no.NoThread = pos 9
code_of no.OutOfOrder = pos 10
code_of no.Shape = pos 11
code_of no.Unsettled = pos 12
code_of no.NoMemory = pos 13
code_of no.Empty = pos 14
code_of no.InCall = pos 15
code_of no.Occupied = pos 16
code_of no.Threads = pos 17
code_of no.Shared = pos 18

-- either
abbrev pub answer_code : {A : Type 0} → Result A Refusal → ℤ
answer_code (Ok value) = ok
answer_code (Err why) = code_of why
