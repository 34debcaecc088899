-- What a call does by a handle.
use Rattle.std.specs.Prelude.{◌≡◌, ℕ, ℤ, ◌==◌, if◌then◌else◌, ⊤, Option, Some, None, Result, MatchResult}
use Rattle.pool_member.specs.declared.member.Member.{Member}
use Rattle.pool_c.specs.declared.codes.Refusal.{Refusal}
use Rattle.pool_c.specs.declared.codes.Refusal.TheVariants.{Empty, InCall}
use Rattle.pool_c.specs.declared.held.Common.{Common}
use Rattle.pool_c.specs.declared.handle.PoolThread.{PoolThread}
use Rattle.pool_c.specs.Holding.{behind}
use Rattle.pool_c.specs.Codes.{answer_code, code_of, ok}

-- why a handle in this state has no thread for a call: nothing is behind it, or it is in a call
abbrev pub handle_refusal : ℕ → Option Refusal
handle_refusal state =
    if state == 1 then None else (if state == 0 then Some Empty else Some InCall)

-- this thread of a pool is behind the handle, ready for a call
pub record HasThread (t : PoolThread) (c : Common) (m : Member) : Type 0 where
  pub ready : t.state ≡ 1
  pub held : t.slot.held ≡ Some (behind c m)

-- nothing is behind it
pub record HasNothing (t : PoolThread) : Type 0 where
  pub empty : t.state ≡ 0
  pub held : t.slot.held ≡ None

-- the thread that was behind the handle did so and is there again, and what was answered was told
pub record HasCalled {A : Type 0} (old new : PoolThread) (was is : A) (code : ℤ)
    (does : Common → Member → Member → Result A Refusal → Type 0) : Type 0 where
  pub common : Common
  pub before : Member
  pub after : Member
  pub answer : Result A Refusal
  pub had : HasThread old common before
  pub has : HasThread new common after
  pub told : code ≡ answer_code answer
  pub out : MatchResult answer (λ value. is ≡ value) (λ why. is ≡ was)
  pub does_so : does common before after answer

-- the same, or the handle has no thread for a call, and nothing changed
abbrev pub CallsIf : {A : Type 0} → Option Refusal → PoolThread → PoolThread → A → A → ℤ →
    (Common → Member → Member → Result A Refusal → Type 0) → Type 0
CallsIf None old new was is code does = HasCalled old new was is code does
CallsIf (Some why) old new was is code does = (code ≡ code_of why) × (new ≡ old) × (is ≡ was)

abbrev pub Calls : {A : Type 0} → PoolThread → PoolThread → A → A → ℤ →
    (Common → Member → Member → Result A Refusal → Type 0) → Type 0
Calls old new was is code does = CallsIf (handle_refusal old.state) old new was is code does

-- the same of a call that gives nothing out
abbrev pub Acts : PoolThread → PoolThread → ℤ →
    (Common → Member → Member → Result ⊤ Refusal → Type 0) → Type 0
Acts old new code does = Calls {A = ⊤} old new tt tt code does

-- the thread that was behind the handle was left; or there was none to leave, and nothing changed
abbrev pub LeavesIf : Option Refusal → PoolThread → PoolThread → ℤ → Type 0
LeavesIf None old new code = (code ≡ ok) × HasNothing new
LeavesIf (Some why) old new code = (code ≡ code_of why) × (new ≡ old)

abbrev pub Leaves : PoolThread → PoolThread → ℤ → Type 0
Leaves old new code = LeavesIf (handle_refusal old.state) old new code
