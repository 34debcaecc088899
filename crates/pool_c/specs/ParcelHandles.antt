-- What a call does by the handle of a parcel.
use Rattle.std.specs.Prelude.{◌≡◌, ℕ, ℤ, ◌==◌, if◌then◌else◌, ⊤, Option, Some, None, Result, Ok, Err}
use Rattle.pool_member.specs.declared.member.Member.{Member}
use Rattle.pool_c.specs.declared.buffer.PoolBuffer.{PoolBuffer}
use Rattle.pool_c.specs.declared.codes.Refusal.{Refusal}
use Rattle.pool_c.specs.declared.codes.Refusal.TheVariants.{Occupied}
use Rattle.pool_c.specs.declared.held.Common.{Common}
use Rattle.pool_c.specs.declared.carried.Carried.{Carried}
use Rattle.pool_c.specs.declared.parcel_handle.PoolParcel.{PoolParcel}
use Rattle.pool_c.specs.declared.handle.PoolThread.{PoolThread}
use Rattle.pool_c.specs.Codes.{code_of, ok}
use Rattle.pool_c.specs.Handles.{Acts, handle_refusal}
use Rattle.pool_c.specs.Holding.{Holding}
use Rattle.pool_c.specs.Parcels.{Accepts, IsOf, Parts}

-- this parcel is behind the handle
pub record HasParcel (h : PoolParcel) (p : Carried) : Type 0 where
  pub ready : h.state ≡ 1
  pub held : h.slot.held ≡ Some p

-- nothing is behind it
pub record HasNone (h : PoolParcel) : Type 0 where
  pub empty : h.state ≡ 0
  pub held : h.slot.held ≡ None

-- why a handle in this state gets no parcel
abbrev pub room_refusal : ℕ → Option Refusal
room_refusal state = if state == 0 then None else Some Occupied

-- ---- The making of one.

-- the parcel that was made is behind the handle, which else is as it was
abbrev pub IsPut : PoolParcel → PoolParcel → Result Carried Refusal → Type 0
IsPut old new (Ok p) = HasParcel new p
IsPut old new (Err why) = new ≡ old

-- the same answer, with nothing to give out
abbrev pub done : {A : Type 0} → Result A Refusal → Result ⊤ Refusal
done (Ok value) = Ok (tt {0})
done (Err why) = Err why

-- a parcel of a buffer was made, or refused
pub record PartsInto (b : PoolBuffer) (to : ℕ) (was is : PoolParcel) (c : Common)
    (old new : Member) (answer : Result ⊤ Refusal) : Type 0 where
  pub made : Result Carried Refusal
  pub told : answer ≡ done made
  pub put : IsPut was is made
  pub parts : Parts b to c old new made

-- where the handle of the parcel is empty the thread makes one; else nothing changed
abbrev pub PartsIf : Option Refusal → PoolBuffer → ℕ → PoolThread → PoolThread → PoolParcel →
    PoolParcel → ℤ → Type 0
PartsIf None b to old new was is code = Acts old new code (PartsInto b to was is)
PartsIf (Some why) b to old new was is code = (code ≡ code_of why) × (new ≡ old) × (is ≡ was)

-- ---- The accepting of one.

-- where a parcel has the name of a thread's pool, it is of that pool
abbrev pub IsKnownBy : Option Holding → Option Carried → Type 0
IsKnownBy (Some h) (Some p) = p.pool ≡ h.common.name → IsOf h.common p
IsKnownBy (Some h) None = ⊤
IsKnownBy None p = ⊤

-- the handle is empty after its parcel was accepted, and else is as it was
abbrev pub IsSpent : {A : Type 0} → PoolParcel → PoolParcel → Result A Refusal → Type 0
IsSpent old new (Ok value) = HasNone new
IsSpent old new (Err why) = (new.state ≡ old.state) × (new.slot.held ≡ old.slot.held)

-- the parcel behind a handle was accepted, or refused
pub record AcceptsFrom (was is : PoolParcel) (c : Common) (old new : Member)
    (answer : Result PoolBuffer Refusal) : Type 0 where
  pub parcel : Carried
  pub had : HasParcel was parcel
  pub spent : IsSpent was is answer
  pub accepts : Accepts parcel c old new answer

-- where there is no parcel for a call, nothing changed
abbrev pub AcceptsIf : Option Refusal → PoolParcel → PoolParcel → Common → Member → Member →
    Result PoolBuffer Refusal → Type 0
AcceptsIf None was is c old new answer = AcceptsFrom was is c old new answer
AcceptsIf (Some why) was is c old new answer = (answer ≡ Err why) × (new ≡ old) × (is ≡ was)

-- ---- The leaving of one.

-- the parcel was left; or there was none to leave, and nothing changed
abbrev pub LeavesParcelIf : Option Refusal → PoolParcel → PoolParcel → ℤ → Type 0
LeavesParcelIf None old new code = (code ≡ ok) × HasNone new
LeavesParcelIf (Some why) old new code = (code ≡ code_of why) × (new ≡ old)

abbrev pub LeavesParcel : PoolParcel → PoolParcel → ℤ → Type 0
LeavesParcel old new code = LeavesParcelIf (handle_refusal old.state) old new code
