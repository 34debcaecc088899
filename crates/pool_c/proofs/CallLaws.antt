-- How calls of a thread, and those by a handle, come to their answers.
use Rattle.std.proofs.Common.{◌≡◌, ℤ, to_z, of_z, w32, Option, Some, None, refl, sym, ap, ◌∙◌, subst}
use Rattle.std.specs.Prelude.{⊤, Result, Ok, Err, MatchResult}
use Rattle.pool_member.specs.declared.member.Member.{Member}
use Rattle.pool_c.specs.declared.codes.Refusal.{Refusal}
use Rattle.pool_c.specs.declared.codes.Refusal.TheVariants as no
use Rattle.pool_c.specs.declared.held.Common.{Common}
use Rattle.pool_c.specs.declared.handle.PoolThread.{PoolThread}
use Rattle.pool_c.specs.Answers.{Answers}
use Rattle.pool_c.specs.Codes.{answer_code, code_of}
use Rattle.pool_c.specs.Handles.{Calls, CallsIf, handle_refusal, HasThread}
use Rattle.pool_c.specs.Holding.{behind, Holding}

-- it was not
pub begun_call : {A : Type 0} (o : Option Refusal) (answer : Result A Refusal) (old new : Member) (done : A → Type 0)
    (stopped : Refusal → Type 0) → o ≡ None → MatchResult answer done stopped
    → Answers o answer old new done stopped
begun_call o answer old new done stopped is did =
    subst (λ p. Answers p answer old new done stopped) (sym is) did

-- a code is the same in the machine's words
same_code : (why : Refusal) → to_z w32 (of_z w32 (code_of why)) ≡ code_of why
same_code no.Busy = refl
same_code no.NotHere = refl
same_code no.Range = refl
same_code no.Spent = refl
same_code no.TooLarge = refl
same_code no.NoHandle = refl
same_code no.Full = refl
same_code no.Worn = refl
same_code no.NoThread = refl
same_code no.OutOfOrder = refl
same_code no.Shape = refl
same_code no.Unsettled = refl
same_code no.NoMemory = refl
same_code no.Empty = refl
same_code no.InCall = refl
same_code no.Occupied = refl
same_code no.Threads = refl
same_code no.Shared = refl

same_answer : {A : Type 0} (r : Result A Refusal) → to_z w32 (of_z w32 (answer_code r)) ≡ answer_code r
same_answer (Ok x) = refl
same_answer (Err why) = same_code why

pub told_as : {A : Type 0} (n : ℤ) (r : Result A Refusal) → n ≡ answer_code r
    → to_z w32 (of_z w32 n) ≡ answer_code r
told_as n r e = ap (λ m. to_z w32 (of_z w32 m)) e ∙ same_answer r

-- a call that gives nothing out
pub nothing_out : (r : Result ⊤ Refusal) → MatchResult r (λ x. tt {0} ≡ x) (λ why. tt {0} ≡ tt)
nothing_out (Ok x) = refl
nothing_out (Err why) = refl

-- a call by a handle that has a thread for it
module _ {A : Type 0} (old new : PoolThread) (was is : A) (code : ℤ)
    (does : Common → Member → Member → Result A Refusal → Type 0) where
  pub a_call : (h i : Holding) (answer : Result A Refusal) → handle_refusal old.state ≡ None
      → HasThread old h.common h.member → new.slot.held ≡ Some i → new.state ≡ 1 → i.common ≡ h.common
      → code ≡ answer_code answer → MatchResult answer (λ x. is ≡ x) (λ why. is ≡ was)
      → does h.common h.member i.member answer → Calls old new was is code does
  a_call h i answer some had held ready same told out did =
      subst (λ o. CallsIf o old new was is code does) (sym some)
      (record {
        common = h.common;
        before = h.member;
        after = i.member;
        answer = answer;
        had = had;
        has = record { ready = ready; held = held ∙ ap (λ c. Some (behind c i.member)) same };
        told = told;
        out = out;
        does_so = did;
      })
