-- Replies that are the same.
use Rattle.std.proofs.Common.{◌≡◌, Bool, true, false, refl, ap, eqb-true}
use Rattle.std.specs.Prelude.{◌==◌, if◌then◌else◌, Option, Some, None}
use Rattle.pool_law.specs.declared.run.Reply.{Reply}
use Rattle.pool_law.specs.Same.{same_place}
use Rattle.pool_law.specs.LaneStates.{LaneState}
use Rattle.pool_law.proofs.SameLemmas.{and-first, and-second, same_place-is, same_bytes-is}
use Rattle.pool_law.proofs.CompositeLemmas.{same_bytes-refl}
use Rattle.pool_law.proofs.PatternLemmas.{both_true, same_number, same_place-refl}
use Rattle.lane_reader.specs.Replying.{same_reply}
use Rattle.lane_reader.specs.Running.{where_answered}

-- a reply is the same as itself
pub same_reply-self : (a : Reply) → same_reply a a ≡ true
same_reply-self Reply.Ok = refl
same_reply-self (Reply.OkPlace size place) = both_true _ _ (same_number size) (same_place-refl place)
same_reply-self (Reply.OkBytes bytes) = same_bytes-refl bytes
same_reply-self (Reply.OkNumber n) = same_number n
same_reply-self Reply.Kept = refl
same_reply-self Reply.Freed = refl
same_reply-self Reply.Unbound = refl
same_reply-self Reply.Taken = refl
same_reply-self Reply.Illegal = refl
same_reply-self Reply.Range = refl
same_reply-self Reply.TooLarge = refl
same_reply-self Reply.Handles = refl
same_reply-self Reply.Full = refl
same_reply-self (Reply.Busy n) = same_number n
same_reply-self Reply.Nothing = refl
same_reply-self Reply.Composite = refl
same_reply-self Reply.Plain = refl
same_reply-self Reply.Stopped = refl

-- replies that are the same are equal
pub same_reply-is : (a b : Reply) → same_reply a b ≡ true → a ≡ b
same_reply-is Reply.Ok Reply.Ok e = refl
same_reply-is (Reply.OkPlace size place) (Reply.OkPlace size' place') e =
    let first : size ≡ size' = eqb-true size size' (and-first (size == size') (same_place place place') e) in
    let rest : place ≡ place' = same_place-is place place' (and-second (size == size') (same_place place place') e) in
    λ i. Reply.OkPlace (first i) (rest i)
same_reply-is (Reply.OkBytes bytes) (Reply.OkBytes bytes') e =
    let same : bytes ≡ bytes' = same_bytes-is bytes bytes' e in λ i. Reply.OkBytes (same i)
same_reply-is (Reply.OkNumber n) (Reply.OkNumber n') e =
    let same : n ≡ n' = eqb-true n n' e in λ i. Reply.OkNumber (same i)
same_reply-is Reply.Kept Reply.Kept e = refl
same_reply-is Reply.Freed Reply.Freed e = refl
same_reply-is Reply.Unbound Reply.Unbound e = refl
same_reply-is Reply.Taken Reply.Taken e = refl
same_reply-is Reply.Illegal Reply.Illegal e = refl
same_reply-is Reply.Range Reply.Range e = refl
same_reply-is Reply.TooLarge Reply.TooLarge e = refl
same_reply-is Reply.Handles Reply.Handles e = refl
same_reply-is Reply.Full Reply.Full e = refl
same_reply-is (Reply.Busy n) (Reply.Busy n') e =
    let same : n ≡ n' = eqb-true n n' e in λ i. Reply.Busy (same i)
same_reply-is Reply.Nothing Reply.Nothing e = refl
same_reply-is Reply.Composite Reply.Composite e = refl
same_reply-is Reply.Plain Reply.Plain e = refl
same_reply-is Reply.Stopped Reply.Stopped e = refl
same_reply-is _ _ e = absurd (cc e)

-- where a next state is found, the answer is this reply
pub answered-this : (reply : Reply) (o : Option (Reply × LaneState)) (next : LaneState) →
    where_answered reply o ≡ Some next → o ≡ Some (reply, next)
answered-this reply None next e = absurd (cc e)
answered-this reply (Some p) next e = go (same_reply p.0 reply) refl e
  where
    go : (b : Bool) → same_reply p.0 reply ≡ b → (if b then Some p.1 else None) ≡ Some next →
        Some p ≡ Some (reply, next)
    go true same is =
        let first : p.0 ≡ reply = same_reply-is p.0 reply same in
        let rest : p.1 ≡ next = cc is in
        λ i. Some (first i, rest i)
    go false other is = absurd (cc is)

-- where none is found, the answer is another
pub answered-other : (reply : Reply) (o : Option (Reply × LaneState)) (next : LaneState) →
    where_answered reply o ≡ None → o ≡ Some (reply, next) → ⊥
answered-other reply o next none is =
    let found : where_answered reply o ≡ (if same_reply reply reply then Some next else None) =
    ap (λ (q : Option (Reply × LaneState)). where_answered reply q) is in
    let same : (if same_reply reply reply then Some next else None) ≡ Some next =
    ap (λ (b : Bool). if b then Some next else None) (same_reply-self reply) in
    absurd (cc (none, found, same))
