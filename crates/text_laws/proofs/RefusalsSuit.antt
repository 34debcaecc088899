-- Refusals tell nothing of a command that is done.
use Rattle.std.proofs.Common.{◌≡◌, ℕ, List, [], ◌∷◌, ◌++◌, subst, true, false, Some, Ok, Err}
use Rattle.std.specs.Prelude.{map, Result}
use Rattle.std.proofs.lemmas.Bool.{cond_both}
use Rattle.pool_law.specs.declared.command.Command.{Command}
use Rattle.pool_law.specs.declared.run.Reply.{Reply}
use Rattle.pool_law.specs.declared.run.Shape.{Shape}
use Rattle.pool_law.specs.LaneStates.{LaneState, composite_from}
use Rattle.pool_law.specs.Refusals.{Refusal, composite, first_refusal, illegal, refusals, taken, too_long, unbound}
use Rattle.arena_laws.specs.Slots.{EachOf}
use Rattle.run_text.specs.Answering.{Tale, tale_of}

-- a reply that tells nothing of a done command
abbrev pub IsRefusal : Reply → Type 0
IsRefusal Reply.Ok = ⊥
IsRefusal (Reply.OkPlace size place) = ⊥
IsRefusal (Reply.OkBytes bytes) = ⊥
IsRefusal (Reply.OkNumber k) = ⊥
IsRefusal _ = Unit {0}

-- a reply tells of a command what is to be told of it
abbrev pub Suits : Command → Reply → Type 0
Suits c Reply.Ok = tale_of c ≡ Tale.Bare
Suits c (Reply.OkPlace size place) = (tale_of c ≡ Tale.OfPlace) × (place.len ≡ size)
Suits c (Reply.OkBytes bytes) = tale_of c ≡ Tale.OfBytes
Suits c (Reply.OkNumber k) = tale_of c ≡ Tale.OfNumber
Suits c _ = Unit {0}

pub refusal-suits : (c : Command) (reply : Reply) → IsRefusal reply → Suits c reply
refusal-suits c Reply.Ok h = absurd h
refusal-suits c (Reply.OkPlace size place) h = absurd h
refusal-suits c (Reply.OkBytes bytes) h = absurd h
refusal-suits c (Reply.OkNumber k) h = absurd h
refusal-suits c _ h = tt

-- a result, if it is a refusal, tells nothing
abbrev pub ErrRefuses : (A : Type 0) → Result A Reply → Type 0
ErrRefuses A (Ok a) = Unit {0}
ErrRefuses A (Err reply) = IsRefusal reply

abbrev Refuses : Refusal → Type 0
Refuses r = IsRefusal r.reply

pub first-suits : (rs : List Refusal) (reply : Reply) → EachOf Refuses rs → first_refusal rs ≡ Some reply
    → IsRefusal reply
first-suits [] reply h e = absurd (cc e)
first-suits (r ∷ rs) reply h e =
    cond_both r.comes (Some r.reply) (first_refusal rs) (λ z. z ≡ Some reply → IsRefusal reply)
    (λ _ is. let same : r.reply ≡ reply = cc is in subst IsRefusal same h.0)
    (λ _ is. first-suits rs reply h.1 is)
    e

each-map : (f : ℕ → Refusal) → ((n : ℕ) → Refuses (f n)) → (ns : List ℕ) → EachOf Refuses (map f ns)
each-map f h [] = tt
each-map f h (n ∷ ns) = (h n, each-map f h ns)

each-append : (xs ys : List Refusal) → EachOf Refuses xs → EachOf Refuses ys → EachOf Refuses (xs ++ ys)
each-append [] ys a b = b
each-append (x ∷ xs) ys a b = (a.0, each-append xs ys a.1 b)

pub refusals-suit : (shape : Shape) (s : LaneState) (c : Command) → EachOf Refuses (refusals shape s c)
refusals-suit shape s (Command.Alloc new n) = (tt, (tt, tt))
refusals-suit shape s (Command.Set v i bytes false) = (tt, (tt, (tt, tt)))
refusals-suit shape s (Command.Set v i bytes true) = (tt, (tt, (tt, (tt, tt))))
refusals-suit shape s (Command.Get v i n false) = (tt, (tt, (tt, tt)))
refusals-suit shape s (Command.Get v i n true) = (tt, (tt, (tt, (tt, tt))))
refusals-suit shape s (Command.Write v bytes) = (tt, (tt, (tt, tt)))
refusals-suit shape s (Command.Read v n) = (tt, (tt, (tt, tt)))
refusals-suit shape s (Command.Slice new v i n retained) = (tt, (tt, (tt, (tt, (tt, tt)))))
refusals-suit shape s (Command.Dup new v) = (tt, (tt, (tt, (tt, tt))))
refusals-suit shape s (Command.Retain v) = (tt, (tt, tt))
refusals-suit shape s (Command.Release v) = (tt, (tt, tt))
refusals-suit shape s (Command.Refcnt v) = (tt, (tt, tt))
refusals-suit shape s (Command.Touch v) = (tt, (tt, (tt, tt)))
refusals-suit shape s (Command.Forget v) = (tt, tt)
refusals-suit shape s (Command.Send v to) = (tt, (tt, (tt, tt)))
refusals-suit shape s (Command.Recv new sender) = tt
refusals-suit shape s (Command.Compose new vs) =
    let first : List Refusal = map (unbound s) vs ++ (taken s new ∷ map (composite s) vs) in
    each-append (first ++ map (illegal s) vs) (too_long shape (composite_from s vs) ∷ [])
    (each-append first (map (illegal s) vs)
    (each-append (map (unbound s) vs) (taken s new ∷ map (composite s) vs) (each-map (unbound s) (λ n. tt) vs)
    (tt, each-map (composite s) (λ n. tt) vs)) (each-map (illegal s) (λ n. tt) vs))
    (tt, tt)
refusals-suit shape s (Command.Add c v) = (tt, (tt, (tt, (tt, (tt, (tt, (tt, tt)))))))
refusals-suit shape s (Command.Capacity v n) = (tt, (tt, (tt, (tt, tt))))
