-- The lines of replies, chunks and leaks are shown, and how they begin.
use Rattle.std.proofs.Common.{◌≡◌, ℕ, suc, ◌+◌, ◌<◌, ◌^◌, true, false, List, [], ◌∷◌, codes, decimal, length, map, refl, arith}
use Rattle.std.specs.Prelude.{nat_eq}
use Rattle.std.specs.List.{All, starts_with}
use Rattle.std.proofs.lemmas.List.Elements.{All-head, All-tail}
use Rattle.pool_law.specs.declared.command.Command.{Command}
use Rattle.pool_law.specs.declared.report.Access.{Access}
use Rattle.pool_law.specs.declared.report.ChunkEnd.{ChunkEnd}
use Rattle.pool_law.specs.declared.report.Leak.{Leak}
use Rattle.pool_law.specs.declared.report.ListName.{ListName}
use Rattle.pool_law.specs.declared.run.Reply.{Reply}
use Rattle.pool_law.specs.Text.{command_word, dotted, list_word, plus, reply_words, spaced}
use Rattle.run_text.specs.Answering.{FitLanes, FitReplies, FitsReply, lanes_texts, reply_texts}
use Rattle.run_text.specs.Ending.{FitsAccess, FitsChunk, FitsLeak, access_text, access_words, chunk_text, leak_texts, leak_words, leaks_texts}
use Rattle.run_text.specs.Starting.{AreShown, is_shown}
use Rattle.run_text.proofs.ShownLemmas.{AreShown-append, shown-append, shown-bytes, shown-cons, shown-decimal, shown-spaced, small}

dot : (a b : ℕ) → a < 2 ^ 64 → b < 2 ^ 64 → is_shown (dotted a b) ≡ true
dot a b low least =
    shown-append (decimal a) (46 ∷ decimal b) (shown-decimal a low)
    (shown-cons 46 (decimal b) refl (shown-decimal b least))

plussed : (a b : ℕ) → a < 2 ^ 32 → b < 2 ^ 32 → is_shown (plus a b) ≡ true
plussed a b low least =
    shown-append (decimal a) (43 ∷ decimal b) (small a low) (shown-cons 43 (decimal b) refl (small b least))

-- ---- Replies.

shown-command : (c : Command) → is_shown (command_word c) ≡ true
shown-command (Command.Alloc name size) = refl
shown-command (Command.Set name at bytes true) = refl
shown-command (Command.Set name at bytes false) = refl
shown-command (Command.Get name at len true) = refl
shown-command (Command.Get name at len false) = refl
shown-command (Command.Write name bytes) = refl
shown-command (Command.Read name len) = refl
shown-command (Command.Slice fresh name at len true) = refl
shown-command (Command.Slice fresh name at len false) = refl
shown-command (Command.Dup fresh name) = refl
shown-command (Command.Retain name) = refl
shown-command (Command.Release name) = refl
shown-command (Command.Refcnt name) = refl
shown-command (Command.Touch name) = refl
shown-command (Command.Forget name) = refl
shown-command (Command.Send name lane) = refl
shown-command (Command.Recv fresh lane) = refl
shown-command (Command.Compose fresh names) = refl
shown-command (Command.Add whole name) = refl
shown-command (Command.Capacity name size) = refl

shown-reply : (c : Command) (reply : Reply) → FitsReply c reply → AreShown (reply_words reply)
shown-reply c (Reply.OkPlace size place) fits = (
  refl,
  (
    small size fits.2,
    (
      shown-append (dotted place.arena place.chunk) (43 ∷ decimal place.offset)
          (dot place.arena place.chunk (omega (arith, fits.3.0)) (omega (arith, fits.3.1)))
          (shown-cons 43 (decimal place.offset) refl (small place.offset fits.3.2)),
      tt,
    ),
  ),
)
shown-reply c (Reply.OkBytes bytes) fits = (refl, (shown-bytes bytes, tt))
shown-reply c (Reply.OkNumber k) fits = (refl, (small k fits.1, tt))
shown-reply c (Reply.Busy number) fits = (refl, (shown-decimal number fits, tt))
shown-reply c reply fits = (refl, tt)

shown-replies : (lane at : ℕ) (cs : List Command) (rs : List Reply) → lane < 2 ^ 64 → at + length cs < 2 ^ 64
    → FitReplies cs rs → AreShown (reply_texts lane at cs rs)
shown-replies lane at [] rs low many fits = tt
shown-replies lane at (c ∷ cs) [] low many fits = tt
shown-replies lane at (c ∷ cs) (r ∷ rs) low many fits = (
  shown-spaced (dotted lane at ∷ command_word c ∷ reply_words r)
      (dot lane at low (omega (arith, many)), (shown-command c, shown-reply c r fits.0)),
  shown-replies lane (suc at) cs rs low (omega (arith, many)) fits.1,
)

-- as many commands in each lane as there may be
abbrev pub AreShort : List (List Command) → Type 0
AreShort [] = Unit {0}
AreShort (cs ∷ css) = (length cs < 2 ^ 64) × AreShort css

pub shown-lanes : (lane : ℕ) (css : List (List Command)) (all : List (List Reply)) → lane + length css < 2 ^ 64
    → AreShort css → FitLanes css all → AreShown (lanes_texts lane css all)
shown-lanes lane [] all many few fits = tt
shown-lanes lane (cs ∷ css) [] many few fits = tt
shown-lanes lane (cs ∷ css) (rs ∷ all) many few fits =
    AreShown-append (reply_texts lane 0 cs rs) (lanes_texts (suc lane) css all)
    (shown-replies lane 0 cs rs (omega (arith, many)) (omega (arith, few.0)) fits.0)
    (shown-lanes (suc lane) css all (omega (arith, many)) few.1 fits.1)

-- ---- Chunks.

shown-list : (list : ListName) → is_shown (list_word list) ≡ true
shown-list ListName.QInit = refl
shown-list ListName.Q000 = refl
shown-list ListName.Q025 = refl
shown-list ListName.Q050 = refl
shown-list ListName.Q075 = refl
shown-list ListName.Q100 = refl

shown-chunk : (c : ChunkEnd) → FitsChunk c → is_shown (chunk_text c) ≡ true
shown-chunk c fits =
    shown-spaced
    (codes "chunk" ∷ dotted c.arena c.chunk ∷ list_word c.list ∷ codes "used" ∷ decimal c.used ∷ codes "free"
    ∷ decimal c.free ∷ []) (
      refl,
      (
        dot c.arena c.chunk (omega (arith, fits.0)) (omega (arith, fits.1)),
        (shown-list c.list, (refl, (small c.used fits.2, (refl, (small c.free fits.3, tt))))),
      ),
    )

pub shown-chunks : (chunks : List ChunkEnd) → All FitsChunk chunks → AreShown (map chunk_text chunks)
shown-chunks [] fits = tt
shown-chunks (c ∷ chunks) fits =
    (shown-chunk c (All-head FitsChunk c chunks fits), shown-chunks chunks (All-tail FitsChunk c chunks fits))

pub chunk_begins : (c : ChunkEnd) → starts_with nat_eq (chunk_text c) (codes "chunk ") ≡ true
chunk_begins c = refl

-- ---- Leaks.

shown-access : (a : Access) → FitsAccess a → is_shown (access_text a) ≡ true
shown-access (Access.Set lane offset len) fits =
    shown-cons 32 (spaced (access_words (Access.Set lane offset len))) refl
    (shown-spaced (access_words (Access.Set lane offset len))
    (small lane fits.0, (refl, (plussed offset len fits.1 fits.2, tt))))
shown-access (Access.Get lane offset len) fits =
    shown-cons 32 (spaced (access_words (Access.Get lane offset len))) refl
    (shown-spaced (access_words (Access.Get lane offset len))
    (small lane fits.0, (refl, (plussed offset len fits.1 fits.2, tt))))
shown-access (Access.Touch lane) fits =
    shown-cons 32 (spaced (access_words (Access.Touch lane))) refl
    (shown-spaced (access_words (Access.Touch lane)) (small lane fits, (refl, tt)))

shown-accesses : (records : List Access) → All FitsAccess records → AreShown (map access_text records)
shown-accesses [] fits = tt
shown-accesses (a ∷ records) fits =
    (shown-access a (All-head FitsAccess a records fits), shown-accesses records (All-tail FitsAccess a records fits))

shown-leak : (l : Leak) → FitsLeak l → AreShown (leak_texts l)
shown-leak l fits = (
  shown-spaced (codes "leak" ∷ leak_words l) (
    refl,
    (
      dot l.lane l.serial (omega (arith, fits.0)) (omega (arith, fits.1)),
      (
        refl,
        (
          small l.capacity fits.2,
          (
            refl,
            (
              small l.count fits.3,
              (refl, (shown-decimal (length l.records) fits.4, (refl, (shown-decimal l.dropped fits.5, tt)))),
            ),
          ),
        ),
      ),
    ),
  ),
  shown-accesses l.records fits.6,
)

pub shown-leaks : (leaks : List Leak) → All FitsLeak leaks → AreShown (leaks_texts leaks)
shown-leaks [] fits = tt
shown-leaks (l ∷ leaks) fits =
    AreShown-append (leak_texts l) (leaks_texts leaks) (shown-leak l (All-head FitsLeak l leaks fits))
    (shown-leaks leaks (All-tail FitsLeak l leaks fits))
