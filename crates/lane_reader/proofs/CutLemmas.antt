-- How the notes of a lane part into those of its commands: each takes its own of all that are left.
use Rattle.std.proofs.Common.{◌≡◌, ℕ, List, ◌∷◌, take, drop, Option, Some, None, refl, sym, ap, ◌∙◌, subst}
use Rattle.std.specs.Prelude.{option_and_then}
use Rattle.std.proofs.Math.ListN.{take-append-drop}
use Rattle.pool_law.specs.declared.command.Command.{Command}
use Rattle.pool_law.specs.declared.run.Shape.{Shape}
use Rattle.pool_law.specs.declared.run.Reply.{Reply}
use Rattle.pool_law.specs.LaneLaw.{lane_run, lane_step, pieces}
use Rattle.pool_law.specs.LaneStates.{LaneState}
use Rattle.pool_law.specs.Readers.{ToldNotes}
use Rattle.lane_reader.proofs.TurnGoesOn.{Takes, step-goes}

-- the first command takes so many of the notes, and the others run on behind them
pub record Parts
    (period : ℕ) (shape : Shape) (lane : ℕ) (s : LaneState) (c : Command) (cs : List Command) (n : ℕ) (ns : List ℕ)
    (es : ToldNotes) (replies : List Reply) (last : LaneState) : Type 0
  where
    pub reply : Reply
    pub mid : LaneState
    pub more : List Reply
    pub takes : Takes period shape lane s c es (drop n es) reply mid
    pub runs : lane_run period shape lane mid cs (pieces ns (drop n es)) ≡ Some (more, last)
    pub replied : replies ≡ reply ∷ more

module _ (period : ℕ) (shape : Shape) (lane : ℕ) (s : LaneState) (c : Command) (cs : List Command) (n : ℕ)
    (ns : List ℕ) (es : ToldNotes) (replies : List Reply) (last : LaneState) where
  -- what all are answered, once the others are, and once the first is
  abbrev joined : Reply → List Reply × LaneState → Option (List Reply × LaneState)
  joined reply q = Some (reply ∷ q.0, q.1)

  abbrev on : Reply × LaneState → Option (List Reply × LaneState)
  on p =
      option_and_then (joined p.0) (lane_run period shape lane p.1 cs (pieces ns (drop n es)))

  rest-by : (reply : Reply) (mid : LaneState) → lane_step period shape lane s c (take n es) ≡ Some (reply, mid)
      → (o : Option (List Reply × LaneState)) → lane_run period shape lane mid cs (pieces ns (drop n es)) ≡ o
      → option_and_then (joined reply) o ≡ Some (replies, last)
      → Parts period shape lane s c cs n ns es replies last
  rest-by reply mid is None runs e =
      absurd (let no : ◌≡◌ {A = Option (List Reply × LaneState)} None (Some (replies, last)) = e in cc)
  rest-by reply mid is (Some q) runs e =
      let both : ◌≡◌ {A = List Reply × LaneState} (reply ∷ q.0, q.1) (replies, last) = cc e in
      record {
        reply = reply;
        mid = mid;
        more = q.0;
        takes =
            subst (λ (all : ToldNotes). Takes period shape lane s c all (drop n es) reply mid) (take-append-drop n es)
            (step-goes period shape lane s c (take n es) (drop n es) reply mid is);
        runs = runs ∙ ap (λ (l : LaneState). Some (q.0, l)) (ap (λ (p : List Reply × LaneState). p.1) both);
        replied = sym (ap (λ (p : List Reply × LaneState). p.0) both);
      }

  first-by : (o : Option (Reply × LaneState)) → lane_step period shape lane s c (take n es) ≡ o
      → option_and_then on o ≡ Some (replies, last) → Parts period shape lane s c cs n ns es replies last
  first-by None is e =
      absurd (let no : ◌≡◌ {A = Option (List Reply × LaneState)} None (Some (replies, last)) = e in cc)
  first-by (Some p) is e =
      rest-by p.0 p.1 is (lane_run period shape lane p.1 cs (pieces ns (drop n es))) refl e

  pub first-parts : lane_run period shape lane s (c ∷ cs) (pieces (n ∷ ns) es) ≡ Some (replies, last)
      → Parts period shape lane s c cs n ns es replies last
  first-parts e = first-by (lane_step period shape lane s c (take n es)) refl e
