-- What a consolidation spends beside its allotment, what it makes, and how the law reads what follows.
use Rattle.std.proofs.Common.{◌≡◌, ℕ, ◌+◌, ◌*◌, ◌≤◌, List, [], refl, arith, Option, Some, None}
use Rattle.std.specs.Prelude.{Result, Ok, option_and_then}
use Rattle.std.proofs.lemmas.List.Elements.{All-weaker}
use Rattle.pool_law.specs.declared.id.Part.{Part}
use Rattle.pool_law.specs.declared.id.RootId.{RootId}
use Rattle.pool_law.specs.declared.run.Reply.{Reply}
use Rattle.pool_law.specs.declared.run.Shape.{Shape}
use Rattle.pool_law.specs.Composites.{Composite, moved_to, size_of, whole_part}
use Rattle.pool_law.specs.LaneStates.{LaneState}
use Rattle.pool_law.specs.Lanes.{Answer, composed, release_parts}
use Rattle.pool_law.specs.Readers.{Log, ◌>>◌, give}
use Rattle.pool_table.specs.declared.views.SeatView.{SeatView}
use Rattle.composite_buf.proofs.MapLaws.{size_of_cons}
use Rattle.shared_pool.specs.declared.pool.SharedPool.{SharedPool}
use Rattle.lane_context.specs.declared.context.Context.{Context}
use Rattle.lane_stages.specs.Budgets.{Left, Spends}
use Rattle.lane_context.specs.Composing.{IsConsolidation, IsTransfer}
use Rattle.lane_context.specs.Named.{IsMarked}
use Rattle.lane_stages.specs.declared.copying.Transfer.{Transfer}
use Rattle.lane_stages.specs.declared.counts.Counted.{Counted}
use Rattle.lane_context.specs.declared.work.Consolidation.{Consolidation}
use Rattle.lane_context.specs.Contexts.{HasRoomFor, with_parts}

-- who has room for what is left beside it has room for it
pub room_beside : (pool : SharedPool) (d : Context) (left : Left) (copied parts : ℕ)
    → HasRoomFor pool d (with_parts copied parts left) → HasRoomFor pool d left
room_beside pool d left copied parts room = record {
  notes = (let a = room.notes in omega (arith, a));
  few = (let a = room.few in omega (arith, a));
  turns = (let a = room.turns in omega (arith, a));
  moves = room.moves;
  mails = room.mails;
}

module _ (v w : SeatView) (left next : Left) (copied parts : ℕ) (spends : Spends v w left next) where
  -- what is left beside it is left behind it, or less is
  pub beside : Spends v w (with_parts copied parts left) (with_parts copied parts next)
  beside = record {
    notes = (let a = spends.notes in omega (arith, a));
    takes = spends.takes;
    moves = spends.moves;
    sends = spends.sends;
  }

  pub less_beside : (notes : ℕ) → notes ≤ next.notes + 2 * copied + 6 * parts
      → Spends v w (with_parts copied parts left) (record next { notes = notes })
  less_beside notes le = record {
    notes = (let a = spends.notes in omega (arith, a, le));
    takes = spends.takes;
    moves = spends.moves;
    sends = spends.sends;
  }

-- what may be copied may be copied where no less is known
pub consolidation_later : (known later : RootId → ℕ) → ((r : RootId) → known r ≤ later r) → (shape : Shape)
    (cs : List Counted) (p : Consolidation) → IsConsolidation known shape cs p → IsConsolidation later shape cs p
consolidation_later known later up shape cs p is = record {
  size = is.size;
  class = is.class;
  parts = is.parts;
  copied = is.copied;
  transfers =
      All-weaker (IsTransfer known cs) (IsTransfer later cs) (λ (t : Transfer) (x : IsTransfer known cs t). record {
        counts = x.counts;
        inside = (let a = up t.part.root in let b = x.inside in omega (arith, a, b));
        got = x.got;
        set = x.set;
      }) p.transfers.items is.transfers;
  some = is.some;
}

-- the whole of a root of its size is marked as the composite is
pub moved_marked : (root : RootId) (c : Composite) → root.capacity ≡ size_of c.parts → IsMarked c
    → IsMarked (moved_to root c)
moved_marked root c size is = record {
  reader = is.reader;
  writer = (let a = size_of_cons (whole_part root) [] in let b = is.writer in omega (arith, a, b, size));
}

-- what follows the copying, as the law has it and as the stages have it
module _ (s : LaneState) (name : ℕ) (shape : Shape) (parts : List Part) (c : Composite) where
  abbrev pub made_of : Option (Result Composite Reply × Log) → Option (Answer × Log)
  made_of o = option_and_then (λ got. give (composed s name got.0) got.1) o

  abbrev pub bound_of : Option (Unit {0} × Log) → Option (Answer × Log)
  bound_of o = option_and_then (λ got. give (composed s name (Ok c)) got.1) o

  pub replaced_as : (o : Option (Unit {0} × Log)) → made_of (option_and_then (λ got. give (Ok c) got.1) o) ≡ bound_of o
  replaced_as None = refl
  replaced_as (Some got) = refl

  pub copied_as : (o : Option (Unit {0} × Log)) →
      made_of (option_and_then (λ got. (release_parts shape parts >> give (Ok c)) got.1) o)
      ≡ bound_of (option_and_then (λ got. release_parts shape parts got.1) o)
  copied_as None = refl
  copied_as (Some got) = replaced_as (release_parts shape parts got.1)
