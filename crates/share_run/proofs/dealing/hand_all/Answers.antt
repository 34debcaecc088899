use Rattle.std.proofs.Common.{◌≡◌, ℕ, ◌+◌, ◌<◌, List, [], ◌∷◌, ◌++◌, take, sym, ap, ◌∙◌, subst, arith, vec_len, vec_capacity}
use Rattle.std.specs.Prelude.{nat_eq}
use Rattle.std.specs.List.{list_any}
use Rattle.std.proofs.lemmas.List.{take_all}
use Rattle.shared_composite.specs.declared.board.BoardSeat.{BoardSeat}
use Rattle.shared_composite.specs.Boards.{view_of}
use Rattle.share_text.specs.declared.lines.Seen.{Seen}
use Rattle.share_run.specs.Reading.{Deals, MayRead, Names, times_in}
use Rattle.share_run.specs.Standing.{IsChief, spent_by}
use Rattle.share_run.proofs.DealLaws.{deals_more, found_times, joined_seat, joined_spent, named_grow, named_more, times_own}
use Rattle.share_run.proofs.dealing.hand_all.Goals as goal
use Rattle.share_run.proofs.dealing.hand_all.Goals.{then-not-contains, else-not-contains}

pub loop-read-preserved : goal.loop-read-preserved
loop-read-preserved c =
    let l = c.loop-read in let inv = l.invariant in let k = c.read-item.result.composite in
    let reads = c.args.reads.now in let at = l.read-index in let d = c.read-item.result in
    let now = c.if-not-contains in let same = ap (λ (s : Seen). s.composite) c.read-item.is in
    elim c.if-not-contains.branch [
      | then-not-contains w ↦
          let p = w.push_reserved-then-not-contains.ensures in let more = w.hand-more.ensures in
          let items : now.names.items ≡ l.names.items ++ k ∷ [] = ap (λ v. v.items) w.names-is ∙ p.items in
          let len : vec_len now.names ≡ vec_len l.names + 1 = ap (λ v. vec_len v) w.names-is ∙ p.len in
          let room : vec_capacity now.names ≡ vec_capacity l.names = ap (λ v. vec_capacity v) w.names-is ∙ p.capacity in
          let own = times_own k l.names.items in
          record {
            chief =
                subst (λ (s : BoardSeat). IsChief c.args.board.now c.args.composites 0 s) (sym w.chief-is)
                more.chief;
            seat =
                subst (λ (x : List ℕ × BoardSeat). MayRead c.args.board.now c.args.share x.0 x.1)
                (λ i. (sym items i, sym w.seat-is i))
                (joined_seat c.args.board.now c.args.share k l.names.items l.seat w.hand-more.result w.join.new.seat
                inv.seat more.seat w.join.ensures.own w.join.ensures.joined);
            named =
                subst (λ (ns : List ℕ). Names ns (take (at + 1) reads)) (sym items)
                (named_more (l.names.items ++ k ∷ []) reads at d c.loop-read-test.true
                (named_grow l.names.items k (take at reads) inv.named)
                (subst (λ (n : ℕ). 0 < times_in n (l.names.items ++ k ∷ [])) same own));
            deals =
                subst (λ (s : BoardSeat).
                Deals c.args.share (vec_len now.names) (spent_by now.seat) (view_of c.args.chief.now) (view_of s))
                (sym w.chief-is)
                (deals_more c.args.share (vec_len l.names) (vec_len now.names) (spent_by l.seat)
                (spent_by w.hand-more.result) (spent_by now.seat) (view_of c.args.chief.now) (view_of l.chief)
                (view_of w.hand-more.new.chief) inv.deals more.deals len
                (ap spent_by w.seat-is
                ∙ joined_spent l.seat w.hand-more.result w.join.new.seat w.join.ensures.joined));
            few = (let a = inv.few in omega (arith, a, len));
            room = (let a = inv.room in omega (arith, a, room));
          }
      | else-not-contains w ↦
          let items : now.names.items ≡ l.names.items = ap (λ v. v.items) w.names-is in
          let found = found_times k l.names.items
          (ap (list_any (λ n. nat_eq n k)) (sym c.deref.ensures.value) ∙ sym c.contains.ensures.value
          ∙ w.if-not-contains.false) in
          record {
            chief =
                subst (λ (s : BoardSeat). IsChief c.args.board.now c.args.composites 0 s) (sym w.chief-is) inv.chief;
            seat =
                subst (λ (x : List ℕ × BoardSeat). MayRead c.args.board.now c.args.share x.0 x.1)
                (λ i. (sym items i, sym w.seat-is i)) inv.seat;
            named =
                subst (λ (ns : List ℕ). Names ns (take (at + 1) reads)) (sym items)
                (named_more l.names.items reads at d c.loop-read-test.true inv.named
                (subst (λ (n : ℕ). 0 < times_in n l.names.items) same found));
            deals =
                subst (λ (x : ℕ × ℕ × BoardSeat).
                Deals c.args.share x.0 x.1 (view_of c.args.chief.now) (view_of x.2))
                (λ i. (vec_len (sym w.names-is i), spent_by (sym w.seat-is i), sym w.chief-is i)) inv.deals;
            few = (let a = inv.few in let b = ap (λ v. vec_len v) w.names-is in omega (arith, a, b));
            room = (let a = inv.room in let b = ap (λ v. vec_capacity v) w.names-is in omega (arith, a, b));
          }
    ]

pub returns-clause-names : goal.returns-clause-names
returns-clause-names c =
    subst (Names c.loop-read.names.items) (take_all c.loop-read.read-index c.args.reads.now c.loop-read-test.false)
    c.loop-read.invariant.named
