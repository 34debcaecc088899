-- Each move keeps the rule of a mail.
use Rattle.std.proofs.Common.{◌≡◌, ◌≢◌, ◌≤◌, ◌<◌, ℕ, zero, suc, ◌+◌, true, false, true≢false, List, [], ◌∷◌, ◌++◌, length, set, sym, refl, ap, ◌∙◌, subst, ⊎_elim, arith, length-append}
use mathlib.Core.Option.{some, some-ne-none, some-injective}
use lib.ListN.{get_elem?}
use Rattle.atomic_table.specs.Seated.{TableId}
use Rattle.crossbeam_queue.specs.Fifo.{Pushes, Pops, Forks, Learns}
use Rattle.crossbeam_queue.proofs.Lists.{at_set, at_snoc}
use Rattle.shared_pool.specs.Posting.{PostedLetter}
use Rattle.shared_pool.specs.MailEnds.{KnownEnds, no_ends, no_table, sender, receiver, IsSender, IsReceiver, one_sent, one_received}
use Rattle.shared_pool.specs.Carries.{Carries, Follow, IsEndOf, IsLetter, IsNextSent, Received, Stood}

off : {A : Type 0} → false ≡ true → A
off p = absurd (true≢false (sym p))

at_end : (l : List KnownEnds) (a b : KnownEnds) (j : ℕ) → get_elem? l j ≢ some b
    → get_elem? (l ++ a ∷ []) j ≡ some b → j ≡ length l
at_end [] a b zero n e = refl
at_end [] a b (suc j) n e = absurd (some-ne-none b (sym e))
at_end (x ∷ xs) a b zero n e = absurd (n e)
at_end (x ∷ xs) a b (suc j) n e = ap suc (at_end xs a b j n e)

-- what holds of one pass and of the others holds of all
all_set : (F : ℕ → KnownEnds → Type 0) (passes : List KnownEnds) (port : ℕ) (w : KnownEnds) → F port w
    → ((j : ℕ) (u : KnownEnds) → j ≢ port → get_elem? passes j ≡ some u → F j u) → (j : ℕ) (u : KnownEnds)
    → get_elem? (set passes port w) j ≡ some u → F j u
all_set F passes port w mine others j u e =
    ⊎_elim
    (λ (x : (j ≡ port) × (w ≡ u)). subst (λ (y : ℕ × KnownEnds). F y.0 y.1) (λ i. (sym x.0 i, x.1 i)) mine)
    (λ (x : (j ≢ port) × (get_elem? passes j ≡ some u)). others j u x.0 x.1)
    (at_set passes port j w u e)

-- the same letter, by another way to write its number
renumbered : (t : TableId) (f o n m : ℕ) (p : PostedLetter) → n ≡ m → IsLetter t f o n p → IsLetter t f o m p
renumbered t f o n m p same is = subst (λ (k : ℕ). IsLetter t f o k p) same is

-- one letter more at the end
follow-push : (t : TableId) (f o n : ℕ) (ps : List PostedLetter) (p : PostedLetter) → Follow t f o n ps
    → IsLetter t f o (n + length ps + 1) p → Follow t f o n (ps ++ p ∷ [])
follow-push t f o n [] p h new = (renumbered t f o (n + 0 + 1) (n + 1) p (omega arith) new, tt)
follow-push t f o n (q ∷ qs) p h new =
    (h.0, follow-push t f o (n + 1) qs p h.1 (renumbered t f o _ _ p (omega arith) new))

-- a new mail's queue is empty
pub begins : Carries [] (no_ends ∷ [])
begins =
    record {
      table = no_table;
      from = 0;
      to = 0;
      room = 0;
      writer = 0;
      reader = 0;
      sent = 0;
      received = 0;
      counted = refl;
      most = omega arith;
      in_order = tt;
      sends = λ j e at _. one (λ k v. IsEndOf no_table 0 0 0 0 k v × (v.sent ≡ 0)) (end, refl) j e at;
      receives = λ j e at _. one (λ k v. IsEndOf no_table 0 0 0 0 k v × (v.received ≡ 0)) (end, refl) j e at;
    }
  where
    end : IsEndOf no_table 0 0 0 0 0 no_ends
    end = record { own_is = refl; table_is = refl; from_is = refl; to_is = refl; room_is = refl }

    one : (F : ℕ → KnownEnds → Type 0) → F 0 no_ends → (j : ℕ) (e : KnownEnds)
        → get_elem? (no_ends ∷ []) j ≡ some e → F j e
    one F mine zero e at = subst (F 0) (some-injective _ _ at) mine
    one F mine (suc j) e at = absurd (some-ne-none e (sym at))

-- the first pass may be cut into the two ends, of any name
pub names : (port : ℕ) (v : KnownEnds) (t : TableId) (f o r : ℕ) → v ≡ no_ends
    → Forks Carries port v (sender t f o r 0) (receiver t f o r 0)
names port v t f o r is items passes h at =
    let mine = h.sends port v at (ap (λ y. y.sends) is) in
    let theirs = h.receives port v at (ap (λ y. y.receives) is) in
    let l = sender t f o r 0 in let e = receiver t f o r 0 in let ps = set passes port l in
    let none : h.sent ≡ 0 = sym mine.1 ∙ ap (λ y. y.sent) is in
    let Old : ℕ → KnownEnds → Type 0 =
    λ j u. (u.sends ≡ true → IsEndOf t f o r port j u × (u.sent ≡ 0)) × (u.receives ≢ true) in
    let old = all_set Old passes port l
    ((λ _. (record { own_is = refl; table_is = refl; from_is = refl; to_is = refl; room_is = refl }, refl)), off)
    (λ j u other was. (
      (λ p. absurd (other ((h.sends j u was p).0.own_is ∙ sym mine.0.own_is))),
      λ p. other ((h.receives j u was p).0.own_is ∙ sym theirs.0.own_is),
    )) in
    record {
      table = t;
      from = f;
      to = o;
      room = r;
      writer = port;
      reader = length ps;
      sent = 0;
      received = 0;
      counted = omega (arith, h.counted, none);
      most = omega arith;
      in_order = empty items (omega (arith, h.counted, none));
      sends = λ j u there p. ⊎_elim
          (λ was. (old j u was).0 p)
          (λ (same : e ≡ u). off (ap (λ y. y.sends) same ∙ p))
          (at_snoc ps e u j there);
      receives = λ j u there p. ⊎_elim
          (λ was. absurd ((old j u was).1 p))
          (λ (same : e ≡ u). (
            record {
              own_is = at_end ps e u j (λ was. (old j u was).1 p) there;
              table_is = ap (λ y. y.table) (sym same);
              from_is = ap (λ y. y.from) (sym same);
              to_is = ap (λ y. y.to) (sym same);
              room_is = ap (λ y. y.room) (sym same);
            },
            ap (λ y. y.received) (sym same),
          ))
          (at_snoc ps e u j there);
    }
  where
    empty : (ps : List PostedLetter) → length ps ≡ 0 → Follow t f o 0 ps
    empty [] e = tt
    empty (p ∷ ps) e = absurd (omega (arith, e))

-- the sender's end sends the next letter, while there is room for it
pub sends : (n port : ℕ) (v : KnownEnds) (p : PostedLetter) → IsSender v → IsNextSent v p → v.sent < v.room
    → Pushes Carries n port v p (λ w. w ≡ one_sent v)
sends n port v p is next below items passes short h at =
    let mine = h.sends port v at (ap (λ y. y.sends) is) in let end = mine.0 in
    let count : v.sent ≡ h.sent = mine.1 in (
      one_sent v,
      record {
        table = h.table;
        from = h.from;
        to = h.to;
        room = h.room;
        writer = h.writer;
        reader = h.reader;
        sent = h.sent + 1;
        received = h.received;
        counted = omega (arith, h.counted, length-append items (p ∷ []));
        most = omega (arith, below, count, end.room_is);
        in_order =
            follow-push h.table h.from h.to h.received items p h.in_order
            (record {
              table_is = next.table_is ∙ end.table_is;
              from_is = next.from_is ∙ end.from_is;
              to_is = next.to_is ∙ end.to_is;
              number_is = omega (arith, next.number_is, count, h.counted);
            });
        sends =
            all_set (λ j u. u.sends ≡ true → IsEndOf h.table h.from h.to h.room h.writer j u × (u.sent ≡ h.sent + 1))
            passes port (one_sent v)
            (λ _. (
              record {
                own_is = end.own_is;
                table_is = end.table_is;
                from_is = end.from_is;
                to_is = end.to_is;
                room_is = end.room_is;
              },
              ap (λ k. k + 1) count,
            ))
            (λ j u other was e. absurd (other ((h.sends j u was e).0.own_is ∙ sym end.own_is)));
        receives =
            all_set
            (λ j u. u.receives ≡ true
            → IsEndOf h.table h.from h.to h.room h.reader j u × (u.received ≡ h.received))
            passes port (one_sent v) (λ e. off (sym (ap (λ y. y.receives) is) ∙ e))
            (λ j u other was. h.receives j u was);
      },
      refl,
    )

-- the queue holds no more than was sent
pub counts : (port : ℕ) (v : KnownEnds) → IsSender v → Learns Carries port v (λ items. length items ≤ v.sent)
counts port v is items passes h at = omega (arith, h.counted, (h.sends port v at (ap (λ y. y.sends) is)).1)

-- the receiver's end gets the next letter
pub gets : (port : ℕ) (v : KnownEnds) → IsReceiver v → Pops Carries port v (Received v)
gets port v is p items passes h at =
    let mine = h.receives port v at (ap (λ y. y.receives) is) in let end = mine.0 in
    let count : v.received ≡ h.received = mine.1 in let its = h.in_order.0 in (
      one_received v,
      record {
        table = h.table;
        from = h.from;
        to = h.to;
        room = h.room;
        writer = h.writer;
        reader = h.reader;
        sent = h.sent;
        received = h.received + 1;
        counted = omega (arith, h.counted);
        most = h.most;
        in_order = h.in_order.1;
        sends =
            all_set (λ j u. u.sends ≡ true → IsEndOf h.table h.from h.to h.room h.writer j u × (u.sent ≡ h.sent))
            passes port (one_received v) (λ e. off (sym (ap (λ y. y.sends) is) ∙ e))
            (λ j u other was. h.sends j u was);
        receives =
            all_set
            (λ j u. u.receives ≡ true
            → IsEndOf h.table h.from h.to h.room h.reader j u × (u.received ≡ h.received + 1))
            passes port (one_received v)
            (λ _. (
              record {
                own_is = end.own_is;
                table_is = end.table_is;
                from_is = end.from_is;
                to_is = end.to_is;
                room_is = end.room_is;
              },
              ap (λ k. k + 1) count,
            ))
            (λ j u other was e. absurd (other ((h.receives j u was e).0.own_is ∙ sym end.own_is)));
      },
      record {
        next =
            record {
              table_is = its.table_is ∙ sym end.table_is;
              from_is = its.from_is ∙ sym end.from_is;
              to_is = its.to_is ∙ sym end.to_is;
              number_is = omega (arith, its.number_is, count);
            };
        below = omega (arith, h.counted, h.most, count, end.room_is);
        one_more = refl;
      },
    )

-- a pass learns what its queue held, under any rule
pub stood : (holds : List PostedLetter → List KnownEnds → Type 0) (port : ℕ) (v : KnownEnds)
    → Learns holds port v (Stood holds v)
stood holds port v items passes held known = record { passes = passes; port = port; held = held; known = known }
