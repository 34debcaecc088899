-- The bytes of a buffer that its thread alone has, as its calls lay and read them.
use Rattle.std.proofs.Common.{◌≡◌, ◌⊎◌, ⊎_elim, ℕ, zero, suc, ◌+◌, ◌-◌, ◌<◌, ◌≤◌, max, Bool, true, false, List, [], ◌∷◌, ◌++◌, length, take, drop, Option, Some, None, refl, sym, ap, ◌∙◌, subst, arith, append-nil}
use Rattle.std.specs.Prelude.{◌==◌, ◌&&◌, nat_le, nat_lt, if◌then◌else◌, IfOk, IfSome, MatchResult, OnOk, Result, Ok, Err}
use Rattle.std.proofs.Math.Seq.{drop-nil, take-append-add, take-nil}
use Rattle.std.proofs.lemmas.List.{drop-take}
use Rattle.pool_law.specs.declared.id.RootId.{RootId}
use Rattle.pool_law.specs.declared.id.ViewData.{ViewData}
use Rattle.pool_law.specs.Roots.{bytes_at, laid_over}
use Rattle.pool_law.specs.Views.{in_range, root_index, view_of}
use Rattle.pool_table.specs.Capacities.{knows_of}
use Rattle.pool_table.specs.Lone.{IsLone}
use Rattle.shared_pool.specs.RootNotes.{IsSetOver}
use Rattle.shared_pool.specs.SeatViews.{view_of as seat_view}
use Rattle.seat_work.specs.Changes.{Change, no_change}
use Rattle.shared_pool.specs.declared.pool.SharedPool.{SharedPool}
use Rattle.pool_member.specs.declared.account.Account.{Account}
use Rattle.pool_member.specs.declared.answers.AccessNo.{AccessNo}
use Rattle.pool_member.specs.declared.answers.AccessNo.TheVariants as access
use Rattle.pool_member.specs.declared.counts.Counted.{Counted}
use Rattle.pool_member.specs.declared.member.Member.{Member}
use Rattle.pool_member.specs.Alone.{laid_in, AreLaid, IsAlone, KeepsAlone, LaysOver}
use Rattle.pool_member.specs.Counting.{counted, is_alone, known, told}
use Rattle.buffer_pool.specs.Lones.{bytes_of, lone_no}
use Rattle.pool_member.specs.Refusals.{is_here, part_no}
use Rattle.pool_member.specs.Threads.{HasChanged, IsThread}
use Rattle.pool_member.specs.Windows.{Window}
use Rattle.pool_member.proofs.Alone.{not_none}

-- ---- The first bytes of a list.

-- all of them
take_more : (n : ℕ) (l : List ℕ) → length l ≤ n → take n l ≡ l
take_more n l le =
    let e : n ≡ length l + (n - length l) = omega (arith, le) in
    ap (λ (k : ℕ). take k l) e ∙ ap (take (length l + (n - length l))) (sym (append-nil l))
    ∙ take-append-add l [] (n - length l) ∙ ap (λ (z : List ℕ). l ++ z) (take-nil (n - length l)) ∙ append-nil l

take_take : (n m : ℕ) (l : List ℕ) → take n (take (n + m) l) ≡ take n l
take_take zero m l = refl
take_take (suc n) m [] = ap (take (suc n)) (take-nil (suc n + m))
take_take (suc n) m (x ∷ xs) =
    let e : suc n + m ≡ suc (n + m) = omega arith in
    ap (λ (k : ℕ). take (suc n) (take k (x ∷ xs))) e ∙ ap (λ (z : List ℕ). x ∷ z) (take_take n m xs)

-- what is laid over the first bytes, and read of them
laid_first : (l bs : List ℕ) (m : ℕ)
    → take (length bs + m) (bs ++ drop (length bs) l) ≡ bs ++ drop (length bs) (take (length bs + m) l)
laid_first l bs m =
    take-append-add bs (drop (length bs) l) m ∙ ap (λ (z : List ℕ). bs ++ z) (sym (drop-take (length bs) m l))

pub first_laid : (o c : ℕ) (l bs : List ℕ) → o + length bs ≤ c
    → take c (laid_over l o bs) ≡ laid_over (take c l) o bs
first_laid zero c l bs le =
    let none : 0 + length bs ≡ length bs = omega arith in
    let e : length bs + (c - length bs) ≡ c = omega (arith, le) in
    subst (λ (n : ℕ). take c (bs ++ drop n l) ≡ bs ++ drop n (take c l)) (sym none)
    (subst (λ (k : ℕ). take k (bs ++ drop (length bs) l) ≡ bs ++ drop (length bs) (take k l)) e
    (laid_first l bs (c - length bs)))
first_laid (suc o) zero l bs le = absurd (omega (arith, le))
first_laid (suc o) (suc c) [] bs le =
    ap (λ (z : List ℕ). take (suc c) (bs ++ z)) (drop-nil (suc o + length bs))
    ∙ ap (take (suc c)) (append-nil bs) ∙ take_more (suc c) bs (omega (arith, le))
    ∙ sym (append-nil bs) ∙ ap (λ (z : List ℕ). bs ++ z) (sym (drop-nil (suc o + length bs)))
first_laid (suc o) (suc c) (x ∷ xs) bs le =
    let e : suc o + length bs ≡ suc (o + length bs) = omega arith in
    subst (λ (n : ℕ). take (suc c) (x ∷ (take o xs ++ (bs ++ drop n (x ∷ xs))))
    ≡ x ∷ (take o (take c xs) ++ (bs ++ drop n (x ∷ take c xs)))) (sym e)
    (ap (λ (z : List ℕ). x ∷ z) (first_laid o c xs bs (omega (arith, le))))

pub first_read : (o n c : ℕ) (l : List ℕ) → o + n ≤ c → bytes_at l o n ≡ bytes_at (take c l) o n
first_read o n c l le =
    let m = c - (o + n) in let e : o + (n + m) ≡ c = omega (arith, le) in
    sym (take_take n m (drop o l)) ∙ ap (take n) (sym (drop-take o (n + m) l))
    ∙ ap (λ (k : ℕ). take n (drop o (take k l))) e

-- ---- A buffer that its thread alone has.

-- a part of it that may be accessed lies within
pub inside_of : (a : Account) (w : Window) (inside : Bool) → part_no a w inside 1 0 ≡ None → inside ≡ true
inside_of a w true none = refl
inside_of a w false none = by (is_here a w) none
  where
    by : (here : Bool) → (if here then Some access.Range else Some access.NotHere) ≡ None → false ≡ true
    by true none = absurd (cc none)
    by false none = absurd (cc none)

module _ (w : Window) (whole : w.at ≡ view_of w.at.root) where
  offset_is : w.at.offset ≡ 0
  offset_is = ap (λ (v : ViewData). v.offset) whole

  -- the bytes are the first ones of its root
  bytes_are : (m : Member) → bytes_of m w ≡ take w.at.len (laid_in m w.at.root)
  bytes_are m = ap (λ (o : ℕ). take w.at.len (drop o (laid_in m w.at.root))) offset_is

  module _ (start : ℕ) where
    index_is : root_index w.at start ≡ start
    index_is = let a = offset_is in omega (arith, a)

    pub lone_laid : (bs : List ℕ) (old new : Member) → in_range w.at start (length bs) ≡ true
        → LaysOver w.at.root (root_index w.at start) bs old new → IsAlone old w.at.root
        → bytes_of new w ≡ laid_over (bytes_of old w) start bs
    lone_laid bs old new inside laid alone =
        let le : start + length bs ≤ w.at.len = grind (arith, inside) in
        bytes_are new ∙ ap (take w.at.len) ((laid alone).1
        ∙ ap (λ (o : ℕ). laid_over (laid_in old w.at.root) o bs) index_is)
        ∙ first_laid start w.at.len (laid_in old w.at.root) bs le
        ∙ ap (λ (l : List ℕ). laid_over l start bs) (sym (bytes_are old))

    pub lone_read : (n : ℕ) (m : Member) → in_range w.at start n ≡ true
        → bytes_at (laid_in m w.at.root) (root_index w.at start) n ≡ bytes_at (bytes_of m w) start n
    lone_read n m inside =
        let le : start + n ≤ w.at.len = grind (arith, inside) in
        ap (λ (o : ℕ). bytes_at (laid_in m w.at.root) o n) index_is
        ∙ first_read start n w.at.len (laid_in m w.at.root) le
        ∙ ap (λ (l : List ℕ). bytes_at l start n) (sym (bytes_are m))

-- they stay where nothing was laid
pub lone_same : (w : Window) (old new : Member) → KeepsAlone None old new → IsAlone old w.at.root
    → bytes_of new w ≡ bytes_of old w
lone_same w old new keeps alone =
    ap (λ (l : List ℕ). bytes_at l w.at.offset w.at.len) (keeps w.at.root (not_none w.at.root) alone).1

-- ---- A thread that keeps that it alone has a root.

-- a buffer is here as it was, where counts and capacities are kept
pub here_same : (a : Account) (cs : List Counted) (w : Window)
    → ((r : RootId) → counted cs r ≡ counted a.counts r) → ((r : RootId) → told cs r ≡ told a.counts r)
    → is_here (record a { counts = cs }) w ≡ is_here a w
here_same a cs w counts tells = λ i.
    (a.lane == w.thread) && nat_lt 0 (counts w.at.root i)
    && nat_le (w.at.offset + w.at.len) (max w.at.root.capacity (tells w.at.root i))

module _ (m : Member) (cs : List Counted) (root : RootId)
    (counts : (r : RootId) → counted cs r ≡ counted m.account.counts r)
    (tells : (r : RootId) → told cs r ≡ told m.account.counts r) where
  abbrev pub owning : Member
  owning = record m { account = record m.account { counts = cs } }

  module _ (kept : (r : RootId) → is_alone cs r ≡ true → (r ≡ root) ⊎ (is_alone m.account.counts r ≡ true))
      (places : length cs ≡ length m.account.counts) (alone : IsAlone m root) where
    owned : (pool : SharedPool) → IsThread pool m → IsThread pool owning
    owned pool is = record {
      works = is.works;
      pending = is.pending;
      number = is.number;
      counts = λ r. (let a = counts r in let b = is.counts r in omega (arith, a, b));
      knows =
          λ r.
          subst (λ (n : ℕ). n ≤ knows_of r (seat_view m.seat)) (sym (tells r)) (is.knows r);
      alone =
          λ r t.
          ⊎_elim (λ (e : r ≡ root). subst (λ (q : RootId). IsLone q (seat_view m.seat)) (sym e) alone) (is.alone r)
          (kept r t);
      places = places ∙ is.places;
      few = λ r. (let a = counts r in let b = is.few r in omega (arith, a, b));
      sent = is.sent;
      received = is.received;
    }

    pub if_owned : (o : Option SharedPool) → IfSome o (λ pool. IsThread pool m)
        → IfSome o (λ pool. IsThread pool owning)
    if_owned None is = tt
    if_owned (Some pool) is = owned pool is

  pub owned_changed : ((r : RootId) → is_alone m.account.counts r ≡ true → is_alone cs r ≡ true)
      → (turns : ℕ) (c : Change) (old : Member) → HasChanged turns c None old m
      → HasChanged turns c None old owning
  owned_changed owns turns c old x = record {
    number = x.number;
    spent = x.spent;
    counts = λ r. (let a = counts r in let b = x.counts r in omega (arith, a, b));
    notes = x.notes;
    knows =
        λ r lt.
        subst (λ (n : ℕ). known old.account.counts r ≤ max r.capacity n) (sym (tells r))
        (x.knows r (subst (λ (n : ℕ). 0 < n) (counts r) lt));
    alone = x.alone;
    owns = λ r lt none is. owns r (x.owns r lt none is);
  }

-- ---- What calls on it answer, and leave.

module _ {T : Type 0} (r : Result T AccessNo) where
  -- as on the buffer, where its thread keeps that it alone has it
  pub lone_answers : (a : Account) (w : Window) (inside : Bool) → is_alone a.counts w.at.root ≡ true
      → MatchResult r (λ _. part_no a w inside 1 0 ≡ None) (λ why. part_no a w inside 1 0 ≡ Some why)
      → MatchResult r (λ _. lone_no a w inside ≡ None) (λ why. lone_no a w inside ≡ Some why)
  lone_answers a w inside alone is =
      subst (λ (o : Option AccessNo). MatchResult r (λ _. o ≡ None) (λ why. o ≡ Some why))
      (sym (ap (λ (b : Bool). if b then part_no a w inside 1 0 else Some access.NotHere) alone)) is

module _ {T : Type 0} (w : Window) (whole : w.at ≡ view_of w.at.root) (start n : ℕ) (old new : Member)
    (alone : IsAlone old w.at.root) where
  abbrev Answers : Result T AccessNo → Type 0
  Answers r =
      let no = part_no old.account w (in_range w.at start n) 1 0 in
      MatchResult r (λ _. no ≡ None) (λ why. no ≡ Some why)

  -- what was copied out of it is what lies there
  pub if_got : (out : List ℕ) (r : Result T AccessNo) → length out ≡ n → Answers r
      → OnOk r (AreLaid old w.at.root (root_index w.at start) out)
      → OnOk r (out ≡ bytes_at (bytes_of old w) start (length out))
  if_got out (Ok x) len is own =
      own alone
      ∙ lone_read w whole start (length out) old
      (ap (in_range w.at start) len ∙ inside_of old.account w (in_range w.at start n) is)
  if_got out (Err why) len is own = tt

  -- so is what a closure is lent
  pub if_lent : (P : List ℕ → T → Type 0) (r : Result T AccessNo) → Answers r
      → IfOk r (λ x. IsAlone old w.at.root → P (bytes_at (laid_in old w.at.root) (root_index w.at start) n) x)
      → IfOk r (λ x. P (bytes_at (bytes_of old w) start n) x)
  if_lent P (Ok x) is own =
      subst (λ (bs : List ℕ). P bs x)
      (lone_read w whole start n old (inside_of old.account w (in_range w.at start n) is)) (own alone)
  if_lent P (Err why) is own = tt

  -- what was laid over it
  pub if_laid : (bs : List ℕ) (r : Result T AccessNo) → length bs ≡ n → Answers r
      → OnOk r (LaysOver w.at.root (root_index w.at start) bs old new)
      → OnOk r (bytes_of new w ≡ laid_over (bytes_of old w) start bs)
  if_laid bs (Ok x) len is laid =
      lone_laid w whole start bs old new
      (ap (in_range w.at start) len ∙ inside_of old.account w (in_range w.at start n) is) laid alone
  if_laid bs (Err why) len is laid = tt

  pub if_alone_laid : (bs : List ℕ) (r : Result T AccessNo)
      → OnOk r (LaysOver w.at.root (root_index w.at start) bs old new) → OnOk r (IsAlone new w.at.root)
  if_alone_laid bs (Ok x) laid = (laid alone).0
  if_alone_laid bs (Err why) laid = tt

  -- it stays where nothing was laid
  pub if_same : (r : Result T AccessNo) → OnOk r (HasChanged 1 no_change None old new)
      → OnOk r (bytes_of new w ≡ bytes_of old w)
  if_same (Ok x) changed = lone_same w old new changed.alone alone
  if_same (Err why) changed = tt

  pub if_still : (r : Result T AccessNo) → OnOk r (HasChanged 1 no_change None old new)
      → OnOk r (IsAlone new w.at.root)
  if_still (Ok x) changed = (changed.alone w.at.root (not_none w.at.root) alone).0
  if_still (Err why) changed = tt

  -- what a closure made of it in place
  pub if_set : (P : List ℕ → T → List ℕ → Type 0) (pool : SharedPool) (r : Result T AccessNo) → Answers r
      → IfOk r (λ x. (before : List ℕ) × (bytes : List ℕ) × (number : ℕ) × (length before ≡ n) × (length bytes ≡ n)
      × P before x bytes
      × IsSetOver pool old.seat new.seat w.at.root number (root_index w.at start) before bytes
      × LaysOver w.at.root (root_index w.at start) bytes old new)
      → IfOk r (λ x. (after : List ℕ) × (length after ≡ n) × P (bytes_at (bytes_of old w) start n) x after
      × (bytes_of new w ≡ laid_over (bytes_of old w) start after))
  if_set P pool (Ok x) is set =
      let inside = inside_of old.account w (in_range w.at start n) is in
      let there : set.0 ≡ bytes_at (bytes_of old w) start n =
      set.6.lone alone ∙ ap (bytes_at (laid_in old w.at.root) (root_index w.at start)) set.3
      ∙ lone_read w whole start n old inside in (
        set.1,
        set.4,
        subst (λ (bs : List ℕ). P bs x set.1) there set.5,
        lone_laid w whole start set.1 old new (ap (in_range w.at start) set.4 ∙ inside) set.7 alone,
      )
  if_set P pool (Err why) is set = tt

  pub if_alone_set : (P : List ℕ → T → List ℕ → Type 0) (pool : SharedPool) (r : Result T AccessNo)
      → IfOk r (λ x. (before : List ℕ) × (bytes : List ℕ) × (number : ℕ) × (length before ≡ n) × (length bytes ≡ n)
      × P before x bytes
      × IsSetOver pool old.seat new.seat w.at.root number (root_index w.at start) before bytes
      × LaysOver w.at.root (root_index w.at start) bytes old new)
      → OnOk r (IsAlone new w.at.root)
  if_alone_set P pool (Ok x) set = (set.7 alone).0
  if_alone_set P pool (Err why) set = tt
