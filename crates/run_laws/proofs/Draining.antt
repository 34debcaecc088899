-- What is shed when caches are swept or closed.
use Rattle.std.proofs.Common.{inl, inr, ◌≡◌, ℕ, zero, suc, ◌+◌, ◌≤◌, List, [], ◌∷◌, ◌++◌, refl, sym, ap, subst, arith, Bool, true, false, Some, ◌∙◌}
use Rattle.std.specs.Prelude.{if◌then◌else◌, Option}
use Rattle.pool_law.specs.declared.id.RegionId.{RegionId}
use Rattle.pool_law.specs.declared.note.Object.{Object}
use Rattle.pool_law.specs.declared.note.Did.{Did}
use Rattle.pool_law.specs.declared.note.Did.TheVariants.{Give, Trim, Close, Shed}
use Rattle.pool_law.specs.declared.note.Note.{Note}
use Rattle.pool_law.specs.declared.note.Note.TheVariants.{At, Ref, Busy}
use Rattle.pool_law.specs.Same.{same_object}
use Rattle.pool_law.specs.Dids as says
use Rattle.pool_law.specs.Readers.{ToldNotes, Log, note}
use Rattle.pool_law.specs.Patterns.{give_back, sheds, drain}
use Rattle.arena_laws.proofs.GiveSteps.{IsOne}
use Rattle.run_laws.proofs.Numbered.{at_object, plain}
use Rattle.run_laws.proofs.Acts.{sum_notes, notes-append, IsOther, Less}
use Rattle.run_laws.proofs.Readings.{bind-some, note-read, give_back-read}
use Rattle.run_laws.proofs.Keeping.{Chains, Keeps}
use Rattle.run_laws.proofs.LaneActs.{OfCommands}
use Rattle.run_laws.proofs.Sums.{none-if}

abbrev pub many : ℕ → ℕ → ℕ
many zero w = 0
many (suc n) w = w + many n w

pub many-none : (n : ℕ) → many n 0 ≡ 0
many-none zero = refl
many-none (suc n) = omega (arith, many-none n)

pub many-one : (n : ℕ) → many n 1 ≡ n
many-one zero = refl
many-one (suc n) = omega (arith, many-one n)

module _ (f : Note → ℕ) (gives : (o : Object) (k : ℕ) (r : RegionId) → f (At o k (Give r)) ≡ 0) where
  pub give_back-sum : (r : RegionId) (log : Log) (p : Unit {0} × Log) → give_back r log ≡ Some p
      → sum_notes f log.left ≡ sum_notes f p.1.left
  give_back-sum r log p is =
      let g = give_back-read r log p is in
      omega (arith, ap (sum_notes f) g.2, ap f g.3, gives (Object.Arena r.place.arena) g.1 r)

  module _ (lane class : ℕ) (w : ℕ) (shed : (k : ℕ) (r : RegionId) → f (At (Object.Cache lane class) k (Shed r)) ≡ w)
    where
      pub sheds-sum : (n : ℕ) (log : Log) (p : Unit {0} × Log) → sheds lane class n log ≡ Some p
          → sum_notes f log.left ≡ many n w + sum_notes f p.1.left
      sheds-sum zero log p is =
          let same : ◌≡◌ {A = Unit {0} × Log} (tt, log) p = cc is in omega (arith, ap (λ q. sum_notes f q.1.left) same)
      sheds-sum (suc n) log p is =
          let x = bind-some (note (Object.Cache lane class) says.shed log) _ p is in
          let g = bind-some (give_back x.0.0 x.0.1) _ p x.2 in
          let e = note-read (Object.Cache lane class) says.shed log x.0 x.1 in
          omega (
            arith,
            ap (sum_notes f) e.are,
            ap f e.is,
            did e.did e.number x.0.0 e.said,
            give_back-sum x.0.0 x.0.1 g.0
                g.1,
            sheds-sum n g.0.1 p g.2,
          )
        where
          did : (d : Did) (k : ℕ) (r : RegionId) → says.shed d ≡ Some r → f (At (Object.Cache lane class) k d) ≡ w
          did (Shed x) k r e = shed k x
          did _ k r e = absurd (cc e)

      pub drained-sum : (kind : Did → Option ℕ) (c : ℕ → ℕ)
          → ((d : Did) (k q : ℕ) → kind d ≡ Some q → f (At (Object.Cache lane class) k d) ≡ c q)
          → (log : Log) (x : ℕ × Log) (y : Unit {0} × Log) →
          note (Object.Cache lane class) kind log ≡ Some x → sheds lane class x.0 x.1 ≡ Some y
          → sum_notes f log.left ≡ c x.0 + (many x.0 w + sum_notes f y.1.left)
      drained-sum kind c did log x y first then_sheds =
          let e = note-read (Object.Cache lane class) kind log x first in
          omega (
            arith,
            ap (sum_notes f) e.are,
            ap f e.is,
            did e.did e.number x.0 e.said,
            sheds-sum x.0 x.1 y then_sheds,
          )

-- how the first cache is drained, and then the others
pub record Drains (lane class : ℕ) (kind : Did → Option ℕ) (classes : List ℕ) (log : Log) (p : Unit {0} × Log) : Type 0
  where
    pub quota : ℕ × Log
    pub shed : Unit {0} × Log
    pub noted : note (Object.Cache lane class) kind log ≡ Some quota
    pub sheds_it : sheds lane class quota.0 quota.1 ≡ Some shed
    pub others : drain lane kind classes shed.1 ≡ Some p

pub drain-is : (lane class : ℕ) (kind : Did → Option ℕ) (classes : List ℕ) (log : Log) (p : Unit {0} × Log)
    → drain lane kind (class ∷ classes) log ≡ Some p → Drains lane class kind classes log p
drain-is lane class kind classes log p is =
    let x = bind-some (note (Object.Cache lane class) kind log) _ p is in
    let y = bind-some (sheds lane class x.0.0 x.0.1) _ p x.2 in
    record { quota = x.0; shed = y.0; noted = x.1; sheds_it = y.1; others = y.2 }

-- at one cache: what may be shed, and what is shed
abbrev pub one : Bool → ℕ
one b = if b then 1 else 0

abbrev pub grant : Did → ℕ
grant (Trim q) = q
grant (Close q) = q
grant _ = 0

abbrev pub shed_one : Did → ℕ
shed_one (Shed r) = 1
shed_one _ = 0

abbrev pub close_one : Did → ℕ
close_one (Close q) = 1
close_one _ = 0

pub many-if : (b : Bool) (q : ℕ) → (if b then q else 0) ≡ many q (if b then 1 else 0)
many-if true q = sym (many-one q)
many-if false q = sym (many-none q)

-- at an object: what may be shed is shed, between what was left before and what is left after
abbrev pub Even : Object → ToldNotes → ToldNotes → Type 0
Even o es rest =
    sum_notes (at_object o (plain grant)) es + sum_notes (at_object o (plain shed_one)) rest
    ≡ sum_notes (at_object o (plain shed_one)) es + sum_notes (at_object o (plain grant)) rest

pub even-chain : (o : Object) → Chains (Even o)
even-chain o = record { none = λ es. omega arith; more = λ es mid rest a b. omega (arith, a, b); front = front }
  where
    front : (es rest : ToldNotes) → Even o es [] → Even o (es ++ rest) rest
    front es rest a =
        let same : sum_notes (at_object o (plain grant)) es + 0 ≡ sum_notes (at_object o (plain shed_one)) es + 0 = a in
        omega (
          arith,
          same,
          notes-append (at_object o (plain grant)) es rest,
          notes-append
              (at_object o (plain shed_one)) es rest,
        )

-- what notes a quota grants it, and sheds nothing
abbrev pub Grants : (Did → Option ℕ) → Type 0
Grants kind = (d : Did) (q : ℕ) → kind d ≡ Some q → (grant d ≡ q) × (shed_one d ≡ 0)

pub trim-grants : Grants says.trim
trim-grants (Trim x) q e = (cc e, refl)
trim-grants _ q e = absurd (cc e)

pub close-grants : Grants says.close
close-grants (Close x) q e = (cc e, refl)
close-grants _ q e = absurd (cc e)

pub drain-even : (o : Object) (lane : ℕ) (kind : Did → Option ℕ) → Grants kind → (classes : List ℕ)
    → Keeps (Even o) (drain lane kind classes)
drain-even o lane kind grants [] log p is =
    let same : ◌≡◌ {A = Unit {0} × Log} (tt, log) p = cc is in
    subst (λ q. Even o log.left q.1.left) same ((even-chain o).none log.left)
drain-even o lane kind grants (class ∷ classes) log p is =
    let d = drain-is lane class kind classes log p is in
    let g : sum_notes (at_object o (plain grant)) log.left
    ≡ (if same_object o (Object.Cache lane class) then d.quota.0 else 0)
    + (many d.quota.0 0 + sum_notes (at_object o (plain grant)) d.shed.1.left) =
    drained-sum (at_object o (plain grant)) (λ other k r. none-if (same_object o other)) lane class 0
    (λ k r. none-if (same_object o (Object.Cache lane class))) kind
    (λ q. if same_object o (Object.Cache lane class) then q else 0)
    (λ x k q e. ap (λ n. if same_object o (Object.Cache lane class) then n else 0) (grants x q e).0) log d.quota d.shed
    d.noted d.sheds_it in
    let s : sum_notes (at_object o (plain shed_one)) log.left
    ≡ 0 + (many d.quota.0 (if same_object o (Object.Cache lane class) then 1 else 0) + sum_notes
    (at_object o (plain shed_one)) d.shed.1.left) =
    drained-sum (at_object o (plain shed_one)) (λ other k r. none-if (same_object o other)) lane class
    (if same_object o (Object.Cache lane class) then 1 else 0) (λ k r. refl) kind (λ q. 0)
    (λ x k q e. ap (λ n. if same_object o (Object.Cache lane class) then n else 0) (grants x q e).1
    ∙ none-if (same_object o (Object.Cache lane class))) log d.quota d.shed d.noted d.sheds_it in
    omega (
      arith,
      g,
      s,
      many-none d.quota.0,
      many-if (same_object o (Object.Cache lane class)) d.quota.0,
      drain-even o
          lane kind grants classes d.shed.1 p d.others,
    )

pub closing-closes : (lane class : ℕ) → same_object (Object.Cache lane class) (Object.Cache lane class) ≡ true
    → (classes : List ℕ) (log : Log) (p : Unit {0} × Log) → drain lane says.close classes log ≡ Some p
    → IsOne class classes →
    1 ≤ sum_notes (at_object (Object.Cache lane class) (plain close_one)) log.left
closing-closes lane class self [] log p is one_of = absurd one_of
closing-closes lane class self (other ∷ classes) log p is one_of =
    let d = drain-is lane other says.close classes log p is in
    let s : sum_notes (at_object (Object.Cache lane class) (plain close_one)) log.left
    ≡ (if same_object (Object.Cache lane class) (Object.Cache lane other) then 1 else 0)
    + (many d.quota.0 0 + sum_notes (at_object (Object.Cache lane class) (plain close_one)) d.shed.1.left) =
    drained-sum (at_object (Object.Cache lane class) (plain close_one))
    (λ o k r. none-if (same_object (Object.Cache lane class) o)) lane other 0
    (λ k r. none-if (same_object (Object.Cache lane class) (Object.Cache lane other)))
    says.close (λ q. if same_object (Object.Cache lane class) (Object.Cache lane other) then 1 else 0) closed log
    d.quota d.shed d.noted d.sheds_it in
    go one_of (many d.quota.0 0) (sum_notes (at_object (Object.Cache lane class) (plain close_one)) log.left)
    (sum_notes (at_object (Object.Cache lane class) (plain close_one)) d.shed.1.left) s
    (λ later. closing-closes lane class self classes d.shed.1 p d.others later)
  where
    closed : (d : Did) (k q : ℕ) → says.close d ≡ Some q
        → at_object (Object.Cache lane class) (plain close_one) (At (Object.Cache lane other) k d)
        ≡ (if same_object (Object.Cache lane class) (Object.Cache lane other) then 1 else 0)
    closed (Close x) k q e = refl
    closed _ k q e = absurd (cc e)

    go : IsOne class (other ∷ classes) → (m n k : ℕ)
        → n ≡ (if same_object (Object.Cache lane class) (Object.Cache lane other) then 1 else 0) + (m + k)
        → (IsOne class classes → 1 ≤ k) → 1 ≤ n
    go (inl here) m n k s later =
        let test : same_object (Object.Cache lane class) (Object.Cache lane other)
        ≡ true = subst (λ c. same_object (Object.Cache lane class) (Object.Cache lane c) ≡ true) here self in
        omega (arith, s, ap one test)
    go (inr there) m n k s later = omega (arith, s, later there)

pub grants-shed : (o : Object) → Less OfCommands (at_object o (plain grant)) (at_object o (plain shed_one))
    × Less OfCommands (at_object o (plain shed_one)) (at_object o (plain grant))
grants-shed o = (
  record {
    other = λ n is. omega (arith, other n is);
    birth = λ x k root r. omega arith;
    growth = λ x k c r. omega arith;
    end =
        λ x k root. omega arith;
    shed = λ x y k l r may. absurd may;
  },
  record {
    other = λ n is. omega (arith, other n is);
    birth = λ x k root r. omega arith;
    growth = λ x k c r. omega arith;
    end =
        λ x k root. omega arith;
    shed = λ x y k l r may. absurd may;
  },
)
  where
    other : (n : Note) → IsOther OfCommands n → at_object o (plain grant) n ≡ at_object o (plain shed_one) n
    other (At x k (Trim q)) is = absurd is
    other (At x k (Close q)) is = absurd is
    other (At x k (Shed r)) is = absurd is
    other (At x k _) is = refl
    other (Ref root d) is = refl
    other (Busy held) is = refl
