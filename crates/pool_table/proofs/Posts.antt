-- Letters: which entry sends one, and which receives it.
use Rattle.std.proofs.Common.{◌≡◌, ℕ, ◌<◌, List, Bool, true, false, cond, refl, ap, subst, arith, eqb-true, eq-eqb, true≢false}
use Rattle.std.specs.Prelude.{Option, Some, None, All, sum_by, ◌&&◌, ◌==◌}
use Rattle.std.proofs.lemmas.List.Elements.{All-tail, All-weaker}
use Rattle.std.proofs.lemmas.List.Sums.{sum_by-cons}
use mathlib.Core.Option.{some}
use lib.ListN.{get_elem?}
use Rattle.step_law.proofs.Changes.{each_at, sum_only, sum_none}
use Rattle.pool_law.specs.declared.run.Shape.{Shape}
use Rattle.pool_law.specs.declared.note.Did.{Did}
use Rattle.pool_law.specs.declared.note.Did.TheVariants.{Post, Fetch}
use Rattle.pool_law.specs.declared.note.Noted.{Noted}
use Rattle.pool_law.specs.declared.note.Object.TheVariants.{Mail}
use Rattle.pool_law.specs.Kinds.{passing}
use Rattle.pool_law.specs.NotedHistories.{MayNote}
use Rattle.pool_law.specs.Same.{same_parcel}
use Rattle.pool_law.proofs.SameLemmas.{and-first, and-second, same_parcel-is, same_parcel-refl}
use Rattle.step_law.specs.Settings.{Setting}
use Rattle.pool_table.specs.declared.views.Entry.{Entry}
use Rattle.pool_table.specs.declared.views.Entry.TheVariants.{At, Ref, Busy}
use Rattle.pool_table.specs.declared.views.Letter.{Letter}
use Rattle.pool_table.specs.declared.views.Part.{Part}
use Rattle.pool_table.specs.declared.views.SeatView.{SeatView}
use Rattle.pool_table.specs.Views.{parts_of, is_lane}
use Rattle.pool_table.specs.Counts.{weigh}
use Rattle.pool_table.specs.Letters.{letter_in, letter_out, letter_sent, letter_received, letter_weight, sent_as, received_as, is_on_way}
use Rattle.pool_table.specs.Sound.{IsView, Stands}
use Rattle.pool_table.proofs.Lists.{all_two}
use Rattle.pool_table.proofs.Sequence.{IsAlone}

-- two letters
abbrev pub same_letter : Letter → Letter → Bool
same_letter a b =
    (a.from == b.from) && ((a.to == b.to) && ((a.number == b.number) && same_parcel a.parcel b.parcel))

pub same_letter-is : (a b : Letter) → same_letter a b ≡ true → a ≡ b
same_letter-is a b e =
    let last : Bool = (a.number == b.number) && same_parcel a.parcel b.parcel in
    let rest : Bool = (a.to == b.to) && last in
    let second : rest ≡ true = and-second (a.from == b.from) rest e in
    let third : last ≡ true = and-second (a.to == b.to) last second in
    let f = eqb-true a.from b.from (and-first (a.from == b.from) rest e) in
    let t = eqb-true a.to b.to (and-first (a.to == b.to) last second) in
    let n = eqb-true a.number b.number (and-first (a.number == b.number) (same_parcel a.parcel b.parcel) third) in
    let p = same_parcel-is a.parcel b.parcel
    (and-second (a.number == b.number) (same_parcel a.parcel b.parcel) third) in
    λ i. record { from = f i; to = t i; number = n i; parcel = p i }

pub same_letter-refl : (a : Letter) → same_letter a a ≡ true
same_letter-refl a = λ i. eq-eqb a.from a.from refl i
    && (eq-eqb a.to a.to refl i && (eq-eqb a.number a.number refl i && same_parcel-refl a.parcel i))

-- 1 for this letter
abbrev pub is_letter : Letter → Letter → ℕ
is_letter a b = cond (same_letter a b) 1 0

pub is_itself : (a : Letter) → is_letter a a ≡ 1
is_itself a = ap (λ (b : Bool). cond {A = ℕ} b 1 0) (same_letter-refl a)

pub only_itself : (a b : Letter) → 0 < is_letter a b → a ≡ b
only_itself a b lt = by (same_letter a b) refl lt
  where
    by : (t : Bool) → same_letter a b ≡ t → 0 < cond {A = ℕ} t 1 0 → a ≡ b
    by true e lt = same_letter-is a b e
    by false e lt = absurd (omega (arith, lt))

-- a letter is on its own way
pub on_its_way : (x : Letter) → is_on_way x.from x.to x ≡ 1
on_its_way x = λ i. cond {A = ℕ} (eq-eqb x.from x.from refl i && eq-eqb x.to x.to refl i) 1 0

-- what sends a letter is its post, and what receives it is its fetch
pub told_sent : (e : Entry) (x : Letter) → letter_sent e ≡ Some x
    → (n : Noted) × (e ≡ At (Mail x.from x.to) x.number n) × (n.did ≡ Post x.parcel)
told_sent (At (Mail a b) k n) x is = by n.did refl is
  where
    by : (d : Did) → n.did ≡ d → letter_in (Mail a b) k (passing d) ≡ Some x
        → (m : Noted) × (At (Mail a b) k n ≡ At (Mail x.from x.to) x.number m) × (m.did ≡ Post x.parcel)
    by (Post q) did e =
        let y : Letter = record { from = a; to = b; number = k; parcel = q } in let same : y ≡ x = cc e in
        subst (λ (z : Letter). (m : Noted) × (At (Mail a b) k n ≡ At (Mail z.from z.to) z.number m)
        × (m.did ≡ Post z.parcel)) same (n, refl, did)
    by d did e = absurd (cc e)
told_sent (At o k n) x is = absurd (cc is)
told_sent (Ref r d) x is = absurd (cc is)
told_sent (Busy b) x is = absurd (cc is)

pub told_received : (e : Entry) (x : Letter) → letter_received e ≡ Some x
    → (n : Noted) × (e ≡ At (Mail x.from x.to) x.number n) × (n.did ≡ Fetch x.parcel)
told_received (At (Mail a b) k n) x is = by n.did refl is
  where
    by : (d : Did) → n.did ≡ d → letter_out (Mail a b) k (passing d) ≡ Some x
        → (m : Noted) × (At (Mail a b) k n ≡ At (Mail x.from x.to) x.number m) × (m.did ≡ Fetch x.parcel)
    by (Fetch q) did e =
        let y : Letter = record { from = a; to = b; number = k; parcel = q } in let same : y ≡ x = cc e in
        subst (λ (z : Letter). (m : Noted) × (At (Mail a b) k n ≡ At (Mail z.from z.to) z.number m)
        × (m.did ≡ Fetch z.parcel)) same (n, refl, did)
    by d did e = absurd (cc e)
told_received (At o k n) x is = absurd (cc is)
told_received (Ref r d) x is = absurd (cc is)
told_received (Busy b) x is = absurd (cc is)

-- a letter is sent by its first lane alone, and received by its second
pub sender_is : (s : Shape) (lane : Option ℕ) (e : Entry) (x : Letter) → Stands s lane e → letter_sent e ≡ Some x
    → lane ≡ Some x.from
sender_is s lane e x st is =
    let t = told_sent e x is in
    by lane (subst (λ (d : Did). MayNote s lane (Mail x.from x.to) d) t.2 (subst (Stands s lane) t.1 st).lane_may)
  where
    by : (lane : Option ℕ) → MayNote s lane (Mail x.from x.to) (Post x.parcel) → lane ≡ Some x.from
    by (Some j) may = ap Some (eqb-true j x.from may)
    by None may = absurd (true≢false may)

pub receiver_is : (s : Shape) (lane : Option ℕ) (e : Entry) (x : Letter) → Stands s lane e → letter_received e ≡ Some x
    → lane ≡ Some x.to
receiver_is s lane e x st is =
    let t = told_received e x is in
    by lane (subst (λ (d : Did). MayNote s lane (Mail x.from x.to) d) t.2 (subst (Stands s lane) t.1 st).lane_may)
  where
    by : (lane : Option ℕ) → MayNote s lane (Mail x.from x.to) (Fetch x.parcel) → lane ≡ Some x.to
    by (Some j) may = ap Some (eqb-true j x.to may)
    by None may = absurd (true≢false may)

-- so what other lanes' parts have weighs nothing on a way
pub other_sends_none : (s : Shape) (a b : ℕ) (lane : Option ℕ) (e : Entry) → Stands s lane e → is_lane a lane ≡ false
    → sent_as (is_on_way a b) e ≡ 0
other_sends_none s a b lane e st off = by (letter_sent e) refl
  where
    by : (o : Option Letter) → letter_sent e ≡ o → letter_weight (is_on_way a b) o ≡ 0
    by None is = refl
    by (Some x) is =
        let away : is_lane a (Some x.from) ≡ false = subst (λ (l : Option ℕ). is_lane a l ≡ false)
        (sender_is s lane e x st is) off in
        ap (λ (t : Bool). cond {A = ℕ} (t && (x.to == b)) 1 0) away

pub other_receives_none : (s : Shape) (a b : ℕ) (lane : Option ℕ) (e : Entry) → Stands s lane e
    → is_lane b lane ≡ false → received_as (is_on_way a b) e ≡ 0
other_receives_none s a b lane e st off = by (letter_received e) refl
  where
    no : (t u : Bool) → u ≡ false → cond {A = ℕ} (t && u) 1 0 ≡ 0
    no true u e = ap (λ (u : Bool). cond {A = ℕ} u 1 0) e
    no false u e = refl

    by : (o : Option Letter) → letter_received e ≡ o → letter_weight (is_on_way a b) o ≡ 0
    by None is = refl
    by (Some x) is = no (x.from == a) (x.to == b) (subst (λ (l : Option ℕ). is_lane b l ≡ false)
        (receiver_is s lane e x st is) off)

-- what only the parts of a lane have, a view has in its own part, where that is the lane's
pub only_own : (s : Shape) (setting : Setting) (views : List SeatView) (id m : ℕ) (v : SeatView) (f : Entry → ℕ)
    → ((lane : Option ℕ) (e : Entry) → Stands s lane e → is_lane m lane ≡ false → f e ≡ 0)
    → All (IsView s setting) views → get_elem? views id ≡ some v → IsAlone views id v → v.own.number ≡ Some m
    → sum_by (weigh f) views ≡ sum_by f v.own.notes
only_own s setting views id m v f none fine at alone own =
    let w : Part → ℕ = λ (q : Part). sum_by f q.notes in
    let nothing : (ps : List Part) → All (λ (q : Part). is_lane m q.number ≡ false) ps
    → All (λ (q : Part). All (Stands s q.number) q.notes) ps → sum_by w ps ≡ 0 = (λ ps off st. sum_none w ps
    (all_two (λ (q : Part). is_lane m q.number ≡ false) (λ (q : Part). All (Stands s q.number) q.notes)
    (λ (q : Part). w q ≡ 0)
    (λ q no st. sum_none f q.notes (All-weaker (Stands s q.number) (λ (e : Entry). f e ≡ 0)
    (λ e stand. none q.number e stand no) q.notes st)) ps off st)) in
    let mine = each_at (IsView s setting) views id v fine at in
    let a = sum_only (weigh f) views id v at (λ j u ne there. nothing (parts_of u) ((alone m own).1 j u ne there)
    (each_at (IsView s setting) views j u fine there).notes) in
    let b = sum_by-cons w v.own v.others in
    let c = nothing v.others ((alone m own).0)
    (All-tail (λ (q : Part). All (Stands s q.number) q.notes) v.own v.others mine.notes) in
    omega (arith, a, b, c)
