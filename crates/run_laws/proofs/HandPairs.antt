-- What comes into a lane's hand goes out of it with the next note that moves a region.
use Rattle.std.proofs.Common.{⊎_elim, inl, inr, ◌≡◌, ℕ, zero, suc, [], ◌∷◌, refl, sym, ap, subst, arith, Bool, true, false, Some, None, ◌∙◌}
use Rattle.std.specs.Prelude.{◌⊎◌, ◌<◌, slice_get}
use Rattle.std.proofs.lemmas.Option.{same_Some}
use Rattle.pool_law.specs.declared.id.RegionId.{RegionId}
use Rattle.pool_law.specs.declared.note.Did.{Did}
use Rattle.pool_law.specs.Logs.{ToldNote}
use Rattle.pool_law.specs.Readers.{ToldNotes}
use Rattle.arena_laws.proofs.SlotLemmas.{three}
use Rattle.run_laws.specs.Hands.{did_of, Source, Hand, hand_step, hand_after}
use Rattle.run_laws.proofs.HandSteps.{Fills, Empties, moving, IsIn, IsOut, InOf, OutOf, empties-move, Filled, Emptied, from-empty, from-full, in-moves, out-moves}
use Rattle.run_laws.proofs.Readings.{bind-some}

-- a note that comes into the hand at one place, and the next that moves a region, which puts it down
abbrev pub StillBetween : ToldNotes → ℕ → ℕ → Type 0
StillBetween es j k = (m : ℕ) (e : ToldNote) → j < m → m < k → slice_get es m ≡ Some e → moving (did_of e.note) ≡ false

pub record Out (es : ToldNotes) (k : ℕ) (from : Source) (y : RegionId) : Type 0 where
  pub entry : ToldNote
  pub there : slice_get es k ≡ Some entry
  pub did : Did
  pub is : did_of entry.note ≡ Some did
  pub empties : Empties from y did

pub record In (es : ToldNotes) (j : ℕ) (from : Source) (y : RegionId) : Type 0 where
  pub entry : ToldNote
  pub there : slice_get es j ≡ Some entry
  pub did : Did
  pub is : did_of entry.note ≡ Some did
  pub fills : Fills from y entry.region did

pub record Pair (es : ToldNotes) (j k : ℕ) (from : Source) (y : RegionId) : Type 0 where
  pub into : In es j from y
  pub out : Out es k from y
  pub order : j < k
  pub still : StillBetween es j k

-- a region in hand goes out with the next note that moves one
pub record Next (es : ToldNotes) (from : Source) (y : RegionId) : Type 0 where
  pub at : ℕ
  pub out : Out es at from y
  pub still : (m : ℕ) (e : ToldNote) → m < at → slice_get es m ≡ Some e → moving (did_of e.note) ≡ false

first-out : (e : ToldNote) (es : ToldNotes) (from : Source) (y : RegionId) → Emptied from y (did_of e.note)
    → Out (e ∷ es) 0 from y
first-out e es from y m = record { entry = e; there = refl; did = m.did; is = m.is; empties = m.empties }

later-out : (e : ToldNote) (es : ToldNotes) (k : ℕ) (from : Source) (y : RegionId) → Out es k from y
    → Out (e ∷ es) (suc k) from y
later-out e es k from y o = record { entry = o.entry; there = o.there; did = o.did; is = o.is; empties = o.empties }

pub next-out : (es : ToldNotes) (from : Source) (y : RegionId) → hand_after (Some (from, y)) es ≡ Some None
    → Next es from y
next-out [] from y h = absurd (cc h)
next-out (e ∷ es) from y h =
    let s = bind-some (hand_step (Some (from, y)) e) (λ k. hand_after k es) None h in
    ⊎_elim
    (λ quiet.
    let r : Next es from y = next-out es from y (ap (λ k. hand_after k es) (sym quiet.1) ∙ s.2) in
    record { at = suc r.at; out = later-out e es r.at from y r.out; still = λ m x. below m x quiet.0 r })
    (λ moved. record {
      at = 0;
      out = first-out e es from y moved.0;
      still = λ m x less. absurd (omega (arith, less));
    })
    (from-full from y e.region (did_of e.note) s.0 s.1)
  where
    below : (m : ℕ) (x : ToldNote) → moving (did_of e.note) ≡ false → (r : Next es from y) → m < suc r.at
        → slice_get (e ∷ es) m ≡ Some x → moving (did_of x.note) ≡ false
    below zero x quiet r less is = let same : e ≡ x = cc is in ap (λ y. moving (did_of y.note)) (sym same) ∙ quiet
    below (suc m) x quiet r less is = r.still m x (omega (arith, less)) is

-- behind an entry
pub later-pair : (e : ToldNote) (es : ToldNotes) (j k : ℕ) (from : Source) (y : RegionId) → Pair es j k from y
    → Pair (e ∷ es) (suc j) (suc k) from y
later-pair e es j k from y p =
    record {
      into =
          record { entry = p.into.entry; there = p.into.there; did = p.into.did; is = p.into.is; fills = p.into.fills };
      out = later-out e es k from y p.out;
      order = omega (arith, p.order);
      still = between;
    }
  where
    between : StillBetween (e ∷ es) (suc j) (suc k)
    between zero x low high is = absurd (omega (arith, low))
    between (suc m) x low high is = p.still m x (omega (arith, low)) (omega (arith, high)) is

pub first-pair : (e : ToldNote) (es : ToldNotes) (did : Did) (from : Source) (y : RegionId) → did_of e.note ≡ Some did
    → Fills from y e.region did → (r : Next es from y) → Pair (e ∷ es) 0 (suc r.at) from y
first-pair e es did from y is fills r =
    record {
      into = record { entry = e; there = refl; did = did; is = is; fills = fills };
      out = later-out e es r.at from y r.out;
      order = omega arith;
      still = between;
    }
  where
    between : StillBetween (e ∷ es) 0 (suc r.at)
    between zero x low high is = absurd (omega (arith, low))
    between (suc m) x low high is = r.still m x (omega (arith, high)) is

pub no-both : (b : Bool) → b ≡ true → b ≡ false → ⊥
no-both b yes_b no_b = let same : true ≡ false = sym yes_b ∙ no_b in cc same

-- each note that comes into the hand
pub record Onward (es : ToldNotes) (j : ℕ) : Type 0 where
  pub to : ℕ
  pub from : Source
  pub region : RegionId
  pub pair : Pair es j to from region

filled-onward : (e : ToldNote) (es : ToldNotes) (k : Hand) → Filled e.region (did_of e.note) k
    → hand_after k es ≡ Some None → Onward (e ∷ es) 0
filled-onward e es k f rest =
    let r : Next es f.from f.region = next-out es f.from f.region (ap (λ h. hand_after h es) (sym f.held) ∙ rest) in
    record {
      to = suc r.at;
      from = f.from;
      region = f.region;
      pair = first-pair e es f.did f.from f.region f.is f.fills r;
    }

pub pair-from : (es : ToldNotes) (h : Hand) (j : ℕ) (x : ToldNote) (d : Did) → hand_after h es ≡ Some None
    → slice_get es j ≡ Some x → did_of x.note ≡ Some d → IsIn d → Onward es j
pair-from [] h j x d run is did kind = absurd (cc is)
pair-from (e ∷ es) h zero x d run is did kind =
    let s = bind-some (hand_step h e) (λ k. hand_after k es) None run in
    let same : e ≡ x = cc is in
    go h s.0 s.1 s.2 (ap (λ y. did_of y.note) same ∙ did)
  where
    go : (h k : Hand) → hand_step h e ≡ Some k → hand_after k es ≡ Some None → did_of e.note ≡ Some d
        → Onward (e ∷ es) 0
    go None k step rest here =
        ⊎_elim
        (λ quiet. absurd (no-both (moving (did_of e.note)) (ap moving here ∙ in-moves d kind) quiet.0))
        (λ filled. filled-onward e es k filled.0 rest)
        (from-empty e.region (did_of e.note) k step)
    go (Some held) k step rest here =
        ⊎_elim
        (λ quiet. absurd (no-both (moving (did_of e.note)) (ap moving here ∙ in-moves d kind) quiet.0))
        (λ moved. ⊎_elim (λ none. absurd (none.1 (subst InOf (sym here) kind)))
        (λ filled. filled-onward e es k filled rest) moved.1)
        (from-full held.0 held.1 e.region (did_of e.note) k step)
pair-from (e ∷ es) h (suc j) x d run is did kind =
    let s = bind-some (hand_step h e) (λ k. hand_after k es) None run in
    let r : Onward es j = pair-from es s.0 j x d s.2 is did kind in
    record { to = suc r.to; from = r.from; region = r.region; pair = later-pair e es j r.to r.from r.region r.pair }

-- each note that puts a region down: it was in the hand at first, or came in by a note before
pub record Before (es : ToldNotes) (k : ℕ) : Type 0 where
  pub at : ℕ
  pub from : Source
  pub region : RegionId
  pub pair : Pair es at k from region

pub record AtFirst (es : ToldNotes) (h : Hand) (k : ℕ) : Type 0 where
  pub from : Source
  pub region : RegionId
  pub held : h ≡ Some (from, region)
  pub out : Out es k from region
  pub still : (m : ℕ) (e : ToldNote) → m < k → slice_get es m ≡ Some e → moving (did_of e.note) ≡ false

-- what fills the hand that is found at first behind it
filled-before : (e : ToldNote) (es : ToldNotes) (l : Hand) (k : ℕ) → Filled e.region (did_of e.note) l → AtFirst es l k
    → Before (e ∷ es) (suc k)
filled-before e es l k filled f =
    let same : ◌≡◌ {A = Source × RegionId} (filled.from, filled.region) (f.from, f.region) =
    same_Some (filled.from, filled.region) (f.from, f.region) (sym filled.held ∙ f.held) in
    let fills : Fills f.from f.region e.region filled.did =
    subst (λ p. Fills p.0 p.1 e.region filled.did) same filled.fills in
    record {
      at = 0;
      from = f.from;
      region = f.region;
      pair =
          first-pair e es filled.did f.from f.region filled.is fills
          (record { at = k; out = f.out; still = f.still });
    }

pub pair-to : (es : ToldNotes) (h : Hand) (k : ℕ) (x : ToldNote) (d : Did) → hand_after h es ≡ Some None
    → slice_get es k ≡ Some x → did_of x.note ≡ Some d → IsOut d → AtFirst es h k ⊎ Before es k
pair-to [] h k x d run is did kind = absurd (cc is)
pair-to (e ∷ es) h zero x d run is did kind =
    let s = bind-some (hand_step h e) (λ k. hand_after k es) None run in
    let same : e ≡ x = cc is in
    go h s.0 s.1 (ap (λ y. did_of y.note) same ∙ did)
  where
    go : (h k : Hand) → hand_step h e ≡ Some k → did_of e.note ≡ Some d
        → AtFirst (e ∷ es) h 0 ⊎ Before (e ∷ es) 0
    go None k step here =
        ⊎_elim
        (λ quiet. absurd (no-both (moving (did_of e.note)) (ap moving here ∙ out-moves d kind) quiet.0))
        (λ filled. absurd (filled.1 (subst OutOf (sym here) kind)))
        (from-empty e.region (did_of e.note) k step)
    go (Some held) k step here =
        ⊎_elim
        (λ quiet. absurd (no-both (moving (did_of e.note)) (ap moving here ∙ out-moves d kind) quiet.0))
        (λ moved. inl (record {
          from = held.0;
          region = held.1;
          held = refl;
          out = first-out e es held.0 held.1 moved.0;
          still = λ m y less. absurd (omega (arith, less));
        }))
        (from-full held.0 held.1 e.region (did_of e.note) k step)
pair-to (e ∷ es) h (suc k) x d run is did kind =
    let s = bind-some (hand_step h e) (λ k. hand_after k es) None run in
    ⊎_elim
    (λ first. go h s.0 s.1 first)
    (λ before. inr (record {
      at = suc before.at;
      from = before.from;
      region = before.region;
      pair = later-pair e es before.at k before.from before.region before.pair;
    }))
    (pair-to es s.0 k x d s.2 is did kind)
  where
    below : moving (did_of e.note) ≡ false → (l : Hand) → (f : AtFirst es l k) → (m : ℕ) (y : ToldNote) → m < suc k
        → slice_get (e ∷ es) m ≡ Some y → moving (did_of y.note) ≡ false
    below quiet l f zero y less is = let same : e ≡ y = cc is in ap (λ z. moving (did_of z.note)) (sym same) ∙ quiet
    below quiet l f (suc m) y less is = f.still m y (omega (arith, less)) is

    go : (h l : Hand) → hand_step h e ≡ Some l → AtFirst es l k → AtFirst (e ∷ es) h (suc k) ⊎ Before (e ∷ es) (suc k)
    go None l step f =
        ⊎_elim
        (λ quiet. let none : ◌≡◌ {A = Hand} None (Some (f.from, f.region)) = sym quiet.1 ∙ f.held in absurd (cc none))
        (λ filled. inr (filled-before e es l k filled.0 f))
        (from-empty e.region (did_of e.note) l step)
    go (Some held) l step f =
        ⊎_elim
        (λ quiet.
        inl (record {
          from = f.from;
          region = f.region;
          held = sym quiet.1 ∙ f.held;
          out = later-out e es k f.from f.region f.out;
          still = below quiet.0 l f;
        }))
        (λ moved. ⊎_elim
        (λ none. let empty : ◌≡◌ {A = Hand} None (Some (f.from, f.region)) = sym none.0 ∙ f.held in absurd (cc empty))
        (λ filled. inr (filled-before e es l k filled f)) moved.1)
        (from-full held.0 held.1 e.region (did_of e.note) l step)

-- a note comes into the hand for one note that puts it down
pub one-out : (es : ToldNotes) (j k l : ℕ) (from of : Source) (y z : RegionId) → Pair es j k from y → Pair es j l of z
    → k ≡ l
one-out es j k l from of y z p q =
    ⊎_elim
    (λ less. absurd (no-both (moving (did_of p.out.entry.note))
    (ap moving p.out.is ∙ empties-move from y p.out.did p.out.empties)
    (q.still k p.out.entry p.order less p.out.there)))
    (λ o. ⊎_elim
    (λ same. same)
    (λ more. absurd (no-both (moving (did_of q.out.entry.note))
    (ap moving q.out.is ∙ empties-move of z q.out.did q.out.empties)
    (p.still l q.out.entry q.order more q.out.there)))
    o)
    (three k l)
