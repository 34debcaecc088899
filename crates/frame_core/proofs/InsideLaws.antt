-- How the fields of a cutter stand for what it keeps.
use Rattle.std.proofs.Common.{◌≡◌, ℕ, ◌+◌, ◌≤◌, List, ◌++◌, length, take, sym, ap, ◌∙◌, subst, arith, length-append}
use Rattle.std.specs.Int.{from_be_bytes, w32}
use Rattle.std.proofs.lemmas.List.{length-take, take_all, take-append-le}
use Rattle.frame_core.specs.declared.cutter.Cutter.TheInside.{Inside}
use Rattle.frame_core.specs.contracts.cutter.Cutter.{the_view}
use Rattle.frame_core.specs.Standing.{Standing, Advances}
use Rattle.frame_core.proofs.StandingLaws.{len_at}

-- no more of a head is known than it has
pub head-short : (old : Inside) (s : Standing) → the_view old ≡ s → length old.head ≡ 4 → length s.head ≤ 4
head-short old s e four =
    let P : Standing → Type 0 = λ s. length s.head ≤ 4 in
    subst P e (omega (arith, length-take old.within old.head))

pub within-is : (old : Inside) (s : Standing) → the_view old ≡ s → s.within ≡ old.within
within-is old s e = sym (ap (λ (s : Standing). s.within) e)

-- the bytes of a head behind those that were known
pub known_more : (within n : ℕ) (head new bytes : List ℕ) → length bytes ≡ n → within + n ≤ 4
    → take (within + length bytes) new ≡ take within head ++ bytes
    → take (within + n) new ≡ take 4 (take within head ++ bytes)
known_more within n head new bytes len short e =
    ap (λ k. take (within + k) new) (sym len)
    ∙ (e ∙ sym (take_all 4 (take within head ++ bytes)
    (omega (arith, length-append (take within head) bytes, length-take within head))))

-- a head that is known stays
pub known_all : (within n : ℕ) (head bytes : List ℕ) → length head ≡ 4 → 4 ≤ within
    → take (within + n) head ≡ take 4 (take within head ++ bytes)
known_all within n head bytes four all =
    take_all (within + n) head (omega arith)
    ∙ (sym (take_all 4 head (omega arith))
    ∙ (sym (take-append-le 4 head bytes (omega arith))
    ∙ ap (λ known. take 4 (known ++ bytes)) (sym (take_all within head (omega arith)))))

pub advanced :
    (old new : Inside) (n : ℕ) (bytes : List ℕ) (s : Standing) → the_view old ≡ s → length bytes ≡ n
    → new.place ≡ old.place → new.frames ≡ old.frames → new.within ≡ old.within → new.refusal ≡ old.refusal
    → take (old.within + n) new.head ≡ take 4 (take old.within old.head ++ bytes)
    → Advances s bytes (the_view
    record {
      place = new.place + n;
      frames = new.frames;
      within = new.within + n;
      head = new.head;
      refusal =
          new.refusal;
    })
advanced old new n bytes s e len place frames within refusal head =
    let after = the_view record {
      place = new.place + n;
      frames = new.frames;
      within = new.within + n;
      head =
          new.head;
      refusal = new.refusal;
    } in
    let P : Standing → Type 0 = λ s. Advances s bytes after in
    subst P e (record {
      place = omega arith;
      frames = frames;
      within = omega arith;
      head = ap (λ k. take (k + n) new.head) within ∙ head;
      refusal = refusal;
    })

pub frames-is : (old : Inside) (s : Standing) → the_view old ≡ s → s.frames ≡ old.frames
frames-is old s e = sym (ap (λ (s : Standing). s.frames) e)

pub place-is : (old : Inside) (s : Standing) → the_view old ≡ s → s.place ≡ old.place
place-is old s e = sym (ap (λ (s : Standing). s.place) e)

-- a head of which all is known
pub head-is : (old : Inside) (s : Standing) → the_view old ≡ s → length old.head ≡ 4 → 4 ≤ old.within
    → s.head ≡ old.head
head-is old s e four all =
    sym (ap (λ (s : Standing). s.head) e) ∙ take_all old.within old.head (omega arith)

pub len_at-is : (old : Inside) (s : Standing) → the_view old ≡ s → length old.head ≡ 4 → 4 ≤ old.within
    → len_at s ≡ from_be_bytes w32 old.head
unfolding len_at
len_at-is old s e four all = ap (from_be_bytes w32) (head-is old s e four all)
