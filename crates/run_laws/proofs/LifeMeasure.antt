-- How far a taking has come: by its uses, and then by what happened to it since.
use Rattle.std.proofs.Common.{inl, inr, ◌≡◌, ℕ, zero, suc, ◌+◌, ◌≤◌, ap, arith, Some, None}
use Rattle.std.specs.Prelude.{◌<◌, Option}
use Rattle.pool_law.specs.declared.id.RegionId.{RegionId}
use Rattle.pool_law.specs.declared.note.Did.{Did}
use Rattle.pool_law.specs.declared.note.Did.TheVariants.{Take, Give, Hit, Kept, Shed, Birth, Grow}
use Rattle.pool_law.specs.declared.note.Note.{Note}
use Rattle.pool_law.specs.declared.note.Note.TheVariants.{At}
use Rattle.pool_law.specs.Logs.{Logs, entry_of}
use Rattle.pool_law.specs.Lives.{Event, Stands, Happening, Move, Takes, Gives, Keeps, Hits, Sheds, Begins, Leaves, region_of}
use Rattle.run_laws.proofs.Sums.{sum_over, over-at}
use Rattle.run_laws.proofs.Doings.{Does, left-region}

-- so many times this width
pub scale : ℕ → ℕ → ℕ
scale width zero = 0
scale width (suc n) = width + scale width n

pub ahead : (width a b : ℕ) → a < b → scale width a + width ≤ scale width b
unfolding scale
ahead width a zero less = absurd (omega (arith, less))
ahead width zero (suc b) less = omega arith
ahead width (suc a) (suc b) less = omega (arith, ahead width a b (omega (arith, less)))

-- the number of a note, and the uses that it tells
abbrev pub note_number : Note → ℕ
note_number (At o k d) = k
note_number _ = 0

abbrev pub uses_told : Did → ℕ
uses_told (Take c r) = r.uses
uses_told (Give r) = r.uses
uses_told (Hit r) = r.uses
uses_told (Kept r) = r.uses
uses_told (Shed r) = r.uses
uses_told (Birth root r) = r.uses
uses_told (Grow c r) = r.uses
uses_told _ = 0

abbrev pub uses_left : Option RegionId → ℕ
uses_left None = 0
uses_left (Some r) = r.uses

abbrev pub note_uses : Logs → Note → ℕ
note_uses logs (At o k d) = uses_told d + uses_left (entry_of logs (At o k d)).region
note_uses logs _ = 0

module _ (logs : Logs) where
  -- above all numbers of notes, and above all uses
  abbrev pub width : ℕ
  width = sum_over note_number logs + 3

  abbrev pub most_uses : ℕ
  most_uses = sum_over (note_uses logs) logs

  -- what happened since the last use began
  abbrev pub phase : Move → ℕ → ℕ
  phase (Begins root r) number = 0
  phase (Takes c r) number = 1
  phase (Leaves root r) number = 1
  phase (Keeps r) number = number + 1
  phase (Hits r) number = number + 1
  phase (Sheds r) number = number + 1
  phase (Gives r) number = sum_over note_number logs + 2

  abbrev pub measure : Happening → ℕ
  measure t = scale width (region_of t.move).uses + phase t.move t.event.number

  abbrev pub bound : ℕ
  bound = scale width (most_uses + 1)

  pub number-most : (e : Event) → Stands logs e → e.number ≤ sum_over note_number logs
  number-most e s = omega (arith, over-at note_number logs e.lane e.at (At e.object e.number e.did) s)

  pub phase-less : (m : Move) (number : ℕ) → number ≤ sum_over note_number logs → phase m number < width
  phase-less (Begins root r) number most = omega arith
  phase-less (Takes c r) number most = omega arith
  phase-less (Leaves root r) number most = omega arith
  phase-less (Keeps r) number most = omega (arith, most)
  phase-less (Hits r) number most = omega (arith, most)
  phase-less (Sheds r) number most = omega (arith, most)
  phase-less (Gives r) number most = omega arith

  uses-most : (m : Move) (e : Event) → Stands logs e → Does logs m e → (region_of m).uses ≤ most_uses
  uses-most m e s does =
      omega (
        arith,
        over-at (note_uses logs) logs e.lane e.at (At e.object e.number e.did) s,
        told m does,
      )
    where
      by : (d : Did) → e.did ≡ d → uses_told d ≤ note_uses logs (At e.object e.number e.did)
      by d is =
          omega (arith, ap uses_told is)

      told : (m : Move) → Does logs m e → (region_of m).uses ≤ note_uses logs (At e.object e.number e.did)
      told (Takes c r) is = by (Take c r) is
      told (Gives r) is = by (Give r) is
      told (Keeps r) is = by (Kept r) is
      told (Hits r) is = by (Hit r) is
      told (Sheds r) is = by (Shed r) is
      told (Begins root r) (inl is) = by (Birth root r) is
      told (Begins root r) (inr g) = by (Grow g.0 r) g.1
      told (Leaves root r) (ends, p) =
          omega (
            arith,
            ap uses_left (left-region logs e.object e.number e.did p.0 ends p.1),
            ap (λ x. x.uses) p.3,
          )

  pub measure-low : (t : Happening) → Stands logs t.event → Does logs t.move t.event → measure t < bound
  measure-low t s does =
      let uses : (region_of t.move).uses ≤ most_uses = uses-most t.move t.event s does in
      omega (
        arith,
        ahead width (region_of t.move).uses (most_uses + 1) (omega (arith, uses)),
        phase-less t.move t.event.number (number-most t.event s),
      )
