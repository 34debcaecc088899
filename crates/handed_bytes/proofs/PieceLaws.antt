-- What is taken is what was sent; and writes behind births are the only ones to their roots.
use Rattle.std.proofs.Common.{◌≡◌, ℕ, suc, ◌+◌, ◌<◌, ◌≤◌, List, length, take, refl, sym, ap, subst, arith, Some, ◌∙◌, inl, inr, eq-eqb}
use Rattle.std.specs.Prelude.{◌⊎◌, Option, slice_get}
use Rattle.std.proofs.lemmas.Bool.{cases_lt}
use Rattle.pool_law.specs.declared.id.Parcel.{Parcel}
use Rattle.pool_law.specs.declared.id.RootId.{RootId}
use Rattle.pool_law.specs.declared.id.ViewData.{ViewData}
use Rattle.pool_law.specs.declared.note.Did.{Did}
use Rattle.pool_law.specs.declared.note.Did.TheVariants.{Set, Get}
use Rattle.pool_law.specs.declared.note.Note.{Note}
use Rattle.pool_law.specs.declared.note.Note.TheVariants.{Ref}
use Rattle.pool_law.specs.declared.note.RefDid.TheVariants.{Born}
use Rattle.pool_law.specs.declared.run.Shape.{Shape}
use Rattle.pool_law.specs.Legal.{HistoriesHold, one_if}
use Rattle.pool_law.specs.Lives.{StandsAt}
use Rattle.pool_law.specs.Logs.{Logs, of_lane}
use Rattle.pool_law.specs.Roots.{bytes_at}
use Rattle.run_order.specs.Order.{Step, Fits, InOneOrder, is_born_at, made, notes_by}
use Rattle.run_order.proofs.Fronts.{made-more, made-next}
use Rattle.run_order.proofs.Positions.{fits-there, later-there, place_of, stands-there}
use Rattle.handed_bytes.specs.Handed.{at_root, Accesses, WritesOnce, SendsPiece, TakesPiece, TakesWhatIsSent, BornBefore, WritesBehindBirths, WritesEachOnce}
use Rattle.handed_bytes.proofs.HandedLaw.{fetched-is, handed}

module _ (shape : Shape) (logs : Logs) (holds : HistoriesHold shape logs) (order : InOneOrder logs) where
  pub taken-is : TakesWhatIsSent logs
  taken-is sender receiver k view seen piece taken sent took =
      let parcel : ◌≡◌ {A = Parcel} (record { view = Some seen }) (record { view = Some view }) =
      fetched-is shape logs holds sender receiver k (record { view = Some view }) (record { view = Some seen })
      sent.post took.fetch in
      let some : ◌≡◌ {A = Option ViewData} (Some seen) (Some view) = ap (λ (p : Parcel). p.view) parcel in
      let same : seen ≡ view = cc some in
      let moved : TakesPiece logs sender receiver k view taken =
      subst (λ v. TakesPiece logs sender receiver k v taken) same took in
      handed shape logs holds order sender receiver k view.offset (record { view = Some view })
      (record { view = Some view })
      view.root sent.bytes taken sent.written sent.post moved.fetch moved.read sent.order moved.order
      (omega (arith, sent.inside, moved.whole))
      ∙ ap (bytes_at sent.bytes view.offset) moved.whole
      ∙ sym sent.piece_is

module _ (logs : Logs) (order : InOneOrder logs) where
  -- a root is born once
  born-once : (lane a b : ℕ) (root : RootId) → StandsAt logs lane a (Ref root Born)
      → StandsAt logs lane b (Ref root Born)
      → a < b → ⊥
  born-once lane a b root first second less =
      let xs = order.steps in
      let at_a : slice_get (notes_by lane xs) a
      ≡ Some (Ref root Born) = ap (λ l. slice_get l a) (order.whole lane) ∙ first in
      let at_b : slice_get (notes_by lane xs) b
      ≡ Some (Ref root Born) = ap (λ l. slice_get l b) (order.whole lane) ∙ second in
      let x : Step = record { lane = lane; note = Ref root Born } in
      let here = stands-there lane a xs (Ref root Born) at_a in
      let there = stands-there lane b xs (Ref root Born) at_b in
      let p = place_of lane a xs in
      let q = place_of lane b xs in
      let later : p < q = later-there lane a b xs (Ref root Born) at_b less in
      let fits_a : Fits (take p xs) (Ref root Born) = fits-there logs order p x here in
      let fits_b : Fits (take q xs) (Ref root Born) = fits-there logs order q x there in
      let next : made (is_born_at root.place) (take (suc p) xs)
      ≡ made (is_born_at root.place) (take p xs) + one_if (is_born_at root.place (Ref root Born)) =
      made-next (is_born_at root.place) xs p x here in
      let one : one_if (is_born_at root.place (Ref root Born)) ≡ 1 = ap one_if (eq-eqb root.place root.place refl) in
      absurd (omega (
        arith,
        fits_a.0,
        fits_b.0,
        next,
        one,
        made-more (is_born_at root.place) xs (suc p) q (omega (arith, later)),
      ))

  -- of two writes to one root behind births neither comes before the other
  pub apart : (lane : ℕ) (root : RootId) (m n : ℕ) (first second : List ℕ) → WritesBehindBirths logs lane
      → (v : Accesses logs lane root (Set m first)) (w : Accesses logs lane root (Set n second)) → v.at < w.at → ⊥
  apart lane root m n first second behind v w less =
      let a = behind.births root m first v in
      let b = behind.births root n second w in
      born-once lane a.birth b.birth root a.born b.born
      (omega (arith, a.earlier, b.last v.at v.number m root first less v.stands))

  -- two writes at one place of a log are one
  pub one-number : (lane : ℕ) (root : RootId) (m n : ℕ) (first second : List ℕ)
      (v : Accesses logs lane root (Set m first)) (w : Accesses logs lane root (Set n second)) → v.at ≡ w.at
      → v.number ≡ w.number
  one-number lane root m n first second v w same =
      let notes : ◌≡◌ {A = Option Note} (Some (at_root root v.number (Set m first))) (Some (at_root root w.number
      (Set n second))) =
      sym v.stands ∙ ap (slice_get (of_lane logs lane)) same ∙ w.stands in
      cc notes

  abbrev pub once-is : WritesEachOnce logs
  once-is lane root bytes behind write = record { write = write; only = only }
    where
      only : (other offset : ℕ) (more : List ℕ) (a : Accesses logs other root (Set offset more))
          → a.number ≡ write.number
      only other offset more a =
          let same : other ≡ lane = behind.alone other a.at a.number offset root more a.stands in
          let own : Accesses logs lane root (Set offset more) =
          record {
            at = a.at;
            number = a.number;
            stands = subst (λ l. StandsAt logs l a.at (at_root root a.number (Set offset more))) same a.stands;
            root_is = a.root_is;
          } in
          elim (cases_lt own.at write.at) [
            | inl less ↦ absurd (apart lane root offset 0 more bytes behind own write less)
            | inr high ↦
                elim (cases_lt write.at own.at) [
                  | inl less ↦ absurd (apart lane root 0 offset bytes more behind write own less)
                  | inr low ↦ one-number lane root offset 0 more bytes own write (omega (arith, high, low))
                ]
          ]
