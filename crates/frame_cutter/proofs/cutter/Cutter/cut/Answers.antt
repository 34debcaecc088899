use Rattle.std.proofs.Common.{◌≡◌, ◌∙◌, ◌<◌, ◌≤◌, Bor, List, None, Option, Some, length, refl, subst, sym, ℕ}
use Rattle.std.specs.Prelude.{HoldsAt, MatchOption, slice_get}
use Rattle.std.specs.Option.{option_copied}
use Rattle.std.proofs.lemmas.Option.{slice_get_read}
use Rattle.frame_slices.specs.declared.slicer.Found.{Found}
use Rattle.frame_cutter.proofs.CutLaws.{reserved}
use Rattle.frame_cutter.proofs.cutter.Cutter.cut.Goals as goal

-- a find that was copied out of the list stands there
copied-there : (r : Option (Bor Found)) (xs : List Found) (k : ℕ) (f : Found)
    → MatchOption r (length xs ≤ k) (λ x. (k < length xs) × HoldsAt (λ y. x.now ≡ y) xs k) → option_copied r ≡ Some f
    → slice_get xs k ≡ Some f
copied-there None xs k f m e = absurd (cc e)
copied-there (Some x) xs k f m e =
    let is : x.now ≡ f = cc e in slice_get_read xs (length xs) k f refl m.0 (sym is ∙ m.1 f)

pub returns-in_err-reserve-clause-stands : goal.returns-in_err-reserve-clause-stands
returns-in_err-reserve-clause-stands g c read stands =
    reserved c.args.shared.now c.args.self.now read stands c.args.root c.args.used c.requires.stage c.reserve.new.self
    c.reserve.ensures.items

pub take-requires-clause-stands : goal.take-requires-clause-stands
take-requires-clause-stands g c =
    let stands = c.requires.stands in (
      stands.0,
      reserved c.args.shared.now c.args.self.now stands.0 stands.1 c.args.root c.args.used c.requires.stage
          c.reserve.new.self c.reserve.ensures.items,
    )

pub take-requires-clause-found : goal.take-requires-clause-found
take-requires-clause-found g c =
    subst (λ (fs : List Found). slice_get fs c.args.used ≡ Some c.in-Some.found) c.deref.ensures.value
    (copied-there c.get.result c.deref.result.now c.args.used c.in-Some.found c.get.ensures.lookup.3
    (sym c.copied.ensures ∙ c.in-Some.is))

pub returns-clause-stands : goal.returns-clause-stands
returns-clause-stands g c read stands =
    c.take.ensures.stands read
    (reserved c.args.shared.now c.args.self.now read stands c.args.root c.args.used c.requires.stage c.reserve.new.self
    c.reserve.ensures.items)
