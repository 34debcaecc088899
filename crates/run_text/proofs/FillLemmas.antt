-- Notes, of what their lines tell.
use Rattle.std.proofs.Common.{◌≡◌, ℕ, Bool, true, false, cond, List, [], ◌∷◌, ◌++◌, Option, Some, None, refl, sym, ap, ◌∙◌}
use Rattle.std.specs.Prelude.{unwrap_or}
use Rattle.std.specs.Option.{option_map, option_or}
use Rattle.pool_law.specs.declared.id.RegionId.{RegionId}
use Rattle.pool_law.specs.declared.note.Did.{Did}
use Rattle.pool_law.specs.declared.note.Note.{Note}
use Rattle.run_text.specs.Lines.{Begun, Line, begun, brought, in_hand, keyed, last, last_use, same_key, taking_key}
use Rattle.run_text.specs.Told.{did_told, shown_region}
use Rattle.run_text.proofs.KnownLemmas.{last-push}

-- a line that tells a taking tells it of this
pub told_take : (did : Did) (class : ℕ) (region : RegionId) → Did.Take class region ≡ did_told did
    → (r : RegionId) × (did ≡ Did.Take class r) × (region ≡ shown_region r)
told_take (Did.Take class' r) class region is = (r, cc, cc)
told_take did class region is = absurd (cc)

-- ---- A note that is passed.

abbrev pub uses_told : Option Begun → Option ℕ
uses_told o = option_map (λ b. b.1.uses) o

or-unwrap : {X : Type 0} (a b : Option X) (d : X) → unwrap_or a (unwrap_or b d) ≡ unwrap_or (option_or a b) d
or-unwrap None b d = refl
or-unwrap (Some x) b d = refl

module _ (all before : List Line) (lane : ℕ) (note : Note) where
  pub hand_after : unwrap_or (brought all note) (in_hand all before) ≡ in_hand all (before ++ (lane, note) ∷ [])
  hand_after =
      or-unwrap (brought all note) (last (λ line. brought all line.1) before) None
      ∙ ap (λ (o : Option (Option RegionId)). unwrap_or o None)
      (sym (last-push (λ line. brought all line.1) before (lane, note)))

  pub passed_after : (key : ℕ × ℕ) (o : Option Begun) → begun note ≡ o
      → uses_told (option_or (keyed (λ b. taking_key b.1) key o) (last_use before key))
      ≡ uses_told (last_use (before ++ (lane, note) ∷ []) key)
  passed_after key o is =
      sym (ap uses_told (last-push (λ line. keyed (λ b. taking_key b.1) key (begun line.1)) before (lane, note)
      ∙ ap (λ (x : Option Begun). option_or (keyed (λ b. taking_key b.1) key x) (last_use before key)) is))

-- uses that are put in at their taking
pub put_uses : (q : ℕ × ℕ) (b : Begun) (k : ℕ × ℕ) (v : ℕ) (old new : Option ℕ) (o : Option Begun)
    → k ≡ taking_key b.1 → v ≡ b.1.uses → new ≡ cond (same_key k q) (Some v) old → old ≡ uses_told o
    → new ≡ uses_told (option_or (keyed (λ b. taking_key b.1) q (Some b)) o)
put_uses q b k v old new o at_key uses e was =
    e ∙ (λ i. cond (same_key (at_key i) q) (Some (uses i)) (was i)) ∙ go (same_key (taking_key b.1) q)
  where
    go : (t : Bool) → cond t (Some b.1.uses) (uses_told o) ≡ uses_told (option_or (cond t (Some b) None) o)
    go true = refl
    go false = refl

-- a region that begins to be used
pub begun_is : (o : Option Begun) (r : RegionId) → option_map (λ b. b.1) o ≡ Some r
    → (b : Begun) × (o ≡ Some b) × (r ≡ b.1)
begun_is None r e = absurd (cc)
begun_is (Some b) r e = (b, refl, cc)
