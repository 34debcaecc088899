-- Where an act stands in a log.
use Rattle.std.proofs.Common.{⊎_elim, ◌≡◌, ℕ, suc, ◌+◌, List, [], ◌∷◌, ◌++◌, length, refl, sym, ap, subst, arith, Some, ◌∙◌, append-nil}
use Rattle.std.specs.Prelude.{◌⊎◌, ◌<◌, slice_get}
use Rattle.pool_law.specs.declared.note.Object.{Object}
use Rattle.pool_law.specs.declared.note.Did.{Did}
use Rattle.pool_law.specs.Logs.{ToldNote}
use Rattle.pool_law.specs.Readers.{ToldNotes}
use Rattle.pool_law.proofs.ListLemmas.{get-front, get-split}
use Rattle.run_laws.proofs.Acts.{Act, act_notes, all_notes, Acts}

pub get-behind : {X : Type 0} (xs ys : List X) (j : ℕ) (x : X) → slice_get ys j ≡ Some x
    → (m : ℕ) × (slice_get (xs ++ ys) m ≡ Some x)
get-behind [] ys j x e = (j, e)
get-behind (y ∷ xs) ys j x e = let r = get-behind xs ys j x e in (suc r.0, r.1)

module _ (P : Object → Did → Type 0) where
  -- where an entry stands in an act, each of the act's entries does, in order
  pub record Within (es : ToldNotes) (i : ℕ) (e : ToldNote) : Type 0 where
    pub act : Act P
    pub index : ℕ
    pub found : slice_get (act_notes act) index ≡ Some e
    pub place : ℕ → ℕ
    pub here : i ≡ place index
    pub rises : (j l : ℕ) → j < l → place j < place l
    pub in_row : (j : ℕ) → place j ≡ place 0 + j
    pub there : (j : ℕ) (x : ToldNote) → slice_get (act_notes act) j ≡ Some x → slice_get es (place j) ≡ Some x

  pub within-behind : (xs es : ToldNotes) (i : ℕ) (e : ToldNote) → Within es i e → Within (xs ++ es) (length xs + i) e
  within-behind [] es i e w = let same : i ≡ 0 + i = omega arith in subst (λ k. Within es k e) same w
  within-behind (x ∷ xs) es i e w =
      let r : Within (xs ++ es) (length xs + i) e = within-behind xs es i e w in
      record {
        act = r.act;
        index = r.index;
        found = r.found;
        place = λ j. suc (r.place j);
        here =
            omega (arith, r.here);
        rises =
            λ j l h. omega (arith, r.rises j l h);
        in_row = λ j. omega (arith, r.in_row j);
        there = r.there;
      }

  pub entry-within : (es : ToldNotes) (i : ℕ) (e : ToldNote) → Acts P es [] → slice_get es i ≡ Some e → Within es i e
  entry-within es i e a is =
      subst (λ xs. Within xs i e) (sym whole) (go a.acts i (ap (λ xs. slice_get xs i) (sym whole) ∙ is))
    where
      whole : es ≡ all_notes a.acts
      whole = a.are ∙ append-nil (all_notes a.acts)

      go : (acts : List (Act P)) (i : ℕ) → slice_get (all_notes acts) i ≡ Some e → Within (all_notes acts) i e
      go [] i is = absurd (cc is)
      go (x ∷ acts) i is =
          ⊎_elim (λ inside. record {
            act = x;
            index = i;
            found = inside;
            place = λ j. j;
            here = refl;
            rises =
                λ j l h. h;
            in_row = λ j. omega arith;
            there = get-front (act_notes x) (all_notes acts);
          })
          (λ later. subst (λ k. Within (act_notes x ++ all_notes acts) k e) (sym later.1)
          (within-behind (act_notes x) (all_notes acts) later.0 e (go acts later.0 later.2)))
          (get-split (act_notes x) (all_notes acts) i e is)
