-- How many parcels notes post to a lane: as many as there are letters to it.
use Rattle.std.proofs.Common.{◌≡◌, ℕ, ◌+◌, Bool, true, false, List, [], ◌∷◌, ◌++◌, length, map, eqb, refl, ◌∙◌, arith}
use Rattle.std.specs.Prelude.{◌&&◌, if◌then◌else◌}
use Rattle.std.proofs.lemmas.List.Sums.{sum_by-cons}
use Rattle.std.proofs.lemmas.Cmp.{nat_eq_equiv}
use Rattle.pool_law.specs.declared.id.Parcel.{Parcel}
use Rattle.pool_law.specs.declared.note.Object.TheVariants.{Mail}
use Rattle.pool_law.specs.Kinds.{Passing, Stays, Goes, Comes, passing}
use Rattle.pool_law.specs.Mails.{gone, posted}
use Rattle.pool_law.specs.Same.{same_object}
use Rattle.history_laws.specs.NoteCounts.{one_if_so}
use Rattle.pool_table.specs.declared.views.Entry.{Entry}
use Rattle.pool_table.specs.declared.views.Entry.TheVariants.{At, Ref, Busy}
use Rattle.pool_table.specs.Letters.{is_on_way, letter_in, letter_weight, sent_as, sent_on}
use Rattle.shared_pool.specs.Closing.{note_of}
use Rattle.frame_cutter.specs.Sends.{posts_in}

module _ (a b : ℕ) where
  abbrev rest : List Entry → List (ℕ × Parcel)
  rest es = posted (Mail a b) (map note_of es)

  nothing : (t : Bool) (xs : List (ℕ × Parcel)) → length ((if t then [] else []) ++ xs) ≡ 0 + length xs
  nothing true xs = omega arith
  nothing false xs = omega arith

  on_way : (t : Bool) (k : ℕ) (parcel : Parcel) (xs : List (ℕ × Parcel))
      → length ((if t then (k, parcel) ∷ [] else []) ++ xs) ≡ one_if_so t + length xs
  on_way true k parcel xs = omega arith
  on_way false k parcel xs = omega arith

  by_passing : (c d k : ℕ) (p : Passing) (xs : List (ℕ × Parcel))
      → length ((if same_object (Mail a b) (Mail c d) then gone k p else []) ++ xs)
      ≡ letter_weight (is_on_way a b) (letter_in (Mail c d) k p) + length xs
  by_passing c d k Stays xs = nothing (same_object (Mail a b) (Mail c d)) xs
  by_passing c d k (Goes parcel) xs =
      on_way (eqb a c && eqb b d) k parcel xs
      ∙ (λ i. one_if_so (nat_eq_equiv.symm a c i && nat_eq_equiv.symm b d i) + length xs)
  by_passing c d k (Comes parcel) xs = nothing (same_object (Mail a b) (Mail c d)) xs

  one_entry : (e : Entry) (es : List Entry)
      → posts_in a b (e ∷ es) ≡ sent_as (is_on_way a b) e + posts_in a b es
  one_entry (At (Mail c d) k n) es = by_passing c d k (passing n.did) (rest es)
  one_entry (At o k n) es = omega arith
  one_entry (Ref r d) es = omega arith
  one_entry (Busy h) es = omega arith

  pub posts_sent : (es : List Entry) → posts_in a b es ≡ sent_on a b es
  posts_sent [] = refl
  posts_sent (e ∷ es) =
      let p = one_entry e es in let q = sum_by-cons (sent_as (is_on_way a b)) e es in let r = posts_sent es in
      omega (arith, p, q, r)
