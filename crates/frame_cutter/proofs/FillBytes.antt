-- Bytes are read behind those of a block that have come.
use Rattle.std.proofs.Common.{◌≡◌, ℕ, ◌+◌, ◌-◌, ◌≤◌, List, [], ◌++◌, length, take, drop, sym, ap, ◌∙◌, arith, append-nil, length-append, length-drop}
use Rattle.std.proofs.Math.ListN.{drop_of_length-le}
use Rattle.std.proofs.Math.Seq.{drop-append_seam, take-add, take-append_seam}
use Rattle.std.proofs.lemmas.List.{length-take-le}
use borrow.Rule.Slice.PartMut.{post_of, put_mid}

module _ (items buf : List ℕ) (n : ℕ) (low : n ≤ length items) where
  -- the bytes from a place on are others then
  pub put-is : put_mid n (length items - n) items buf ≡ take n items ++ buf
  put-is =
      let rest = length-drop n items in
      let none : post_of n (length items - n) items ≡ [] = drop_of_length-le (drop n items) (omega (arith, rest)) in
      ap (λ (r : List ℕ). take n items ++ (buf ++ r)) none
      ∙ ap (λ (r : List ℕ). take n items ++ r) (append-nil buf)

  front-is : take n (take n items ++ buf) ≡ take n items
  front-is =
      ap (λ (k : ℕ). take k (take n items ++ buf)) (sym (length-take-le n items low))
      ∙ take-append_seam (take n items) buf

  behind-is : drop n (take n items ++ buf) ≡ buf
  behind-is =
      ap (λ (k : ℕ). drop k (take n items ++ buf)) (sym (length-take-le n items low))
      ∙ drop-append_seam (take n items) buf

  -- so many more have come
  pub more-is : (m : ℕ) → take (n + m) (put_mid n (length items - n) items buf) ≡ take n items ++ take m buf
  more-is m =
      ap (take (n + m)) put-is ∙ take-add n m (take n items ++ buf)
      ∙ ap (λ (r : List ℕ). r ++ take m (drop n (take n items ++ buf))) front-is
      ∙ ap (λ (r : List ℕ). take n items ++ take m r) behind-is

  pub long-is : length buf ≡ length items - n → length (put_mid n (length items - n) items buf) ≡ length items
  long-is long =
      let a = length-append (take n items) buf in
      let b = length-take-le n items low in
      let c = ap (λ (xs : List ℕ). length xs) put-is in
      omega (arith, a, b, c, long, low)
