-- What pieces and racks own, in separation logic. No public clause cites this module.
use Rattle.std.specs.Prelude.{◌≡◌, refl, ℕ, ◌+◌, List, [], ◌∷◌, ◌++◌, length, drop, Some, None}
use Rattle.std.specs.Coded.{Coded, code_by, coded×, coded_ℕ}
use mathlib.Core.Option.{Option, none, some}
use native.Mathlib.Decide.{dec_le, dec_lt}
use base.Fraction.{full_share}
use base.Stored.{coded× as pair_stored, coded_ℕ as number_stored}
use base.SetCodes.{coded}
use base.Algebra.{Algebra}
use base.Algebras.{both, shares, agreed}
use base.Fml.{Lft, GName, Share, Fml, fown, ftrue, fsep}
use types.Keyed.{keyed}
use denote.Builtin.{u8}
use denote.Array.{Array}
use denote.RawPtr.{Ptr, ◌+ₚ◌, block_ptr, coded_ptr, lies_at, block_of, count_of}
use denote.Struct.Lending.{lent_at}
use Rattle.ground.specs.Rack.{Cell}

-- ---- bytes

-- where a block's bytes begin, and how many there are
pub record Extent : Type 0 where
  pub ptr : Ptr
  pub len : ℕ

-- an extent is stored as the pair of its fields
abbrev pub extent_code : Coded Extent
extent_code =
    let pair : Coded (Ptr × ℕ) = coded× coded_ptr coded_ℕ in
    code_by (Ptr × ℕ) pair (λ e. (e.ptr, e.len)) (λ p. record { ptr = p.0; len = p.1 }) (λ _. refl)

-- p points into a block
abbrev pub IsPlaced : Ptr → Type 0
IsPlaced p = p ≡ block_ptr (block_of p) (count_of p)

-- the bytes xs lie at p
abbrev pub raw_bytes_owns : Ptr → List ℕ → Fml
raw_bytes_owns p xs = lies_at (Array u8 (length xs)) full_share p xs

-- what a `&` to them shows
abbrev pub raw_bytes_shares : Ptr → List ℕ → Lft → Fml
raw_bytes_shares p xs = lent_at (Array u8 (length xs)) p xs

-- ---- claims: who has which places of a ground

-- the first place and the length of the piece that has a place
abbrev pub Mark : Type 0
Mark = ℕ × ℕ

-- a share of a place, and its mark, on which all that have a share of the place agree
abbrev pub marks : Algebra
marks = both shares (agreed (coded (pair_stored number_stored number_stored)))

-- at each place of a ground a share with its mark, or none
abbrev pub claims : Algebra
claims = keyed marks

-- a where P and Q hold, or else none
abbrev pub when_both : {P Q : Type 0} → Dec P → Dec Q → Share × Mark → Option (Share × Mark)
when_both (yes _) (yes _) a = some a
when_both (yes _) (no _) a = none
when_both (no _) (yes _) a = none
when_both (no _) (no _) a = none

-- the share q with the mark m at each place from s up to e
abbrev pub mark_row : Share → ℕ → ℕ → Mark → ℕ → Option (Share × Mark)
mark_row q s e m j = when_both (dec_le s j) (dec_lt j e) (q, m)

-- the share q of a piece of n places from s on, in the ground γ
abbrev pub claim : GName → ℕ → ℕ → Share → Fml
claim γ s n q = fown claims γ (mark_row q s (s + n) (s, n))

-- all of such a piece
abbrev pub claim_owns : GName → ℕ → ℕ → Fml
claim_owns γ s n = claim γ s n full_share

-- ---- racks

-- the element c of n bytes at p, s bytes into the ground γ, unless it is out
abbrev pub cell_owns : GName → ℕ → Cell → Ptr → ℕ → Fml
cell_owns γ n None p s = ftrue
cell_owns γ n (Some bs) p s = fsep (raw_bytes_owns p bs) (claim_owns γ s n)

-- the elements that are in, from p on, s bytes into the ground γ
abbrev pub raw_rack_owns : GName → ℕ → List Cell → Ptr → ℕ → Fml
raw_rack_owns γ n [] p s = ftrue
raw_rack_owns γ n (c ∷ cs) p s =
    fsep (cell_owns γ n c p s) (raw_rack_owns γ n cs (p +ₚ n) (s + n))

-- every element is in, and these are their bytes
abbrev pub AreAllIn : ℕ → List Cell → List ℕ → Type 0
AreAllIn n [] bs = bs ≡ []
AreAllIn n (None ∷ cs) bs = ⊥
AreAllIn n (Some b ∷ cs) bs = (bs ≡ b ++ drop n bs) × (length b ≡ n) × AreAllIn n cs (drop n bs)
