-- Settling: what one usage does to a chunk is what a take or a give does to it.
use Rattle.std.proofs.Common.{◌≡◌, ℕ, ◌<◌, ◌≤◌, List, [], ◌∷◌, refl, sym, ap, arith, Bool, true, false, Some, None, ◌∙◌}
use Rattle.std.specs.Prelude.{nat_le, nat_lt, if◌then◌else◌, Option}
use Rattle.std.proofs.lemmas.Bool.Decides.{nat_tests}
use Rattle.std.proofs.lemmas.Bool.{lt-leb}
use Rattle.pool_law.specs.declared.report.ListName.{ListName}
use Rattle.pool_law.specs.declared.report.ListName.TheVariants.{QInit, Q000, Q025, Q050, Q075, Q100}
use Rattle.pool_law.specs.ChunkLists.{Lists, entered, left, list_of, greatest, least, lists_above, lists_below, risen, sunk, moved_to, settled_up, down_to, settled_down}
use Rattle.chunk_list.specs.Settling.{rises, goes_to, settled, added}
use Rattle.chunk_list.proofs.ListsLemmas.{IsInNone, list_of-entered, left-entered_first}

not-lt : (n m : ℕ) → n ≤ m → nat_lt m n ≡ false
not-lt n m le = grind (arith, nat_tests)

pub below-le : (n m : ℕ) → nat_le n m ≡ false → m < n
below-le n m e = grind (arith, nat_tests, e)

-- below the greatest usage of its list a chunk doesn't rise
pub risen_stays : (percent : ℕ) (here : ListName) (above : List ListName) → percent < greatest here →
    risen percent here above ≡ here
risen_stays percent here [] lt = refl
risen_stays percent here (next ∷ rest) lt =
    ap (λ b. if b then risen percent next rest else here) (lt-leb (greatest here) percent lt)

-- from the least usage of its list on it doesn't sink
pub sunk_stays : (percent : ℕ) (here : ListName) (below : List ListName) → least here ≤ percent →
    sunk percent here below ≡ Some here
sunk_stays percent here [] le = ap (λ b. if b then None else Some here) (not-lt (least here) percent le)
sunk_stays percent here (next ∷ rest) le =
    ap (λ b. if b then sunk percent next rest else Some here) (not-lt (least here) percent le)

-- a chunk settles where it goes to
pub settled-is : (l : Lists) (c percent : ℕ) (here : ListName) → list_of l c ≡ Some here →
    settled l c percent ≡ settled_down l c (Some here) (goes_to percent (Some here))
settled-is l c percent here is =
    ap (λ o. if rises percent o then settled_up l c percent o else settled_down l c o (down_to percent o)) is
    ∙ go (rises percent (Some here))
  where
    up : Option ListName
    up = Some (risen percent here (lists_above here))

    down : Option ListName
    down = down_to percent (Some here)

    go : (b : Bool) →
        (if b then settled_up l c percent (Some here) else settled_down l c (Some here) down)
        ≡ settled_down l c (Some here) (if b then up else down)
    go true = refl
    go false = refl

-- a chunk that is added enters the list to which it rises
pub added-is : (l : Lists) (c percent : ℕ) → IsInNone l c →
    added l c percent ≡ entered l (risen percent QInit (lists_above QInit)) c
added-is l c percent none =
    ap (settled_up (entered l QInit c) c percent) (list_of-entered l c QInit none)
    ∙ go (risen percent QInit (lists_above QInit))
  where
    back : (there : ListName) → entered (left (entered l QInit c) c) there c ≡ entered l there c
    back there = ap (λ k. entered k there c) (left-entered_first l c none)

    go : (there : ListName) → moved_to (entered l QInit c) c QInit there ≡ entered l there c
    go QInit = refl
    go Q000 = back Q000
    go Q025 = back Q025
    go Q050 = back Q050
    go Q075 = back Q075
    go Q100 = back Q100

-- after a take, with which usage doesn't fall below the least of the list, a chunk settles up
pub settled-up : (l : Lists) (c percent : ℕ) (here : ListName) → list_of l c ≡ Some here → least here ≤ percent →
    settled l c percent ≡ settled_up l c percent (list_of l c)
settled-up l c percent here is le =
    ap (λ o. if rises percent o then settled_up l c percent o else settled_down l c o (down_to percent o)) is
    ∙ go (nat_le (greatest here) percent) refl
    ∙ sym (ap (settled_up l c percent) is)
  where
    up : Lists
    up = settled_up l c percent (Some here)

    down : Lists
    down = settled_down l c (Some here) (down_to percent (Some here))

    go : (b : Bool) → nat_le (greatest here) percent ≡ b → (if b then up else down) ≡ up
    go true stays = refl
    go false stays =
        let lt : percent < greatest here = below-le (greatest here) percent stays in
        ap (settled_down l c (Some here)) (sunk_stays percent here (lists_below here) le)
        ∙ sym (ap (moved_to l c here) (risen_stays percent here (lists_above here) lt))

-- after a give, with which usage doesn't reach the greatest of the list, it settles down
pub settled-down : (l : Lists) (c percent : ℕ) (here : ListName) → list_of l c ≡ Some here → percent < greatest here →
    settled l c percent ≡ settled_down l c (list_of l c) (down_to percent (list_of l c))
settled-down l c percent here is lt =
    ap (λ o. if rises percent o then settled_up l c percent o else settled_down l c o (down_to percent o)) is
    ∙ ap (λ b. if b then up else down) (lt-leb (greatest here) percent lt)
    ∙ sym (ap (λ o. settled_down l c o (down_to percent o)) is)
  where
    up : Lists
    up = settled_up l c percent (Some here)

    down : Lists
    down = settled_down l c (Some here) (down_to percent (Some here))
