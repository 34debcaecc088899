-- The roots that words name, from the first word on.
use Rattle.std.proofs.Common.{◌≡◌, ℕ, List, [], ◌∷◌, ◌++◌, refl, Some, None, sym, ap, append_assoc}
use Rattle.std.specs.Prelude.{Option, option_map}
use Rattle.option_words.specs.Options.{first_given}
use Rattle.option_words.proofs.Firsts.{givens_from, with_all}
use Rattle.run_picture.specs.declared.roots.RootName.{RootName}
use Rattle.run_view.specs.Roots.{no_flag, root_given, roots_in}

-- these, and then more
abbrev pub behind : List RootName → Option (List RootName) → Option (List RootName)
behind front more = option_map (λ roots. front ++ roots) more

joined : (front : List RootName) (root : RootName) (more : Option (List RootName))
    → behind front (with_all root more) ≡ behind (front ++ root ∷ []) more
joined front root None = refl
joined front root (Some roots) = ap (λ (rs : List RootName). Some rs) (sym (append_assoc front (root ∷ []) roots))

-- the first words name one more
pub named_next : (front new : List RootName) (words : List (List ℕ)) (root : RootName) (rest : List (List ℕ))
    (all : Option (List RootName)) → first_given no_flag root_given words ≡ Some (root, rest)
    → new ≡ front ++ root ∷ [] → all ≡ behind front (roots_in words) → all ≡ behind new (roots_in rest)
named_next front new words root rest all first more before =
    rw (before, more, givens_from no_flag root_given words root rest first) (joined front root (roots_in rest))
