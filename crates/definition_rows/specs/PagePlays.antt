-- Runs of a chunk, free and in use for something with a number.
use Rattle.std.specs.Prelude.{ℕ, List, [], ◌∷◌, Option}
use Rattle.size_classes.specs.Sizes.{of_order}
use Rattle.size_classes.specs.Pages.{Run, Free, Used, Span, chosen, free_runs}

-- a free run
abbrev pub free : ℕ → Run ℕ
free pages = Free pages

-- a run in use
abbrev pub used : ℕ → ℕ → Run ℕ
used pages what = Used pages what

-- sixteen pages of which three runs of five are in use
abbrev pub three_in_use : List (Run ℕ)
three_in_use = used 5 0 ∷ used 5 1 ∷ used 5 2 ∷ free 1 ∷ []

-- the same once the first two are given back
abbrev pub two_given_back : List (Run ℕ)
two_given_back = free 10 ∷ used 5 2 ∷ free 1 ∷ []

-- the free run that so many pages are taken from
abbrev pub chosen_for : ℕ → List (Run ℕ) → Option Span
chosen_for pages runs = chosen (of_order 9) pages (free_runs 0 runs)
