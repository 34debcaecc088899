-- Free runs by the page where they begin. No public clause cites this module.
use Rattle.std.specs.Prelude.{ℕ, ◌+◌, ◌==◌, if◌then◌else◌, List, [], ◌∷◌}
use Rattle.size_classes.specs.Spans.{Span}

-- the runs of a list that has for each page the pages of the free run which begins there, or 0
abbrev pub spans_from : ℕ → List ℕ → List Span
spans_from at [] = []
spans_from at (n ∷ ns) = if n == 0 then spans_from (at + 1) ns else (at, n) ∷ spans_from (at + 1) ns

-- the runs less the one that begins at a page
abbrev pub without : ℕ → List Span → List Span
without at [] = []
without at (r ∷ runs) = if r.0 == at then runs else r ∷ without at runs

-- the pages of the run that begins at a page, or 0
abbrev pub beginning : ℕ → List Span → ℕ
beginning at [] = 0
beginning at (r ∷ runs) = if r.0 == at then r.1 else beginning at runs

-- the pages of the run that ends where a page begins, or 0
abbrev pub ending : ℕ → List Span → ℕ
ending at [] = 0
ending at (r ∷ runs) = if r.0 + r.1 == at then r.1 else ending at runs
