-- What is asked of each item of a list alone, one item further.
use Rattle.std.proofs.Common.{◌≡◌, ℕ, zero, suc, Bool, true, List, [], ◌∷◌, take, refl, ap, ◌∙◌}
use Rattle.std.specs.Prelude.{◌&&◌, IsTrue}
use Rattle.std.specs.List.{list_all}
use Rattle.pool_law.proofs.SameLemmas.{and-first, and-second}
use Rattle.pool_law.specs.declared.id.RootId.{RootId}
use Rattle.pool_law.specs.declared.note.Note.{Note}
use Rattle.run_check.specs.Tallying.{EachHolds}

module _ (test : Note → Bool) where
  pub all-pass-front : (s : Unit {0}) (n : Note) (ns : List Note) → IsTrue (list_all test (n ∷ ns)) →
      IsTrue (test n) × IsTrue (list_all test ns)
  all-pass-front s n ns h = (and-first (test n) (list_all test ns) h, and-second (test n) (list_all test ns) h)

  pub all-pass-back : (s : Unit {0}) (n : Note) (ns : List Note) → IsTrue (test n) → IsTrue (list_all test ns) →
      IsTrue (list_all test (n ∷ ns))
  all-pass-back s n ns here rest = ap (λ (b : Bool). b && list_all test ns) here ∙ rest

  pub all-pass-take : (k : ℕ) (ns : List Note) → IsTrue (list_all test ns) → IsTrue (list_all test (take k ns))
  all-pass-take zero ns h = refl
  all-pass-take (suc k) [] h = refl
  all-pass-take (suc k) (n ∷ ns) h =
      let parts = all-pass-front tt n ns h in
      all-pass-back tt n (take k ns) parts.0 (all-pass-take k ns parts.1)

module _ (test : RootId → Note → Bool) (Right : RootId → Type 0) where
  -- what is asked of a note
  abbrev pub NoteHolds : Note → Type 0
  NoteHolds n = (root : RootId) → test root n ≡ true → Right root

  pub each-front : (s : Unit {0}) (n : Note) (ns : List Note) → EachHolds test Right (n ∷ ns) →
      NoteHolds n × EachHolds test Right ns
  each-front s n ns h = (h.0, h.1)

  pub each-further : (s : Unit {0}) (n : Note) (ns : List Note) → NoteHolds n → EachHolds test Right ns →
      EachHolds test Right (n ∷ ns)
  each-further s n ns here rest = (here, rest)
