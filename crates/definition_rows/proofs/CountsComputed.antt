-- The sentences on counts hold of all roots, where they hold of those that the logs name.
use Rattle.std.proofs.Common.{◌≡◌, ℕ, ◌+◌, ◌<◌, List, [], ◌∷◌, Bool, true, false, refl, sym, subst, arith, ◌∙◌}
use Rattle.std.specs.Prelude.{◌&&◌, ◌||◌, not, nat_lt, map, Option, Some, None}
use Rattle.std.specs.List.{list_all}
use Rattle.std.proofs.lemmas.Bool.{ltb-true}
use Rattle.pool_law.specs.declared.id.RootId.{RootId}
use Rattle.pool_law.specs.declared.id.ViewData.{ViewData}
use Rattle.pool_law.specs.declared.note.Did.TheVariants.{Post, Fetch, Birth}
use Rattle.pool_law.specs.declared.note.RefDid.TheVariants.{Look}
use Rattle.pool_law.specs.declared.note.Note.{Note}
use Rattle.pool_law.specs.declared.note.Note.TheVariants.{At, Ref, Busy}
use Rattle.pool_law.specs.Same.{same_root}
use Rattle.pool_law.specs.Logs.{ToldNote, of_lane}
use Rattle.pool_law.specs.Counts.{view_is_of, root_is, note_gains, note_loses, note_needs, needs_count, count_step, CountsHold, count_in, count_over, names_root, is_retain, is_release, is_birth, TotalHolds}
use Rattle.pool_law.specs.Legal.{LookAt, LooksHold, one_if, others_retains, CountsAgree}
use Rattle.pool_law.proofs.SameLemmas.{and-first, and-second, same_root-is}
use Rattle.definition_rows.proofs.Lanes.{all_from, all_lanes}
use Rattle.definition_rows.proofs.RootTests.{view_listed, root_listed, note_listed, entry_listed, roots_pass, counts_pass, total_passes, looks_pass, root_passes, unless, CountsHold-passes, TotalHolds-passes, LooksHold-passes}
use Rattle.definition_rows.proofs.Listed.{listed, each_listed, not_listed-back}

-- ---- A root that no entry names is not counted.

module _ (roots : List RootId) (root : RootId) (absent : listed same_root roots root ≡ false) where
  another : (r : RootId) → listed same_root roots r ≡ true → same_root r root ≡ false
  another r present = not_listed-back same_root same_root-is roots root r absent present

  root_is-unnamed : (o : Option RootId) → root_listed roots o ≡ true → root_is root o ≡ false
  root_is-unnamed None e = refl
  root_is-unnamed (Some r) e = another r e

  view_is-unnamed : (o : Option ViewData) → view_listed roots o ≡ true → view_is_of root o ≡ false
  view_is-unnamed None e = refl
  view_is-unnamed (Some v) e = another v.root e

  gains-unnamed : (n : Note) → note_listed roots n ≡ true → note_gains root n ≡ false
  gains-unnamed (Ref r did) e = rw (another r e) refl
  gains-unnamed (At object number (Fetch parcel)) e = view_is-unnamed parcel.view e
  gains-unnamed (At object number _) e = refl
  gains-unnamed (Busy held) e = refl

  loses-unnamed : (n : Note) → note_listed roots n ≡ true → note_loses root n ≡ false
  loses-unnamed (Ref r did) e = rw (another r e) refl
  loses-unnamed (At object number (Post parcel)) e = view_is-unnamed parcel.view e
  loses-unnamed (At object number _) e = refl
  loses-unnamed (Busy held) e = refl

  needs-unnamed : (n : Note) → note_listed roots n ≡ true → note_needs root n ≡ false
  needs-unnamed (Ref r did) e = rw (another r e) refl
  needs-unnamed (At object number (Post parcel)) e = view_is-unnamed parcel.view e
  needs-unnamed (At object number _) e = refl
  needs-unnamed (Busy held) e = refl

  birth-unnamed : (n : Note) → note_listed roots n ≡ true → is_birth root n ≡ false
  birth-unnamed (At object number (Birth r region)) e = another r e
  birth-unnamed _ e = refl

  names-unnamed : (n : Note) → note_listed roots n ≡ true → names_root root n ≡ false
  names-unnamed (Ref r did) e = another r e
  names-unnamed (At object number (Post parcel)) e = view_is-unnamed parcel.view e
  names-unnamed (At object number (Fetch parcel)) e = rw (view_is-unnamed parcel.view e) refl
  names-unnamed (At object number _) e = refl
  names-unnamed (Busy held) e = refl

  look-unnamed : (retains releases count others : ℕ) (n : Note) → note_listed roots n ≡ true →
      LookAt root retains releases count others n
  look-unnamed retains releases count others (Ref r (Look found)) e =
      λ same. let both : true ≡ false = sym same ∙ another r e in absurd (cc both)
  look-unnamed retains releases count others _ e = tt

  pub CountsHold-unnamed : (es : List ToldNote) → list_all (entry_listed roots) es ≡ true → CountsHold root 0 es
  CountsHold-unnamed [] e = tt
  CountsHold-unnamed (x ∷ xs) e =
      let here : (note_listed roots x.note && root_listed roots x.root) ≡ true = and-first _ _ e in
      let note : note_listed roots x.note ≡ true = and-first _ _ here in
      let named : root_listed roots x.root ≡ true =
      and-second (note_listed roots x.note) (root_listed roots x.root) here in
      let access : root_is root x.root ≡ false = root_is-unnamed x.root named in
      let unused : needs_count root x ≡ false = rw (needs-unnamed x.note note, access) refl in
      let stays : count_step root 0 x ≡ 0 = rw (gains-unnamed x.note note, loses-unnamed x.note note) refl in (
        λ needs. let both : true ≡ false = sym needs ∙ unused in absurd (cc both),
        (
          λ ends. stays,
          subst (λ k. CountsHold root k xs) (sym stays) (CountsHold-unnamed xs (and-second _ _ e)),
        ),
      )

  pub LooksHold-unnamed : (others retains releases count : ℕ) (es : List ToldNote) →
      list_all (entry_listed roots) es ≡ true → LooksHold root others retains releases count es
  LooksHold-unnamed others retains releases count [] e = tt
  LooksHold-unnamed others retains releases count (x ∷ xs) e =
      let here : (note_listed roots x.note && root_listed roots x.root) ≡ true = and-first _ _ e in (
        look-unnamed retains releases count others x.note (and-first _ _ here),
        LooksHold-unnamed others
            (retains + one_if (is_retain root x.note)) (releases + one_if (is_release root x.note))
            (count_step root count x) xs
            (and-second _ _ e),
      )

  -- no entry passes a test that no note passes
  in-unnamed : (test : Note → Bool) → ((n : Note) → note_listed roots n ≡ true → test n ≡ false) →
      (es : List ToldNote) → list_all (entry_listed roots) es ≡ true → count_in test es ≡ 0
  in-unnamed test none [] e = refl
  in-unnamed test none (x ∷ xs) e =
      let here : (note_listed roots x.note && root_listed roots x.root) ≡ true = and-first _ _ e in
      rw (none x.note (and-first _ _ here))
      (omega (arith, in-unnamed test none xs (and-second _ _ e)))

  over-unnamed : (test : Note → Bool) → ((n : Note) → note_listed roots n ≡ true → test n ≡ false) →
      (k : ℕ) (logs : List (List ToldNote)) → all_from (roots_pass roots) k logs ≡ true → count_over test logs ≡ 0
  over-unnamed test none k [] e = refl
  over-unnamed test none k (es ∷ logs) e =
      omega (
        arith,
        in-unnamed test none es (and-first _ _ e),
        over-unnamed test none (k + 1) logs (and-second _ _ e),
      )

  pub all_births-unnamed : (k : ℕ) (logs : List (List ToldNote)) → all_from (roots_pass roots) k logs ≡ true →
      count_over (is_birth root) logs ≡ 0
  all_births-unnamed k logs e = over-unnamed (is_birth root) birth-unnamed k logs e

  pub all_names-unnamed : (k : ℕ) (logs : List (List ToldNote)) → all_from (roots_pass roots) k logs ≡ true →
      count_over (names_root root) logs ≡ 0
  all_names-unnamed k logs e = over-unnamed (names_root root) names-unnamed k logs e

-- ---- The sentences on all roots.

module _ (logs : List (List ToldNote)) (roots : List RootId)
    (named : all_from (roots_pass roots) 0 logs ≡ true)
    (pass : map (root_passes logs) roots ≡ map (λ _. true) roots) where
  lane_named : (lane : ℕ) → list_all (entry_listed roots) (of_lane logs lane) ≡ true
  lane_named lane = all_lanes (roots_pass roots) (λ k. refl) logs named lane

  -- each lane uses the root while it counts it
  abbrev lane_counts : RootId → Bool
  lane_counts root = all_from (λ lane es. counts_pass root 0 es) 0 logs

  -- its total is right, if it was born
  abbrev totals : RootId → Bool
  totals root = not (nat_lt 0 (count_over (is_birth root) logs)) || total_passes root logs

  -- each lane looks up what it may
  abbrev lane_looks : RootId → Bool
  lane_looks root = all_from (λ lane es. looks_pass root (others_retains root lane 0 logs) 0 0 0 es) 0 logs

  -- it was born, if it is named
  abbrev births : RootId → Bool
  births root = not (nat_lt 0 (count_over (names_root root) logs)) || nat_lt 0 (count_over (is_birth root) logs)

  root-passes : (root : RootId) → listed same_root roots root ≡ true →
      (lane_counts root && (totals root && (lane_looks root && births root))) ≡ true
  root-passes root in_list = each_listed same_root same_root-is (root_passes logs) (λ _. true) roots root pass in_list

  in_lanes : (root : RootId) (lane : ℕ) → CountsHold root 0 (of_lane logs lane)
  in_lanes root lane = go (listed same_root roots root) refl
    where
      go : (b : Bool) → listed same_root roots root ≡ b → CountsHold root 0 (of_lane logs lane)
      go true in_list =
          CountsHold-passes root 0 (of_lane logs lane)
          (all_lanes (λ l es. counts_pass root 0 es) (λ k. refl) logs (and-first _ _ (root-passes root in_list)) lane)
      go false absent = CountsHold-unnamed roots root absent (of_lane logs lane) (lane_named lane)

  in_total : (root : RootId) → 0 < count_over (is_birth root) logs → TotalHolds root logs
  in_total root born = go (listed same_root roots root) refl
    where
      go : (b : Bool) → listed same_root roots root ≡ b → TotalHolds root logs
      go true in_list =
          TotalHolds-passes root logs
          (unless (nat_lt 0 (count_over (is_birth root) logs)) (total_passes root logs)
          (and-first _ _ (and-second _ _ (root-passes root in_list)))
          (search (arith, born)))
      go false absent = absurd (omega (arith, all_births-unnamed roots root absent 0 logs named))

  in_births : (root : RootId) → 0 < count_over (names_root root) logs → 0 < count_over (is_birth root) logs
  in_births root named_here = go (listed same_root roots root) refl
    where
      go : (b : Bool) → listed same_root roots root ≡ b → 0 < count_over (is_birth root) logs
      go true in_list =
          ltb-true 0 (count_over (is_birth root) logs)
          (unless (nat_lt 0 (count_over (names_root root) logs)) (nat_lt 0 (count_over (is_birth root) logs))
          (and-second (lane_looks root) (births root)
          (and-second (totals root) (lane_looks root && births root)
          (and-second (lane_counts root) (totals root && (lane_looks root && births root)) (root-passes root in_list))))
          (search (arith, named_here)))
      go false absent = absurd (omega (arith, all_names-unnamed roots root absent 0 logs named))

  in_looks : (root : RootId) (lane : ℕ) → LooksHold root (others_retains root lane 0 logs) 0 0 0 (of_lane logs lane)
  in_looks root lane = go (listed same_root roots root) refl
    where
      go : (b : Bool) → listed same_root roots root ≡ b →
          LooksHold root (others_retains root lane 0 logs) 0 0 0 (of_lane logs lane)
      go true in_list =
          LooksHold-passes root (others_retains root lane 0 logs) 0 0 0 (of_lane logs lane)
          (all_lanes (λ l es. looks_pass root (others_retains root l 0 logs) 0 0 0 es) (λ k. refl) logs
          (and-first _ _ (and-second _ _ (and-second _ _ (root-passes root in_list)))) lane)
      go false absent =
          LooksHold-unnamed roots root absent (others_retains root lane 0 logs) 0 0 0 (of_lane logs lane)
          (lane_named lane)

  pub counts : CountsAgree logs
  counts = record { lanes = in_lanes; born = in_births; totals = in_total; looks = in_looks }
