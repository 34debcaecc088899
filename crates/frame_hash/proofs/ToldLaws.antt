-- What workers tell is what is to be told.
use Rattle.std.proofs.Common.{◌≡◌, ℕ, ◌+◌, List, [], ◌∷◌, ◌++◌, length, take, drop, refl, sym, ap, arith, ◌∙◌, append_assoc, append-nil, length-append, length-drop, ◌-◌}
use Rattle.std.proofs.Math.Seq.{take-append_seam, drop-append_seam}
use Rattle.std.proofs.lemmas.List.{take-append-le, drop-append-le}
use Rattle.job_queue.specs.declared.jobs.Job.{Job}
use Rattle.job_queue.specs.declared.jobs.Job.TheVariants.{Frame, End}
use Rattle.frame_hash.specs.Told.{joined, told_of, all_told, slices_in, Handed, jobs_of, pieces_of, to_tell}

-- of the frames that were handed over, all that is to be told is told
pub told-handed : (hs : List Handed) → all_told (jobs_of hs) (pieces_of hs) ≡ to_tell hs
told-handed [] = refl
told-handed (h ∷ hs) =
    let here : take (length h.pieces) (h.pieces ++ pieces_of hs)
    ≡ h.pieces = take-append_seam h.pieces (pieces_of hs) in
    let rest : drop (length h.pieces) (h.pieces ++ pieces_of hs) ≡ pieces_of hs =
    drop-append_seam h.pieces (pieces_of hs) in
    λ i. told_of h.number (here i) ∷ (ap (all_told (jobs_of hs)) rest ∙ told-handed hs) i

pub slices-handed : (hs : List Handed) → slices_in (jobs_of hs) ≡ length (pieces_of hs)
slices-handed [] = refl
slices-handed (h ∷ hs) = omega (arith, slices-handed hs, length-append h.pieces (pieces_of hs))

-- one job more, with the slices behind those of the others
pub told-more : (jobs : List Job) (pieces more : List (List ℕ)) (job : Job) → slices_in jobs ≡ length pieces
    → all_told (jobs ++ job ∷ []) (pieces ++ more) ≡ all_told jobs pieces ++ all_told (job ∷ []) more
told-more [] [] more job e = refl
told-more [] (p ∷ pieces) more job e = absurd (omega (arith, e))
told-more (Frame number slices ∷ jobs) pieces more job e =
    let here : take slices (pieces ++ more)
    ≡ take slices pieces = take-append-le slices pieces more (omega (arith, e)) in
    let rest : drop slices (pieces ++ more) ≡ drop slices pieces ++ more =
    drop-append-le slices pieces more (omega (arith, e)) in
    λ i. told_of number (here i) ∷ (ap (all_told (jobs ++ job ∷ [])) rest
    ∙ told-more jobs (drop slices pieces) more job (omega (arith, e, dropped slices pieces))) i
  where
    dropped : (n : ℕ) (xs : List (List ℕ)) → length (drop n xs) ≡ length xs - n
    dropped n xs = length-drop n xs
told-more (End ∷ jobs) pieces more job e = told-more jobs pieces more job e

pub slices-more : (jobs : List Job) (job : Job) → slices_in (jobs ++ job ∷ []) ≡ slices_in jobs + slices_in (job ∷ [])
slices-more [] job = omega arith
slices-more (Frame number slices ∷ jobs) job = omega (arith, slices-more jobs job)
slices-more (End ∷ jobs) job = slices-more jobs job

pub joined-more : (ps : List (List ℕ)) (p : List ℕ) → joined (ps ++ p ∷ []) ≡ joined ps ++ p
joined-more [] p = append-nil p
joined-more (q ∷ ps) p = ap (λ rest. q ++ rest) (joined-more ps p) ∙ sym (append_assoc q (joined ps) p)
