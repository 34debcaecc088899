-- A whole log of a lane begins and ends with an empty hand.
use Rattle.std.proofs.Common.{◌≡◌, ℕ, List, [], ◌∷◌, ◌++◌, refl, ap, Some, None, ◌∙◌}
use Rattle.std.specs.Prelude.{if◌then◌else◌, Option}
use Rattle.pool_law.specs.declared.id.RegionId.{RegionId}
use Rattle.pool_law.specs.declared.command.Command.{Command}
use Rattle.pool_law.specs.declared.note.Object.{Object}
use Rattle.pool_law.specs.declared.note.Did.{Did}
use Rattle.pool_law.specs.declared.note.Did.TheVariants.{Take, Give, Hit, Kept, Shed, Birth, Grow, End}
use Rattle.pool_law.specs.declared.note.Note.{Note}
use Rattle.pool_law.specs.declared.note.Note.TheVariants.{At, Ref, Busy}
use Rattle.pool_law.specs.declared.run.Shape.{Shape}
use Rattle.pool_law.specs.declared.run.Answered.{Answered}
use Rattle.pool_law.specs.Logs.{ToldNote}
use Rattle.pool_law.specs.Options.{◌>>=◌}
use Rattle.pool_law.specs.Readers.{ToldNotes}
use Rattle.pool_law.specs.Patterns.{one_more}
use Rattle.pool_law.specs.LaneLaw.{IsLaneLog}
use Rattle.run_laws.specs.Hands.{did_of, Source, Got, Ended, Dropped, Hand, hand_if, hand_step, hand_after}
use Rattle.pool_law.proofs.PatternLemmas.{same_region-refl}
use Rattle.run_laws.proofs.Acts.{IsQuiet, AreQuiet, Gets, PutsAway, IsAt, Act, before, act_notes, acts-keep, Acts}
use Rattle.run_laws.proofs.LaneActs.{AnyNote, any-acts}

abbrev pub holding : Source → RegionId → Hand
holding from r = Some (from, r)

pub hand-over : (h k : Hand) (e : ToldNote) (es : ToldNotes) → hand_step h e ≡ Some k
    → hand_after h (e ∷ es) ≡ hand_after k es
hand-over h k e es step = ap (λ o. o >>= (λ m. hand_after m es)) step

pub quiet-hand : (P : Object → Did → Type 0) (h : Hand) (t : Option RegionId) (n : Note) → IsQuiet P n
    → hand_if h t (did_of n) ≡ Some h
quiet-hand P h t (At o k (Take class r)) quiet = absurd quiet
quiet-hand P h t (At o k (Give r)) quiet = absurd quiet
quiet-hand P h t (At o k (Hit r)) quiet = absurd quiet
quiet-hand P h t (At o k (Kept r)) quiet = absurd quiet
quiet-hand P h t (At o k (Shed r)) quiet = absurd quiet
quiet-hand P h t (At o k (Birth root r)) quiet = absurd quiet
quiet-hand P h t (At o k (Grow c r)) quiet = absurd quiet
quiet-hand P h t (At o k (End root)) quiet = absurd quiet
quiet-hand P h t (At o k _) quiet = refl
quiet-hand P h t (Ref root d) quiet = refl
quiet-hand P h t (Busy held) quiet = refl

pub gets-hand : (r : RegionId) (t : Option RegionId) (d : Did) → Gets r d
    → hand_if None t (Some d) ≡ Some (holding Got r)
gets-hand r t (Hit x) gets = ap (λ y. Some (holding Got y)) gets
gets-hand r t (Take class x) gets = ap (λ y. Some (holding Got y)) gets
gets-hand r t _ gets = absurd gets

-- what was got or ended may be put away
abbrev pub MayPut : Source → Type 0
MayPut Got = Unit {0}
MayPut Ended = Unit {0}
MayPut Dropped = ⊥

pub away-hand : (from : Source) (r : RegionId) (t : Option RegionId) (d : Did) → MayPut from → PutsAway r d
    → hand_if (holding from r) t (Some d) ≡ Some None
away-hand Got r t (Kept x) may puts =
    ap (λ y. hand_if (holding Got r) t (Some (Kept y))) puts.0
    ∙ ap (λ b. if b then Some None else None) (same_region-refl r)
away-hand Got r t (Give x) may puts =
    ap (λ y. hand_if (holding Got r) t (Some (Give y))) puts
    ∙ ap (λ b. if b then Some None else None) (same_region-refl r)
away-hand Ended r t (Kept x) may puts =
    ap (λ y. hand_if (holding Ended r) t (Some (Kept y))) puts.0
    ∙ ap (λ b. if b then Some None else None) (same_region-refl r)
away-hand Ended r t (Give x) may puts =
    ap (λ y. hand_if (holding Ended r) t (Some (Give y))) puts
    ∙ ap (λ b. if b then Some None else None) (same_region-refl r)
away-hand Got r t _ may puts = absurd puts
away-hand Ended r t _ may puts = absurd puts
away-hand Dropped r t d may puts = absurd may

-- a region in hand is put away, perhaps after a refusal
pub put-away : (P : Object → Did → Type 0) (from : Source) (r : RegionId) (d : Did) (refused : Option ToldNote)
    (away : ToldNote) (es : ToldNotes) → MayPut from → AreQuiet P refused → IsAt d away.note → PutsAway r d
    → hand_after (holding from r) (before refused (away ∷ []) ++ es) ≡ hand_after None es
put-away P from r d refused away es may quiet at puts = go refused quiet
  where
    put : hand_after (holding from r) (away ∷ es) ≡ hand_after None es
    put =
        hand-over (holding from r) None away es
        (ap (λ n. hand_if (holding from r) away.region (did_of n)) at.is ∙ away-hand from r away.region d may puts)

    go : (o : Option ToldNote) → AreQuiet P o → hand_after (holding from r) (before o (away ∷ []) ++ es)
        ≡ hand_after None es
    go None q = put
    go (Some x) q =
        hand-over (holding from r) (holding from r) x (away ∷ es)
        (quiet-hand P (holding from r) x.region x.note q) ∙ put

-- each act begins and ends with an empty hand
pub act-hand : (P : Object → Did → Type 0) (a : Act P) (es : ToldNotes)
    → hand_after None (act_notes a ++ es) ≡ hand_after None es
act-hand P (Act.Quiet e quiet) es = hand-over None None e es (quiet-hand P None e.region e.note quiet)
act-hand P (Act.Births got birth set b) es =
    hand-over None (holding Got b.region) got (birth ∷ set ∷ es)
    (ap (λ n. hand_if None got.region (did_of n)) b.got_is.is ∙ gets-hand b.region got.region b.did b.gets)
    ∙ hand-over (holding Got b.region) None birth (set ∷ es)
    (ap (λ n. hand_if (holding Got b.region) birth.region (did_of n)) b.birth_is.is
    ∙ ap (λ c. if c then Some None else None) (same_region-refl (one_more b.region)))
    ∙ hand-over None None set es (ap (λ n. hand_if None set.region (did_of n)) b.set_is)
act-hand P (Act.Grows got growth refused away quiet g) es =
    hand-over None (holding Got g.region) got (growth ∷ (before refused (away ∷ []) ++ es))
    (ap (λ n. hand_if None got.region (did_of n)) g.got_is.is ∙ gets-hand g.region got.region g.got_did g.gets)
    ∙ hand-over (holding Got g.region) (holding Ended g.left) growth (before refused (away ∷ []) ++ es)
    (ap (λ n. hand_if (holding Got g.region) growth.region (did_of n)) g.growth_is.is
    ∙ ap (λ t. hand_if (holding Got g.region) t (Some (Grow g.capacity (one_more g.region)))) g.out
    ∙ ap (λ c. if c then Some (holding Ended g.left) else None) (same_region-refl (one_more g.region)))
    ∙ put-away P Ended g.left g.did refused away es tt quiet g.away_is g.puts_away
act-hand P (Act.Spares got found refused away still quiet s) es =
    hand-over None (holding Got s.region) got (found ∷ (before refused (away ∷ []) ++ es))
    (ap (λ n. hand_if None got.region (did_of n)) s.got_is.is ∙ gets-hand s.region got.region s.got_did s.gets)
    ∙ hand-over (holding Got s.region) (holding Got s.region) found (before refused (away ∷ []) ++ es)
    (quiet-hand P (holding Got s.region) found.region found.note still)
    ∙ put-away P Got s.region s.did refused away es tt quiet s.away_is s.puts_away
act-hand P (Act.Ends ended end vacated refused away quiet e) es =
    hand-over None None ended (end ∷ vacated ∷ (before refused (away ∷ []) ++ es))
    (ap (λ n. hand_if None ended.region (did_of n)) e.ended_is)
    ∙ hand-over None (holding Ended e.region) end (vacated ∷ (before refused (away ∷ []) ++ es))
    (ap (λ n. hand_if None end.region (did_of n)) e.end_is.is ∙ ap (λ t. hand_if None t (Some (End e.root))) e.out)
    ∙ hand-over (holding Ended e.region) (holding Ended e.region) vacated (before refused (away ∷ []) ++ es)
    (ap (λ n. hand_if (holding Ended e.region) vacated.region (did_of n)) e.vacated_is)
    ∙ put-away P Ended e.region e.did refused away es tt quiet e.away_is e.puts_away
act-hand P (Act.Sheds shed given x) es =
    hand-over None (holding Dropped x.region) shed (given ∷ es)
    (ap (λ n. hand_if None shed.region (did_of n)) x.shed_is.is)
    ∙ hand-over (holding Dropped x.region) None given es
    (ap (λ n. hand_if (holding Dropped x.region) given.region (did_of n)) x.given_is.is
    ∙ ap (λ c. if c then Some None else None) (same_region-refl x.region))

pub acts-hand : (P : Object → Did → Type 0) (es : ToldNotes) → Acts P es [] → hand_after None es ≡ Some None
acts-hand P es a = ap (hand_after None) a.are ∙ acts-keep (hand_after None) (act-hand P) a.acts []

pub log-empty : (shape : Shape) (lane : ℕ) (commands : List Command) (replies : List Answered) (es : ToldNotes)
    → IsLaneLog shape lane commands replies es → hand_after None es ≡ Some None
log-empty shape lane commands replies es log = acts-hand AnyNote es (any-acts shape lane commands replies es log)
