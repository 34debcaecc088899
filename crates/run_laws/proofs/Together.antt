-- What stands together in a lane's log: the notes of a birth, those of an end, and a growth with what puts the
-- region away that the root leaves.
use Rattle.std.proofs.Common.{◌≡◌, ℕ, zero, suc, ◌+◌, ◌≤◌, [], ◌∷◌, refl, sym, ap, subst, arith, Some, None, ◌∙◌}
use Rattle.std.specs.Prelude.{◌<◌, map, Option, slice_get}
use Rattle.pool_law.specs.declared.id.RootId.{RootId}
use Rattle.pool_law.specs.declared.id.RegionId.{RegionId}
use Rattle.pool_law.specs.declared.note.Object.{Object}
use Rattle.pool_law.specs.declared.note.Did.{Did}
use Rattle.pool_law.specs.declared.note.Did.TheVariants.{Take, Give, Hit, Kept, Birth, Grow, End}
use Rattle.pool_law.specs.declared.note.RefDid.{RefDid}
use Rattle.pool_law.specs.declared.note.Note.{Note}
use Rattle.pool_law.specs.declared.note.Note.TheVariants.{At, Ref, Busy}
use Rattle.pool_law.specs.Logs.{Logs, ToldNote, of_lane, entry_of}
use Rattle.pool_law.specs.Readers.{ToldNotes}
use Rattle.pool_law.specs.Patterns.{one_more}
use Rattle.pool_law.proofs.ListLemmas.{get-map, map-get}
use Rattle.pool_law.proofs.LogLemmas.{entry-note}
use Rattle.run_laws.proofs.Acts.{Gets, PutsAway, IsQuiet, AreQuiet, IsAt, Birthing, Growing, Sparing, Ending, Act, before, act_notes, Acts}
use Rattle.run_laws.proofs.ActPlaces.{Within, entry-within}
use Rattle.run_laws.proofs.LaneActs.{AnyNote}

pub record BirthHere (logs : Logs) (lane : ℕ) (root : RootId) : Type 0 where
  pub region : RegionId
  pub birth : ℕ
  pub object : Object
  pub number : ℕ
  pub birth_is : slice_get (of_lane logs lane) birth ≡ Some (At object number (Birth root region))
  pub set : ℕ
  pub set_is : slice_get (of_lane logs lane) set ≡ Some (Ref root RefDid.Born)
  pub order : birth < set

pub record EndHere (logs : Logs) (lane : ℕ) (root : RootId) : Type 0 where
  pub region : RegionId
  pub ended : ℕ
  pub ended_is : slice_get (of_lane logs lane) ended ≡ Some (Ref root RefDid.Ended)
  pub end : ℕ
  pub object : Object
  pub number : ℕ
  pub end_is : slice_get (of_lane logs lane) end ≡ Some (At object number (End root))
  pub out : (entry_of logs (At object number (End root))).region ≡ Some region
  pub vacated : ℕ
  pub vacated_is : slice_get (of_lane logs lane) vacated ≡ Some (Ref root RefDid.Vacated)
  pub away : ℕ
  pub did : Did
  pub away_object : Object
  pub away_number : ℕ
  pub away_is : slice_get (of_lane logs lane) away ≡ Some (At away_object away_number did)
  pub puts_away : PutsAway region did
  pub after_ended : ended < end
  pub after_end : end < vacated
  pub after_vacated : vacated < away
  pub near : away ≤ ended + 4

-- soon behind a growth at this place of the log a region is put away
pub record GrowthHere (logs : Logs) (lane at : ℕ) : Type 0 where
  pub left : RegionId
  pub away : ℕ
  pub did : Did
  pub away_object : Object
  pub away_number : ℕ
  pub away_is : slice_get (of_lane logs lane) away ≡ Some (At away_object away_number did)
  pub puts_away : PutsAway left did
  pub after_growth : at < away
  pub near : away ≤ at + 2

-- what stands in the log with this note at this place
abbrev pub Together : Logs → ℕ → ℕ → Note → Type 0
Together logs lane i (At o k (Birth root x)) = BirthHere logs lane root × ((y : RegionId) × (x ≡ one_more y))
Together logs lane i (At o k (Grow c x)) = GrowthHere logs lane i
Together logs lane i (Ref root RefDid.Born) = BirthHere logs lane root
Together logs lane i (Ref root RefDid.Ended) = EndHere logs lane root
Together logs lane i (At o k (End root)) = EndHere logs lane root
Together logs lane i (Ref root RefDid.Vacated) = EndHere logs lane root
Together logs lane i _ = Unit {0}

module _ (logs : Logs) (lane : ℕ) where
  quiet-together : (i : ℕ) (n : Note) → IsQuiet AnyNote n → Together logs lane i n
  quiet-together i (At o k (Birth root r)) quiet = absurd quiet
  quiet-together i (At o k (Grow c r)) quiet = absurd quiet
  quiet-together i (At o k (End root)) quiet = absurd quiet
  quiet-together i (At o k _) quiet = tt
  quiet-together i (Ref root RefDid.Born) quiet = absurd quiet
  quiet-together i (Ref root RefDid.Ended) quiet = absurd quiet
  quiet-together i (Ref root RefDid.Vacated) quiet = absurd quiet
  quiet-together i (Ref root _) quiet = tt
  quiet-together i (Busy held) quiet = tt

  gets-together : (i k : ℕ) (o : Object) (r : RegionId) (d : Did) → Gets r d → Together logs lane i (At o k d)
  gets-together i k o r (Hit x) gets = tt
  gets-together i k o r (Take c x) gets = tt
  gets-together i k o r _ gets = absurd gets

  away-together : (i k : ℕ) (o : Object) (r : RegionId) (d : Did) → PutsAway r d → Together logs lane i (At o k d)
  away-together i k o r (Kept x) puts = tt
  away-together i k o r (Give x) puts = tt
  away-together i k o r _ puts = absurd puts

  abbrev pub log_entries : ToldNotes
  log_entries = map (entry_of logs) (of_lane logs lane)

  note-at : (j : ℕ) (x : ToldNote) (n : Note) → slice_get log_entries j ≡ Some x → x.note ≡ n
      → (slice_get (of_lane logs lane) j ≡ Some n) × (x ≡ entry_of logs n)
  note-at j x n is note =
      let m = map-get (entry_of logs) (of_lane logs lane) j x is in
      let same : m.0 ≡ n = sym (entry-note logs m.0) ∙ ap (λ y. y.note) m.2 ∙ note in
      (m.1 ∙ ap (λ y. Some y) same, sym m.2 ∙ ap (entry_of logs) same)

  -- the entries of an act at their places
  module _ (e : ToldNote) (place : ℕ → ℕ) (rises : (j l : ℕ) → j < l → place j < place l)
      (in_row : (j : ℕ) → place j ≡ place 0 + j) where
    -- what gets a region stands alone, as do a refusal and what puts a region away
    got-together : (n : ℕ) (got : ToldNote) (r : RegionId) (d : Did) → IsAt d got.note → Gets r d → got ≡ e
        → Together logs lane n e.note
    got-together n got r d at gets same =
        subst (λ x. Together logs lane n x.note) same
        (subst (Together logs lane n) (sym at.is) (gets-together n at.number at.object r d gets))

    still-together : (n : ℕ) (x : ToldNote) → IsQuiet AnyNote x.note → x ≡ e → Together logs lane n e.note
    still-together n x quiet same =
        subst (λ y. Together logs lane n y.note) same (quiet-together n x.note quiet)

    put-together : (n : ℕ) (away : ToldNote) (r : RegionId) (d : Did) → IsAt d away.note → PutsAway r d → away ≡ e
        → Together logs lane n e.note
    put-together n away r d at puts same =
        subst (λ y. Together logs lane n y.note) same
        (subst (Together logs lane n) (sym at.is) (away-together n at.number at.object r d puts))

    tail-together : (n : ℕ) (refused : Option ToldNote) (away : ToldNote) (r : RegionId) (d : Did)
        → AreQuiet AnyNote refused → IsAt d away.note → PutsAway r d → (i : ℕ)
        → slice_get (before refused (away ∷ [])) i ≡ Some e → Together logs lane n e.note
    tail-together n None away r d quiet at puts zero is = put-together n away r d at puts (cc is)
    tail-together n None away r d quiet at puts (suc i) is = absurd (cc is)
    tail-together n (Some x) away r d quiet at puts zero is = still-together n x quiet (cc is)
    tail-together n (Some x) away r d quiet at puts (suc zero) is = put-together n away r d at puts (cc is)
    tail-together n (Some x) away r d quiet at puts (suc (suc i)) is = absurd (cc is)

    births-together : (got birth set : ToldNote) → Birthing got birth set
        → ((j : ℕ) (x : ToldNote) → slice_get (got ∷ birth ∷ set ∷ []) j ≡ Some x
        → slice_get log_entries (place j) ≡ Some x) →
        (m : ℕ) → slice_get (got ∷ birth ∷ set ∷ []) m ≡ Some e → Together logs lane (place m) e.note
    births-together got birth set b there = go
      where
        here : BirthHere logs lane b.root
        here =
            record {
              region = one_more b.region;
              birth = place 1;
              object = b.birth_is.object;
              number = b.birth_is.number;
              birth_is =
                  (note-at (place 1) birth (At b.birth_is.object b.birth_is.number (Birth b.root (one_more b.region)))
                  (there 1 birth refl) b.birth_is.is).0;
              set = place 2;
              set_is = (note-at (place 2) set (Ref b.root RefDid.Born) (there 2 set refl) b.set_is).0;
              order = rises 1 2 (omega arith);
            }

        go : (m : ℕ) → slice_get (got ∷ birth ∷ set ∷ []) m ≡ Some e → Together logs lane (place m) e.note
        go zero is = got-together (place 0) got b.region b.did b.got_is b.gets (cc is)
        go (suc zero) is =
            let same : birth ≡ e = cc is in
            subst (λ x. Together logs lane (place 1) x.note) same
            (subst (Together logs lane (place 1)) (sym b.birth_is.is) (here, (b.region, refl)))
        go (suc (suc zero)) is =
            let same : set ≡ e = cc is in
            subst (λ x. Together logs lane (place 2) x.note) same
            (subst (Together logs lane (place 2)) (sym b.set_is) here)
        go (suc (suc (suc i))) is = absurd (cc is)

    grows-together : (got growth : ToldNote) (refused : Option ToldNote) (away : ToldNote) → AreQuiet AnyNote refused
        → Growing got growth away →
        ((j : ℕ) (x : ToldNote) → slice_get (got ∷ growth ∷ before refused (away ∷ [])) j ≡ Some x
        → slice_get log_entries (place j) ≡ Some x) →
        (m : ℕ) → slice_get (got ∷ growth ∷ before refused (away ∷ [])) m ≡ Some e
        → Together logs lane (place m) e.note
    grows-together got growth refused away quiet g there = go
      where
        last : (o : Option ToldNote) → (l : ℕ) × (1 < l)
            × (slice_get (got ∷ growth ∷ before o (away ∷ [])) l ≡ Some away) × (l ≤ 3)
        last None = (2, omega arith, refl, omega arith)
        last (Some r) = (3, omega arith, refl, omega arith)

        here : GrowthHere logs lane (place 1)
        here =
            let l = last refused in
            record {
              left = g.left;
              away = place l.0;
              did = g.did;
              away_object = g.away_is.object;
              away_number = g.away_is.number;
              away_is =
                  (note-at (place l.0) away (At g.away_is.object g.away_is.number g.did) (there l.0 away l.2)
                  g.away_is.is).0;
              puts_away = g.puts_away;
              after_growth = rises 1 l.0 l.1;
              near = omega (arith, in_row l.0, in_row 1, l.3);
            }

        go : (m : ℕ) → slice_get (got ∷ growth ∷ before refused (away ∷ [])) m ≡ Some e
            → Together logs lane (place m) e.note
        go zero is = got-together (place 0) got g.region g.got_did g.got_is g.gets (cc is)
        go (suc zero) is =
            let same : growth ≡ e = cc is in
            subst (λ y. Together logs lane (place 1) y.note) same
            (subst (Together logs lane (place 1)) (sym g.growth_is.is) here)
        go (suc (suc i)) is =
            tail-together (place (suc (suc i))) refused away g.left g.did quiet g.away_is g.puts_away i is

    spares-together : (got found : ToldNote) (refused : Option ToldNote) (away : ToldNote) → IsQuiet AnyNote found.note
        → AreQuiet AnyNote refused → Sparing got away →
        (m : ℕ) → slice_get (got ∷ found ∷ before refused (away ∷ [])) m ≡ Some e
        → Together logs lane (place m) e.note
    spares-together got found refused away still quiet s zero is =
        got-together (place 0) got s.region s.got_did s.got_is s.gets (cc is)
    spares-together got found refused away still quiet s (suc zero) is =
        still-together (place 1) found still (cc is)
    spares-together got found refused away still quiet s (suc (suc i)) is =
        tail-together (place (suc (suc i))) refused away s.region s.did quiet s.away_is s.puts_away i is

    ends-together : (ended end vacated : ToldNote) (refused : Option ToldNote) (away : ToldNote) → AreQuiet AnyNote
        refused
        → Ending ended end vacated away →
        ((j : ℕ) (x : ToldNote) → slice_get (ended ∷ end ∷ vacated ∷ before refused (away ∷ [])) j ≡ Some x
        → slice_get log_entries (place j) ≡ Some x) →
        (m : ℕ) → slice_get (ended ∷ end ∷ vacated ∷ before refused (away ∷ [])) m ≡ Some e
        → Together logs lane (place m) e.note
    ends-together ended end vacated refused away quiet x there = go
      where
        last : (o : Option ToldNote) → (l : ℕ) × (2 < l)
            × (slice_get (ended ∷ end ∷ vacated ∷ before o (away ∷ [])) l ≡ Some away) × (l ≤ 4)
        last None = (3, omega arith, refl, omega arith)
        last (Some r) = (4, omega arith, refl, omega arith)

        n : (slice_get (of_lane logs lane) (place 1) ≡ Some (At x.end_is.object x.end_is.number (End x.root)))
            × (end ≡ entry_of logs (At x.end_is.object x.end_is.number (End x.root)))
        n = note-at (place 1) end (At x.end_is.object x.end_is.number (End x.root)) (there 1 end refl) x.end_is.is

        here : EndHere logs lane x.root
        here =
            let l = last refused in
            record {
              region = x.region;
              ended = place 0;
              ended_is = (note-at (place 0) ended (Ref x.root RefDid.Ended) (there 0 ended refl) x.ended_is).0;
              end = place 1;
              object = x.end_is.object;
              number = x.end_is.number;
              end_is = n.0;
              out = ap (λ y. y.region) (sym n.1) ∙ x.out;
              vacated = place 2;
              vacated_is =
                  (note-at (place 2) vacated (Ref x.root RefDid.Vacated) (there 2 vacated refl) x.vacated_is).0;
              away = place l.0;
              did = x.did;
              away_object = x.away_is.object;
              away_number = x.away_is.number;
              away_is =
                  (note-at (place l.0) away (At x.away_is.object x.away_is.number x.did) (there l.0 away l.2)
                  x.away_is.is).0;
              puts_away = x.puts_away;
              after_ended = rises 0 1 (omega arith);
              after_end = rises 1 2 (omega arith);
              after_vacated = rises 2 l.0 l.1;
              near = omega (arith, in_row l.0, l.3);
            }

        go : (m : ℕ) → slice_get (ended ∷ end ∷ vacated ∷ before refused (away ∷ [])) m ≡ Some e
            → Together logs lane (place m) e.note
        go zero is =
            let same : ended ≡ e = cc is in
            subst (λ y. Together logs lane (place 0) y.note) same
            (subst (Together logs lane (place 0)) (sym x.ended_is) here)
        go (suc zero) is =
            let same : end ≡ e = cc is in
            subst (λ y. Together logs lane (place 1) y.note) same
            (subst (Together logs lane (place 1)) (sym x.end_is.is) here)
        go (suc (suc zero)) is =
            let same : vacated ≡ e = cc is in
            subst (λ y. Together logs lane (place 2) y.note) same
            (subst (Together logs lane (place 2)) (sym x.vacated_is) here)
        go (suc (suc (suc i))) is =
            tail-together (place (suc (suc (suc i)))) refused away x.region x.did quiet x.away_is x.puts_away i is

    act-together : (a : Act AnyNote)
        → ((j : ℕ) (x : ToldNote) → slice_get (act_notes a) j ≡ Some x → slice_get log_entries (place j) ≡ Some x)
        → (m : ℕ) → slice_get (act_notes a) m ≡ Some e → Together logs lane (place m) e.note
    act-together (Act.Quiet x quiet) there zero is = still-together (place 0) x quiet (cc is)
    act-together (Act.Quiet x quiet) there (suc m) is = absurd (cc is)
    act-together (Act.Births got birth set b) there m is = births-together got birth set b there m is
    act-together (Act.Grows got growth refused away quiet g) there m is =
        grows-together got growth refused away quiet g there m is
    act-together (Act.Spares got found refused away still quiet s) there m is =
        spares-together got found refused away still quiet s m is
    act-together (Act.Ends ended end vacated refused away quiet x) there m is =
        ends-together ended end vacated refused away quiet x there m is
    act-together (Act.Sheds shed given x) there zero is =
        let same : shed ≡ e = cc is in
        subst (λ y. Together logs lane (place 0) y.note) same
        (subst (Together logs lane (place 0)) (sym x.shed_is.is) tt)
    act-together (Act.Sheds shed given x) there (suc zero) is =
        let same : given ≡ e = cc is in
        subst (λ y. Together logs lane (place 1) y.note) same
        (subst (Together logs lane (place 1)) (sym x.given_is.is) tt)
    act-together (Act.Sheds shed given x) there (suc (suc m)) is = absurd (cc is)

  -- each note stands with the others of its act
  pub note-together : Acts AnyNote log_entries [] → (i : ℕ) (n : Note) → slice_get (of_lane logs lane) i ≡ Some n
      → Together logs lane i n
  note-together acts i n is =
      let w : Within AnyNote log_entries i (entry_of logs n) =
      entry-within AnyNote log_entries i (entry_of logs n) acts
      (get-map (entry_of logs) (of_lane logs lane) i n is) in
      subst (Together logs lane i) (entry-note logs n)
      (subst (λ k. Together logs lane k (entry_of logs n).note) (sym w.here)
      (act-together (entry_of logs n) w.place w.rises w.in_row w.act w.there w.index w.found))
