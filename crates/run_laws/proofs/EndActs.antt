-- How a root ends: what is noted of it are acts.
use Rattle.std.proofs.Common.{⊎_elim, ◌≡◌, ◌/◌, ◌∷◌, refl, sym, ap, subst, true, Some, None, ◌∙◌}
use Rattle.std.specs.Prelude.{Option, option_and_then}
use Rattle.pool_law.specs.declared.id.RootId.{RootId}
use Rattle.pool_law.specs.declared.id.RegionId.{RegionId}
use Rattle.pool_law.specs.declared.note.Object.{Object}
use Rattle.pool_law.specs.declared.note.Did.{Did}
use Rattle.pool_law.specs.declared.note.Did.TheVariants.{Give, Kept, Back, End}
use Rattle.pool_law.specs.declared.note.RefDid.{RefDid}
use Rattle.pool_law.specs.declared.note.Note.TheVariants.{At, Ref}
use Rattle.pool_law.specs.declared.run.Shape.{Shape}
use Rattle.pool_law.specs.declared.run.Reply.{Reply}
use Rattle.pool_law.specs.Limits.{has_cache}
use Rattle.pool_law.specs.Same.{same_root, same_region}
use Rattle.pool_law.specs.Logs.{ToldNote}
use Rattle.pool_law.specs.Dids as says
use Rattle.pool_law.specs.Readers.{ToldNotes, Log, ◌>>◌, give, nothing, done_at, marked, note, step, busy, ending}
use Rattle.pool_law.specs.Patterns.{give_back, not_kept, offer, put_away, end_of, release}
use Rattle.pool_law.proofs.SameLemmas.{same_root-is, same_region-is}
use Rattle.run_laws.proofs.Acts.{IsStill, IsStep, IsQuiet, AreQuiet, PutsAway, IsAt, Ending, before, Acts, acts-then, end-act}
use Rattle.std.proofs.lemmas.Bool.{cond_both}
use Rattle.run_laws.proofs.Readings.{bind-some, or-some, check-true, done_at-note, marked-quiet, next-read, note-read, step-read, give_back-read}
use Rattle.run_laws.proofs.Keeping.{Keeps, keeps-give, keeps-then, keeps-or}
use Rattle.run_laws.proofs.RootActs.{acts-chain, step-acts, ended-is, vacated-is, home-acts}

module _ (P : Object → Did → Type 0) where
  -- what puts a region away, and a refusal or none before it
  pub record Away (r : RegionId) (es rest : ToldNotes) : Type 0 where
    pub refused : Option ToldNote
    pub quiet : AreQuiet P refused
    pub away : ToldNote
    pub did : Did
    pub away_is : IsAt did away.note
    pub puts_away : PutsAway r did
    pub are : es ≡ before refused (away ∷ rest)

  pub give_back-away : (r : RegionId) (refused : Option ToldNote) (es : ToldNotes) (log : Log) (p : Unit {0} × Log)
      → AreQuiet P refused → es ≡ before refused log.left → give_back r log ≡ Some p → Away r es p.1.left
  give_back-away r refused es log p quiet here is =
      let g = give_back-read r log p is in
      let away : IsAt (Give r) g.0.note = record { object = Object.Arena r.place.arena; number = g.1; is = g.3 } in
      record {
        refused = refused;
        quiet = quiet;
        away = g.0;
        did = Give r;
        away_is = away;
        puts_away = refl;
        are = here
            ∙ ap (before refused) g.2;
      }

  -- a cache does not keep the region: one quiet note
  pub record Refuses (es rest : ToldNotes) : Type 0 where
    pub entry : ToldNote
    pub quiet : IsQuiet P entry.note
    pub are : es ≡ entry ∷ rest

  pub not_kept-refuses : (r : RegionId) (log : Log) (p : Unit {0} × Log) → not_kept r log ≡ Some p
      → Refuses log.left p.1.left
  not_kept-refuses r log p is =
      ⊎_elim
      (λ e.
      let n = note-read (Object.Cache r.owner r.class) (says.back r) log p e in
      record { entry = n.entry; quiet = subst (IsQuiet P) (sym n.is) (back n.did p.0 n.said); are = n.are })
      (λ e.
      let x = bind-some (busy (Object.Cache r.owner r.class) log) (λ got. nothing got.1) p e in
      let n = next-read (λ y. marked (Object.Cache r.owner r.class) y.note) log x.0 x.1 in
      let same : ◌≡◌ {A = Unit {0} × Log} (tt, x.0.1) p = cc x.2 in
      record {
        entry = n.0;
        quiet = marked-quiet P (Object.Cache r.owner r.class) n.0.note x.0.0 n.2;
        are = n.1
            ∙ ap (λ q. n.0 ∷ q.1.left) same;
      })
      (or-some (note (Object.Cache r.owner r.class) (says.back r) log)
      ((busy (Object.Cache r.owner r.class) >> nothing) log) p is)
    where
      back : (d : Did) (u : Unit {0}) → says.back r d ≡ Some u → IsStill P (Object.Cache r.owner r.class) d
      back (Back other why) u e = tt
      back _ u e = absurd (cc e)

  pub offer-away : (r : RegionId) → has_cache r.class ≡ true → (log : Log) (p : Unit {0} × Log) → offer r log ≡ Some p
      → Away r log.left p.1.left
  offer-away r cached log p is =
      ⊎_elim
      (λ e.
      let n = note-read (Object.Cache r.owner r.class) (says.kept r) log p e in
      let away : IsAt n.did n.entry.note = record
      { object = Object.Cache r.owner r.class; number = n.number; is = n.is } in
      record {
        refused = None;
        quiet = tt;
        away = n.entry;
        did = n.did;
        away_is = away;
        puts_away =
            keeps n.did p.0 n.said;
        are = n.are;
      })
      (λ e.
      let x = bind-some (not_kept r log) (λ got. give_back r got.1) p e in
      let n = not_kept-refuses r log x.0 x.1 in
      give_back-away r (Some n.entry) log.left x.0.1 p n.quiet n.are x.2)
      (or-some (note (Object.Cache r.owner r.class) (says.kept r) log) ((not_kept r >> give_back r) log) p is)
    where
      keeps : (d : Did) (u : Unit {0}) → says.kept r d ≡ Some u → PutsAway r d
      keeps (Kept other) u e =
          let same : r ≡ other = same_region-is r other (check-true (same_region r other) u e) in
          (sym same, ap (λ x. has_cache x.class) (sym same) ∙ cached)
      keeps _ u e = absurd (cc e)

  pub put_away-away : (r : RegionId) (log : Log) (p : Unit {0} × Log) → put_away r log ≡ Some p
      → Away r log.left p.1.left
  put_away-away r log p =
      cond_both (has_cache r.class) (offer r) (give_back r) (λ z. z log ≡ Some p → Away r log.left p.1.left)
      (λ cached is. offer-away r cached log p is)
      (λ _ is. give_back-away r None log.left log p tt refl is)

  -- what the note of an end says
  pub end-is : (root : RootId) (d : Did) (u : Unit {0}) → says.end root d ≡ Some u → d ≡ End root
  end-is root (End other) u e = ap End (sym (same_root-is root other (check-true (same_root root other) u e)))
  end-is root _ u e = absurd (cc e)

  pub record EndRead (root : RootId) (r : RegionId) (es rest : ToldNotes) : Type 0 where
    pub entry : ToldNote
    pub is : IsAt (End root) entry.note
    pub out : entry.region ≡ Some r
    pub are : es ≡ entry ∷ rest

  pub ending-read : (root : RootId) (log : Log) (p : RegionId × Log) → ending root log ≡ Some p
      → EndRead root p.0 log.left p.1.left
  ending-read root log p is =
      let n = next-read (λ e. option_and_then (λ _. e.region)
      (option_and_then (says.end root) (done_at (Object.Root root.place) e.note))) log p is in
      let u = bind-some (option_and_then (says.end root) (done_at (Object.Root root.place) n.0.note)) (λ _. n.0.region)
      p.0 n.2 in
      let d = bind-some (done_at (Object.Root root.place) n.0.note) (says.end root) u.0 u.1 in
      let k = done_at-note (Object.Root root.place) n.0.note d.0 d.1 in
      record {
        entry = n.0;
        is = record {
          object = Object.Root root.place;
          number = k.0;
          is = k.1
              ∙ ap (At (Object.Root root.place) k.0) (end-is root d.0 u.0 d.2);
        };
        out = u.2;
        are = n.1;
      }

  pub end_of-acts : (shape : Shape) (root : RootId) → Keeps (Acts P) (end_of shape root)
  end_of-acts shape root log p is =
      let x = bind-some (step root says.ended log) _ p is in
      let r = bind-some (ending root x.0.1) _ p x.2 in
      let s = bind-some (step root says.vacated r.0.1) _ p r.2 in
      let a = bind-some (put_away r.0.0 s.0.1) _ p s.2 in
      let f = step-read root says.ended log x.0 x.1 in
      let e = ending-read root x.0.1 r.0 r.1 in
      let w = step-read root says.vacated r.0.1 s.0 s.1 in
      let q = put_away-away r.0.0 s.0.1 a.0 a.1 in
      let over : Ending f.entry e.entry w.entry q.away =
      record {
        root = root;
        region = r.0.0;
        ended_is = f.is ∙ ap (Ref root) (ended-is P f.did x.0.0 f.said);
        end_is = e.is;
        out = e.out;
        vacated_is = w.is ∙ ap (Ref root) (vacated-is P w.did s.0.0 w.said);
        did = q.did;
        away_is = q.away_is;
        puts_away = q.puts_away;
      } in
      let there : log.left ≡ f.entry ∷ (e.entry ∷ (w.entry ∷ before q.refused (q.away ∷ a.0.1.left))) =
      f.are ∙ ap (λ xs. f.entry ∷ xs) (e.are ∙ ap (λ xs. e.entry ∷ xs) (w.are ∙ ap (λ xs. w.entry ∷ xs) q.are)) in
      acts-then log.left a.0.1.left p.1.left
      (end-act f.entry e.entry w.entry q.refused q.away q.quiet over log.left a.0.1.left there)
      (home-acts P (Object.Bin (root.place / shape.handles)) root.place a.0.1 p a.2)

  pub release-acts : (shape : Shape) (root : RootId) → Keeps (Acts P) (release shape root)
  release-acts shape root =
      keeps-or (acts-chain P) (step root says.count_kept >> give Reply.Kept) (end_of shape root >> give Reply.Freed)
      (keeps-then (acts-chain P) (step root says.count_kept) (give Reply.Kept) (step-acts P root says.count_kept kept)
      (keeps-give (acts-chain P) Reply.Kept))
      (keeps-then (acts-chain P) (end_of shape root) (give Reply.Freed) (end_of-acts shape root)
      (keeps-give (acts-chain P) Reply.Freed))
    where
      kept : (d : RefDid) (u : Unit {0}) → says.count_kept d ≡ Some u → IsStep d
      kept RefDid.Kept u e = tt
      kept _ u e = absurd (cc e)
