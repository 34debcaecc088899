-- Each move keeps the rule of a worker's queue.
use Rattle.std.proofs.Common.{◌≡◌, ◌≢◌, ℕ, zero, suc, true, false, true≢false, List, [], ◌∷◌, ◌++◌, length, set, sym, refl, ap, ◌∙◌, subst, ⊎_elim, append_assoc}
use mathlib.Core.Option.{some, some-ne-none}
use lib.ListN.{get_elem?}
use Rattle.crossbeam_queue.specs.Fifo.{Pushes, Pops, Forks, Merges, Learns}
use Rattle.crossbeam_queue.proofs.Lists.{at_set, at_snoc}
use Rattle.job_queue.specs.declared.jobs.Job.{Job}
use Rattle.job_queue.specs.declared.jobs.JobLog.{JobLog}
use Rattle.job_queue.specs.Jobs.{ends, Fits, HoldsLast, Relays}

at_end : (l : List JobLog) (a b : JobLog) (j : ℕ) → get_elem? l j ≢ some b → get_elem? (l ++ a ∷ []) j ≡ some b
    → j ≡ length l
at_end [] a b zero n e = refl
at_end [] a b (suc j) n e = absurd (some-ne-none b (sym e))
at_end (x ∷ xs) a b zero n e = absurd (n e)
at_end (x ∷ xs) a b (suc j) n e = ap suc (at_end xs a b j n e)

abbrev Each : (ℕ → JobLog → Type 0) → List JobLog → Type 0
Each F views = (port : ℕ) (v : JobLog) → get_elem? views port ≡ some v → F port v

each_set : (F : ℕ → JobLog → Type 0) (views : List JobLog) (port : ℕ) (w : JobLog) → F port w
    → ((j : ℕ) (u : JobLog) → j ≢ port → get_elem? views j ≡ some u → F j u) → Each F (set views port w)
each_set F views port w mine others j u e =
    ⊎_elim
    (λ (x : (j ≡ port) × (w ≡ u)). subst (λ (y : ℕ × JobLog). F y.0 y.1) (λ i. (sym x.0 i, x.1 i)) mine)
    (λ (x : (j ≢ port) × (get_elem? views j ≡ some u)). others j u x.0 x.1)
    (at_set views port j w u e)

pub begins : Relays [] (ends true true [] [] ∷ [])
begins = record {
  writer = 0;
  reader = 0;
  sent = [];
  got = [];
  in_order = refl;
  each = λ j u e. subst (λ (k : ℕ × JobLog). Fits 0 0 [] [] k.0 k.1) (λ i. (sym (first j u e).0 i, (first j u e).1 i))
      (record { pushes = λ _. (refl, refl); pops = λ _. (refl, refl) });
}
  where
    first : (j : ℕ) (u : JobLog) → get_elem? (ends true true [] [] ∷ []) j ≡ some u
        → (j ≡ 0) × (ends true true [] [] ≡ u)
    first zero u e = (refl, cc e)
    first (suc j) u e = absurd (some-ne-none u (sym e))

pub sends : (n port : ℕ) (v : JobLog) (x : Job) → v.pushes ≡ true
    → Pushes Relays n port v x (λ w. w ≡ ends v.pushes v.pops (v.sent ++ x ∷ []) v.got)
sends n port v x may items views _ h at =
    let w : JobLog = ends v.pushes v.pops (v.sent ++ x ∷ []) v.got in
    let mine = h.each port v at in
    let sent = h.sent ++ x ∷ [] in (
      w,
      record {
        writer = h.writer;
        reader = h.reader;
        sent = sent;
        got = h.got;
        in_order = ap (λ l. l ++ x ∷ []) h.in_order ∙ append_assoc h.got items (x ∷ []);
        each = each_set (Fits h.writer h.reader sent h.got) views port w
            (record {
              pushes = λ _. ((mine.pushes may).0, ap (λ l. l ++ x ∷ []) (mine.pushes may).1);
              pops = mine.pops;
            })
            (λ j u other e. record {
              pushes = λ p. absurd (other (((h.each j u e).pushes p).0 ∙ sym (mine.pushes may).0));
              pops = (h.each j u e).pops;
            });
      },
      refl,
    )

pub gets : (port : ℕ) (v : JobLog) → v.pops ≡ true
    → Pops Relays port v (λ x w. w ≡ ends v.pushes v.pops v.sent (v.got ++ x ∷ []))
gets port v may x items views h at =
    let w : JobLog = ends v.pushes v.pops v.sent (v.got ++ x ∷ []) in
    let mine = h.each port v at in
    let got = h.got ++ x ∷ [] in (
      w,
      record {
        writer = h.writer;
        reader = h.reader;
        sent = h.sent;
        got = got;
        in_order = h.in_order ∙ sym (append_assoc h.got (x ∷ []) items);
        each = each_set (Fits h.writer h.reader h.sent got) views port w
            (record {
              pushes = mine.pushes;
              pops = λ _. ((mine.pops may).0, ap (λ l. l ++ x ∷ []) (mine.pops may).1);
            })
            (λ j u other e. record {
              pushes = (h.each j u e).pushes;
              pops = λ p. absurd (other (((h.each j u e).pops p).0 ∙ sym (mine.pops may).0));
            });
      },
      refl,
    )

pub forks : (port : ℕ) (v : JobLog) → v.pushes ≡ true → v.pops ≡ true
    → Forks Relays port v (ends true false v.sent []) (ends false true [] v.got)
forks port v a b items views h at =
    let l : JobLog = ends true false v.sent [] in
    let r : JobLog = ends false true [] v.got in
    let mine = h.each port v at in
    let vs : List JobLog = set views port l in
    let Old : ℕ → JobLog → Type 0 =
    λ j u. (u.pushes ≡ true → (j ≡ h.writer) × (u.sent ≡ h.sent)) × (u.pops ≢ true) in
    let old : Each Old vs =
    each_set Old views port l ((λ _. mine.pushes a), λ p. true≢false (sym p))
    (λ j u other e. ((h.each j u e).pushes, λ p. other (((h.each j u e).pops p).0 ∙ sym (mine.pops b).0))) in
    record {
      writer = h.writer;
      reader = length vs;
      sent = h.sent;
      got = h.got;
      in_order = h.in_order;
      each = λ j u e. ⊎_elim
          (λ x. record { pushes = (old j u x).0; pops = λ p. absurd ((old j u x).1 p) })
          (λ (is : r ≡ u). record {
            pushes = λ p. absurd (true≢false (sym (ap (λ (y : JobLog). y.pushes) is ∙ p)));
            pops = λ p. (
              at_end vs r u j (λ x. (old j u x).1 p) e,
              ap (λ (y : JobLog). y.got) (sym is)
                  ∙ (mine.pops b).1,
            );
          })
          (at_snoc vs r u j e);
    }

pub merges : (port : ℕ) (v : JobLog) (other : ℕ) (u : JobLog) → v.pushes ≡ true → u.pops ≡ true
    → Merges Relays port v other u (ends true true v.sent u.got) (ends false false [] [])
merges port v other u a b items views h at two at' =
    let both : JobLog = ends true true v.sent u.got in
    let mine = h.each port v at in
    let vs : List JobLog = set views port both in
    let was : get_elem? views other ≡ some u =
    ⊎_elim (λ x. absurd (two x.0)) (λ x. x.1) (at_set views port other both u at') in
    let theirs = (h.each other u was).pops b in
    let Now : ℕ → JobLog → Type 0 = λ j y. j ≢ other → Fits h.writer port h.sent h.got j y in
    let now : Each Now vs =
    each_set Now views port both
    (λ _. record { pushes = λ _. mine.pushes a; pops = λ _. (refl, theirs.1) })
    (λ j y _ e apart. record {
      pushes = (h.each j y e).pushes;
      pops = λ p. absurd (apart (((h.each j y e).pops p).0 ∙ sym theirs.0));
    }) in
    record {
      writer = h.writer;
      reader = port;
      sent = h.sent;
      got = h.got;
      in_order = h.in_order;
      each = each_set (Fits h.writer port h.sent h.got) vs other (ends false false [] [])
          (record { pushes = λ p. absurd (true≢false (sym p)); pops = λ p. absurd (true≢false (sym p)) })
          (λ j y apart e. now j y e apart);
    }

pub totals : (port : ℕ) (v : JobLog) → v.pushes ≡ true → v.pops ≡ true
    → Learns Relays port v (λ items. v.sent ≡ v.got ++ items)
totals port v a b items views h at =
    let mine = h.each port v at in
    (mine.pushes a).1 ∙ h.in_order ∙ ap (λ l. l ++ items) (sym (mine.pops b).1)

pub sent-last : (port : ℕ) (v : JobLog) → v.pushes ≡ true → Learns Relays port v (HoldsLast v.sent)
sent-last port v a items views h at = (h.got, ((h.each port v at).pushes a).1 ∙ h.in_order)
