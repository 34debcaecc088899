-- Queues and workers, one more.
use Rattle.std.proofs.Common.{◌≡◌, ℕ, zero, suc, ◌+◌, ◌<◌, List, [], ◌∷◌, ◌++◌, length, refl, sym, ap, ◌∙◌, subst, arith, inl, inr, length-append, Some}
use Rattle.std.specs.Prelude.{◌⊎◌, Option, slice_get}
use Rattle.crossbeam_queue.specs.declared.array_queue.Doing.{Doing}
use Rattle.crossbeam_queue.specs.declared.array_queue.Slotted.{Slotted}
use Rattle.crossbeam_queue.specs.Passes.{Pass}
use Rattle.job_queue.specs.declared.jobs.Job.{Job}
use Rattle.job_queue.specs.declared.jobs.JobLog.{JobLog}
use Rattle.shared_pool.specs.declared.seat.PoolSeat.{PoolSeat}
use Rattle.frame_hash.specs.declared.worker.Worker.{Worker}
use Rattle.frame_cut.specs.Openings.{AreNewWorkers, AreLines, IsLine, IsNewWorker}

-- the last item, and those before it
get_push : {X : Type 0} (xs : List X) (x y : X) (k : ℕ) → slice_get (xs ++ x ∷ []) k ≡ Some y
    → ((k < length xs) × (slice_get xs k ≡ Some y)) ⊎ ((k ≡ length xs) × (x ≡ y))
get_push [] x y zero e = inr (refl, cc e)
get_push [] x y (suc k) e = absurd (cc e)
get_push (z ∷ xs) x y zero e = inl (omega arith, e)
get_push (z ∷ xs) x y (suc k) e =
    elim (get_push xs x y k e) [
      | inl a ↦ inl (let lt = a.0 in omega (arith, lt), a.1)
      | inr b ↦ inr (let is = b.0 in omega (arith, is), b.1)
    ]

-- an item at a place behind all others is the last one
at_end : {X : Type 0} (xs : List X) (x y : X) (k : ℕ) → slice_get (xs ++ x ∷ []) k ≡ Some y → k ≡ length xs → x ≡ y
at_end xs x y k e is =
    elim (get_push xs x y k e) [ inl a ↦ absurd (let lt = a.0 in omega (arith, lt, is)) | inr b ↦ b.1 ]

before_end : {X : Type 0} (xs : List X) (x y : X) (k : ℕ) → slice_get (xs ++ x ∷ []) k ≡ Some y → k < length xs
    → slice_get xs k ≡ Some y
before_end xs x y k e lt =
    elim (get_push xs x y k e) [ inl a ↦ a.1 | inr b ↦ absurd (let is = b.0 in omega (arith, lt, is)) ]

abbrev Queue : Type 0 → Type 0 → Type 0
Queue Q A = Slotted (Option Job) (Doing Job JobLog) Q A

module _ {Q A : Type 0} where
  pub lines_none : (queues : List (Queue Q A)) (senders receivers : List (Pass Job JobLog)) → queues ≡ [] → senders ≡ []
      → receivers ≡ [] → AreLines 0 queues senders receivers
  lines_none queues senders receivers a b c = record {
    queues_many = ap (λ (l : List (Queue Q A)). length l) a;
    senders_many = ap (λ (l : List (Pass Job JobLog)). length l) b;
    receivers_many = ap (λ (l : List (Pass Job JobLog)). length l) c;
    each = λ k q s r e f g. absurd (cc (sym (ap (λ (l : List (Queue Q A)). slice_get l k) a) ∙ e));
  }

  pub lines_more : (n : ℕ) (queues : List (Queue Q A)) (senders receivers : List (Pass Job JobLog)) (queue : Queue Q A)
      (sender receiver : Pass Job JobLog) → AreLines n queues senders receivers → IsLine queue sender receiver
      → AreLines (n + 1) (queues ++ queue ∷ []) (senders ++ sender ∷ []) (receivers ++ receiver ∷ [])
  lines_more n queues senders receivers queue sender receiver was one = record {
    queues_many = (let a = length-append queues (queue ∷ []) in let b = was.queues_many in omega (arith, a, b));
    senders_many = (let a = length-append senders (sender ∷ []) in let b = was.senders_many in omega (arith, a, b));
    receivers_many =
        (let a = length-append receivers (receiver ∷ []) in let b = was.receivers_many in omega (arith, a, b));
    each = λ k q s r e f g.
        (let x = was.queues_many in let y = was.senders_many in let z = was.receivers_many in
        elim (get_push queues queue q k e) [
          | inl a ↦
              (let lt = a.0 in
              was.each k q s r a.1 (before_end senders sender s k f (omega (arith, lt, x, y)))
              (before_end receivers receiver r k g (omega (arith, lt, x, z))))
          | inr b ↦
              (let is = b.0 in
              subst (λ (t : Queue Q A × (Pass Job JobLog × Pass Job JobLog)). IsLine t.0 t.1.0 t.1.1)
              (λ i. (
                b.1 i,
                (
                  at_end senders sender s k f (omega (arith, is, x, y)) i,
                  at_end receivers receiver r k g (omega (arith, is, x, z)) i,
                ),
              )) one)
        ]);
  }

  pub lines_pushed : (n : ℕ) (queues qs : List (Queue Q A)) (senders ss receivers rs : List (Pass Job JobLog))
      (queue : Queue Q A) (sender receiver : Pass Job JobLog) → AreLines n queues senders receivers
      → IsLine queue sender receiver → qs ≡ queues ++ queue ∷ [] → ss ≡ senders ++ sender ∷ []
      → rs ≡ receivers ++ receiver ∷ [] → AreLines (n + 1) qs ss rs
  lines_pushed n queues qs senders ss receivers rs queue sender receiver was one a b c =
      subst (λ (t : List (Queue Q A) × (List (Pass Job JobLog) × List (Pass Job JobLog))).
      AreLines (n + 1) t.0 t.1.0 t.1.1)
      (λ i. (sym a i, (sym b i, sym c i)))
      (lines_more n queues senders receivers queue sender receiver was one)

module _ (cutter : ℕ) (seats : List PoolSeat) (receivers : List (Pass Job JobLog)) where
  pub new_none : (workers : List Worker) → workers ≡ [] → AreNewWorkers cutter seats receivers 0 workers
  new_none workers none = record {
    many = ap (λ (l : List Worker). length l) none;
    each = λ k w e. absurd (cc (sym (ap (λ (l : List Worker). slice_get l k) none) ∙ e));
  }

  pub new_more : (n : ℕ) (workers : List Worker) (w : Worker) (seat : PoolSeat) (jobs : Pass Job JobLog)
      → AreNewWorkers cutter seats receivers n workers → slice_get seats n ≡ Some seat
      → slice_get receivers n ≡ Some jobs → IsNewWorker cutter n seat jobs w
      → AreNewWorkers cutter seats receivers (n + 1) (workers ++ w ∷ [])
  new_more n workers w seat jobs was seat_at jobs_at one = record {
    many = (let a = length-append workers (w ∷ []) in let b = was.many in omega (arith, a, b));
    each = λ k x e.
        elim (get_push workers w x k e) [
          | inl a ↦ was.each k x a.1
          | inr b ↦
              (let at : n ≡ k = (let is = b.0 in let m = was.many in omega (arith, is, m)) in (
                seat,
                (
                  jobs,
                  (
                    ap (λ (j : ℕ). slice_get seats j) (sym at) ∙ seat_at,
                    ap (λ (j : ℕ). slice_get receivers j) (sym at) ∙ jobs_at,
                    subst (λ (t : ℕ × Worker). IsNewWorker cutter t.0 seat jobs t.1) (λ i. (at i, b.1 i)) one,
                  ),
                ),
              ))
        ];
  }
