-- The release that ends the root, and what the seat notes then.
use Rattle.std.proofs.Common.{◌≡◌, ◌≢◌, ℕ, ◌+◌, ◌-◌, ◌*◌, ◌^◌, ◌<◌, ◌≤◌, ◌⊎◌, Bool, true, false, ◌&&◌, ◌||◌, List, [], ◌∷◌, ◌++◌, map, refl, sym, ap, ◌∙◌, subst, ⊎_elim, arith, Some, None, eq-eqb}
use Rattle.std.specs.Prelude.{◌==◌, if◌then◌else◌}
use Rattle.pool_law.specs.declared.id.RootId.{RootId}
use Rattle.pool_law.specs.declared.note.Did.{Did}
use Rattle.pool_law.specs.declared.note.Note.{Note}
use Rattle.pool_law.specs.declared.note.Note.TheVariants.{At, Ref, Busy}
use Rattle.pool_law.specs.declared.note.Object.{Object}
use Rattle.pool_law.specs.declared.note.RefDid.TheVariants as steps
use Rattle.pool_law.specs.Counts.{is_born, is_retain, is_release}
use Rattle.pool_law.specs.Logs.{own_note}
use Rattle.pool_law.proofs.HistoryLemmas.{append-assoc}
use Rattle.pool_law.proofs.PatternLemmas.{same_root-refl}
use Rattle.pool_table.specs.declared.roots.EndToken.{EndToken}
use Rattle.shared_pool.specs.declared.pool.SharedPool.{SharedPool}
use Rattle.shared_pool.specs.Seats.{IsPoolSeat}
use Rattle.seat_work.specs.Answers.{with_token}
use Rattle.seat_work.specs.Changes.{no_change}
use Rattle.seat_work.specs.Growth.{how_many}
use Rattle.seat_work.specs.Hands.{empty_hand}
use Rattle.seat_work.specs.Works.{Works, Proceeds}
use Rattle.seat_work.proofs.Proceeding.{goes_on, works_after}
use Rattle.counted_view.specs.declared.calls.NestCall.TheVariants as accepted
use Rattle.counted_view.specs.Nests.{NestState, after_call, held_view, root_counts, live_slices, release_no}
use Rattle.counted_view.specs.NestSeats.{CountsRoot, IsReleasedIf}
use Rattle.nest_run.specs.declared.calls.Call.TheVariants.{Release}
use Rattle.nest_run.specs.declared.replies.Reply.TheVariants as replies
use Rattle.nest_run.specs.declared.views.Playing.{Playing}
use Rattle.nest_run.specs.Plays.{let_go, released}
use Rattle.nest_run.specs.Standing.{log_of, dids_of, Leave, IsWhole, HasBytes, stage_of, Stands, IsPlayed, HasEnded, is_elsewhere}
use Rattle.nest_run.proofs.LogLaws.{whole_before, bytes_kept, bytes_ended, leave_same}
use Rattle.nest_run.proofs.SeatLogs.{Last, ended}
use Rattle.nest_run.proofs.PlayLaws.{stands_after, release_step}

-- ---- The root's end.

elsewhere_none : (n : Note) → is_elsewhere n ≡ true → own_note (Object.Root 0) n ≡ []
elsewhere_none (At (Object.Arena number) k did) e = refl
elsewhere_none (At (Object.Cache lane class) k did) e = absurd (cc e)
elsewhere_none (At (Object.Bin lane) k did) e = refl
elsewhere_none (At (Object.Mail from to) k did) e = absurd (cc e)
elsewhere_none (At (Object.Root place) k did) e = absurd (cc e)
elsewhere_none (Ref root did) e = absurd (cc e)
elsewhere_none (Busy held) e = absurd (cc e)

-- notes that bring no count and take none
record IsCountless (root : RootId) (n : Note) : Type 0 where
  pub born : is_born root n ≡ false
  pub retained : is_retain root n ≡ false
  pub released : is_release root n ≡ false

elsewhere_countless : (root : RootId) (n : Note) → is_elsewhere n ≡ true → IsCountless root n
elsewhere_countless root (At object k did) e = record { born = refl; retained = refl; released = refl }
elsewhere_countless root (Ref r did) e = absurd (cc e)
elsewhere_countless root (Busy held) e = absurd (cc e)

vacated_countless : (root : RootId) → IsCountless root (Ref root steps.Vacated)
vacated_countless root = record { born = refl; retained = refl; released = vacated (same_root-refl root) }
  where
    vacated : {b : Bool} → b ≡ true → (b && false) ≡ false
    vacated {b} e = ap (λ (t : Bool). t && false) e

-- the notes of the end
abbrev end_notes : RootId → ℕ → Note → Note → List Note
end_notes root k first second =
    At (Object.Root root.place) k (Did.End root) ∷ Ref root steps.Vacated ∷ first ∷ second ∷ []

four_none : (test : Note → Bool) (a b c d : Note) → test a ≡ false → test b ≡ false → test c ≡ false → test d ≡ false
    → how_many test (a ∷ b ∷ c ∷ d ∷ []) ≡ 0
four_none test a b c d p q r s =
    (λ i. (if p i then 1 else 0) + ((if q i then 1 else 0) + ((if r i then 1 else 0) + ((if s i then 1 else 0) + 0))))

end_leaves : (log : List Note) (root : RootId) (k n : ℕ) (first second : Note) → is_elsewhere first ≡ true
    → is_elsewhere second ≡ true → Leave log root n → Leave (log ++ end_notes root k first second) root n
end_leaves log root k n first second e f left =
    let over : Note = At (Object.Root root.place) k (Did.End root) in let vacated : Note = Ref root steps.Vacated in
    let v = vacated_countless root in let a = elsewhere_countless root first e in
    let b = elsewhere_countless root second f in
    leave_same log (end_notes root k first second) root n
    (four_none (is_born root) over vacated first second refl v.born a.born b.born)
    (four_none (is_retain root) over vacated first second refl v.retained a.retained b.retained)
    (four_none (is_release root) over vacated first second refl v.released a.released b.released) left

rest_quiet : (root : RootId) (first second : Note) → is_elsewhere first ≡ true → is_elsewhere second ≡ true
    → dids_of (Ref root steps.Vacated ∷ first ∷ second ∷ []) ≡ []
rest_quiet root first second e f =
    (λ i. map_snd (elsewhere_none first e i ++ (elsewhere_none second f i ++ [])))
  where
    map_snd : List (ℕ × Did) → List Did
    map_snd xs = map (λ (x : ℕ × Did). x.1) xs

-- no bytes are left behind it
end_bytes : (log : List Note) (root : RootId) (k : ℕ) (first second : Note) (bytes : List ℕ) → root.place ≡ 0
    → is_elsewhere first ≡ true → is_elsewhere second ≡ true
    → HasBytes (log ++ end_notes root k first second) bytes
end_bytes log root k first second bytes place e f =
    let rest : List Note = Ref root steps.Vacated ∷ first ∷ second ∷ [] in
    subst (λ (p : ℕ). HasBytes (log ++ At (Object.Root p) k (Did.End root) ∷ rest) bytes) (sym place)
    (subst (λ (ns : List Note). HasBytes ns bytes) (append-assoc log (At (Object.Root 0) k (Did.End root) ∷ []) rest)
    (bytes_kept (log ++ At (Object.Root 0) k (Did.End root) ∷ []) rest bytes (rest_quiet root first second e f)
    (bytes_ended log k root bytes)))

module _ (pool : SharedPool) (old mid new : Playing) (of count : ℕ) (st : Stands pool 1 old)
    (same : new.root ≡ old.root)
    (why : release_no (held_view old.nest of) ≡ None) (after : mid.nest ≡ after_call old.nest (accepted.Release of))
    (some : 0 < root_counts old.nest) (sum : count + live_slices mid.nest ≡ live_slices old.nest)
    (still : new.nest ≡ mid.nest) (seat : IsPoolSeat pool mid.seat) (counts : CountsRoot mid.nest mid.seat)
    (token : EndToken) (lost : Bool) (did : IsReleasedIf lost old.nest.root (Some token) old.seat mid.seat) where
  pub root_same : mid.nest.root ≡ old.nest.root
  root_same = ap (λ (s : NestState). s.root) after

  pub last : Last pool old.nest mid.nest old.seat mid.seat st.works seat root_same st.counts counts some token
  last = ended pool old.nest mid.nest old.seat mid.seat st.works seat root_same st.counts counts some lost token did

  -- the seat may end the root
  pub end_works : Works pool (with_token token.root) 4 0 mid.seat
  end_works =
      subst (λ (r : RootId). Works pool (with_token r) 4 0 mid.seat) (sym last.root_is)
      (works_after pool empty_hand (with_token old.nest.root) 4 1 0 0 4 0 old.seat mid.seat st.works
      last.proceeds.goes (omega arith) (omega arith))

  pub ended_played : Proceeds pool empty_hand 4 0 no_change mid.seat new.seat → HasEnded token.root mid.seat new.seat
      → IsPlayed pool (Release of) old (let_go count true) new
  ended_played on end =
      let root : RootId = old.nest.root in let is = last.root_is in
      let notes : List Note = end_notes root end.number end.first end.second in
      let log : log_of new.seat ≡ log_of mid.seat ++ notes =
      end.notes ∙ ap (λ (r : RootId). log_of mid.seat ++ end_notes r end.number end.first end.second) is in
      let goes = goes_on pool (with_token root) empty_hand 0 0 4 0 4 1 old.seat mid.seat new.seat last.proceeds.goes
      on.goes (omega arith) (omega arith) in
      let after_end : new.nest ≡ after_call old.nest (accepted.Release of) = still ∙ after in
      let now : CountsRoot mid.nest new.seat =
      (let a = on.changes.counts mid.nest.root in let b = counts in omega (arith, a, b)) in
      let counted : CountsRoot new.nest new.seat =
      subst (λ (s : NestState). CountsRoot s new.seat) (sym still) now in
      let whole_mid = λ (w : IsWhole (log_of new.seat)).
      whole_before (log_of mid.seat) notes (subst IsWhole log w) in
      record {
        next = λ calls from. stands_after pool old new calls from goes counted same
            (λ left. subst (λ (ns : List Note). Leave ns root (root_counts new.nest)) (sym log)
            (end_leaves (log_of mid.seat) root end.number (root_counts new.nest) end.first end.second
            end.first_is end.second_is
            (subst (λ (s : NestState). Leave (log_of mid.seat) root (root_counts s)) (sym still) (last.leave left))))
            (accepted.Release of) after_end;
        whole = λ w. whole_before (log_of old.seat) (Ref root steps.Ended ∷ []) (subst IsWhole last.log (whole_mid w));
        right = λ w bytes has. record {
          then_bytes = bytes;
          step_is =
              release_step old.nest mid.nest of count true bytes why after sum
              (eq-eqb (root_counts mid.nest) 0 (last.last st.leave (whole_mid w)))
              ∙ ap (λ (s : NestState). (let_go count true, stage_of s bytes)) (sym still);
          has = subst (λ (ns : List Note). HasBytes ns bytes) (sym log)
              (end_bytes (log_of mid.seat) root end.number end.first end.second bytes st.place
              end.first_is end.second_is);
        };
      }
