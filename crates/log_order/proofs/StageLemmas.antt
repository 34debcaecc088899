-- A note that must stand before another is of a stage that this one wants.
use Rattle.std.proofs.Common.{inl, inr, ◌⊎◌, ◌≡◌, ℕ, ◌+◌, ◌-◌, Bool, true, Some, None, refl, sym, ap, subst, arith, ◌∙◌, eqb-true}
use Rattle.std.specs.Prelude.{not, nat_lt, if◌then◌else◌}
use Rattle.std.proofs.lemmas.Bool.Decides.{nat_tests}
use Rattle.pool_law.specs.declared.id.RootId.{RootId}
use Rattle.pool_law.specs.declared.note.Object.{Object}
use Rattle.pool_law.specs.declared.note.Did.{Did}
use Rattle.pool_law.specs.declared.note.RefDid.{RefDid}
use Rattle.pool_law.specs.declared.note.RefDid.TheVariants.{Born, Retain, Kept, Ended, Vacated, Look}
use Rattle.pool_law.specs.declared.note.Note.{Note}
use Rattle.pool_law.specs.declared.note.Note.TheVariants.{At, Ref, Busy}
use Rattle.pool_law.specs.Kinds.{Passing, Stays, Goes, Comes, passing}
use Rattle.pool_law.specs.Logs.{has_history}
use Rattle.pool_law.proofs.SameLemmas.{and-first, and-second, same_object-is, same_root-is}
use Rattle.run_order.proofs.Fronts.{by-test}
use Rattle.log_order.specs.Precedence.{hands_over, at_precedes, is_birth, is_end, ref_precedes, note_precedes}
use Rattle.log_order.specs.Tallying.{way_of, way_key, root_key, born_kind, retain_kind}
use Rattle.log_order.specs.Staging.{mark_kind, at_kind, stage_of, stage_before, post_of, first_want, second_want}

-- this one wants the stage of that one
abbrev pub Wants : Note → Note → Type 0
Wants b a = (first_want b ≡ Some (stage_of a)) ⊎ (second_want b ≡ Some (stage_of a))

above-none : (m n : ℕ) → m + 1 ≡ n → nat_lt 0 n ≡ true
above-none m n e = grind (arith, nat_tests)

before-is : (kind : ℕ) (object : Object) (m n : ℕ) → m + 1 ≡ n
    → stage_before kind object n ≡ Some (way_key kind object, m)
before-is kind object m n e =
    let some = above-none m n e in
    let less : n - 1 ≡ m = omega (arith, e) in
    ap (λ (b : Bool). if b then Some (way_key kind object, n - 1) else None) some
    ∙ ap (λ k. Some (way_key kind object, k)) less

post-is : (mail : Object) (m n : ℕ) (p q : Passing) → hands_over p q ≡ true → m ≡ n
    → post_of mail n q ≡ Some (way_key (way_of p) mail, m)
post-is mail m n (Goes p) (Comes q) both e = ap (λ k. Some (way_key 1 mail, k)) (sym e)
post-is mail m n Stays q both e = absurd (cc both)
post-is mail m n (Comes p) q both e = absurd (cc both)
post-is mail m n (Goes p) Stays both e = absurd (cc both)
post-is mail m n (Goes p) (Goes q) both e = absurd (cc both)

at-wants : (object : Object) (m n : ℕ) (d e : Did)
    → at_precedes (has_history object) m (passing d) n (passing e) ≡ true
    → first_want (At object n e) ≡ Some (stage_of (At object m d))
at-wants object m n d e why =
    by-test
    (λ z. at_precedes z m (passing d) n (passing e) ≡ true
    → (if z then stage_before 0 object n else post_of object n (passing e))
    ≡ Some (way_key (if z then 0 else way_of (passing d)) object, m))
    (has_history object)
    (λ _ next. before-is 0 object m n (eqb-true (m + 1) n next))
    (λ _ both. post-is object m n (passing d) (passing e) (and-first _ _ both) (eqb-true m n (and-second _ _ both)))
    why

at-kind : (object : Object) (did : Did) → has_history object ≡ true → at_kind object did ≡ 0
at-kind object did has = ap (λ (b : Bool). if b then 0 else way_of (passing did)) has

mark-wants : (object : Object) (n number : ℕ) (d : Did) → has_history object ≡ true → n ≡ number
    → (if has_history object then Some (way_key 0 object, number) else None) ≡ Some (stage_of (At object n d))
mark-wants object n number d has same =
    ap (λ (b : Bool). if b then Some (way_key 0 object, number) else None) has
    ∙ (λ i. Some (way_key (sym (at-kind object d has) i) object, sym same i))

behind-mark : (object : Object) (n number : ℕ) → has_history object ≡ true → number + 1 ≡ n
    → (if has_history object then stage_before mark_kind object n else None)
    ≡ Some (way_key mark_kind object, number)
behind-mark object n number has next =
    ap (λ (b : Bool). if b then stage_before mark_kind object n else None) has
    ∙ before-is mark_kind object number n next

-- of steps on one count the birth is wanted first, and those that count by the end
birth-wants : (root : RootId) (e : RefDid) → not (is_birth e) ≡ true
    → first_want (Ref root e) ≡ Some (root_key born_kind root, 0)
birth-wants root Born e = absurd (cc e)
birth-wants root Retain e = refl
birth-wants root Kept e = refl
birth-wants root Ended e = refl
birth-wants root Vacated e = refl
birth-wants root (Look found) e = refl

end-wants : (root : RootId) (e : RefDid) → is_end e ≡ true
    → second_want (Ref root e) ≡ Some (root_key retain_kind root, 0)
end-wants root e is = ap (λ (b : Bool). if b then Some (root_key retain_kind root, 0) else None) is

ref-wants : (root : RootId) (d e : RefDid) → ref_precedes d e ≡ true → Wants (Ref root e) (Ref root d)
ref-wants root Born e why = inl (birth-wants root e why)
ref-wants root Retain e why = inr (end-wants root e why)
ref-wants root Kept e why = inr (end-wants root e why)
ref-wants root (Look found) e why = inr (end-wants root e why)
ref-wants root Ended e why = absurd (cc why)
ref-wants root Vacated e why = absurd (cc why)

pub wanted : (a b : Note) → note_precedes a b ≡ true → Wants b a
wanted (At a m d) (At b n e) why =
    let one : a ≡ b = same_object-is a b (and-first _ _ why) in
    subst (λ z. Wants (At z n e) (At a m d)) one
    (inl (at-wants a m n d e (and-second _ _ why)))
wanted (At a n d) (Busy held) why =
    let one : a ≡ held.object = same_object-is a held.object (and-first _ _ why) in
    let rest = and-second _ _ why in
    subst (λ z. Wants (Busy held) (At z n d)) (sym one)
    (inl (mark-wants held.object n held.number d (ap has_history (sym one) ∙ and-first _ _ rest)
    (eqb-true n held.number (and-second _ _ rest))))
wanted (Busy held) (At b n e) why =
    let one : held.object ≡ b = same_object-is held.object b (and-first _ _ why) in
    let rest = and-second _ _ why in
    subst (λ z. Wants (At z n e) (Busy held)) one
    (inr (behind-mark held.object n held.number (and-first _ _ rest)
    (eqb-true (held.number + 1) n (and-second _ _ rest))))
wanted (Ref r d) (Ref s e) why =
    let one : r ≡ s = same_root-is r s (and-first _ _ why) in
    subst (λ z. Wants (Ref z e) (Ref r d)) one (ref-wants r d e (and-second _ _ why))
wanted (At a m d) (Ref s e) why = absurd (cc why)
wanted (Busy held) (Busy other) why = absurd (cc why)
wanted (Busy held) (Ref s e) why = absurd (cc why)
wanted (Ref r d) (At b n e) why = absurd (cc why)
wanted (Ref r d) (Busy held) why = absurd (cc why)
