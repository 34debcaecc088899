-- The ends of a new pool's mails, as they are named and dealt.
use Rattle.std.proofs.Common.{◌≡◌, ℕ, ◌+◌, ◌*◌, ◌≤◌, [], ◌∷◌, ◌++◌, length, get_or, sym, ap, ◌∙◌, subst, refl, arith, Bool, true, false}
use Rattle.std.specs.Prelude.{Some, slice_get, ◌==◌, if◌then◌else◌, vec_capacity}
use Rattle.std.specs.Global.{Vec}
use Rattle.std.proofs.lemmas.Option.{get_or_from_slice_get}
use Rattle.std.proofs.lemmas.List.{length_push}
use Rattle.atomic_table.specs.Seated.{TableId}
use Rattle.crossbeam_queue.specs.Passes.{view, IsPassOf}
use Rattle.shared_pool.specs.declared.mail.Mail.{Mail}
use Rattle.shared_pool.specs.declared.pool.SharedPool.{SharedPool}
use Rattle.shared_pool.specs.MailEnds.{no_ends, receiver, sender}
use Rattle.shared_pool.specs.Mails.{IsPostsEnd, IsFetchesEnd, carried, table_of}
use Rattle.shared_pool.specs.Dealing.{IsColumn, IsFirstPass}
use Rattle.shared_pool.proofs.Dealings.{holds_push}
use Rattle.shared_pool.proofs.NewMails.{EndPass}

-- nothing went by a mail yet
carried_none : (m : Mail) → carried m 0 ≡ 0
carried_none m = go (m.room == 0)
  where
    go : (b : Bool) → ◌≡◌ {A = ℕ} (if b then 0 else 0) 0
    go true = refl
    go false = refl

module _ (pool : SharedPool) (from to : ℕ) (m : Mail)
    (there : Some m ≡ slice_get pool.mails.items (from * pool.table.layout.shape.lanes + to)) where
  -- whatever stands for want of one, the mail stands there
  is : (d : Mail) → m ≡ get_or pool.mails.items (from * pool.table.layout.shape.lanes + to) d
  is d = sym (get_or_from_slice_get pool.mails.items (from * pool.table.layout.shape.lanes + to) m d (sym there))

  -- the pass there is the first one of the mail
  pub first_of_mail : (p : EndPass) → IsFirstPass pool.mails.items (from * pool.table.layout.shape.lanes + to) p
      → IsPassOf m.queue p × (view p ≡ no_ends)
  first_of_mail p first = subst (λ x. IsPassOf x.queue p × (view p ≡ no_ends)) (sym (is m)) (first m)

  -- what is named so is an end at which nothing went yet
  pub new_posts_end : (t : TableId) (p : EndPass) → t ≡ table_of pool
      → IsPassOf m.queue p × (view p ≡ sender t from to m.room 0) → IsPostsEnd pool from to [] p
  new_posts_end t p same named d =
      subst (λ x. IsPassOf x.queue p × (view p ≡ sender (table_of pool) from to x.room (carried x 0))) (is d)
      (named.0, named.1 ∙ (λ i. sender (same i) from to m.room (sym (carried_none m) i)))

  pub new_fetches_end : (t : TableId) (p : EndPass) → t ≡ table_of pool
      → IsPassOf m.queue p × (view p ≡ receiver t from to m.room 0) → IsFetchesEnd pool from to [] p
  new_fetches_end t p same named d =
      subst (λ x. IsPassOf x.queue p × (view p ≡ receiver (table_of pool) from to x.room (carried x 0))) (is d)
      (named.0, named.1 ∙ (λ i. receiver (same i) from to m.room (sym (carried_none m) i)))

-- a column with one end more
pub column_push : (pool : SharedPool) (count lane : ℕ) (old new : Vec EndPass) (p : EndPass)
    → IsColumn pool count lane old
    → IsFetchesEnd pool count lane [] p → new.items ≡ old.items ++ p ∷ [] → vec_capacity old ≤ vec_capacity new
    → IsColumn pool (count + 1) lane new
column_push pool count lane old new p column end is room =
    record {
      room = (let r = column.room in omega (arith, r, room));
      many = ap length is ∙ (length_push old.items p ∙ ap (λ n. n + 1) column.many);
      ends = holds_push (λ k. IsFetchesEnd pool k lane []) count old.items new.items p column.many column.ends end is;
    }
