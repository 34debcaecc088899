-- What each thread made of its work, all together.
use Rattle.std.proofs.Common.{◌≡◌, ℕ, zero, suc, ◌<◌, List, [], ◌∷◌, ◌++◌, length, take, drop, refl, sym, ap, subst, arith}
use Rattle.std.specs.Prelude.{slice_index_or}
use Rattle.std.specs.List.{AllZip}
use Rattle.pool_table.specs.declared.views.Layout.{Layout}
use Rattle.shared_pool.specs.declared.pool.SharedPool.{SharedPool}
use Rattle.pool_member.specs.declared.config.Config.{Config}
use Rattle.pool_member.specs.declared.member.Member.{Member}
use Rattle.pool_member.specs.Configs.{IsLayoutOf}
use Rattle.pool_member.specs.Opening.{AreNewThreads}
use Rattle.pool_member.specs.Threads.{IsThread}
use Rattle.buffer_pool.specs.Working.{Did, HasRun, HaveWorked}

-- what holds of the items of two lists at each place
all_zip : {X : Type 0} (R : X → X → Type 0) (xs ys : List X) → length ys ≡ length xs
    → ((k : ℕ) (d : X) → k < length xs → R (slice_index_or xs k d) (slice_index_or ys k d)) → AllZip R xs ys
all_zip R [] [] same each = tt
all_zip R [] (y ∷ ys) same each = absurd (omega (arith, same))
all_zip R (x ∷ xs) [] same each = absurd (omega (arith, same))
all_zip R (x ∷ xs) (y ∷ ys) same each =
    (each 0 x (omega arith), all_zip R xs ys (omega (arith, same)) (λ k d lt. each (suc k) d (omega (arith, lt))))

pub have_worked : (did : Did) (pool : SharedPool) (old new : List Member) → length new ≡ length old
    → ((k : ℕ) (d : Member) → k < length old → did pool (slice_index_or old k d) (slice_index_or new k d)
    × IsThread pool (slice_index_or new k d))
    → HaveWorked did pool old new
have_worked did pool old new same each = record {
  each = all_zip (did pool) old new same (λ k d lt. (each k d lt).0);
  threads = λ k d lt. (each k d (omega (arith, lt, same))).1;
}

-- the new threads of a pool with the layout that was asked
pub has_run : (did : Did) (c : Config) (pool : SharedPool) (l : Layout) (first after : List Member) → IsLayoutOf c l
    → pool.table.layout ≡ l → AreNewThreads l first → HaveWorked did pool first after → HasRun did c pool after
has_run did c pool l first after of is new worked = record {
  layout = subst (λ (x : Layout). IsLayoutOf c x) (sym is) of;
  first = first;
  new = subst (λ (x : Layout). AreNewThreads x first) (sym is) new;
  worked = worked;
}

taken : {X : Type 0} (n : ℕ) (xs ys : List X) → length xs ≡ n → take n (xs ++ ys) ≡ xs
taken zero [] ys same = refl
taken (suc n) [] ys same = absurd (omega (arith, same))
taken zero (x ∷ xs) ys same = absurd (omega (arith, same))
taken (suc n) (x ∷ xs) ys same = ap (λ zs. x ∷ zs) (taken n xs ys (omega (arith, same)))

-- a slice of all items of a list, written back into it
pub written_back : {X : Type 0} (n : ℕ) (xs ys : List X) → length xs ≡ n → take n (xs ++ drop (length xs) ys) ≡ xs
written_back n xs ys same = taken n xs (drop (length xs) ys) same
