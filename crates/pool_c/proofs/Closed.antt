-- How the threads behind handles are told to be all of a pool.
use Rattle.std.proofs.Common.{◌≡◌, ℕ, ◌<◌, List, [], ◌∷◌, length, map, Some, refl, sym, ap, ◌∙◌, subst}
use Rattle.std.specs.Prelude.{slice_get}
use Rattle.std.proofs.lemmas.Option.{slice_get_within}
use Rattle.std.proofs.lemmas.List.{length-map}
use Rattle.pool_member.specs.declared.member.Member.{Member}
use Rattle.pool_c.specs.declared.handle.PoolThread.{PoolThread}
use Rattle.pool_c.specs.declared.held.Common.{Common}
use Rattle.pool_c.specs.Closing.{AreKnown, AreOf, AreOne, AreWhole, HaveNumbers, members_of}
use Rattle.pool_c.specs.Holding.{behind, Holding}
use Rattle.pool_c.specs.Opening.{ArePut}
use Rattle.pool_c.proofs.Places.{all_of, at_all, map_map, map_same, of_map}
use Rattle.pool_law.proofs.ListLemmas.{get-map}

module _ (name threads : ℕ) (hs : List Holding) where
  abbrev Fits : Type 0
  Fits = (k : ℕ) (h : Holding) → k < threads → slice_get hs k ≡ Some h → (h.common.name ≡ name) ×
      (h.member.account.lane ≡ k)

  pub have_numbers : length hs ≡ threads → Fits → HaveNumbers name threads hs
  have_numbers many fits = record {
    names =
        all_of (λ (h : Holding). h.common.name ≡ name) hs (λ k h e.
        (fits k h (subst (λ n. k < n) many (slice_get_within hs k h e)) e).0);
    all = record {
      many = length-map hs (λ (h : Holding). h.member) ∙ many;
      each = λ k m e.
          let h = of_map (λ (h : Holding). h.member) hs k m e in
          subst (λ (x : Member). x.account.lane ≡ k) (sym h.2)
          (fits k h.0 (subst (λ n. k < n) many (slice_get_within hs k h.0 h.1)) h.1).1;
    };
  }

  pub their_number : HaveNumbers name threads hs → (k : ℕ) (h : Holding) → slice_get hs k ≡ Some h
      → (h.common.name ≡ name) × (h.member.account.lane ≡ k)
  their_number have k h e = (
    at_all (λ (x : Holding). x.common.name ≡ name) hs k h have.names e,
    have.all.each k h.member (get-map (λ (x : Holding). x.member) hs k h e),
  )

-- the threads of one name behind handles have one pool in common
pub one_pool : (threads : List PoolThread) (hs : List Holding) → AreKnown threads → ArePut hs threads → AreWhole hs
    → AreOne hs
one_pool threads [] known put whole = absurd whole
one_pool threads (h ∷ hs) known put whole = record {
  common = h.common;
  of = all_of (λ (g : Holding). g.common ≡ h.common) (h ∷ hs) (λ k g e.
      let s = at_handle k g e in let t = at_handle 0 h refl in
      known k 0 s.0 t.0 g h s.1 t.1 (sym s.2) (sym t.2)
      (at_all (λ (x : Holding). x.common.name ≡ h.common.name) (h ∷ hs) k g whole.names e));
}
  where
    at_handle : (k : ℕ) (g : Holding) → slice_get (h ∷ hs) k ≡ Some g
        → (t : PoolThread) × (slice_get threads k ≡ Some t) × (Some g ≡ t.slot.held)
    at_handle k g e =
        of_map (λ (t : PoolThread). t.slot.held) threads k (Some g)
        (subst (λ xs. slice_get xs k ≡ Some (Some g)) (sym put.held) (get-map Some (h ∷ hs) k g e))

-- the members behind which the pool is
pub members_back : (c : Common) (ms : List Member) (hs : List Holding) → map (behind c) ms ≡ hs → members_of hs ≡ ms
members_back c ms hs e =
    ap members_of (sym e) ∙ map_map (behind c) (λ (h : Holding). h.member) (λ m. m) ms (λ m. refl)
    ∙ map_same (λ m. m) ms (λ m. refl)

pub all_have : (c : Common) (ms : List Member) (hs : List Holding) → map (behind c) ms ≡ hs → AreOf c hs
all_have c ms hs e = subst (AreOf c) e (all_of (λ (h : Holding). h.common ≡ c) (map (behind c) ms) (λ k h at.
    ap (λ (x : Holding). x.common) (of_map (behind c) ms k h at).2))
