-- An arena that is new, and its memory.
use Rattle.std.proofs.Common.{◌≡◌, ℕ, zero, suc, ◌*◌, ◌<◌, ◌≤◌, List, [], ◌∷◌, ◌++◌, length, get_or, replicate, refl, sym, ap, ◌∙◌, subst, Some, None, arith, add-one, inl, inr}
use Rattle.std.specs.Prelude.{◌⊎◌, Option, map, slice_get, All, option_map, if◌then◌else◌}
use Rattle.std.proofs.lemmas.Option.{slice_get-map, slice_get-get_or}
use Rattle.std.proofs.lemmas.List.{length-map, length-append, map-append, get_or_append_left, replicate-append-replicate}
use Rattle.std.proofs.Math.Seq.{get_or-append_seam}
use Rattle.size_classes.specs.Sizes.{Geometry, of_pages, IsGeometry, below, class_count, is_small, chunk_pages}
use Rattle.pool_law.specs.ChunkLists.{Lists, list_of, no_chunks}
use Rattle.pool_law.specs.Arenas.{new_arena}
use Rattle.pool_law.proofs.ListLemmas.{slice_get-below}
use Rattle.pool_law.proofs.NumberLemmas.{length-below}
use Rattle.arena_laws.proofs.ListSteps.{nowhere}
use Rattle.chunk_list.specs.Listing.{Listing, new_listing}
use Rattle.pool_arena.specs.Places.{PlaceState}
use Rattle.pool_arena.specs.SubpageLists.{SubpagesState}
use Rattle.pool_arena.specs.Stocks.{arena_in}
use Rattle.pool_arena.specs.Held.{stock_in, front_for, HasRoomAt, IsStock}
use Rattle.pool_arena.specs.declared.stock.ChunkStock.TheInside.{Inside}

-- ---- the last of a list

pub All-front : {X : Type 0} (P : X → Type 0) (xs ys : List X) (x : X) → ys ≡ xs ++ x ∷ [] → All P ys → All P xs
All-front P xs ys x is all k d less =
    let more : k < length ys = omega (arith, ap length is, length-append xs (x ∷ []), less) in
    let same : get_or ys k d ≡ get_or xs k d = ap (λ zs. get_or zs k d) is ∙ get_or_append_left xs (x ∷ []) d k less in
    subst P same (all k d more)

pub All-last : {X : Type 0} (P : X → Type 0) (xs ys : List X) (x : X) → ys ≡ xs ++ x ∷ [] → All P ys → P x
All-last P xs ys x is all =
    let more : length xs < length ys = omega (arith, ap length is, length-append xs (x ∷ [])) in
    let same : get_or ys (length xs) x ≡ x = ap (λ zs. get_or zs (length xs) x) is ∙ get_or-append_seam xs x [] x in
    subst P same (all (length xs) x more)

-- ---- lists of one thing

all-same : {X Y : Type 0} (f : X → Y) (y : Y) (xs : List X) → All (λ x. f x ≡ y) xs → map f xs ≡ replicate (length xs) y
all-same f y [] all = refl
all-same f y (x ∷ xs) all =
    (λ i. all 0 x (omega arith) i ∷ all-same f y xs (λ k d less. all (suc k) d (omega (arith, less))) i)

below-at : (n k d : ℕ) → k < n → get_or (below n) k d ≡ k
below-at zero k d less = absurd (omega arith)
below-at (suc n) k d less = by (last-or k n less) (below-at n k d)
  where
    last-or : (k n : ℕ) → k < suc n → (k < n) ⊎ (k ≡ n)
    last-or k n less = grind arith

    by : (k < n) ⊎ (k ≡ n) → (k < n → get_or (below n) k d ≡ k) → get_or (below n ++ n ∷ []) k d ≡ k
    by (inl lt) rest = get_or_append_left (below n) (n ∷ []) d k (omega (arith, length-below n, lt)) ∙ rest lt
    by (inr e) rest =
        let at : k ≡ length (below n) = e ∙ sym (length-below n) in
        ap (λ (j : ℕ). get_or (below n ++ n ∷ []) j d) at ∙ get_or-append_seam (below n) n [] d ∙ sym e

no-subpages : (g : Geometry) (room n : ℕ) → map (λ (f : SubpagesState). f.subpages) (map (front_for g room) (below n))
    ≡ replicate n []
no-subpages g room zero = refl
no-subpages g room (suc n) =
    ap (map (λ (f : SubpagesState). f.subpages)) (map-append (front_for g room) (below n) (n ∷ []))
    ∙ map-append (λ (f : SubpagesState). f.subpages) (map (front_for g room) (below n)) (front_for g room n ∷ [])
    ∙ ap (λ (xs : List (List (ℕ × ℕ))). xs ++ [] ∷ []) (no-subpages g room n)
    ∙ replicate-append-replicate n 1 [] ∙ ap (λ (k : ℕ). replicate k []) (add-one n)

-- the fronts at first have room
new-rooms : (g : Geometry) (room : ℕ) → HasRoomAt room g (map (front_for g room) (below (class_count g)))
new-rooms g room =
    record {
      count = length-map (below (class_count g)) (front_for g room) ∙ length-below (class_count g);
      room = λ class f small at.
          let less : class < class_count g =
          omega (
            arith,
            slice_get-below (map (front_for g room) (below (class_count g))) class f at,
            length-map
                (below (class_count g)) (front_for g room),
            length-below (class_count g),
          ) in
          let here : slice_get (map (front_for g room) (below (class_count g))) class ≡ Some (front_for g room class) =
          slice_get-map (front_for g room) (below (class_count g)) class
          ∙ ap (option_map (front_for g room))
          (slice_get-get_or (below (class_count g)) class 0 (omega (arith, length-below (class_count g), less))
          ∙ ap Some (below-at (class_count g) class 0 less)) in
          let both : ◌≡◌ {A = Option SubpagesState} (Some (front_for g room class)) (Some f) = sym here ∙ at in
          let same : front_for g room class ≡ f = cc both in
          let rooms : (if is_small g class then room else 0) ≡ room = ap (λ b. if b then room else 0) small in
          omega (arith, ap (λ (x : SubpagesState). x.room) same, rooms);
    }

-- ---- the arena

module _ (s : Inside) (order page chunks room : ℕ) (page_is : s.page ≡ page) (sizes : IsGeometry (of_pages order page))
    (some : 1 ≤ chunks) (few : chunks ≤ 8) (classes : s.classes ≡ of_pages order page)
    (lists : s.lists ≡ new_listing chunks) (count : length s.places.items ≡ chunks)
    (unused : All (λ (p : PlaceState). (p.geometry ≡ of_pages order page) × (p.chunk ≡ None)) s.places.items)
    (room_is : room ≡ chunks * chunk_pages (of_pages order page))
    (fronts : s.fronts.items ≡ map (front_for s.classes room) (below (class_count s.classes))) where
  no_lists : s.lists.lists ≡ no_chunks
  no_lists = ap (λ (l : Listing). l.lists) lists

  pub new-held : IsStock s
  new-held =
      record {
        least = subst (λ (g : Geometry). 3 ≤ g.order) (sym classes) sizes.least;
        order = subst (λ (g : Geometry). g.order ≤ 11) (sym classes) sizes.most;
        sizes = subst (λ (g : Geometry). IsGeometry g) (sym classes) sizes;
        page = page_is ∙ ap (λ (g : Geometry). g.page) (sym classes);
        few = (omega (arith, count, some), omega (arith, count, few));
        lists = ap (λ (l : Listing). l.places) lists ∙ sym count;
        places = λ k d less. (unused k d less).0 ∙ sym classes;
        fronts =
            subst (λ (fs : List SubpagesState). HasRoomAt (length s.places.items * chunk_pages s.classes) s.classes fs)
            (sym fronts)
            (subst (λ (n : ℕ). HasRoomAt n s.classes (map (front_for s.classes room) (below (class_count s.classes))))
            (room_is ∙ ap (λ (n : ℕ). n * chunk_pages (of_pages order page)) (sym count)
            ∙ ap (λ (g : Geometry). length s.places.items * chunk_pages g) (sym classes))
            (new-rooms s.classes room));
        settled =
            λ c name listed. absurd (cc (sym (nowhere c) ∙ ap (λ (l : Lists). list_of l c) (sym no_lists) ∙ listed));
      }

  pub new-state : arena_in (stock_in s) ≡ new_arena (of_pages order page) chunks
  new-state = λ i. record {
    chunks =
        (all-same (λ (p : PlaceState). p.chunk) None s.places.items (λ k d less. (unused k d less).1)
        ∙ ap (λ (n : ℕ). replicate n None) count) i;
    lists = no_lists i;
    fronts =
        (ap (map (λ (f : SubpagesState). f.subpages)) fronts ∙ no-subpages s.classes room (class_count s.classes)
        ∙ ap (λ (g : Geometry). replicate (class_count g) []) classes) i;
    takings = 0;
    out = [];
  }
