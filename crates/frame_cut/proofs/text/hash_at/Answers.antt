use Rattle.std.proofs.Common.{◌≡◌, ℕ, ◌/◌, ◌%◌, ◌<◌, length, sym, ap, ◌∙◌, subst, arith, Some}
use Rattle.std.specs.Prelude.{option_map, slice_get, slice_index_or}
use Rattle.std.proofs.lemmas.Option.{get_or_from_slice_get, slice_get-map, slice_get_within}
use Rattle.frame_hash.specs.declared.hashes.HashOf.{HashOf}
use Rattle.frame_hash.specs.Hashes.{hash_of}
use Rattle.frame_cut.proofs.ListSteps.{there}
use Rattle.frame_cut.proofs.text.hash_at.Goals as goal

pub index-requires : goal.index-requires
index-requires c =
    let r = c.requires in let told = c.args.told.now in let number = c.args.number in
    let w = c.len-workers.result in let list = c.index-list.result.now in let f = there r.0 number r.1.1 in
    let many : length told.hashes.items ≡ w =
    (let a = c.len-workers.ensures in let b = told.hashes.ok.0 in omega (arith, a, b)) in
    let held = subst (λ (k : ℕ). slice_get (slice_index_or told.hashes.items (number % k) list).items (number / k)
    ≡ Some (record { number = number; hash = hash_of f.0 })) many (r.1.0.each number f.0 f.1 list) in
    let here = subst (λ l. slice_get l.items (number / w) ≡ Some (record { number = number; hash = hash_of f.0 }))
    (sym c.index-list.ensures) held in
    let within = slice_get_within list.items (number / w) _ here in let b = list.ok.0 in omega (arith, within, b)

pub returns : goal.returns
returns c frames tells =
    let r = c.requires in let told = c.args.told.now in let number = c.args.number in
    let w = c.len-workers.result in let list = c.index-list.result.now in
    let inside : number < length frames =
    (let a = r.1.1 in let x = r.1.0.many in let y = tells.many in omega (arith, a, x, y)) in
    let f = there frames number inside in
    let many : length told.hashes.items ≡ w =
    (let a = c.len-workers.ensures in let b = told.hashes.ok.0 in omega (arith, a, b)) in
    let held = subst (λ (k : ℕ). slice_get (slice_index_or told.hashes.items (number % k) list).items (number / k)
    ≡ Some (record { number = number; hash = hash_of f.0 })) many (tells.each number f.0 f.1 list) in
    let here = subst (λ l. slice_get l.items (number / w) ≡ Some (record { number = number; hash = hash_of f.0 }))
    (sym c.index-list.ensures) held in
    let is = c.index.ensures ∙ get_or_from_slice_get list.items (number / w) _ c.index.result.now here in
    slice_get-map hash_of frames number ∙ ap (option_map hash_of) f.1 ∙ ap (λ (h : HashOf). Some h.hash) (sym is)
