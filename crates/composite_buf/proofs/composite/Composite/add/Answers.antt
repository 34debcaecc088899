use Rattle.std.proofs.Common.{◌≡◌, ◌+◌, ◌∷◌, ◌++◌, [], List, ℕ, length, arith, sym, ap, ◌∙◌, length-append}
use Rattle.std.proofs.lemmas.List.Elements.{All-push, All-same}
use Rattle.pool_law.specs.declared.id.Part.{Part}
use Rattle.pool_law.specs.Composites.{size_of}
use Rattle.composite_buf.specs.Maps.{Fits, byte_at}
use Rattle.composite_buf.specs.Ends.{ends_from}
use Rattle.composite_buf.proofs.MapLaws.{byte_at-more, same_size, size_of_more}
use Rattle.composite_buf.proofs.EndLaws.{ends_from-more, same_count}
use Rattle.composite_buf.proofs.composite.Composite.add.Goals as goal

pub push_reserved-requires : goal.push_reserved-requires
push_reserved-requires c =
    let count : length c.self.inside.ends.items ≡ length c.args.self.now =
    same_count c.self.inside.ends.items c.self.inside.parts.items c.args.self.now
    c.self.invariant.ends c.self.view_is in
    omega (arith, c.self.invariant.ends_room, c.self.inside.ends.ok.0, count, c.requires.count)

pub invariant_of-self : goal.invariant_of-self
invariant_of-self c =
    let old : List Part = c.self.inside.parts.items in
    let p : Part = c.args.part in
    let now : c.push_reserved-2.new.self.items ≡ old ++ p ∷ [] = c.push_reserved-2.ensures.items in
    let same : old ≡ c.args.self.now = c.self.view_is in
    let size : size_of old ≡ size_of c.args.self.now = same_size old c.args.self.now same in
    let more : size_of c.push_reserved-2.new.self.items ≡ size_of (old ++ p ∷ []) =
    same_size c.push_reserved-2.new.self.items (old ++ p ∷ []) now in
    let end : c.len.result + p.len ≡ 0 + size_of old + p.len = omega (arith, c.len.ensures.size, size) in
    record {
      ends = c.push_reserved.ensures.items
          ∙ ap (λ (es : List ℕ). es ++ (c.len.result + p.len) ∷ []) c.self.invariant.ends
          ∙ ap (λ (e : ℕ). ends_from 0 old ++ e ∷ []) end
          ∙ sym (ends_from-more 0 old p)
          ∙ sym (ap (ends_from 0) now);
      count = omega (arith, ap length now, length-append old (p ∷ []), ap length same, c.requires.count);
      size = omega (arith, more, size_of_more old p, size, c.requires.size);
      fits = All-same Fits c.push_reserved-2.new.self.items (old ++ p ∷ []) now
          (All-push Fits old p c.self.invariant.fits c.requires.fits);
      parts_room = omega (arith, c.self.invariant.parts_room, c.push_reserved-2.ensures.capacity);
      ends_room = omega (arith, c.self.invariant.ends_room, c.push_reserved.ensures.capacity);
    }

pub returns-clause-bytes : goal.returns-clause-bytes
returns-clause-bytes c = λ i.
    ap (λ (ps : List Part). byte_at ps i)
    (c.push_reserved-2.ensures.items ∙ ap (λ (ps : List Part). ps ++ c.args.part ∷ []) c.self.view_is)
    ∙ byte_at-more c.args.self.now c.args.part i
