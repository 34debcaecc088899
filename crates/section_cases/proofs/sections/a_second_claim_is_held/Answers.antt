use Rattle.std.proofs.Common.{◌≡◌, ◌∷◌, ◌++◌, [], List, length, sym, ap, ◌∙◌, subst, arith}
use Rattle.step_law.specs.Settings.{Setting}
use Rattle.std.specs.Prelude.{Option, Some, None, IfSome}
use Rattle.pool_law.specs.declared.note.Noted.{Noted}
use Rattle.pool_law.specs.declared.note.Did.TheVariants.{Handle}
use Rattle.pool_law.specs.declared.note.Object.{Object}
use Rattle.pool_law.specs.Naming.{noted_by}
use Rattle.pool_table.specs.Seats.{view_of}
use Rattle.pool_table.specs.declared.table.Section.{Section}
use Rattle.pool_table.specs.declared.table.HomeSlot.{HomeSlot}
use Rattle.pool_table.specs.Sections.{IsInside}
use Rattle.section_cases.specs.declared.diary.Diary.{Diary}
use Rattle.section_cases.proofs.Trials.{none_of, first_handle}
use Rattle.section_cases.proofs.sections.a_second_claim_is_held.Goals as goal

pub done-noted_at-requires-clause-section : goal.done-noted_at-requires-clause-section
done-noted_at-requires-clause-section g c =
    let got = c.in-Ok.ensures.got in let first = c.in_ok-table.ensures.first in let shape =
    c.in_ok-table.field-0.table.layout.shape in
    let h : List Noted = got.history in let items : List Noted = c.in-Ok.section.home.notes.items in
    let known : (view_of c.in_ok-table.field-0.first).setting ≡ Some first.0 = ap (λ m. m.0.setting) first.1.1 in
    let numbered : (view_of c.in_ok-table.field-0.first).own.number ≡ Some 0 = ap (λ m. m.0.own.number) first.1.1 in
    let number : (view_of c.claim.new.seat).own.number ≡ Some 0 = ap (λ v. v.own.number) got.view ∙ numbered in
    let stood : items ≡ h = subst (λ (y : Option Setting). IfSome y (λ (g : Setting). items ≡ h)) known
    got.learned.stands_for in
    let len : length items ≡ 0 = (let a = c.if-before-gt0.false in let b = c.count-before.ensures.count in omega
    (arith, a, b)) in
    let still : c.count-before.new.section ≡ c.in-Ok.section = c.count-before.ensures.same in
    let object = c.write.ensures.same.0 ∙ ap (λ (x : Section Diary). x.object) still ∙ got.object in
    let slot = c.write.ensures.same.1 ∙ ap (λ (x : Section Diary). x.slot) still in
    let n : Noted = record { did = Handle 0; lane = None; watch = None; root = None; region = None } in record {
      history = h;
      inside =
          subst (λ (y : Object × HomeSlot). IsInside shape c.claim.new.seat.seat.me y.0 y.1 h)
          (λ q. (sym object q, sym slot q)) got.inside;
      follows =
          first_handle shape c.write.new.section.object h (view_of c.claim.new.seat).own.number
          (ap (λ l. l.shape.handles) c.in_ok-table.ensures.layout) object (sym stood ∙ none_of items len);
      stands_for = record {
        setting = first.0;
        known = ap (λ v. v.setting) got.view ∙ known;
        stands_for = c.in-Ok-write.ensures.written
            ∙ ap (λ (x : Section Diary). x.home.notes.items ++ noted_by (Some 0) n ∷ []) still
            ∙ (λ q. stood q ++ noted_by (sym number q) n ∷ []);
      };
    }
