use Rattle.std.proofs.Common.{rules, ◌≡◌, ◌+◌, ◌<◌, ◌≤◌, List, [], ◌∷◌, ◌++◌, length, map, take, refl, sym, ap, subst, arith, ◌∙◌}
use Rattle.std.specs.Prelude.{slice_get, Some}
use Rattle.std.proofs.lemmas.List.{take_more, take_all, length_push, length-take-le, map-append}
use Rattle.std.proofs.lemmas.Option.{slice_get_read}
use Rattle.pool_law.specs.declared.note.Note.{Note}
use Rattle.pool_law.specs.Logs.{entry_of}
use Rattle.lane_reader.specs.Reading.{entry, entries_in}
use Rattle.run_check.specs.Entering.{IsNotedIn}
use Rattle.run_check.proofs.EnteringLemmas.{entries-push}
use Rattle.run_check.proofs.entries.told_of_lane.Goals as goal

pub loop-note-preserved : goal.loop-note-preserved
loop-note-preserved c =
    let notes = c.args.notes.now in
    let i = c.loop-note.note-index in
    let note = c.note-item.result in
    let told = c.loop-note.told.items in
    let t = c.told_at.result in
    let there : i < length notes = search rules in
    let pushed : c.push.new.self.items ≡ told ++ t ∷ [] = c.in_ok-push.ensures.items in
    let front : take (i + 1) notes ≡ take i notes ++ note ∷ [] =
    take_more notes i note there ∙ ap (λ (n : Note). take i notes ++ n ∷ []) (sym c.note-item.is) in
    let as_many : length told ≡ i = c.loop-note.invariant.as_many in
    let same : length told ≡ length (take i notes) =
    as_many ∙ sym (length-take-le i notes (omega (arith, there))) in
    let longer : length (told ++ t ∷ []) ≡ length told + 1 = length_push told t in
    record {
      as_many = omega (arith, ap length pushed, longer, as_many);
      entries = λ shape logs lane are is.
          let noted : IsNotedIn logs note = (
            lane,
            i,
            subst (λ (ns : List Note). slice_get ns i ≡ Some note) is
                (slice_get_read notes (length notes) i note refl there c.note-item.is),
          ) in
          let one : entry note t ≡ entry_of logs note = c.told_at.ensures shape logs are noted in
          let before : entries_in (take i notes) told ≡ map (entry_of logs) (take i notes) =
          c.loop-note.invariant.entries shape logs lane are is in
          (λ k. entries_in (front k) (pushed k))
          ∙ entries-push (take i notes) told note t same
          ∙ (λ k. before k ++ one k ∷ [])
          ∙ sym (map-append (entry_of logs) (take i notes) (note ∷ []))
          ∙ ap (map (entry_of logs)) (sym front);
    }

pub returns : goal.returns
returns c shape logs lane are is =
    let notes = c.args.notes.now in
    let i = c.loop-note.note-index in
    let told = c.loop-note.told.items in
    let past : length notes ≤ i = search rules in
    let all : take i notes ≡ notes = take_all i notes past in (
      subst (λ (ns : List Note). entries_in ns told ≡ map (entry_of logs) ns) all
          (c.loop-note.invariant.entries shape logs lane are is),
      omega (arith, past, c.loop-note.invariant.as_many, c.loop-note.auto.note-index-end),
    )
