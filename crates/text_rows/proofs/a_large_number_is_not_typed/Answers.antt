-- Its chunk has as many free bytes as there are numbers of 32 bits.
use Rattle.std.proofs.Common.{arith, ◌<◌, ◌^◌}
use Rattle.std.proofs.lemmas.List.Elements.{All-get_or}
use Rattle.pool_law.specs.declared.report.ListName.{ListName}
use Rattle.definition_rows.specs.Notes.{chunk_end}
use Rattle.run_text.specs.Ending.{FitsChunk}
use Rattle.text_rows.specs.Outsized.{outsized}
use Rattle.text_rows.proofs.a_large_number_is_not_typed.Goals as goal

pub returns : goal.returns
returns c =
    record {
      untyped = λ t.
          let fits : FitsChunk (chunk_end 0 ListName.QInit 8192 (2 ^ 32)) =
          All-get_or FitsChunk outsized.chunks 0 (chunk_end 0 ListName.QInit 8192 (2 ^ 32)) (omega arith) t.chunks in
          let free : 2 ^ 32 < 2 ^ 32 = fits.3 in
          omega (arith, free);
    }
