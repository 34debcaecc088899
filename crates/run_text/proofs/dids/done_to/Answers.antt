use Rattle.std.proofs.Common.{ap, ◌∙◌}
use Rattle.run_text.specs.Told.{kind_of}
use Rattle.run_text.proofs.dids.done_to.Goals as goal

pub returns-in-Arena : goal.returns-in-Arena
returns-in-Arena c = λ did more kind fits e. c.at_arena.ensures did more (kind ∙ ap kind_of c.in-Arena.is) fits e

pub returns-in-Cache : goal.returns-in-Cache
returns-in-Cache c = λ did more kind fits e. c.at_cache.ensures did more (kind ∙ ap kind_of c.in-Cache.is) fits e

pub returns-in-Bin : goal.returns-in-Bin
returns-in-Bin c = λ did more kind fits e. c.at_bin.ensures did more (kind ∙ ap kind_of c.in-Bin.is) fits e

pub returns-in-Mail : goal.returns-in-Mail
returns-in-Mail c = λ did more kind fits e. c.at_mail.ensures did more (kind ∙ ap kind_of c.in-Mail.is) fits e

pub returns-in-Root : goal.returns-in-Root
returns-in-Root c = λ did more kind fits e. c.at_root.ensures did more (kind ∙ ap kind_of c.in-Root.is) fits e
