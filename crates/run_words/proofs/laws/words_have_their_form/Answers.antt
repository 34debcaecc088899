use Rattle.run_words.proofs.FormLaws.{form_from, form_to}
use Rattle.run_words.proofs.laws.words_have_their_form.Goals as goal

pub returns : goal.returns
returns c = record { form = λ words options. (form_from words options, form_to words options) }
