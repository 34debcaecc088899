-- The text of a run's replies, chunks and leaks is that of their lines.
use Rattle.std.proofs.Common.{◌≡◌, ℕ, suc, ◌+◌, List, [], ◌∷◌, ◌++◌, codes, map, refl, sym, ap, ◌∙◌, append_assoc, arith}
use Rattle.pool_law.specs.declared.command.Command.{Command}
use Rattle.pool_law.specs.declared.report.Access.{Access}
use Rattle.pool_law.specs.declared.report.ChunkEnd.{ChunkEnd}
use Rattle.pool_law.specs.declared.report.Leak.{Leak}
use Rattle.pool_law.specs.declared.run.Answered.{Answered}
use Rattle.pool_law.specs.declared.run.Reply.{Reply}
use Rattle.pool_law.specs.declared.run.LaneLog.{LaneLog}
use Rattle.pool_law.specs.LaneLaw.{replies_in}
use Rattle.pool_law.specs.Text.{Text, access_line, access_lines, all_replies, chunk_lines, command_word, dotted, leak_lines, reply_lines, reply_words, spaced}
use Rattle.run_text.specs.Answering.{lanes_texts, reply_texts}
use Rattle.run_text.specs.Ending.{access_text, chunk_text, leak_words, leaks_texts}
use Rattle.run_text.specs.Starting.{unlines}
use Rattle.run_text.proofs.ShownLemmas.{unlines-append, line_first}

replies_are : (lane at : ℕ) (cs : List Command) (as' : List Answered)
    → reply_lines lane at cs as' ≡ unlines (reply_texts lane at cs (replies_in as'))
replies_are lane at [] as' = refl
replies_are lane at (c ∷ cs) [] = refl
replies_are lane at (c ∷ cs) (a ∷ as') =
    let words = dotted lane at ∷ command_word c ∷ reply_words a.reply in
    let next : at + 1 ≡ suc at = omega arith in
    line_first words (reply_lines lane (at + 1) cs as')
    ∙ ap (λ (rest : Text). spaced words ++ 10 ∷ rest)
    (ap (λ n. reply_lines lane n cs as') next ∙ replies_are lane (suc at) cs as')

-- the replies of the logs
abbrev pub replies_of_logs : List LaneLog → List (List Reply)
replies_of_logs logs = map (λ log. replies_in log.replies) logs

pub all_replies_are : (lane : ℕ) (css : List (List Command)) (logs : List LaneLog)
    → all_replies lane css logs ≡ unlines (lanes_texts lane css (replies_of_logs logs))
all_replies_are lane [] logs = refl
all_replies_are lane (cs ∷ css) [] = refl
all_replies_are lane (cs ∷ css) (log ∷ logs) =
    let next : lane + 1 ≡ suc lane = omega arith in
    (λ i. replies_are lane 0 cs log.replies i ++
    (ap (λ n. all_replies n css logs) next ∙ all_replies_are (suc lane) css logs) i)
    ∙ sym (unlines-append (reply_texts lane 0 cs (replies_in log.replies))
    (lanes_texts (suc lane) css (replies_of_logs logs)))

pub chunks_are : (chunks : List ChunkEnd) → chunk_lines chunks ≡ unlines (map chunk_text chunks)
chunks_are [] = refl
chunks_are (c ∷ chunks) =
    append_assoc (chunk_text c) (10 ∷ []) (chunk_lines chunks)
    ∙ ap (λ (rest : Text). chunk_text c ++ 10 ∷ rest) (chunks_are chunks)

access_is : (a : Access) → access_line a ≡ access_text a ++ 10 ∷ []
access_is (Access.Set lane offset len) = refl
access_is (Access.Get lane offset len) = refl
access_is (Access.Touch lane) = refl

accesses_are : (records : List Access) → access_lines records ≡ unlines (map access_text records)
accesses_are [] = refl
accesses_are (a ∷ records) =
    ap (λ (first : Text). first ++ access_lines records) (access_is a)
    ∙ append_assoc (access_text a) (10 ∷ []) (access_lines records)
    ∙ ap (λ (rest : Text). access_text a ++ 10 ∷ rest) (accesses_are records)

pub leaks_are : (leaks : List Leak) → leak_lines leaks ≡ unlines (leaks_texts leaks)
leaks_are [] = refl
leaks_are (l ∷ leaks) =
    append_assoc (spaced (codes "leak" ∷ leak_words l)) (10 ∷ [])
    (access_lines l.records ++ leak_lines leaks)
    ∙ (λ i. spaced (codes "leak" ∷ leak_words l)
    ++ 10 ∷ (accesses_are l.records i ++ leaks_are leaks i))
    ∙ ap (λ (rest : Text). spaced (codes "leak" ∷ leak_words l) ++ 10 ∷ rest)
    (sym (unlines-append (map access_text l.records) (leaks_texts leaks)))
