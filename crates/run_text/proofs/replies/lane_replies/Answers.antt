use Rattle.std.proofs.Common.{◌≡◌, ℕ, List, ◌++◌, ◌∷◌, [], get_or, rules, ◌∙◌, arith, Bor}
use Rattle.std.proofs.lemmas.List.{length-map, take_all}
use Rattle.pool_law.specs.Text.{command_word, dotted, reply_words}
use Rattle.run_text.proofs.ReplyLemmas.{fits_here, is_word-command, is_word-dotted, line_here, no_reply, one_more_reply, replies_many, room}
use Rattle.run_text.proofs.LineLemmas.{refused_on}
use Rattle.run_text.proofs.replies.lane_replies.Goals as goal

pub returns-in_err-words : goal.returns-in_err-words
returns-in_err-words c lane replies front back small fits is long =
    let k = c.loop-command.command-index in
    let placed = (c.loop-command.invariant lane replies front back small fits is long).1 in
    let there = line_here _ front back lane c.args.from k c.loop-command.at _ replies fits is long placed
    c.loop-command-test.true c.command-item.result c.command-item.is in
    absurd (rw c.in_err-words.was at (c.words_behind.ensures _ there))

pub returns-in_err-reply : goal.returns-in_err-reply
returns-in_err-reply c lane replies front back small fits is long =
    let k = c.loop-command.command-index in
    let placed = (c.loop-command.invariant lane replies front back small fits is long).1 in
    let low = c.loop-command-test.true in
    let command = c.command-item.result in
    let reply = get_or replies k no_reply in
    let there = line_here _ front back lane c.args.from k c.loop-command.at _ replies fits is long placed low
    command c.command-item.is in
    let w = rw c.in_ok-words.was at (c.words_behind.ensures _ there) in
    let first = c.next-line.ensures (dotted lane k) (command_word command ∷ (reply_words reply ++ []))
    (is_word-dotted lane k small (omega arith)) w in
    let second = c.next-command.ensures (command_word command) (reply_words reply ++ []) (is_word-command command)
    first.1 in
    let fit = fits_here _ front back lane c.args.from k c.loop-command.at _ replies fits is long placed low command
    c.command-item.is in
    let r = rw c.in_err-reply.was at (c.reply_of.ensures reply [] fit second.1) in
    refused_on _ _ _ c.from_residual-in_err-reply.ensures.1 r

pub loop-command-preserved : goal.loop-command-preserved
loop-command-preserved c lane replies front back small fits is long =
    let k = c.loop-command.command-index in
    let now = c.loop-command.invariant lane replies front back small fits is long in
    let low = c.loop-command-test.true in
    let command = c.command-item.result in
    let reply = get_or replies k no_reply in
    let there = line_here _ front back lane c.args.from k c.loop-command.at _ replies fits is long now.1 low
    command c.command-item.is in
    let w = rw c.in_ok-words.was at (c.words_behind.ensures _ there) in
    let first = c.next-line.ensures (dotted lane k) (command_word command ∷ (reply_words reply ++ []))
    (is_word-dotted lane k small (omega arith)) w in
    let second = c.next-command.ensures (command_word command) (reply_words reply ++ []) (is_word-command command)
    first.1 in
    let fit = fits_here _ front back lane c.args.from k c.loop-command.at _ replies fits is long now.1 low command
    c.command-item.is in
    let r = rw c.in_ok-reply.was at (c.reply_of.ensures reply [] fit second.1) in
    let pushed : c.push.new.self.items ≡ c.loop-command.replies.items ++ c.in_ok-reply.reply ∷ [] = search (rules) in
    let some = room _ front back lane c.args.from k c.loop-command.at _ replies fits is long now.1 low
    command c.command-item.is in (
      one_more_reply _ front back lane c.args.from k c.loop-command.at _ replies fits is long now.1 low
          command c.command-item.is
          c.loop-command.replies.items c.push.new.self.items c.in_ok-reply.reply pushed now.0 r.0,
      omega (arith, now.1, some, length-map c.args.lines.now (λ (l : Bor (List ℕ)). l.now)),
    )

pub returns : goal.returns
returns c lane replies front back small fits is long =
    let k = c.loop-command.command-index in
    let now = c.loop-command.invariant lane replies front back small fits is long in
    let many = replies_many c.args.commands.now replies fits in
    let over = c.loop-command-test.false in (
      now.0 ∙ take_all k replies (omega (arith, many, over)),
      omega (arith, now.1, many, over),
    )
