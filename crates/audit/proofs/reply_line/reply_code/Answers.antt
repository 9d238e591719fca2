use Rattle.audit.proofs.NumberLemmas.{same_code}
use Rattle.audit.proofs.reply_line.reply_code.Goals as goal

pub returns-else-is_reply_code : goal.returns-else-is_reply_code
returns-else-is_reply_code c = λ code text is.
    let same = same_code c.args.word.now _ code c.in_ok-code.ensures text is in
    let yes = c.if-is_reply_code.ensures.1 (rw same at is) in cc
