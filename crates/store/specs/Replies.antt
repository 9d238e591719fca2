-- The numbers of replies.
use Rattle.std.specs.Prelude.{ℕ}
use Rattle.store.specs.declared.reply.Reply.{Reply}
use Rattle.store.specs.declared.reply.Reply.TheVariants.{Done, Unknown, NotLater, Full, TooMany}

abbrev pub reply_code : Reply → ℕ
reply_code Done = 0
reply_code Unknown = 21
reply_code NotLater = 22
reply_code Full = 23
reply_code TooMany = 24
