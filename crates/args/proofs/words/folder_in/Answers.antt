use Rattle.std.proofs.Common.{rules}
use Rattle.args.proofs.words.folder_in.Goals as goal

pub returns-in-Replay : goal.returns-in-Replay
returns-in-Replay c = search rules
