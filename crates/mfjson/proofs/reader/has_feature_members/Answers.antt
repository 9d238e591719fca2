use Rattle.std.proofs.Common.{rules}
use Rattle.mfjson.proofs.reader.has_feature_members.Goals as goal

pub returns-then-is_some-2 : goal.returns-then-is_some-2
returns-then-is_some-2 c = search rules
