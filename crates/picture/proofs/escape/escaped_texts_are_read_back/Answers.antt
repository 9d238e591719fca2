use Rattle.picture.proofs.Escapes.{one_text}
use Rattle.picture.proofs.escape.escaped_texts_are_read_back.Goals as goal

pub returns : goal.returns
returns c = one_text
