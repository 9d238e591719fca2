-- The text of an id.
use Rattle.std.proofs.Common.{ℕ, ◌<◌, List, arith}
use Rattle.std.specs.Str.{IsAscii, IsUtf8}
use Rattle.std.proofs.lemmas.Grind.{common_steps}
use Rattle.std.proofs.lemmas.Str.{IsUtf8-from_ascii}
use Rattle.std.proofs.lemmas.Str.Ascii.{IsAscii-from_all}
use Rattle.tpoint.specs.Ids.{IsId, IsIdByte}

id_byte_is_ascii : (b : ℕ) → IsIdByte b → b < 128
id_byte_is_ascii b h = grind (arith, common_steps)

-- it is ASCII, and so UTF-8
pub id_is_ascii : (text : List ℕ) → IsId text → IsAscii text
id_is_ascii text id = IsAscii-from_all text (λ k d h. id_byte_is_ascii _ (id.of_id_bytes k d h))

pub id_is_utf8 : (text : List ℕ) → IsId text → IsUtf8 text
id_is_utf8 text id = IsUtf8-from_ascii text (id_is_ascii text id)
