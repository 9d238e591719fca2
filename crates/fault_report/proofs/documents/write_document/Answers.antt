use Rattle.std.proofs.Common.{◌≡◌, ◌++◌, IfOk, string_bytes, codes, subst, ℕ}
use Rattle.std.specs.Fmt.{decimal}
use Rattle.mfjson.specs.Faults.{fault_text}
use Rattle.fault_report.proofs.documents.write_document.Goals as goal

pub returns : goal.returns
returns c = subst (λ (code : ℕ). IfOk c.format.result (λ told. string_bytes told ≡ c.args.name.now ++ (codes ":" ++ (decimal c.args.number
    ++ (codes ":" ++ (decimal c.args.column ++ (codes ": document fault " ++ (decimal code ++ (codes ": "
    ++ (fault_text c.args.fault ++ (codes "\n" ++ c.args.picture.now))))))))))) c.code-code.ensures c.format.ensures.ok
