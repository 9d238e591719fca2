use Rattle.std.proofs.Common.{Ok, ap, inl}
use Rattle.mfjson.proofs.OneFeature.{document_of_one}
use Rattle.mfjson.proofs.reader.DocumentReader.read.Goals as goal

pub returns-in-Some-clause-document : goal.returns-in-Some-clause-document
returns-in-Some-clause-document c f is = inl (ap Ok (document_of_one c.args.bytes.now c.in-Some.feature f c.in-Some.ensures is))
