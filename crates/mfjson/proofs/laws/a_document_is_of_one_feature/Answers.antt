use Rattle.mfjson.proofs.OneFeature.{document_of_one}
use Rattle.mfjson.proofs.laws.a_document_is_of_one_feature.Goals as goal

pub returns : goal.returns
returns c text f is other also = document_of_one text other f also is
