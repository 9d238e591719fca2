-- What an answer says that is a list.
use Rattle.std.proofs.Common.{◌≡◌, List, Ok, subst}
use Rattle.stable.specs.declared.stable.Stable.{Ghosts}
use Rattle.record_files.specs.Asking.{StorageAnswers, Lists}
use Rattle.record_files.specs.declared.asked.Answer.{Answer}
use Rattle.record_files.specs.declared.asked.Answer.TheVariants.{Listed}
use Rattle.record_files.specs.declared.asked.Asked.TheVariants.{Keys}

pub listed : {S : Type 0} {g : Ghosts S} {a b : S} {v : Answer} {keys : _} → v ≡ Listed keys → StorageAnswers g a Keys (Ok v) b
    → Lists g a keys.items b
listed {g = g} {a = a} {b = b} is told = subst (λ (v : Answer). StorageAnswers g a Keys (Ok v) b) is told
