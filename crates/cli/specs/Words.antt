-- What words that have no job are to the program.
use Rattle.args.specs.declared.fault.WordsFault.{WordsFault}
use Rattle.args.specs.declared.fault.WordsFault.TheVariants as words
use Rattle.commands.specs.declared.failure.Failure.{Failure}
use Rattle.commands.specs.declared.failure.Failure.TheVariants.{Usage, Memory}

-- the failure that such a fault is
abbrev pub failure_of : WordsFault → Failure
failure_of words.NoForm = Usage
failure_of words.Memory = Memory
