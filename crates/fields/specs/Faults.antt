-- The texts of faults.
use Rattle.std.specs.Prelude.{ℕ, List, codes}
use Rattle.fields.specs.declared.fault.FieldFault.{FieldFault}
use Rattle.fields.specs.declared.fault.FieldFault.TheVariants.{Short, Field, Memory}

-- what is printed of a fault
abbrev pub fault_text : FieldFault → List ℕ
fault_text Short = codes "the bytes end too early"
fault_text Field = codes "a field holds a value that it can't have"
fault_text Memory = codes "out of memory"
