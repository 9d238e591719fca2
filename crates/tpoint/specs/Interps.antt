-- The names of interpolations.
use Rattle.std.specs.Prelude.{ℕ, List, codes}
use Rattle.tpoint.specs.declared.interp.Interp.{Interp}
use Rattle.tpoint.specs.declared.interp.Interp.TheVariants.{Discrete, Step, Linear}

-- the word that documents and answers have for an interpolation
abbrev pub interp_name : Interp → List ℕ
interp_name Discrete = codes "Discrete"
interp_name Step = codes "Step"
interp_name Linear = codes "Linear"
