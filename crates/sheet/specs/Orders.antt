-- The orders of work by name.
use Rattle.std.specs.Prelude.{ℕ, List, codes}
use Rattle.sheet.specs.declared.order.Order.{Order}
use Rattle.sheet.specs.declared.order.Order.TheVariants.{Parallel, Directional, Raster, Free}

abbrev pub name_of : Order → List ℕ
name_of Parallel = codes "parallel"
name_of Directional = codes "directional"
name_of Raster = codes "raster"
name_of Free = codes "free"
