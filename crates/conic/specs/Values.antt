-- Inner: what map to globe works out once for a sheet, beside document 01's values at the edges.
use Rattle.cone.specs.Settled.{least_rise}
use Rattle.sheet.specs.declared.Sheet.{Sheet}
use Rattle.sheet.specs.Sheets.{w, n}
use Rattle.conic.specs.declared.InverseValues.{InverseValues}
use Rattle.conic.specs.MapToGlobe.{edge_values_of}

-- and by how much the sine rises at least from an offset to the next
abbrev pub inverse_values_of : Sheet → InverseValues
inverse_values_of s = record { «edges» = edge_values_of s; least_rise = least_rise (n s) (w s) }
