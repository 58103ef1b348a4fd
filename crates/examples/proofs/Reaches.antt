-- The crowding report of three villages: by computation. Assumes nothing.
use mathlib.Core.Path.{refl}
use Rattle.nearest.specs.Taps.{squared, squared_distance, within_reach_from, within_reach}
use Rattle.text.specs.Decimals.{digits_up_to, decimal}
use Rattle.text.specs.Lines.{crowd_line}
use Rattle.crowding_report.specs.Crowding.{others_within}
use Rattle.examples.specs.Reaches.{VillagesReported}

pub villages-reported : VillagesReported
unfolding squared squared_distance within_reach_from within_reach others_within crowd_line digits_up_to decimal
villages-reported = refl
