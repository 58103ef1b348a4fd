-- What the limits say of the numbers of a position on a sheet that passes its checks. Assumes nothing.
use mathlib.Core.Path.{◌≡◌}
use mathlib.Core.Bool.{true}
use lib.IntN.{ℤ, pos}
use Rattle.arith.specs.Bounds.{Size}
use Rattle.arith.proofs.Parts.{linear, neg_parts}
use Rattle.trig.specs.Trig.{ONE, sine_limit}
use Rattle.cone.proofs.Sizes.{cone_angle_range}
use Rattle.sheet.specs.declared.Sheet.{Sheet}
use Rattle.sheet.specs.Sheets.{f0, w, n, passes_checks, offset_of, on_sheet}
use Rattle.sheet.specs.Laws.{InLimits, IsOnSheet}
use Rattle.sheet.proofs.Limits.{limits_hold, passes_limits, radius_size}
use Rattle.sheet.proofs.Positions.{on_sheet-holds}
use Rattle.conic.specs.Conic.{r_of, r0, t_of}

module _ (s : Sheet) (p : passes_checks s ≡ true) where
  pub limits : InLimits s
  limits = limits_hold s (passes_limits s p)

  pub n_size : Size ONE (n s)
  n_size = let l = limits in omega linear

  pub w_size : Size (pos 60000000) (w s)
  w_size = let l = limits in omega linear

  pub r0_size : Size (pos 268435456) (r0 s)
  r0_size = let l = limits in radius_size s (f0 s) l (record { low = l.fs_f0; high = l.f0_fn })

  module _ (latitude longitude : ℤ) (o : on_sheet s latitude longitude ≡ true) where
    pub is_on_sheet : IsOnSheet s latitude longitude
    is_on_sheet = on_sheet-holds s latitude longitude o

    pub r_size : Size (pos 268435456) (r_of s latitude)
    r_size = radius_size s latitude limits is_on_sheet.between_edges

    pub latitude-size : Size (pos 90000000) latitude
    latitude-size =
        let l = limits in
        let i = is_on_sheet in
        omega linear

    pub d_size : Size (pos 60000000) (offset_of s longitude)
    d_size =
        let l = limits in
        let i = is_on_sheet in
        omega (linear, neg_parts (w s))

    pub t_size : Size (pos sine_limit) (t_of s longitude)
    unfolding t_of
    t_size = cone_angle_range (n s) (offset_of s longitude) n_size d_size
