-- The answer to the check of a place, from where its latitude and longitude lie, as the code reads them. Assumes nothing.
use mathlib.Core.Path.{◌≡◌}
use mathlib.Core.List.{[]}
use Prim.Native.Nat.{ℕ}
use mir.Syntax.{w32, w64}
use mir.Val.{to_z, of_z}
use Rattle.arith.proofs.Fits.{plain}
use Rattle.std.specs.Prelude.{Result}
use Rattle.refusal.specs.declared.Refusal.{Refusal}
use Rattle.refusal.specs.Numbers.{accepted}
use Rattle.refusal.specs.Rules.{in_order}
use Rattle.sheet.specs.declared.Sheet.{Sheet}
use Rattle.sheet.specs.Sheets.{reply_of}
use Rattle.sheet.proofs.Fields.{wide}
use Rattle.conic.specs.declared.MapPoint.{MapPoint}
use Rattle.conic.specs.Conic.{forward_reply, map_reply_of}
use Rattle.place.specs.declared.Place.{Place}
use Rattle.place.specs.Places.{place_rules_at, place_rules, place_reply}
use Rattle.place.proofs.Fields.{Typed}

pub by_position : {p : Place} → Typed p → (s : Sheet) (count last : ℕ) (a : Result MapPoint Refusal) (v : Result Unit Refusal) →
    map_reply_of a ≡ forward_reply s (to_z w64 (of_z w64 (to_z w32 (of_z w32 p.«latitude»)))) (to_z w64 (of_z w64 (to_z w32 (of_z w32 p.«longitude»)))) →
    reply_of v ≡ in_order 0 (place_rules_at (map_reply_of a) count last p) (accepted []) → reply_of v ≡ place_reply s count last p
unfolding place_rules
by_position t s count last a v e f = rw (e, plain (wide t.latitude) tt, plain (wide t.longitude) tt) at f
