-- The position of a map point is always on its own sheet, so that 15 never comes back; which points are answered, and which of the point's own refusals the others get
-- on a sheet that passes its checks. Assumes nothing.
use mathlib.Core.Path.{◌≡◌, ◌∙◌}
use mathlib.Core.Bool.{true, false}
use mathlib.Core.Logic.{⊎_elim}
use mathlib.Core.List.{List, [], ◌∷◌, ◌++◌}
use native.Mathlib.Omega.{arith}
use lib.IntN.{ℤ, pos, neg_ℤ, ◌+ℤ◌, ◌-ℤ◌}
use lib.Signed.{◌≤ℤ◌, ◌<ℤ◌}
use Rattle.arith.specs.Bounds.{Within, Size}
use Rattle.arith.proofs.Choose.{choose}
use Rattle.arith.proofs.Parts.{linear, sub_parts, neg_parts}
use Rattle.arith.proofs.Tests.{Says, said, facts}
use Rattle.refusal.specs.declared.Refusal.TheVariants.{OffSheet, OutOfRange}
use Rattle.refusal.specs.Numbers.{Reply, accepted, refused}
use Rattle.refusal.specs.Rules.{in_order}
use Rattle.refusal.proofs.InOrder.{each_holds, others_decide, agree_behind, both_hold, not_refused_all_hold}
use Rattle.cone.specs.Cone.{radius_at, not_left, not_right, offset_at}
use Rattle.cone.proofs.Halving.{last_lo-between}
use Rattle.sheet.specs.declared.Sheet.{Sheet}
use Rattle.sheet.specs.Sheets.{fs, fn, w, n, g, sheet_rules, passes_checks, offset_of, on_sheet}
use Rattle.sheet.proofs.Limits.{passes_limits}
use Rattle.sheet.proofs.Positions.{holds-on_sheet}
use Rattle.sheet.proofs.Meridians.{longitude_at-offset}
use Rattle.sheet.proofs.Answers.{checks_first}
use Rattle.conic.specs.MapToGlobe.{point_in_range, v_of, point_on_sheet, latitude_of, longitude_of, held_reply, point_rules, inverse_reply}
use Rattle.conic.specs.Laws.{OnItsOwnSheet, NoTestNeeded, NeverFifteen, PointAnswered, NotRefusedOnSheet}
use Rattle.conic.proofs.Ranges.{limits}

-- a map point on the sheet, part by part
abbrev says_not_left : (n x v d : ℤ) → Says (not_left n x v d)
says_not_left n x v d = record { fact = not_left n x v d ≡ true; by = λ e. e }

abbrev says_not_right : (n x v d : ℤ) → Says (not_right n x v d)
says_not_right n x v d = record { fact = not_right n x v d ≡ true; by = λ e. e }

pub record IsPointOnSheet (s : Sheet) (x v : ℤ) : Type 0 where
  pub below_apex : pos 0 <ℤ v
  pub radius_range : Within (g s -ℤ fn s) (g s -ℤ fs s) (radius_at x v)
  pub west : not_left (n s) x v (neg_ℤ (w s)) ≡ true
  pub east : not_right (n s) x v (w s) ≡ true

pub point_on_sheet-holds : (s : Sheet) (x v : ℤ) → point_on_sheet s x v ≡ true → IsPointOnSheet s x v
unfolding point_on_sheet
point_on_sheet-holds s x v e =
    let t = facts e (search (said, says_not_left, says_not_right) depth 9) in
    record { below_apex = omega linear; radius_range = omega linear; west = t.0.1; east = t.1 }

module _ (s : Sheet) (x y : ℤ) (p : passes_checks s ≡ true) (o : point_on_sheet s x (v_of s y) ≡ true) where
  -- v, and the offset d of the longitude
  abbrev v : ℤ
  v = v_of s y

  abbrev d : ℤ
  d = offset_at (n s) x v (w s)

  on_sheet_lem : IsPointOnSheet s x v
  on_sheet_lem = point_on_sheet-holds s x v o

  pub r_range : Within (pos 1000000) (pos 268435456) (radius_at x v)
  r_range = let l = limits s p in omega (linear, on_sheet_lem.radius_range)

  pub d_between : (neg_ℤ (w s) ≤ℤ d) × (d <ℤ w s) × (not_left (n s) x v d ≡ true) × (not_right (n s) x v (d +ℤ pos 1) ≡ true)
  d_between = let l = limits s p in last_lo-between (n s) x v (neg_ℤ (w s)) (w s) (omega (linear, neg_parts (w s))) on_sheet_lem.west on_sheet_lem.east

  pub d_range : Within (neg_ℤ (pos 60000000)) (pos 59999999) d
  d_range =
      let l = limits s p in
      let b = d_between in
      omega (linear, neg_parts (w s))

  -- so the longitude is in range and has that offset
  pub longitude-is : Size (pos 180000000) (longitude_of s x y) × (offset_of s (longitude_of s x y) ≡ d)
  unfolding longitude_of
  longitude-is = let l = longitude_at-offset s d (passes_limits s p) (omega (linear, d_range)) in (omega linear, l.2)

  own_sheet : on_sheet s (latitude_of s x y) (longitude_of s x y) ≡ true
  unfolding latitude_of
  own_sheet =
      let b = d_between in
      holds-on_sheet s (latitude_of s x y) (longitude_of s x y) (record {
        longitude_range = longitude-is.0;
        between_edges = omega (linear, on_sheet_lem.radius_range, sub_parts (g s) (radius_at x v), sub_parts (g s) (fs s), sub_parts (g s) (fn s));
        offset = rw longitude-is.1 (omega linear);
      })

pub on_its_own_sheet : OnItsOwnSheet
on_its_own_sheet = own_sheet

module _ (s : Sheet) (x y : ℤ) (p : passes_checks s ≡ true) where
  -- the point's own rules decide
  by_point : inverse_reply s x y ≡ in_order 2 (point_rules s x y) (held_reply s (latitude_of s x y) (longitude_of s x y))
  by_point = others_decide 2 (sheet_rules s) (point_rules s x y) _ p

  pub point_out_of_range : point_in_range x y ≡ false → inverse_reply s x y ≡ refused 2 OutOfRange
  unfolding point_rules
  point_out_of_range i = by_point ∙ rw i

  pub point_off_sheet : point_in_range x y ≡ true → point_on_sheet s x (v_of s y) ≡ false → inverse_reply s x y ≡ refused 2 OffSheet
  unfolding point_rules
  point_off_sheet i o = by_point ∙ rw (i, o)

  pub point_held : point_in_range x y ≡ true → point_on_sheet s x (v_of s y) ≡ true → inverse_reply s x y ≡ held_reply s (latitude_of s x y) (longitude_of s x y)
  unfolding point_rules
  point_held i o = by_point ∙ rw (i, o)

  held_is : point_on_sheet s x (v_of s y) ≡ true → held_reply s (latitude_of s x y) (longitude_of s x y) ≡ accepted (latitude_of s x y ∷ longitude_of s x y ∷ [])
  held_is o = rw (on_its_own_sheet s x y p o)

pub point_answered : PointAnswered
point_answered s x y p i o = point_held s x y p i o ∙ held_is s x y p o

pub not_refused_on_sheet : NotRefusedOnSheet
unfolding point_rules
not_refused_on_sheet s x y e =
    let both = both_hold (sheet_rules s) (point_rules s x y) (not_refused_all_hold 2 (sheet_rules s ++ point_rules s x y) _ e) in
    let h = each_holds (point_rules s x y) both.1 in
    (both.0, h.0, h.1.0)

pub no_test_needed : NoTestNeeded
unfolding point_rules
no_test_needed s x y =
    agree_behind 2 (sheet_rules s) (point_rules s x y) (point_rules s x y) _ _
    (λ p. agree_behind 2 (point_rules s x y) [] [] _ _ (λ e. held_is s x y p (each_holds (point_rules s x y) e).1.0))

-- 15 is not the number of any of the refusals that are left
abbrev NotFifteen : Reply → Type 0
NotFifteen a = a.number ≡ 15 → ⊥

own_number : (s : Sheet) (x y : ℤ) (vs : List ℤ) → NotFifteen (in_order 2 (point_rules s x y) (accepted vs))
unfolding point_rules
own_number s x y vs =
    choose NotFifteen (point_in_range x y) _ _
    (λ _. choose NotFifteen (point_on_sheet s x (v_of s y)) _ _ (λ _ k. omega arith) (λ _ k. omega arith)) (λ _ k. omega arith)

pub never_fifteen : NeverFifteen
never_fifteen s x y e =
    let f = rw (no_test_needed s x y) at e in
    ⊎_elim (λ a. let k = rw a at f in omega arith) (⊎_elim (λ a. let k = rw a at f in omega arith) (λ a. own_number s x y _ (rw a at f)))
    (checks_first s 2 (point_rules s x y) (accepted (latitude_of s x y ∷ longitude_of s x y ∷ [])))
