-- Records that are set into a buffer one behind the other. Assumes nothing.
use mathlib.Core.Path.{◌≡◌, refl, sym, ap, ◌∙◌}
use mathlib.Core.List.{List, [], ◌∷◌, ◌++◌, append_assoc, append-nil}
use Prim.Native.Nat.{ℕ, ◌+◌, ◌-◌, ◌*◌, ◌≤◌, ◌<◌}
use native.Mathlib.Numerals.{add-one}
use native.Mathlib.Omega.{arith}
use borrow.Rule.Slice.PartMut.{put_mid}
use lib.ListN.{length, get_or, take, drop, length-append, length-drop, take-append-drop}
use lib.Seq.{take-suc, length-take-le, take_at, drop_at, drop-drop, drop-append-add}
use Rattle.sheet.specs.declared.Sheet.{Sheet}
use Rattle.place.specs.declared.Place.{Place}
use Rattle.place.specs.Places.{blank_place}
use Rattle.records.specs.Records.{sheet_record, place_record, end_record}
use Rattle.atlas_file.specs.Writing.{place_records, file_of, file_length}

-- a record r, set in behind what is written; `before` is what the buffer held
pub one_part : {A : Type 0} (written before r : List A) (at end : ℕ) → length written ≡ at → at ≤ end → put_mid at (end - at) (written ++ drop at before) r ≡ written ++ r ++ drop end before
one_part written before r at end l h =
    let u : at + (end - at) ≡ end = omega arith in
    rw (take_at written (drop at before) at l, drop_at written (drop at before) at l, drop-drop, u, append_assoc)

-- the records of places, and of one place more
records_append : (ps qs : List Place) → place_records (ps ++ qs) ≡ place_records ps ++ place_records qs
unfolding place_records
records_append [] qs = refl
records_append (p ∷ ps) qs = ap (λ (l : List ℕ). place_record p ++ l) (records_append ps qs) ∙ sym (append_assoc (place_record p) (place_records ps) (place_records qs))

pub records_more : (ps : List Place) (k : ℕ) → k < length ps → place_records (take (k + 1) ps) ≡ place_records (take k ps) ++ place_record (get_or ps k blank_place)
unfolding place_records
records_more ps k h =
    rw (add-one, take-suc ps k blank_place) (records_append (take k ps) (get_or ps k blank_place ∷ []) ∙ ap (λ (l : List ℕ). place_records (take k ps) ++ l) (append-nil (place_record (get_or ps k blank_place))))

-- a buffer into which the records of the first places of a table are written, from `first` on
module _ (table : List Place) (before : List ℕ) (first : ℕ) (inside : first ≤ length before) where
  abbrev pub with_first : (k at : ℕ) → List ℕ
  with_first k at = take first before ++ place_records (take k table) ++ drop at before

  pub none_written : before ≡ with_first 0 first
  unfolding place_records
  none_written = sym (rw append-nil (take-append-drop first before))

  pub one_written : (buffer r : List ℕ) (k at : ℕ) → k < length table → at ≡ first + 37 * k → length (place_records (take k table)) ≡ 37 * k →
      buffer ≡ with_first k at → r ≡ place_record (get_or table k blank_place) → put_mid at (at + 37 - at) buffer r ≡ with_first (k + 1) (at + 37)
  one_written buffer r k at h a n e f =
      let l : length (take first before ++ place_records (take k table)) ≡ at = simp length-append (omega (arith, length-take-le first before inside)) in
      rw (e, records_more table k h, ← f) (one_part (take first before ++ place_records (take k table)) before r at (at + 37) l (omega arith) ∙ ap (λ (w : List ℕ). w ++ drop (at + 37) before) (append_assoc (take first before) (place_records (take k table)) r))

-- the sheet's record, the records of the places and the end record, one behind the other
pub all_written : (s : Sheet) (table : List Place) (before h mid e : List ℕ) (first at : ℕ) → first ≡ length (sheet_record s) → at ≡ first + 37 * length table → at + 5 ≤ length before →
    h ≡ sheet_record s → length mid ≡ length (h ++ drop first before) → mid ≡ take first (h ++ drop first before) ++ place_records table ++ drop at (h ++ drop first before) → e ≡ end_record (length table) →
    put_mid at (at + 5 - at) mid e ≡ file_of s table ++ drop (file_length s (length table)) before
unfolding file_of
all_written s table before h mid e first at f a inside hs l m es =
    let long : length h ≡ first = ap length hs ∙ sym f in
    let past : at ≡ length h + 37 * length table = omega arith in
    let behind : drop at (h ++ drop first before) ≡ drop at before =
    ap (λ (k : ℕ). drop k (h ++ drop first before)) past ∙ drop-append-add h (drop first before) (37 * length table) ∙ drop-drop (37 * length table) first before ∙ ap (λ (k : ℕ). drop k before) (sym a) in
    let mid-is : mid ≡ h ++ place_records table ++ drop at before = m ∙ rw (take_at h (drop first before) first long, behind) in
    let lengths = simp (length-append, length-drop) at (sym (ap length mid-is) ∙ l) in
    let n : length (h ++ place_records table) ≡ at = simp length-append (omega (arith, lengths)) in
    let end : at + 5 ≡ file_length s (length table) = omega arith in
    rw (mid-is, ← end, ← hs, ← es) (one_part (h ++ place_records table) before e at (at + 5) n (omega arith))
