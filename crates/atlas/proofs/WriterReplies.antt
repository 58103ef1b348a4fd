-- What the writer answers, and what it leaves in the buffer, where its rules hold and where they do not. Assumes nothing.
use mathlib.Core.Path.{◌≡◌, sym, ap, ◌∙◌}
use mathlib.Core.Bool.{true}
use mathlib.Core.List.{List, [], ◌∷◌, ◌++◌}
use Prim.Native.Nat.{ℕ, ◌≤◌, ◌<◌}
use borrow.Author.Tests.{le-leb, lt-leb}
use lib.IntN.{pos}
use lib.ListN.{length, drop}
use lib.Dec.{leb}
use Rattle.refusal.specs.declared.Refusal.{Refusal}
use Rattle.refusal.specs.declared.Refusal.TheVariants.{NoRoom}
use Rattle.refusal.specs.Numbers.{Reply, accepted, refused}
use Rattle.refusal.specs.Rules.{outcome, in_order, all_hold, ◌else-refuse◌}
use Rattle.refusal.proofs.InOrder.{in_turn_lem, all_hold-good, refused-first, refused-bad}
use Rattle.sheet.specs.declared.Sheet.{Sheet}
use Rattle.place.specs.declared.Place.{Place}
use Rattle.atlas_file.specs.Writing.{file_of, file_length, list_rules, write_rules, write_reply}
use Rattle.integrity.proofs.Lengths.{written_length}
use Rattle.atlas.specs.Buffers.{buffer_after}

module _ (s : Sheet) (ps : List Place) (before : List ℕ) where
  abbrev size : ℕ
  size = file_length s (length ps)

  abbrev behind : List ℕ
  behind = file_of s ps ++ drop (length (file_of s ps)) before

  module _ (rules : all_hold (list_rules s ps) ≡ true) where
    -- what the last rule decides
    last_decides : (A : Type 0) (good : A) (bad : Refusal → A) → outcome (write_rules s ps (length before)) good bad ≡ outcome ((leb size (length before) else-refuse NoRoom) ∷ []) good bad
    unfolding write_rules
    last_decides A good bad =
        in_turn_lem A (list_rules s ps) _ good bad
        ∙ all_hold-good A (list_rules s ps) _ bad rules
        ∙ ap (λ (n : ℕ). outcome ((leb n (length before) else-refuse NoRoom) ∷ []) good bad) (written_length s ps rules)

    pub fits : size ≤ length before → (accepted (pos size ∷ []) ≡ write_reply s ps (length before)) × (file_of s ps ++ drop size before ≡ buffer_after s ps before)
    unfolding buffer_after
    fits h = (
      sym (last_decides Reply _ _ ∙ rw (le-leb size (length before) h, written_length s ps rules)),
      sym (last_decides (List ℕ) behind _ ∙ rw (le-leb size (length before) h, written_length s ps rules)),
    )

    pub too_short : length before < size → (refused 1 NoRoom ≡ write_reply s ps (length before)) × (before ≡ buffer_after s ps before)
    unfolding buffer_after
    too_short h = (
      sym (last_decides Reply _ _ ∙ rw (lt-leb size (length before) h)),
      sym (last_decides (List ℕ) behind _ ∙ rw (lt-leb size (length before) h)),
    )

  pub refuses : (r : Refusal) → refused 0 r ≡ in_order 0 (list_rules s ps) (accepted []) →
      (refused 1 r ≡ write_reply s ps (length before)) × (before ≡ buffer_after s ps before)
  unfolding buffer_after write_rules
  refuses r e = (
    refused-first 0 1 (list_rules s ps) _ [] _ r e,
    sym (in_turn_lem (List ℕ) (list_rules s ps) _ behind _ ∙ refused-bad (List ℕ) 0 (list_rules s ps) [] _ (λ why. before) r e),
  )
