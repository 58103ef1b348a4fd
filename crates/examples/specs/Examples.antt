-- Document 01, 'Examples on both sides': the cases marked *, as one table.
use Rattle.std.specs.Prelude.{List, [], ◌∷◌, map, ◌≡◌, ℕ, ℤ, pos, neg_ℤ}
use Rattle.refusal.specs.Numbers.{Reply}
use Rattle.trig.specs.Trig.{ONE, angle_reply, sine_reply, cosine_reply, root_reply}
use Rattle.sheet.specs.Sheets.{check_reply}
use Rattle.sheet.specs.Samples.{sheet_a, sheet_a_with}
use Rattle.conic.specs.Conic.{forward_reply}
use Rattle.conic.specs.MapToGlobe.{inverse_reply}

-- a case's number in the document, what the definitions give, and what the document says: the number of a refusal or 0, and the values
pub record Case : Type 0 where
  pub number : ℕ
  pub computed : Reply
  pub expected : Reply

abbrev pub case : (number : ℕ) (computed : Reply) (refusal : ℕ) (values : List ℤ) → Case
case n computed r vs = record { number = n; computed = computed; expected = record { number = r; values = vs } }

abbrev pub cases : List Case
cases =
    case 1 (angle_reply (pos 1)) 0 (pos 18 ∷ [])
    ∷ case 1 (angle_reply (neg_ℤ (pos 1))) 0 (neg_ℤ (pos 18) ∷ [])
    ∷ case 1 (angle_reply (pos 60000000)) 0 (pos 1124419808 ∷ [])
    ∷ case 2 (angle_reply (pos 180000000)) 0 (pos 3373259426 ∷ [])
    ∷ case 3 (sine_reply (pos 0)) 0 (pos 0 ∷ [])
    ∷ case 3 (cosine_reply (pos 0)) 0 (ONE ∷ [])
    ∷ case 4 (sine_reply (pos 562209904)) 0 (pos 536870911 ∷ [])
    ∷ case 4 (sine_reply (neg_ℤ (pos 562209904))) 0 (neg_ℤ (pos 536870911) ∷ [])
    ∷ case 5 (cosine_reply (pos 562209904)) 0 (pos 929887697 ∷ [])
    ∷ case 6 (root_reply (pos 2)) 0 (pos 1 ∷ [])
    ∷ case 6 (root_reply (pos 3)) 0 (pos 2 ∷ [])
    ∷ case 7 (forward_reply sheet_a (pos 31000000) (pos 10000000)) 0 (pos 0 ∷ pos 1000000 ∷ [])
    ∷ case 7 (inverse_reply sheet_a (pos 0) (pos 1000000)) 0 (pos 31000000 ∷ pos 10000000 ∷ [])
    ∷ case 8 (forward_reply sheet_a (pos 30000000) (pos 70000000)) 0 (pos 49619600 ∷ pos 13295532 ∷ [])
    ∷ case 9 (forward_reply sheet_a (pos 30000000) (pos 70000001)) 11 (pos 0 ∷ pos 0 ∷ [])
    ∷ case 9 (forward_reply sheet_a (pos 90000001) (pos 70000000)) 12 (pos 0 ∷ pos 0 ∷ [])
    ∷ case 10 (check_reply (sheet_a_with 60000001 536870912)) 4 []
    ∷ case 10 (check_reply (sheet_a_with 60000000 536870922)) 0 []
    ∷ case 10 (check_reply (sheet_a_with 60000000 536870944)) 5 []
    ∷ []

-- they all hold
abbrev pub AllHold : Type 0
AllHold = map (λ (c : Case). c.computed) cases ≡ map (λ (c : Case). c.expected) cases
