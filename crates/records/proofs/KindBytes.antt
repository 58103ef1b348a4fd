-- What it says that bytes are a record: their kind byte. Assumes nothing.
use mathlib.Core.Path.{◌≡◌, sym}
use mathlib.Core.List.{List, ◌∷◌}
use Prim.Native.Nat.{ℕ, ◌<◌}
use native.Mathlib.Omega.{arith}
use borrow.Author.Tests.{eqb-true}
use lib.Dec.{eqb}
use lib.ListN.{get_or, length, drop}
use lib.Seq.{drop-cons}
use Rattle.std.specs.Prelude.{Result, Ok}
use Rattle.arith.proofs.Choose.{choose}
use Rattle.refusal.specs.declared.Refusal.{Refusal}
use Rattle.records.specs.declared.Record.{Record}
use Rattle.records.specs.declared.Record.TheVariants as records
use Rattle.records.specs.Records.{layout_of, record_number, IsRecord}

module _ {which : Record} {r : List ℕ} (k : IsRecord which r) where
  abbrev byte : ℕ
  byte = get_or r 0 0

  -- found by its kind byte, it is the record of that number
  abbrev Says : Result Record Refusal → Type 0
  Says found = found ≡ Ok which → byte ≡ record_number which

  said : (w : Record) → byte ≡ record_number w → Says (Ok w)
  said w h e = let same : which ≡ w = cc in rw same h

  pub kind_byte : byte ≡ record_number which
  unfolding layout_of
  kind_byte =
      choose Says (eqb byte 1) _ _ (λ h. said records.Sheet (eqb-true byte 1 h))
      (λ _. choose Says (eqb byte 2) _ _ (λ h. said records.Place (eqb-true byte 2 h))
      (λ _. choose Says (eqb byte 3) _ _ (λ h. said records.End (eqb-true byte 3 h))
      (λ _ e. absurd (let z : ◌≡◌ {A = ℕ} 0 1 = cc in omega arith)))) k.layout

-- the kind byte before the body
pub whole-record : (byte : ℕ) {r body : List ℕ} → get_or r 0 0 ≡ byte → 0 < length r → body ≡ drop 1 r → byte ∷ body ≡ r
whole-record byte {r} k h e = rw (e, ← k) (sym (drop-cons r 0 0 h))
