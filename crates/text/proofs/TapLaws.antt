-- A tap's line that is written is read as itself, and its first bytes tell what it is. Assumes nothing.
use mathlib.Core.Bool.{true}
use mathlib.Core.List.{List, [], ◌∷◌, ◌++◌}
use mathlib.Core.Path.{◌≡◌, refl, sym, ◌∙◌}
use mathlib.Mathlib.Data.Bool.Basic.{and_elim_left, and_elim_right}
use Prim.Native.Nat.{ℕ, suc, ◌≤◌, ◌<◌}
use native.Mathlib.Omega.{arith}
use borrow.Author.Tests.{leb-true, leb-false, le-leb, lt-leb, ne_eqb}
use lib.Dec.{leb}
use lib.IntN.{ℤ, pos, negsuc}
use lib.ListN.{length, length-append, take}
use lib.Seq.{length-take-le, take_all}
use mir.Syntax.{w32}
use mir.Val.{SFits}
use Rattle.arith.proofs.Choose.{by_test}
use Rattle.arith.specs.Bounds.{Size, size_up_to}
use Rattle.arith.proofs.Fits.{fits, within}
use Rattle.arith.proofs.Order.{within_true}
use Rattle.refusal.specs.declared.Refusal.TheVariants.{OutOfRange}
use Rattle.refusal.specs.Numbers.{refused}
use Rattle.conic.specs.MapToGlobe.{point_limit}
use Rattle.text.specs.Decimals.{minus, decimal, signed, is_digit, are_digits}
use Rattle.text.specs.Lines.{space}
use Rattle.text.specs.TapLines.{longest_tap, start_size, before_space, after_space, has_form, x_of, y_of, line_rules, line_reply}
use Rattle.text.specs.Laws.{TapReadsBack, FirstBytesTell}
use Rattle.text.proofs.Digits.{digits-at_most}
use Rattle.text.proofs.Spelled.{at_least, spell, reads_back}

-- what stands before and after a space that is the first
abbrev Parted : (before after : List ℕ) → Type 0
Parted a b = (before_space (a ++ (space ∷ b)) ≡ a) × (after_space (a ++ (space ∷ b)) ≡ b)

-- a byte more before it, which is no space
parted_more : (x : ℕ) (a b : List ℕ) → (x ≡ space → ⊥) → Parted a b → Parted (x ∷ a) b
parted_more x a b h p = let n = ne_eqb x space h in (rw (n, p.0), rw (n, p.1))

parted_digits : (ds b : List ℕ) → are_digits ds ≡ true → Parted ds b
parted_digits [] b e = (refl, refl)
parted_digits (d ∷ ds) b e = parted_more d ds b (λ q. omega (arith, at_least d ds e)) (parted_digits ds b (and_elim_right (is_digit d) (are_digits ds) e))

parted : (z : ℤ) (b : List ℕ) → Parted (signed z) b
unfolding signed
parted (pos n) b = parted_digits (decimal n) b (spell n).digits
parted (negsuc n) b = parted_more minus (decimal (suc n)) b (λ q. omega arith) (parted_digits (decimal (suc n)) b (spell (suc n)).digits)

long_signed_32 : {z : ℤ} → SFits w32 z → length (signed z) ≤ 11
unfolding signed
long_signed_32 {z = pos n} f = let h = f.sfits in let d = digits-at_most 9 n (omega arith) in omega arith
long_signed_32 {z = negsuc n} f = let h = f.sfits in let d = digits-at_most 9 (suc n) (omega arith) in omega arith

long : (z : ℤ) → size_up_to point_limit z ≡ true → length (signed z) ≤ 11
long z e = let h : Size (pos point_limit) z = within_true e in long_signed_32 {z = z} (fits (within h) tt)

pub tap_reads_back : TapReadsBack
unfolding line_reply line_rules has_form x_of y_of
tap_reads_back x y e =
    let p = parted x (signed y) in
    let short : length (signed x ++ (space ∷ signed y)) ≤ longest_tap = rw length-append (omega (arith, long x (and_elim_left _ _ e), long y (and_elim_right (size_up_to point_limit x) _ e))) in
    rw (p.0, p.1, (reads_back x).0, (reads_back x).1, (reads_back y).0, (reads_back y).1, le-leb _ _ short, e)

-- a line that is too long is refused, whatever it holds
pub too_long : (line : List ℕ) → longest_tap < length line → line_reply line ≡ refused 2 OutOfRange
unfolding line_reply line_rules has_form
too_long line h = rw (lt-leb (length line) longest_tap h)

pub first_bytes_tell : FirstBytesTell
first_bytes_tell line =
    by_test (leb (length line) start_size)
    (λ t. rw (take_all start_size line (leb-true (length line) start_size t)))
    (λ f. let h = leb-false (length line) start_size f in too_long (take start_size line) (omega (arith, length-take-le start_size line (omega arith))) ∙ sym (too_long line (omega arith)))
