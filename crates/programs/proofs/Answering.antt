-- What is printed part by part is the answers to the lines. Assumes nothing.
use mathlib.Core.List.{List, [], ◌∷◌, ◌++◌, flatten, append_assoc}
use mathlib.Core.Path.{◌≡◌, refl, ap, sym, ◌∙◌}
use Prim.Native.Nat.{ℕ, ◌+◌, ◌<◌, min}
use native.Mathlib.Numerals.{add-one}
use native.Mathlib.Omega.{arith}
use borrow.Author.Tests.{leb-true, leb-false, ltb-true, ltb-false, ne_eqb}
use lib.Dec.{eqb, ltb, leb}
use lib.ListN.{length, get_or, take, drop, length-append, length-set, length-take}
use lib.Seq.{take_all, take_at, take-append-le, take-suc-set, get_or-take, drop-cons}
use Rattle.arith.proofs.Choose.{choose, by_test}
use Rattle.sheet.specs.declared.Sheet.{Sheet}
use Rattle.place.specs.declared.Place.{Place}
use Rattle.atlas_file.specs.Reading.{read_reply, places_read}
use Rattle.integrity.proofs.Accepted.{count-is_places}
use Rattle.text.specs.Lines.{newline}
use Rattle.text.specs.TapLines.{start_size}
use Rattle.text.proofs.TapLaws.{first_bytes_tell}
use Rattle.programs.specs.declared.Begun.{Begun}
use Rattle.programs.specs.Tapping.{answer_to, answers_after, tap_output, bytes_of, nothing_begun, begun_with, begun_after, begun_by, printed_at, printed_by, printed_at_end, part_size, taken}
use Rattle.programs.specs.Laws.{printed_in_parts, PartsAnswered, TapAnswered}

-- the first bytes of a line are kept
record Keeps (g : Begun) (line : List ℕ) : Type 0 where
  first : bytes_of g ≡ take start_size line
  counted : g.«length» ≡ length (take start_size line)
  sized : length g.«bytes» ≡ start_size

keeps_none : Keeps nothing_begun []
unfolding nothing_begun
keeps_none = record { first = refl; counted = refl; sized = refl }

keeps_more : (g : Begun) (line : List ℕ) (b : ℕ) → Keeps g line → Keeps (begun_with g b) (line ++ (b ∷ []))
unfolding begun_with
keeps_more g line b h =
    let n = length-take start_size line in
    choose (λ G. Keeps G (line ++ (b ∷ []))) (ltb g.«length» start_size) _ _
    (λ t.
    let below = ltb-true g.«length» start_size t in
    let all : take start_size line ≡ line = take_all start_size line (omega (arith, h.counted)) in
    let more : take start_size (line ++ (b ∷ [])) ≡ line ++ (b ∷ []) = take_all start_size (line ++ (b ∷ [])) (rw length-append (omega (arith, h.counted))) in
    record {
      first = rw (add-one, take-suc-set g.«bytes» g.«length» b (omega (arith, h.sized)), h.first, all, more);
      counted = rw (more, length-append, h.counted, all);
      sized = rw length-set h.sized;
    })
    (λ f.
    let full : take start_size (line ++ (b ∷ [])) ≡ take start_size line = take-append-le start_size line (b ∷ []) (omega (arith, h.counted, ltb-false g.«length» start_size f)) in
    record { first = h.first ∙ sym full; counted = h.counted ∙ ap length (sym full); sized = h.sized })

module _ (s : Sheet) (ps : List Place) where
  answer_kept : (g : Begun) (line : List ℕ) → Keeps g line → answer_to s ps (bytes_of g) ≡ answer_to s ps line
  unfolding answer_to
  answer_kept g line h = rw (h.first, first_bytes_tell line)

  at_end : (g : Begun) (line : List ℕ) → Keeps g line → printed_at_end s ps g ≡ answers_after s ps line []
  unfolding printed_at_end
  at_end g [] h = rw h.counted
  at_end g (b ∷ bs) h = rw (ne_eqb g.«length» 0 (λ q. omega (arith, h.counted)), ne_eqb (length (b ∷ bs)) 0 (λ q. omega arith)) (answer_kept g (b ∷ bs) h)

  -- a part, and whatever is printed after it
  part_after : (g : Begun) (line part rest : List ℕ) (after : List ℕ) → Keeps g line →
      ((line : List ℕ) → Keeps (begun_by g part) line → after ≡ answers_after s ps line rest) → printed_by s ps g part ++ after ≡ answers_after s ps line (part ++ rest)
  part_after g line [] rest after h then = then line h
  part_after g line (b ∷ bs) rest after h then =
      by_test (eqb b newline)
      (λ t. rw (t, answer_kept g line h, append_assoc) (ap (λ l. answer_to s ps line ++ l) (part_after nothing_begun [] bs rest after keeps_none (rw t at then))))
      (λ f. rw f (part_after (begun_with g b) (line ++ (b ∷ [])) bs rest after (keeps_more g line b h) (rw f at then)))

  parts_after : (g : Begun) (line : List ℕ) (parts : List (List ℕ)) → Keeps g line → printed_in_parts s ps g parts ≡ answers_after s ps line (flatten parts)
  unfolding flatten
  parts_after g line [] h = at_end g line h
  parts_after g line (part ∷ parts) h = part_after g line part (flatten parts) _ h (λ next k. parts_after (begun_by g part) next parts k)

-- a byte of a part, and those after it
module _ (g : Begun) (part : List ℕ) (k : ℕ) (h : k < length part) where
  turned : drop k part ≡ get_or part k 0 ∷ drop (k + 1) part
  turned = rw (add-one k) (drop-cons part k 0 h)

  pub begun_turn : begun_by g (drop k part) ≡ begun_by (begun_after g (get_or part k 0)) (drop (k + 1) part)
  begun_turn = ap (begun_by g) turned

  pub printed_turn : (s : Sheet) (ps : List Place) → printed_by s ps g (drop k part) ≡ printed_at s ps g (get_or part k 0) ++ printed_by s ps (begun_after g (get_or part k 0)) (drop (k + 1) part)
  printed_turn s ps = ap (printed_by s ps g) turned

-- the part that the code takes
pub taken_is : (input : List ℕ) → take (min (length input) part_size) input ≡ taken input
taken_is input =
    by_test (leb (length input) part_size)
    (λ t. let h = leb-true (length input) part_size t in take_all _ input (omega arith) ∙ sym (take_all part_size input h))
    (λ f. let h = leb-false (length input) part_size f in let e : min (length input) part_size ≡ part_size = omega arith in rw e)

pub parts_answered : PartsAnswered
parts_answered s ps parts = parts_after s ps nothing_begun [] parts keeps_none

pub tap_answered : TapAnswered
unfolding tap_output
tap_answered file table parts e good =
    let places = places_read file (length table) in
    let reply = read_reply file (length table) in
    rw (take_at places (drop (length places) table) reply.count (sym (count-is_places file (length table) good).0))
    (parts_answered reply.sheet places parts ∙ rw (← e, good))
