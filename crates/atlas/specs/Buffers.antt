-- Document 01, 'The atlas file': what the writer answers, and the caller's buffer, a list of bytes, after a file is written into it.
use Rattle.std.specs.Prelude.{ℕ, List, [], ◌∷◌, ◌++◌, length, drop, pos, Result}
use Rattle.refusal.specs.declared.Refusal.{Refusal}
use Rattle.refusal.specs.Numbers.{Reply, reply_by}
use Rattle.refusal.specs.Rules.{outcome}
use Rattle.sheet.specs.declared.Sheet.{Sheet}
use Rattle.place.specs.declared.Place.{Place}
use Rattle.atlas_file.specs.Writing.{file_of, write_rules}

-- the number and the value that an answer stands for
abbrev pub write_reply_of : Result ℕ Refusal → Reply
write_reply_of = reply_by 1 (λ length. pos length ∷ [])

-- the file, and bytes after the last record unchanged; a refusal changes nothing
unfoldable pub buffer_after : Sheet → List Place → (before : List ℕ) → List ℕ
buffer_after s ps before = outcome (write_rules s ps (length before)) (file_of s ps ++ drop (length (file_of s ps)) before) (λ why. before)
