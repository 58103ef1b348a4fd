-- What holds of lookups. Each is proved in proofs/, in the file that its comment names.
use Rattle.std.specs.Prelude.{◌≡◌, Result}
use Rattle.atlas_file.specs.declared.reading.FileRefusal.{FileRefusal}
use Rattle.lookup.specs.declared.Found.{Found}
use Rattle.lookup.specs.Lookups.{lookup_reply_of}

-- two answers never share a number and values, so that the contract fixes the answer (Answers)
abbrev pub DistinctLookupReplies : Type 0
DistinctLookupReplies = (a b : Result Found FileRefusal) → lookup_reply_of a ≡ lookup_reply_of b → a ≡ b
