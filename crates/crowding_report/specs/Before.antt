-- The crowding report with its reach written as a number, 50,000: whatever the usual reach becomes, the report is to print this.
use Rattle.std.specs.Prelude.{cond, List, [], ◌∷◌, ◌++◌, ◌≡◌, ℕ, suc, eqb, pos}
use Rattle.place.specs.declared.Place.{Place}
use Rattle.atlas_file.specs.Steps.{most_places}
use Rattle.atlas_file.specs.Reading.{read_reply, places_read}
use Rattle.text.specs.Lines.{crowd_line, file_refused_line}
use Rattle.crowding_report.specs.Crowding.{others_within, crowding_of}

abbrev pub lines_before : (k : ℕ) (all left : List Place) → List ℕ
lines_before k all [] = []
lines_before k all (p ∷ ps) = crowd_line p.«id» (others_within all k (pos 50000)) ++ lines_before (suc k) all ps

abbrev pub report_before : (file : List ℕ) → List ℕ
report_before file =
    let reply = read_reply file most_places in
    let ps = places_read file most_places in
    cond (eqb reply.number 0) (lines_before 0 ps ps) (file_refused_line reply.number reply.offset)

-- for every file (AsBefore)
abbrev pub ReportedAsBefore : Type 0
ReportedAsBefore = (file : List ℕ) → crowding_of file ≡ report_before file
