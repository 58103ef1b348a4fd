-- What is known of an accepted file where its places are taken out of it. Assumes nothing.
use mathlib.Core.Path.{◌≡◌, sym, ap, ◌∙◌}
use mathlib.Core.List.{List}
use Prim.Native.Nat.{ℕ, ◌+◌, ◌*◌, ◌≤◌, ◌<◌}
use native.Mathlib.Omega.{arith}
use lib.ListN.{length, get_or}
use Rattle.sheet.specs.declared.Sheet.{Sheet}
use Rattle.place.specs.Places.{blank_place}
use Rattle.records.specs.Records.{sheet_record}
use Rattle.atlas_file.specs.Steps.{most_places}
use Rattle.atlas_file.specs.Reading.{FileReply, Reading, accepted_file, read_of, read_reply, places_read}
use Rattle.integrity.specs.Integrity.{StandsAt}
use Rattle.integrity.proofs.Accepted.{count-is_places, file_length_lem}
use Rattle.integrity.proofs.Rooms.{room_enough}
use Rattle.integrity.proofs.Stands.{place-stands}
use Rattle.atlas.specs.declared.places.Places.{Places}
use Rattle.atlas.specs.Tables.{AcceptedFile}

-- what an answer of acceptance says of the file
pub accepted-file : {b : List ℕ} {room first count : ℕ} {s : Sheet} → accepted_file count s ≡ read_reply b room → first ≡ length (sheet_record s) → AcceptedFile b room first
accepted-file e f = record { good = sym (ap (λ (X : FileReply). X.number) e); starts = f ∙ ap (λ (X : FileReply). length (sheet_record X.sheet)) e }

module _ {b : List ℕ} {room first : ℕ} (a : AcceptedFile b room first) where
  pub accepted-length : length b ≡ first + 37 * (read_reply b room).count + 5
  accepted-length = omega (arith, file_length_lem b room a.good, a.starts)

  pub accepted-count : ((read_reply b room).count ≡ length (places_read b room)) × ((read_reply b room).count ≤ room)
  accepted-count = let k = count-is_places b room a.good in (k.0, k.2)

  pub accepted-place : (k : ℕ) → k < (read_reply b room).count → StandsAt b (first + 37 * k) (get_or (places_read b room) k blank_place)
  accepted-place k h = rw a.starts (place-stands b room k a.good h)

  -- it is read the same with room for all the places that a file can have
  pub other-room : read_of b most_places ≡ read_of b room
  other-room = room_enough b room most_places a.good (count-is_places b room a.good).1

  pub with_most : AcceptedFile b most_places first
  with_most = record {
    good = ap (λ (X : Reading). X.reply.number) other-room ∙ a.good;
    starts = a.starts ∙ ap (λ (X : Reading). length (sheet_record X.reply.sheet)) (sym other-room);
  }

-- there are as many as are counted, and no more than a file can have
pub counted : (p : Places) → (p.count ≡ length (places_read p.bytes.now most_places)) × (p.count ≤ most_places)
counted p = let n = accepted-count p.accepted in (p.counted ∙ n.0, omega (arith, n.1, p.counted))
