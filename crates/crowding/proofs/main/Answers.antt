-- What is printed ends within its buffer.
use Rattle.programs.proofs.Listings.{stands_within}
use Rattle.crowding.proofs.main.Goals as goal

pub print_report_unchecked-requires-clause-within : goal.print_report_unchecked-requires-clause-within
print_report_unchecked-requires-clause-within c = λ read text end printed stands. stands_within _ _ stands
