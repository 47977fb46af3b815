use Rattle.visits.proofs.Told.{found_answer}
use Rattle.visits.proofs.looking.lookup_bitmap.Goals as goal

pub returns : goal.returns
returns c = let p = found_answer _ _ _ _ _ c.in_ok-found.found c.from.ensures c.in_ok-found.ensures.exact in record { exact = p.0; meaning = p.1 }
