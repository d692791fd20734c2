-- `offered::record_first` meets its contract.
use mathlib.Core.Path.{refl}
use Rattle.offered.specs.Offered.{offered_of}
use Rattle.offered.specs.Claims.{RecordFirst}
use Rattle.offered.proofs.record_first.Goals as goal

first : RecordFirst
unfolding offered_of
first = record {
  own = λ s n k e b. rw e refl;
  lent = λ s n k e b p r a p' r' h. (rw e at h.answer, rw e at h.path, rw e at h.reaches);
}

pub returns : goal.returns
returns c = first
