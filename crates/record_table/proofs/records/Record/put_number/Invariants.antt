-- `record_table::records::Record::put_number` is safe and ends.
use Rattle.record_table.proofs.records.Record.put_number.Given as goal

abbrev pub decreases-loop-rest : goal.decreases-loop-rest
decreases-loop-rest l = l.rest
