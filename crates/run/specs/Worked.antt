-- The job of 01, "Rigs to try", by value, and what it comes to: a single unit on a straight.
use Rattle.std.specs.Prelude.{set, Some, pos, negsuc}
use Rattle.job.specs.declared.Form.TheVariants.{Short}
use Rattle.job.specs.declared.Curve.TheVariants.{Straight}
use Rattle.job.specs.declared.Job.{Job}
use Rattle.job.specs.Empty.{empty_body, empty_units, empty_elements}
use Rattle.run.specs.declared.Finish.{Finish}

abbrev pub worked_job : Job
worked_job = record {
  vehicle = record {
    form = Short;
    count = 1;
    units = set empty_units 0 (record { wheelbase = 50000; hitch = pos 0; fold = pos 0; body = empty_body });
    overhang = 10000;
    front_half_width = 12000;
    rear_half_width = 12000;
  };
  start = record { x = pos 0; y = pos 0; gx = pos 0; gy = pos 1000000 };
  step = 5000;
  count = 1;
  elements = set empty_elements 0 (record { length = 65000; curve = Straight });
}

-- "steps 13", "widest 3 24000 -12000 12000", "front 0 65000"
abbrev pub worked_finish : Finish
worked_finish = record {
  steps = 13;
  widest = Some (record { station = 3; width = pos 24000; left = negsuc 11999; right = pos 12000 });
  front = record { x = pos 0; y = pos 65000 };
}
