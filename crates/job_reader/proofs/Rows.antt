-- The worked record of 01, "Rigs to try": a single unit on a straight; and the same as a long job (02, N3). Assumes nothing.
use Prim.Native.Nat.{ℕ}
use mathlib.Core.Path.{◌≡◌, refl}
use mathlib.Core.List.{List, ◌∷◌}
use lib.ListN.{drop, set}
use lib.IntN.{pos}
use Rattle.number.specs.Read.{got, many}
use Rattle.number.specs.Number.{groups, read_number}
use Rattle.number.specs.Field.{field, signed_number, signed_field}
use Rattle.plane.specs.Length.{has_length}
use Rattle.job.specs.Allowed.{heading_allowed}
use Rattle.job.specs.Empty.{empty_body, empty_units, empty_elements}
use Rattle.job.specs.declared.Form.TheVariants.{Short, Long}
use Rattle.job.specs.declared.Curve.TheVariants.{Straight}
use Rattle.job.specs.declared.Job.{Job}
use Rattle.job_reader.specs.Worked.{worked_record}
use Rattle.job_reader.specs.Record.{read_body, read_unit, read_units, read_widths, read_vehicle, read_start, read_element, read_elements, read_path, read_record, read_job}

unfoldable pub worked_job : Job
worked_job = record {
  vehicle = record { form = Short; count = 1; units = set empty_units 0 (record { wheelbase = 50000; hitch = pos 0; fold = pos 0; body = empty_body }); overhang = 10000; front_half_width = 12000; rear_half_width = 12000 };
  start = record { x = pos 0; y = pos 0; gx = pos 0; gy = pos 1000000 };
  step = 5000;
  count = 1;
  elements = set empty_elements 0 (record { length = 65000; curve = Straight });
}

pub worked_read : read_job worked_record ≡ got worked_job 25
unfolding worked_job groups read_number field signed_number signed_field many has_length heading_allowed read_unit empty_units read_units read_widths read_vehicle read_start read_element empty_elements read_elements read_path read_record read_job
worked_read = refl

-- the same unit with a body, whose front overhang stands for the old one
unfoldable pub long_record : List ℕ
long_record = 0x0B ∷ 0xD0 ∷ 0x86 ∷ 0x03 ∷ 0x00 ∷ 0x00 ∷ 0x90 ∷ 0x4E ∷ 0x64 ∷ 0xE0 ∷ 0x5D ∷ 0x00 ∷ drop 8 worked_record

unfoldable pub long_job : Job
long_job = record {
  vehicle = record {
    form = Long;
    count = 1;
    units = set empty_units 0 (record { wheelbase = 50000; hitch = pos 0; fold = pos 0; body = record { front_overhang = 10000; rear_overhang = 100; half_width = 12000 } });
    overhang = 0;
    front_half_width = 12000;
    rear_half_width = 12000;
  };
  start = record { x = pos 0; y = pos 0; gx = pos 0; gy = pos 1000000 };
  step = 5000;
  count = 1;
  elements = set empty_elements 0 (record { length = 65000; curve = Straight });
}

pub long_read : read_job long_record ≡ got long_job 29
unfolding long_record long_job groups read_number field signed_number signed_field many has_length heading_allowed read_body read_unit empty_units read_units read_widths read_vehicle read_start read_element empty_elements read_elements read_path read_record read_job
long_read = refl
