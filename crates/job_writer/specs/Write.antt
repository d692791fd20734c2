-- The bytes of a job, field by field in the order of the table of 01, "The job record", and of 02, N3.
use Rattle.std.specs.Prelude.{ℕ, List, [], ◌++◌, take}
use Rattle.number.specs.Read.{write_many}
use Rattle.number.specs.Number.{write_number}
use Rattle.number.specs.Signed.{write_signed}
use Rattle.job.specs.Announced.{announcing}
use Rattle.job.specs.Curves.{radius_of}
use Rattle.job.specs.declared.Body.{Body}
use Rattle.job.specs.declared.Form.{Form}
use Rattle.job.specs.declared.Form.TheVariants.{Short, Long}
use Rattle.job.specs.declared.Unit.{Unit as VehicleUnit}
use Rattle.job.specs.declared.Vehicle.{Vehicle}
use Rattle.job.specs.declared.Start.{Start}
use Rattle.job.specs.declared.Element.{Element}
use Rattle.job.specs.declared.Job.{Job}

abbrev pub write_three : ℕ → ℕ → ℕ → List ℕ
write_three x y z = write_number x ++ (write_number y ++ write_number z)

-- a short job's bodies are not written
abbrev pub write_body : Form → Body → List ℕ
write_body Short b = []
write_body Long b = write_three b.front_overhang b.rear_overhang b.half_width

abbrev pub write_unit : Form → VehicleUnit → List ℕ
write_unit form u = write_number u.wheelbase ++ (write_signed u.hitch ++ (write_signed u.fold ++ write_body form u.body))

abbrev pub write_widths : Vehicle → List ℕ
write_widths v = write_three v.overhang v.front_half_width v.rear_half_width

-- the number that announces them, and the units in use
abbrev pub write_vehicle : Vehicle → List ℕ
write_vehicle v = write_number (announcing v.form v.count) ++ (write_many (write_unit v.form) (take v.count v.units) ++ write_widths v)

abbrev pub write_start : Start → List ℕ
write_start s = write_signed s.x ++ (write_signed s.y ++ (write_signed s.gx ++ write_signed s.gy))

abbrev pub write_element : Element → List ℕ
write_element e = write_number e.length ++ write_signed (radius_of e.curve)

-- the elements in use
abbrev pub write_path : Job → List ℕ
write_path j = write_number j.step ++ (write_number j.count ++ write_many write_element (take j.count j.elements))

unfoldable pub write_job : Job → List ℕ
write_job j = write_vehicle j.vehicle ++ (write_start j.start ++ write_path j)
