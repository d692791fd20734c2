-- `kerbed::first_bytes` meets its contract.
use mathlib.Core.Path.{sym, ◌∙◌, ap}
use lib.ListN.{take}
use native.Mathlib.Omega.{arith}
use Rattle.number.specs.Read.{Read}
use Rattle.job.specs.declared.Job.{Job}
use Rattle.job_reader.specs.Record.{read_job}
use Rattle.job_writer.proofs.Reach.{first_bytes_lem}
use Rattle.swept.specs.Claims.{bytes_read}
use Rattle.kerb_reader.specs.Geometry.{read_geometry}
use Rattle.kerb_reader.specs.Claims.{FirstBytes as GeometryFirst}
use Rattle.kerb_reader.proofs.Places.{first_bytes_lem as geometry-first}
use Rattle.kerbed.specs.Kerbed.{kerbed_read, kerbed_of}
use Rattle.kerbed.specs.Claims.{FirstBytes}
use Rattle.kerbed.proofs.first_bytes.Goals as goal

-- the job's first bytes decide it, and the geometry's
decided : GeometryFirst → FirstBytes
unfolding kerbed_of
decided f s g =
    ap (λ (x : Read Job). kerbed_read x (read_geometry g)) (sym (first_bytes_lem bytes_read s (omega arith)))
    ∙ ap (kerbed_read (read_job (take bytes_read s))) (sym (f.decide g))

pub returns : goal.returns
returns c = decided geometry-first
