-- Making a scheduler (document 01, "The desk": "the secret and the gate's identity, fixed when the desk is made").
-- Assumes nothing.
use Rattle.std.specs.Prelude.{length, replicate}
use Rattle.octet_numbers.specs.Runs.{write}
use Rattle.nas_settings.specs.Settings.{Settings}
use Rattle.sched_job.specs.Job.{free_job}
use Rattle.sched_state.specs.declared.Scheduler as D

-- four free jobs; secret and name with zeros after them
unfoldable pub made_of : Settings → D.Scheduler
made_of g =
    record {
      jobs = replicate 4 free_job;
      secret = write (replicate 64 0) 0 g.secret;
      secret_size = length g.secret;
      nas_ip = g.nas_ip;
      nas_id = write (replicate 32 0) 0 g.nas_id;
      nas_id_size = length g.nas_id;
    }
