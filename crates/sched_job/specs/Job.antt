-- A request in work (document 01, "The desk": "A job holds the four chaining words and the 64 slot marks beside its place").
-- Assumes nothing.
use Rattle.std.specs.Prelude.{Bool, true, false, ℕ, ◌+◌, ◌≤◌, ◌<◌, replicate}
use Rattle.md5_ops.specs.Md5.{initial}
use Rattle.packet_blocks.specs.Block.{block_count}
use Rattle.table_slots.specs.Marks.{no_marks}
use Rattle.packet_words.specs.Words.{words_of}
use Rattle.sched_job.specs.declared.Job as D
use Rattle.sched_job.specs.declared.Stage as S
use Rattle.sched_job.specs.declared.Stage.TheVariants.{Free, Hash, Check, Match}

-- a free job: all its fields zero, so that equal histories give equal schedulers
abbrev pub free_job : D.Job
free_job = record { stage = Free; words = replicate 4 0; marks = no_marks; length = 0; clock = 0 }

-- a job just opened, with the packet's Length and the clock of its opening
abbrev pub first_job : ℕ → ℕ → D.Job
first_job n clock = record { stage = Hash 0; words = words_of initial; marks = no_marks; length = n; clock = clock }

-- a job is open exactly if it is not free
abbrev pub is_open : S.Stage → Bool
is_open Free = false
is_open (Hash k) = true
is_open Check = true
is_open (Match k) = true

-- at slot 0, marks cleared
abbrev pub at_first_slot : D.Job → D.Job
at_first_slot j = record { stage = Match 0; words = j.words; marks = no_marks; length = j.length; clock = j.clock }

-- a job in Match or awaiting Commit goes back there
abbrev pub restarted_at : S.Stage → D.Job → D.Job
restarted_at Free j = j
restarted_at (Hash k) j = j
restarted_at Check j = j
restarted_at (Match k) j = at_first_slot j

unfoldable pub restarted : D.Job → D.Job
restarted j = restarted_at j.stage j

-- what holds of every job that opening and stepping can have produced, whatever was written to table and store: a block still to hash is one of its message
abbrev pub Placed : ℕ → S.Stage → ℕ → Type 0
Placed secret Free n = Unit {0}
Placed secret (Hash k) n = (20 ≤ n) × (n ≤ 4096) × (k < block_count (n + secret))
Placed secret Check n = Unit {0}
Placed secret (Match k) n = Unit {0}

-- of a job under a secret of so many bytes
abbrev pub JobOurs : ℕ → D.Job → Type 0
JobOurs secret j = Placed secret j.stage j.length
