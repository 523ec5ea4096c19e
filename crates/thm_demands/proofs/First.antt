-- Demand 1: whole requests, the writer and the reply check, the calls on a scheduler, and what C holds of one each have it by their own
-- definitions; here they are one record.
-- Assumes nothing.
use Rattle.thm_demands.specs.Demand1.{Demand1}
use Rattle.thm_demands.proofs.Handled.{handling}
use Rattle.thm_demands.proofs.Exchanged.{exchanging}
use Rattle.thm_demands.proofs.Scheduled.{scheduling}
use Rattle.thm_demands.proofs.HeldArrays.{holding}

pub demand1 : Demand1
demand1 = record { handling = handling; exchanging = exchanging; scheduling = scheduling; holding = holding }
