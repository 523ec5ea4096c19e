-- Whatever C holds reads as a scheduler of ours: the lengths are brought inside their limits, and a block to hash that is none of the message reads as free.
-- Assumes nothing.
use mathlib.Core.Bool.{Bool, true, false, cond, ◌&&◌}
use mathlib.Core.List.{List, []}
use mathlib.Core.Path.{◌≡◌, refl, sym, subst}
use Prim.Native.Nat.{ℕ, zero, suc, ◌+◌, ◌≤◌, ◌<◌}
use lib.Dec.{ltb, leb, eqb}
use lib.ListN.{length, get_or}
use native.Mathlib.Omega.{arith}
use borrow.Author.Tests.{ltb-true, ltb-false, leb-true}
use Rattle.octet_numbers.proofs.Equality.{and_both}
use Rattle.packet_blocks.specs.Block.{block_count}
use Rattle.sched_job.specs.declared.Stage.TheVariants.{Free, Hash, Check, Match}
use Rattle.sched_job.specs.Job.{Placed, JobOurs}
use Rattle.sched_state.specs.Scheduler.{Ours, job_at}
use Rattle.sched_rows.specs.Layout.{Held, between, block_in, stage_in, job_of, jobs_in, secret_in, scheduler_in}

module _ (low high n : ℕ) (fit : low ≤ high) where
  limits_by : (f g : Bool) → ltb n low ≡ f → ltb high n ≡ g → (low ≤ cond f low (cond g high n)) × (cond f low (cond g high n) ≤ high)
  limits_by true g e e' = (omega arith, fit)
  limits_by false true e e' = (fit, omega arith)
  limits_by false false e e' = (ltb-false n low e, ltb-false high n e')

  pub limits : (low ≤ between low high n) × (between low high n ≤ high)
  unfolding between
  limits = limits_by (ltb n low) (ltb high n) refl refl

-- a length as the code has it
pub within : (low high r n : ℕ) → r ≡ between low high n → low ≤ high → r ≤ high
within low high r n e fit = subst (λ (z : ℕ). z ≤ high) (sym e) (limits low high n fit).1

module _ (size place n : ℕ) where
  block_one : block_in size n place ≡ true → (20 ≤ n) × (n ≤ 4096) × (place < block_count (n + size))
  unfolding block_in
  block_one e =
      let p = and_both (leb 20 n) (leb n 4096 && ltb place (block_count (n + size))) e in
      let q = and_both (leb n 4096) (ltb place (block_count (n + size))) p.1 in
      (leb-true 20 n p.0, leb-true n 4096 q.0, ltb-true place (block_count (n + size)) q.1)

  placed_by : (one two three b : Bool) → block_in size n place ≡ b
      → Placed size (cond one (cond b (Hash place) Free) (cond two Check (cond three (Match place) Free))) n
  placed_by true two three true e = block_one e
  placed_by true two three false e = tt
  placed_by false true three b e = tt
  placed_by false false true b e = tt
  placed_by false false false b e = tt

  placed : (kind : ℕ) → Placed size (stage_in size kind place n) n
  unfolding stage_in
  placed kind = placed_by (eqb kind 1) (eqb kind 2) (eqb kind 3) (block_in size n place) refl

module _ (z : ℕ) (ws ks ps ms : List (List ℕ)) where
  of_ours : (i : ℕ) → JobOurs z (job_of z ws ks ps ms i)
  unfolding job_of
  of_ours i = placed z (get_or (get_or ps i []) 0 0) (get_or (get_or ps i []) 1 0) (get_or (get_or ks i []) 0 0)

  pub each_ours : (j : ℕ) → JobOurs z (job_at (jobs_in z ws ks ps ms) j)
  unfolding jobs_in
  each_ours zero = of_ours 0
  each_ours (suc zero) = of_ours 1
  each_ours (suc (suc zero)) = of_ours 2
  each_ours (suc (suc (suc zero))) = of_ours 3
  each_ours (suc (suc (suc (suc j)))) = tt

  jobs_four : length (jobs_in z ws ks ps ms) ≡ 4
  unfolding jobs_in
  jobs_four = refl

pub read_ours : (h : Held) → length h.secret ≡ 64 → length h.nas_id ≡ 32 → Ours (scheduler_in h)
read_ours h secret nas_id =
    let s = limits 1 64 h.secret_size (omega arith) in
    let n = limits 1 32 h.name_size (omega arith) in
    record {
      secret_low = s.0;
      secret_high = s.1;
      name_low = n.0;
      name_high = n.1;
      secret_room = secret;
      name_room = nas_id;
      four = jobs_four (secret_in h.secret_size) h.words h.kinds h.places h.marks;
      each = each_ours (secret_in h.secret_size) h.words h.kinds h.places h.marks;
    }
