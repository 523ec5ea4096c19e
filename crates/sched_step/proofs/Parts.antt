-- What is done with job j's part of the store, in the words of the whole store.
-- Assumes nothing.
use mathlib.Core.Path.{◌≡◌, ap, ◌∙◌}
use mathlib.Core.List.{List}
use Prim.Native.Nat.{ℕ}
use lib.ListN.{length, set}
use Rattle.nas_settings.specs.Settings.{Settings}
use Rattle.sched_job.specs.declared.Moved as M
use Rattle.sched_job.specs.Moves.{moved_table, reply_after}
use Rattle.sched_state.specs.Scheduler.{job_at, part_of}
use Rattle.sched_rows.specs.Layout.{kind_row, jobs_in}
use Rattle.sched_step.specs.Moved.{rows_moved, places_after, marks_after}

module _ (g : Settings) (ws ks ps ms : List (List ℕ)) (j : ℕ) (q t store : List ℕ) (part : q ≡ part_of j store) where
  pub part_table : (u : List ℕ) → u ≡ moved_table g (job_at (jobs_in (length g.secret) ws ks ps ms) j) q t
      → u ≡ moved_table g (job_at (jobs_in (length g.secret) ws ks ps ms) j) (part_of j store) t
  part_table u is = rw (← part) is

  abbrev whole : M.Moved
  whole = rows_moved g ws ks ps ms j (part_of j store) t

  module _ (m : M.Moved) (is : m ≡ rows_moved g ws ks ps ms j q t) where
    same : m ≡ whole
    same = rw (← part) is

    pub part_ending : m.ending ≡ whole.ending
    part_ending = ap (λ (x : M.Moved). x.ending) same

    pub part_words : (l : List (List ℕ)) → l ≡ set ws j m.job.words → l ≡ set ws j whole.job.words
    part_words l e = e ∙ ap (λ (x : M.Moved). set ws j x.job.words) same

    pub part_kinds : (l : List (List ℕ)) → l ≡ set ks j (kind_row m.job) → l ≡ set ks j (kind_row whole.job)
    part_kinds l e = e ∙ ap (λ (x : M.Moved). set ks j (kind_row x.job)) same

    pub part_places : (l : List (List ℕ)) → l ≡ places_after m j ks ps → l ≡ places_after whole j ks ps
    part_places l e = e ∙ ap (λ (x : M.Moved). places_after x j ks ps) same

    pub part_marks : (l : List (List ℕ)) → l ≡ marks_after m j ks ms → l ≡ marks_after whole j ks ms
    part_marks l e = e ∙ ap (λ (x : M.Moved). marks_after x j ks ms) same

    pub part_reply : (b u : List ℕ) → u ≡ reply_after g.secret q b m.ending → u ≡ reply_after g.secret (part_of j store) b whole.ending
    part_reply b u e = e ∙ ap (λ (x : List ℕ). reply_after g.secret x b m.ending) part ∙ ap (λ (x : M.Moved). reply_after g.secret (part_of j store) b x.ending) same
