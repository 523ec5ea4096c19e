-- The jobs are sent back one after the other: after the first n of them, their places and marks are those that n single restarts leave.
-- Assumes nothing.
use mathlib.Core.List.{List}
use Prim.Native.Nat.{ℕ, zero, suc}
use Rattle.sched_rows.specs.Left.{restart_place, restart_mark}

abbrev pub places_to : List (List ℕ) → List (List ℕ) → ℕ → List (List ℕ)
places_to ks ps zero = ps
places_to ks ps (suc n) = restart_place ks n (places_to ks ps n)

abbrev pub marks_to : List (List ℕ) → List (List ℕ) → ℕ → List (List ℕ)
marks_to ks ms zero = ms
marks_to ks ms (suc n) = restart_mark ks n (marks_to ks ms n)
