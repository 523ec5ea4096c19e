-- Marks are copied whole: over as many bytes they are written as they are.
-- Assumes nothing.
use mathlib.Core.Path.{◌≡◌, sym, ◌∙◌}
use mathlib.Core.Bool.{Bool, cond}
use mathlib.Core.List.{List}
use Prim.Native.Nat.{ℕ}
use borrow.Author.Tests.{eq-eqb}
use lib.ListN.{length}
use Rattle.probe_table.specs.Answers.{marks_room}
use Rattle.octet_numbers.specs.Runs.{write}
use Rattle.octet_numbers.proofs.Write.{write_whole}
use Rattle.table_slots.specs.Marks.{marks_after}
use Rattle.table_slots.proofs.Marked.{length_marks}

-- u is a copy of the marks m, written over as many bytes b
pub same_marks : (u m b : List ℕ) → u ≡ write b 0 m → length m ≡ 64 → length b ≡ 64 → u ≡ m
same_marks u m b e h l = e ∙ write_whole b m (h ∙ sym l)

-- all marks of a walk, where there is room for them
pub marks_copied : (u b m : List ℕ) (f : ℕ → Bool) (n : ℕ) → u ≡ write b 0 m → m ≡ marks_after f n → length b ≡ 64
    → u ≡ cond (marks_room b) (marks_after f n) b
unfolding marks_room
marks_copied u b m f n e g l = rw (eq-eqb (length b) 64 l) (same_marks u m b e (rw g (length_marks f n)) l ∙ g)
