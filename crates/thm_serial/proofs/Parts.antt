-- Opening copies a packet's Length bytes to the start of its job's part of the store. So that part begins with the packet, and as a part ends where
-- the next begins and the packet is no longer than a part, every other part stays.
-- Assumes nothing.
use mathlib.Core.Path.{◌≡◌, refl, ◌∙◌}
use mathlib.Core.Logic.{◌≢◌}
use mathlib.Core.Bool.{Bool, true, false}
use mathlib.Core.List.{List}
use Prim.Native.Nat.{ℕ, ◌*◌, ◌≤◌, ◌<◌}
use native.Mathlib.Omega.{arith}
use borrow.Author.Tests.{ltb-true, ltb-false}
use lib.Dec.{ltb}
use lib.ListN.{length, take, drop}
use lib.Seq.{take-take, length-take-le}
use Rattle.std.specs.Prelude.{None}
use Rattle.octet_numbers.specs.Runs.{part, write}
use Rattle.octet_numbers.proofs.Write.{length-write}
use Rattle.octet_numbers.proofs.Part.{length_part, part_before, part-after, part-written}
use Rattle.packet_form.specs.Packet.{length_of}
use Rattle.packet_form.specs.Discards.{form_of, Sized}
use Rattle.packet_form.proofs.Forms.{form_sized}
use Rattle.packet_laws.proofs.SameBytes.{SamePacket, same_packet}
use Rattle.sched_state.specs.Scheduler.{part_of}

-- the first bytes of a part
front : (n m at : ℕ) (l : List ℕ) → n ≤ m → take n (part at m l) ≡ part at n l
unfolding part
front n m at l h = take-take n m (drop at l) h

module _ (p : List ℕ) (good : form_of p ≡ None) (store : List ℕ) (j : ℕ) where
  sized : Sized p (length_of p)
  sized = form_sized p good

  kept : length (take (length_of p) p) ≡ length_of p
  kept = length-take-le (length_of p) p sized.given

  read_back : j < 4 → length store ≡ 16384 → take (length_of p) (part_of j (write store (j * 4096) (take (length_of p) p))) ≡ take (length_of p) p
  read_back low size =
      front (length_of p) 4096 (j * 4096) (write store (j * 4096) (take (length_of p) p)) sized.high
      ∙ rw kept at (part-written store (j * 4096) (take (length_of p) p) (rw kept (omega (arith, sized.high))))

  -- the job's part is the packet
  pub opened_same : j < 4 → length store ≡ 16384 → SamePacket p (part_of j (write store (j * 4096) (take (length_of p) p)))
  opened_same low size =
      let after : List ℕ = write store (j * 4096) (take (length_of p) p) in
      let long : length after ≡ 16384 = length-write store (j * 4096) (take (length_of p) p) ∙ size in
      let room : length (part_of j after) ≡ 4096 = length_part (j * 4096) 4096 after (omega arith) in
      same_packet p (part_of j after) (length_of p) sized (rw room sized.high) (read_back low size)

  -- the others are kept
  pub opened_other : (i : ℕ) → i ≢ j → part_of i (write store (j * 4096) (take (length_of p) p)) ≡ part_of i store
  opened_other i ne = go (ltb i j) refl
    where
      go : (b : Bool) → ltb i j ≡ b → part_of i (write store (j * 4096) (take (length_of p) p)) ≡ part_of i store
      go true e = let l = ltb-true i j e in part_before store (j * 4096) (take (length_of p) p) (i * 4096) 4096 (omega arith)
      go false e =
          let l = ltb-false i j e in part-after store (j * 4096) (take (length_of p) p) (i * 4096) 4096 (rw kept (omega (arith, sized.high)))
