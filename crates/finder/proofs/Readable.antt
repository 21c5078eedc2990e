-- The finder takes for a frame exactly what the reader reads under the same subnet.
use Prim.Native.Nat.{ℕ, ◌+◌, ◌<◌}
use native.Mathlib.Omega.{arith}
use mathlib.Core.Path.{◌≡◌, sym, ap, ◌∙◌}
use mathlib.Core.Logic.{◌↔◌}
use mathlib.Core.Bool.{true}
use mathlib.Core.List.{List}
use lib.ListN.{take, drop, length-take, length-drop}
use lib.Seq.{get_or-take, get_or-drop, length-take-le}
use Rattle.refusal.specs.Refusal.{refuses}
use Rattle.frame.specs.Frame.{byte, takes_subnet, reading, ReadsWell}
use Rattle.frame.proofs.Told.{Whole, Read, read_whole}
use Rattle.frame.proofs.Subnets.{taken_reads}
use Rattle.finder.specs.Finder.{length_at, holds_frame}
use Rattle.finder.proofs.Begins.{Held, held, holds}

-- the bytes of the frame at start i
abbrev pub framed : List ℕ → ℕ → List ℕ
framed s i = take (12 + length_at s i) (drop i s)

module _ (ours : ℕ) (s : List ℕ) (i : ℕ) where
  framed_byte : (j : ℕ) → j < 12 → byte (framed s i) j ≡ byte s (i + j)
  framed_byte j l = get_or-take (12 + length_at s i) (drop i s) j 0 (omega arith) ∙ get_or-drop i s j 0

  framed_whole : Held ours s i → Whole (framed s i)
  framed_whole h =
      record {
        small = omega (arith, framed_byte 9 (omega arith), h.room.small);
        long = length-take-le (12 + length_at s i) (drop i s) (simp length-drop (omega (arith, h.room.inside))) ∙ ap (λ (n : ℕ). 12 + n) (sym (framed_byte 9 (omega arith)));
        good = h.good;
      }

  -- what is found reads well, with the fields and the length of its own bytes
  found_reads : holds_frame ours s i ≡ true → ReadsWell ours (framed s i)
  unfolding reading
  found_reads e = let h = held ours s i e in taken_reads ours (framed s i) (framed_whole h) refuses _ (ap (takes_subnet ours) (framed_byte 2 (omega arith)) ∙ h.taken)

  read_held : Read ours (framed s i) → Held ours s i
  read_held r =
      record {
        taken = ap (takes_subnet ours) (sym (framed_byte 2 (omega arith))) ∙ r.taken;
        room = record {
          small = omega (arith, framed_byte 9 (omega arith), r.bytes.small);
          inside = omega (arith, framed_byte 9 (omega arith), r.bytes.long, length-take (12 + length_at s i) (drop i s), length-drop i s);
        };
        good = r.bytes.good;
      }

  -- and what reads well is a frame to the finder: no other start holds one
  pub found_exactly : (holds_frame ours s i ≡ true) ↔ ReadsWell ours (framed s i)
  found_exactly = (found_reads, λ e. holds ours s i (read_held (read_whole ours (framed s i) _ e)))
