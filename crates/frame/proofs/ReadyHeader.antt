-- The frame from a ready header is the frame as before (02, C-19), by the law of joined sums.
use Prim.Native.Nat.{ℕ}
use mathlib.Core.Path.{◌≡◌, sym, ap, ◌∙◌}
use mathlib.Core.List.{List, [], ◌∷◌, ◌++◌}
use lib.ListN.{length}
use Rattle.ground.specs.Bytes.{laid}
use Rattle.refusal.specs.Refusal.{ruled}
use Rattle.fletcher.specs.declared.Run.{Run}
use Rattle.fletcher.specs.Fletcher.{seed}
use Rattle.fletcher.specs.Joined.{sums_of, closing}
use Rattle.fletcher.proofs.Joined.{joining}
use Rattle.frame.specs.declared.Header.{Header}
use Rattle.frame.specs.declared.Ready.{Ready}
use Rattle.frame.specs.Frame.{fields, body, frame_of, write_rules, written_bytes}
use Rattle.frame.specs.ReadyHeader.{kept, ready_frame, ready_bytes, SameAsWrite, closed_bytes}

-- what is written of a frame whose check bytes close the sums of a run
abbrev closed_by : Header → List ℕ → ℕ → Run → List ℕ
closed_by h p room r = ruled (write_rules p room) (λ q. []) (body h p ++ closing (sums_of r))

-- "the same bytes as before" (02, C-19): the fields' published sums joined with the run of all after them are the whole's; the seed entered once
pub same_as_write : SameAsWrite
unfolding ready_bytes ready_frame written_bytes frame_of
same_as_write h p room = ap (closed_by h p room) (sym (joining.seed_first (fields h) (length p ∷ p)))

-- `write`'s way to these bytes: from the seed, over all
pub from_seed : (h : Header) (p o u : List ℕ) → u ≡ laid (closed_bytes h seed 0 p (length o)) o → u ≡ laid (written_bytes h p (length o)) o
unfolding closed_bytes written_bytes frame_of
from_seed h p o u e = e ∙ ap (λ (r : Run). laid (closed_by h p (length o) r) o) (joining.seed_once (body h p))

-- `write_ready`'s: from the kept sums, over what stands from place 9 on
pub from_kept : (r : Ready) (p o u : List ℕ) → u ≡ laid (closed_bytes r.header (kept r) 9 p (length o)) o → u ≡ laid (ready_bytes r p (length o)) o
unfolding closed_bytes ready_bytes ready_frame
from_kept r p o u e = e
