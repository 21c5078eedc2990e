-- Ready headers (02, C-19): a header with the sums over its fields, and the frame written from it.
use Rattle.std.specs.Prelude.{ℕ, ◌≡◌, List, [], ◌∷◌, ◌++◌, length, drop}
use Rattle.refusal.specs.Refusal.{ruled}
use Rattle.fletcher.specs.declared.Sums.{Sums}
use Rattle.fletcher.specs.Fletcher.{sums}
use Rattle.fletcher.specs.Joined.{run_of, joined, started, sums_of, closing}
use Rattle.frame.specs.declared.Header.{Header}
use Rattle.frame.specs.declared.Ready.{Ready}
use Rattle.frame.specs.Frame.{fields, body, write_rules, written_bytes}

-- a header made ready: its nine fields and the sums over them, as they are published (02, C-19)
abbrev pub ready_of : Header → Ready
ready_of h = record { header = h; first = (sums (fields h)).first; second = (sums (fields h)).second }

-- the sums that a ready header keeps (02, C-19)
abbrev pub kept : Ready → Sums
kept r = record { first = r.first; second = r.second }

-- the frame of a ready header and a payload: to the kept sums "add the payload's sums", the length byte's with them (02, C-19)
unfoldable pub ready_frame : Ready → List ℕ → List ℕ
ready_frame r p = body r.header p ++ closing (sums_of (joined (started (kept r)) (run_of (length p ∷ p))))

-- the bytes written at the front of the room, by the rules of `written_bytes`: that frame, or none on a refusal (01, "A refusal .. writes nowhere")
unfoldable pub ready_bytes : Ready → List ℕ → ℕ → List ℕ
ready_bytes r p room = ruled (write_rules p room) (λ q. []) (ready_frame r p)

-- "write a frame from a ready header with the same bytes as before" (02, C-19)
abbrev pub SameAsWrite : Type 0
SameAsWrite = (h : Header) (p : List ℕ) (room : ℕ) → ready_bytes (ready_of h) p room ≡ written_bytes h p room

-- what `write` and `write_ready` have in common: the check bytes close the sums s, joined with the run from a place on (house)
unfoldable pub closed_bytes : Header → Sums → ℕ → List ℕ → ℕ → List ℕ
closed_bytes h s from p room =
    ruled (write_rules p room) (λ q. []) (body h p ++ closing (sums_of (joined (started s) (run_of (drop from (body h p))))))
