-- What the panel's frames are like: how long, what a receiver reads in them, and that only 11 can be given for them.
use Prim.Native.Nat.{ℕ, ◌+◌, ◌≤◌, ◌<◌, ◌^◌}
use native.Mathlib.Omega.{arith}
use mathlib.Core.Path.{◌≡◌, refl, sym, ap, ◌∙◌}
use mathlib.Core.List.{List, [], ◌∷◌, ◌++◌, append-nil}
use lib.ListN.{length, get_or, take, length-append}
use lib.Dec.{ltb}
use borrow.Author.Tests.{le-ltb}
use Rattle.ground.specs.Choose.{choose}
use Rattle.ground.specs.Bytes.{laid}
use Rattle.ground.proofs.Choices.{choose_no}
use Rattle.ground.proofs.Laid.{taken_laid}
use Rattle.refusal.specs.declared.Refusal.{Refusal}
use Rattle.refusal.specs.declared.Refusal.TheVariants.{NoRoom}
use Rattle.refusal.specs.Refusal.{refuses, gives, ruled}
use Rattle.frame.specs.declared.Header.{Header}
use Rattle.frame.specs.Frame.{fields, reading, payload_of, frame_of, write_rules, writing, written_bytes}
use Rattle.frame.proofs.RoundTrip.{long, reads_back_own}
use Rattle.word.specs.Words.{bytes_of, word_at}
use Rattle.word.proofs.Words.{length_bytes, read_back}
use Rattle.board.specs.declared.Node.{Node}
use Rattle.board.specs.Table.{at}
use Rattle.setup.specs.declared.Setup.{Setup}
use Rattle.setup.specs.Setup.{address, subnet_of}
use Rattle.nodelist.specs.List.{list_for}
use Rattle.nodelist.proofs.Theorems.{for_at_most}
use Rattle.message.specs.Message.{to_board, own_header, signed, list_header, signed_frame, list_frame, ack_code, broadcast_header, discovery_header, every_kind, identify_header, assign_header, assignment}

-- a header of our own is one sent to the board
pub own_to_board : (s : Setup) (board version index message packet : ℕ) → own_header s board version index message packet ≡ to_board s board version (own_header s board version index message packet)
unfolding own_header to_board
own_to_board s board version index message packet = refl

-- the nine bytes of a header of our own, as they stand on the wire
pub own_fields : (s : Setup) (board version index message packet : ℕ) → fields (own_header s board version index message packet) ≡ address s board ∷ 255 ∷ subnet_of s version ∷ 0 ∷ 0 ∷ index ∷ 165 ∷ message ∷ packet ∷ []
unfolding own_header
own_fields s board version index message packet = refl

-- so a frame of our own reads back in the board's subnet
pub own_back : (s : Setup) (board version index message packet : ℕ) (p : List ℕ) → length p ≤ 240 → (reading (subnet_of s version) (frame_of (own_header s board version index message packet) p) ≡ gives (fields (own_header s board version index message packet) ++ length p ∷ [])) × (payload_of (subnet_of s version) (frame_of (own_header s board version index message packet) p) ≡ p)
unfolding own_header
own_back s board version index message packet p small = reads_back_own (own_header s board version index message packet) p small

-- the nine bytes of a broadcast's header
pub broadcast_fields : (message packet : ℕ) → fields (broadcast_header message packet) ≡ 0 ∷ 255 ∷ 0 ∷ 0 ∷ 0 ∷ 0 ∷ 165 ∷ message ∷ packet ∷ []
unfolding broadcast_header
broadcast_fields message packet = refl

-- an offer and an ACK have a payload of 17 bytes, and 29 in all
pub signed_size : (s : Setup) (code : ℕ) → length (signed s code) ≡ 17
unfolding signed
signed_size s code = simp (length-append, length_bytes)

pub signed_long : (s : Setup) (t : List Node) (board version code : ℕ) → length (signed_frame s t board version code) ≡ 29
signed_long s t board version code = long _ (signed s code) ∙ ap (λ (n : ℕ). 12 + n) (signed_size s code)

-- so a payload of ours is never too long for a frame
pub signed_small : (s : Setup) (code : ℕ) → length (signed s code) ≤ 240
signed_small s code = omega (arith, signed_size s code)

pub list_small : (version internal : ℕ) (t : List Node) → length (list_for version internal t) ≤ 240
list_small version internal t = omega (arith, for_at_most version internal t)

pub list_long : (s : Setup) (t : List Node) (board : ℕ) → length (list_frame s t board) ≤ 53
list_long s t board = omega (arith, long (list_header s board (at t board).version (at t board).index) (list_for (at t board).version s.internal t), for_at_most (at t board).version s.internal t)

-- an assignment has 19 bytes
pub assignment_size : (s : Setup) (position version mac session : ℕ) → length (assignment s position version mac session) ≡ 19
unfolding assignment
assignment_size s position version mac session = simp (length-append, length_bytes)

pub assignment_small : (s : Setup) (position version mac session : ℕ) → length (assignment s position version mac session) ≤ 240
assignment_small s position version mac session = omega (arith, assignment_size s position version mac session)

-- so the frames of the exchange by which a board joins have 13, 12 and 31
pub discovery_long : length (frame_of discovery_header every_kind) ≡ 13
discovery_long = long discovery_header every_kind

pub identify_long : (s : Setup) (position version index : ℕ) → length (frame_of (identify_header s position version index) []) ≡ 12
identify_long s position version index = long (identify_header s position version index) []

pub assign_long : (s : Setup) (position version mac session : ℕ) → length (frame_of assign_header (assignment s position version mac session)) ≡ 31
assign_long s position version mac session = long assign_header (assignment s position version mac session) ∙ ap (λ (n : ℕ). 12 + n) (assignment_size s position version mac session)

-- of a payload that is not too long, a writer can only be given 11
pub only_room {ℓ} : {A : Type ℓ} (p : List ℕ) (room : ℕ) (refusing : Refusal → A) (value : A) → length p ≤ 240 → ruled (write_rules p room) refusing value ≡ choose (ltb room (12 + length p)) (refusing NoRoom) value
only_room p room refusing value small = sym (choose_no _ _ _ _ (le-ltb 240 (length p) small) refl)

pub writing_small : (p : List ℕ) (room : ℕ) → length p ≤ 240 → writing p room ≡ choose (ltb room (12 + length p)) (refuses NoRoom) (gives ((12 + length p) ∷ []))
unfolding writing
writing_small p room small = only_room p room refuses _ small

pub written_small : (h : Header) (p : List ℕ) (room : ℕ) → length p ≤ 240 → written_bytes h p room ≡ choose (ltb room (12 + length p)) [] (frame_of h p)
unfolding written_bytes
written_small h p room small = only_room p room (λ r. []) _ small

-- where there is room the frame stands at the front of the output
module _ (h : Header) (p before : List ℕ) (small : length p ≤ 240) (room : 12 + length p ≤ length before) where
  pub front_is : take (12 + length p) (laid (written_bytes h p (length before)) before) ≡ frame_of h p
  front_is = rw (whole, ← long h p) (taken_laid (frame_of h p) before)
    where
      whole : written_bytes h p (length before) ≡ frame_of h p
      whole = written_small h p (length before) small ∙ sym (choose_no _ _ _ _ (le-ltb (length before) (12 + length p) room) refl)

  -- and its receiver, in the subnet to which it goes, reads the header's fields and the payload
  pub front_reads : reading h.subnet (take (12 + length p) (laid (written_bytes h p (length before)) before)) ≡ gives (fields h ++ length p ∷ [])
  front_reads = ap (reading h.subnet) front_is ∙ (reads_back_own h p small).0

  pub front_payload : payload_of h.subnet (take (12 + length p) (laid (written_bytes h p (length before)) before)) ≡ p
  front_payload = ap (payload_of h.subnet) front_is ∙ (reads_back_own h p small).1

-- the form of the R2R and of its ACK (003, Tables 48 and 49): the code at offset 0, the MAC at 1 to 8, the session at 9 to 16
pub record Form (code mac session : ℕ) (p : List ℕ) : Type 0 where
  pub size : length p ≡ 17
  pub first : get_or p 0 0 ≡ code
  pub mac_at : word_at p 1 ≡ mac
  pub session_at : word_at p 9 ≡ session

pub signed_form : (s : Setup) (code : ℕ) → s.mac < 2 ^ 64 → s.session < 2 ^ 64 → Form code s.mac s.session (signed s code)
unfolding signed
signed_form s code m n =
    record {
      size = signed_size s code;
      first = refl;
      mac_at = read_back (code ∷ []) (bytes_of 8 s.session) s.mac m;
      session_at = at_nine;
    }
  where
    nine : length (code ∷ bytes_of 8 s.mac) ≡ 9
    nine = omega (arith, length_bytes 8 s.mac)

    at_nine : word_at (code ∷ (bytes_of 8 s.mac ++ bytes_of 8 s.session)) 9 ≡ s.session
    at_nine = rw (← nine, ← append-nil (bytes_of 8 s.session)) (read_back (code ∷ bytes_of 8 s.mac) [] s.session n)

-- the ACK that we write has the form of Table 49, with our MAC and our session
pub ack_form : (s : Setup) → s.mac < 2 ^ 64 → s.session < 2 ^ 64 → Form 6 s.mac s.session (signed s ack_code)
ack_form s m n = signed_form s ack_code m n
