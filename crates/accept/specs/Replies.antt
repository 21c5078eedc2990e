-- Which received frame a wait of the exchange takes by which a board joins (02, C-11; 003, 6.6 to 6.8), and the numbers 7 and 8 in it.
use Rattle.std.specs.Prelude.{ℕ, Bool, ◌&&◌, ◌||◌, not, List, [], ◌∷◌, length, eqb, leb, Result, Ok, Err}
use Rattle.ground.specs.Choose.{choose}
use Rattle.refusal.specs.Refusal.{Told, says, ruled}
use Rattle.refusal.specs.declared.Refusal.{Refusal}
use Rattle.refusal.specs.declared.Refusal.TheVariants.{UnexpectedType, BadEcho}
use Rattle.frame.specs.Frame.{byte}
use Rattle.word.specs.Words.{word_at}
use Rattle.accept.specs.declared.Reply.{Reply}
use Rattle.accept.specs.declared.Reply.TheVariants.{Discovered, Present, Identified, Assigned}
use Rattle.accept.specs.Accept.{ack_type, is_ack}

-- the responses to Node Discovery, Set Address and Get Node ID: 0xF9 to 0xFB (02, C-11)
abbrev pub reply_type : ℕ → Bool
reply_type message = leb 249 message && leb message 251

-- a Node Discovery Response: 0xF9 with 18 bytes (003, Table 58)
abbrev pub is_discovery : ℕ → List ℕ → Bool
is_discovery message payload = eqb message 249 && eqb (length payload) 18

-- a Get Node ID Response: 0xFB with 17 bytes (003, Table 62)
abbrev pub is_identity : ℕ → List ℕ → Bool
is_identity message payload = eqb message 251 && eqb (length payload) 17

-- the MAC that follows the first byte, in an ACK and in a Get Node ID Response alike (003, Tables 49 and 62)
abbrev pub mac_after : List ℕ → ℕ
mac_after payload = word_at payload 1

-- an ACK of 6.1's form, of any MAC: there may be no record (02, C-11)
abbrev pub is_any_ack : ℕ → List ℕ → Bool
is_any_ack message payload = ack_type message && is_ack (mac_after payload) payload

-- in search: 7, else the discovery's response (02, C-11)
unfoldable pub heard_in_search : ℕ → List ℕ → Result Reply Refusal
heard_in_search message payload = ruled ((not (is_discovery message payload), UnexpectedType) ∷ []) Err (Ok Discovered)

-- in identify: 7, else at most one ACK, or the response, at once or after it (02, C-11)
unfoldable pub heard_in_identify : ℕ → List ℕ → Bool → Result Reply Refusal
heard_in_identify message payload acked =
    ruled ((not ((is_any_ack message payload && not acked) || is_identity message payload), UnexpectedType) ∷ []) Err
    (Ok (choose (ack_type message) Present Identified))

-- Set Address's payload and its echo: address, subnet, MAC, session, 1 (003, Tables 59 and 60)
unfoldable pub is_assignment : ℕ → ℕ → ℕ → ℕ → List ℕ → Bool
is_assignment address subnet mac session payload =
    eqb (length payload) 19 &&
    (eqb (byte payload 0) address &&
    (eqb (byte payload 1) subnet && (eqb (word_at payload 2) mac && (eqb (word_at payload 10) session && eqb (byte payload 18) 1))))

-- in assign: 7, then 8 for another payload than the one sent; else its echo (02, C-11; 003, Table 60)
unfoldable pub heard_in_assign : ℕ → Bool → Result Reply Refusal
heard_in_assign message same =
    ruled ((not (eqb message 250), UnexpectedType) ∷ (not same, BadEcho) ∷ []) Err (Ok Assigned)

-- the place of each case in the exchange
abbrev pub reply_place : Reply → ℕ
reply_place Discovered = 1
reply_place Present = 2
reply_place Identified = 3
reply_place Assigned = 4

-- what is said of a frame: the refusal's number alone (01, "Numbers"), or number 0 and the case's place
abbrev pub told_reply : Result Reply Refusal → Told
told_reply = says (λ r. reply_place r ∷ [])
