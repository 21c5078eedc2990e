-- Which received frame a wait takes (01, "Steps", "Frame"), and the numbers 7, 8 and 9 (01, "Numbers").
use Rattle.std.specs.Prelude.{ℕ, ◌+◌, Bool, ◌&&◌, ◌||◌, not, List, [], ◌∷◌, length, eqb, leb, ltb, Result, Ok, Err}
use Rattle.ground.specs.Choose.{choose}
use Rattle.refusal.specs.Refusal.{Told, says, ruled}
use Rattle.refusal.specs.declared.Refusal.{Refusal}
use Rattle.refusal.specs.declared.Refusal.TheVariants.{UnexpectedType, BadEcho, BadMethod}
use Rattle.frame.specs.Frame.{byte}
use Rattle.word.specs.Words.{word_at}
use Rattle.accept.specs.declared.Heard.{Heard}
use Rattle.accept.specs.declared.Heard.TheVariants.{Ack, Echo, Deliver, Route, Answer}

-- the payload of an ACK: 17 bytes, code 6, then the sender's MAC, here the record's (003, Table 49; 01, "An ACK has the form of 6.1's response table")
unfoldable pub is_ack : ℕ → List ℕ → Bool
is_ack mac payload = eqb (length payload) 17 && (eqb (byte payload 0) 6 && eqb (word_at payload 1) mac)

-- the session that follows the MAC (003, Table 49)
abbrev pub ack_session : List ℕ → ℕ
ack_session payload = word_at payload 9

-- an ACK has type 0 (003, Table 49)
abbrev pub ack_type : ℕ → Bool
ack_type message = eqb message 0

-- a request has type 1 to 127 (01, "Frame", "after an offer")
abbrev pub request_type : ℕ → Bool
request_type message = leb 1 message && leb message 127

-- the types in the list for a wait after an offer: an ACK's, or a request's (01, "Frame")
abbrev pub offer_types : ℕ → Bool
offer_types message = ack_type message || request_type message

-- after a list: type 0x94 (01, "Frame"; 003, Table 31)
abbrev pub list_types : ℕ → Bool
list_types message = eqb message 148

-- after a forward: first at most one ACK, then the response, type = request + 128; the response may also come at once (01, "Frame")
abbrev pub forward_types : ℕ → Bool → ℕ → Bool
forward_types request acked message = (ack_type message && not acked) || eqb message (request + 128)

-- after a return: an ACK's (01, "Frame")
abbrev pub return_types : ℕ → Bool
return_types message = ack_type message

-- 7: type not in the list for this wait, or type 0 that is no such ACK (01, "Numbers", 7)
abbrev pub unexpected : Bool → ℕ → Bool → Bool
unexpected listed message ack = not listed || (ack_type message && not ack)

-- after an offer: 7, then 9 for a request with method above 3; else an ACK, or a request for the host by method 0 and to be routed by 1 to 3 (01, "Frame", "Numbers")
unfoldable pub heard_after_offer : ℕ → ℕ → Bool → Result Heard Refusal
heard_after_offer message method ack =
    ruled ((unexpected (offer_types message) message ack, UnexpectedType) ∷ (request_type message && ltb 3 method, BadMethod) ∷ []) Err
    (Ok (choose (ack_type message) Ack (choose (eqb method 0) Deliver Route)))

-- after a list: 7, then 8 for another payload than the list sent; else its echo (01, "Frame", "Numbers")
unfoldable pub heard_after_list : ℕ → Bool → Result Heard Refusal
heard_after_list message same =
    ruled ((not (list_types message), UnexpectedType) ∷ (not same, BadEcho) ∷ []) Err (Ok Echo)

-- after a forward: 7; else an ACK, or the response (01, "Frame", "Numbers")
unfoldable pub heard_after_forward : ℕ → ℕ → Bool → Bool → Result Heard Refusal
heard_after_forward message request ack acked =
    ruled ((unexpected (forward_types request acked message) message ack, UnexpectedType) ∷ []) Err
    (Ok (choose (ack_type message) Ack Answer))

-- after a return: 7; else an ACK (01, "Frame", "Numbers")
unfoldable pub heard_after_return : ℕ → Bool → Result Heard Refusal
heard_after_return message ack = ruled ((unexpected (return_types message) message ack, UnexpectedType) ∷ []) Err (Ok Ack)

-- the place of each case among those that are taken
abbrev pub heard_place : Heard → ℕ
heard_place Ack = 1
heard_place Echo = 2
heard_place Deliver = 3
heard_place Route = 4
heard_place Answer = 5

-- what is said of a frame: the refusal's number alone (01, "Numbers"), or number 0 and the case's place
abbrev pub told_heard : Result Heard Refusal → Told
told_heard = says (λ h. heard_place h ∷ [])
