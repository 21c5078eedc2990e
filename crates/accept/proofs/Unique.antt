-- The contracts, as they stand in the source, leave one result for each input.
use mathlib.Core.Path.{◌≡◌, sym, ◌∙◌}
use mathlib.Core.Bool.{Bool}
use Prim.Native.Nat.{ℕ}
use base.Fml.{Lft}
use Rattle.std.specs.Prelude.{Result}
use Rattle.refusal.specs.declared.Refusal.{Refusal}
use Rattle.accept.specs.declared.Heard.{Heard}
use Rattle.accept.specs.declared.Reply.{Reply}
use Rattle.accept.proofs.is_ack.Reads as is-ack
use Rattle.accept.proofs.ack_session.Reads as ack-session
use Rattle.accept.proofs.after_offer.Reads as after_offer_lem
use Rattle.accept.proofs.after_list.Reads as after_List
use Rattle.accept.proofs.after_forward.Reads as after_forward_lem
use Rattle.accept.proofs.after_return.Reads as after_return_lem
use Rattle.accept.proofs.in_search.Reads as in-search
use Rattle.accept.proofs.in_identify.Reads as in_identify_lem
use Rattle.accept.proofs.is_assignment.Reads as is-assignment
use Rattle.accept.proofs.in_assign.Reads as in-assign

pub unique_is_ack : (κs : Lft × Unit {0}) (a s t : _) (r q : Bool) → is-ack.Post κs a r s → is-ack.Post κs a q t → r ≡ q
unique_is_ack κs a s t r q p p' = p ∙ sym p'

pub unique_ack_session : (κs : Lft × Unit {0}) (a s t : _) (r q : ℕ) → ack-session.Post κs a r s → ack-session.Post κs a q t → r ≡ q
unique_ack_session κs a s t r q p p' = p ∙ sym p'

pub unique_after_offer : (a s t : _) (r q : Result Heard Refusal) → after_offer_lem.Post tt a r s → after_offer_lem.Post tt a q t → r ≡ q
unique_after_offer a s t r q p p' = p ∙ sym p'

pub unique_after_list : (a s t : _) (r q : Result Heard Refusal) → after_List.Post tt a r s → after_List.Post tt a q t → r ≡ q
unique_after_list a s t r q p p' = p ∙ sym p'

pub unique_after_forward : (a s t : _) (r q : Result Heard Refusal) → after_forward_lem.Post tt a r s → after_forward_lem.Post tt a q t → r ≡ q
unique_after_forward a s t r q p p' = p ∙ sym p'

pub unique_after_return : (a s t : _) (r q : Result Heard Refusal) → after_return_lem.Post tt a r s → after_return_lem.Post tt a q t → r ≡ q
unique_after_return a s t r q p p' = p ∙ sym p'

pub unique_in_search : (κs : Lft × Unit {0}) (a s t : _) (r q : Result Reply Refusal) → in-search.Post κs a r s → in-search.Post κs a q t → r ≡ q
unique_in_search κs a s t r q p p' = p ∙ sym p'

pub unique_in_identify : (κs : Lft × Unit {0}) (a s t : _) (r q : Result Reply Refusal) → in_identify_lem.Post κs a r s → in_identify_lem.Post κs a q t → r ≡ q
unique_in_identify κs a s t r q p p' = p ∙ sym p'

pub unique_is_assignment : (κs : Lft × Unit {0}) (a s t : _) (r q : Bool) → is-assignment.Post κs a r s → is-assignment.Post κs a q t → r ≡ q
unique_is_assignment κs a s t r q p p' = p ∙ sym p'

pub unique_in_assign : (a s t : _) (r q : Result Reply Refusal) → in-assign.Post tt a r s → in-assign.Post tt a q t → r ≡ q
unique_in_assign a s t r q p p' = p ∙ sym p'
