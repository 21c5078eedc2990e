-- What a case says tells it apart.
use Prim.Native.Nat.{ℕ, ◌-◌}
use mathlib.Core.Path.{◌≡◌, refl, sym, ap, ◌∙◌}
use mathlib.Core.List.{List, [], ◌∷◌}
use lib.ListN.{get_or}
use Rattle.std.specs.Prelude.{Result}
use Rattle.refusal.specs.declared.Refusal.{Refusal}
use Rattle.refusal.proofs.Numbers.{same_said}
use Rattle.accept.specs.declared.Heard.{Heard}
use Rattle.accept.specs.declared.Heard.TheVariants.{Ack, Echo, Deliver, Route, Answer}
use Rattle.accept.specs.Accept.{heard_place, told_heard}
use Rattle.accept.specs.declared.Reply.{Reply}
use Rattle.accept.specs.declared.Reply.TheVariants.{Discovered, Present, Identified, Assigned}
use Rattle.accept.specs.Replies.{reply_place, told_reply}

-- the case that a place names, of those in the order of their places
at_place : {A : Type 0} → List A → A → List ℕ → A
at_place cases none values = get_or cases (get_or values 0 0 - 1) none

-- what a wait may hear and take
taken : List Heard
taken = Ack ∷ Echo ∷ Deliver ∷ Route ∷ Answer ∷ []

placed : (h : Heard) → at_place taken Ack (heard_place h ∷ []) ≡ h
unfolding taken at_place
placed Ack = refl
placed Echo = refl
placed Deliver = refl
placed Route = refl
placed Answer = refl

-- two frames of which the same is said are taken as the same, or refused the same
pub same_heard : (r q : Result Heard Refusal) → told_heard r ≡ told_heard q → r ≡ q
same_heard = same_said (λ h. heard_place h ∷ []) (λ x y e. sym (placed x) ∙ ap (at_place taken Ack) e ∙ placed y)

-- what a wait of the exchange may hear and take
replies : List Reply
replies = Discovered ∷ Present ∷ Identified ∷ Assigned ∷ []

replied : (r : Reply) → at_place replies Discovered (reply_place r ∷ []) ≡ r
unfolding replies at_place
replied Discovered = refl
replied Present = refl
replied Identified = refl
replied Assigned = refl

-- and so of replies
pub same_reply : (r q : Result Reply Refusal) → told_reply r ≡ told_reply q → r ≡ q
same_reply = same_said (λ r. reply_place r ∷ []) (λ x y e. sym (replied x) ∙ ap (at_place replies Discovered) e ∙ replied y)
