-- What a step leaves whose frame is written, or finds no room: one law for every transmission and every ACK.
use Prim.Native.Nat.{ℕ, ◌+◌, ◌≤◌}
use mathlib.Core.Path.{◌≡◌, sym, ap, subst, ◌∙◌}
use mathlib.Core.Bool.{Bool, true, false}
use mathlib.Core.List.{List, [], ◌∷◌}
use lib.ListN.{length}
use lib.Dec.{ltb}
use Rattle.ground.specs.Bytes.{laid}
use Rattle.ground.specs.Choose.{choose}
use Rattle.refusal.specs.Refusal.{refuses, gives}
use Rattle.refusal.specs.declared.Refusal.TheVariants.{NoRoom}
use Rattle.frame.specs.declared.Header.{Header}
use Rattle.frame.specs.Frame.{Writing}
use Rattle.std.specs.Prelude.{Ok, Err}
use Rattle.frame.specs.Frame.{frame_of, told_written}
use Rattle.frame.proofs.RoundTrip.{long}
use Rattle.frame.proofs.Told.{same_written}
use Rattle.board.specs.declared.Node.{Node}
use Rattle.board.specs.Table.{at}
use Rattle.setup.specs.declared.Setup.{Setup}
use Rattle.message.specs.Message.{signed, signed_header, signed_frame, ack_code, Sends}
use Rattle.message.proofs.Messages.{signed_size, signed_small, writing_small, written_small}
use Rattle.coordinator.specs.declared.Coordinator.{Coordinator}
use Rattle.steps.specs.declared.Stepped.{Stepped}
use Rattle.steps.specs.After.{After, Shown, shown, shows, leaving, refused, Leaves}

-- what the caller is shown, by what the writing of the frame gave
abbrev pub shown_as : Writing → Coordinator → List Node → After → Shown
shown_as (Ok n) c t a = leaving a.coordinator a.nodes a.says n a.joined a.dropped
shown_as (Err q) c t a = shows (refused c t q)

-- a writing of a frame whose payload is not too long, shown as it came out, leaves a step that has the frame as its bytes, or 11
module _ (h : Header) (p : List ℕ) (small : length p ≤ 240) (c : Coordinator) (t : List Node) (a : After) (frame : a.bytes ≡ frame_of h p) (r : Stepped) (before after : List ℕ) where
  pub leaves_written : (w : Writing) → Sends h p w before after → shown r ≡ shown_as w c t a → Leaves (choose (ltb (length before) (12 + length p)) (refused c t NoRoom) a) r before after
  unfolding choose
  leaves_written w s e = go (ltb (length before) (12 + length p)) (s.0 ∙ writing_small p (length before) small) (s.1 ∙ ap (λ (b : List ℕ). laid b before) (written_small h p (length before) small))
    where
      told_as : (v : Writing) → told_written w ≡ told_written v → shown r ≡ shown_as v c t a
      told_as v k = e ∙ ap (λ (x : Writing). shown_as x c t a) (same_written w v k)

      go : (b : Bool) → told_written w ≡ choose b (refuses NoRoom) (gives ((12 + length p) ∷ [])) → after ≡ laid (choose b [] (frame_of h p)) before → Leaves (choose b (refused c t NoRoom) a) r before after
      go true k l = (told_as (Err NoRoom) k, l)
      go false k l = (told_as (Ok (12 + length p)) k ∙ ap (λ (n : ℕ). leaving a.coordinator a.nodes a.says n a.joined a.dropped) (sym (ap length frame ∙ long h p)), l ∙ ap (λ (b : List ℕ). laid b before) (sym frame))

-- so it is of an ACK, whose frame has 29 bytes
pub leaves_ack_written : (s : Setup) (nodes : List Node) (board version : ℕ) (c : Coordinator) (t : List Node) (a : After) → a.bytes ≡ signed_frame s nodes board version ack_code → (r : Stepped) (before after : List ℕ) (w : Writing) → Sends (signed_header s board version (at nodes board).index) (signed s ack_code) w before after → shown r ≡ shown_as w c t a → Leaves (choose (ltb (length before) 29) (refused c t NoRoom) a) r before after
leaves_ack_written s nodes board version c t a frame r before after w sends e =
    subst (λ (n : ℕ). Leaves (choose (ltb (length before) n) (refused c t NoRoom) a) r before after) (ap (λ (n : ℕ). 12 + n) (signed_size s ack_code))
    (leaves_written (signed_header s board version (at nodes board).index) (signed s ack_code) (signed_small s ack_code) c t a frame r before after w sends e)
