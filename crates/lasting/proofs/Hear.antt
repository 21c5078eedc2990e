-- A board that is heard stays listed, with the others.
use Prim.Native.Nat.{ℕ}
use mathlib.Core.Path.{◌≡◌, refl}
use mathlib.Core.Bool.{Bool, true, false}
use mathlib.Core.List.{List}
use lib.Dec.{eqb}
use Rattle.ground.specs.Choose.{choose}
use Rattle.ground.proofs.Choices.{and_left}
use Rattle.board.specs.declared.Node.{Node}
use Rattle.board.specs.declared.Wanted.TheVariants.{Mac}
use Rattle.board.specs.Table.{at, put, listed_at}
use Rattle.board.specs.Wanted.{wanted_at}
use Rattle.board.specs.Change.{heard, renewed, owe_all}
use Rattle.coordinator.specs.declared.Coordinator.{Coordinator}
use Rattle.coordinator.specs.Fit.{fits}
use Rattle.coordinator.proofs.Fitting.{listed_told}
use Rattle.steps.specs.Hear.{hear, hear_mac}
use Rattle.steps.specs.Receive.{hear_ack}
use Rattle.lasting.proofs.Tables.{heard_follows, renewed_follows}
use Rattle.lasting.proofs.Keeps.{Stays, put_stays, owe_stays, table_fit}

module _ (c : Coordinator) (t : List Node) (h : fits c t ≡ true) where
  -- a table stays as it is
  pub same_stays : Stays c.setup.k t t
  same_stays = record { fit = table_fit c t h; listed = λ p. refl }

  module _ (b : ℕ) (l : listed_at t b ≡ true) where
    pub hear_stays : Stays c.setup.k t (hear t b)
    hear_stays = put_stays c.setup.k t (table_fit c t h) b (heard (at t b)) (listed_told t b l) (heard_follows (at t b)) refl

    -- with the session of its ACK
    pub hear_ack_stays : (session : ℕ) → Stays c.setup.k t (hear_ack t b session)
    unfolding choose
    hear_ack_stays session = go (eqb session (at t b).session)
      where
        go : (s : Bool) → Stays c.setup.k t (choose s (hear t b) (owe_all (put t b (renewed (heard (at t b)) session))))
        go true = hear_stays
        go false = owe_stays c.setup.k t (put t b (renewed (heard (at t b)) session)) (put_stays c.setup.k t (table_fit c t h) b (renewed (heard (at t b)) session) (listed_told t b l) (renewed_follows (at t b) session) refl)

  -- a position at stake where the MAC is the record's, or nobody is heard
  pub hear_mac_stays : (p mac : ℕ) → Stays c.setup.k t (hear_mac t p mac)
  unfolding choose
  hear_mac_stays p mac = go (wanted_at (Mac mac) t p) refl
    where
      go : (b : Bool) → wanted_at (Mac mac) t p ≡ b → Stays c.setup.k t (choose b (hear t p) t)
      go true e = hear_stays p (and_left (listed_at t p) (eqb (at t p).mac mac) e)
      go false e = same_stays
