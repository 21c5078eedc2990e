-- What keeps coordinator and table fit when the coordinator's record changes.
use Prim.Native.Nat.{ℕ}
use native.Mathlib.Omega.{arith}
use mathlib.Core.Path.{◌≡◌, refl}
use mathlib.Core.Bool.{Bool, true, false}
use mathlib.Core.List.{List}
use Rattle.ground.specs.Below.{one}
use Rattle.ground.proofs.Choices.{both}
use Rattle.board.specs.declared.Node.{Node}
use Rattle.board.specs.Table.{listed_at}
use Rattle.board.specs.Wanted.{some_listed}
use Rattle.setup.specs.Fitness.{Position}
use Rattle.coordinator.specs.declared.Part.TheVariants.{Search, IdentifyDue}
use Rattle.coordinator.specs.declared.Phase.{Phase}
use Rattle.coordinator.specs.declared.Kept.{Kept}
use Rattle.coordinator.specs.declared.Found.{Found}
use Rattle.coordinator.specs.declared.Coordinator.{Coordinator}
use Rattle.coordinator.specs.Phase.{phase_of}
use Rattle.coordinator.specs.Fit.{phase_fits, is_found, seek_fits, hold_fits, fits}
use Rattle.coordinator.specs.Change.{with_phase, offered, holding, keeping, searching, finding, ended}
use Rattle.coordinator.proofs.Phases.{Made, resting, offering, seeking, phase_back}
use Rattle.coordinator.proofs.Fitting.{fits_of, fits_forty, fits_setup, fits_table, fits_phase, fits_seek, fits_searched, fits_hold, fits_last, stake_passes, board_listed}

module _ (c : Coordinator) (t : List Node) (h : fits c t ≡ true) where
  -- a phase that a step makes, and that fits by itself
  pub with_phase_fits : {p : Phase} → Made p → phase_fits p t c.kept ≡ true → seek_fits p c.setup.k c.found ≡ true → fits (with_phase c p) t ≡ true
  with_phase_fits {p} m e s = fits_of (with_phase c p) t (fits_forty c t h) (fits_setup c t h) (fits_table c t h) (rw (phase_back m) e) (rw (phase_back m) s) (fits_searched c t h) (fits_hold c t h) (fits_last c t h)

  -- an offer to a listed board
  pub offered_fits : (b : ℕ) → listed_at t b ≡ true → fits (offered c b) t ≡ true
  unfolding phase_fits hold_fits
  offered_fits b l = fits_of (offered c b) t (fits_forty c t h) (fits_setup c t h) (fits_table c t h) (rw (phase_back (offering b)) (both (listed_at t b) true l refl)) (rw (phase_back (offering b)) refl) (omega arith) refl (board_listed c t h b l).up_to

  -- a hold where somebody is listed
  pub holding_fits : (held : Bool) → (held ≡ true → some_listed t ≡ true) → fits (holding c held) t ≡ true
  unfolding hold_fits
  holding_fits held l = fits_of (holding c held) t (fits_forty c t h) (fits_setup c t h) (fits_table c t h) (fits_phase c t h) (fits_seek c t h) (fits_searched c t h) (go held l) (fits_last c t h)
    where
      go : (b : Bool) → (b ≡ true → some_listed t ≡ true) → hold_fits (one b) t ≡ true
      go true s = s refl
      go false s = refl

  -- a message that the phase can do with
  pub keeping_fits : (m : Kept) → phase_fits (phase_of c.stand) t m ≡ true → fits (keeping c m) t ≡ true
  keeping_fits m e = fits_of (keeping c m) t (fits_forty c t h) (fits_setup c t h) (fits_table c t h) e (fits_seek c t h) (fits_searched c t h) (fits_hold c t h) (fits_last c t h)

  -- a discovery that is started, with a position from 1 to k at stake
  pub searching_fits : (p : ℕ) → Position c.setup.k p → fits (searching c p) t ≡ true
  unfolding phase_fits
  searching_fits p here =
      fits_of (searching c p) t (fits_forty c t h) (fits_setup c t h) (fits_table c t h) (rw (phase_back (seeking p Search)) refl) (rw (phase_back (seeking p Search)) (stake_passes c.setup.k p Search c.found here refl)) (omega arith) (fits_hold c t h) (fits_last c t h)

  -- what was discovered, within the ranges
  pub finding_fits : (f : Found) (p : ℕ) → Position c.setup.k p → is_found f ≡ true → fits (finding c f p) t ≡ true
  unfolding phase_fits
  finding_fits f p here e =
      fits_of (finding c f p) t (fits_forty c t h) (fits_setup c t h) (fits_table c t h) (rw (phase_back (seeking p IdentifyDue)) refl) (rw (phase_back (seeking p IdentifyDue)) (stake_passes c.setup.k p IdentifyDue f here e)) (fits_searched c t h) (fits_hold c t h) (fits_last c t h)

  -- an exchange that is over
  pub ended_fits : fits (ended c) t ≡ true
  unfolding phase_fits
  ended_fits = fits_of (ended c) t (fits_forty c t h) (fits_setup c t h) (fits_table c t h) (rw (phase_back resting) refl) (rw (phase_back resting) refl) (fits_searched c t h) (fits_hold c t h) (fits_last c t h)
