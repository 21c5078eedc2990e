-- `stepping::decide` meets its contract: what was seen tells whether coordinator and records are fit; unfit ones are refused, of fit ones all was seen.
use mathlib.Core.Path.{sym, ◌∙◌}
use Rattle.look.proofs.Seeing.{fits_seen_lem, fit_columns, saw}
use Rattle.stepping.proofs.Unfit.{unfit_decided}
use Rattle.stepping.proofs.decide.Goals as goal

pub returns-then-not-fits : goal.returns-then-not-fits
returns-then-not-fits c =
    let args = c.args in
    λ co t s k. unfit_decided co t args.event args.received.now args.out.now (sym (fits_seen_lem s) ∙ sym c.fits.ensures ∙ c.if-not-fits.true) c.refusing.ensures

pub returns : goal.returns
returns c =
    let given = c.fits in
    λ co t s k.
    let fit = sym (fits_seen_lem s) ∙ sym given.ensures ∙ c.if-not-fits.false in
    let cols = fit_columns s fit in
    c.deciding.ensures co t (saw s fit) (k, (cols.kinds, cols.indexes, cols.versions, cols.macs))
