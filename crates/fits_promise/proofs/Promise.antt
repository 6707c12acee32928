-- A program that fits a typed text as a whole is right for it.
use Rattle.std.proofs.Common.{refl}
use Rattle.rule_table.specs.Library.{library}
use Rattle.fits.specs.Follow.{Views}
use Rattle.fits_shape.specs.Trees.{NamesOperations}
use Rattle.fits_shape.proofs.Shapes.{have_shape}
use Rattle.fits_table.proofs.Named.{tables_name}
use Rattle.fits_text.specs.FitsText.{FitsText, text_views}
use Rattle.fits_text.proofs.Served.{looks}
use Rattle.fits_text.proofs.Texts as texts
use Rattle.fits_promise.specs.Promise.{FitsTyped, flat_of, IsFormed, HasItsShape, HasItsSides, IsSound, IsBounded}
use Rattle.fits_promise.proofs.Only.{has_only}

module _ (x : FitsTyped) where
  abbrev views : Views
  views = text_views (flat_of x) x.program.procs

  -- what is looked at is the table
  names : NamesOperations views
  names =
      let table = looks (flat_of x) x.program.procs in
      tables_name views (record { rows = λ op xs made row e. (table.rows op xs made row e).0; named = table.named })

  pub formed : IsFormed x
  formed = x.fits.stands.formed

  pub shape : HasItsShape x
  shape = have_shape.shape library views (flat_of x) x.program x.lines names refl x.fits

  pub made : HasItsSides x
  made side takes = have_shape.made side library views (flat_of x) x.program x.lines names refl x.fits takes

  -- each call finds its procedure, and what has a name of the library's is the library's
  abbrev fitted : FitsText
  fitted = record {
    text = x.text;
    spec = x.spec;
    withs = x.withs;
    reads = x.reads;
    flat = x.flat;
    flat_is = x.flat_is;
    program = x.program;
    ins = x.fits.stands.ins;
    outs = x.fits.stands.outs;
    closed = x.fits.stands.formed.calls;
    only = has_only (flat_of x) x.program x.fits.stands;
    lines = x.lines;
    last = x.fits.last;
    fits = x.fits.followed;
  }

  pub sound : IsSound x
  sound = texts.sound fitted

  pub bounded : IsBounded x
  bounded = texts.bounded fitted
