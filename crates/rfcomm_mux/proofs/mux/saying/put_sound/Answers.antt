use Rattle.rfcomm_mux.proofs.mux.saying.put_sound.Goals as goal

pub put_frame-requires-clause-fits : goal.put_frame-requires-clause-fits
put_frame-requires-clause-fits c =
    record {
      dlci_fits = c.requires.fits.dlci;
      granting = c.requires.fits.granting;
      credits_fit = c.fits.ensures;
      are_octets = c.are_octets.ensures;
      alone = c.requires.fits.alone;
    }
