use Rattle.clap.specs.Words.{app_of}
use Rattle.command_words.proofs.Finding.{answered}
use Rattle.command_words.proofs.reading.form_of.Goals as goal

pub returns-in-Ok-try_get_matches_from : goal.returns-in-Ok-try_get_matches_from
returns-in-Ok-try_get_matches_from c = answered (app_of c.in-Ok.command) _ c.in-Ok-try_get_matches_from.found _ c.in-Ok.ensures c.in-Ok-try_get_matches_from.ensures.kinds c.in-Ok-try_get_matches_from.ensures.matches c.form_found.ensures
