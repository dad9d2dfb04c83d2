use Rattle.unmarked_laws.proofs.Without.{own_servers_spell_none}
use Rattle.unmarked_laws.proofs.own_servers_spell_none.Goals as goal

pub returns : goal.returns
returns c = own_servers_spell_none
