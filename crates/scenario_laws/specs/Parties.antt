-- What both hosts of a scenario take, and their places on RFCOMM.
use Rattle.radio_world.specs.bt_base.specs.declared.settings.Settings.{Settings}
use Rattle.radio_world.specs.push_terms.specs.declared.word.Side.{Side}
use Rattle.radio_world.specs.push_terms.specs.declared.word.Side.TheVariants.{A, B}
use Rattle.host_laws.specs.rfcomm_frames.specs.declared.connection.Role.{Role}
use Rattle.host_laws.specs.rfcomm_frames.specs.declared.connection.Role.TheVariants.{Initiator, Responder}
use Rattle.host_laws.specs.link_talk.specs.declared.party.Party.{Party}
use Rattle.host_laws.specs.push_model.specs.Client.{own_maximum}

-- host a opens the multiplexer (TS 07.10, 5.1.1)
abbrev pub role_of : Side → Role
role_of A = Initiator
role_of B = Responder

-- object push is server channel 9 of RFCOMM, and so user channel 18
abbrev pub party_of : Settings → Side → Party
party_of settings side = record { frame = settings.mps; packet = own_maximum settings.transport settings; role = role_of side; dlci = 18 }
