-- What comes up, apart from where its octets lie in memory.
use Rattle.rfcomm_model.specs.Hearing.{Up, nothing, opened, bytes, closed}
use Rattle.rfcomm_mux.specs.declared.mux.hearing.MuxUp.{MuxUp}
use Rattle.rfcomm_mux.specs.declared.mux.hearing.MuxUp.TheVariants.{Nothing, Opened, Bytes, Closed}

abbrev pub up_of : MuxUp → Up
up_of Nothing = nothing
up_of Opened = opened
up_of (Bytes octets) = bytes octets.now
up_of (Closed reason) = closed reason
