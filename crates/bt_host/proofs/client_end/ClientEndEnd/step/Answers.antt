use Rattle.std.proofs.Common.{refl}
use Rattle.bt_host.proofs.ClientsCalls.{stepped_does, stepped_sound}
use Rattle.bt_host.proofs.client_end.ClientEndEnd.step.Goals as goal

pub returns-in_default : goal.returns-in_default
returns-in_default g c = record {
  does =
      stepped_does g.F.Shelf.content g.F.Shelf.faults g.F.Shelf.shortages _ c.args.self.now _ c.take.new.self c.advance.new.self c.advance.result _ c.take.result c.args.channels.now.channels c.take.new.channels.channels c.args.port.now c.advance.new.shelf
      c.self.view_is refl c.requires.sound c.advance.ensures.comes c.advance.ensures.fails c.in_default.not-NoMemory c.advance.ensures.content c.take.ensures.strides;
  channels = c.take.ensures.channels;
  sound = stepped_sound _ c.args.self.now _ c.take.new.self c.advance.new.self c.advance.result _ c.take.result c.args.channels.now.channels c.take.new.channels.channels
      c.self.view_is refl c.requires.sound c.advance.ensures.comes c.advance.ensures.fails c.in_default.not-NoMemory c.take.ensures.strides c.take.ensures.endpoints;
  lacked = tt;
}
