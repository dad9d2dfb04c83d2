-- A multiplexer with its parts.
use Rattle.std.specs.Prelude.{◌≤◌, ◌<◌, ◌≡◌}
use Rattle.rfcomm_model.specs.Machine.{Mux}
use Rattle.rfcomm_mux.specs.declared.mux.Mux.TheInside.{Inside}

abbrev pub machine_of : Inside → Mux
machine_of m = record {
  role = m.answers.role;
  dlci = m.dlci;
  largest = m.pending.largest;
  own = m.own;
  frame = m.frame;
  agreed = m.agreed;
  stated = m.stated;
  control = m.control;
  user = m.user;
  asks = m.asks;
  ready = m.ready;
  account = m.account;
  answers = m.answers.frames;
  waiting = m.pending.octets;
  closed = m.closed;
}

-- numbers are in the ranges that they were made with
pub record IsSound (m : Inside) : Type 0 where
  pub channel : 0 < m.dlci
  pub channels : m.dlci < 64
  pub agreed : m.frame ≤ m.own
  pub own : m.own ≤ m.pending.largest
  pub largest : m.pending.largest ≤ 32761
  pub credit : 1 ≤ m.cap
  pub credits : m.cap ≤ 40
  pub cap : m.cap ≡ m.account.cap
