-- The names of commands and events (Core 5.1, Volume 2 Part E, 7).
use Rattle.std.specs.Prelude.{ℕ, List, cond, ◌==◌, codes}

-- the name of the command of that opcode, or `Other`
abbrev pub command_name : ℕ → List ℕ
command_name opcode =
    cond (opcode == 0x0405) (codes "CreateConnection") (
    cond (opcode == 0x0406) (codes "Disconnect") (
    cond (opcode == 0x0409) (codes "AcceptConnection") (
    cond (opcode == 0x0C03) (codes "Reset") (
    cond (opcode == 0x0C1A) (codes "WriteScanEnable") (
    cond (opcode == 0x1005) (codes "ReadBufferSize") (
    cond (opcode == 0x1009) (codes "ReadBdAddr") (
    codes "Other")))))))

-- the name of the event of that code, or `Other`
abbrev pub event_name : ℕ → List ℕ
event_name code =
    cond (code == 0x03) (codes "ConnectionComplete") (
    cond (code == 0x04) (codes "ConnectionRequest") (
    cond (code == 0x05) (codes "DisconnectionComplete") (
    cond (code == 0x0E) (codes "CommandComplete") (
    cond (code == 0x0F) (codes "CommandStatus") (
    cond (code == 0x13) (codes "CompletedPackets") (
    codes "Other"))))))
