-- The codes of requests and responses (IrOBEX 1.5, 3.3 and 3.2.1).
use Rattle.std.specs.Prelude.{ℕ, ◌==◌, if◌then◌else◌}
use Rattle.obex_headers.specs.declared.codes.Code.{Code}
use Rattle.obex_headers.specs.declared.codes.Code.TheVariants.{Connect, Disconnect, Put, FinalPut, Get, FinalGet, SetPath, Abort, Continue, Success, BadRequest, TooLarge, InternalError, NotImplemented, Other}

abbrev pub octet_of : Code → ℕ
octet_of Connect = 0x80
octet_of Disconnect = 0x81
octet_of Put = 0x02
octet_of FinalPut = 0x82
octet_of Get = 0x03
octet_of FinalGet = 0x83
octet_of SetPath = 0x85
octet_of Abort = 0xFF
octet_of Continue = 0x90
octet_of Success = 0xA0
octet_of BadRequest = 0xC0
octet_of TooLarge = 0xCD
octet_of InternalError = 0xD0
octet_of NotImplemented = 0xD1
octet_of (Other octet) = octet

-- the code that an octet is
abbrev pub code_of : ℕ → Code
code_of octet =
    if octet == 0x80 then Connect
    else if octet == 0x81 then Disconnect
    else if octet == 0x02 then Put
    else if octet == 0x82 then FinalPut
    else if octet == 0x03 then Get
    else if octet == 0x83 then FinalGet
    else if octet == 0x85 then SetPath
    else if octet == 0xFF then Abort
    else if octet == 0x90 then Continue
    else if octet == 0xA0 then Success
    else if octet == 0xC0 then BadRequest
    else if octet == 0xCD then TooLarge
    else if octet == 0xD0 then InternalError
    else if octet == 0xD1 then NotImplemented
    else Other octet
