-- The text of a scenario (this project's own).
use Rattle.std.specs.Prelude.{ℕ, Bool, true, false, List, ◌++◌, codes, decimal}
use Rattle.std.specs.List.{flat_map}
use Rattle.bt_base.specs.declared.settings.Settings.{Settings}
use Rattle.bt_base.specs.declared.settings.Transport.{Transport}
use Rattle.bt_base.specs.declared.settings.Transport.TheVariants as transports
use Rattle.bt_base.specs.declared.settings.Serves.{Serves}
use Rattle.bt_base.specs.declared.settings.Serves.TheVariants as services
use Rattle.push_terms.specs.Words.{word_text}
use Rattle.push_terms.specs.declared.word.Word.{Word}
use Rattle.push_script.specs.declared.scenario.Scenario.{Scenario}

abbrev pub transport_text : Transport → List ℕ
transport_text transports.L2cap = codes "l2cap"
transport_text transports.Rfcomm = codes "rfcomm"

abbrev pub serves_text : Serves → List ℕ
serves_text services.Both = codes "both"
serves_text services.L2cap = codes "l2cap"
serves_text services.Rfcomm = codes "rfcomm"

abbrev pub switch_text : Bool → List ℕ
switch_text true = codes "on"
switch_text false = codes "off"

-- a line: a key, a blank and a value
abbrev pub key_line : List ℕ → List ℕ → List ℕ
key_line key value = key ++ codes " " ++ value ++ codes "\n"

-- the lines of the settings and of the controllers, in the order of the table of keys
abbrev pub keys_text : Settings → ℕ → ℕ → ℕ → List ℕ
keys_text settings acl_length acl_count chunk =
    key_line (codes "transport") (transport_text settings.transport)
    ++ key_line (codes "serves") (serves_text settings.serves)
    ++ key_line (codes "acl") (decimal acl_length ++ codes " " ++ decimal acl_count)
    ++ key_line (codes "chunk") (decimal chunk)
    ++ key_line (codes "mtu") (decimal settings.mtu)
    ++ key_line (codes "mps") (decimal settings.mps)
    ++ key_line (codes "window") (decimal settings.window)
    ++ key_line (codes "tries") (decimal settings.tries)
    ++ key_line (codes "credits") (decimal settings.credits)
    ++ key_line (codes "obex") (decimal settings.obex)
    ++ key_line (codes "srm") (switch_text settings.srm)

-- the line of an object
abbrev pub object_line : List ℕ → List ℕ
object_line name = key_line (codes "object") name

-- the line of a run of a word
abbrev pub run_line : ℕ × Word → List ℕ
run_line (count, word) = key_line (decimal count) (word_text word)

-- The one text of a scenario in which nothing is left out: all keys, the objects in order, the line `radio` and the
-- runs in order.
abbrev pub scenario_text : Scenario → List ℕ
scenario_text scenario =
    keys_text scenario.settings scenario.acl_length scenario.acl_count scenario.chunk
    ++ flat_map object_line scenario.names
    ++ codes "radio\n"
    ++ flat_map run_line scenario.script
