-- A server whose link went down is as a new one (this project's own).
use Rattle.std.specs.Prelude.{◌≡◌, List, [], ◌∷◌, ◌++◌, Some, None}
use Rattle.request_laws.specs.bt_base.specs.declared.settings.Settings.{Settings}
use Rattle.request_laws.specs.bt_base.specs.Objects.{Object}
use Rattle.request_laws.specs.push_model.specs.Server.{Reacted, new_server}
use Rattle.request_laws.specs.push_laws.specs.Gains.{objects}
use Rattle.request_laws.specs.push_laws.specs.Laws.{new_over}
use Rattle.request_laws.specs.push_laws.specs.Occurrences.{Occurrence, LinkDown, all_done}
use Rattle.request_laws.specs.push_laws.specs.Premises.{AllGranted, AllMayCome}

-- it is the server that was made, over an inbox that stored these, has no object under way, and grants all that it is still to be asked
pub record IsAsNew (settings : Settings) (stored : List Object) (at : Reacted) : Type 0 where
  pub server_is : at.server ≡ new_server settings
  pub content_is : at.gift.content ≡ Some (record { stored = stored; pending = None })
  pub granted : AllGranted at.gift.answers

-- So it is behind the end of a link, where all that came before may come; and its inbox stored what was spelled.
abbrev pub LinksEndAsNew : Type 0
LinksEndAsNew = (settings : Settings) (before : List Object) (list : List Occurrence) → AllMayCome settings [] (new_over settings before) (list ++ LinkDown ∷ [])
    → IsAsNew settings (before ++ objects settings (list ++ LinkDown ∷ [])) (all_done (list ++ LinkDown ∷ []) (new_over settings before))
