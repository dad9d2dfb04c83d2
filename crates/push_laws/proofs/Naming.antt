-- Over RFCOMM a client whose answer names no other channel than the server's is there, wherever it is on the channel of its object.
use Rattle.std.proofs.Common.{◌≡◌, ℕ, List, [], ◌∷◌, ◌++◌, Some, refl, sym, ap, subst, ◌∙◌}
use Rattle.std.specs.List.{AllByRecursion}
use Rattle.link_talk.specs.bt_base.specs.declared.settings.Transport.{Transport}
use Rattle.link_talk.specs.bt_base.specs.declared.settings.Transport.TheVariants.{Rfcomm}
use Rattle.push_model.specs.sdp_elements.specs.declared.target.Target.{Target}
use Rattle.push_model.specs.Client.{Client, with_object}
use Rattle.push_model.specs.Laws.{done}
use Rattle.push_model.specs.Server.{server_channel}
use Rattle.push_model.specs.Shown.{way_of}
use Rattle.push_laws.specs.Carriage.{IsThere, StaysThere}
use Rattle.push_laws.specs.Dialogs.{NameServer}
use Rattle.push_laws.specs.Opening.{targets_by, targets_heard}
use Rattle.push_laws.specs.Parties.{Move, OfServer, OfClient, client_side}
use Rattle.push_laws.proofs.Opening.{Walk, course_of, psm_over, Stands, behind_deed, deed_stands, opened_at}

-- each server channel that they name is the server's
abbrev pub NamesNoOther : Target → Type 0
NamesNoOther target = (number : ℕ) → way_of Rfcomm target ≡ Some number → number ≡ server_channel

abbrev pub NameNoOther : List Target → Type 0
NameNoOther targets = AllByRecursion NamesNoOther targets

same_number : (a b : ℕ) → Some a ≡ Some b → a ≡ b
same_number a b e = cc

pub no_other : (targets : List Target) → NameServer targets → NameNoOther targets
no_other [] n = tt
no_other (target ∷ targets) n = ((λ number is. same_number number server_channel (sym is ∙ n.0)), no_other targets n.1)

names_front : (a b : List Target) → NameNoOther (a ++ b) → NameNoOther a
names_front [] b n = tt
names_front (x ∷ a) b n = (n.0, names_front a b n.1)

names_rest : (a b : List Target) → NameNoOther (a ++ b) → NameNoOther b
names_rest [] b n = n
names_rest (x ∷ a) b n = names_rest a b n.1

names_more : (a b : List Target) → NameNoOther a → NameNoOther b → NameNoOther (a ++ b)
names_more [] b n m = m
names_more (x ∷ a) b n m = (n.0, names_more a b n.1 m)

named_there : (w : Walk) (client : Client) → w.transport ≡ Rfcomm → NameNoOther w.targets → Stands w client → IsThere client
named_there w client muxed names s = λ works.
    let has = opened_at w client.stage (course_of client) works s in
    let n = has.names in
    let all : NameNoOther (n.target ∷ []) = subst NameNoOther n.only names in
    let number : n.number ≡ server_channel = all.0 n.number (ap (λ (t : Transport). way_of t n.target) (sym muxed) ∙ n.named) in
    (n.psm_is ∙ ap (λ (t : Transport). psm_over t n.number) muxed, n.channel_is muxed ∙ number)

moves_there : (moves : List Move) (w : Walk) (client : Client) → w.transport ≡ Rfcomm → NameNoOther w.targets → NameNoOther (targets_heard (client_side moves) client) → Stands w client → StaysThere moves client
moves_there [] w client muxed before names s = tt
moves_there (OfServer one ∷ moves) w client muxed before names s = (named_there w client muxed before s, moves_there moves w client muxed before names s)
moves_there (OfClient deed ∷ moves) w client muxed before names s =
    let after : Client = done deed client in
    let w' : Walk = behind_deed w deed client in
    let so : NameNoOther (w.targets ++ targets_by deed client) = names_more w.targets (targets_by deed client) before (names_front (targets_by deed client) (targets_heard (client_side moves) after) names) in
    let s' = deed_stands w deed client s in
    (named_there w' after muxed so s', moves_there moves w' after muxed so (names_rest (targets_by deed client) (targets_heard (client_side moves) after) names) s')

pub stays_there : (client : Client) (name : List ℕ) (size : ℕ) (moves : List Move) → client.transport ≡ Rfcomm → NameNoOther (targets_heard (client_side moves) (with_object name size client)) → StaysThere moves (with_object name size client)
stays_there client name size moves muxed names =
    moves_there moves (record { transport = client.transport; targets = []; taken = [] }) (with_object name size client) muxed tt names (record { same = refl; none = refl; is = refl })
